use Rattle.std.proofs.Common.{◌≡◌, ◌+◌, ◌*◌, ◌%◌, List, [], ◌∷◌, ℕ, slice_index, ap, ap₂, ◌∙◌, arith}
use Rattle.word_sum.specs.Checksum.{folded, total}
use Rattle.word_sum.specs.ChecksumChange.{added_value, removed_value}
use Rattle.word_sum.specs.UpdatedChecksum.{updated_checksum_of}
use Rattle.word_sum.proofs.ChecksumLemmas.{folded_twice}
use Rattle.ip_translation.specs.EchoMessages as specs
use Rattle.ip_translation.proofs.EchoLemmas as echo
use Rattle.ip_translation.proofs.echo_translation.updated_checksum.Goals as goal

pub returns-clause-checksum : goal.returns-clause-checksum
returns-clause-checksum c =
    let message : List ℕ = c.args.message.now in
    let code : ℕ = slice_index message 1 in
    let word : ℕ = total (slice_index message 0 ∷ (code ∷ [])) in
    let new_word : ℕ = total (c.args.type_u8 ∷ (code ∷ [])) in
    let before : ℕ = total c.args.old.now in
    let after : ℕ = total c.args.new.now in
    let old : ℕ = specs.type_and_code message + before in
    let new : ℕ = c.args.type_u8 * 256 + code + after in
    let removed : removed_value c.replace_slice.result ≡ folded old =
    c.replace_slice.ensures.removed
    ∙ ap (λ n. folded (n + before)) (c.replace_2bytes.ensures.removed ∙ ap (λ n. folded (n + word)) c.new.ensures.removed)
    ∙ folded_twice 0 word before ∙ ap folded (omega arith) in
    let added : added_value c.replace_slice.result ≡ folded new =
    c.replace_slice.ensures.added
    ∙ ap (λ n. folded (n + after)) (c.replace_2bytes.ensures.added ∙ ap (λ n. folded (n + new_word)) c.new.ensures.added)
    ∙ folded_twice 0 new_word after ∙ ap folded (omega arith) in
    c.apply.ensures.equation
    ∙ ap₂ (λ removed added. updated_checksum_of c.number.result removed added) removed added
    ∙ ap (λ checksum. updated_checksum_of checksum (folded old) (folded new)) c.number.ensures

pub returns-clause-remainder : goal.returns-clause-remainder
returns-clause-remainder c = λ rest.
    let message : List ℕ = c.args.message.now in
    let code : ℕ = slice_index message 1 in
    let word : ℕ = total (slice_index message 0 ∷ (code ∷ [])) in
    let new_word : ℕ = total (c.args.type_u8 ∷ (code ∷ [])) in
    let before : ℕ = total c.args.old.now in
    let after : ℕ = total c.args.new.now in
    let old : ℕ = specs.type_and_code message + before in
    let new : ℕ = c.args.type_u8 * 256 + code + after in
    let removed : removed_value c.replace_slice.result ≡ folded old =
    c.replace_slice.ensures.removed
    ∙ ap (λ n. folded (n + before)) (c.replace_2bytes.ensures.removed ∙ ap (λ n. folded (n + word)) c.new.ensures.removed)
    ∙ folded_twice 0 word before ∙ ap folded (omega arith) in
    let added : added_value c.replace_slice.result ≡ folded new =
    c.replace_slice.ensures.added
    ∙ ap (λ n. folded (n + after)) (c.replace_2bytes.ensures.added ∙ ap (λ n. folded (n + new_word)) c.new.ensures.added)
    ∙ folded_twice 0 new_word after ∙ ap folded (omega arith) in
    let remainder = c.apply.ensures.remainder (old + rest) (new + rest) (echo.turns c.replace_slice.result old new rest removed added) in
    let together : after + (c.args.type_u8 * 256 + code + rest + c.apply.result) ≡ new + rest + c.apply.result = omega arith in
    let apart : old + rest + c.number.result ≡ before + (specs.type_and_code message + rest + c.number.result) = omega arith in
    ap (λ n. n % 65535) together ∙ remainder ∙ ap (λ n. n % 65535) apart
    ∙ ap (λ checksum. (before + (specs.type_and_code message + rest + checksum)) % 65535) c.number.ensures
