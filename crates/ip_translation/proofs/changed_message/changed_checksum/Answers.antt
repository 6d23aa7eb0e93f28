use Rattle.std.proofs.Common.{◌≡◌, ◌+◌, ◌-◌, ◌%◌, List, [], ◌∷◌, ℕ, drop, length, slice_index, take, ap, ap₂, ◌∙◌, arith}
use Rattle.word_sum.specs.Checksum.{folded, total}
use Rattle.word_sum.specs.ChecksumChange.{added_value, removed_value}
use Rattle.word_sum.specs.UpdatedChecksum.{updated_checksum_of}
use Rattle.word_sum.proofs.ChecksumLemmas.{folded_twice}
use Rattle.ip_translation.specs.EchoMessages as specs
use Rattle.ip_translation.proofs.EchoLemmas as echo
use Rattle.ip_translation.proofs.ErrorLemmas.{rest_from}
use Rattle.ip_translation.proofs.changed_message.changed_checksum.Goals as goal

pub returns-clause-checksum : goal.returns-clause-checksum
returns-clause-checksum c =
    let message : List ℕ = c.args.message.now in
    let changed : List ℕ = c.args.changed.now in
    let before : ℕ = total c.args.old.now in
    let after : ℕ = total c.args.new.now in
    let word : ℕ = total (slice_index message 0 ∷ (slice_index message 1 ∷ [])) in
    let new_word : ℕ = total (slice_index changed 0 ∷ (slice_index changed 1 ∷ [])) in
    let rest : ℕ = total (take (length message - 4) (drop 4 message)) in
    let new_rest : ℕ = total (take (length changed - 4) (drop 4 changed)) in
    let old : ℕ = specs.total_without_checksum message + before in
    let new : ℕ = specs.total_without_checksum changed + after in
    let removed : removed_value c.replace_slice-2.result ≡ folded old =
    c.replace_slice-2.ensures.removed
    ∙ ap (λ n. folded (n + before)) (
    c.replace_slice.ensures.removed
    ∙ ap (λ n. folded (n + rest)) (c.replace_2bytes.ensures.removed ∙ ap (λ n. folded (n + word)) c.new.ensures.removed)
    ∙ folded_twice 0 word rest)
    ∙ folded_twice 0 (word + rest) before ∙ ap folded (omega (arith, ap total (rest_from 4 message))) in
    let added : added_value c.replace_slice-2.result ≡ folded new =
    c.replace_slice-2.ensures.added
    ∙ ap (λ n. folded (n + after)) (
    c.replace_slice.ensures.added
    ∙ ap (λ n. folded (n + new_rest)) (c.replace_2bytes.ensures.added ∙ ap (λ n. folded (n + new_word)) c.new.ensures.added)
    ∙ folded_twice 0 new_word new_rest)
    ∙ folded_twice 0 (new_word + new_rest) after ∙ ap folded (omega (arith, ap total (rest_from 4 changed))) in
    c.apply.ensures.equation
    ∙ ap₂ (λ removed added. updated_checksum_of c.number-checksum.result removed added) removed added
    ∙ ap (λ checksum. updated_checksum_of checksum (folded old) (folded new)) c.number-checksum.ensures

pub returns-clause-remainder : goal.returns-clause-remainder
returns-clause-remainder c =
    let message : List ℕ = c.args.message.now in
    let changed : List ℕ = c.args.changed.now in
    let before : ℕ = total c.args.old.now in
    let after : ℕ = total c.args.new.now in
    let word : ℕ = total (slice_index message 0 ∷ (slice_index message 1 ∷ [])) in
    let new_word : ℕ = total (slice_index changed 0 ∷ (slice_index changed 1 ∷ [])) in
    let rest : ℕ = total (take (length message - 4) (drop 4 message)) in
    let new_rest : ℕ = total (take (length changed - 4) (drop 4 changed)) in
    let old : ℕ = specs.total_without_checksum message + before in
    let new : ℕ = specs.total_without_checksum changed + after in
    let removed : removed_value c.replace_slice-2.result ≡ folded old =
    c.replace_slice-2.ensures.removed
    ∙ ap (λ n. folded (n + before)) (
    c.replace_slice.ensures.removed
    ∙ ap (λ n. folded (n + rest)) (c.replace_2bytes.ensures.removed ∙ ap (λ n. folded (n + word)) c.new.ensures.removed)
    ∙ folded_twice 0 word rest)
    ∙ folded_twice 0 (word + rest) before ∙ ap folded (omega (arith, ap total (rest_from 4 message))) in
    let added : added_value c.replace_slice-2.result ≡ folded new =
    c.replace_slice-2.ensures.added
    ∙ ap (λ n. folded (n + after)) (
    c.replace_slice.ensures.added
    ∙ ap (λ n. folded (n + new_rest)) (c.replace_2bytes.ensures.added ∙ ap (λ n. folded (n + new_word)) c.new.ensures.added)
    ∙ folded_twice 0 new_word new_rest)
    ∙ folded_twice 0 (new_word + new_rest) after ∙ ap folded (omega (arith, ap total (rest_from 4 changed))) in
    let remainder = c.apply.ensures.remainder (old + 0) (new + 0) (echo.turns c.replace_slice-2.result old new 0 removed added) in
    let together : new + c.apply.result ≡ new + 0 + c.apply.result = omega arith in
    let apart : old + 0 + c.number-checksum.result ≡ old + c.number-checksum.result = omega arith in
    ap (λ n. n % 65535) together ∙ remainder ∙ ap (λ n. n % 65535) apart
    ∙ ap (λ checksum. (old + checksum) % 65535) c.number-checksum.ensures
