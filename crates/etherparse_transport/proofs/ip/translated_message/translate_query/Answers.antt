use Rattle.std.proofs.Common.{◌≡◌, ◌≢◌, ◌+◌, ◌%◌, ◌≤◌, if◌then◌else◌, nat_le, true, List, ℕ, length, refl, sym, ap, ◌∙◌, arith}
use Rattle.std.proofs.lemmas.Bool.Decides.{nat_tests}
use Rattle.net_base.specs.StoredChecksum.{with_checksum}
use Rattle.word_sum.specs.Checksum.{total}
use Rattle.word_sum.specs.ChecksumChange.{TurnsInto, added_value, removed_value}
use Rattle.etherparse_transport.specs.Translations.{number, rest_of_message, with_number}
use Rattle.etherparse_transport.proofs.TranslationReading.{number_len}
use Rattle.etherparse_transport.proofs.TranslationSums.{both_accepted, number_before, stored_number_total, sum_some, turns_shifted}
use Rattle.etherparse_transport.proofs.ip.translated_message.translate_query.Goals as goal

pub returns-clause-verifies : goal.returns-clause-verifies
returns-clause-verifies c = λ before after turns some.
    let message : List ℕ = c.args.message.now in
    let long : 6 ≤ length message = c.requires.there in
    let new : ℕ = c.unwrap_or-new.result in
    let checksum : ℕ = c.query_checksum-checksum.result in
    let between : List ℕ = c.replace_number-change.new.message in
    let translated : List ℕ = c.replace_number.new.message in
    let between_is : between ≡ with_number 4 new message = c.replace_number-change.ensures.replaced in
    let len : length between ≡ length message = ap length between_is ∙ number_len 4 new message in
    let same : number 2 between ≡ number 2 message = ap (number 2) between_is ∙ number_before 4 new 2 message (omega arith) in
    let without : ℕ = total (with_checksum 2 message 0) in
    let without_too : ℕ = total (with_checksum 2 between 0) in
    let was : without + number 2 message ≡ total message + 0 = stored_number_total 2 0 message refl (omega arith) (omega (arith, long)) in
    let is : without_too + number 2 between ≡ total between + 0 =
    stored_number_total 2 0 between refl (omega arith) (omega (arith, long, len)) in
    let replaced : total between + number 4 message ≡ total message + new = c.replace_number-change.ensures.total long in
    let stored : total translated + number 2 between ≡ total between + checksum =
    c.replace_number.ensures.total (omega (arith, long, len)) in
    let old_is : total c.to_be_bytes.result ≡ number 4 message = omega (arith, ap total c.to_be_bytes.ensures, c.number-old.ensures) in
    let new_is : total c.to_be_bytes-2.result ≡ new = omega (arith, ap total c.to_be_bytes-2.ensures) in
    let shifted : TurnsInto c.args.covered (before + without) (after + without) =
    turns_shifted before (added_value c.args.covered) after (removed_value c.args.covered) without turns in
    let turned : TurnsInto c.replace_2bytes-covered.result (before + without) (after + without_too) =
    c.replace_2bytes-covered.ensures.extends (before + without) (after + without) (after + without_too)
    (omega (arith, was, is, same, replaced, old_is, new_is)) shifted in
    let remainder = c.apply-checksum.ensures.remainder (before + without) (after + without_too) turned in
    let sum : before + without + c.number.result ≡ before + total message = omega (arith, was, c.number.ensures) in
    let sum_too : after + total translated ≡ after + without_too + checksum = omega (arith, is, stored) in
    let there : nat_le 4 (length between) ≡ true = grind (arith, nat_tests) in
    let rest_is : rest_of_message between ≡ without_too = ap (λ b. total (if b then with_checksum 2 between 0 else between)) there in
    let parts : total translated ≡ without_too + checksum = omega (arith, is, stored) in
    let some_translated : total translated ≢ 0 = λ none.
    sum_some without_too checksum (λ zero. c.query_checksum-checksum.ensures.some (rest_is ∙ zero)) (sym parts ∙ none) in
    both_accepted (before + total message) (after + total translated)
    (ap (λ n. n % 65535) sum_too ∙ omega (arith, remainder, c.query_checksum-checksum.ensures.remainder) ∙ ap (λ n. n % 65535) sum)
    some (λ none. some_translated (omega (arith, none)))
