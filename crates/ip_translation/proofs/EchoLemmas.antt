-- A receiver accepts a translated echo message exactly if it accepts the echo message.
use Rattle.std.proofs.Common.{◌≡◌, ◌≢◌, ◌⊎◌, ℕ, ◌+◌, ◌*◌, ◌%◌, ◌<◌, ◌≤◌, List, [], ◌∷◌, length, drop, slice_index, inl, inr, sym, ap, ◌∙◌, arith}
use Rattle.std.specs.Prelude.{◌↔◌}
use Rattle.net_base.specs.StoredChecksum.{with_checksum}
use Rattle.word_sum.specs.Checksum.{IsAllOnes, folded, total}
use Rattle.word_sum.specs.ChecksumChange.{TurnsInto, added_value, removed_value}
use Rattle.word_sum.specs.declared.checksum_change.ChecksumChange.{ChecksumChange}
use Rattle.word_sum.proofs.ChecksumLemmas.{folded-add}
use Rattle.word_sum.proofs.ChecksumChangeLemmas.{folded_all_ones_iff}
use Rattle.ip_translation.specs.EchoMessages.{icmp_checksum, total_without_checksum, type_and_code, with_type}

-- two sums that leave the same remainder are both all ones or both not, unless one is 0
pub both_accepted : (was is : ℕ) → is % 65535 ≡ was % 65535 → was ≢ 0 → is ≢ 0 → (IsAllOnes is) ↔ (IsAllOnes was)
both_accepted was is remainder some some_too =
    let now = folded_all_ones_iff is in
    let then_was = folded_all_ones_iff was in (
      λ ones. then_was.1 (sym remainder ∙ (now.0 ones).0, some),
      λ ones. now.1 (remainder ∙ (then_was.0 ones).0, some_too),
    )

-- the sum of a message by its first word and its checksum
pub message_total : (message : List ℕ) → 4 ≤ length message
    → total message ≡ type_and_code message + total (drop 4 message) + icmp_checksum message
message_total (a ∷ (b ∷ (c ∷ (d ∷ rest)))) there = omega arith
message_total [] there = absurd (omega (arith, there))
message_total (a ∷ []) there = absurd (omega (arith, there))
message_total (a ∷ (b ∷ [])) there = absurd (omega (arith, there))
message_total (a ∷ (b ∷ (c ∷ []))) there = absurd (omega (arith, there))

-- the sum of the message with another type and another checksum
pub translated_total : (message : List ℕ) (type checksum : ℕ) → 4 ≤ length message → checksum < 65536
    → total (with_checksum 2 (with_type type message) checksum) ≡ type * 256 + slice_index message 1 + total (drop 4 message) + checksum
translated_total (a ∷ (b ∷ (c ∷ (d ∷ rest)))) type checksum there small = omega (arith, small)
translated_total [] type checksum there small = absurd (omega (arith, there))
translated_total (a ∷ []) type checksum there small = absurd (omega (arith, there))
translated_total (a ∷ (b ∷ [])) type checksum there small = absurd (omega (arith, there))
translated_total (a ∷ (b ∷ (c ∷ []))) type checksum there small = absurd (omega (arith, there))

-- the sum of the message with another checksum
pub stored_total : (message : List ℕ) (checksum : ℕ) → 4 ≤ length message → checksum < 65536
    → total (with_checksum 2 message checksum) ≡ total_without_checksum message + checksum
stored_total (a ∷ (b ∷ (c ∷ (d ∷ rest)))) checksum there small = omega (arith, small)
stored_total [] checksum there small = absurd (omega (arith, there))
stored_total (a ∷ []) checksum there small = absurd (omega (arith, there))
stored_total (a ∷ (b ∷ [])) checksum there small = absurd (omega (arith, there))
stored_total (a ∷ (b ∷ (c ∷ []))) checksum there small = absurd (omega (arith, there))

add_last : (a b : ℕ) → folded (a + folded b) ≡ folded (a + b)
add_last a b = ap folded (omega arith) ∙ folded-add b a ∙ ap folded (omega arith)

-- a change of these sums turns any message with the old sum into the message with the new sum
pub turns : (change : ChecksumChange) (old new rest : ℕ) → removed_value change ≡ folded old → added_value change ≡ folded new
    → TurnsInto change (old + rest) (new + rest)
turns change old new rest removed added =
    ap (λ n. folded ((old + rest) + n)) added
    ∙ add_last (old + rest) new
    ∙ ap folded (omega arith)
    ∙ sym (add_last (new + rest) old)
    ∙ ap (λ n. folded ((new + rest) + n)) (sym removed)

-- the sum of the translated message is not 0
pub some_sum : (new : List ℕ) (sum checksum : ℕ) → ((new ≡ []) ⊎ (0 < total new)) → (new ≡ [] → checksum ≢ 0)
    → total new + (sum + checksum) ≢ 0
some_sum new sum checksum (inl empty) some = λ none. some empty (omega (arith, none))
some_sum new sum checksum (inr positive) some = λ none. omega (arith, none, positive)
