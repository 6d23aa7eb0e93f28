-- The laws of the incremental update of a checksum (RFC 1624).
use Rattle.std.proofs.Common.{◌≡◌, ◌≢◌, ℕ, zero, suc, ◌+◌, ◌-◌, ◌%◌, ◌<◌, ◌≤◌, ◌==◌, true, false, List, [], ◌∷◌, ◌++◌, length, refl, sym, ap, ◌∙◌, arith}
use Rattle.std.specs.Prelude.{◌↔◌, All}
use Rattle.std.proofs.Math.Logic.{⊎_elim}
use Rattle.std.proofs.lemmas.Bool.{cases_lt}
use Rattle.std.proofs.lemmas.Bool.Decides.{nat_tests}
use Rattle.std.specs.Int.{to_be_bytes, w16}
use Rattle.word_sum.specs.Checksum.{checksum_of, complement, folded, total, udp_checksum_of}
use Rattle.word_sum.specs.ChecksumChange.{added_value, removed_value, IsExtendedBy, Replaces}
use Rattle.word_sum.specs.declared.checksum_change.ChecksumChange.{ChecksumChange}
use Rattle.word_sum.specs.UpdatedChecksum.{updated_checksum_of, updated_udp_checksum_of}
use Rattle.word_sum.proofs.ChecksumLemmas.{folded-add, folded-lt, folded-none, folded-some, total-append}
use Rattle.word_sum.proofs.NumberLemmas.{folded-add_alike}

-- the total of a front of odd length and a back: the first byte of the back is the low half of the last word of the front
pub total-append_odd : (front back : List ℕ) → length front % 2 ≡ 1 → total (front ++ back) ≡ total front + total (0 ∷ back)
total-append_odd [] back odd = absurd (omega arith)
total-append_odd (high ∷ []) [] odd = omega arith
total-append_odd (high ∷ []) (low ∷ back) odd = omega arith
total-append_odd (high ∷ (low ∷ front)) back odd = omega (arith, total-append_odd front back (omega arith))

-- the total after bytes at an even place are replaced by other bytes, both of even or both of odd length
pub total_replaced : (before old new after : List ℕ) → length before % 2 ≡ 0 → length old % 2 ≡ length new % 2
    → total (before ++ (old ++ after)) + total new ≡ total (before ++ (new ++ after)) + total old
total_replaced before old new after even alike =
    ⊎_elim
    (λ (is_even : length old % 2 < 1).
    omega (
      arith,
      total-append before (old ++ after) even,
      total-append before (new ++ after) even,
      total-append old after (omega arith),
      total-append new after (omega arith),
    ))
    (λ (is_odd : 1 ≤ length old % 2).
    omega (
      arith,
      total-append before (old ++ after) even,
      total-append before (new ++ after) even,
      total-append_odd old after (omega arith),
      total-append_odd new after (omega arith),
    ))
    (cases_lt (length old % 2) 1)

-- folding the second of two numbers before the sum does not change the folded sum
folded-add_second : (a b : ℕ) → folded (a + folded b) ≡ folded (a + b)
folded-add_second a b = ap folded (omega arith) ∙ folded-add b a ∙ ap folded (omega arith)

-- if a change with these sums turns the total before into the total between, another replacement turns it into the total after
pub folded_extended : (before added between removed old new after : ℕ) → folded (before + added) ≡ folded (between + removed)
    → between + new ≡ after + old → folded (before + folded (added + new)) ≡ folded (after + folded (removed + old))
folded_extended before added between removed old new after turns replaced =
    folded-add_second before (added + new)
    ∙ ap folded (omega arith)
    ∙ folded-add_alike (before + added) (between + removed) new new turns refl
    ∙ ap folded (omega arith)
    ∙ sym (folded-add_second after (removed + old))

-- two changes, one after the other, are one change with the sums of both
pub folded_joined : (before added between removed added_too after removed_too : ℕ) → folded (before + added) ≡ folded (between + removed)
    → folded (between + added_too) ≡ folded (after + removed_too)
    → folded (before + folded (added + added_too)) ≡ folded (after + folded (removed + removed_too))
folded_joined before added between removed added_too after removed_too turns turns_too =
    folded-add_second before (added + added_too)
    ∙ ap folded (omega arith)
    ∙ folded-add_alike (before + added) (between + removed) added_too added_too turns refl
    ∙ ap folded (omega arith)
    ∙ folded-add_alike (between + added_too) (after + removed_too) removed removed turns_too refl
    ∙ ap folded (omega arith)
    ∙ sym (folded-add_second after (removed + removed_too))

-- a folded sum leaves the remainder of the sum
pub folded-remainder : (n : ℕ) → folded n % 65535 ≡ n % 65535
folded-remainder n = grind (arith, folded-none, folded-some)

-- a sum is folded to 0 only if it is 0
folded-nonzero : (n : ℕ) → n ≢ 0 → folded n ≢ 0
folded-nonzero n some none = grind (arith, folded-none, folded-some)

pub remainder_alike : (m n : ℕ) → folded m ≡ folded n → m % 65535 ≡ n % 65535
remainder_alike m n alike = sym (folded-remainder m) ∙ ap (λ k. k % 65535) alike ∙ folded-remainder n

-- the numbers that fold to all ones: the multiples of 65535 except 0
pub folded_all_ones_iff : (n : ℕ) → (folded n ≡ 65535) ↔ ((n % 65535 ≡ 0) × (n ≢ 0))
folded_all_ones_iff n = (
  λ ones. (grind (arith, folded-none, folded-some), λ z. grind (arith, folded-none, folded-some)),
  λ both. let remainder = both.0 in let some = both.1 in grind (arith, folded-none, folded-some),
)

-- a UDP checksum depends only on the remainder
pub udp_checksum_of-remainder : (n : ℕ) → udp_checksum_of n ≡ 65535 - n % 65535
udp_checksum_of-remainder n = grind (arith, nat_tests, folded-none, folded-some)

-- the update of the checksum of a packet gives the checksum of the changed packet with all ones added to it
pub updated_checksum_of-checksum_of : (before after checksum removed added : ℕ) → removed < 65536
    → folded (before + added) ≡ folded (after + removed) → checksum ≡ checksum_of before
    → updated_checksum_of checksum removed added ≡ checksum_of (after + 65535)
updated_checksum_of-checksum_of before after checksum removed added small turns right =
    let stored : complement checksum ≡ folded before = omega (arith, folded-lt before) in
    ap complement (
    ap folded (omega arith)
    ∙ folded-add before (added + complement removed)
    ∙ ap folded (omega arith)
    ∙ folded-add_alike (before + added) (after + removed) (complement removed) (complement removed) turns refl
    ∙ ap folded (omega arith))

-- adding all ones changes a checksum only if the data is all zeros
checksum_of-add_ones_iff : (n : ℕ) → (checksum_of (n + 65535) ≡ checksum_of n) ↔ (n ≢ 0)
checksum_of-add_ones_iff n = (
  λ same z. grind (arith, folded-none, folded-some),
  λ some. grind (arith, folded-none, folded-some),
)

-- the checksum of a packet becomes the checksum of the changed packet, except if the changed packet is all zeros
pub updated_iff : (before after checksum removed added result : ℕ) → removed < 65536
    → folded (before + added) ≡ folded (after + removed) → result ≡ updated_checksum_of checksum removed added
    → checksum ≡ checksum_of before → (result ≡ checksum_of after) ↔ (after ≢ 0)
updated_iff before after checksum removed added result small turns equation right =
    let updated = equation ∙ updated_checksum_of-checksum_of before after checksum removed added small turns right in
    let iff = checksum_of-add_ones_iff after in
    (λ same. iff.0 (sym updated ∙ same), λ some. updated ∙ iff.1 some)

pub updated_zeros : (before after checksum removed added result : ℕ) → removed < 65536
    → folded (before + added) ≡ folded (after + removed) → result ≡ updated_checksum_of checksum removed added
    → checksum ≡ checksum_of before → after ≡ 0 → result ≡ 0
updated_zeros before after checksum removed added result small turns equation right zeros =
    let updated = equation ∙ updated_checksum_of-checksum_of before after checksum removed added small turns right in
    grind (arith, folded-none, folded-some)

-- the sum with any checksum leaves the same remainder after an update
pub updated_remainder : (before after checksum removed added result : ℕ) → removed < 65536 → checksum < 65536
    → folded (before + added) ≡ folded (after + removed) → result ≡ updated_checksum_of checksum removed added
    → (after + result) % 65535 ≡ (before + checksum) % 65535
updated_remainder before after checksum removed added result small small_too turns equation =
    let sum = complement checksum + complement removed + added in
    let alike : (before + added) % 65535 ≡ (after + removed) % 65535 = remainder_alike (before + added) (after + removed) turns in
    let remainder : folded sum % 65535 ≡ sum % 65535 = folded-remainder sum in
    let fits : folded sum < 65536 = folded-lt sum in
    omega arith

-- if a receiver accepts a packet, it accepts the changed packet, unless the changed packet and its checksum are all zeros
pub updated_verifies_iff : (before after checksum removed added result : ℕ) → removed < 65536 → checksum < 65536
    → folded (before + added) ≡ folded (after + removed) → result ≡ updated_checksum_of checksum removed added
    → folded (before + checksum) ≡ 65535 → (folded (after + result) ≡ 65535) ↔ (after + result ≢ 0)
updated_verifies_iff before after checksum removed added result small small_too turns equation accepted =
    let remainder = updated_remainder before after checksum removed added result small small_too turns equation in
    let was = (folded_all_ones_iff (before + checksum)).0 accepted in
    let iff = folded_all_ones_iff (after + result) in
    (λ verifies. (iff.0 verifies).1, λ some. iff.1 (remainder ∙ was.0, some))

-- if two sums with their checksums leave the same remainder, a receiver accepts both or neither, unless a packet is all zeros
pub verifies_alike : (before after checksum result : ℕ) → (after + result) % 65535 ≡ (before + checksum) % 65535 → before ≢ 0 → after ≢ 0
    → (folded (after + result) ≡ 65535) ↔ (folded (before + checksum) ≡ 65535)
verifies_alike before after checksum result remainder some some_too =
    let is = folded_all_ones_iff (after + result) in
    let was = folded_all_ones_iff (before + checksum) in (
      λ verifies. was.1 (sym remainder ∙ (is.0 verifies).0, λ none. some (omega arith)),
      λ verifies. is.1 (remainder ∙ (was.0 verifies).0, λ none. some_too (omega arith)),
    )

-- the update of a UDP checksum depends only on a remainder
updated_udp_checksum_of-some : (checksum removed added : ℕ) → checksum ≢ 0
    → updated_udp_checksum_of checksum removed added ≡ 65535 - (complement checksum + complement removed + added) % 65535
updated_udp_checksum_of-some checksum removed added some =
    let is_some : (checksum == 0) ≡ false = grind (arith, nat_tests) in
    rw is_some (udp_checksum_of-remainder (complement checksum + complement removed + added))

-- a missing UDP checksum stays missing
updated_udp_none : (checksum removed added result : ℕ) → result ≡ updated_udp_checksum_of checksum removed added → checksum ≡ 0 → result ≡ 0
updated_udp_none checksum removed added result equation none =
    let is_none : (checksum == 0) ≡ true = grind (arith, nat_tests) in
    rw is_none at equation

-- the sum with any UDP checksum leaves the same remainder after an update
pub updated_udp_remainder : (before after checksum removed added result : ℕ) → removed < 65536 → checksum < 65536
    → folded (before + added) ≡ folded (after + removed) → result ≡ updated_udp_checksum_of checksum removed added
    → checksum ≢ 0 → (after + result) % 65535 ≡ (before + checksum) % 65535
updated_udp_remainder before after checksum removed added result small small_too turns equation some =
    let alike = remainder_alike (before + added) (after + removed) turns in
    let updated = equation ∙ updated_udp_checksum_of-some checksum removed added some in
    omega arith

-- the UDP checksum of a packet becomes that of the changed packet, and a wrong checksum stays wrong
pub updated_udp_iff : (before after checksum removed added result : ℕ) → removed < 65536 → checksum < 65536
    → folded (before + added) ≡ folded (after + removed) → result ≡ updated_udp_checksum_of checksum removed added
    → (result ≡ udp_checksum_of after) ↔ (checksum ≡ udp_checksum_of before)
updated_udp_iff before after checksum removed added result small small_too turns equation =
    let was = udp_checksum_of-remainder before in
    let is = udp_checksum_of-remainder after in
    let remainder = updated_udp_remainder before after checksum removed added result small small_too turns equation in
    let updated = λ (some : checksum ≢ 0). equation ∙ updated_udp_checksum_of-some checksum removed added some in (
      λ right.
          let stored : result ≡ 65535 - after % 65535 = right ∙ is in
          let some : checksum ≢ 0 = λ none. omega (arith, updated_udp_none checksum removed added result equation none) in
          omega (arith, remainder some) ∙ sym was,
      λ right.
          let stored : checksum ≡ 65535 - before % 65535 = right ∙ was in
          let some : checksum ≢ 0 = λ none. omega arith in
          omega (arith, remainder some, updated some) ∙ sym is,
    )

-- with any UDP checksum, a receiver accepts the changed packet exactly if it accepts the packet
pub updated_udp_verifies_iff : (before after checksum removed added result : ℕ) → removed < 65536 → checksum < 65536
    → folded (before + added) ≡ folded (after + removed) → result ≡ updated_udp_checksum_of checksum removed added
    → checksum ≢ 0 → (folded (after + result) ≡ 65535) ↔ (folded (before + checksum) ≡ 65535)
updated_udp_verifies_iff before after checksum removed added result small small_too turns equation some =
    let updated = equation ∙ updated_udp_checksum_of-some checksum removed added some in
    let remainder = updated_udp_remainder before after checksum removed added result small small_too turns equation some in
    let is = folded_all_ones_iff (after + result) in
    let was = folded_all_ones_iff (before + checksum) in (
      λ verifies. was.1 (sym remainder ∙ (is.0 verifies).0, λ none. some (omega arith)),
      λ verifies. is.1 (remainder ∙ (was.0 verifies).0, λ none. omega arith),
    )

-- the reversed change restores the checksum, except for all ones, which becomes the other zero
pub updated_reversed_iff : (checksum removed added result : ℕ) → checksum < 65536 → removed < 65536 → added < 65536
    → result ≡ updated_checksum_of checksum removed added
    → (updated_checksum_of result added removed ≡ checksum) ↔ (checksum ≢ 65535)
updated_reversed_iff checksum removed added result small small_too small_three equation =
    let sum = complement checksum + complement removed + added in
    let back = complement result + complement added + removed in
    let remainder = folded-remainder sum in
    let fits = folded-lt sum in
    let remainder_back = folded-remainder back in
    let fits_back = folded-lt back in
    let some : sum ≢ 0 → folded sum ≢ 0 = folded-nonzero sum in
    let some_back : folded back ≢ 0 = folded-nonzero back (λ none. some (λ nothing. omega arith) (omega arith)) in
    (λ same ones. omega arith, λ other. omega arith)

-- the reverse change always restores a UDP checksum
pub updated_udp_reversed : (checksum removed added result : ℕ) → checksum < 65536 → removed < 65536 → added < 65536
    → result ≡ updated_udp_checksum_of checksum removed added → updated_udp_checksum_of result added removed ≡ checksum
updated_udp_reversed checksum removed added result small small_too small_three equation =
    ⊎_elim
    (λ (none : checksum < 1). updated_udp_none result added removed _ refl
    (updated_udp_none checksum removed added result equation (omega arith)) ∙ omega arith)
    (λ (some : 1 ≤ checksum).
    let updated : result ≡ 65535 - (complement checksum + complement removed + added) % 65535 =
    equation ∙ updated_udp_checksum_of-some checksum removed added (λ none. omega arith) in
    updated_udp_checksum_of-some result added removed (λ none. omega arith) ∙ omega arith)
    (cases_lt checksum 1)

-- if the two sums of a change grow by the old bytes and by the new bytes, the change is extended by this replacement
pub is_extended : (change extended : ChecksumChange) (old new : List ℕ)
    → removed_value extended ≡ folded (removed_value change + total old)
    → added_value extended ≡ folded (added_value change + total new) → IsExtendedBy change old new extended
is_extended change extended old new removed added packet between changed replaced turns =
    rw (removed, added)
    (folded_extended packet (added_value change) between (removed_value change) (total old) (total new) changed turns (sym replaced))

pub replaces : (change extended : ChecksumChange) (old new : List ℕ) → IsExtendedBy change old new extended
    → Replaces change old new extended
replaces change extended old new extends packet between changed replaced =
    let even : length replaced.before % 2 ≡ 0 = replaced.at_even_place in
    let same = total_replaced replaced.before old new replaced.after replaced.at_even_place replaced.alike in
    extends packet (total between) (total changed) (omega (arith, ap total replaced.was, ap total replaced.is, same))

zeros_of_total : (bytes : List ℕ) → total bytes ≡ 0 → All (λ byte. byte ≡ 0) bytes
zeros_of_total [] none place default below = absurd (omega arith)
zeros_of_total (high ∷ []) none zero default below = omega arith
zeros_of_total (high ∷ []) none (suc place) default below = absurd (omega arith)
zeros_of_total (high ∷ (low ∷ bytes)) none zero default below = omega arith
zeros_of_total (high ∷ (low ∷ bytes)) none (suc zero) default below = omega arith
zeros_of_total (high ∷ (low ∷ bytes)) none (suc (suc place)) default below = zeros_of_total bytes (omega arith) place default (omega arith)

total_of_zeros : (bytes : List ℕ) → All (λ byte. byte ≡ 0) bytes → total bytes ≡ 0
total_of_zeros [] zeros = refl
total_of_zeros (high ∷ []) zeros = omega (arith, zeros 0 0 (omega arith))
total_of_zeros (high ∷ (low ∷ bytes)) zeros =
    omega (
      arith,
      zeros 0 0 (omega arith),
      zeros 1 0 (omega arith),
      total_of_zeros bytes (λ place default below. zeros (suc (suc place)) default (omega arith)),
    )

-- the total of bytes is 0 exactly if they are all zeros
pub total-zero_iff : (bytes : List ℕ) → (total bytes ≡ 0) ↔ All (λ byte. byte ≡ 0) bytes
total-zero_iff bytes = (zeros_of_total bytes, total_of_zeros bytes)

-- no function of the checksum, the old bytes and the new bytes is right for every packet
pub no_update_is_always_right : (update : ℕ → List ℕ → List ℕ → ℕ)
    → ((before old new after : List ℕ) → length before % 2 ≡ 0 → length old ≡ length new
    → update (checksum_of (total (before ++ (old ++ after)))) old new ≡ checksum_of (total (before ++ (new ++ after))))
    → ⊥
unfolding folded
no_update_is_always_right update right =
    let old = 0 ∷ 1 ∷ [] in
    let new = 0 ∷ 0 ∷ [] in
    let zeros : update 0xfffe old new ≡ 0xffff = right [] old new (0 ∷ 0 ∷ []) refl refl in
    let ones : update 0xfffe old new ≡ 0 = right [] old new (0xff ∷ 0xff ∷ []) refl refl in
    omega (arith, zeros, ones)

-- storing a checksum in two zero bytes at an even place increases the total by the checksum
pub total-stored : (front back : List ℕ) (checksum : ℕ) → length front % 2 ≡ 0 → checksum < 65536
    → total (front ++ (to_be_bytes w16 checksum ++ back)) ≡ total (front ++ (0 ∷ (0 ∷ back))) + checksum
total-stored front back checksum even small =
    omega (arith, total-append front (to_be_bytes w16 checksum ++ back) even, total-append front (0 ∷ (0 ∷ back)) even)
