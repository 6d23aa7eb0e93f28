-- Laws of packets with a replaced checksum.
use Rattle.std.proofs.Common.{◌≡◌, ◌≢◌, ℕ, zero, suc, ◌+◌, ◌-◌, ◌%◌, ◌<◌, ◌≤◌, List, [], ◌∷◌, length, take, drop, slice_index, refl, sym, ap, ◌∙◌, subst, Bool, true, false, rules, arith}
use Rattle.std.specs.Prelude.{◌↔◌, ◌==◌, IsTrue, MatchBool}
use Rattle.std.proofs.lemmas.Bool.Decides.{nat_tests}
use Rattle.net_base.specs.IpNumbers.{udp_number}
use Rattle.net_base.specs.Bytes.{be_number}
use Rattle.net_base.specs.StoredChecksum.{with_checksum}
use Rattle.net_base.proofs.StoredChecksumLemmas.{length-with_checksum, stored_checksum, total-with_checksum}
use Rattle.word_sum.specs.Checksum.{IsAllOnes, Verifies, complement, folded, total, zero_as_all_ones}
use Rattle.word_sum.proofs.ChecksumLemmas.{checksum_verifies, folded-add, folded-folded, folded-lt, folded_congruent, udp_checksum_verifies}
use Rattle.udp_part.specs.UdpValidity.{checksum_field}
use Rattle.transport_part.specs.Verdicts.{VerifiesUpTo, IsWrong, IsWrongUdpIpv4, JudgesBy, JudgesUdpIpv4, partial_over_ipv4}
use Rattle.transport_part.specs.declared.checksum_verdict.ChecksumVerdict.{ChecksumVerdict}
use Rattle.transport_part.specs.declared.checksum_verdict.ChecksumVerdict.TheVariants.{Partial, Wrong}

-- the total of a packet is the sum of the parts around its checksum and of the checksum
total-stored : (place : ℕ) (bytes : List ℕ) → place + 2 ≤ length bytes → place % 2 ≡ 0
    → total bytes ≡ total (take place bytes) + (be_number bytes place 2 + total (drop (place + 2) bytes))
total-stored zero [] there even = absurd (omega arith)
total-stored zero (high ∷ []) there even = absurd (omega arith)
total-stored zero (high ∷ (low ∷ rest)) there even = omega arith
total-stored (suc zero) bytes there even = absurd (omega arith)
total-stored (suc (suc place)) [] there even = absurd (omega arith)
total-stored (suc (suc place)) (high ∷ []) there even = absurd (omega arith)
total-stored (suc (suc place)) (high ∷ (low ∷ rest)) there even =
    let bytes = high ∷ (low ∷ rest) in
    let at_first : suc (suc place) + 0 ≡ suc (suc (place + 0)) = omega arith in
    let at_second : suc (suc place) + 1 ≡ suc (suc (place + 1)) = omega arith in
    let behind : suc (suc place) + 2 ≡ suc (suc (place + 2)) = omega arith in
    let first : slice_index bytes (suc (suc place) + 0) ≡ slice_index rest (place + 0) = ap (λ k. slice_index bytes k) at_first in
    let second : slice_index bytes (suc (suc place) + 1) ≡ slice_index rest (place + 1) = ap (λ k. slice_index bytes k) at_second in
    let back : total (drop (suc (suc place) + 2) bytes) ≡ total (drop (place + 2) rest) = ap (λ k. total (drop k bytes)) behind in
    omega (arith, first, second, back, total-stored place rest (omega arith) (omega arith))

-- the sum of pseudo header and packet is the sum without the checksum plus the checksum
pub stored_in_sum : (pseudo place : ℕ) (bytes : List ℕ) → place + 2 ≤ length bytes → place % 2 ≡ 0
    → folded (pseudo + total bytes) ≡ folded (pseudo + total (with_checksum place bytes 0) + be_number bytes place 2)
stored_in_sum pseudo place bytes there even =
    ap folded (omega (arith, total-with_checksum place bytes 0 there even (omega arith), total-stored place bytes there even))

-- adding the complement of a 16 bit number subtracts the number from a sum, if the other part of the sum is not 0
pub taken_out : (n stored sum other : ℕ) → sum ≡ folded (n + stored) → other ≡ 65535 - stored → stored < 65536 → 0 < n
    → folded (sum + other) ≡ folded n
taken_out n stored sum other is is_other small some =
    ap (λ s. folded (s + other)) is ∙ folded-add (n + stored) other
    ∙ folded_congruent (n + stored + other) n 1 (omega (arith, is_other, small)) (λ none. absurd (omega (arith, none, some)))

-- the sum without the stored checksum is all ones with it exactly if the packet passes the test
pub stored_passes : (max_len : ℕ) (pseudo_header_of : ℕ → List ℕ) (place : ℕ) (bytes : List ℕ) (pseudo sum stored : ℕ)
    → place + 2 ≤ length bytes → place % 2 ≡ 0 → length bytes ≤ max_len
    → pseudo ≡ folded (total (pseudo_header_of (length bytes))) → sum ≡ folded (pseudo + total (with_checksum place bytes 0))
    → stored ≡ be_number bytes place 2 → IsAllOnes (sum + stored) ↔ VerifiesUpTo max_len pseudo_header_of bytes
stored_passes max_len pseudo_header_of place bytes pseudo sum stored there even within is_pseudo is_sum is =
    let n = total (pseudo_header_of (length bytes)) + total (with_checksum place bytes 0) in
    let without = total-with_checksum place bytes 0 there even (omega arith) in
    let whole : sum ≡ folded n = is_sum ∙ ap (λ s. folded (s + total (with_checksum place bytes 0))) is_pseudo
    ∙ folded-add (total (pseudo_header_of (length bytes))) (total (with_checksum place bytes 0)) in
    let same : folded (sum + stored) ≡ folded (total (pseudo_header_of (length bytes)) + total bytes) =
    ap (λ s. folded (s + stored)) whole ∙ folded-add n stored
    ∙ ap folded (omega (arith, without, is, total-stored place bytes there even)) in
    (λ ones. (within, sym same ∙ ones), λ passes. same ∙ passes.1)

-- if the sum of pseudo header, packet without its checksum, and this checksum is all ones, the packet with this checksum passes the test
pub verifies_with : (max_len : ℕ) (pseudo_header_of : ℕ → List ℕ) (place : ℕ) (bytes : List ℕ) (checksum : ℕ)
    → place + 2 ≤ length bytes → place % 2 ≡ 0 → checksum < 65536 → length bytes ≤ max_len
    → IsAllOnes (total (pseudo_header_of (length bytes)) + total (with_checksum place bytes 0) + checksum)
    → VerifiesUpTo max_len pseudo_header_of (with_checksum place bytes checksum)
verifies_with max_len pseudo_header_of place bytes checksum there even small within ones =
    let same_len = length-with_checksum place bytes checksum there in
    let pseudo = ap (λ n. total (pseudo_header_of n)) same_len in
    let without = total-with_checksum place bytes 0 there even (omega arith) in
    let stored = total-with_checksum place bytes checksum there even small in
    (omega (arith, within, same_len), ap folded (omega (arith, pseudo, without, stored)) ∙ ones)

-- the packet with the expected checksum passes the test, if TCP or ICMP stores it
pub verifies_expected : (max_len : ℕ) (pseudo_header_of : ℕ → List ℕ) (place : ℕ) (bytes : List ℕ) (pseudo sum expected : ℕ)
    → place + 2 ≤ length bytes → place % 2 ≡ 0 → length bytes ≤ max_len
    → pseudo ≡ folded (total (pseudo_header_of (length bytes))) → sum ≡ folded (pseudo + total (with_checksum place bytes 0))
    → expected ≡ complement sum → VerifiesUpTo max_len pseudo_header_of (with_checksum place bytes expected)
verifies_expected max_len pseudo_header_of place bytes pseudo sum expected there even within is_pseudo is_sum is =
    let n = total (pseudo_header_of (length bytes)) + total (with_checksum place bytes 0) in
    let whole : sum ≡ folded n = is_sum ∙ ap (λ s. folded (s + total (with_checksum place bytes 0))) is_pseudo
    ∙ folded-add (total (pseudo_header_of (length bytes))) (total (with_checksum place bytes 0)) in
    verifies_with max_len pseudo_header_of place bytes expected there even (omega (arith, is)) within
    (checksum_verifies n expected (is ∙ ap complement whole))

-- if the expected checksum is 65535, the packet with checksum 0 does not pass the test
pub zero_fails : (pseudo_header_of : ℕ → List ℕ) (place : ℕ) (bytes : List ℕ) (pseudo sum expected : ℕ) → place + 2 ≤ length bytes
    → pseudo ≡ folded (total (pseudo_header_of (length bytes))) → sum ≡ folded (pseudo + total (with_checksum place bytes 0))
    → expected ≡ complement sum → expected ≡ 65535
    → Verifies (pseudo_header_of (length (with_checksum place bytes 0))) (with_checksum place bytes 0) → ⊥
zero_fails pseudo_header_of place bytes pseudo sum expected there is_pseudo is_sum is most verifies =
    let n = total (pseudo_header_of (length bytes)) + total (with_checksum place bytes 0) in
    let whole : sum ≡ folded n = is_sum ∙ ap (λ s. folded (s + total (with_checksum place bytes 0))) is_pseudo
    ∙ folded-add (total (pseudo_header_of (length bytes))) (total (with_checksum place bytes 0)) in
    let ones : folded n ≡ 65535 =
    ap (λ k. folded (total (pseudo_header_of k) + total (with_checksum place bytes 0))) (sym (length-with_checksum place bytes 0 there))
    ∙ verifies in
    omega (arith, whole, ones, is, most)

-- the expected checksum of UDP has 16 bits
small_udp : (n expected : ℕ) → expected ≡ zero_as_all_ones (complement n) → expected < 65536
small_udp n expected is = grind (arith, nat_tests)

pub some_udp : (n expected : ℕ) → expected ≡ zero_as_all_ones (complement n) → expected ≢ 0
some_udp n expected is none = grind (arith, nat_tests)

pub verifies_expected_udp : (max_len : ℕ) (pseudo_header_of : ℕ → List ℕ) (place : ℕ) (bytes : List ℕ) (pseudo sum expected : ℕ)
    → place + 2 ≤ length bytes → place % 2 ≡ 0 → length bytes ≤ max_len
    → pseudo ≡ folded (total (pseudo_header_of (length bytes))) → sum ≡ folded (pseudo + total (with_checksum place bytes 0))
    → expected ≡ zero_as_all_ones (complement sum) → VerifiesUpTo max_len pseudo_header_of (with_checksum place bytes expected)
verifies_expected_udp max_len pseudo_header_of place bytes pseudo sum expected there even within is_pseudo is_sum is =
    let n = total (pseudo_header_of (length bytes)) + total (with_checksum place bytes 0) in
    let whole : sum ≡ folded n = is_sum ∙ ap (λ s. folded (s + total (with_checksum place bytes 0))) is_pseudo
    ∙ folded-add (total (pseudo_header_of (length bytes))) (total (with_checksum place bytes 0)) in
    verifies_with max_len pseudo_header_of place bytes expected there even (small_udp sum expected is) within
    (udp_checksum_verifies n expected (is ∙ ap (λ s. zero_as_all_ones (complement s)) whole))

-- a UDP packet with checksum 0 has no checksum
pub zero_is_absent : (bytes : List ℕ) → 8 ≤ length bytes → be_number (with_checksum 6 bytes 0) 6 2 ≢ 0 → ⊥
zero_is_absent bytes there some = some (stored_checksum 6 bytes 0 (omega (arith, there)) (omega arith))

pub stored_udp : (bytes : List ℕ) (n expected : ℕ) → 8 ≤ length bytes → expected ≡ zero_as_all_ones (complement n)
    → be_number (with_checksum 6 bytes expected) 6 2 ≢ 0
stored_udp bytes n expected there is none =
    some_udp n expected is (sym (stored_checksum 6 bytes expected (omega (arith, there)) (small_udp n expected is)) ∙ none)

-- if a sum with a stored 0 is all ones, it is all ones without it, and the checksum is sent as all ones
pub all_ones_expected : (n stored : ℕ) → stored ≡ 0 → IsAllOnes (folded n + stored) → 65535 ≡ zero_as_all_ones (complement (folded n))
all_ones_expected n stored none ones =
    let all : folded n ≡ 65535 = sym (folded-folded n) ∙ ap folded (omega (arith, none)) ∙ ones in
    rw all refl

-- a packet whose test failed is not valid
pub not_valid : {P : Type 0} (valid : Bool) → valid ≡ false → (IsTrue valid ↔ P) → P → ⊥
not_valid valid is same holds = let clash : false ≡ true = sym is ∙ same.1 holds in search (rules, clash)

-- numbers that are equal as a test are equal
equal_numbers : (a b : ℕ) → (a == b) ≡ true → a ≡ b
equal_numbers a b tested = grind (arith, nat_tests)

other_numbers : (a b : ℕ) → (a == b) ≡ false → a ≡ b → ⊥
other_numbers a b tested same = grind (arith, nat_tests)

-- a stored sum of a pseudo header, which is known by its complement
pub is_partial : (A B : Type 0) (word stored number : ℕ) → number ≡ complement (folded word) → stored ≡ 65535 - number → A
    → MatchBool (stored == folded word) A B
is_partial A B word stored number is_complement is a =
    let same : stored ≡ folded word = omega (arith, is_complement, is, folded-lt word) in
    let tested : (stored == folded word) ≡ true = grind (arith, nat_tests) in
    rw tested a

-- ---- a checksum that is wrong

wrong_by_sum : (IsValid : List ℕ → Type 0) (place : ℕ) (packet : List ℕ) (partial stored pseudo expected : ℕ) (verdict : ChecksumVerdict)
    (same : Bool)
    → (stored == pseudo) ≡ same → stored ≡ be_number packet place 2 → pseudo ≡ partial → IsWrong IsValid place packet expected
    → MatchBool same (verdict ≡ Partial expected) (verdict ≡ Wrong expected) → JudgesBy IsValid partial place packet verdict
wrong_by_sum IsValid place packet partial stored pseudo expected verdict true tested is_stored is_pseudo wrong is =
    let P : ChecksumVerdict → Type 0 = λ v. JudgesBy IsValid partial place packet v in
    let equal : be_number packet place 2 ≡ partial = sym is_stored ∙ equal_numbers stored pseudo tested ∙ is_pseudo in
    subst P (sym is) (equal, wrong)
wrong_by_sum IsValid place packet partial stored pseudo expected verdict false tested is_stored is_pseudo wrong is =
    let P : ChecksumVerdict → Type 0 = λ v. JudgesBy IsValid partial place packet v in
    subst P (sym is) (λ equal. other_numbers stored pseudo tested (is_stored ∙ equal ∙ sym is_pseudo), wrong)

pub judged_wrong : (IsValid : List ℕ → Type 0) (place : ℕ) (packet : List ℕ) (partial stored pseudo expected : ℕ)
    (verdict : ChecksumVerdict)
    → stored ≡ be_number packet place 2 → pseudo ≡ partial → IsWrong IsValid place packet expected
    → MatchBool (stored == pseudo) (verdict ≡ Partial expected) (verdict ≡ Wrong expected) → JudgesBy IsValid partial place packet verdict
judged_wrong IsValid place packet partial stored pseudo expected verdict is_stored is_pseudo wrong is =
    wrong_by_sum IsValid place packet partial stored pseudo expected verdict (stored == pseudo) refl is_stored is_pseudo wrong is

-- the verdict on a UDP packet over IPv4, given its sum
wrong_by_sum_udp : (source destination packet : List ℕ) (stored pseudo expected : ℕ) (verdict : ChecksumVerdict) (same : Bool)
    → (stored == pseudo) ≡ same → stored ≡ checksum_field packet → pseudo ≡ partial_over_ipv4 source destination udp_number packet
    → IsWrongUdpIpv4 source destination packet expected
    → MatchBool same (verdict ≡ Partial expected) (verdict ≡ Wrong expected) → JudgesUdpIpv4 source destination packet verdict
wrong_by_sum_udp source destination packet stored pseudo expected verdict true tested is_stored is_pseudo wrong is =
    let P : ChecksumVerdict → Type 0 = λ v. JudgesUdpIpv4 source destination packet v in
    let equal : checksum_field packet ≡ partial_over_ipv4 source destination udp_number packet =
    sym is_stored ∙ equal_numbers stored pseudo tested ∙ is_pseudo in
    subst P (sym is) (equal, wrong)
wrong_by_sum_udp source destination packet stored pseudo expected verdict false tested is_stored is_pseudo wrong is =
    let P : ChecksumVerdict → Type 0 = λ v. JudgesUdpIpv4 source destination packet v in
    subst P (sym is) (λ equal. other_numbers stored pseudo tested (is_stored ∙ equal ∙ sym is_pseudo), wrong)

pub judged_wrong_udp : (source destination packet : List ℕ) (stored pseudo expected : ℕ) (verdict : ChecksumVerdict)
    → stored ≡ checksum_field packet → pseudo ≡ partial_over_ipv4 source destination udp_number packet
    → IsWrongUdpIpv4 source destination packet expected
    → MatchBool (stored == pseudo) (verdict ≡ Partial expected) (verdict ≡ Wrong expected) → JudgesUdpIpv4 source destination packet verdict
judged_wrong_udp source destination packet stored pseudo expected verdict is_stored is_pseudo wrong is =
    wrong_by_sum_udp source destination packet stored pseudo expected verdict (stored == pseudo) refl is_stored is_pseudo wrong is
