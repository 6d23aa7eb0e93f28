-- A change of a checksum that replaces an IPv4 address by the address with a prefix of 96 bits, and the change of both addresses.
use Rattle.std.proofs.Common.{◌≡◌, ◌+◌, ◌≤◌, ℕ, List, [], ◌∷◌, length, slice_index, ap, ◌∙◌, subst₂, arith}
use Rattle.std.specs.Prelude.{slice_range}
use Rattle.std.proofs.Common.{length-drop, length-take}
use Rattle.net_base.specs.PseudoHeader.{ipv4_pseudo_header, ipv6_pseudo_header, max_len_over_ipv4}
use Rattle.word_sum.specs.Checksum.{folded, total}
use Rattle.word_sum.specs.ChecksumChange.{IsExtendedBy, TurnsInto}
use Rattle.word_sum.specs.declared.checksum_change.ChecksumChange.{ChecksumChange}
use Rattle.word_sum.proofs.ChecksumLemmas.{folded_twice}
use Rattle.ip_translation.specs.Prefixes.{embedded}
use Rattle.ip_translation.specs.declared.prefix64.Prefix64.TheVariants.{Bits96}
use Rattle.ip_translation.proofs.ListedLemmas.{whole}
use Rattle.ip_translation.proofs.PseudoHeaderLemmas.{total_ipv4, total_ipv6}

-- the octets 8 to 11 of an address that begins with these octets of a prefix of 96 bits
abbrev pub third : List ℕ → List ℕ
third start = 0 ∷ slice_index start 8 ∷ slice_index start 9 ∷ slice_index start 10 ∷ []

-- the total of an address that consists of a prefix and an IPv4 address
pub total_of_96 : (start ipv4 : List ℕ) → length start ≡ 11 → length ipv4 ≡ 4
    → total (embedded (Bits96 start) ipv4)
    ≡ total ipv4 + total (slice_range start 0 4) + total (slice_range start 4 8) + total (third start)
total_of_96 start ipv4 eleven four =
    subst₂ (λ start ipv4. total (embedded (Bits96 start) ipv4)
    ≡ total ipv4 + total (slice_range start 0 4) + total (slice_range start 4 8) + total (third start))
    (whole start 11 eleven) (whole ipv4 4 four) (omega arith)

-- four totals are added one by one
pub folded_four : (value a b c d first second third fourth : ℕ) → first ≡ folded (value + a) → second ≡ folded (first + b)
    → third ≡ folded (second + c) → fourth ≡ folded (third + d) → fourth ≡ folded (value + (a + b + c + d))
folded_four value a b c d first second third fourth is_first is_second is_third is_fourth =
    is_fourth
    ∙ ap (λ n. folded (n + d)) (is_third
    ∙ ap (λ n. folded (n + c)) (is_second ∙ ap (λ n. folded (n + b)) is_first ∙ folded_twice value a b)
    ∙ folded_twice value (a + b) c)
    ∙ folded_twice value (a + b + c) d

-- the length of an address in a header
pub address_len : (front : List ℕ) (from : ℕ) → from + 16 ≤ length front → length (slice_range front from (from + 16)) ≡ 16
address_len front from there = grind (arith, there, length-drop, length-take)

-- Both addresses are replaced by their translations. This turns one pseudo header into the other.
pub both_turn : (empty first all : ChecksumChange) (old_source old_destination new_source new_destination : List ℕ)
    (protocol len rest : ℕ)
    → length old_source ≡ 4 → length old_destination ≡ 4 → length new_source ≡ 16 → length new_destination ≡ 16
    → len ≤ max_len_over_ipv4
    → ((packet : ℕ) → TurnsInto empty packet packet)
    → IsExtendedBy empty old_source new_source first
    → IsExtendedBy first old_destination new_destination all
    → TurnsInto all (total (ipv4_pseudo_header old_source old_destination protocol len) + rest)
    (total (ipv6_pseudo_header new_source new_destination protocol len) + rest)
both_turn empty first all old_source old_destination new_source new_destination protocol len rest
    four four_too sixteen sixteen_too short same is_first is_all =
    let before : ℕ = total (ipv4_pseudo_header old_source old_destination protocol len) + rest in
    let after : ℕ = total (ipv6_pseudo_header new_source new_destination protocol len) + rest in
    let between : ℕ = total new_source + (total old_destination + (protocol + len)) + rest in
    let was = total_ipv4 old_source old_destination protocol len four four_too short in
    let is = total_ipv6 new_source new_destination protocol len sixteen sixteen_too short in
    is_all before between after (omega (arith, is)) (is_first before before between (omega (arith, was)) (same before))
