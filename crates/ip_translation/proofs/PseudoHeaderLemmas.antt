-- The change of both addresses turns the pseudo header over IPv4 into the pseudo header over IPv6.
use Rattle.std.proofs.Common.{◌≡◌, ℕ, ◌+◌, ◌≤◌, List, [], ◌∷◌, ◌++◌, length, arith}
use Rattle.std.specs.Int.{to_be_bytes, w16, w32}
use Rattle.net_base.specs.PseudoHeader.{ipv4_pseudo_header, ipv6_pseudo_header, max_len_over_ipv4}
use Rattle.word_sum.specs.Checksum.{total}
use Rattle.word_sum.specs.ChecksumChange.{IsExtendedBy, TurnsInto}
use Rattle.word_sum.specs.declared.checksum_change.ChecksumChange.{ChecksumChange}
use Rattle.word_sum.proofs.ChecksumLemmas.{total-append_twice}

-- the total of a pseudo header over IPv4
pub total_ipv4 : (source destination : List ℕ) (protocol len : ℕ) → length source ≡ 4 → length destination ≡ 4 → len ≤ max_len_over_ipv4
    → total (ipv4_pseudo_header source destination protocol len) ≡ total source + (total destination + (protocol + len))
total_ipv4 source destination protocol len four four_too short =
    omega (
      arith,
      short,
      total-append_twice source destination (0 ∷ protocol ∷ to_be_bytes w16 len) (omega (arith, four))
          (omega (arith, four_too)),
    )

-- over IPv6
pub total_ipv6 : (source destination : List ℕ) (protocol len : ℕ) → length source ≡ 16 → length destination ≡ 16 → len ≤ max_len_over_ipv4
    → total (ipv6_pseudo_header source destination protocol len) ≡ total source + (total destination + (protocol + len))
total_ipv6 source destination protocol len sixteen sixteen_too short =
    omega (
      arith,
      short,
      total-append_twice source destination (to_be_bytes w32 len ++ (0 ∷ 0 ∷ 0 ∷ protocol ∷ [])) (omega (arith, sixteen))
          (omega (arith, sixteen_too)),
    )

-- The old addresses are replaced by zeros, and then zeros are replaced by the new addresses. This turns one pseudo header into the other.
pub turns : (empty first second third all : ChecksumChange) (old_source old_destination new_source new_destination : List ℕ)
    (short_zeros long_zeros : List ℕ) (protocol len rest : ℕ)
    → length old_source ≡ 4 → length old_destination ≡ 4 → length new_source ≡ 16 → length new_destination ≡ 16
    → total short_zeros ≡ 0 → total long_zeros ≡ 0 → len ≤ max_len_over_ipv4
    → ((packet : ℕ) → TurnsInto empty packet packet)
    → IsExtendedBy empty old_source short_zeros first
    → IsExtendedBy first old_destination short_zeros second
    → IsExtendedBy second long_zeros new_source third
    → IsExtendedBy third long_zeros new_destination all
    → TurnsInto all (total (ipv4_pseudo_header old_source old_destination protocol len) + rest)
    (total (ipv6_pseudo_header new_source new_destination protocol len) + rest)
turns empty first second third all old_source old_destination new_source new_destination short_zeros long_zeros protocol len rest
    four four_too sixteen sixteen_too no_sum no_sum_too short same is_first is_second is_third is_all =
    let before : ℕ = total (ipv4_pseudo_header old_source old_destination protocol len) + rest in
    let after : ℕ = total (ipv6_pseudo_header new_source new_destination protocol len) + rest in
    let without_source : ℕ = total old_destination + (protocol + len) + rest in
    let without_both : ℕ = protocol + len + rest in
    let with_source : ℕ = total new_source + (protocol + len) + rest in
    let was = total_ipv4 old_source old_destination protocol len four four_too short in
    let is = total_ipv6 new_source new_destination protocol len sixteen sixteen_too short in
    is_all before with_source after (omega (arith, is, no_sum_too))
    (is_third before without_both with_source (omega (arith, no_sum_too))
    (is_second before without_source without_both (omega (arith, no_sum))
    (is_first before before without_source (omega (arith, was, no_sum)) (same before))))
