-- Laws of the pseudo headers, and of the test of a received packet with them.
use Rattle.std.proofs.Common.{◌≡◌, ℕ, ◌<◌, List, [], ◌∷◌, ◌++◌, length, sym, subst, arith}
use Rattle.std.specs.Int.{to_be_bytes, w16, w32}
use Rattle.net_base.specs.Bytes.{IsBytes}
use Rattle.net_base.specs.Detection.{Detects}
use Rattle.net_base.specs.PseudoHeader.{VerifiesOverIpv4, VerifiesOverIpv6, ipv4_pseudo_header, ipv6_pseudo_header}
use Rattle.net_base.proofs.DetectionLemmas as detection
use Rattle.word_sum.specs.Checksum.{Verifies, total}
use Rattle.word_sum.proofs.ChecksumLemmas.{total-append_twice}

-- the protocol makes the total of a pseudo header greater than 0
pub ipv4_pseudo_header_some : (source destination : List ℕ) (protocol len : ℕ) → length source ≡ 4 → length destination ≡ 4 → 0 < protocol
    → 0 < total (ipv4_pseudo_header source destination protocol len)
ipv4_pseudo_header_some source destination protocol len four four_too some =
    omega (
      arith,
      some,
      total-append_twice source destination (0 ∷ protocol ∷ to_be_bytes w16 len) (omega (arith, four))
          (omega (arith, four_too)),
    )

pub ipv6_pseudo_header_some : (source destination : List ℕ) (protocol len : ℕ) → length source ≡ 16 → length destination ≡ 16 → 0 < protocol
    → 0 < total (ipv6_pseudo_header source destination protocol len)
ipv6_pseudo_header_some source destination protocol len sixteen sixteen_too some =
    omega (
      arith,
      some,
      total-append_twice source destination (to_be_bytes w32 len ++ (0 ∷ 0 ∷ 0 ∷ protocol ∷ [])) (omega (arith, sixteen))
          (omega (arith, sixteen_too)),
    )

-- if a packet passes the test, another packet with its length passes exactly if its total leaves the same remainder
pub detects_over_ipv4 : (source destination : List ℕ) (protocol : ℕ) (bytes : List ℕ) → length source ≡ 4 → length destination ≡ 4
    → 0 < protocol
    → IsBytes bytes → VerifiesOverIpv4 source destination protocol bytes → Detects (VerifiesOverIpv4 source destination protocol) bytes
detects_over_ipv4 source destination protocol bytes four four_too some fits verifies =
    detection.detects bytes (VerifiesOverIpv4 source destination protocol) fits
    (detection.passes_by_remainder (ipv4_pseudo_header source destination protocol (length bytes)) bytes
    (VerifiesOverIpv4 source destination protocol)
    (ipv4_pseudo_header_some source destination protocol (length bytes) four four_too some) verifies.1
    (λ other same_len.
    let P : ℕ → Type 0 = λ n. Verifies (ipv4_pseudo_header source destination protocol n) other in
    (λ passes. subst P same_len passes.1, λ sums_up. (omega (arith, same_len, verifies.0), subst P (sym same_len) sums_up))))

pub detects_over_ipv6 : (source destination : List ℕ) (protocol : ℕ) (bytes : List ℕ) → length source ≡ 16 → length destination ≡ 16
    → 0 < protocol
    → IsBytes bytes → VerifiesOverIpv6 source destination protocol bytes → Detects (VerifiesOverIpv6 source destination protocol) bytes
detects_over_ipv6 source destination protocol bytes sixteen sixteen_too some fits verifies =
    detection.detects bytes (VerifiesOverIpv6 source destination protocol) fits
    (detection.passes_by_remainder (ipv6_pseudo_header source destination protocol (length bytes)) bytes
    (VerifiesOverIpv6 source destination protocol)
    (ipv6_pseudo_header_some source destination protocol (length bytes) sixteen sixteen_too some) verifies.1
    (λ other same_len.
    let P : ℕ → Type 0 = λ n. Verifies (ipv6_pseudo_header source destination protocol n) other in
    (λ passes. subst P same_len passes.1, λ sums_up. (omega (arith, same_len, verifies.0), subst P (sym same_len) sums_up))))
