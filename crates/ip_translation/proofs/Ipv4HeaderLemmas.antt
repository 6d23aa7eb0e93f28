-- The checksum of a translated IPv4 header is right, and a header that is read has at least 20 bytes.
use Rattle.std.proofs.Common.{◌≡◌, ◌↔◌, ℕ, ◌+◌, ◌*◌, ◌%◌, ◌<◌, ◌≤◌, List, [], ◌++◌, Option, Some, None, length, take, refl, sym, subst, ap, ◌∙◌, arith}
use Rattle.std.specs.Prelude.{IfSome, IsSome}
use Rattle.std.proofs.lemmas.List.{get_or-take}
use Rattle.net_base.specs.IpHeaders.{BeginsWithIpv4Header, ipv4_header_len}
use Rattle.word_sum.specs.Checksum.{Verifies, checksum_of, folded, total}
use Rattle.word_sum.proofs.ChecksumLemmas.{checksum_verifies}
use Rattle.word_sum.proofs.ChecksumChangeLemmas.{total-stored}
use Rattle.ip_translation.specs.HeadersToIpv4.{with_header_checksum}

pub header_verifies : (start source destination : List ℕ) (checksum : ℕ) → length start ≡ 10 → checksum < 65536
    → checksum ≡ checksum_of (total (with_header_checksum start 0 source destination))
    → Verifies [] (with_header_checksum start checksum source destination)
header_verifies start source destination checksum ten small right =
    let zero : ℕ = total (with_header_checksum start 0 source destination) in
    let even : length start % 2 ≡ 0 = omega (arith, ten) in
    let stored : total [] + total (with_header_checksum start checksum source destination) ≡ zero + checksum =
    omega (arith, total-stored start (source ++ destination) checksum even small) in
    ap folded stored ∙ checksum_verifies zero checksum right

pub front_long : (result : Option (List ℕ)) (packet : List ℕ) → (IsSome result) ↔ (BeginsWithIpv4Header packet)
    → IfSome result (λ header. header ≡ take (ipv4_header_len packet) packet)
    → IfSome result (λ header. 20 ≤ ipv4_header_len header)
front_long None packet found kept = tt
front_long (Some header) packet found kept =
    let begins : BeginsWithIpv4Header packet = found.0 refl in
    let len : ℕ = ipv4_header_len packet in
    let same : ipv4_header_len (take len packet) ≡ len =
    ap (λ byte. byte % 16 * 4) (get_or-take len packet 0 0 (omega (arith, begins.five_words))) in
    subst (λ header. 20 ≤ ipv4_header_len header) (sym kept) (subst (λ len. 20 ≤ len) (sym same) begins.five_words)
