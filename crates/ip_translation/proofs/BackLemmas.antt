-- A message that is translated and translated back is the same message.
use Rattle.std.proofs.Common.{◌≡◌, ◌≢◌, ℕ, ◌+◌, ◌<◌, ◌≤◌, ◌==◌, Bool, true, false, if◌then◌else◌, List, [], ◌∷◌, ◌++◌, length, take, drop, slice_range, length-append, refl, sym, ap, ap₂, ◌∙◌, arith}
use Rattle.std.proofs.lemmas.List.{append_assoc, drop_at, length-take-le, take_all, take_at}
use Rattle.std.specs.Int.{to_be_bytes, w16}
use Rattle.net_base.specs.Bytes.{IsBytes, be_number}
use Rattle.net_base.specs.StoredChecksum.{with_checksum}
use Rattle.net_base.proofs.StoredChecksumLemmas.{stored_checksum, with_checksum-stored}
use Rattle.word_sum.specs.Checksum.{all_ones, complement, folded}
use Rattle.word_sum.specs.UpdatedChecksum.{updated_checksum_of, updated_udp_checksum_of}
use Rattle.word_sum.proofs.ChecksumChangeLemmas.{updated_reversed_iff, updated_udp_reversed}
use Rattle.ip_translation.specs.HeadersToIpv6.{ipv6_header}
use Rattle.ip_translation.specs.PacketsToIpv6.{tcp_checksum, udp_checksum}

-- ---- the addresses of an IPv6 header

pub source_of : (class len next hop : ℕ) (source destination : List ℕ) → length source ≡ 16
    → slice_range (ipv6_header class len (next ∷ (hop ∷ [])) source destination) 8 24 ≡ source
source_of class len next hop source destination sixteen = take_at source destination 16 sixteen

pub destination_of : (class len next hop : ℕ) (source destination : List ℕ) → length source ≡ 16 → length destination ≡ 16
    → slice_range (ipv6_header class len (next ∷ (hop ∷ [])) source destination) 24 40 ≡ destination
destination_of class len next hop source destination sixteen sixteen_too =
    ap (take 16) (drop_at source destination 16 sixteen) ∙ take_all 16 destination (omega (arith, sixteen_too))

-- ---- two checksums, one after the other

-- the second one stays
with_second : (place : ℕ) (bytes : List ℕ) (first second : ℕ) → place + 2 ≤ length bytes
    → with_checksum place (with_checksum place bytes first) second ≡ with_checksum place bytes second
with_second place bytes first second there =
    let front : List ℕ = take place bytes in
    let word : List ℕ = to_be_bytes w16 first in
    let back : List ℕ = drop (place + 2) bytes in
    let front_len : length front ≡ place = length-take-le place bytes (omega (arith, there)) in
    let both_len : length (front ++ word) ≡ place + 2 = omega (arith, front_len, length-append front word) in
    let before : take place (front ++ (word ++ back)) ≡ front = take_at front (word ++ back) place front_len in
    let after : drop (place + 2) (front ++ (word ++ back)) ≡ back =
    ap (drop (place + 2)) (sym (append_assoc front word back)) ∙ drop_at (front ++ word) back (place + 2) both_len in
    ap₂ (λ front back. front ++ (to_be_bytes w16 second ++ back)) before after

-- a checksum that is updated back
same_again : (place : ℕ) (bytes : List ℕ) (between again : ℕ) → IsBytes bytes → place + 2 ≤ length bytes → again ≡ be_number bytes place 2
    → with_checksum place (with_checksum place bytes between) again ≡ bytes
same_again place bytes between again fits there same =
    with_second place bytes between again there
    ∙ ap (with_checksum place bytes) same
    ∙ with_checksum-stored place bytes fits there

if_small : (condition : Bool) (first second : ℕ) → first < 65536 → second < 65536 → (if condition then first else second) < 65536
if_small true first second small small_too = small
if_small false first second small small_too = small_too

complement_small : (n : ℕ) → complement n < 65536
complement_small n = omega arith

pub checksum_small : (bytes : List ℕ) (place : ℕ) → IsBytes bytes → be_number bytes place 2 < 65536
checksum_small bytes place fits = omega (arith, fits (place + 0), fits (place + 1))

pub udp_same : (packet : List ℕ) (removed added removed_too added_too : ℕ) → IsBytes packet → 8 ≤ length packet
    → removed < 65536 → added < 65536 → removed_too ≡ added → added_too ≡ removed
    → with_checksum 6 (with_checksum 6 packet (updated_udp_checksum_of (udp_checksum packet) removed added))
    (updated_udp_checksum_of (udp_checksum (with_checksum 6 packet (updated_udp_checksum_of (udp_checksum packet) removed added)))
    removed_too added_too)
    ≡ packet
udp_same packet removed added removed_too added_too fits there small small_too same same_too =
    let checksum : ℕ = udp_checksum packet in
    let between : ℕ = updated_udp_checksum_of checksum removed added in
    let updated : ℕ = updated_checksum_of checksum removed added in
    let between_small : between < 65536 =
    if_small (checksum == 0) 0 (if updated == 0 then all_ones else updated) (omega arith)
    (if_small (updated == 0) all_ones updated (omega arith)
    (complement_small (folded (complement checksum + complement removed + added)))) in
    let stored : udp_checksum (with_checksum 6 packet between) ≡ between = stored_checksum 6 packet between there between_small in
    let again : updated_udp_checksum_of (udp_checksum (with_checksum 6 packet between)) removed_too added_too ≡ checksum =
    ap (λ checksum. updated_udp_checksum_of checksum removed_too added_too) stored
    ∙ ap₂ (λ removed added. updated_udp_checksum_of between removed added) same same_too
    ∙ updated_udp_reversed checksum removed added between (checksum_small packet 6 fits) small small_too refl in
    same_again 6 packet between _ fits there again

pub tcp_same : (segment : List ℕ) (removed added removed_too added_too : ℕ) → IsBytes segment → 18 ≤ length segment
    → tcp_checksum segment ≢ all_ones
    → removed < 65536 → added < 65536 → removed_too ≡ added → added_too ≡ removed
    → with_checksum 16 (with_checksum 16 segment (updated_checksum_of (tcp_checksum segment) removed added))
    (updated_checksum_of (tcp_checksum (with_checksum 16 segment (updated_checksum_of (tcp_checksum segment) removed added))) removed_too
    added_too)
    ≡ segment
tcp_same segment removed added removed_too added_too fits there some small small_too same same_too =
    let checksum : ℕ = tcp_checksum segment in
    let between : ℕ = updated_checksum_of checksum removed added in
    let between_small : between < 65536 = complement_small (folded (complement checksum + complement removed + added)) in
    let stored : tcp_checksum (with_checksum 16 segment between) ≡ between = stored_checksum 16 segment between there between_small in
    let again : updated_checksum_of (tcp_checksum (with_checksum 16 segment between)) removed_too added_too ≡ checksum =
    ap (λ checksum. updated_checksum_of checksum removed_too added_too) stored
    ∙ ap₂ (λ removed added. updated_checksum_of between removed added) same same_too
    ∙ (updated_reversed_iff checksum removed added between (checksum_small segment 16 fits) small small_too refl).1 some in
    same_again 16 segment between _ fits there again
