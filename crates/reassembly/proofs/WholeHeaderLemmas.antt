-- Laws of the header of a packet that was put together.
use Rattle.std.proofs.Common.{◌≡◌, ◌≢◌, ℕ, ◌+◌, ◌-◌, ◌<◌, ◌≤◌, inl, inr, if◌then◌else◌, List, [], ◌++◌, append-nil, length, length-append, drop, Some, None, refl, sym, ◌∙◌, ap, arith}
use Rattle.std.proofs.lemmas.List.{drop_all}
use Rattle.std.specs.Int.{to_be_bytes, w16}
use borrow.Rule.Slice.PartMut.{put_mid}
use Rattle.net_base.specs.IpHeaders.{BeginsWithIpv6Header, ipv4_header_len, version}
use Rattle.ip_part.specs.Ip.{ipv4_header}
use Rattle.reassembly.proofs.FragmentLemmas.{equal_four, other_than_four}
use Rattle.reassembly.specs.Fragments.{fragment_header_in}
use Rattle.reassembly.specs.declared.fragment_header.FragmentPlace.{FragmentPlace}
use Rattle.word_sum.proofs.ChecksumChangeLemmas.{total-stored}
use Rattle.word_sum.proofs.ChecksumLemmas.{checksum_verifies}
use Rattle.word_sum.specs.Checksum.{Verifies, checksum_of, folded, total}
use Rattle.reassembly.specs.WholeHeaders.{HasIpv4Header, HasIpv6Header, HasWholeHeader, ipv4_front, ipv4_with_checksum, ipv6_header_by, whole_header, whole_ipv4_header, whole_ipv6_header}

-- a receiver accepts the checksum
pub accepted_header : (header : List ℕ) (total_len : ℕ) → Verifies [] (whole_ipv4_header header total_len)
accepted_header header total_len =
    let sum : ℕ = total (ipv4_with_checksum header total_len 0) in
    let checksum : ℕ = checksum_of sum in
    let small : checksum < 65536 = omega arith in
    let stored : total (ipv4_with_checksum header total_len checksum) ≡ sum + checksum =
    total-stored (ipv4_front header total_len) (drop 12 header) checksum refl small in
    let all : 0 + total (ipv4_with_checksum header total_len checksum) ≡ sum + checksum = omega (arith, stored) in
    ap folded all ∙ checksum_verifies sum checksum refl

-- The header of a whole packet, written in parts: its first 12 bytes without a checksum, the other bytes, and the first 12 bytes with the
-- checksum.
pub ipv4_header_written : (written header first rest last : List ℕ) (total_len checksum : ℕ)
    → first ≡ ipv4_front header total_len ++ to_be_bytes w16 0 → rest ≡ drop 12 header
    → checksum ≡ checksum_of (total (put_mid 12 (length (first ++ drop 12 written) - 12) (first ++ drop 12 written) rest))
    → last ≡ ipv4_front header total_len ++ to_be_bytes w16 checksum
    → last ++ drop 12 (put_mid 12 (length (first ++ drop 12 written) - 12) (first ++ drop 12 written) rest)
    ≡ whole_ipv4_header header total_len
ipv4_header_written written header first rest last total_len checksum first_is rest_is checksum_is last_is =
    let front : List ℕ = ipv4_front header total_len ++ to_be_bytes w16 0 in
    let none : drop (length (front ++ drop 12 written) - 12) (drop 12 written) ≡ [] =
    drop_all (length (front ++ drop 12 written) - 12) (drop 12 written) (omega (arith, length-append front (drop 12 written))) in
    let summed : put_mid 12 (length (first ++ drop 12 written) - 12) (first ++ drop 12 written) rest
    ≡ ipv4_with_checksum header total_len 0 =
    ap (λ front. put_mid 12 (length (front ++ drop 12 written) - 12) (front ++ drop 12 written) rest) first_is
    ∙ ap (λ end. front ++ (rest ++ end)) none ∙ ap (λ rest. front ++ rest) (append-nil rest ∙ rest_is) in
    ap (λ bytes. last ++ drop 12 bytes) summed
    ∙ ap (λ front. front ++ drop 12 header)
    (last_is ∙ ap (λ checksum. ipv4_front header total_len ++ to_be_bytes w16 checksum)
    (checksum_is ∙ ap (λ bytes. checksum_of (total bytes)) summed))

-- ---- IPv6

same_some : (a b : FragmentPlace) → Some a ≡ Some b → a ≡ b
same_some a b is = cc is

some_is_none : (a : FragmentPlace) → Some a ≡ None → ⊥
some_is_none a is = cc is

pub has_ipv6 : (headers : List ℕ) (payload_len : ℕ) (found : FragmentPlace) → BeginsWithIpv6Header headers
    → Some found ≡ fragment_header_in headers
    → found.place ≤ 256 → found.place - 40 + payload_len ≤ 65535 → HasIpv6Header headers payload_len
has_ipv6 headers payload_len found begins found_is short fits =
    record { begins = begins; found = found; is_found = sym found_is; short = short; fits = fits }

pub not_found : (headers : List ℕ) (payload_len : ℕ) → None ≡ fragment_header_in headers → HasIpv6Header headers payload_len → ⊥
not_found headers payload_len none has = some_is_none has.found (sym has.is_found ∙ sym none)

pub place_of : (headers : List ℕ) (payload_len : ℕ) (found : FragmentPlace) → Some found ≡ fragment_header_in headers
    → (has : HasIpv6Header headers payload_len) → has.found ≡ found
place_of headers payload_len found found_is has = same_some has.found found (sym has.is_found ∙ sym found_is)

pub short_place : (headers : List ℕ) (payload_len : ℕ) (found : FragmentPlace) → Some found ≡ fragment_header_in headers
    → HasIpv6Header headers payload_len → (found.place ≤ 256) × (found.place - 40 + payload_len ≤ 65535)
short_place headers payload_len found found_is has =
    let place : has.found.place ≡ found.place = ap (λ (f : FragmentPlace). f.place) (place_of headers payload_len found found_is has) in
    (omega (arith, place, has.short), omega (arith, place, has.fits))

pub ipv6_written : (headers written : List ℕ) (payload_len len : ℕ) (found : FragmentPlace) → Some found ≡ fragment_header_in headers
    → len ≡ found.place - 40 + payload_len → written ≡ whole_ipv6_header headers found len
    → written ≡ ipv6_header_by headers (fragment_header_in headers) payload_len
ipv6_written headers written payload_len len found found_is len_is written_is =
    written_is ∙ ap (whole_ipv6_header headers found) len_is ∙ ap (λ place. ipv6_header_by headers place payload_len) found_is

-- ---- the headers of either version

pub payload_short : (header : List ℕ) (payload_len : ℕ) → HasWholeHeader header payload_len → payload_len ≤ 65535
payload_short header payload_len (inl has) = omega (arith, has.fits)
payload_short header payload_len (inr has) = omega (arith, has.fits)

pub only_ipv6 : (header : List ℕ) (payload_len : ℕ) → version header ≢ 4 → HasWholeHeader header payload_len
    → HasIpv6Header header payload_len
only_ipv6 header payload_len other (inl has) = absurd (other has.begins.is_version_4)
only_ipv6 header payload_len other (inr has) = has

pub only_ipv4 : (header : List ℕ) (payload_len : ℕ) → version header ≡ 4 → HasWholeHeader header payload_len
    → HasIpv4Header header payload_len
only_ipv4 header payload_len is (inl has) = has
only_ipv4 header payload_len is (inr has) = absurd (two_versions (version header) is has.begins.is_version_6)
  where
    two_versions : (n : ℕ) → n ≡ 4 → n ≡ 6 → ⊥
    two_versions n four six = omega (arith, four, six)

pub by_ipv6 : (header : List ℕ) (payload_len : ℕ) → version header ≢ 4
    → ipv6_header_by header (fragment_header_in header) payload_len ≡ whole_header header payload_len
by_ipv6 header payload_len other =
    sym (ap (λ b. if b then whole_ipv4_header (ipv4_header header) (ipv4_header_len header + payload_len)
    else ipv6_header_by header (fragment_header_in header) payload_len) (other_than_four header other))

pub by_ipv4 : (header : List ℕ) (payload_len : ℕ) → version header ≡ 4
    → whole_ipv4_header (ipv4_header header) (ipv4_header_len header + payload_len) ≡ whole_header header payload_len
by_ipv4 header payload_len is =
    sym (ap (λ b. if b then whole_ipv4_header (ipv4_header header) (ipv4_header_len header + payload_len)
    else ipv6_header_by header (fragment_header_in header) payload_len) (equal_four header is))
