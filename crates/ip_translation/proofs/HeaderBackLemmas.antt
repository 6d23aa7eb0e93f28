-- A header that is translated to IPv6 and back.
use Rattle.std.proofs.Common.{◌≡◌, ◌≢◌, ℕ, ◌+◌, ◌-◌, ◌/◌, ◌%◌, ◌==◌, ◌<◌, ◌≤◌, Bool, true, false, if◌then◌else◌, List, [], ◌∷◌, ◌++◌, length, slice_index, refl, sym, subst, ap, ap₂, ◌∙◌, arith}
use Rattle.std.proofs.lemmas.Bool.Decides.{nat_tests}
use Rattle.std.proofs.lemmas.List.{drop_all}
use Rattle.std.specs.Int.{to_be_bytes, w16}
use Rattle.net_base.specs.Bytes.{IsBytes}
use Rattle.net_base.proofs.BytesLemmas.{one_byte}
use Rattle.ip_translation.specs.Fragments.{flags, whole}
use Rattle.ip_translation.specs.HeadersToIpv4 as back
use Rattle.ip_translation.specs.HeadersToIpv6.{destination, ipv6_header, next_header, protocol, source, time_to_live, total_len, type_of_service}
use Rattle.ip_translation.specs.ThereAndBack.{header_back}

-- the twenty bytes of a header without options
twenty : (header : List ℕ) → length header ≡ 20 → slice_index header 0 ≡ 0x45
    → 0x45 ∷ slice_index header 1 ∷ slice_index header 2 ∷ slice_index header 3 ∷ slice_index header 4 ∷ slice_index header 5
    ∷ slice_index header 6 ∷ slice_index header 7 ∷ slice_index header 8 ∷ slice_index header 9 ∷ slice_index header 10
    ∷ slice_index header 11 ∷ slice_index header 12 ∷ slice_index header 13 ∷ slice_index header 14 ∷ slice_index header 15
    ∷ slice_index header 16 ∷ slice_index header 17 ∷ slice_index header 18 ∷ slice_index header 19 ∷ [] ≡ header
twenty header len first =
    one_byte header 0 1 _ _ refl (omega (arith, len)) (sym first)
    (one_byte header 1 2 _ _ refl (omega (arith, len)) refl
    (one_byte header 2 3 _ _ refl (omega (arith, len)) refl
    (one_byte header 3 4 _ _ refl (omega (arith, len)) refl
    (one_byte header 4 5 _ _ refl (omega (arith, len)) refl
    (one_byte header 5 6 _ _ refl (omega (arith, len)) refl
    (one_byte header 6 7 _ _ refl (omega (arith, len)) refl
    (one_byte header 7 8 _ _ refl (omega (arith, len)) refl
    (one_byte header 8 9 _ _ refl (omega (arith, len)) refl
    (one_byte header 9 10 _ _ refl (omega (arith, len)) refl
    (one_byte header 10 11 _ _ refl (omega (arith, len)) refl
    (one_byte header 11 12 _ _ refl (omega (arith, len)) refl
    (one_byte header 12 13 _ _ refl (omega (arith, len)) refl
    (one_byte header 13 14 _ _ refl (omega (arith, len)) refl
    (one_byte header 14 15 _ _ refl (omega (arith, len)) refl
    (one_byte header 15 16 _ _ refl (omega (arith, len)) refl
    (one_byte header 16 17 _ _ refl (omega (arith, len)) refl
    (one_byte header 17 18 _ _ refl (omega (arith, len)) refl
    (one_byte header 18 19 _ _ refl (omega (arith, len)) refl
    (one_byte header 19 20 _ [] refl (omega (arith, len)) refl (sym (drop_all 20 header (omega (arith, len)))))))))))))))))))))))

-- the header after the way back, if these are the bytes of the header
by_bytes : (identification b1 b2 b3 b4 b5 b6 b7 b8 b9 b10 b11 b12 b13 b14 b15 b16 b17 b18 b19 : ℕ) → b2 < 256 → b3 < 256
    → back.ipv4_header (back.start_of_ipv4 b1 (total_len (0x45 ∷ b1 ∷ b2 ∷ b3 ∷ b4 ∷ b5 ∷ b6 ∷ b7 ∷ b8 ∷ b9
    ∷ b10 ∷ b11 ∷ b12 ∷ b13 ∷ b14 ∷ b15 ∷ b16 ∷ b17 ∷ b18 ∷ b19 ∷ []))
    (whole identification) (b8 - 2) b9) (b12 ∷ b13 ∷ b14 ∷ b15 ∷ []) (b16 ∷ b17 ∷ b18 ∷ b19 ∷ [])
    ≡ header_back identification (0x45 ∷ b1 ∷ b2 ∷ b3 ∷ b4 ∷ b5 ∷ b6 ∷ b7 ∷ b8 ∷ b9
    ∷ b10 ∷ b11 ∷ b12 ∷ b13 ∷ b14 ∷ b15 ∷ b16 ∷ b17 ∷ b18 ∷ b19 ∷ [])
by_bytes identification b1 b2 b3 b4 b5 b6 b7 b8 b9 b10 b11 b12 b13 b14 b15 b16 b17 b18 b19 small small_too =
    let len : ℕ = total_len (0x45 ∷ b1 ∷ b2 ∷ b3 ∷ b4 ∷ b5 ∷ b6 ∷ b7 ∷ b8 ∷ b9
    ∷ b10 ∷ b11 ∷ b12 ∷ b13 ∷ b14 ∷ b15 ∷ b16 ∷ b17 ∷ b18 ∷ b19 ∷ []) in
    let high : len / 256 % 256 ≡ b2 = omega (arith, small, small_too) in
    let low : len % 256 ≡ b3 = omega (arith, small, small_too) in
    ap₂ (λ high low. back.ipv4_header (0x45 ∷ b1 ∷ high ∷ low ∷ to_be_bytes w16 identification
    ++ (to_be_bytes w16 (flags len) ++ ((b8 - 2) ∷ b9 ∷ []))) (b12 ∷ b13 ∷ b14 ∷ b15 ∷ []) (b16 ∷ b17 ∷ b18 ∷ b19 ∷ [])) high low

by_header : (identification : ℕ) (header : List ℕ) → IsBytes header → length header ≡ 20 → slice_index header 0 ≡ 0x45
    → back.ipv4_header (back.start_of_ipv4 (type_of_service header) (total_len header) (whole identification) (time_to_live header - 2)
    (protocol header)) (source header) (destination header) ≡ header_back identification header
by_header identification header fits len first =
    subst (λ header. back.ipv4_header (back.start_of_ipv4 (type_of_service header) (total_len header) (whole identification)
    (time_to_live header - 2) (protocol header)) (source header) (destination header) ≡ header_back identification header)
    (twenty header len first)
    (by_bytes identification (slice_index header 1) (slice_index header 2) (slice_index header 3) (slice_index header 4)
    (slice_index header 5) (slice_index header 6) (slice_index header 7) (slice_index header 8) (slice_index header 9)
    (slice_index header 10) (slice_index header 11) (slice_index header 12) (slice_index header 13) (slice_index header 14)
    (slice_index header 15) (slice_index header 16) (slice_index header 17) (slice_index header 18)
    (slice_index header 19) (fits 2) (fits 3))

protocol_back : (protocol : ℕ) → protocol ≢ 58 → back.protocol_of (next_header protocol) ≡ protocol
protocol_back protocol other = cases (protocol == 1) refl
  where
    cases : (test : Bool) → (protocol == 1) ≡ test → back.protocol_of (next_header protocol) ≡ protocol
    cases true is =
        let one : protocol ≡ 1 = grind (arith, nat_tests, is) in
        ap (λ protocol. back.protocol_of (next_header protocol)) one ∙ sym one
    cases false is =
        let same : next_header protocol ≡ protocol = ap (λ test. if test then 58 else protocol) is in
        let no : (protocol == 58) ≡ false = grind (arith, nat_tests, other) in
        ap back.protocol_of same ∙ ap (λ test. if test then 1 else protocol) no

-- the translated header, translated back, with these addresses
pub header_same : (identification : ℕ) (header source_6 destination_6 : List ℕ) → IsBytes header → length header ≡ 20
    → slice_index header 0 ≡ 0x45 → 20 ≤ total_len header → protocol header ≢ 58
    → back.ipv4_header (back.start_of_ipv4
    (back.traffic_class (ipv6_header (type_of_service header) (total_len header - 20)
    (next_header (protocol header) ∷ (time_to_live header - 1) ∷ []) source_6 destination_6))
    (back.payload_len (ipv6_header (type_of_service header) (total_len header - 20)
    (next_header (protocol header) ∷ (time_to_live header - 1) ∷ []) source_6 destination_6) + 20)
    (whole identification) (time_to_live header - 1 - 1) (back.protocol_of (next_header (protocol header))))
    (source header) (destination header)
    ≡ header_back identification header
header_same identification header source_6 destination_6 fits len first counted other =
    let ipv6 : List ℕ = ipv6_header (type_of_service header) (total_len header - 20)
    (next_header (protocol header) ∷ (time_to_live header - 1) ∷ []) source_6 destination_6 in
    let service : back.traffic_class ipv6 ≡ type_of_service header = omega (arith, fits 1) in
    let total : back.payload_len ipv6 + 20 ≡ total_len header = omega (arith, fits 2, fits 3, counted) in
    let hops : time_to_live header - 1 - 1 ≡ time_to_live header - 2 = omega arith in
    ap₂ (λ service total. back.ipv4_header (back.start_of_ipv4 service total (whole identification) (time_to_live header - 1 - 1)
    (back.protocol_of (next_header (protocol header)))) (source header) (destination header)) service total
    ∙ ap₂ (λ hops number. back.ipv4_header
    (back.start_of_ipv4 (type_of_service header) (total_len header) (whole identification) hops number)
    (source header) (destination header)) hops (protocol_back (protocol header) other)
    ∙ by_header identification header fits len first
