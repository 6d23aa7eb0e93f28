-- The addresses in the translated header of a packet are where a receiver looks for them.
use Rattle.std.proofs.Common.{◌≡◌, ℕ, List, [], ◌∷◌, ◌++◌, length, drop, take, ap, sym, ◌∙◌, append_assoc, length-append, arith}
use Rattle.std.specs.Int.{to_be_bytes, w16}
use Rattle.std.specs.Prelude.{slice_range}
use Rattle.std.proofs.lemmas.List.{drop_at, take_all, take_at}
use Rattle.ip_translation.specs.HeadersToIpv4.{with_header_checksum}
use Rattle.ip_translation.specs.HeadersToIpv6.{ipv6_header}

-- the first of three parts, and the second part
first_of_three : (n : ℕ) (first second rest : List ℕ) → length first ≡ n → take n ((first ++ second) ++ rest) ≡ first
first_of_three n first second rest len = ap (take n) (append_assoc first second rest) ∙ take_at first (second ++ rest) n len

second_of_three : (n m : ℕ) (first second rest : List ℕ) → length first ≡ n → length second ≡ m
    → take m (drop n ((first ++ second) ++ rest)) ≡ second
second_of_three n m first second rest len len_too =
    ap (λ bytes. take m (drop n bytes)) (append_assoc first second rest)
    ∙ ap (take m) (drop_at first (second ++ rest) n len)
    ∙ take_at second rest m len_too

-- ---- an IPv6 header, and bytes after it

pub ipv6_source : (class len number hop : ℕ) (source destination rest : List ℕ) → length source ≡ 16
    → slice_range (ipv6_header class len (number ∷ hop ∷ []) source destination ++ rest) 8 24 ≡ source
ipv6_source class len number hop source destination rest sixteen = first_of_three 16 source destination rest sixteen

pub ipv6_destination : (class len number hop : ℕ) (source destination rest : List ℕ) → length source ≡ 16 → length destination ≡ 16
    → slice_range (ipv6_header class len (number ∷ hop ∷ []) source destination ++ rest) 24 40 ≡ destination
ipv6_destination class len number hop source destination rest sixteen sixteen_too =
    second_of_three 16 16 source destination rest sixteen sixteen_too

-- ---- the three parts of an IPv6 header, as they are written

pub source_written : (start source destination : List ℕ) → length start ≡ 8 → length source ≡ 16
    → slice_range (start ++ (source ++ destination)) 8 24 ≡ source
source_written start source destination eight sixteen =
    ap (take 16) (drop_at start (source ++ destination) 8 eight) ∙ take_at source destination 16 sixteen

pub destination_written : (start source destination : List ℕ) → length start ≡ 8 → length source ≡ 16 → length destination ≡ 16
    → slice_range (start ++ (source ++ destination)) 24 40 ≡ destination
destination_written start source destination eight sixteen sixteen_too =
    ap (λ bytes. take 16 (drop 24 bytes)) (sym (append_assoc start source destination))
    ∙ ap (take 16) (drop_at (start ++ source) destination 24 (omega (arith, eight, sixteen, length-append start source)))
    ∙ take_all 16 destination (omega (arith, sixteen_too))

-- ---- an IPv4 header

-- the bytes before the addresses
abbrev before_addresses : List ℕ → ℕ → List ℕ
before_addresses start checksum = start ++ to_be_bytes w16 checksum

twelve : (start : List ℕ) (checksum : ℕ) → length start ≡ 10 → length (before_addresses start checksum) ≡ 12
twelve start checksum ten = omega (arith, ten, length-append start (to_be_bytes w16 checksum))

pub ipv4_source : (start : List ℕ) (checksum : ℕ) (source destination : List ℕ) → length start ≡ 10 → length source ≡ 4
    → slice_range (with_header_checksum start checksum source destination) 12 16 ≡ source
ipv4_source start checksum source destination ten four =
    let before : List ℕ = before_addresses start checksum in
    ap (λ bytes. take 4 (drop 12 bytes)) (sym (append_assoc start (to_be_bytes w16 checksum) (source ++ destination)))
    ∙ ap (take 4) (drop_at before (source ++ destination) 12 (twelve start checksum ten))
    ∙ take_at source destination 4 four

pub ipv4_destination : (start : List ℕ) (checksum : ℕ) (source destination : List ℕ) → length start ≡ 10 → length source ≡ 4
    → length destination ≡ 4 → slice_range (with_header_checksum start checksum source destination) 16 20 ≡ destination
ipv4_destination start checksum source destination ten four four_too =
    let before : List ℕ = before_addresses start checksum in
    ap (λ bytes. take 4 (drop 16 bytes))
    (sym (append_assoc start (to_be_bytes w16 checksum) (source ++ destination)) ∙ sym (append_assoc before source destination))
    ∙ ap (take 4) (drop_at (before ++ source) destination 16 (omega (arith, twelve start checksum ten, four, length-append before source)))
    ∙ take_all 4 destination (omega (arith, four_too))
