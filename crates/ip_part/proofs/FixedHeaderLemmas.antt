-- The fixed part of an IP header, given the bytes of the header or the packet.
use Rattle.std.proofs.Common.{◌≡◌, ◌≤◌, ◌-◌, ◌+◌, ◌==◌, ◌&&◌, ℕ, true, nat_le, if◌then◌else◌, List, length, take, drop, slice_range, Some, None, sym, ◌∙◌, ap, arith}
use Rattle.std.proofs.lemmas.Bool.Decides.{nat_tests}
use Rattle.std.proofs.lemmas.List.{drop-take, get_or-take, take-take}
use Rattle.net_base.specs.IpHeaders.{version}
use Rattle.ip_part.specs.FixedHeaders.{fixed_header, fixed_ipv4, fixed_ipv6}

-- a range of a beginning is a range of all elements
range_within : (a b n : ℕ) (xs : List ℕ) → a ≤ b → b ≤ n → slice_range (take n xs) a b ≡ slice_range xs a b
range_within a b n xs order within =
    let split : n ≡ a + (n - a) = omega arith in
    ap (λ m. take (b - a) (drop a (take m xs))) split
    ∙ ap (λ ys. take (b - a) ys) (drop-take a (n - a) xs)
    ∙ take-take (b - a) (n - a) (drop a xs) (omega arith)

-- the header of a packet and the packet have the same fixed part
ipv4_kept : (n : ℕ) (packet : List ℕ) → 20 ≤ n → fixed_ipv4 (take n packet) ≡ fixed_ipv4 packet
ipv4_kept n packet long = cc (
  range_within 12 16 n packet (omega arith) (omega (arith, long)),
  range_within 16 20 n packet (omega arith) (omega (arith, long)),
  get_or-take n packet 8 0 (omega (arith, long)),
  get_or-take n packet 9 0 (omega (arith, long)),
)

ipv6_kept : (packet : List ℕ) → fixed_ipv6 (take 40 packet) ≡ fixed_ipv6 packet
ipv6_kept packet = cc (
  range_within 8 24 40 packet (omega arith) (omega arith),
  range_within 24 40 40 packet (omega arith) (omega arith),
  get_or-take 40 packet 7 0 (omega arith),
  get_or-take 40 packet 6 0 (omega arith),
)

pub ipv4_fixed : (n : ℕ) (packet header : List ℕ) → version packet ≡ 4 → 20 ≤ length packet → 20 ≤ n → header ≡ take n packet
    → fixed_header packet ≡ Some (fixed_ipv4 header)
ipv4_fixed n packet header is there long kept =
    let other = if version packet == 6 && nat_le 40 (length packet) then Some (fixed_ipv6 packet) else None in
    let whole : nat_le 20 (length packet) ≡ true = grind (arith, nat_tests) in
    ap (λ v. if v == 4 && nat_le 20 (length packet) then Some (fixed_ipv4 packet) else other) is
    ∙ ap (λ b. if b then Some (fixed_ipv4 packet) else other) whole
    ∙ ap Some (sym (ipv4_kept n packet long)) ∙ ap (λ bytes. Some (fixed_ipv4 bytes)) (sym kept)

pub ipv6_fixed : (packet header : List ℕ) → version packet ≡ 6 → 40 ≤ length packet → header ≡ take 40 packet
    → fixed_header packet ≡ Some (fixed_ipv6 header)
ipv6_fixed packet header is there kept =
    let whole : nat_le 40 (length packet) ≡ true = grind (arith, nat_tests) in
    ap (λ v. if v == 4 && nat_le 20 (length packet) then Some (fixed_ipv4 packet)
    else if v == 6 && nat_le 40 (length packet) then Some (fixed_ipv6 packet) else None) is
    ∙ ap (λ b. if b then Some (fixed_ipv6 packet) else None) whole
    ∙ ap Some (sym (ipv6_kept packet)) ∙ ap (λ bytes. Some (fixed_ipv6 bytes)) (sym kept)
