-- The errors of ICMP and ICMPv6, translated into each other (RFC 7915, sections 4.2 and 5.2).
use Rattle.std.specs.Prelude.{ℕ, ◌+◌, ◌-◌, ◌==◌, ◌&&◌, max, min, nat_le, nat_lt, if◌then◌else◌, List, [], ◌∷◌, Option}
use Rattle.std.specs.List.{find}
use Rattle.std.specs.Map.{lookup}
use Rattle.std.specs.Option.{unwrap_or}

-- ---- types and codes

-- The ICMPv6 type and code for each type and code of an ICMP error (RFC 7915, section 4.2). "Time exceeded", type 11, keeps its code,
-- whatever this code is. All other messages are dropped.
abbrev pub errors_to_ipv6 : ℕ → List ((ℕ × ℕ) × (ℕ × ℕ))
errors_to_ipv6 code =
    ((3, 0), (1, 0)) ∷ ((3, 1), (1, 0)) ∷ ((3, 2), (4, 1)) ∷ ((3, 3), (1, 4))
    ∷ ((3, 4), (2, 0)) ∷ ((3, 5), (1, 0)) ∷ ((3, 6), (1, 0)) ∷ ((3, 7), (1, 0))
    ∷ ((3, 8), (1, 0)) ∷ ((3, 9), (1, 1)) ∷ ((3, 10), (1, 1)) ∷ ((3, 11), (1, 0))
    ∷ ((3, 12), (1, 0)) ∷ ((3, 13), (1, 1)) ∷ ((3, 15), (1, 1))
    ∷ ((11, code), (3, code))
    ∷ ((12, 0), (4, 0)) ∷ ((12, 2), (4, 0)) ∷ []

-- The ICMP type and code for each type and code of an ICMPv6 error (RFC 7915, section 5.2). "Packet too big", type 2, may have any code
-- (RFC 4443, section 3.2). "Time exceeded", type 3, keeps its code. All other messages are dropped.
abbrev pub errors_to_ipv4 : ℕ → List ((ℕ × ℕ) × (ℕ × ℕ))
errors_to_ipv4 code =
    ((1, 0), (3, 1)) ∷ ((1, 1), (3, 10)) ∷ ((1, 2), (3, 1)) ∷ ((1, 3), (3, 1)) ∷ ((1, 4), (3, 3))
    ∷ ((2, code), (3, 4))
    ∷ ((3, code), (11, code))
    ∷ ((4, 0), (12, 0)) ∷ ((4, 1), (3, 2)) ∷ []

-- the type and the code of the row for this type and this code; `None` if there is no row
abbrev pub error_in : List ((ℕ × ℕ) × (ℕ × ℕ)) → ℕ → ℕ → Option (ℕ × ℕ)
error_in rows type code = lookup (λ row. type == row.0 && code == row.1) rows

-- ---- pointers

-- The place in an IPv6 header for each place in an IPv4 header, in bytes (RFC 7915, section 4.2, figure 3). A row is the first and the last
-- of the places in IPv4, and the place in IPv6. The identification, the flags, the fragment offset and the checksum have no place.
abbrev pub pointers_to_ipv6 : List ((ℕ × ℕ) × ℕ)
pointers_to_ipv6 =
    ((0, 0), 0) ∷ ((1, 1), 1) ∷ ((2, 3), 4) ∷ ((8, 8), 7) ∷ ((9, 9), 6) ∷ ((12, 15), 8) ∷ ((16, 19), 24) ∷ []

-- The place in an IPv4 header for each place in an IPv6 header, in bytes (RFC 7915, section 5.2, figure 6). The last two bytes of the flow
-- label have no place.
abbrev pub pointers_to_ipv4 : List ((ℕ × ℕ) × ℕ)
pointers_to_ipv4 =
    ((0, 0), 0) ∷ ((1, 1), 1) ∷ ((4, 5), 2) ∷ ((6, 6), 9) ∷ ((7, 7), 8) ∷ ((8, 23), 12) ∷ ((24, 39), 16) ∷ []

-- the place of the row that contains this pointer; `None` if no row contains it
abbrev pub pointer_in : List ((ℕ × ℕ) × ℕ) → ℕ → Option ℕ
pointer_in rows pointer = lookup (λ row. nat_le row.0 pointer && nat_le pointer row.1) rows

-- ---- MTUs

-- the MTUs that were usual on IPv4 (RFC 1191, section 7.1), the greatest first
abbrev pub plateaus : List ℕ
plateaus = 65535 ∷ 32000 ∷ 17914 ∷ 8166 ∷ 4352 ∷ 2002 ∷ 1492 ∷ 1006 ∷ 508 ∷ 296 ∷ 68 ∷ []

-- The MTU of a path over IPv4. A router that does not implement RFC 1191 reports 0. Then the MTU is the greatest plateau below the total
-- length of the packet that was too big (RFC 7915, section 4.2).
abbrev pub path_mtu : ℕ → ℕ → ℕ
path_mtu mtu total_len = if mtu == 0 then unwrap_or (find (λ plateau. nat_lt plateau total_len) plateaus) 0 else mtu

-- the least MTU of IPv6 (RFC 8200, section 5)
abbrev pub min_ipv6_mtu : ℕ
min_ipv6_mtu = 1280

-- the MTU that "packet too big" reports: an IPv6 header is 20 bytes longer, and IPv6 has a least MTU (RFC 7915, section 4.2)
abbrev pub mtu_to_ipv6 : ℕ → ℕ → ℕ
mtu_to_ipv6 mtu total_len = max min_ipv6_mtu (path_mtu mtu total_len + 20)

-- the MTU that "fragmentation needed" reports: an IPv4 header is 20 bytes shorter, and the field has 16 bits (RFC 7915, section 5.2)
abbrev pub mtu_to_ipv4 : ℕ → ℕ
mtu_to_ipv4 mtu = min 65535 (mtu - 20)
