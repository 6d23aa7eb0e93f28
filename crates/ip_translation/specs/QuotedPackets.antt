-- What the translations of ICMP errors share: the prefixes of the quoted packet, and its bytes.
use Rattle.std.specs.Prelude.{ℕ, ◌+◌, ◌-◌, List, ◌∷◌, ◌++◌, length, slice_range}
use Rattle.ip_translation.specs.IcmpErrors.{min_ipv6_mtu}
use Rattle.ip_translation.specs.declared.prefixes.Prefixes.{Prefixes}

-- The quoted packet was sent in the other direction, from the destination of the error. So its addresses have the other prefixes.
abbrev pub exchanged : Prefixes → Prefixes
exchanged prefixes = record { source = prefixes.destination; destination = prefixes.source }

-- the quoted packet: all bytes after the eight bytes of an ICMP header
abbrev pub quote_of : List ℕ → List ℕ
quote_of message = slice_range message 8 (length message)

-- the greatest length of an ICMPv6 error without its IPv6 header: with this header, it has at most the least MTU of IPv6 (RFC 4443, section
-- 2.4)
abbrev pub max_error_len : ℕ
max_error_len = min_ipv6_mtu - 40

-- the length of an ICMPv6 error before the quoted message: the header of ICMPv6, and the quoted IPv6 header
abbrev pub min_error_len : ℕ
min_error_len = 8 + 40

-- the greatest length of a quoted packet, which follows the header of ICMPv6
abbrev pub max_packet_len : ℕ
max_packet_len = max_error_len - 8

-- the greatest length of a quoted message
abbrev pub max_quoted_len : ℕ
max_quoted_len = max_error_len - min_error_len

-- an error: type and code, 0 instead of the checksum, the word after it, and the quoted packet
abbrev pub joined : ℕ × ℕ → List ℕ → List ℕ → List ℕ
joined new_kind word packet = new_kind.0 ∷ new_kind.1 ∷ 0 ∷ 0 ∷ word ++ packet
