-- The numbers of the protocols that an IP packet carries, as IANA assigns them (RFC 5237).
use Rattle.std.specs.Prelude.{ℕ}

-- the number of ICMPv4 (RFC 792)
abbrev pub icmpv4_number : ℕ
icmpv4_number = 1

-- the number of TCP (RFC 9293)
abbrev pub tcp_number : ℕ
tcp_number = 6

-- the number of UDP (RFC 768)
abbrev pub udp_number : ℕ
udp_number = 17

-- the number of ICMPv6 (RFC 4443, section 1)
abbrev pub icmpv6_number : ℕ
icmpv6_number = 58
