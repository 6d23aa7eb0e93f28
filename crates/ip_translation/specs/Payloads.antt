-- The bytes that a translation between IPv4 and IPv6 keeps: all bytes after the transport header.
use Rattle.std.specs.Prelude.{◌≡◌, ℕ, ◌+◌, ◌==◌, true, false, if◌then◌else◌, List, Option, drop}
use Rattle.ip_part.specs.Ip.{ipv4_header, ipv6_header}
use Rattle.net_base.specs.IpHeaders.{ipv4_is_fragment}
use Rattle.net_base.specs.IpNumbers.{icmpv4_number, icmpv6_number, tcp_number, udp_number}
use Rattle.ip_translation.specs.FragmentHeaders as parts
use Rattle.ip_translation.specs.Fragments.{is_later, is_part}
use Rattle.ip_translation.specs.HeadersToIpv4.{next_header}
use Rattle.ip_translation.specs.HeadersToIpv6.{protocol}
use Rattle.ip_translation.specs.PacketsToIpv4 as over_ipv6
use Rattle.ip_translation.specs.PacketsToIpv6 as over_ipv4

-- The length in bytes of the header of an echo message (RFC 792; RFC 4443, section 4.1), of UDP (RFC 768), and of TCP without its options
-- (RFC 9293, section 3.1). It is 0 for any other protocol. `icmp` is the number of ICMP or ICMPv6.
abbrev pub transport_header_len : ℕ → ℕ → ℕ
transport_header_len icmp protocol =
    if protocol == icmp then 8
    else if protocol == udp_number then 8
    else if protocol == tcp_number then 20
    else 0

-- The translated packet consists of headers of this length and of the translated message. After their first `len` bytes, the translated
-- message and the message contain the same bytes.
abbrev pub IsKeptAfter : ℕ → ℕ → List ℕ → List ℕ → Type 0
IsKeptAfter len headers_len message translated = drop (headers_len + len) translated ≡ drop len message

-- the length of the transport header of an IPv4 packet
abbrev pub ipv4_transport_len : List ℕ → ℕ
ipv4_transport_len packet = transport_header_len icmpv4_number (protocol (ipv4_header packet))

-- The bytes after the transport header of an IPv4 packet are the bytes after the transport header of the translated packet. A translated
-- fragment has an IPv6 header and a fragment header. A later fragment has no transport header. The record states nothing of an ICMP error,
-- whose quoted packet is translated.
pub record IsIpv4PayloadKept (packet translated : List ℕ) : Type 0 where
  pub whole : ipv4_is_fragment (ipv4_header packet) ≡ false
      → over_ipv4.is_icmp_error (protocol (ipv4_header packet)) (over_ipv4.message_of packet) ≡ false
      → IsKeptAfter (ipv4_transport_len packet) 40 (over_ipv4.message_of packet) translated
  pub first : ipv4_is_fragment (ipv4_header packet) ≡ true → parts.is_later (ipv4_header packet) ≡ false
      → IsKeptAfter (ipv4_transport_len packet) 48 (over_ipv4.message_of packet) translated
  pub later : ipv4_is_fragment (ipv4_header packet) ≡ true → parts.is_later (ipv4_header packet) ≡ true
      → IsKeptAfter 0 48 (over_ipv4.message_of packet) translated

-- the length of the transport header of an IPv6 packet
abbrev pub ipv6_transport_len : List ℕ → ℕ
ipv6_transport_len packet = transport_header_len icmpv6_number (next_header (over_ipv6.direct_header packet))

-- the flags and the offset in the fragment header of an IPv6 packet, if there is one
abbrev pub fragment_field_of : List ℕ → Option ℕ
fragment_field_of packet = over_ipv6.flags_in (ipv6_header packet) (over_ipv6.payload_of packet)

-- The bytes after the transport header of an IPv6 packet are the bytes after the transport header of the translated packet. A later
-- fragment has no transport header. The record states nothing of an ICMPv6 error, whose quoted packet is translated.
pub record IsIpv6PayloadKept (packet translated : List ℕ) : Type 0 where
  pub whole : is_part (fragment_field_of packet) ≡ false
      → over_ipv6.is_icmp_error (next_header (over_ipv6.direct_header packet)) (over_ipv6.message_of packet) ≡ false
      → IsKeptAfter (ipv6_transport_len packet) 20 (over_ipv6.message_of packet) translated
  pub first : is_part (fragment_field_of packet) ≡ true → is_later (fragment_field_of packet) ≡ false
      → IsKeptAfter (ipv6_transport_len packet) 20 (over_ipv6.message_of packet) translated
  pub later : is_part (fragment_field_of packet) ≡ true → is_later (fragment_field_of packet) ≡ true
      → IsKeptAfter 0 20 (over_ipv6.message_of packet) translated
