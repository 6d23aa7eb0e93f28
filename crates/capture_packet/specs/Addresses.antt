-- The addresses of an IP packet.
use Rattle.std.specs.Prelude.{◌≡◌, ℕ, Bool, true, false, List, Option, Some, None, codes}
use Rattle.std.specs.Net.Addr.{IsV4And, IsV6And, ipv4_octets, ipv6_segments, segments_of}
use Rattle.std.specs.Net.Text.{ipv4_text, ipv6_text}
use Rattle.std.specs.declared.net.ip_addr.IpAddr.{IpAddr}
use Rattle.ip_part.specs.Addresses.{Addresses, Ipv4, Ipv6}

-- this is the IPv4 address with these octets
abbrev pub IsIpv4Address : List ℕ → IpAddr → Type 0
IsIpv4Address octets address = IsV4And address (λ ip. ipv4_octets ip ≡ octets)

-- this is the IPv6 address with these octets
abbrev pub IsIpv6Address : List ℕ → IpAddr → Type 0
IsIpv6Address octets address = IsV6And address (λ ip. ipv6_segments ip ≡ segments_of octets)

-- this is the address of the sender
abbrev pub IsSource : Addresses → IpAddr → Type 0
IsSource (Ipv4 source destination) address = IsIpv4Address source address
IsSource (Ipv6 source destination) address = IsIpv6Address source address

-- whether the address of the final receiver is known
abbrev pub has_destination : Addresses → Bool
has_destination (Ipv4 source destination) = true
has_destination (Ipv6 source (Some destination)) = true
has_destination (Ipv6 source None) = false

-- this is the address of the final receiver, or `None` if it is not known
abbrev pub IsDestination : Addresses → Option IpAddr → Type 0
IsDestination (Ipv4 source destination) (Some address) = IsIpv4Address destination address
IsDestination (Ipv4 source destination) None = ⊥
IsDestination (Ipv6 source (Some destination)) (Some address) = IsIpv6Address destination address
IsDestination (Ipv6 source (Some destination)) None = ⊥
IsDestination (Ipv6 source None) address = address ≡ None

-- the source address as text; an IPv6 address is in the format of RFC 5952
abbrev pub source_text : Addresses → List ℕ
source_text (Ipv4 source destination) = ipv4_text source
source_text (Ipv6 source destination) = ipv6_text (segments_of source)

-- the address of the final receiver as text, or `unknown`; an IPv6 address is in the format of RFC 5952
abbrev pub destination_text : Addresses → List ℕ
destination_text (Ipv4 source destination) = ipv4_text destination
destination_text (Ipv6 source (Some destination)) = ipv6_text (segments_of destination)
destination_text (Ipv6 source None) = codes "unknown"
