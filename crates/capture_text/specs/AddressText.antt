-- Addresses and ports in the line of a packet.
use Rattle.std.specs.Prelude.{ℕ, List, ◌++◌, codes, decimal, Some, None}
use Rattle.std.specs.Net.Addr.{segments_of}
use Rattle.std.specs.Net.Text.{ipv4_text, ipv6_text}
use Rattle.ip_part.specs.Addresses.{Addresses, Ipv4, Ipv6}
use Rattle.capture_packet.specs.Addresses.{destination_text, source_text}

-- the addresses of a packet
abbrev pub addresses_text : Addresses → List ℕ
addresses_text addresses = source_text addresses ++ codes " > " ++ destination_text addresses

-- an IPv4 address with its port
abbrev pub ipv4_endpoint : List ℕ → ℕ → List ℕ
ipv4_endpoint address port = ipv4_text address ++ codes ":" ++ decimal port

-- an IPv6 address in brackets with its port (RFC 5952, section 6)
abbrev pub ipv6_endpoint : List ℕ → ℕ → List ℕ
ipv6_endpoint address port = codes "[" ++ ipv6_text (segments_of address) ++ codes "]:" ++ decimal port

-- the source with its port
abbrev pub source_endpoint : Addresses → ℕ → List ℕ
source_endpoint (Ipv4 source destination) port = ipv4_endpoint source port
source_endpoint (Ipv6 source destination) port = ipv6_endpoint source port

-- the final destination with its port; an unknown address is the word `unknown`
abbrev pub destination_endpoint : Addresses → ℕ → List ℕ
destination_endpoint (Ipv4 source destination) port = ipv4_endpoint destination port
destination_endpoint (Ipv6 source (Some destination)) port = ipv6_endpoint destination port
destination_endpoint (Ipv6 source None) port = codes "unknown:" ++ decimal port

-- the addresses of a packet with its ports
abbrev pub endpoints_text : Addresses → ℕ → ℕ → List ℕ
endpoints_text addresses source_port destination_port =
    source_endpoint addresses source_port ++ codes " > " ++ destination_endpoint addresses destination_port
