-- Worked examples of the ends of a flow: UDP, a query, a later fragment, and an ICMP error that quotes eight bytes of TCP.
use Rattle.std.proofs.Common.{◌≡◌, ℕ, true, false, List, [], ◌∷◌, Some, None, refl}
use Rattle.ip_part.specs.Addresses.{Ipv4}
use Rattle.ip_part.specs.Ip.{headers_to_transport}
use Rattle.ip_part.specs.Options.{options_within}
use Rattle.etherparse_transport.specs.Flows.{Ends, flow_of}

-- an IPv4 header from 192.168.1.2 to 198.51.100.7, with these bytes 6 and 7 (flags and fragment offset), this protocol, and this payload
abbrev over_ipv4 : ℕ → ℕ → ℕ → ℕ → List ℕ → List ℕ
over_ipv4 len flags offset protocol payload =
    0x45 ∷ 0 ∷ 0 ∷ len ∷ 0 ∷ 0 ∷ flags ∷ offset ∷ 64 ∷ protocol ∷ 0 ∷ 0 ∷ 192 ∷ 168 ∷ 1 ∷ 2 ∷ 198 ∷ 51 ∷ 100 ∷ 7 ∷ payload

-- the ends of a whole packet of this protocol between these addresses
abbrev ends_over_ipv4 : ℕ → Ends
ends_over_ipv4 protocol = record {
  addresses = Ipv4 (192 ∷ 168 ∷ 1 ∷ 2 ∷ []) (198 ∷ 51 ∷ 100 ∷ 7 ∷ []);
  protocol = protocol;
  is_fragment = false;
  is_later_fragment = false;
  source_port = None;
  destination_port = None;
}

-- UDP from port 5000 to port 53
abbrev udp_header : List ℕ
udp_header = 0x13 ∷ 0x88 ∷ 0 ∷ 53 ∷ 0 ∷ 8 ∷ 0 ∷ 0 ∷ []

udp_ports : flow_of (over_ipv4 28 0 0 17 udp_header)
    ≡ Some (record { ends = record (ends_over_ipv4 17) { source_port = Some 5000; destination_port = Some 53 }; quoted = None })
unfolding headers_to_transport options_within
udp_ports = refl

-- the same bytes in the first fragment, and in a fragment at the offset 8
first_fragment : flow_of (over_ipv4 28 0x20 0 17 udp_header)
    ≡ Some (record {
      ends = record (ends_over_ipv4 17) { is_fragment = true; source_port = Some 5000; destination_port = Some 53 };
      quoted =
          None;
    })
unfolding headers_to_transport options_within
first_fragment = refl

later_fragment : flow_of (over_ipv4 28 0 1 17 udp_header)
    ≡ Some (record { ends = record (ends_over_ipv4 17) { is_fragment = true; is_later_fragment = true }; quoted = None })
unfolding headers_to_transport options_within
later_fragment = refl

-- the identifier 7 of an echo request belongs to the source, and that of a reply to the destination
echo_request : flow_of (over_ipv4 28 0 0 1 (8 ∷ 0 ∷ 0 ∷ 0 ∷ 0 ∷ 7 ∷ 0 ∷ 1 ∷ []))
    ≡ Some (record { ends = record (ends_over_ipv4 1) { source_port = Some 7 }; quoted = None })
unfolding headers_to_transport options_within
echo_request = refl

echo_reply : flow_of (over_ipv4 28 0 0 1 (0 ∷ 0 ∷ 0 ∷ 0 ∷ 0 ∷ 7 ∷ 0 ∷ 1 ∷ []))
    ≡ Some (record { ends = record (ends_over_ipv4 1) { destination_port = Some 7 }; quoted = None })
unfolding headers_to_transport options_within
echo_reply = refl

-- destination unreachable, about a packet of 40 bytes of which eight bytes of TCP are quoted, from port 443 to port 40000
quoted_tcp : List ℕ
quoted_tcp = 0x45 ∷ 0 ∷ 0 ∷ 40 ∷ 0 ∷ 0 ∷ 0 ∷ 0 ∷ 63 ∷ 6 ∷ 0 ∷ 0 ∷ 198 ∷ 51 ∷ 100 ∷ 7 ∷ 192 ∷ 168 ∷ 1 ∷ 2
    ∷ 1 ∷ 0xBB ∷ 0x9C ∷ 0x40 ∷ 0 ∷ 0 ∷ 0 ∷ 1 ∷ []

unreachable : flow_of (over_ipv4 56 0 0 1 (3 ∷ 1 ∷ 0 ∷ 0 ∷ 0 ∷ 0 ∷ 0 ∷ 0 ∷ quoted_tcp))
    ≡ Some (record {
      ends = ends_over_ipv4 1;
      quoted = Some (record {
        addresses = Ipv4 (198 ∷ 51 ∷ 100 ∷ 7 ∷ []) (192 ∷ 168 ∷ 1 ∷ 2 ∷ []);
        protocol = 6;
        is_fragment = false;
        is_later_fragment = false;
        source_port = Some 443;
        destination_port = Some 40000;
      });
    })
unfolding quoted_tcp headers_to_transport options_within
unreachable = refl

-- a packet that is neither of version 4 nor of version 6
refused : flow_of (0x50 ∷ []) ≡ None
refused = refl
