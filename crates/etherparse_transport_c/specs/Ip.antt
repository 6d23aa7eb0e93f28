-- The transport in an IP packet, in the interface to C.
use Rattle.std.specs.Prelude.{◌≡◌, ◌≤◌, ℕ, Bool, true, false, ◌+◌, ◌-◌, ◌*◌, ◌/◌, ◌%◌, ◌==◌, if◌then◌else◌, List, ◌++◌, length, replicate, slice_index, slice_range, Option, Some, None, Result, Ok, Err}
use Rattle.std.specs.Int.{from_bool}
use Rattle.std.specs.Option.{option_map}
use Rattle.ip_part.specs.ExtensionHeaders.{fragment_offset}
use Rattle.ip_part.specs.Ip as ip
use Rattle.ip_part.specs.Ip.{Carries, counted, is_cut_off}
use Rattle.ip_part.specs.FixedHeaders as fixed
use Rattle.ip_part.specs.FixedHeaders.{Fixed, fixed_header}
use Rattle.ip_part.specs.Headers.{Headers}
use Rattle.ip_part.specs.Addresses.{Addresses, Ipv4, Ipv6}
use Rattle.ip_part.specs.declared.ip_error.IpError.{IpError}
use Rattle.ip_part.specs.declared.transport.TransportInIp.{TransportInIp}
use Rattle.net_base.specs.Bytes.{be_number, flag}
use Rattle.net_base.specs.IpHeaders.{ipv4_fragment_offset, version}
use Rattle.reassembly.specs.Fragments.{fragment_header_bytes}
use Rattle.etherparse_transport_c.specs.Errors.{of_ip}
use Rattle.etherparse_transport_c.specs.declared.error.EtherparseError.{EtherparseError}
use Rattle.etherparse_transport_c.specs.declared.ip.EtherparseIpTransport.{EtherparseIpTransport}
use Rattle.etherparse_transport_c.specs.declared.ip.HeaderFields.{HeaderFields}

-- the refusal of a packet
abbrev pub refusal : List ℕ → Option EtherparseError
refusal packet = option_map of_ip (ip.refusal packet)

-- the refusal of a packet that may be cut off or state no length
abbrev pub lax_refusal : List ℕ → Option EtherparseError
lax_refusal packet = option_map of_ip (ip.lax_refusal packet)

-- ---- addresses

-- the IP version of these addresses
abbrev pub version_of : Addresses → ℕ
version_of (Ipv4 source destination) = 4
version_of (Ipv6 source destination) = 6

-- an IPv4 address in 16 bytes: the first four contain the address, and the other twelve are 0
abbrev pub ipv4_address : List ℕ → List ℕ
ipv4_address address = address ++ replicate 12 0

-- the source in 16 bytes
abbrev pub source_of : Addresses → List ℕ
source_of (Ipv4 source destination) = ipv4_address source
source_of (Ipv6 source destination) = source

-- the final destination in 16 bytes; all bytes are 0 if the destination is not known
abbrev pub destination_of : Addresses → List ℕ
destination_of (Ipv4 source destination) = ipv4_address destination
destination_of (Ipv6 source (Some destination)) = destination
destination_of (Ipv6 source None) = replicate 16 0

-- the final destination is known
abbrev pub has_destination : Addresses → Bool
has_destination (Ipv4 source destination) = true
has_destination (Ipv6 source (Some destination)) = true
has_destination (Ipv6 source None) = false

-- ---- fields of the headers

-- The fields of an IPv4 header (RFC 791, section 3.1). The fragment offset of the header counts units of 8 bytes.
abbrev pub ipv4_fields : List ℕ → HeaderFields
ipv4_fields packet = record {
  fragment_offset = ipv4_fragment_offset packet * 8;
  identification = be_number packet 4 2;
  dont_fragment = from_bool (flag packet 6 0x40);
  traffic_class = slice_index packet 1;
}

-- a number that is read from the fragment header of an IPv6 packet, or 0 if the packet has no fragment header
abbrev pub in_fragment_header : (List ℕ → ℕ) → Option (List ℕ) → ℕ
in_fragment_header number None = 0
in_fragment_header number (Some header) = number header

-- the fields of an IPv6 header (RFC 8200, section 3), and of the first fragment header after it (RFC 8200, section 4.5)
abbrev pub ipv6_fields : List ℕ → HeaderFields
ipv6_fields packet = record {
  fragment_offset = in_fragment_header (λ header. fragment_offset header * 8) (fragment_header_bytes packet);
  identification = in_fragment_header (λ header. be_number header 4 4) (fragment_header_bytes packet);
  dont_fragment = 0;
  traffic_class = be_number packet 0 2 / 16 % 256;
}

-- the fields of an IPv4 or IPv6 header
abbrev pub header_fields : List ℕ → HeaderFields
header_fields packet = if version packet == 4 then ipv4_fields packet else ipv6_fields packet

-- ---- the transport

-- The number of hops that are left, from the fixed part of an IP header. Each accepted packet contains this part, so `None` does not occur.
abbrev pub hop_limit_in : Option Fixed → ℕ
hop_limit_in (Some (fixed.Ipv4 source destination time_to_live protocol)) = time_to_live
hop_limit_in (Some (fixed.Ipv6 source destination hop_limit next_header)) = hop_limit
hop_limit_in None = 0

-- The result of reading a packet with these headers. The payload begins after the headers. It ends with the last byte that the IP header
-- counts, or with the packet if the packet is cut off.
abbrev pub transport_in : Bool → List ℕ → Headers → EtherparseIpTransport
transport_in is_length_missing packet headers = record {
  version = version_of headers.addresses;
  protocol = headers.protocol.0;
  payload_offset = headers.len;
  payload_len = length (counted is_length_missing packet) - headers.len;
  is_fragment = from_bool headers.is_fragment;
  is_cut_off = from_bool (is_cut_off is_length_missing packet);
  has_destination = from_bool (has_destination headers.addresses);
  source = source_of headers.addresses;
  destination = destination_of headers.addresses;
  is_length_missing = from_bool is_length_missing;
  is_later_fragment = from_bool headers.is_later_fragment;
  hop_limit = hop_limit_in (fixed_header packet);
  fragment_offset = (header_fields packet).fragment_offset;
  identification = (header_fields packet).identification;
  dont_fragment = (header_fields packet).dont_fragment;
  traffic_class = (header_fields packet).traffic_class;
}

-- the value after the call: the result of reading a packet with these headers, or the old value if the headers are refused
abbrev pub found : Bool → List ℕ → Result Headers IpError → EtherparseIpTransport → EtherparseIpTransport
found is_length_missing packet (Ok headers) before = transport_in is_length_missing packet headers
found is_length_missing packet (Err error) before = before

-- The payload is a part of the packet, and is the payload that the library in Rattle finds. It ends with the last byte that the IP header
-- counts, or with the packet if the packet is cut off.
pub record HasPayload (is_length_missing : Bool) (packet : List ℕ) (transport : EtherparseIpTransport) : Type 0 where
  pub ends : transport.payload_offset + transport.payload_len ≡ length (counted is_length_missing packet)
  pub within : transport.payload_offset + transport.payload_len ≤ length packet
  pub payload : (carried : TransportInIp) → Carries packet carried → carried.is_length_missing ≡ is_length_missing
      → slice_range packet transport.payload_offset (transport.payload_offset + transport.payload_len) ≡ carried.payload.now
