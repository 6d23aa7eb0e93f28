-- What a fragment of an IP packet contains (RFC 791, section 3.2; RFC 8200, section 4.5), and which packets are refused.
use Rattle.std.specs.Prelude.{ℕ, zero, suc, ◌+◌, ◌*◌, ◌/◌, ◌==◌, Bool, false, not, ◌&&◌, nat_le, nat_lt, if◌then◌else◌, List, [], ◌∷◌, length, take, drop, slice_index, slice_range, Option, Some, None, Ok, Err, Result}
use Rattle.std.specs.Option.{option_map}
use Rattle.net_base.specs.Bytes.{be_number, flag}
use Rattle.net_base.specs.IpHeaders.{ipv4_fragment_offset, ipv4_header_len, ipv4_is_fragment, version}
use Rattle.net_base.specs.IpNumbers.{icmpv6_number, tcp_number, udp_number}
use Rattle.net_base.specs.Refusals.{first_of, refused_if}
use Rattle.ip_part.specs.ExtensionHeaders.{extension_len, fragment, fragment_offset, is_extension, is_one_of_fragments, next_number}
use Rattle.ip_part.specs.Headers.{Headers}
use Rattle.ip_part.specs.Ip as ip
use Rattle.ip_part.specs.Ip.{counted, headers_of, ipv4_header}
use Rattle.ip_part.specs.declared.ip_error.IpError.{IpError}
use Rattle.reassembly.specs.declared.fragment.Fragment.{Fragment}
use Rattle.reassembly.specs.declared.fragment_error.FragmentError.{FragmentError}
use Rattle.reassembly.specs.declared.fragment_error.FragmentError.TheVariants.{HeaderChainCutOff, Ip}
use Rattle.reassembly.specs.declared.fragment_header.FragmentPlace.{FragmentPlace}
use Rattle.reassembly.specs.declared.fragment_key.FragmentKey.{FragmentKey}
use Rattle.reassembly.specs.declared.fragment_key.FragmentKey.TheVariants as keys

-- ---- a fragment

-- A fragment, wherever its bytes are stored. All fragments of a packet share `key`. `offset` is the place of the first byte in the payload
-- of the packet, and `more_fragments` is true if more fragments follow. `bytes` are the bytes of the payload, and `header` contains the
-- headers before them.
pub record FragmentValue : Type 0 where
  pub key : FragmentKey
  pub offset : ℕ
  pub more_fragments : Bool
  pub bytes : List ℕ
  pub header : List ℕ

-- the fragment, wherever its bytes are stored
abbrev pub by_value : Fragment → FragmentValue
by_value fragment = record {
  key = fragment.key;
  offset = fragment.offset;
  more_fragments = fragment.more_fragments;
  bytes = fragment.payload.now;
  header = fragment.header.now;
}

-- ---- IPv4

-- the key of the fragments of an IPv4 packet: source, destination, protocol and identification (RFC 791, section 3.2)
abbrev pub ipv4_key : List ℕ → FragmentKey
ipv4_key header =
    keys.Ipv4 (slice_range header 12 16) (slice_range header 16 20) (record { 0 = slice_index header 9 }) (be_number header 4 2)

-- The fragment in an IPv4 packet without padding. `header` is the IPv4 header, whose offset field counts units of 8 bytes (RFC 791, section
-- 3.1).
abbrev pub ipv4_fragment_by : List ℕ → List ℕ → FragmentValue
ipv4_fragment_by header packet = record {
  key = ipv4_key header;
  offset = ipv4_fragment_offset header * 8;
  more_fragments = flag header 6 0x20;
  bytes = drop (ipv4_header_len packet) packet;
  header = header;
}

-- the fragment in an IPv4 packet without padding; `None` if the packet is not a fragment
abbrev pub ipv4_fragment_in : List ℕ → Option FragmentValue
ipv4_fragment_in packet =
    if ipv4_is_fragment (ipv4_header packet) then Some (ipv4_fragment_by (ipv4_header packet) packet) else None

-- ---- IPv6

-- The first fragment header in a packet without padding, from the header at `place` on. `number` is the number of this header, and is at
-- the place `number_at`. Each header contains the number of the next header (RFC 8200, section 4). The first argument limits the number of
-- headers.
unfoldable pub fragment_header_from : ℕ → ℕ → ℕ → ℕ → List ℕ → Option FragmentPlace
fragment_header_from zero number number_at place packet = None
fragment_header_from (suc more) number number_at place packet =
    if not (is_extension number && not (nat_lt (length packet) (place + 8))) then None
    else if number == fragment then Some (record { number_at = number_at; place = place })
    else if nat_lt (length packet) (place + extension_len number (drop place packet)) then None
    else fragment_header_from more (next_number (drop place packet)) place (place + extension_len number (drop place packet)) packet

-- the first fragment header after the IPv6 header; each header has at least one byte, so the limit is never reached
abbrev pub fragment_header_in : List ℕ → Option FragmentPlace
fragment_header_in packet = fragment_header_from (suc (length packet)) (slice_index packet 6) 6 40 packet

-- the bytes of the first fragment header of an IPv6 packet, if there is one
abbrev pub fragment_header_bytes : List ℕ → Option (List ℕ)
fragment_header_bytes packet =
    if version packet == 6 && nat_le 40 (length packet)
    then option_map (λ found. slice_range packet found.place (found.place + 8)) (fragment_header_in packet)
    else None

-- the key of the fragments of an IPv6 packet: source, destination and identification (RFC 8200, section 4.5)
abbrev pub ipv6_key : List ℕ → List ℕ → FragmentKey
ipv6_key header fragment_header =
    keys.Ipv6 (slice_range header 8 24) (slice_range header 24 40) (be_number fragment_header 4 4)

-- The fragment in an IPv6 packet without padding. `header` is the IPv6 header, `headers` ends with the fragment header, and `rest` begins
-- with the fragment header. `None` for an atomic fragment (RFC 6946). The offset in the fragment header counts units of 8 bytes (RFC 8200,
-- section 4.5).
abbrev pub ipv6_fragment_by : List ℕ → List ℕ → List ℕ → Option FragmentValue
ipv6_fragment_by header headers rest =
    if is_one_of_fragments fragment rest then Some (record {
      key = ipv6_key header rest;
      offset = fragment_offset rest * 8;
      more_fragments = flag rest 3 1;
      bytes = drop 8 rest;
      header = headers;
    }) else None

-- the fragment whose fragment header is at this place; `None` without a fragment header, or for an atomic fragment
abbrev pub ipv6_fragment_at : List ℕ → Option FragmentPlace → Option FragmentValue
ipv6_fragment_at packet None = None
ipv6_fragment_at packet (Some found) = ipv6_fragment_by (take 40 packet) (take (found.place + 8) packet) (drop found.place packet)

-- the fragment in an IPv6 packet without padding; `None` if the packet is whole
abbrev pub ipv6_fragment_in : List ℕ → Option FragmentValue
ipv6_fragment_in packet = ipv6_fragment_at packet (fragment_header_in packet)

-- ---- the call

-- the fragment in a packet of either version; the bytes that the IP header does not count are padding
abbrev pub fragment_of : List ℕ → Option FragmentValue
fragment_of packet =
    if version packet == 4 then ipv4_fragment_in (counted false packet) else ipv6_fragment_in (counted false packet)

-- The length of the transport header. It is 8 for UDP (RFC 768) and 4 for ICMPv6 (RFC 4443, section 2.1). For TCP, the high four bits of
-- byte 12 count it in words of four bytes (RFC 9293, section 3.1). If there are fewer than 20 bytes, it is 20 for TCP. It is 0 for any
-- other protocol.
abbrev pub transport_header_len : ℕ → List ℕ → ℕ
transport_header_len protocol bytes =
    if protocol == udp_number then 8
    else if protocol == icmpv6_number then 4
    else if not (protocol == tcp_number) then 0
    else if nat_lt (length bytes) 20 then 20
    else slice_index bytes 12 / 16 * 4

-- the error if the bytes end within the transport header
abbrev pub header_chain_refusal : ℕ → List ℕ → Option FragmentError
header_chain_refusal protocol bytes =
    refused_if (nat_lt (length bytes) (transport_header_len protocol bytes))
    (HeaderChainCutOff (transport_header_len protocol bytes) (length bytes))

-- the error if a first fragment, whose offset is 0, ends within its transport header; a later fragment contains no transport header
abbrev pub first_refusal : Option FragmentValue → ℕ → List ℕ → Option FragmentError
first_refusal None protocol bytes = None
first_refusal (Some fragment) protocol bytes = if fragment.offset == 0 then header_chain_refusal protocol bytes else None

-- the error if the packet is a first fragment that ends within its transport header; `None` if the headers of the packet are refused
abbrev pub transport_refusal : List ℕ → Result Headers IpError → Option FragmentError
transport_refusal packet (Err error) = None
transport_refusal packet (Ok headers) = first_refusal (fragment_of packet) headers.protocol.0 (drop headers.len (counted false packet))

-- The first error of a packet. `transport_in_ip` refuses the packet, or it is a first fragment over IPv6 that ends within its transport
-- header (RFC 7112, section 5).
abbrev pub fragment_refusal : List ℕ → Option FragmentError
fragment_refusal packet = first_of (
    option_map Ip (ip.refusal packet)
    ∷ (if version packet == 4 then None else transport_refusal packet (headers_of false packet))
    ∷ [])
