-- The fields of a fragment (RFC 791, section 3.1; RFC 8200, section 4.5).
use Rattle.std.specs.Prelude.{ℕ, ◌*◌, ◌==◌, ◌&&◌, nat_le, if◌then◌else◌, List, length, Option, Some, None, option_and_then}
use Rattle.net_base.specs.Bytes.{be_number, flag}
use Rattle.net_base.specs.IpHeaders.{ipv4_fragment_offset, ipv4_is_fragment, version}
use Rattle.ip_part.specs.ExtensionHeaders.{fragment, fragment_offset, is_one_of_fragments}
use Rattle.reassembly.specs.Fragments.{fragment_header_bytes}
use Rattle.capture_packet.specs.declared.fragment_fields.FragmentFields.{FragmentFields}
use Rattle.capture_packet.specs.declared.fragment_fields.Identification.TheVariants.{Ipv4, Ipv6}

-- The fields in an IPv4 header; `None` if the packet is whole. The identification is in bytes 4 and 5. The offset counts units of 8 bytes,
-- and the bit 0x20 of byte 6 states that more fragments follow (RFC 791, section 3.1).
abbrev pub ipv4_fields : List ℕ → Option FragmentFields
ipv4_fields header =
    if ipv4_is_fragment header then Some (record {
      identification = Ipv4 (be_number header 4 2);
      offset = ipv4_fragment_offset header * 8;
      more_fragments = flag header 6 0x20;
    }) else None

-- The fields in a fragment header of IPv6; `None` for an atomic fragment (RFC 6946). The identification is in bytes 4 to 7. The offset
-- counts units of 8 bytes, and the bit 0x01 of byte 3 states that more fragments follow (RFC 8200, section 4.5).
abbrev pub ipv6_fields : List ℕ → Option FragmentFields
ipv6_fields header =
    if is_one_of_fragments fragment header then Some (record {
      identification = Ipv6 (be_number header 4 4);
      offset = fragment_offset header * 8;
      more_fragments = flag header 3 1;
    }) else None

-- The fields of the fragment in an IP packet. `None` if the packet is whole. If an IPv6 packet has several fragment headers, the first is
-- read.
abbrev pub fragment_fields : List ℕ → Option FragmentFields
fragment_fields packet =
    if nat_le 20 (length packet) && version packet == 4 then ipv4_fields packet
    else option_and_then ipv6_fields (fragment_header_bytes packet)
