-- Worked examples of frames, from their bytes to the packets that are read in them, so that a wrong definition fails before any code does.
use Rattle.std.proofs.Common.{◌≡◌, ◌∙◌, ℕ, false, List, [], ◌∷◌, None, Some, ap, append-nil, arith, drop, inl, refl, sym}
use Rattle.std.specs.Borrow.{Bor}
use Rattle.ip_part.proofs.OptionsLemmas.{are_ipv6_options}
use Rattle.ip_part.specs.Addresses.{by_value}
use Rattle.ip_part.specs.ExtensionHeaders.{ExtensionHeader}
use Rattle.ip_part.specs.Ip.{Carries, IsAfterHeaders, Reads, headers_to_transport}
use Rattle.ip_part.specs.Options.{options_within}
use Rattle.ip_part.specs.declared.fixed_part.FixedHeader.TheVariants as fixed
use Rattle.ip_part.specs.declared.ip_addresses.IpAddresses.{IpAddresses}
use Rattle.ip_part.specs.declared.ip_addresses.IpAddresses.TheVariants.{Ipv4}
use Rattle.ip_part.specs.declared.ip_error.IpError.TheVariants.{Version}
use Rattle.ip_part.specs.declared.proto.Proto.TheVariants as protos
use Rattle.ip_part.specs.declared.transport.TransportInIp.{TransportInIp}
use Rattle.transport_part.specs.declared.checksum_verdict.ChecksumVerdict.TheVariants.{Right}
use Rattle.transport_part.specs.declared.transport_slice.TransportSlice.TheVariants as slices
use Rattle.word_sum.specs.Checksum.{folded}
use Rattle.capture_numbers.specs.declared.byte_order.ByteOrder.TheVariants.{LittleEndian}
use Rattle.capture_numbers.specs.declared.link_type.LinkType.TheVariants.{RawIp}
use Rattle.capture_packet.specs.declared.link.Frame.TheVariants.{Ip as InFrame}
use Rattle.capture_packet.specs.Frames.{IsIpPacket, IsRead, IsReadIn}
use Rattle.capture_packet.specs.Packets.{in_no_tunnel}
use Rattle.capture_packet.specs.declared.content.Content.TheVariants.{Ip, Unread}
use Rattle.capture_packet.specs.declared.hop_limit.HopLimit.TheVariants.{Ipv4 as TimeToLive}
use Rattle.capture_packet.specs.declared.packet.Packet.{Packet}
use Rattle.capture_packet.specs.declared.refusal.Refusal.TheVariants as refusals
use Rattle.capture_packet.specs.declared.transport.Transport.TheVariants.{Read}
use Rattle.capture_packet.specs.declared.verdict.Verdict.TheVariants.{Checksum, Refused}

-- ---- a UDP packet

-- a UDP datagram from port 7 to port 9 with a payload of one byte; tests compute its checksum apart from these definitions
abbrev pub datagram : List ℕ
datagram = 0 ∷ 7 ∷ 0 ∷ 9 ∷ 0 ∷ 9 ∷ 0x19 ∷ 0xC8 ∷ 0x62 ∷ []

-- an IPv4 packet from 192.0.2.1 to 192.0.2.2 with this datagram
abbrev pub frame : List ℕ
frame = 0x45 ∷ 0 ∷ 0 ∷ 29 ∷ 0 ∷ 1 ∷ 0x40 ∷ 0 ∷ 64 ∷ 17 ∷ 0 ∷ 0 ∷ 192 ∷ 0 ∷ 2 ∷ 1 ∷ 192 ∷ 0 ∷ 2 ∷ 2 ∷ datagram

-- a reference to a value
abbrev pub reference_to : {X : Type 0} → X → Bor X
reference_to value = record { ref_ptr = (0, 0); now = value }

abbrev pub addresses : IpAddresses
addresses = Ipv4 (reference_to (192 ∷ 0 ∷ 2 ∷ 1 ∷ [])) (reference_to (192 ∷ 0 ∷ 2 ∷ 2 ∷ []))

-- the packet in this frame, whose checksum is right
abbrev pub packet : Packet
packet = record {
  tunnels = record { items = [] };
  content = Ip addresses (record { 0 = 17 }) (Some protos.Udp) (Read (slices.Udp datagram)) 1;
  verdict = Checksum Right;
  hop_limit = Some (TimeToLive 64);
  fragment = None;
  arp = None;
}

-- the transport after the IP header
abbrev found : TransportInIp
found = record {
  addresses = addresses;
  protocol = record { 0 = 17 };
  payload = reference_to datagram;
  payload_offset = 20;
  is_fragment = false;
  is_later_fragment = false;
  is_cut_off = false;
  is_length_missing = false;
  fixed_header = fixed.Ipv4 (reference_to (192 ∷ 0 ∷ 2 ∷ 1 ∷ [])) (reference_to (192 ∷ 0 ∷ 2 ∷ 2 ∷ [])) 64 (record { 0 = 17 });
  header_len = 20;
  counted_len = 29;
}

is_carried : Carries frame found
unfolding headers_to_transport options_within
is_carried = record {
  headers = record {
    addresses = by_value addresses;
    protocol = record { 0 = 17 };
    len = 20;
    is_fragment = false;
    is_later_fragment = false;
    may_be_extended = false;
    payload_len = 0;
    is_jumbogram = false;
  };
  read = refl;
  ended = refl;
  addresses = refl;
  protocol = refl;
  is_fragment = refl;
  is_later_fragment = refl;
  within = omega arith;
  payload = refl;
  payload_offset = refl;
  is_cut_off = refl;
  is_length_missing = λ missing. missing;
  fixed_header = refl;
  header_len = refl;
  counted_len = refl;
}

is_after_headers : IsAfterHeaders frame found
unfolding options_within
is_after_headers = record {
  extensions = [];
  reads = record { whole = refl; chain = (refl, refl) };
  offset = refl;
  options = λ header. are_ipv6_options (drop 2 header);
  addresses = refl;
  is_fragment = refl;
  is_later_fragment = refl;
  alone = only;
}
  where
    only : (others : List ExtensionHeader) (protocol : ℕ) (payload : List ℕ) → Reads false frame others protocol payload
        → (others ≡ []) × (protocol ≡ 17) × (payload ≡ datagram)
    only [] protocol payload reads = (refl, sym reads.chain.0, sym (ap (drop 20) reads.whole ∙ append-nil payload))
    only (header ∷ others) protocol payload reads = absurd (cc reads.chain.0)

is_ip_packet : IsIpPacket false frame packet
unfolding folded headers_to_transport options_within
is_ip_packet = (
  refl,
  refl,
  record {
    found = found;
    carries = is_carried;
    stated = refl;
    after = is_after_headers;
    is_in = ((refl, (refl, (refl, ((refl, refl), refl)))), ((λ none. absurd (omega (arith, none)), (omega arith, refl)), refl));
  },
)

-- the packet is read in a frame of raw IP
pub is_read : IsRead false RawIp LittleEndian frame false packet
unfolding headers_to_transport IsReadIn options_within
is_read = inl (record {
  found = InFrame (record { bytes = reference_to frame; start = 0; is_end_stated = false });
  after_header = record {
    len = 0;
    next = None;
    end = None;
    has_header = (refl, refl, refl);
    is_cut = record { start = refl; is_end_stated = refl; ordered = omega arith; within = omega arith; bytes = refl };
  };
  is_in = (refl, is_ip_packet);
})

-- ---- a packet that is refused

-- the packet in a frame of one byte, with IP version 5
abbrev pub rejected : Packet
rejected = in_no_tunnel Unread (Refused (refusals.Ip (Version 5)))

pub is_rejected : IsRead false RawIp LittleEndian (0x50 ∷ []) false rejected
unfolding headers_to_transport IsReadIn options_within
is_rejected = inl (record {
  found = InFrame (record { bytes = reference_to (0x50 ∷ []); start = 0; is_end_stated = false });
  after_header = record {
    len = 0;
    next = None;
    end = None;
    has_header = (refl, refl, refl);
    is_cut = record { start = refl; is_end_stated = refl; ordered = omega arith; within = omega arith; bytes = refl };
  };
  is_in = (refl, (refl, refl, (refl, (refl, refl))));
})
