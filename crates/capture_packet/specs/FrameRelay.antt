-- Frame Relay frames (RFC 2427, section 3).
use Rattle.std.specs.Prelude.{ℕ, ◌+◌, ◌==◌, ◌||◌, ◌&&◌, Bool, if◌then◌else◌, bit_and, List, slice_index, Some, None, Result, Ok}
use Rattle.net_base.specs.Bytes.{be_number}
use Rattle.capture_packet.specs.EtherTypes.{ipv4_ether_type, ipv6_ether_type}
use Rattle.capture_packet.specs.LinkHeaders.{with_bytes}
use Rattle.capture_packet.specs.Llc.{snap_at}
use Rattle.capture_packet.specs.declared.link.LinkHeaderCutOff.{LinkHeaderCutOff}
use Rattle.capture_packet.specs.declared.link.header.FirstHeader.{FirstHeader}
use Rattle.capture_packet.specs.declared.link.header.FirstHeader.TheVariants.{EtherType, Whole}
use Rattle.capture_packet.specs.declared.network_protocol.NetworkProtocol.TheVariants.{FrameRelay, Nlpid}

-- The header that ends with this network layer protocol ID, or with the SNAP header after it. After CC an IPv4 packet follows, after 8E an
-- IPv6 packet, and after 80 a SNAP header.
abbrev pub by_nlpid : List ℕ → ℕ → ℕ → Result FirstHeader LinkHeaderCutOff
by_nlpid frame place nlpid =
    if nlpid == 0x80 then snap_at frame (place + 1)
    else if nlpid == 0xCC || nlpid == 0x8E then Ok (Whole (record { len = place + 1; next = None; end = None }))
    else Ok (Whole (record { len = place + 1; next = Some (Nlpid nlpid); end = None }))

-- the header with the network layer protocol ID at this place
abbrev pub nlpid_at : List ℕ → ℕ → Result FirstHeader LinkHeaderCutOff
nlpid_at frame place = with_bytes frame (place + 1) (by_nlpid frame place (slice_index frame place))

-- The three bytes are a two-byte address and the control byte 03, which means unnumbered information. The lowest bits of the two address
-- bytes are 0 and 1 (ITU-T Q.922, annex A).
abbrev pub is_unnumbered : ℕ → Bool
is_unnumbered header = bit_and header 0x0101FF == 0x000103

-- The frame begins with a two-byte address, and the ether type of IPv4 or IPv6 follows directly. Cisco's equipment writes such frames,
-- which have no control byte.
abbrev pub has_ether_type : List ℕ → Bool
has_ether_type frame =
    bit_and (be_number frame 0 3) 0x010100 == 0x000100 && (be_number frame 2 2 == ipv4_ether_type || be_number frame 2 2 == ipv6_ether_type)

-- the header of a frame that does not begin with a two-byte address and the control byte 03
abbrev pub without_control : List ℕ → FirstHeader
without_control frame =
    if has_ether_type frame then EtherType (record { len = 4; ether_type_at = 2 })
    else Whole (record { len = 3; next = Some (FrameRelay (be_number frame 0 3)); end = None })

-- The first header of a Frame Relay frame. If the frame begins with a two-byte address and the control byte 03, a pad byte 00 may
-- follow. The network layer protocol ID is next. `without_control` describes any other header.
abbrev pub frame_relay : List ℕ → Result FirstHeader LinkHeaderCutOff
frame_relay frame = with_bytes frame 4 (
    if is_unnumbered (be_number frame 0 3) then nlpid_at frame (if slice_index frame 3 == 0 then 4 else 3)
    else Ok (without_control frame))
