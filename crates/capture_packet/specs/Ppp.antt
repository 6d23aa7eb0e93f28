-- PPP frames (RFC 1661 and RFC 1662), and frames of PPP over Ethernet (RFC 2516).
use Rattle.std.specs.Prelude.{ℕ, ◌+◌, ◌==◌, ◌||◌, ◌&&◌, Bool, not, nat_le, if◌then◌else◌, List, length, slice_index, take, Option, Some, None, Result, Ok, Err}
use Rattle.net_base.specs.Bytes.{be_number, flag}
use Rattle.capture_packet.specs.EtherTypes.{pppoe_discovery, pppoe_session}
use Rattle.capture_packet.specs.LinkHeaders.{with_bytes}
use Rattle.capture_packet.specs.Mpls.{stack_at}
use Rattle.capture_packet.specs.declared.link.LinkHeaderCutOff.{LinkHeaderCutOff}
use Rattle.capture_packet.specs.declared.link.header.LinkHeader.{LinkHeader}
use Rattle.capture_packet.specs.declared.network_protocol.NetworkProtocol.{NetworkProtocol}
use Rattle.capture_packet.specs.declared.network_protocol.NetworkProtocol.TheVariants.{EtherType, PppProtocol}

-- The next protocol according to a protocol number. `None` is IP: 0021 is IPv4 (RFC 1332, section 2.1), and 0057 is IPv6 (RFC 5072, section
-- 2).
abbrev pub by_ppp_protocol : ℕ → Option NetworkProtocol
by_ppp_protocol number = if number == 0x0021 || number == 0x0057 then None else Some (PppProtocol number)

-- The header that ends with this protocol number. After 0281, or 0283 for a multicast packet, a stack of MPLS labels follows (RFC 3032,
-- section 4.3), and the header ends with the stack.
abbrev pub after_protocol : List ℕ → ℕ → ℕ → Result LinkHeader LinkHeaderCutOff
after_protocol frame place number =
    if number == 0x0281 || number == 0x0283 then stack_at frame (PppProtocol number) place
    else Ok (record { len = place; next = by_ppp_protocol number; end = None })

-- The header that ends after the Protocol field at this place, or after the stack of MPLS labels after this field. If the first byte of the
-- field is odd, the field is compressed and has only this byte. Otherwise it has two bytes (RFC 1661, sections 2 and 6.5).
abbrev pub protocol_at : List ℕ → ℕ → Result LinkHeader LinkHeaderCutOff
protocol_at frame place = with_bytes frame (place + 1) (
    if flag frame place 0x01 then after_protocol frame (place + 1) (slice_index frame place)
    else with_bytes frame (place + 2) (after_protocol frame (place + 2) (be_number frame place 2)))

-- the frame begins with the Address and Control fields FF 03; a sender may leave them out (RFC 1662, section 3.1; RFC 1661, section 6.6)
abbrev pub has_address : List ℕ → Bool
has_address frame = nat_le 2 (length frame) && be_number frame 0 2 == 0xFF03

-- the header of a PPP frame: the Protocol field, after the Address and Control fields if they are present
abbrev pub ppp_header : List ℕ → Result LinkHeader LinkHeaderCutOff
ppp_header frame = protocol_at frame (if has_address frame then 2 else 0)

-- A PPPoE header that ends at this place. Its payload is not read, so that the next protocol is the ether type of a PPPoE session.
abbrev pub unread_session : ℕ → LinkHeader
unread_session place = record { len = place; next = Some (EtherType pppoe_session); end = None }

-- The link header from the start of the frame to the packet in a PPPoE session. The PPPoE payload begins at `start` and ends at `end`. The
-- last argument is the result of reading the PPP header in this payload. If the payload is too short for the PPP header, it is not read.
abbrev pub in_payload : ℕ → ℕ → Result LinkHeader LinkHeaderCutOff → LinkHeader
in_payload start end (Ok header) = record { len = header.len; next = header.next; end = Some end }
in_payload start end (Err error) = unread_session start

-- The link header from the start of the frame to the packet in a PPPoE session. The PPPoE payload begins at `start` and ends at `end`.
-- Bytes after the payload, such as the padding of a short Ethernet frame, do not belong to the packet. If the frame ends before `end`, the
-- payload ends with the frame.
abbrev pub session_payload : List ℕ → ℕ → ℕ → Result LinkHeader LinkHeaderCutOff
session_payload frame start end =
    if nat_le end (length frame) then Ok (in_payload start end (protocol_at (take end frame) start))
    else protocol_at frame start

-- The link header from the start of the frame to the packet in a PPPoE session. The PPPoE header begins at `place` (RFC 2516, section 4).
-- Its first byte contains version 1 and type 1. The code follows, which is 0 in a session. The number of the session and the length of the
-- payload have two bytes each. The payload begins with the Protocol field of PPP. With another version, type or code, the payload is not
-- read.
abbrev pub session_at : List ℕ → ℕ → Result LinkHeader LinkHeaderCutOff
session_at frame place = with_bytes frame (place + 6) (
    if be_number frame place 2 == 0x1100 then session_payload frame (place + 6) (place + 6 + be_number frame (place + 4) 2)
    else Ok (unread_session (place + 6)))

-- The frame begins with the PPPoE header of a discovery packet. The first byte of the header contains version 1 and type 1. The code of the
-- header is not 0, since 0 is the code of a session (RFC 2516, sections 5 and 6).
abbrev pub is_discovery : List ℕ → Bool
is_discovery frame = slice_index frame 0 == 0x11 && not (be_number frame 0 2 == 0x1100)

-- the header of a discovery packet, whose tags are not read; the next protocol is the ether type of discovery packets
abbrev pub discovery : LinkHeader
discovery = record { len = 6; next = Some (EtherType pppoe_discovery); end = None }

-- A LINKTYPE_PPP_ETHER frame begins with a PPPoE header. No ether type precedes the header, so its code distinguishes a session from a
-- discovery packet.
abbrev pub pppoe_frame : List ℕ → Result LinkHeader LinkHeaderCutOff
pppoe_frame frame = with_bytes frame 6 (if is_discovery frame then Ok discovery else session_at frame 0)
