-- Cisco HDLC frames (LINKTYPE_C_HDLC; RFC 1547, section 4.3.1).
use Rattle.std.specs.Prelude.{ℕ, ◌==◌, ◌||◌, ◌&&◌, Bool, nat_le, if◌then◌else◌, List, length, slice_index, Result, Ok}
use Rattle.net_base.specs.Bytes.{be_number}
use Rattle.capture_packet.specs.LinkHeaders.{unread, with_bytes}
use Rattle.capture_packet.specs.declared.link.LinkHeaderCutOff.{LinkHeaderCutOff}
use Rattle.capture_packet.specs.declared.link.header.EtherHeader.{EtherHeader}
use Rattle.capture_packet.specs.declared.link.header.FirstHeader.{FirstHeader}
use Rattle.capture_packet.specs.declared.link.header.FirstHeader.TheVariants.{EtherType}

-- The layout of the header: an address, a control byte, and the number of a protocol. The number is an ether type, except for SLARP and
-- CDP.
abbrev pub cisco_hdlc : EtherHeader
cisco_hdlc = record { len = 4; ether_type_at = 2 }

-- the LINKTYPE_PPP_HDLC frame begins with an address of Cisco HDLC: 0F for one station, or 8F for all stations
abbrev pub is_cisco_hdlc : List ℕ → Bool
is_cisco_hdlc frame = nat_le 1 (length frame) && (slice_index frame 0 == 0x0F || slice_index frame 0 == 0x8F)

-- the protocol number of SLARP, which resolves addresses and sends keepalives on serial lines (RFC 1547, section 4.3.1); as an ether type
-- this number is RARP
abbrev pub slarp : ℕ
slarp = 0x8035

-- the protocol number of CDP, the Cisco Discovery Protocol; CDP has this number also in a SNAP header with Cisco's organization code,
-- 00000C
abbrev pub cdp : ℕ
cdp = 0x2000

-- this protocol number is not an ether type, since it is the number of SLARP or CDP
abbrev pub is_cisco_protocol : ℕ → Bool
is_cisco_protocol number = number == slarp || number == cdp

-- the number of LINKTYPE_C_HDLC
abbrev pub link_type_number : ℕ
link_type_number = 104

-- The header with this protocol number. SLARP and CDP are not read, so the next protocol is the number of LINKTYPE_C_HDLC. Any other number
-- is an ether type.
abbrev pub by_cisco_number : ℕ → FirstHeader
by_cisco_number number =
    if is_cisco_protocol number then unread cisco_hdlc.len link_type_number else EtherType cisco_hdlc

-- the first header of a Cisco HDLC frame
abbrev pub cisco_header : List ℕ → Result FirstHeader LinkHeaderCutOff
cisco_header frame = with_bytes frame cisco_hdlc.len (Ok (by_cisco_number (be_number frame cisco_hdlc.ether_type_at 2)))
