-- Ethernet headers.
use Rattle.std.specs.Prelude.{ℕ, ◌+◌, nat_lt, if◌then◌else◌, List, Result, Ok}
use Rattle.net_base.specs.Bytes.{be_number}
use Rattle.capture_packet.specs.EtherTypes.{least_ether_type}
use Rattle.capture_packet.specs.LinkHeaders.{with_bytes}
use Rattle.capture_packet.specs.Llc.{llc_at}
use Rattle.capture_packet.specs.declared.link.LinkHeaderCutOff.{LinkHeaderCutOff}
use Rattle.capture_packet.specs.declared.link.header.EtherHeader.{EtherHeader}
use Rattle.capture_packet.specs.declared.link.header.FirstHeader.{FirstHeader}
use Rattle.capture_packet.specs.declared.link.header.FirstHeader.TheVariants.{EtherType}

-- the length of an Ethernet header (IEEE 802.3, clause 3.2)
abbrev pub ethernet_len : ℕ
ethernet_len = 14

-- the place of the ether type in an Ethernet header, after two addresses
abbrev pub ethernet_type_at : ℕ
ethernet_type_at = 12

-- the Ethernet header at this place: its end without tags, and the place of its ether type (IEEE 802.3, clause 3.2)
abbrev pub ethernet : ℕ → EtherHeader
ethernet place = record { len = place + ethernet_len; ether_type_at = place + ethernet_type_at }

-- the header of an Ethernet frame at this place: it contains an ether type, or a length and then an LLC header (IEEE 802.3, clause 3.2.6)
abbrev pub ethernet_at : List ℕ → ℕ → Result FirstHeader LinkHeaderCutOff
ethernet_at frame place = with_bytes frame (place + ethernet_len) (
    if nat_lt (be_number frame (place + ethernet_type_at) 2) least_ether_type then llc_at frame (place + ethernet_len)
    else Ok (EtherType (ethernet place)))
