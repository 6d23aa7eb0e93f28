-- Linux cooked frames (LINKTYPE_LINUX_SLL and LINKTYPE_LINUX_SLL2 of draft-ietf-opsawg-pcaplinktype).
use Rattle.std.specs.Prelude.{ℕ, ◌==◌, if◌then◌else◌, List, Result, Ok}
use Rattle.net_base.specs.Bytes.{be_number}
use Rattle.capture_packet.specs.LinkHeaders.{unread, with_bytes}
use Rattle.capture_packet.specs.Llc.{llc_at}
use Rattle.capture_packet.specs.declared.link.LinkHeaderCutOff.{LinkHeaderCutOff}
use Rattle.capture_packet.specs.declared.link.header.EtherHeader.{EtherHeader}
use Rattle.capture_packet.specs.declared.link.header.FirstHeader.{FirstHeader}
use Rattle.capture_packet.specs.declared.link.header.FirstHeader.TheVariants.{EtherType}

-- the layout of a LINKTYPE_LINUX_SLL header without tags: its length, and the place of its protocol
abbrev pub linux_cooked : EtherHeader
linux_cooked = record { len = 16; ether_type_at = 14 }

-- the layout of a LINKTYPE_LINUX_SLL2 header without tags: its length, and the place of its protocol
abbrev pub linux_cooked_2 : EtherHeader
linux_cooked_2 = record { len = 20; ether_type_at = 0 }

-- the place of the device type (ARPHRD) in a LINKTYPE_LINUX_SLL header
abbrev pub device_type_at : ℕ
device_type_at = 2

-- the place of the device type in a LINKTYPE_LINUX_SLL2 header
abbrev pub device_type_at_2 : ℕ
device_type_at_2 = 8

-- the device type of netlink, ARPHRD_NETLINK
abbrev pub netlink_device : ℕ
netlink_device = 824

-- the number of LINKTYPE_NETLINK, whose frames have a LINKTYPE_LINUX_SLL header
abbrev pub netlink_number : ℕ
netlink_number = 253

-- the protocol number of a frame in which an LLC header follows
abbrev pub cooked_llc : ℕ
cooked_llc = 0x0004

-- The header with this protocol, from a device of this type. The protocol of a netlink device is not read, so the next protocol is the
-- number of LINKTYPE_NETLINK. For any other device, an LLC header follows, or the protocol is an ether type.
abbrev pub by_device : EtherHeader → List ℕ → ℕ → ℕ → Result FirstHeader LinkHeaderCutOff
by_device header frame device_type protocol =
    if device_type == netlink_device then Ok (unread header.len netlink_number)
    else if protocol == cooked_llc then llc_at frame header.len
    else Ok (EtherType header)

-- the first header of a Linux cooked frame; `header` is its layout, and the device type is at byte `device_at`
abbrev pub cooked_header : EtherHeader → ℕ → List ℕ → Result FirstHeader LinkHeaderCutOff
cooked_header header device_at frame = with_bytes frame header.len (
    by_device header frame (be_number frame device_at 2) (be_number frame header.ether_type_at 2))
