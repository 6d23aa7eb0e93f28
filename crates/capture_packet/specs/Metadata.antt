-- Headers with metadata. A system writes such a header before each packet or frame that it captures. The registry of link types of
-- tcpdump.org describes these headers.
use Rattle.std.specs.Prelude.{ℕ, ◌+◌, ◌*◌, ◌/◌, ◌==◌, ◌||◌, ◌&&◌, Bool, nat_le, nat_lt, if◌then◌else◌, List, slice_index, Option, Some, None, Result, Ok}
use Rattle.net_base.specs.Bytes.{be_number}
use Rattle.capture_numbers.specs.LinkTypes.{avs_number, link_type_with, pflog_number, pktap_number, ppi_number, prism_number}
use Rattle.capture_numbers.specs.Numbers.{number_at, short_at}
use Rattle.capture_packet.specs.AddressFamilies.{family_at, is_ip_family}
use Rattle.capture_packet.specs.EtherHeaders.{ethernet_at}
use Rattle.capture_packet.specs.Ieee80211.{frame_at}
use Rattle.capture_packet.specs.LinkHeaders.{unread, with_bytes}
use Rattle.capture_numbers.specs.declared.byte_order.ByteOrder.TheVariants.{LittleEndian}
use Rattle.capture_numbers.specs.declared.link_type.LinkType.{LinkType}
use Rattle.capture_numbers.specs.declared.link_type.LinkType.TheVariants.{BsdLoopback, Ethernet, Ieee80211, RawIp}
use Rattle.capture_packet.specs.declared.link.LinkHeaderCutOff.{LinkHeaderCutOff}
use Rattle.capture_packet.specs.declared.link.header.FirstHeader.{FirstHeader}
use Rattle.capture_packet.specs.declared.link.header.FirstHeader.TheVariants.{Whole}
use Rattle.capture_packet.specs.declared.network_protocol.NetworkProtocol.{NetworkProtocol}
use Rattle.capture_packet.specs.declared.network_protocol.NetworkProtocol.TheVariants.{AddressFamily}

-- ---- a packet after its address family

-- The next protocol according to an address family. If `is_ip` is true, this is `None`, which means IP. Otherwise it is the number of the
-- family.
abbrev pub family_protocol : ℕ → Bool → Option NetworkProtocol
family_protocol family is_ip = if is_ip then None else Some (AddressFamily family)

-- a whole header of this length with this address family; `is_ip` states whether it is a family of IP
abbrev pub with_family : ℕ → ℕ → Bool → FirstHeader
with_family len family is_ip = Whole (record { len = len; next = family_protocol family is_ip; end = None })

-- the length after padding to a multiple of four
abbrev pub padded : ℕ → ℕ
padded len = (len + 3) / 4 * 4

-- the length of the first fields of a LINKTYPE_PFLOG header: the length of the header and the address family, in one byte each
abbrev pub filter_fields_len : ℕ
filter_fields_len = 2

-- the least length of a LINKTYPE_PFLOG header, which ends with the direction of the packet
abbrev pub least_filter_len : ℕ
least_filter_len = 45

-- The header with this number in its length field. The number does not include the padding after the other fields. If the number is below
-- the least length, the header is not read.
abbrev pub by_filter_len : List ℕ → ℕ → Result FirstHeader LinkHeaderCutOff
by_filter_len frame len =
    if nat_lt len least_filter_len then Ok (unread filter_fields_len pflog_number)
    else with_bytes frame (padded len) (Ok (with_family (padded len) (slice_index frame 1) (is_ip_family (slice_index frame 1))))

-- the header of LINKTYPE_PFLOG, from the packet filter of OpenBSD: the first fields, and then more fields
abbrev pub filter_header : List ℕ → Result FirstHeader LinkHeaderCutOff
filter_header frame = with_bytes frame filter_fields_len (by_filter_len frame (slice_index frame 0))

-- the address family of IPv4 on Solaris
abbrev pub solaris_ipv4 : ℕ
solaris_ipv4 = 2

-- the address family of IPv6 on Solaris
abbrev pub solaris_ipv6 : ℕ
solaris_ipv6 = 26

-- this is an address family of IP on Solaris
abbrev pub is_solaris_ip : ℕ → Bool
is_solaris_ip family = family == solaris_ipv4 || family == solaris_ipv6

-- the length of a LINKTYPE_IPNET header
abbrev pub ipnet_len : ℕ
ipnet_len = 24

-- The header of LINKTYPE_IPNET, from Solaris. It contains a version and the address family in one byte each, and the kind of the frame in
-- two bytes. The length of the packet, two interfaces and two zones follow in four bytes each.
abbrev pub ipnet_header : List ℕ → Result FirstHeader LinkHeaderCutOff
ipnet_header frame = with_bytes frame ipnet_len (Ok (with_family ipnet_len (slice_index frame 1) (is_solaris_ip (slice_index frame 1))))

-- ---- an IEEE 802.11 frame

-- the number that begins a header of AVS of version 1
abbrev pub avs_1 : ℕ
avs_1 = 0x80211001

-- the number that begins a header of AVS of version 2
abbrev pub avs_2 : ℕ
avs_2 = 0x80211002

-- the number begins a header of AVS
abbrev pub is_avs : ℕ → Bool
is_avs magic = magic == avs_1 || magic == avs_2

-- the length of the first fields of a header of AVS: the number that begins it, and its length
abbrev pub avs_fields_len : ℕ
avs_fields_len = 8

-- The frame after a header of AVS. `number` is the number of the link type, and `len` is the stated length of the header. If `len` is below
-- the length of the first fields, the header is not read.
abbrev pub by_avs_len : List ℕ → ℕ → ℕ → Result FirstHeader LinkHeaderCutOff
by_avs_len frame number len = if nat_le avs_fields_len len then frame_at frame len else Ok (unread avs_fields_len number)

-- LINKTYPE_IEEE802_11_AVS. A header of AVS begins with a number of four bytes, which identifies the header and its version. The length of
-- the header follows in four bytes, and then more fields. The number is not checked, since every version has the length at the same place.
abbrev pub after_avs : List ℕ → Result FirstHeader LinkHeaderCutOff
after_avs frame = with_bytes frame avs_fields_len (by_avs_len frame avs_number (be_number frame 4 4))

-- the length of a Prism header: a message code and a message length of four bytes each, the name of a device in 16 bytes, and ten items of
-- 12 bytes each
abbrev pub prism_len : ℕ
prism_len = 144

-- LINKTYPE_IEEE802_11_PRISM. If the first four bytes are the number of AVS version 1 or 2, the frame begins with a header of AVS. Otherwise
-- it begins with a Prism header.
abbrev pub after_prism : List ℕ → Result FirstHeader LinkHeaderCutOff
after_prism frame = with_bytes frame avs_fields_len (
    if is_avs (be_number frame 0 4) then by_avs_len frame prism_number (be_number frame 4 4) else frame_at frame prism_len)

-- ---- a frame of a link type that the header states

-- The first header of an inner frame at this place. `number` is the number of its link type. Frames of four link types are read. In a
-- loopback frame an address family other than IP is read as little-endian.
abbrev pub enclosed_in : List ℕ → ℕ → ℕ → Option LinkType → Result FirstHeader LinkHeaderCutOff
enclosed_in frame place number (Some BsdLoopback) = family_at LittleEndian frame place
enclosed_in frame place number (Some Ethernet) = ethernet_at frame place
enclosed_in frame place number (Some RawIp) = Ok (Whole (record { len = place; next = None; end = None }))
enclosed_in frame place number (Some Ieee80211) = frame_at frame place
enclosed_in frame place number other = Ok (unread place number)

-- the first header of an inner frame at this place, of the link type with this number
abbrev pub enclosed_at : List ℕ → ℕ → ℕ → Result FirstHeader LinkHeaderCutOff
enclosed_at frame place number = with_bytes frame place (enclosed_in frame place number (link_type_with number))

-- the length of the first fields of a LINKTYPE_PPI header: version, flags, length and link type
abbrev pub ppi_fields_len : ℕ
ppi_fields_len = 8

-- The frame after a LINKTYPE_PPI header with this version and length. The frame is read only if the version is 0 and the length is at least
-- the length of the first fields.
abbrev pub by_ppi : List ℕ → ℕ → ℕ → Result FirstHeader LinkHeaderCutOff
by_ppi frame version len =
    if version == 0 && nat_le ppi_fields_len len then enclosed_at frame len (short_at LittleEndian frame 4)
    else Ok (unread ppi_fields_len ppi_number)

-- LINKTYPE_PPI, Per-Packet Information. The header begins with a version and flags in one byte each, its length in two bytes, and a link
-- type in four bytes. The numbers are little-endian. Only the low 16 bits of the link type are its number.
abbrev pub after_ppi : List ℕ → Result FirstHeader LinkHeaderCutOff
after_ppi frame = with_bytes frame ppi_fields_len (by_ppi frame (slice_index frame 0) (short_at LittleEndian frame 2))

-- the length of the first fields of a LINKTYPE_PKTAP header: length, type of the record, and link type
abbrev pub tap_fields_len : ℕ
tap_fields_len = 12

-- the type of a record with a packet, in a LINKTYPE_PKTAP header
abbrev pub packet_record : ℕ
packet_record = 1

-- The frame after a LINKTYPE_PKTAP header with this length and this type of record. The frame is read only if the record is a packet and
-- the length is at least the length of the first fields.
abbrev pub by_tap : List ℕ → ℕ → ℕ → Result FirstHeader LinkHeaderCutOff
by_tap frame len record_type =
    if nat_le tap_fields_len len && record_type == packet_record then enclosed_at frame len (short_at LittleEndian frame 8)
    else Ok (unread tap_fields_len pktap_number)

-- LINKTYPE_PKTAP, of the packet tap of Apple. The header begins with its length, a type of record, and a link type, in four bytes each.
-- More fields follow. The numbers are little-endian. Only the low 16 bits of the link type are its number.
abbrev pub after_tap : List ℕ → Result FirstHeader LinkHeaderCutOff
after_tap frame = with_bytes frame tap_fields_len (by_tap frame (number_at LittleEndian frame 0) (number_at LittleEndian frame 4))
