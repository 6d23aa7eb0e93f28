-- The headers of the link layer before a network packet: their lengths, and the protocols that follow them.
use Rattle.std.specs.Prelude.{◌≡◌, ◌⊎◌, ◌≤◌, ◌<◌, ℕ, zero, suc, ◌+◌, ◌*◌, ◌==◌, ◌||◌, ◌&&◌, nat_lt, Bool, true, false, if◌then◌else◌, List, length, slice_range, is_some, Option, Some, None, Result, Ok, Err}
use Rattle.net_base.specs.Bytes.{be_number}
use Rattle.capture_packet.specs.EtherTypes.{customer_tag, ipv4_ether_type, ipv6_ether_type, least_ether_type, mpls, mpls_multicast, old_service_tag, other_old_service_tag, pppoe_session, service_tag}
use Rattle.capture_packet.specs.AddressFamilies.{family_at}
use Rattle.capture_packet.specs.CiscoHdlc.{cisco_header, is_cisco_hdlc}
use Rattle.capture_packet.specs.EtherHeaders.{ethernet_at}
use Rattle.capture_packet.specs.FrameRelay.{frame_relay}
use Rattle.capture_packet.specs.Ieee80211.{after_radiotap, frame_at}
use Rattle.capture_packet.specs.LinkHeaders.{end_in}
use Rattle.capture_packet.specs.LinuxCooked.{cooked_header, device_type_at, device_type_at_2, linux_cooked, linux_cooked_2}
use Rattle.capture_packet.specs.Llc.{llc_at}
use Rattle.capture_packet.specs.Metadata.{after_avs, after_ppi, after_prism, after_tap, filter_header, ipnet_header}
use Rattle.capture_packet.specs.Mpls.{stack_at}
use Rattle.capture_packet.specs.Nflog.{log_header}
use Rattle.capture_packet.specs.Ppp.{ppp_header, pppoe_frame, session_at}
use Rattle.capture_numbers.specs.declared.byte_order.ByteOrder.{ByteOrder}
use Rattle.capture_numbers.specs.declared.byte_order.ByteOrder.TheVariants.{BigEndian}
use Rattle.capture_numbers.specs.declared.link_type.LinkType.{LinkType}
use Rattle.capture_numbers.specs.declared.link_type.LinkType.TheVariants.{Avs, BsdLoopback, CiscoHdlc, Ethernet, FrameRelay, Ieee80211, InfiniBand, Ipnet, LinuxCooked, LinuxCooked2, Nflog, OpenBsdLoopback, Pflog, Pktap, Ppi, Ppp, PppHdlc, PppOverEthernet, Prism, Radiotap, RawIp}
use Rattle.capture_packet.specs.declared.link.Frame.{Frame}
use Rattle.capture_packet.specs.declared.link.Frame.TheVariants.{Ip, Other}
use Rattle.capture_packet.specs.declared.link.NetworkBytes.{NetworkBytes}
use Rattle.capture_packet.specs.declared.link.LinkHeaderCutOff.{LinkHeaderCutOff}
use Rattle.capture_packet.specs.declared.link.header.EtherHeader.{EtherHeader}
use Rattle.capture_packet.specs.declared.link.header.FirstHeader.{FirstHeader}
use Rattle.capture_packet.specs.declared.link.header.FirstHeader.TheVariants.{EtherType, Whole}
use Rattle.capture_packet.specs.declared.link.header.LinkHeader.{LinkHeader}
use Rattle.capture_packet.specs.declared.network_protocol.NetworkProtocol.{NetworkProtocol}
use Rattle.capture_packet.specs.declared.network_protocol.NetworkProtocol.TheVariants.{EtherType as UnknownEtherType}

-- ---- headers with an ether type

-- The layout of a LINKTYPE_IPOIB header: a global routing header of 40 bytes, and then the encapsulation header of IP over InfiniBand (RFC
-- 4391, section 6). The encapsulation header consists of the ether type and two reserved bytes.
abbrev pub infiniband : EtherHeader
infiniband = record { len = 44; ether_type_at = 40 }

-- a VLAN tag follows this ether type
abbrev pub is_vlan_tag : ℕ → Bool
is_vlan_tag ether_type =
    ether_type == customer_tag || (ether_type == service_tag || (ether_type == old_service_tag || ether_type == other_old_service_tag))

-- the length of a VLAN tag: two bytes of control information, and the next ether type (IEEE 802.1Q, clause 9.5)
abbrev pub tag_len : ℕ
tag_len = 4

-- the length of a header with this number of tags
abbrev pub tagged_len : EtherHeader → ℕ → ℕ
tagged_len header tags = header.len + tags * tag_len

-- The ether type after this number of tags. Without tags it is the ether type of the header. Otherwise it is in the last two bytes of the
-- last tag.
abbrev pub ether_type_after : EtherHeader → List ℕ → ℕ → ℕ
ether_type_after header frame zero = be_number frame header.ether_type_at 2
ether_type_after header frame (suc tags) = be_number frame (tagged_len header tags + 2) 2

-- each of the first `tags` ether types is followed by a tag
abbrev pub IsTagged : EtherHeader → List ℕ → ℕ → Type 0
IsTagged header frame tags = (tag : ℕ) → tag < tags → is_vlan_tag (ether_type_after header frame tag) ≡ true

-- this is an ether type of IP
abbrev pub is_ip : ℕ → Bool
is_ip ether_type = ether_type == ipv4_ether_type || ether_type == ipv6_ether_type

-- the next protocol according to an ether type; `None` is IP
abbrev pub by_ether_type : ℕ → Option NetworkProtocol
by_ether_type ether_type = if is_ip ether_type then None else Some (UnknownEtherType ether_type)

-- The link header whose last ether type ends at `place`. A PPPoE header or a stack of MPLS labels after this ether type belongs to the link
-- header.
abbrev pub after_ether_type : List ℕ → ℕ → ℕ → Result LinkHeader LinkHeaderCutOff
after_ether_type frame place ether_type =
    if ether_type == pppoe_session then session_at frame place
    else if ether_type == mpls || ether_type == mpls_multicast then stack_at frame (UnknownEtherType ether_type) place
    else Ok (record { len = place; next = by_ether_type ether_type; end = None })

-- The link header that ends with an LLC header, or with the header after it. If this is a SNAP header with an ether type,
-- `after_ether_type` states where the link header ends.
abbrev pub after_llc : List ℕ → Result FirstHeader LinkHeaderCutOff → Result LinkHeader LinkHeaderCutOff
after_llc frame (Ok (Whole header)) = Ok header
after_llc frame (Ok (EtherType header)) = after_ether_type frame header.len (be_number frame header.ether_type_at 2)
after_llc frame (Err error) = Err error

-- The link header that consists of `header`, its tags, and the headers after them. The last ether type ends at `place`. After a tag, a
-- number below the least ether type is a length, and an LLC header follows (IEEE 802.3, clause 3.2.6).
abbrev pub after_tags : EtherHeader → List ℕ → ℕ → ℕ → Result LinkHeader LinkHeaderCutOff
after_tags header frame place ether_type =
    if nat_lt header.len place && nat_lt ether_type least_ether_type then after_llc frame (llc_at frame place)
    else after_ether_type frame place ether_type

-- the header has exactly this number of tags, and the frame contains all of them
pub record HasTags (header : EtherHeader) (frame : List ℕ) (tags : ℕ) : Type 0 where
  pub tagged : IsTagged header frame tags
  pub last : is_vlan_tag (ether_type_after header frame tags) ≡ false
  pub there : tagged_len header tags ≤ length frame

-- The frame has a whole link header with an ether type. `len` is the length of the link header, including the tags and the header after
-- them. `next` is the protocol after the link header. `end` is the end of the bytes after the link header, if the link header states this
-- end.
pub record HasEtherHeader (header : EtherHeader) (frame : List ℕ) (len : ℕ) (next : Option NetworkProtocol) (end : Option ℕ) : Type 0 where
  pub tags : ℕ
  pub has : HasTags header frame tags
  pub says : after_tags header frame (tagged_len header tags) (ether_type_after header frame tags)
      ≡ Ok (record { len = len; next = next; end = end })

-- the frame contains the header and these tags, and ends within the tag after them
pub record EndsInTag (header : EtherHeader) (frame : List ℕ) (tags : ℕ) : Type 0 where
  pub tagged : IsTagged header frame (suc tags)
  pub there : tagged_len header tags ≤ length frame
  pub ends : length frame < tagged_len header (suc tags)

-- the frame ends within a tag; the tag ends after `required_len` bytes of the frame
pub record NeedsTag (header : EtherHeader) (frame : List ℕ) (required_len : ℕ) : Type 0 where
  pub tags : ℕ
  pub in_tag : EndsInTag header frame tags
  pub is_required_len : required_len ≡ tagged_len header (suc tags)

-- the frame contains all its tags, and ends within the header after the last ether type; this header needs `required_len` bytes of the
-- frame
pub record NeedsAfterTags (header : EtherHeader) (frame : List ℕ) (required_len : ℕ) : Type 0 where
  pub tags : ℕ
  pub has : HasTags header frame tags
  pub error : LinkHeaderCutOff
  pub says : after_tags header frame (tagged_len header tags) (ether_type_after header frame tags) ≡ Err error
  pub is_required_len : required_len ≡ error.required_len

-- The frame ends within a header with an ether type, within a tag, or within the header after the last ether type. This header or tag needs
-- at least `required_len` bytes of the frame.
abbrev pub NeedsEtherHeader : EtherHeader → List ℕ → ℕ → Type 0
NeedsEtherHeader header frame required_len =
    ((length frame < header.len) × (required_len ≡ header.len))
    ⊎ (NeedsTag header frame required_len ⊎ NeedsAfterTags header frame required_len)

-- ---- all link types

-- this whole link header as the first header of a frame; an error is returned unchanged
abbrev pub whole : Result LinkHeader LinkHeaderCutOff → Result FirstHeader LinkHeaderCutOff
whole (Ok header) = Ok (Whole header)
whole (Err error) = Err error

-- the first header of a frame of this link type
abbrev pub first_header : LinkType → ByteOrder → List ℕ → Result FirstHeader LinkHeaderCutOff
first_header BsdLoopback order frame = family_at order frame 0
first_header Ethernet order frame = ethernet_at frame 0
first_header Ppp order frame = whole (ppp_header frame)
first_header PppHdlc order frame = if is_cisco_hdlc frame then cisco_header frame else whole (ppp_header frame)
first_header PppOverEthernet order frame = whole (pppoe_frame frame)
first_header RawIp order frame = Ok (Whole (record { len = 0; next = None; end = None }))
first_header CiscoHdlc order frame = cisco_header frame
first_header Ieee80211 order frame = frame_at frame 0
first_header FrameRelay order frame = frame_relay frame
first_header OpenBsdLoopback order frame = family_at BigEndian frame 0
first_header LinuxCooked order frame = cooked_header linux_cooked device_type_at frame
first_header Pflog order frame = filter_header frame
first_header Prism order frame = after_prism frame
first_header Radiotap order frame = after_radiotap frame
first_header Avs order frame = after_avs frame
first_header Ppi order frame = after_ppi frame
first_header Ipnet order frame = ipnet_header frame
first_header Nflog order frame = log_header frame
first_header InfiniBand order frame = Ok (EtherType infiniband)
first_header Pktap order frame = after_tap frame
first_header LinuxCooked2 order frame = cooked_header linux_cooked_2 device_type_at_2 frame

-- A frame with this first header has a whole link header. `len` is the length of the link header. `next` is the protocol after the link
-- header, where `None` is IP. `end` is the end of the bytes after the link header, if the link header states this end. Otherwise these
-- bytes end with the frame.
abbrev pub HasWhole : List ℕ → ℕ → Option NetworkProtocol → Option ℕ → Result FirstHeader LinkHeaderCutOff → Type 0
HasWhole frame len next end (Ok (Whole header)) = (len ≡ header.len) × (next ≡ header.next) × (end ≡ header.end)
HasWhole frame len next end (Ok (EtherType header)) = HasEtherHeader header frame len next end
HasWhole frame len next end (Err error) = ⊥

-- a frame of this link type has a whole link header; `len`, `next` and `end` are as in `HasWhole`
abbrev pub HasLinkHeader : LinkType → ByteOrder → List ℕ → ℕ → Option NetworkProtocol → Option ℕ → Type 0
HasLinkHeader link_type order frame len next end = HasWhole frame len next end (first_header link_type order frame)

-- A frame with this first header ends within its link header. `required_len` is the least length of the link header.
abbrev pub NeedsWhole : List ℕ → ℕ → Result FirstHeader LinkHeaderCutOff → Type 0
NeedsWhole frame required_len (Ok (Whole header)) = ⊥
NeedsWhole frame required_len (Ok (EtherType header)) = NeedsEtherHeader header frame required_len
NeedsWhole frame required_len (Err error) = required_len ≡ error.required_len

-- a frame of this link type ends within its link header; `required_len` is as in `NeedsWhole`
abbrev pub NeedsLinkHeader : LinkType → ByteOrder → List ℕ → ℕ → Type 0
NeedsLinkHeader link_type order frame required_len = NeedsWhole frame required_len (first_header link_type order frame)

-- The bytes of a frame after a header of this length. They end at the place `end` if the header states an end, otherwise at the end of the
-- frame.
pub record AreBytesAfter (frame : List ℕ) (len : ℕ) (end : Option ℕ) (found : NetworkBytes) : Type 0 where
  pub start : found.start ≡ len
  pub is_end_stated : found.is_end_stated ≡ is_some end
  pub ordered : len ≤ end_in frame end
  pub within : end_in frame end ≤ length frame
  pub bytes : found.bytes.now ≡ slice_range frame len (end_in frame end)

-- The content of a frame after a header of this length: the bytes after the header, which contain an IP packet if the next protocol is
-- `None`. Otherwise another protocol follows.
abbrev pub IsCutAfter : List ℕ → ℕ → Option NetworkProtocol → Option ℕ → Frame → Type 0
IsCutAfter frame len None end (Ip found) = AreBytesAfter frame len end found
IsCutAfter frame len (Some protocol) end (Other other found) = (other ≡ protocol) × AreBytesAfter frame len end found
IsCutAfter frame len None end (Other other found) = ⊥
IsCutAfter frame len (Some protocol) end (Ip found) = ⊥

-- the content of a frame after a link header for which `HasHeader` holds
pub record IsFoundAfter (HasHeader : ℕ → Option NetworkProtocol → Option ℕ → Type 0) (frame : List ℕ) (found : Frame) : Type 0 where
  pub len : ℕ
  pub next : Option NetworkProtocol
  pub end : Option ℕ
  pub has_header : HasHeader len next end
  pub is_cut : IsCutAfter frame len next end found
