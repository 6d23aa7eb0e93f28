-- The packet in a frame: its content, and the verdict on it.
use Rattle.std.specs.Prelude.{◌≡◌, ◌⊎◌, ◌&&◌, ℕ, zero, suc, Bool, true, false, not, List, [], ◌∷◌, ◌++◌, length, map, None, MatchOption}
use Rattle.ip_part.specs.Ip.{Carries, IsAfterHeaders, lacks_len, lax_refusal, refusal}
use Rattle.ip_part.specs.declared.ip_error.IpError.{IpError}
use Rattle.ip_part.specs.declared.transport.TransportInIp.{TransportInIp}
use Rattle.transport_part.specs.declared.checksum_verdict.Untested.TheVariants.{CutOff, OtherProtocol}
use Rattle.capture_numbers.specs.declared.byte_order.ByteOrder.{ByteOrder}
use Rattle.capture_numbers.specs.declared.link_type.LinkType.{LinkType}
use Rattle.capture_packet.specs.ArpPackets.{arp_of}
use Rattle.capture_packet.specs.Contents.{Shows, ShowsRefused}
use Rattle.capture_packet.specs.FragmentFields.{fragment_fields}
use Rattle.capture_packet.specs.Link.{HasLinkHeader, IsFoundAfter, NeedsLinkHeader}
use Rattle.capture_packet.specs.HopLimits.{hop_limit_of}
use Rattle.capture_packet.specs.Packets.{in_no_tunnel}
use Rattle.capture_packet.specs.Tunnels.{Outer, by_value, max_tunnels, opened}
use Rattle.capture_packet.specs.Verdicts.{JudgesTransport, is_cut_off, unread_verdict, untested}
use Rattle.capture_packet.specs.declared.content.Content.TheVariants.{NotIp, Unread}
use Rattle.capture_packet.specs.declared.link.Frame.{Frame}
use Rattle.capture_packet.specs.declared.link.Frame.TheVariants.{Ip, Other}
use Rattle.capture_packet.specs.declared.link.LinkHeaderCutOff.{LinkHeaderCutOff}
use Rattle.capture_packet.specs.declared.network_protocol.NetworkProtocol.{NetworkProtocol}
use Rattle.capture_packet.specs.declared.packet.Packet.{Packet}
use Rattle.capture_packet.specs.declared.refusal.Refusal.TheVariants as refusals
use Rattle.capture_packet.specs.declared.verdict.Verdict.{Verdict}
use Rattle.capture_packet.specs.declared.verdict.Verdict.TheVariants.{Refused}

-- the maximum length in bytes of a packet that is read, and of a block of a pcapng file
abbrev pub max_packet_len : ℕ
max_packet_len = 524288

-- ---- IP packets

-- the content of the packet contains this transport, the verdict on the packet is the verdict on this transport, and the packet has the
-- fields of its fragment if it is one
abbrev pub IsInPacket : Bool → List ℕ → TransportInIp → Packet → Type 0
IsInPacket is_cut bytes found packet = Shows bytes found packet.verdict packet.content
    × (JudgesTransport is_cut found packet.verdict × (packet.fragment ≡ fragment_fields bytes))

-- the IP headers of the packet are accepted, and a transport follows them
pub record IsCarried (is_cut : Bool) (bytes : List ℕ) (packet : Packet) : Type 0 where
  pub found : TransportInIp
  pub carries : Carries bytes found
  pub stated : found.is_length_missing ≡ lacks_len bytes
  pub after : IsAfterHeaders bytes found
  pub is_in : IsInPacket is_cut bytes found packet

-- the IP headers of the packet are refused with this error
abbrev pub IsUnread : Bool → List ℕ → IpError → Packet → Type 0
IsUnread is_cut_off bytes error packet =
    ShowsRefused bytes packet.content × ((packet.verdict ≡ unread_verdict is_cut_off error) × (packet.fragment ≡ None))

-- An IP packet. Its headers are accepted or refused. A packet that is cut off or states no length is not refused for that reason.
abbrev pub IsIpPacket : Bool → List ℕ → Packet → Type 0
IsIpPacket is_cut bytes packet = (packet.hop_limit ≡ hop_limit_of bytes) × (packet.arp ≡ None)
    × MatchOption (lax_refusal bytes) (IsCarried is_cut bytes packet)
    (λ error. IsUnread (is_cut_off is_cut bytes (refusal bytes)) bytes error packet)

-- ---- frames

-- Some bytes after the link header are missing, since the capture cut the frame. This is false if the link header states where these bytes
-- end. Then all of them are present, and only bytes after their end are missing.
abbrev pub are_bytes_cut : Bool → Bool → Bool
are_bytes_cut is_cut is_end_stated = is_cut && not is_end_stated

-- a packet of a protocol other than IP; these bytes follow the link header
abbrev pub other_packet : NetworkProtocol → List ℕ → Packet
other_packet protocol bytes = record (in_no_tunnel (NotIp protocol) (untested OtherProtocol)) { arp = arp_of protocol bytes }

-- the packet `alone`, which is in no tunnel, in tunnels with these outer packets
abbrev pub IsWithin : List Outer → Packet → Packet → Type 0
IsWithin outers alone packet = (map by_value packet.tunnels.items ≡ outers) × (packet ≡ record alone { tunnels = packet.tunnels })

-- The packet in the frame: another protocol, or what `ReadsIp` states about the bytes of an IP packet. The frame is in tunnels with these
-- outer packets.
abbrev pub IsInFrame : (Bool → List ℕ → Packet → Type 0) → List Outer → Bool → Frame → Packet → Type 0
IsInFrame ReadsIp outers is_cut (Ip found) packet = ReadsIp (are_bytes_cut is_cut found.is_end_stated) found.bytes.now packet
IsInFrame ReadsIp outers is_cut (Other protocol found) packet = IsWithin outers (other_packet protocol found.bytes.now) packet

-- the packet in a frame that has a whole link header
pub record IsAfterHeader (ReadsIp : Bool → List ℕ → Packet → Type 0) (outers : List Outer) (link_type : LinkType) (order : ByteOrder)
    (frame : List ℕ) (is_cut : Bool) (packet : Packet) : Type 0 where
  pub found : Frame
  pub after_header : IsFoundAfter (HasLinkHeader link_type order frame) frame found
  pub is_in : IsInFrame ReadsIp outers is_cut found packet

-- the verdict on a frame that ends within its link header: the frame is refused, unless the capture cut it
abbrev pub link_verdict : Bool → LinkHeaderCutOff → Verdict
link_verdict true error = untested CutOff
link_verdict false error = Refused (refusals.Link error)

-- the packet in a frame that ends within its link header
pub record IsHeaderCutOff (outers : List Outer) (link_type : LinkType) (order : ByteOrder) (frame : List ℕ) (is_cut : Bool) (packet : Packet) : Type 0 where
  pub error : LinkHeaderCutOff
  pub needs : NeedsLinkHeader link_type order frame error.required_len
  pub len : error.len ≡ length frame
  pub is : IsWithin outers (in_no_tunnel Unread (link_verdict is_cut error)) packet

-- The packet that is read from a frame in tunnels with these outer packets. `is_cut` is true if only the first bytes of the frame are
-- present. `ReadsIp` states what is read from the bytes of an IP packet in the frame.
abbrev pub IsReadFrom : (Bool → List ℕ → Packet → Type 0) → List Outer → LinkType → ByteOrder → List ℕ → Bool → Packet → Type 0
IsReadFrom ReadsIp outers link_type order frame is_cut packet =
    IsAfterHeader ReadsIp outers link_type order frame is_cut packet ⊎ IsHeaderCutOff outers link_type order frame is_cut packet

-- the packet, in no tunnel, that is read from a frame in which no IP packet is read
abbrev pub IsWithoutIp : LinkType → ByteOrder → List ℕ → Bool → Packet → Type 0
IsWithoutIp link_type order frame is_cut packet = IsReadFrom (λ is_bytes_cut bytes other. ⊥) [] link_type order frame is_cut packet

-- ---- tunnels

-- an IP packet in tunnels with these outer packets, in which no further tunnel is opened
abbrev pub IsAlone : List Outer → Bool → List ℕ → Packet → Type 0
IsAlone outers is_cut bytes packet = (map by_value packet.tunnels.items ≡ outers) × IsIpPacket is_cut bytes packet

-- The packet that is read from an IP packet in tunnels with these outer packets. At most `left` further tunnels are opened. The frame in a
-- tunnel is read like any other frame.
unfoldable pub IsReadIn : (left : ℕ) → Bool → ByteOrder → List Outer → Bool → List ℕ → Packet → Type 0
IsReadIn zero udp_tunnels order outers is_cut bytes packet = IsAlone outers is_cut bytes packet
IsReadIn (suc more) udp_tunnels order outers is_cut bytes packet =
    MatchOption (opened udp_tunnels is_cut bytes) (IsAlone outers is_cut bytes packet)
    (λ tunnel. IsReadFrom (IsReadIn more udp_tunnels order (outers ++ tunnel.outer ∷ []))
    (outers ++ tunnel.outer ∷ []) tunnel.link_type order
    tunnel.bytes tunnel.is_cut packet)

-- The packet that is read from a frame. `is_cut` is true if the capture contains only the first bytes of the frame. `udp_tunnels` states
-- whether tunnels in UDP are read.
abbrev pub IsRead : Bool → LinkType → ByteOrder → List ℕ → Bool → Packet → Type 0
IsRead udp_tunnels link_type order frame is_cut packet =
    IsReadFrom (IsReadIn max_tunnels udp_tunnels order []) [] link_type order frame is_cut packet
