-- The translation of a packet by the table.
use Rattle.std.specs.Prelude.{◌≡◌, ◌≤◌, ◌++◌, ◌⊎◌, ℕ, ◌==◌, Bool, true, false, if◌then◌else◌, List, drop, length, slice_range, take, Option, Some, None, Result, Ok, Err}
use Rattle.capture_numbers.specs.declared.byte_order.ByteOrder.{ByteOrder}
use Rattle.capture_numbers.specs.declared.link_type.LinkType.{LinkType}
use Rattle.capture_packet.specs.Link.{HasLinkHeader, NeedsLinkHeader}
use Rattle.capture_packet.specs.LinkHeaders.{end_in}
use Rattle.capture_packet.specs.declared.network_protocol.NetworkProtocol.{NetworkProtocol}
use Rattle.etherparse_transport.specs.Ipv4Translations.{ipv4_translated}
use Rattle.etherparse_transport.specs.Ipv6Translations.{ipv6_translated}
use Rattle.net_base.specs.IpHeaders.{version}
use Rattle.translator.specs.Given.{ipv4_given, ipv6_given}
use Rattle.translator.specs.Outcomes.{done_with}
use Rattle.translator.specs.Reasons.{ipv4_reason, ipv6_reason, is_ipv4_nothing, is_ipv6_nothing, reason_of}
use Rattle.translator.specs.declared.done.Done.{Done}
use Rattle.translator.specs.declared.reason.Reason.{Reason}
use Rattle.translator.specs.declared.reason.Reason.TheVariants as reasons
use Rattle.translator.specs.declared.table.Table.{Table}

-- ---- packets

-- an IPv4 packet was translated, or no replacement applies to it, or it stays as it is for this reason
abbrev pub TranslatesIpv4 : Table → List ℕ → List ℕ → Result Bool Reason → Type 0
TranslatesIpv4 table packet after (Ok true) = (ipv4_reason table packet ≡ None)
    × (is_ipv4_nothing (ipv4_given table packet) ≡ false) × (after ≡ ipv4_translated (ipv4_given table packet) packet)
TranslatesIpv4 table packet after (Ok false) = (ipv4_reason table packet ≡ None)
    × (is_ipv4_nothing (ipv4_given table packet) ≡ true) × (after ≡ packet)
TranslatesIpv4 table packet after (Err reason) = (ipv4_reason table packet ≡ Some reason) × (after ≡ packet)

-- an IPv6 packet was translated, or no replacement applies to it, or it stays as it is for this reason
abbrev pub TranslatesIpv6 : Table → List ℕ → List ℕ → Result Bool Reason → Type 0
TranslatesIpv6 table packet after (Ok true) = (ipv6_reason table packet ≡ None)
    × (is_ipv6_nothing (ipv6_given table packet) ≡ false) × (after ≡ ipv6_translated (ipv6_given table packet) packet)
TranslatesIpv6 table packet after (Ok false) = (ipv6_reason table packet ≡ None)
    × (is_ipv6_nothing (ipv6_given table packet) ≡ true) × (after ≡ packet)
TranslatesIpv6 table packet after (Err reason) = (ipv6_reason table packet ≡ Some reason) × (after ≡ packet)

-- the table replaces nothing in an IP packet
abbrev pub is_nothing : Table → List ℕ → Bool
is_nothing table packet =
    if version packet == 6 then is_ipv6_nothing (ipv6_given table packet) else is_ipv4_nothing (ipv4_given table packet)

-- an IP packet after the replacements of the table
abbrev pub translated : Table → List ℕ → List ℕ
translated table packet =
    if version packet == 6 then ipv6_translated (ipv6_given table packet) packet else ipv4_translated (ipv4_given table packet) packet

-- a packet of either IP version was translated, or no replacement applies to it, or it stays as it is for this reason
abbrev pub TranslatesIp : Table → List ℕ → List ℕ → Result Bool Reason → Type 0
TranslatesIp table packet after (Ok true) =
    (reason_of table packet ≡ None) × (is_nothing table packet ≡ false) × (after ≡ translated table packet)
TranslatesIp table packet after (Ok false) = (reason_of table packet ≡ None) × (is_nothing table packet ≡ true) × (after ≡ packet)
TranslatesIp table packet after (Err reason) = (reason_of table packet ≡ Some reason) × (after ≡ packet)

-- the same, with an outcome that also states the IP version of the packet
abbrev pub TranslatesPacket : Table → List ℕ → List ℕ → Result Done Reason → Type 0
TranslatesPacket table packet after (Ok done) =
    (applies : Bool) × (done ≡ done_with (version packet == 6) applies) × TranslatesIp table packet after (Ok applies)
TranslatesPacket table packet after (Err reason) = TranslatesIp table packet after (Err reason)

-- ---- frames

-- The IP packet in a frame begins at `start` and ends before `end`. It begins after the link header. It ends where the link header states,
-- or else at the end of the frame.
pub record IsPacketIn (link_type : LinkType) (order : ByteOrder) (frame : List ℕ) (start end : ℕ) : Type 0 where
  pub stated : Option ℕ
  pub header : HasLinkHeader link_type order frame start None stated
  pub is_end : end ≡ end_in frame stated
  pub ordered : start ≤ end
  pub within : end ≤ length frame

-- the packet in a frame was translated, or stays as it is; the bytes before and after it stay as they are
pub record TranslatesWithin (table : Table) (link_type : LinkType) (order : ByteOrder) (frame after : List ℕ) (result : Result Done Reason) : Type 0 where
  pub start : ℕ
  pub end : ℕ
  pub is_packet : IsPacketIn link_type order frame start end
  pub packet : List ℕ
  pub translates : TranslatesPacket table (slice_range frame start end) packet result
  pub written : after ≡ take start frame ++ (packet ++ drop end frame)

-- the frame has a link header that is followed by a protocol other than IP
pub record IsNotIp (link_type : LinkType) (order : ByteOrder) (frame : List ℕ) : Type 0 where
  pub len : ℕ
  pub protocol : NetworkProtocol
  pub stated : Option ℕ
  pub header : HasLinkHeader link_type order frame len (Some protocol) stated

-- The reason why a frame contains no IP packet. The frame ends within its link header, or contains another protocol.
abbrev pub HasNoPacket : LinkType → ByteOrder → List ℕ → Reason → Type 0
HasNoPacket link_type order frame reasons.LinkHeader = (required_len : ℕ) × NeedsLinkHeader link_type order frame required_len
HasNoPacket link_type order frame reasons.NotIp = IsNotIp link_type order frame
HasNoPacket link_type order frame reason = ⊥

-- the packet in a frame was translated, or the frame stays as it is for this reason
abbrev pub TranslatesFrame : Table → LinkType → ByteOrder → List ℕ → List ℕ → Result Done Reason → Type 0
TranslatesFrame table link_type order frame after (Ok applies) = TranslatesWithin table link_type order frame after (Ok applies)
TranslatesFrame table link_type order frame after (Err reason) = (after ≡ frame)
    × (HasNoPacket link_type order frame reason ⊎ TranslatesWithin table link_type order frame after (Err reason))

-- the packet in a frame was translated, or the frame stays as it is; a frame whose link type is not read always stays as it is
abbrev pub TranslatesCaptured : Table → Result LinkType ℕ → ByteOrder → List ℕ → List ℕ → Result Done Reason → Type 0
TranslatesCaptured table (Ok link_type) order frame after result = TranslatesFrame table link_type order frame after result
TranslatesCaptured table (Err number) order frame after result = (after ≡ frame) × (result ≡ Err reasons.LinkType)
