-- The packets that a report reads from a capture, and the packets that it counts. Each chosen packet is counted once, in the order of the
-- packets.
use Rattle.std.specs.Prelude.{◌≡◌, ◌≤◌, ◌⊎◌, ℕ, ◌+◌, Bool, List, length, [], ◌∷◌, nat_lt, Option, Some, None, IfSome, Result, Ok, Err}
use Rattle.std.specs.Option.{option_map}
use Rattle.capture_file.specs.CapturePackets.{BeginsWithPackets, EndsWith, FailsToRead, HasPackets, FilePacket, ReadsOne, ReadsPackets, kept, too_long, offset_of}
use Rattle.capture_summary.specs.Choice.{IsChosen}
use Rattle.capture_request.specs.Endings.{max_packets}
use Rattle.capture_summary.specs.FlowOf.{IsFlowOf}
use Rattle.capture_packet.specs.Frames.{IsRead, max_packet_len}
use Rattle.capture_packet.specs.Packets.{in_no_tunnel}
use Rattle.capture_packet.specs.Verdicts.{untested}
use Rattle.capture_summary.specs.Protocols.{content_protocol}
use Rattle.capture_summary.specs.Kinds.{verdict_kind, verdict_refusal_kind}
use Rattle.capture_summary.specs.SummaryTables.{CountsOne, SummaryTables}
use Rattle.capture_numbers.specs.declared.link_type.LinkType.{LinkType}
use Rattle.capture_packet.specs.declared.content.Content.TheVariants.{NotIp, Unread}
use Rattle.capture_packet.specs.declared.network_protocol.NetworkProtocol.TheVariants as protocols
use Rattle.capture_packet.specs.declared.packet.Packet.{Packet}
use Rattle.capture_packet.specs.declared.verdict.Verdict.TheVariants.{TooLong}
use Rattle.transport_part.specs.declared.checksum_verdict.Untested.TheVariants.{OtherProtocol}
use Rattle.capture_file.specs.declared.reader.capture_reader.CaptureReader.{CaptureReader}
use Rattle.capture_file.specs.declared.reader.captured_packet.CapturedPacket.{CapturedPacket}
use Rattle.capture_file.specs.declared.reader.next_packet.NextPacket.{NextPacket}
use Rattle.capture_file.specs.declared.reader.next_packet.NextPacket.TheVariants as packets
use Rattle.capture_file.specs.declared.reader.next_packet.TooLongPacket.{TooLongPacket}
use Rattle.capture_file.specs.declared.packet_time.PacketTime.{PacketTime}
use Rattle.capture_summary.specs.declared.choice.Choice.{Choice}
use Rattle.capture_request.specs.declared.capture_error.CaptureError.{CaptureError}
use Rattle.capture_request.specs.declared.capture_error.CaptureError.TheVariants.{Read, RecordCutOff, Refused, TooManyPackets}
use Rattle.capture_request.specs.declared.reached.Reached.{Reached}
use Rattle.capture_request.specs.declared.reached.Reached.TheVariants.{End, Limit}
use Rattle.capture_summary.specs.declared.capture_info.CaptureInfo.{CaptureInfo}
use Rattle.capture_summary.specs.declared.flow.Flow.{Flow}

-- A packet was counted once by its protocol, its verdict, its flow, and its link type. A refused packet was also counted by the reason of
-- its refusal. `info` is what the capture states about the packet.
pub record CountsRead (packet : Packet) (info : CaptureInfo) (before after : SummaryTables) : Type 0 where
  pub flow : Option Flow
  pub is_flow : IsFlowOf packet.content flow
  pub counts : CountsOne before (content_protocol packet.content) (verdict_kind packet.verdict)
      (verdict_refusal_kind packet.verdict) flow info after

-- the packet was counted if it is chosen, and nothing was counted otherwise
abbrev pub CountsChosen : Choice → Packet → CaptureInfo → SummaryTables → SummaryTables → Type 0
CountsChosen choice packet info before after =
    (IsChosen choice packet info.time × CountsRead packet info before after)
    ⊎ ((IsChosen choice packet info.time → ⊥) × (after ≡ before))

-- `IsPacket` holds for this packet, and the packet was counted if it is chosen
pub record CountsPacket (choice : Choice) (IsPacket : Packet → Type 0) (info : CaptureInfo) (before after : SummaryTables) : Type 0 where
  pub packet : Packet
  pub is_packet : IsPacket packet
  pub counts : CountsChosen choice packet info before after

-- ---- how a packet is read

-- the packet was not read, since it does not fit in the buffer
abbrev pub IsTooLong : ℕ → Packet → Type 0
IsTooLong required_len packet = packet ≡ in_no_tunnel Unread (TooLong required_len)

-- This packet is read from a frame of this link type. The frame is truncated if its captured length is below its original length. If the
-- link type is unknown, the packet is a frame without an IP packet. `udp_tunnels` states whether tunnels in UDP are read.
abbrev pub IsReadAs : Bool → Result LinkType ℕ → CapturedPacket → List ℕ → Packet → Type 0
IsReadAs udp_tunnels (Ok link_type) captured frame packet =
    IsRead udp_tunnels link_type captured.byte_order frame (nat_lt captured.captured_len captured.original_len) packet
IsReadAs udp_tunnels (Err number) captured frame packet =
    packet ≡ in_no_tunnel (NotIp (protocols.LinkType number)) (untested OtherProtocol)

-- the result of reading a packet of a capture; a packet that does not fit in the buffer is not read
abbrev pub IsPacketOf : Bool → FilePacket → Packet → Type 0
IsPacketOf udp_tunnels (kept captured frame) packet = IsReadAs udp_tunnels captured.link_type captured frame packet
IsPacketOf udp_tunnels (too_long captured) packet = IsTooLong captured.required_len packet

-- the time at which a packet was captured, if the capture states it
abbrev pub packet_time : FilePacket → Option PacketTime
packet_time (kept packet frame) = packet.time
packet_time (too_long packet) = packet.time

-- what the capture states about a packet: its link type, its time, and the length of its frame
abbrev pub captured_info : CapturedPacket → CaptureInfo
captured_info packet = record {
  link_type = Some packet.link_type;
  time = packet.time;
  len = Some (record { original = packet.original_len; captured = packet.captured_len });
}

-- What the capture states about a packet that is longer than the buffer. For a classic capture the original length is known, and the
-- required length is the captured length. For a pcapng file the original length is unknown, since the block was skipped.
abbrev pub too_long_info : TooLongPacket → CaptureInfo
too_long_info packet = record {
  link_type = packet.link_type;
  time = packet.time;
  len = option_map (λ original. record { original = original; captured = packet.required_len }) packet.original_len;
}

-- what the capture states about a packet, whether or not the packet fits in the buffer
abbrev pub info_of : FilePacket → CaptureInfo
info_of (kept packet frame) = captured_info packet
info_of (too_long packet) = too_long_info packet

-- ---- what is counted

-- a packet of a capture was counted, if it is chosen
abbrev pub CountsCaptured : Choice → FilePacket → SummaryTables → SummaryTables → Type 0
CountsCaptured choice packet before after = CountsPacket choice (IsPacketOf choice.udp_tunnels packet) (info_of packet) before after

-- each of these packets was counted if it is chosen, in the order of the packets
abbrev pub CountsEach : Choice → SummaryTables → List FilePacket → SummaryTables → Type 0
CountsEach choice before [] after = after ≡ before
CountsEach choice before (packet ∷ packets) after =
    (between : SummaryTables) × CountsCaptured choice packet before between × CountsEach choice between packets after

-- one packet was read, and it was counted if it is chosen
pub record ReportsOne (choice : Choice) (reader : CaptureReader) (left still_left : Option (List ℕ)) (still_reader : CaptureReader) (before after : SummaryTables) : Type 0 where
  pub packet : FilePacket
  pub reads : ReadsOne max_packet_len reader left still_left still_reader packet
  pub counted : CountsCaptured choice packet before after

-- zero or more whole packets were read, and nothing was read after them
abbrev pub ReadsWholePackets : CaptureReader → Option (List ℕ) → Option (List ℕ) → CaptureReader → Type 0
ReadsWholePackets reader left still_left still_reader =
    (packets : List FilePacket) × ReadsPackets max_packet_len reader left still_left still_reader packets

-- ---- the end of the packets

-- the packets were read until the input ended, or until a record or block was cut off or refused
abbrev pub IsReadToEnd : Result Reached CaptureError → Type 0
IsReadToEnd (Ok End) = Unit {0}
IsReadToEnd (Err (RecordCutOff number offset required_len len)) = Unit {0}
IsReadToEnd (Err (Refused error)) = Unit {0}
IsReadToEnd other = ⊥

-- The result of a report, given the item after the last packet. The end of the input is not an error. If a record or block is cut off, the
-- error contains its required and its actual length, and `number`, the number of the next packet. If a block is refused, the error contains
-- the reason.
abbrev pub IsAnsweredBy : NextPacket → ℕ → Result Reached CaptureError → Type 0
IsAnsweredBy next number (Ok End) = next ≡ packets.End
IsAnsweredBy next number (Err (RecordCutOff its_number offset required len)) = (next ≡ packets.CutOff required len) × (its_number ≡ number)
IsAnsweredBy next number (Err (Refused error)) = next ≡ packets.Refused error
IsAnsweredBy next number other = ⊥

-- The next item `next` was read, and is not a packet. `after` is the reader after this item.
abbrev pub ReadsEnd : CaptureReader → Option (List ℕ) → NextPacket → Option (List ℕ) → CaptureReader → Type 0
ReadsEnd before left next still_left after =
    (ends : EndsWith max_packet_len before left next) × (still_left ≡ ends.still_left) × (after ≡ ends.after)

-- No further packet could be read, and the report ended with this result. Either the next item is not a packet, or reading the next item
-- failed. `number` is the number of the next packet. If a record or block is cut off, or if reading it failed, the error contains this
-- number. It also contains the place at which the record or block begins. `after` is the reader at the end.
abbrev pub EndsAtItem : ℕ → CaptureReader → Option (List ℕ) → Option (List ℕ) → CaptureReader → Result Reached CaptureError → Type 0
EndsAtItem number before left still_left after (Ok End) = ReadsEnd before left packets.End still_left after
EndsAtItem number before left still_left after (Err (RecordCutOff its_number offset required len)) =
    ReadsEnd before left (packets.CutOff required len) still_left after × (its_number ≡ number) × (offset ≡ offset_of after)
EndsAtItem number before left still_left after (Err (Refused error)) = ReadsEnd before left (packets.Refused error) still_left after
EndsAtItem number before left still_left after (Err (Read its_number offset error)) =
    FailsToRead max_packet_len before left still_left after × (its_number ≡ number) × (offset ≡ offset_of after)
EndsAtItem number before left still_left after other = ⊥

-- The report of a capture ended with this result. `count` is the number of packets read from this capture, plus the number of packets
-- counted in the captures before it. If the requested number was reached, or if no further packet can be counted, nothing was
-- read after the last packet. Otherwise the item after the last packet ended the report. `number` is the number that the next packet would
-- have had. `after` is the reader at the end.
abbrev pub HasEnded : ℕ → ℕ → CaptureReader → Option (List ℕ) → Option (List ℕ) → CaptureReader → Result Reached CaptureError → Type 0
HasEnded count number before left still_left after (Ok Limit) = (still_left ≡ left) × (after ≡ before)
HasEnded count number before left still_left after (Err TooManyPackets) = (max_packets ≤ count) × (still_left ≡ left) × (after ≡ before)
HasEnded count number before left still_left after ended = EndsAtItem number before left still_left after ended

-- If the result is `None`, the next packet was read, and was counted if it is chosen. Otherwise no packet could be read, nothing was
-- counted, and the result is the reason. `number` is the number of the next packet.
abbrev pub ReportsNext : Choice → ℕ → CaptureReader → Option (List ℕ) → Option (List ℕ) → CaptureReader → SummaryTables → SummaryTables
    → Option (Result Reached CaptureError) → Type 0
ReportsNext choice number reader left still_left still_reader before after None =
    ReportsOne choice reader left still_left still_reader before after
ReportsNext choice number reader left still_left still_reader before after (Some ended) =
    (after ≡ before) × EndsAtItem number reader left still_left still_reader ended

-- the bytes after the beginning of a capture contain exactly these packets, and this result reports the item after them
abbrev pub EndsAfter : CaptureReader → List FilePacket → Result Reached CaptureError → List ℕ → Type 0
EndsAfter reader packets ended bytes =
    (next : NextPacket) × HasPackets max_packet_len reader bytes packets next × IsAnsweredBy next (length packets + 1) ended

-- These packets of a capture were read, and then the report of the capture ended with this result. `first` is the reader before these
-- packets, and `last` is the reader at the end. `counted` is the number of packets that were counted in the captures before this capture.
-- The bytes of the capture begin with these packets. If the bytes were read to their end, they contain no other packet.
pub record ReadsUntil (first : CaptureReader) (left still_left : Option (List ℕ)) (packets : List FilePacket) (counted : ℕ)
    (last : CaptureReader)
    (ended : Result Reached CaptureError) : Type 0 where
  pub middle : Option (List ℕ)
  pub before : CaptureReader
  pub reads : ReadsPackets max_packet_len first left middle before packets
  pub has_ended : HasEnded (counted + length packets) (length packets + 1) before middle still_left last ended
  pub are_first : IfSome left (BeginsWithPackets max_packet_len first packets)
  pub are_all : IsReadToEnd ended → IfSome left (EndsAfter first packets ended)
