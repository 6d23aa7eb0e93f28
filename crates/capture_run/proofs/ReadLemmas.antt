-- Laws about the item that ends the packets of a capture, and about the reader after this item.
use Rattle.std.proofs.Common.{◌≡◌, ◌+◌, List, Err, None, Ok, Option, Result, Some, IfSome, length, refl, subst, ℕ}
use Rattle.capture_file.proofs.CapturePacketsLemmas.{has_packets}
use Rattle.capture_file.specs.CapturePackets.{EndsWith, FilePacket, HasPackets, ReadsPackets, packet_in}
use Rattle.capture_file.specs.PcapngSteps.{ReadsPacket}
use Rattle.capture_file.specs.declared.reader.capture_reader.CaptureReader.{CaptureReader}
use Rattle.capture_file.specs.declared.reader.next_packet.NextPacket.{NextPacket}
use Rattle.capture_file.specs.declared.reader.next_packet.NextPacket.TheVariants as packets
use Rattle.capture_packet.specs.Frames.{max_packet_len}
use Rattle.capture_request.specs.Report.{EndsAfter, EndsAtItem, HasEnded, IsAnsweredBy, IsReadToEnd, ReadsEnd}
use Rattle.capture_request.specs.declared.capture_error.CaptureError.{CaptureError}
use Rattle.capture_request.specs.declared.capture_error.CaptureError.TheVariants.{Header, Read, ReadHeader, RecordCutOff, Refused, TooManyPackets}
use Rattle.capture_request.specs.declared.reached.Reached.{Reached}
use Rattle.capture_request.specs.declared.reached.Reached.TheVariants.{End, Limit}

-- if an item was read that is not a packet, the packets end with this item
pub reads_end : (before after : CaptureReader) (left still_left : Option (List ℕ)) (buffer : List ℕ) (read next : NextPacket)
    → length buffer ≡ max_packet_len → read ≡ next → ReadsPacket before left still_left after buffer read → packet_in buffer next ≡ None
    → ReadsEnd before left next still_left after
reads_end before after left still_left buffer read next room is reads none = (
  record {
    still_left = still_left;
    after = after;
    buffer = buffer;
    has_room = room;
    reads = subst (ReadsPacket before left still_left after buffer) is reads;
    no_packet = none;
  },
  refl,
  refl,
)

-- the report ended at the next item
pub ended_at_item : (count number : ℕ) (before after : CaptureReader) (left still_left : Option (List ℕ))
    (ended : Result Reached CaptureError)
    → EndsAtItem number before left still_left after ended → HasEnded count number before left still_left after ended
ended_at_item count number before after left still_left (Ok End) ends = ends
ended_at_item count number before after left still_left (Err (RecordCutOff its_number offset required len)) ends = ends
ended_at_item count number before after left still_left (Err (Refused error)) ends = ends
ended_at_item count number before after left still_left (Err (Read its_number offset error)) ends = ends
ended_at_item count number before after left still_left (Ok Limit) ends = absurd ends
ended_at_item count number before after left still_left (Err TooManyPackets) ends = absurd ends
ended_at_item count number before after left still_left (Err (Header error)) ends = absurd ends
ended_at_item count number before after left still_left (Err (ReadHeader error)) ends = absurd ends

-- the item after the last packet of the input; the result reports this item
item_of : (number : ℕ) (before after : CaptureReader) (left still_left : Option (List ℕ)) (ended : Result Reached CaptureError)
    → EndsAtItem number before left still_left after ended → IsReadToEnd ended
    → (next : NextPacket) × EndsWith max_packet_len before left next × IsAnsweredBy next number ended
item_of number before after left still_left (Ok End) ends is_end = (packets.End, ends.0, refl)
item_of number before after left still_left (Err (RecordCutOff its_number offset required len)) ends is_end =
    (packets.CutOff required len, ends.0.0, (refl, ends.1))
item_of number before after left still_left (Err (Refused error)) ends is_end = (packets.Refused error, ends.0, refl)
item_of number before after left still_left (Ok Limit) ends is_end = absurd is_end
item_of number before after left still_left (Err TooManyPackets) ends is_end = absurd is_end
item_of number before after left still_left (Err (Read its_number offset error)) ends is_end = absurd is_end
item_of number before after left still_left (Err (Header error)) ends is_end = absurd is_end
item_of number before after left still_left (Err (ReadHeader error)) ends is_end = absurd is_end

-- if the input was read to its end, the packets that were read are all packets
ends_after : (reader : CaptureReader) (left : Option (List ℕ)) (packets : List FilePacket) (next : NextPacket)
    (ended : Result Reached CaptureError)
    → IfSome left (λ bytes. HasPackets max_packet_len reader bytes packets next) → IsAnsweredBy next (length packets + 1) ended
    → IfSome left (EndsAfter reader packets ended)
ends_after reader None packets next ended has answered = tt
ends_after reader (Some bytes) packets next ended has answered = (next, has, answered)

-- if the input was read to its end, the packets that were read are all packets of the input
pub all_packets : (reader before after : CaptureReader) (left middle still_left : Option (List ℕ)) (packets : List FilePacket)
    (ended : Result Reached CaptureError) → ReadsPackets max_packet_len reader left middle before packets
    → EndsAtItem (length packets + 1) before middle still_left after ended → IsReadToEnd ended
    → IfSome left (EndsAfter reader packets ended)
all_packets reader before after left middle still_left packets ended read ends is_end =
    let (next, is_item, answered) = item_of (length packets + 1) before after middle still_left ended ends is_end in
    ends_after reader left packets next ended (has_packets max_packet_len reader before left middle packets next read is_item) answered
