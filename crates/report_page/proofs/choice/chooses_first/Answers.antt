use Rattle.std.proofs.Common.{refl}
use Rattle.capture_file.specs.CapturePackets.{kept, too_long}
use Rattle.capture_file.specs.declared.reader.next_packet.NextPacket.TheVariants.{TooLong, Whole}
use Rattle.report_page.proofs.ReadingLemmas.{frame_of, item_as}
use Rattle.report_page.proofs.choice.chooses_first.Goals as goal

-- a packet that fits in the buffer
pub returns-in-Whole : goal.returns-in-Whole
returns-in-Whole c =
    let captured = c.in-Whole.captured in
    let buffer = c.first_item.new.buffer in
    record {
      buffer = buffer;
      has_room = c.first_item.auto.buffer;
      reader = c.in_ok-next.field-0-0;
      captured = kept captured (frame_of buffer captured);
      is_first = (Whole captured, item_as _ _ _ _ _ c.in-Whole.is c.in_ok-next.ensures.item, refl);
      packet = c.packet_in_frame-packet.result;
      is_packet = rw c.is_set.ensures at c.packet_in_frame-packet.ensures;
      chooses = c.chooses.ensures;
    }

-- a packet that is longer than the buffer
pub returns-in-TooLong : goal.returns-in-TooLong
returns-in-TooLong c =
    let captured = c.in-TooLong.captured in
    record {
      buffer = c.first_item.new.buffer;
      has_room = c.first_item.auto.buffer;
      reader = c.in_ok-next.field-0-0;
      captured = too_long captured;
      is_first = (TooLong captured, item_as _ _ _ _ _ c.in-TooLong.is c.in_ok-next.ensures.item, refl);
      packet = c.packet_without_room-packet.result;
      is_packet = c.packet_without_room-packet.ensures;
      chooses = c.chooses-in-TooLong.ensures;
    }
