use Rattle.std.proofs.Common.{arith, refl}
use Rattle.capture_file.specs.CapturePackets.{kept, too_long}
use Rattle.capture_file.specs.declared.reader.next_packet.NextPacket.TheVariants.{Refused, TooLong, Whole}
use Rattle.report_page.proofs.ReadingLemmas.{frame_of, reads_as, reads_one}
use Rattle.report_page.proofs.rows.next_row.Goals as goal

-- a packet that fits in the buffer
pub returns-in-Ok-Whole-clause-row : goal.returns-in-Ok-Whole-clause-row
returns-in-Ok-Whole-clause-row g c =
    let captured = c.in-Ok-Whole.captured in
    let buffer = c.next_packet.new.buffer in
    record {
      captured = kept captured (frame_of buffer captured);
      reads = reads_one _ _ _ _ _ buffer _ (Whole captured) _ (omega arith) c.in-Ok-Whole.field-0-is c.in-Ok-Whole.ensures.reads refl;
      packet = c.packet_in_frame-packet.result;
      is_packet = c.packet_in_frame-packet.ensures;
      is_row = rw (c.offset.ensures, c.captured_info.ensures) at c.row_of.ensures;
    }

-- a packet that is longer than the buffer
pub returns-in-Ok-TooLong-clause-row : goal.returns-in-Ok-TooLong-clause-row
returns-in-Ok-TooLong-clause-row g c =
    let captured = c.in-Ok-TooLong.captured in
    let buffer = c.next_packet.new.buffer in
    record {
      captured = too_long captured;
      reads = reads_one _ _ _ _ _ buffer _ (TooLong captured) _ (omega arith) c.in-Ok-TooLong.field-0-is c.in-Ok-TooLong.ensures.reads refl;
      packet = c.packet_without_room-packet.result;
      is_packet = c.packet_without_room-packet.ensures;
      is_row = rw (c.offset-in-Ok-TooLong.ensures, c.too_long_info.ensures) at c.row_of-in-Ok-TooLong.ensures;
    }

-- a block that is refused
pub returns-in-Ok-Refused-clause-stop : goal.returns-in-Ok-Refused-clause-stop
returns-in-Ok-Refused-clause-stop g c = (
  c.next_packet.new.buffer,
  omega arith,
  Refused c.in-Ok-Refused.field-0-0,
  reads_as _ _ _ _ _ _ _ c.in-Ok-Refused.field-0-is c.in-Ok-Refused.ensures.reads,
  refl,
)
