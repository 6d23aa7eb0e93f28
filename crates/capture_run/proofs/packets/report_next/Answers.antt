use Rattle.std.proofs.Common.{arith, refl, rules, subst}
use Rattle.std.specs.Prelude.{◌≡◌, ◌+◌, ℕ, List, Option, Some, length, slice_range}
use Rattle.capture_file.specs.CapturePackets.{FilePacket, ReadsOne, kept, packet_in, too_long}
use Rattle.capture_file.specs.PcapngSteps.{ReadsPacket}
use Rattle.capture_file.specs.declared.reader.capture_reader.CaptureReader.{CaptureReader}
use Rattle.capture_file.specs.declared.reader.captured_packet.CapturedPacket.{CapturedPacket}
use Rattle.capture_file.specs.declared.reader.next_packet.NextPacket.{NextPacket}
use Rattle.capture_file.specs.declared.reader.next_packet.NextPacket.TheVariants.{CutOff, End, Refused, TooLong, Whole}
use Rattle.capture_run.proofs.ReadLemmas.{reads_end}
use Rattle.capture_file.proofs.ReaderLemmas.{at_error}
use Rattle.capture_packet.specs.Frames.{max_packet_len}
use Rattle.capture_run.proofs.packets.report_next.Goals as goal

-- the packet that was read is in the buffer
abbrev frame_of : List ℕ → CapturedPacket → List ℕ
frame_of buffer packet = slice_range buffer packet.start (packet.start + packet.captured_len)

reads_one : (before after : CaptureReader) (left still_left : Option (List ℕ)) (buffer : List ℕ) (read next : NextPacket)
    (packet : FilePacket)
    → length buffer ≡ max_packet_len → read ≡ next → ReadsPacket before left still_left after buffer read
    → packet_in buffer next ≡ Some packet → ReadsOne max_packet_len before left still_left after packet
reads_one before after left still_left buffer read next packet room is reads gives = record {
  buffer = buffer;
  has_room = room;
  next = next;
  reads = subst (ReadsPacket before left still_left after buffer) is reads;
  gives = gives;
}

-- ---- a packet that fits in the buffer: this packet is counted, and its text is written

pub returns-in_ok-add-in-Ok-Whole-clause-next : goal.returns-in_ok-add-in-Ok-Whole-clause-next
returns-in_ok-add-in-Ok-Whole-clause-next g c =
    let packet = c.in-Ok-Whole.packet in
    let buffer = c.next_packet.new.buffer in
    record {
      packet = kept packet (frame_of buffer packet);
      reads = reads_one _ _ _ _ buffer _ (Whole packet) _ (omega arith) c.in-Ok-Whole.field-0-is c.in-Ok-Whole.ensures.reads refl;
      counted = c.in_ok-add-in-Ok-Whole.ensures.counted;
    }

pub returns-in_ok-add-in-Ok-Whole-clause-text : goal.returns-in_ok-add-in-Ok-Whole-clause-text
unfolding returns-in_ok-add-in-Ok-Whole-clause-next
returns-in_ok-add-in-Ok-Whole-clause-text g c =
    let (text, is_text, appends) = rw c.texts_of-texts.ensures at c.in_ok-add-in-Ok-Whole.ensures.text in
    λ none. (
      text,
      record { reports = returns-in_ok-add-in-Ok-Whole-clause-next g c; is_first = c.add.ensures.first; is_text = is_text },
      appends,
    )

pub returns-in_err-add-in-Ok-Whole-clause-after_packet : goal.returns-in_err-add-in-Ok-Whole-clause-after_packet
returns-in_err-add-in-Ok-Whole-clause-after_packet g c =
    let packet = c.in-Ok-Whole.packet in
    let buffer = c.next_packet.new.buffer in
    at_error c.from_residual.result (
      kept packet (frame_of buffer packet),
      reads_one _ _ _ _ buffer _ (Whole packet) _ (omega arith) c.in-Ok-Whole.field-0-is c.in-Ok-Whole.ensures.reads refl,
    )

-- ---- a packet that is too long

pub returns-in_ok-add_too_long-in-Ok-TooLong-clause-next : goal.returns-in_ok-add_too_long-in-Ok-TooLong-clause-next
returns-in_ok-add_too_long-in-Ok-TooLong-clause-next g c =
    let packet = c.in-Ok-TooLong.packet in
    record {
      packet = too_long packet;
      reads = reads_one _ _ _ _ c.next_packet.new.buffer _ (TooLong packet) _
          (omega arith) c.in-Ok-TooLong.field-0-is c.in-Ok-TooLong.ensures.reads refl;
      counted = c.in_ok-add_too_long-in-Ok-TooLong.ensures.counted;
    }

pub returns-in_ok-add_too_long-in-Ok-TooLong-clause-text : goal.returns-in_ok-add_too_long-in-Ok-TooLong-clause-text
unfolding returns-in_ok-add_too_long-in-Ok-TooLong-clause-next
returns-in_ok-add_too_long-in-Ok-TooLong-clause-text g c =
    let (text, is_text, appends) = c.in_ok-add_too_long-in-Ok-TooLong.ensures.text in
    λ none. (
      text,
      record {
        reports = returns-in_ok-add_too_long-in-Ok-TooLong-clause-next g c;
        is_first =
            c.add_too_long.ensures.first;
        is_text = is_text;
      },
      appends,
    )

pub returns-in_err-add_too_long-in-Ok-TooLong-clause-after_packet : goal.returns-in_err-add_too_long-in-Ok-TooLong-clause-after_packet
returns-in_err-add_too_long-in-Ok-TooLong-clause-after_packet g c =
    let packet = c.in-Ok-TooLong.packet in
    at_error c.from_residual-in_err-add_too_long-in-Ok-TooLong.result (
      too_long packet,
      reads_one _ _ _ _ c.next_packet.new.buffer _ (TooLong packet) _
          (omega arith) c.in-Ok-TooLong.field-0-is c.in-Ok-TooLong.ensures.reads refl,
    )

-- ---- no packet: the end, a record or block that is cut off, a block that can't be read, or a failed read

pub returns-in-Ok-End-clause-next : goal.returns-in-Ok-End-clause-next
returns-in-Ok-End-clause-next g c = (
  refl,
  reads_end _ _ _ _ c.next_packet.new.buffer _ End (omega arith) c.in-Ok-End.field-0-is c.in-Ok-End.ensures.reads refl,
)

pub returns-in-Ok-CutOff-clause-next : goal.returns-in-Ok-CutOff-clause-next
returns-in-Ok-CutOff-clause-next g c = (
  refl,
  (
    reads_end _ _ _ _ c.next_packet.new.buffer _ (CutOff c.in-Ok-CutOff.required_len c.in-Ok-CutOff.len) (omega arith)
        c.in-Ok-CutOff.field-0-is c.in-Ok-CutOff.ensures.reads refl,
    refl,
    c.offset.ensures,
  ),
)

pub returns-in-Ok-Refused-clause-next : goal.returns-in-Ok-Refused-clause-next
returns-in-Ok-Refused-clause-next g c = (
  refl,
  reads_end _ _ _ _ c.next_packet.new.buffer _ (Refused c.in-Ok-Refused.error) (omega arith) c.in-Ok-Refused.field-0-is
      c.in-Ok-Refused.ensures.reads refl,
)

pub returns-in-Err-clause-next : goal.returns-in-Err-clause-next
returns-in-Err-clause-next g c = (refl, (search rules, refl, c.offset-in-Err.ensures))
