use Rattle.std.proofs.Common.{length, refl}
use Rattle.capture_file.specs.CapturePackets.{kept, too_long}
use Rattle.capture_file.specs.declared.reader.next_packet.NextPacket.TheVariants.{TooLong, Whole}
use Rattle.report_page.proofs.ReadingLemmas.{frame_of, item_as, some_follows}
use Rattle.capture_file.specs.PacketTexts.{no_packet_texts, texts_of}
use Rattle.capture_request.specs.Report.{captured_info, too_long_info}
use Rattle.capture_text.specs.PacketLine.{IsLine}
use Rattle.report_page.specs.Lines.{IsFirstLine, is_set, times_of}
use Rattle.report_page.specs.Times.{time_of}
use Rattle.report_page.proofs.line.first_line.Goals as goal

-- a packet that fits in the buffer
pub returns-in-Whole : goal.returns-in-Whole
returns-in-Whole c =
    let captured = c.in-Whole.captured in
    let buffer = c.first_item.new.buffer in
    let written = rw (c.texts_of-texts.ensures, c.captured_info.ensures) at c.written.ensures in
    let request = c.args.request.now in
    let info = captured_info captured in
    some_follows c.written.result
    (λ line. IsLine (times_of request.is_absolute) (is_set request.is_verbose) request.number
    (texts_of c.in_ok-reader.reader captured.interface) (time_of request.first) info.time info.len
    c.packet_in_frame-packet.result line.items)
    (λ line. IsFirstLine c.args.piece.now (length c.args.buffer.now) c.args.request.now line.items) (λ line is. record {
      buffer = buffer;
      has_room = c.first_item.auto.buffer;
      reader = c.in_ok-reader.reader;
      captured = kept captured (frame_of buffer captured);
      is_first = (Whole captured, item_as _ _ _ _ _ c.in-Whole.is c.in_ok-reader.ensures.item, refl);
      packet = c.packet_in_frame-packet.result;
      is_packet = rw c.is_set.ensures at c.packet_in_frame-packet.ensures;
      is_line = is;
    }) written

-- a packet that is longer than the buffer
pub returns-in-TooLong : goal.returns-in-TooLong
returns-in-TooLong c =
    let captured = c.in-TooLong.captured in
    let written = rw (c.new-texts.ensures, c.too_long_info.ensures) at c.written-in-TooLong.ensures in
    let request = c.args.request.now in
    let info = too_long_info captured in
    some_follows c.written-in-TooLong.result
    (λ line. IsLine (times_of request.is_absolute) (is_set request.is_verbose) request.number no_packet_texts (time_of request.first) info.time
    info.len c.packet_without_room-packet.result line.items)
    (λ line. IsFirstLine c.args.piece.now (length c.args.buffer.now) c.args.request.now line.items) (λ line is. record {
      buffer = c.first_item.new.buffer;
      has_room = c.first_item.auto.buffer;
      reader = c.in_ok-reader.reader;
      captured = too_long captured;
      is_first = (TooLong captured, item_as _ _ _ _ _ c.in-TooLong.is c.in_ok-reader.ensures.item, refl);
      packet = c.packet_without_room-packet.result;
      is_packet = c.packet_without_room-packet.ensures;
      is_line = is;
    }) written
