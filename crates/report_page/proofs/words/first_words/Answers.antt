use Rattle.std.proofs.Common.{◌≡◌, length, refl}
use Rattle.capture_file.specs.CapturePackets.{kept, too_long}
use Rattle.capture_file.specs.declared.reader.next_packet.NextPacket.TheVariants.{TooLong, Whole}
use Rattle.report_page.proofs.ReadingLemmas.{frame_of, item_as, some_follows}
use Rattle.report_page.specs.Lines.{AreFirstWords, words_of}
use Rattle.report_page.proofs.words.first_words.Goals as goal

-- a packet that fits in the buffer
pub returns-in-Whole : goal.returns-in-Whole
returns-in-Whole c =
    let captured = c.in-Whole.captured in
    let buffer = c.first_item.new.buffer in
    some_follows c.words_of.result (λ words. words.items ≡ words_of c.packet_in_frame.result)
    (λ words. AreFirstWords c.args.piece.now (length c.args.buffer.now) c.args.opens_udp_tunnels words.items) (λ words are. record {
      buffer = buffer;
      has_room = c.first_item.auto.buffer;
      reader = c.in_ok-next.field-0-0;
      captured = kept captured (frame_of buffer captured);
      is_first = (Whole captured, item_as _ _ _ _ _ c.in-Whole.is c.in_ok-next.ensures.item, refl);
      packet = c.packet_in_frame.result;
      is_packet = rw c.is_set.ensures at c.packet_in_frame.ensures;
      are_words = are;
    }) c.words_of.ensures

-- a packet that is longer than the buffer
pub returns-in-TooLong : goal.returns-in-TooLong
returns-in-TooLong c =
    let captured = c.in-TooLong.captured in
    some_follows c.words_of-in-TooLong.result (λ words. words.items ≡ words_of c.packet_without_room.result)
    (λ words. AreFirstWords c.args.piece.now (length c.args.buffer.now) c.args.opens_udp_tunnels words.items) (λ words are. record {
      buffer = c.first_item.new.buffer;
      has_room = c.first_item.auto.buffer;
      reader = c.in_ok-next.field-0-0;
      captured = too_long captured;
      is_first = (TooLong captured, item_as _ _ _ _ _ c.in-TooLong.is c.in_ok-next.ensures.item, refl);
      packet = c.packet_without_room.result;
      is_packet = c.packet_without_room.ensures;
      are_words = are;
    }) c.words_of-in-TooLong.ensures
