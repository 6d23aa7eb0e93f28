use Rattle.std.proofs.lemmas.Result.{on_ok_weaker}
use Rattle.capture_run.proofs.packet_report.PacketReport.add_too_long.Goals as goal

-- the text of a packet that is too long
pub returns-clause-text : goal.returns-clause-text
returns-clause-text g c =
    on_ok_weaker c.add_packet.result
    (λ one. (
      one.0,
      record {
        packet = c.packet_without_room-packet.result;
        is_packet = c.packet_without_room-packet.ensures;
        is_text = rw (c.too_long_info.ensures, c.new-texts.ensures) at one.1;
      },
      one.2,
    ))
    c.add_packet.ensures.text

-- the packet is counted if it is chosen
pub returns-clause-counted : goal.returns-clause-counted
returns-clause-counted g c =
    on_ok_weaker c.add_packet.result
    (λ counts. record {
      packet = c.packet_without_room-packet.result;
      is_packet = c.packet_without_room-packet.ensures;
      counts = rw c.too_long_info.ensures at counts;
    })
    c.add_packet.ensures.counted

-- nothing is written if the packet has no line
pub returns-clause-silent : goal.returns-clause-silent
returns-clause-silent g c = record {
  packet = c.packet_without_room-packet.result;
  is_packet = c.packet_without_room-packet.ensures;
  holds = rw c.too_long_info.ensures at c.add_packet.ensures.silent;
}
