use Rattle.std.proofs.lemmas.Result.{on_ok_weaker}
use Rattle.capture_run.proofs.packet_report.PacketReport.add.Goals as goal

-- the packet read from the frame is counted, if it is chosen
pub returns-clause-counted : goal.returns-clause-counted
returns-clause-counted g c =
    let packet = c.packet_in_frame-packet.result in
    on_ok_weaker c.add_packet.result
    (λ counts. record {
      packet = packet;
      is_packet = c.packet_in_frame-packet.ensures;
      counts = rw c.captured_info.ensures at counts;
    })
    c.add_packet.ensures.counted

-- the text of the packet read from the frame
pub returns-clause-text : goal.returns-clause-text
returns-clause-text g c =
    let packet = c.packet_in_frame-packet.result in
    on_ok_weaker c.add_packet.result
    (λ one. (
      one.0,
      record { packet = packet; is_packet = c.packet_in_frame-packet.ensures; is_text = rw c.captured_info.ensures at one.1 },
      one.2,
    ))
    c.add_packet.ensures.text
