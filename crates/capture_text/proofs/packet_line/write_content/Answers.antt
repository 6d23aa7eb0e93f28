use Rattle.std.proofs.Common.{refl}
use Rattle.capture_words.proofs.WrittenLemmas.{one_then}
use Rattle.capture_text.proofs.packet_line.write_content.Goals as goal

pub returns-in_ok-write_transport-in-Ip : goal.returns-in_ok-write_transport-in-Ip
returns-in_ok-write_transport-in-Ip g c =
    let (what, is, appends) = c.in_ok-write_transport-in-Ip.ensures in
    rw c.in-Ip.is (one_then _ _ _ _ _ _ _ appends (what, is, rw c.payload.ensures refl) c.write_payload_len.ensures)
