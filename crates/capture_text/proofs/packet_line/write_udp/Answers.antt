use Rattle.std.proofs.Common.{append_assoc}
use Rattle.capture_words.proofs.WrittenLemmas.{written_2}
use Rattle.capture_text.proofs.packet_line.write_udp.Goals as goal

pub returns : goal.returns
returns g c =
    written_2 _ _ _ _ _ _ _ c.in_ok-write_endpoints.ensures c.write.ensures.bytes
    (simp (append_assoc, c.source_port-source.ensures, c.destination_port-destination.ensures, c.length.ensures))
