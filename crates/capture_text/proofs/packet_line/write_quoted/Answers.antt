use Rattle.std.proofs.Common.{refl}
use Rattle.capture_words.proofs.WrittenLemmas.{written_3}
use Rattle.capture_text.proofs.packet_line.write_quoted.Goals as goal

pub returns : goal.returns
returns g c =
    rw c.in-Some.is
    (written_3 _ _ _ _ _ _ _ _ _ c.in_ok-write.ensures.bytes c.in_ok-write_known_endpoints.ensures c.write_protocol.ensures refl)
