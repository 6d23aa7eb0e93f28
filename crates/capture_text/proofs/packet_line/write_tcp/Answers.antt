use Rattle.std.proofs.Common.{append_assoc}
use Rattle.std.proofs.KnownBytes.{Appends-trans}
use Rattle.capture_words.proofs.WrittenLemmas.{then_one}
use Rattle.capture_text.proofs.packet_line.write_tcp.Goals as goal

pub returns : goal.returns
returns g c =
    then_one _ _ _ _ _ _ _ (Appends-trans _ _ _ _ _ c.in_ok-write_endpoints.ensures c.in_ok-write.ensures.bytes)
    (λ header is. (header, is, simp (append_assoc, c.source_port-source.ensures, c.destination_port-destination.ensures)))
    c.write_header.ensures
