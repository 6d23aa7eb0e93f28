use Rattle.std.proofs.Common.{append_assoc}
use Rattle.capture_words.proofs.WrittenLemmas.{written_2}
use Rattle.capture_text.proofs.arp.write_reply.Goals as goal

pub returns : goal.returns
returns g c =
    written_2 _ _ _ _ _ _ _ c.in_ok-write.ensures.bytes c.write_hardware_address.ensures (simp (append_assoc, c.from_octets-sender.ensures))
