use Rattle.std.proofs.Common.{append_assoc}
use Rattle.std.proofs.KnownBytes.{Appends-trans}
use Rattle.capture_words.proofs.WrittenLemmas.{written_3}
use Rattle.capture_text.proofs.packet_line.write_icmpv6.Goals as goal

pub returns : goal.returns
returns g c =
    written_3 _ _ _ _ _ _ _ _ _ (Appends-trans _ _ _ _ _ c.in_ok-write_addresses.ensures c.in_ok-write.ensures.bytes)
    c.in_ok-write_packet.ensures c.write_quoted.ensures (simp append_assoc)
