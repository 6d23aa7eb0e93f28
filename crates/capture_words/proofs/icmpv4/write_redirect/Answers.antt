use Rattle.capture_words.proofs.WrittenLemmas.{written_2}
use Rattle.capture_words.proofs.icmpv4.write_redirect.Goals as goal

pub returns : goal.returns
returns g c =
    written_2 _ _ _ _ _ _ _ c.in_ok-write_named_message.ensures c.write.ensures.bytes
    (simp (c.code_u8.ensures.written, c.redirected_datagrams.ensures, c.from_octets-gateway.ensures))
