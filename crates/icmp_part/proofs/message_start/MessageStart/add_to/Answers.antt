use Rattle.std.proofs.Common.{ap, arith}
use Rattle.word_sum.specs.Checksum.{folded, total}
use Rattle.word_sum.proofs.ChecksumLemmas.{folded_twice}
use Rattle.icmp_part.specs.MessageFormat.{header_bytes}
use Rattle.icmp_part.proofs.message_start.MessageStart.add_to.Goals as goal

pub returns : goal.returns
returns c =
    let whole = ap (λ start. total (header_bytes start 0)) c.self.view_is in
    rw (c.add_4bytes.ensures, c.to_le_bytes-2.ensures, c.add_2bytes.ensures, c.to_le_bytes.ensures)
    (simp folded_twice (ap folded (omega (arith, whole))))
