use Rattle.std.proofs.Common.{take, ap, arith}
use Rattle.word_sum.specs.Checksum.{folded, total}
use Rattle.word_sum.proofs.ChecksumLemmas.{folded_twice}
use Rattle.icmp_part.specs.MessageFormat.{header_bytes}
use Rattle.icmp_part.proofs.icmpv4_type.Icmpv4Type.header_sum.Goals as goal

pub returns-in-Some-clause-sum : goal.returns-in-Some-clause-sum
returns-in-Some-clause-sum c =
    let start = ap (λ start. total (header_bytes start 0)) c.start.ensures.written in
    let id_and_seq = ap (λ fields. total (take 4 fields)) c.in-Some.ensures in
    let fields = ap total c.in-Some.ensures in
    rw (
      c.add_4bytes-in-Some-2.ensures,
      c.to_be_bytes-in-Some-2.ensures,
      c.add_4bytes-in-Some.ensures,
      c.to_be_bytes-in-Some.ensures,
      c.add_4bytes.ensures,
      c.to_be_bytes.ensures,
      c.add_to-start.ensures,
      c.new.ensures,
    )
    (simp folded_twice (ap folded (omega (arith, start, id_and_seq, fields))))
