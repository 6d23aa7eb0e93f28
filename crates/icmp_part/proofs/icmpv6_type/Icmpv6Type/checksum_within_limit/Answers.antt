use Rattle.std.proofs.Common.{◌≡◌, ◌+◌, length, ap, arith}
use Rattle.word_sum.specs.Checksum.{complement, folded, total}
use Rattle.word_sum.proofs.ChecksumLemmas.{folded-add, folded_twice}
use Rattle.icmp_part.specs.Icmpv6Format.{header_len, pseudo_header, written}
use Rattle.icmp_part.specs.MessageFormat.{header_bytes}
use Rattle.icmp_part.proofs.Icmpv6ReadsBackLemmas.{fields_len}
use Rattle.icmp_part.proofs.icmpv6_type.Icmpv6Type.checksum_within_limit.Goals as goal

pub returns-clause-sum : goal.returns-clause-sum
returns-clause-sum c =
    let fields = fields_len c.args.self.now c.start.ensures.fits in
    let len : length (header_bytes (written c.args.self.now) 0) + length c.args.payload.now ≡ header_len + length c.args.payload.now =
    omega (arith, fields) in
    let pseudo = ap (λ n. total (pseudo_header c.args.source_ip c.args.destination_ip n)) len in
    let header = ap (λ start. total (header_bytes start 0)) c.start.ensures.written in
    rw (c.ones_complement.ensures, c.add_slice.ensures.sum, c.add_to.ensures, c.pseudo_header_ipv6-pseudo_header.ensures.sum)
    (simp (folded_twice, folded-add) (ap (λ n. complement (folded n)) (omega (arith, pseudo, header))))

pub returns-clause-whole : goal.returns-clause-whole
returns-clause-whole c = omega (arith, fields_len c.args.self.now c.start.ensures.fits)
