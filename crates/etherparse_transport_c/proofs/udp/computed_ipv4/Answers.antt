use Rattle.std.proofs.Common.{ap, arith}
use Rattle.word_sum.specs.Checksum.{complement, folded, total, zero_as_all_ones}
use Rattle.word_sum.proofs.ChecksumLemmas.{folded-add, folded_twice}
use Rattle.etherparse_transport_c.proofs.ChecksumsLemmas.{from_place}
use Rattle.etherparse_transport_c.proofs.UdpLemmas.{total_parts}
use Rattle.etherparse_transport_c.proofs.udp.computed_ipv4.Goals as goal

pub returns-clause-sum : goal.returns-clause-sum
returns-clause-sum c =
    let parts = total_parts c.args.packet.now c.requires.header in
    let back = ap total (from_place 8 c.args.packet.now) in
    rw (c.to_ones_complement_with_no_zero.ensures, c.add_slice-2.ensures.sum, c.add_slice.ensures.sum, c.pseudo_header_ipv4.ensures.sum)
    (simp (folded_twice, folded-add) (ap (λ n. zero_as_all_ones (complement (folded n))) (omega (arith, parts, back))))
