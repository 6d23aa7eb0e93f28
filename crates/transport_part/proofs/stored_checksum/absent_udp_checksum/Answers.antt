use Rattle.std.proofs.Common.{◌+◌, ◌∙◌, ap, refl, arith}
use Rattle.net_base.specs.PseudoHeader.{ipv4_pseudo_header, max_len_over_ipv4}
use Rattle.net_base.specs.StoredChecksum.{with_checksum}
use Rattle.word_sum.specs.Checksum.{complement, folded, total, zero_as_all_ones}
use Rattle.word_sum.specs.SumValue.{sum_value}
use Rattle.transport_part.proofs.VerdictLemmas.{some_udp, stored_in_sum, verifies_expected_udp}
use Rattle.transport_part.proofs.stored_checksum.absent_udp_checksum.Goals as goal

pub returns-clause-some : goal.returns-clause-some
returns-clause-some c = some_udp _ _ c.to_ones_complement_with_no_zero.ensures

pub returns-clause-right : goal.returns-clause-right
returns-clause-right c =
    let header = rw c.slice-bytes.ensures.bytes at c.slice-bytes.ensures.long in
    let pseudo = rw c.slice-bytes.ensures.bytes at c.pseudo_header_ipv4.ensures.sum in
    let added = rw c.slice-bytes.ensures.bytes at c.add_slice.ensures.sum in
    let stored = stored_in_sum (sum_value c.pseudo_header_ipv4.result) 6 c.args.packet.now (omega (arith, header)) (omega arith) in
    let sum = added ∙ stored ∙ ap (λ n. folded (sum_value c.pseudo_header_ipv4.result + total (with_checksum 6 c.args.packet.now 0) + n))
    c.requires.absent in
    verifies_expected_udp max_len_over_ipv4 (ipv4_pseudo_header c.args.source c.args.destination 17) 6 c.args.packet.now _ _ _
    (omega (arith, header)) (omega arith) c.requires.counted pseudo refl
    (c.to_ones_complement_with_no_zero.ensures ∙ ap (λ n. zero_as_all_ones (complement n)) (sum ∙ ap folded (omega arith)))
