use Rattle.std.proofs.Common.{refl, arith, rules}
use Rattle.net_base.specs.PseudoHeader.{ipv4_pseudo_header, max_len_over_ipv4}
use Rattle.transport_part.proofs.VerdictLemmas.{judged_wrong_udp, some_udp, stored_passes, verifies_expected_udp}
use Rattle.transport_part.proofs.verdict.udp_verdict_ipv4.Goals as goal

pub sum_unless_right-requires-clause-some : goal.sum_unless_right-requires-clause-some
sum_unless_right-requires-clause-some c = c.pseudo_header_ipv4-pseudo_header.ensures.some (omega arith)

pub sum_unless_right-requires-clause-there : goal.sum_unless_right-requires-clause-there
sum_unless_right-requires-clause-there c = omega (arith, c.slice-bytes.ensures.long)

pub returns-in-None : goal.returns-in-None
returns-in-None c =
    let header = rw c.slice-bytes.ensures.bytes at c.slice-bytes.ensures.long in
    let pseudo = rw c.slice-bytes.ensures.bytes at c.pseudo_header_ipv4-pseudo_header.ensures.sum in (
      search rules,
      (stored_passes max_len_over_ipv4 (ipv4_pseudo_header c.args.source c.args.destination 17) 6 c.args.packet.now _ _ _
          (omega (arith, header)) (omega arith) c.requires.counted pseudo refl refl).0
          (rw c.slice-bytes.ensures.bytes at c.in-None.ensures),
    )

pub returns-in-Some : goal.returns-in-Some
returns-in-Some c =
    let header = rw c.slice-bytes.ensures.bytes at c.slice-bytes.ensures.long in
    let pseudo = rw c.slice-bytes.ensures.bytes at c.pseudo_header_ipv4-pseudo_header.ensures.sum in
    let wrong = rw c.slice-bytes.ensures.bytes at c.in-Some.ensures in
    let sum = wrong.0 in
    let passes = stored_passes max_len_over_ipv4 (ipv4_pseudo_header c.args.source c.args.destination 17) 6 c.args.packet.now _ _ _
    (omega (arith, header)) (omega arith) c.requires.counted pseudo refl refl in
    judged_wrong_udp c.args.source c.args.destination c.args.packet.now _ _ _ _ c.checksum-stored.ensures pseudo (
      search rules,
      (
        λ sums_up. wrong.1 (passes.1 sums_up),
        (
          some_udp _ _ c.to_ones_complement_with_no_zero.ensures,
          verifies_expected_udp max_len_over_ipv4 (ipv4_pseudo_header c.args.source c.args.destination 17) 6 c.args.packet.now _ _ _
              (omega (arith, header)) (omega arith) c.requires.counted pseudo sum c.to_ones_complement_with_no_zero.ensures,
        ),
      ),
    )
    c.wrong_or_partial.ensures
