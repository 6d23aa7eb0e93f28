use Rattle.std.proofs.Common.{◌≡◌, ◌+◌, ◌∙◌, refl, sym, arith}
use Rattle.net_base.specs.PseudoHeader.{ipv6_pseudo_header, max_len_over_ipv6}
use Rattle.net_base.specs.StoredChecksum.{with_checksum}
use Rattle.udp_part.specs.UdpValidity.{IsValidUdpIpv6}
use Rattle.word_sum.specs.Checksum.{complement, folded, total, zero_as_all_ones}
use Rattle.word_sum.specs.SumValue.{sum_value}
use Rattle.transport_part.proofs.VerdictLemmas.{all_ones_expected, judged_wrong, stored_passes, stored_udp, verifies_expected_udp, zero_is_absent}
use Rattle.transport_part.proofs.verdict.udp_verdict_ipv6.Goals as goal

pub sum_unless_right-requires-clause-some : goal.sum_unless_right-requires-clause-some
sum_unless_right-requires-clause-some c = c.pseudo_header_ipv6-pseudo_header.ensures.some (omega arith)

pub sum_unless_right-requires-clause-there : goal.sum_unless_right-requires-clause-there
sum_unless_right-requires-clause-there c = omega (arith, c.slice-bytes.ensures.long)

pub returns-in-Some : goal.returns-in-Some
returns-in-Some c =
    let header = rw c.slice-bytes.ensures.bytes at c.slice-bytes.ensures.long in
    let pseudo = rw c.slice-bytes.ensures.bytes at c.pseudo_header_ipv6-pseudo_header.ensures.sum in
    let wrong = rw c.slice-bytes.ensures.bytes at c.in-Some.ensures in
    let sum = wrong.0 in
    let passes = stored_passes max_len_over_ipv6 (ipv6_pseudo_header c.args.source c.args.destination 17) 6 c.args.packet.now _ _ _
    (omega (arith, header)) (omega arith) c.requires.counted pseudo refl refl in
    judged_wrong (IsValidUdpIpv6 c.args.source c.args.destination) 6 c.args.packet.now _ _ _ _ _ c.checksum-stored.ensures pseudo (
      λ valid. wrong.1 (passes.1 valid.1),
      (
        stored_udp c.args.packet.now _ _ header c.to_ones_complement_with_no_zero.ensures,
        verifies_expected_udp max_len_over_ipv6 (ipv6_pseudo_header c.args.source c.args.destination 17) 6 c.args.packet.now _ _ _
            (omega (arith, header)) (omega arith) c.requires.counted pseudo sum c.to_ones_complement_with_no_zero.ensures,
      ),
      λ most valid. zero_is_absent c.args.packet.now header valid.0,
    )
    c.wrong_or_partial.ensures

pub returns-in-None : goal.returns-in-None
returns-in-None c =
    let header = rw c.slice-bytes.ensures.bytes at c.slice-bytes.ensures.long in
    let pseudo = rw c.slice-bytes.ensures.bytes at c.pseudo_header_ipv6-pseudo_header.ensures.sum in
    let ones = rw c.slice-bytes.ensures.bytes at c.in-None.ensures in
    let n = sum_value c.pseudo_header_ipv6-pseudo_header.result + total (with_checksum 6 c.args.packet.now 0) in
    let expected : 65535 ≡ zero_as_all_ones (complement (folded n)) =
    all_ones_expected n _ (sym c.checksum-stored.ensures ∙ c.if-stored-eq0.true) ones in
    judged_wrong (IsValidUdpIpv6 c.args.source c.args.destination) 6 c.args.packet.now _ _ _ _ _ c.checksum-stored.ensures pseudo (
      λ valid. valid.0 (sym c.checksum-stored.ensures ∙ c.if-stored-eq0.true),
      (
        stored_udp c.args.packet.now _ _ header expected,
        verifies_expected_udp max_len_over_ipv6 (ipv6_pseudo_header c.args.source c.args.destination 17) 6 c.args.packet.now _ _ _
            (omega (arith, header)) (omega arith) c.requires.counted pseudo refl expected,
      ),
      λ most valid. zero_is_absent c.args.packet.now header valid.0,
    )
    c.wrong_or_partial-in-None.ensures

pub returns-in-None-2 : goal.returns-in-None-2
returns-in-None-2 c =
    let header = rw c.slice-bytes.ensures.bytes at c.slice-bytes.ensures.long in
    let pseudo = rw c.slice-bytes.ensures.bytes at c.pseudo_header_ipv6-pseudo_header.ensures.sum in (
      λ none. c.if-stored-eq0.false (c.checksum-stored.ensures ∙ none),
      (stored_passes max_len_over_ipv6 (ipv6_pseudo_header c.args.source c.args.destination 17) 6 c.args.packet.now _ _ _
          (omega (arith, header)) (omega arith) c.requires.counted pseudo refl refl).0
          (rw c.slice-bytes.ensures.bytes at c.in-None.ensures),
    )
