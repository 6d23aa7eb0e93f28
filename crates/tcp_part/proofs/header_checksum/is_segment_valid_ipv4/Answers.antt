use Rattle.std.proofs.Common.{◌≡◌, [], length, arith, rules}
use Rattle.net_base.specs.PseudoHeader.{ipv4_pseudo_header, max_len_over_ipv4}
use Rattle.tcp_part.proofs.TcpValidityLemmas.{tested}
use Rattle.tcp_part.proofs.header_checksum.is_segment_valid_ipv4.Goals as goal

pub returns-in-Ok-clause-valid : goal.returns-in-Ok-clause-valid
returns-in-Ok-clause-valid c =
    let len : c.in-Ok.len ≡ length c.args.segment.now = search rules in
    let same = tested max_len_over_ipv4 (ipv4_pseudo_header c.args.source c.args.destination 6) [] c.args.segment.now c.in-Ok.len _
    (omega (arith, len)) (search (rules, arith)) c.pseudo_header_ipv4.ensures.sum in (
      λ right. same.0 (c.sums_up.ensures.0 right),
      λ valid. c.sums_up.ensures.1 (same.1 valid),
    )
