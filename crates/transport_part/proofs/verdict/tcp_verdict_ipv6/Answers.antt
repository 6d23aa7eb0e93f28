use Rattle.std.proofs.Common.{arith}
use Rattle.net_base.specs.PseudoHeader.{ipv6_pseudo_header, max_len_over_ipv6}
use Rattle.transport_part.proofs.verdict.tcp_verdict_ipv6.Goals as goal

pub judged-requires-clause-some : goal.judged-requires-clause-some
judged-requires-clause-some c = c.pseudo_header_ipv6-pseudo_header.ensures.some (omega arith)

pub judged-requires-clause-there : goal.judged-requires-clause-there
judged-requires-clause-there c = omega (arith, c.slice-bytes.ensures.long)

pub returns : goal.returns
returns c =
    let judged = rw c.slice-bytes.ensures.bytes at c.judged.ensures in
    let pseudo = rw c.slice-bytes.ensures.bytes at c.pseudo_header_ipv6-pseudo_header.ensures.sum in
    judged max_len_over_ipv6 (ipv6_pseudo_header c.args.source c.args.destination 6) c.requires.counted pseudo
