use Rattle.std.proofs.Common.{arith, rules}
use Rattle.net_base.specs.PseudoHeader.{ipv6_pseudo_header, max_len_over_ipv6}
use Rattle.net_base.proofs.PseudoHeaderLemmas.{detects_over_ipv6}
use Rattle.tcp_part.proofs.TcpSliceLemmas.{accepts_in_segment}
use Rattle.tcp_part.proofs.tcp_slice.TcpSlice.is_checksum_valid_ipv6.Goals as goal

pub returns-clause-agrees : goal.returns-clause-agrees
returns-clause-agrees c = λ within.
    let invariant = rw c.self.view_is at c.self.invariant in
    let valid = rw c.self.view_is at c.is_segment_valid_ipv6.ensures.valid in
    let fits = rw c.self.view_is at c.is_segment_valid_ipv6.ensures.bytes in
    let same = accepts_in_segment max_len_over_ipv6 (ipv6_pseudo_header c.args.source c.args.destination 6) c.args.self.now
    (omega arith) fits invariant.0 within in (
      λ right. same.0 (valid.0 right),
      λ accepted. valid.1 (same.1 accepted),
    )

pub returns-clause-detects : goal.returns-clause-detects
returns-clause-detects c = λ right.
    let valid = rw c.self.view_is at c.is_segment_valid_ipv6.ensures.valid in
    let fits = rw c.self.view_is at c.is_segment_valid_ipv6.ensures.bytes in
    detects_over_ipv6 c.args.source c.args.destination 6 c.args.self.now (search rules) (search rules) (omega arith) fits (valid.0 right)
