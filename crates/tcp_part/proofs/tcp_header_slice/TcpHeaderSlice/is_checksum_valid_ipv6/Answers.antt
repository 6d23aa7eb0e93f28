use Rattle.std.proofs.Common.{◌≡◌, ◌%◌, ◌++◌, length, arith, rules}
use Rattle.std.specs.Prelude.{◌↔◌, IsTrue}
use Rattle.net_base.specs.Bytes.{IsBytes}
use Rattle.net_base.specs.PseudoHeader.{ipv6_pseudo_header, max_len_over_ipv6}
use Rattle.net_base.proofs.PseudoHeaderLemmas.{detects_over_ipv6}
use Rattle.tcp_part.specs.TcpValidity.{IsValidTcpIpv6}
use Rattle.tcp_part.proofs.TcpValidityLemmas.{accepts}
use Rattle.tcp_part.proofs.tcp_header_slice.TcpHeaderSlice.is_checksum_valid_ipv6.Goals as goal

even : (c : goal.After-is_valid_ipv6) → length c.args.self.now % 2 ≡ 0
even c = let invariant = rw c.self.view_is at c.self.invariant in omega (arith, invariant.2)

is_right : (c : goal.After-is_valid_ipv6) → IsTrue c.is_valid_ipv6.result
    ↔ IsValidTcpIpv6 c.args.source c.args.destination (c.args.self.now ++ c.args.payload.now)
is_right c = let valid = rw c.self.view_is at c.is_valid_ipv6.ensures.valid in valid (even c)

bytes : (c : goal.After-is_valid_ipv6) → IsBytes c.args.self.now × IsBytes (c.args.self.now ++ c.args.payload.now)
bytes c = rw c.self.view_is at c.is_valid_ipv6.ensures.bytes

pub returns-clause-agrees : goal.returns-clause-agrees
returns-clause-agrees c = λ within.
    let invariant = rw c.self.view_is at c.self.invariant in
    let same = accepts max_len_over_ipv6 (ipv6_pseudo_header c.args.source c.args.destination 6) c.args.self.now c.args.payload.now
    (bytes c).0 (omega (arith, invariant.0, invariant.2)) (even c) (omega (arith, within, invariant.1, invariant.2)) in (
      λ right. same.0 ((is_right c).0 right),
      λ accepted. (is_right c).1 (same.1 accepted),
    )

pub returns-clause-detects : goal.returns-clause-detects
returns-clause-detects c = λ right.
    let source_len : length c.args.source ≡ 16 = search rules in
    let destination_len : length c.args.destination ≡ 16 = search rules in
    detects_over_ipv6 c.args.source c.args.destination 6 (c.args.self.now ++ c.args.payload.now) source_len destination_len (omega arith)
    (bytes c).1 ((is_right c).0 right)
