use Rattle.tcp_part.specs.TcpFormat.{checksummed_ipv4}
use Rattle.tcp_part.specs.TcpValidity.{IsValidTcpIpv4}
use Rattle.tcp_part.proofs.TcpSliceLemmas.{agrees_in_segment, valid_in_segment}
use Rattle.tcp_part.proofs.tcp_slice.TcpSlice.calc_checksum_ipv4.Goals as goal

pub returns-clause-valid : goal.returns-clause-valid
returns-clause-valid c =
    let invariant = rw c.self.view_is at c.self.invariant in
    valid_in_segment (IsValidTcpIpv4 c.args.source c.args.destination) c.args.self.now _ _ c.calc_checksum_ipv4_raw.result
    invariant.0 invariant.1 c.payload.ensures c.calc_checksum_ipv4_raw.ensures.valid

pub returns-clause-agrees : goal.returns-clause-agrees
returns-clause-agrees c =
    let invariant = rw c.self.view_is at c.self.invariant in
    agrees_in_segment (checksummed_ipv4 c.args.source c.args.destination) c.args.self.now _ _ c.calc_checksum_ipv4_raw.result
    invariant.0 invariant.1 c.payload.ensures c.calc_checksum_ipv4_raw.ensures.agrees
