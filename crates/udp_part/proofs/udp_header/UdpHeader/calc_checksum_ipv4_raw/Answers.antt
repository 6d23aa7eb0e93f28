use Rattle.std.proofs.Common.{inr, rules}
use Rattle.udp_part.proofs.UdpValidityLemmas.{built_ipv4}
use Rattle.udp_part.proofs.udp_header.UdpHeader.calc_checksum_ipv4_raw.Goals as goal

pub returns-clause-sums_up : goal.returns-clause-sums_up
returns-clause-sums_up c same_len =
    built_ipv4 c.args.source c.args.destination c.args.payload.now
    (record c.args.self.now { checksum = c.calc_checksum_ipv4_internal.result })
    same_len (search rules) (search rules) c.calc_checksum_ipv4_internal.ensures

pub returns-clause-valid : goal.returns-clause-valid
returns-clause-valid c same_len = inr (returns-clause-sums_up c same_len)
