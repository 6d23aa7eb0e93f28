use Rattle.std.proofs.Common.{inr, rules}
use Rattle.udp_part.proofs.UdpValidityLemmas.{built_ipv4}
use Rattle.udp_part.proofs.udp_header.UdpHeader.with_ipv4_checksum.Goals as goal

pub returns-clause-sums_up : goal.returns-clause-sums_up
returns-clause-sums_up c =
    built_ipv4 c.args.ip_header.now.source c.args.ip_header.now.destination c.args.payload.now
    (record c.in_ok-header.header { checksum = c.calc_checksum_ipv4_internal.result })
    (search rules) (search rules) (search rules) c.calc_checksum_ipv4_internal.ensures

pub returns-clause-valid : goal.returns-clause-valid
returns-clause-valid c = inr (returns-clause-sums_up c)
