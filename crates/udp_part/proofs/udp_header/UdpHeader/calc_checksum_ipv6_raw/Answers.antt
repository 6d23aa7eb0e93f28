use Rattle.std.proofs.Common.{rules}
use Rattle.udp_part.proofs.UdpValidityLemmas.{built_ipv6}
use Rattle.udp_part.proofs.udp_header.UdpHeader.calc_checksum_ipv6_raw.Goals as goal

pub returns-clause-valid : goal.returns-clause-valid
returns-clause-valid c same_len =
    built_ipv6 c.args.source c.args.destination c.args.payload.now
    (record c.args.self.now { checksum = c.calc_checksum_ipv6_internal.result })
    same_len (search rules) (search rules) c.calc_checksum_ipv6_internal.ensures
