use Rattle.std.proofs.Common.{arith}
use Rattle.net_base.specs.IpNumbers.{udp_number}
use Rattle.ip_translation.specs.HeadersToIpv4.{new_pseudo_header, old_pseudo_header}
use Rattle.ip_translation.proofs.packet_to_ipv4.write_udp.Goals as goal

pub returns-clause-alike : goal.returns-clause-alike
returns-clause-alike c = λ some.
    c.write_updated_udp.ensures.alike some (old_pseudo_header c.args.header.now udp_number)
    (new_pseudo_header c.args.prefixes.now c.args.header.now udp_number)
    (c.change_by_ipv4_header-change.ensures.turned udp_number (omega arith))
