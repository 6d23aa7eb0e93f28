use Rattle.std.proofs.Common.{◌+◌, length, rules}
use Rattle.udp_part.proofs.UdpValidityLemmas.{built_ipv6}
use Rattle.udp_part.proofs.udp_header.UdpHeader.with_ipv6_checksum.Goals as goal

pub returns-clause-valid : goal.returns-clause-valid
returns-clause-valid c =
    built_ipv6 c.args.ip_header.now.source c.args.ip_header.now.destination c.args.payload.now
    (record {
      source_port = c.args.source_port;
      destination_port = c.args.destination_port;
      length = 8 + length c.args.payload.now;
      checksum = c.calc_checksum_ipv6_internal.result;
    })
    (search rules) (search rules) (search rules) c.calc_checksum_ipv6_internal.ensures
