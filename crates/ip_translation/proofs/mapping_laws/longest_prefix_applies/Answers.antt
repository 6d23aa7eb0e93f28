use Rattle.std.specs.Int.{from_be_bytes, w32, w128}
use Rattle.ip_translation.specs.AddressMappings.{ipv4_len, ipv6_len, is_ipv4_of, is_ipv6_of}
use Rattle.ip_translation.proofs.LongestLemmas.{longest_of}
use Rattle.ip_translation.proofs.MappedBackLemmas.{longest_applies}
use Rattle.ip_translation.proofs.mapping_laws.longest_prefix_applies.Goals as goal

pub returns-clause-ipv4 : goal.returns-clause-ipv4
returns-clause-ipv4 c = λ mapping finds.
    let applies = is_ipv4_of (from_be_bytes w32 c.args.ipv4) in
    let mappings = c.args.table.now.mappings.now in
    (longest_applies applies ipv4_len mappings mapping finds, longest_of applies ipv4_len mappings mapping finds)

pub returns-clause-ipv6 : goal.returns-clause-ipv6
returns-clause-ipv6 c = λ mapping finds.
    let applies = is_ipv6_of (from_be_bytes w128 c.args.address.now) in
    let mappings = c.args.table.now.mappings.now in
    (longest_applies applies ipv6_len mappings mapping finds, longest_of applies ipv6_len mappings mapping finds)
