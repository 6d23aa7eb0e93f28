use Rattle.std.proofs.Common.{rules}
use Rattle.net_base.specs.Bytes.{IsBytes}
use Rattle.icmp_part.proofs.Icmpv6FormatLemmas.{neighbor_advertisement_written_back}
use Rattle.icmp_part.proofs.icmpv6.neighbor_advertisement_header.NeighborAdvertisementHeader.from_bytes.Goals as goal

pub returns-clause-written_back : goal.returns-clause-written_back
returns-clause-written_back c =
    let fits : IsBytes c.args.bytes = search rules in
    neighbor_advertisement_written_back c.args.bytes fits (search rules)
