use Rattle.std.proofs.Common.{rules}
use Rattle.word_sum.proofs.ChecksumLemmas.{checksum_verifies}
use Rattle.icmp_part.proofs.Icmpv6ValidityLemmas.{built_valid}
use Rattle.icmp_part.proofs.icmpv6_type.Icmpv6Type.calc_checksum.Goals as goal

pub returns-clause-valid : goal.returns-clause-valid
returns-clause-valid c =
    built_valid c.args.source_ip c.args.destination_ip c.args.payload.now
    (record { icmp_type = c.args.self.now; checksum = c.checksum_within_limit.result })
    c.checksum_within_limit.ensures.whole (search rules) (search rules) (checksum_verifies _ _ c.checksum_within_limit.ensures.sum)
