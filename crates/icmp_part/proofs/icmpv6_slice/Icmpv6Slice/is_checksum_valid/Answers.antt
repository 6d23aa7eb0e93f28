use Rattle.std.proofs.Common.{length, arith, rules}
use Rattle.std.specs.Prelude.{◌↔◌, IsTrue}
use Rattle.net_base.specs.Bytes.{IsBytes}
use Rattle.net_base.proofs.PseudoHeaderLemmas.{detects_over_ipv6}
use Rattle.word_sum.specs.Checksum.{total}
use Rattle.icmp_part.specs.Icmpv6Format.{HasPacketLength, pseudo_header}
use Rattle.icmp_part.specs.Icmpv6Validity.{IsValidIcmpv6}
use Rattle.icmp_part.proofs.MessageChecksumLemmas.{agrees}
use Rattle.icmp_part.proofs.icmpv6_slice.Icmpv6Slice.is_checksum_valid.Goals as goal

fits : (c : goal.After-is_valid) → IsBytes c.args.self.now
fits c = search (rules, c.is_valid.ensures.bytes)

tested : (c : goal.After-is_valid) → IsTrue c.is_valid.result ↔ IsValidIcmpv6 c.args.source_ip c.args.destination_ip c.args.self.now
tested c = search rules

pub returns-clause-agrees : goal.returns-clause-agrees
returns-clause-agrees c =
    let packet : HasPacketLength c.args.self.now = search rules in
    let pseudo = total (pseudo_header c.args.source_ip c.args.destination_ip (length c.args.self.now)) in
    let both = agrees pseudo c.args.self.now (fits c) (omega (arith, packet.shortest)) in
    (λ passed. both.0 ((tested c).0 (search rules)).1, λ accepts. search (rules, (tested c).1 (packet.longest, both.1 accepts)))

pub returns-clause-detects : goal.returns-clause-detects
returns-clause-detects c passed =
    detects_over_ipv6 c.args.source_ip c.args.destination_ip 58 c.args.self.now (search rules) (search rules) (omega arith) (fits c)
    ((tested c).0 (search rules))
