use Rattle.std.proofs.Common.{◌≤◌, length, rules}
use Rattle.std.specs.Prelude.{◌↔◌, IsTrue}
use Rattle.net_base.specs.Bytes.{IsBytes}
use Rattle.net_base.proofs.PlainSumLemmas.{detects}
use Rattle.icmp_part.specs.Icmpv4Validity.{IsValidIcmpv4}
use Rattle.icmp_part.proofs.Icmpv4ValidityLemmas.{agrees}
use Rattle.icmp_part.proofs.icmpv4_slice.Icmpv4Slice.is_checksum_valid.Goals as goal

fits : (c : goal.After-is_valid) → IsBytes c.args.self.now
fits c = search (rules, c.is_valid.ensures.bytes)

tested : (c : goal.After-is_valid) → IsTrue c.is_valid.result ↔ IsValidIcmpv4 c.args.self.now
tested c = search rules

pub returns-clause-agrees : goal.returns-clause-agrees
returns-clause-agrees c =
    let enough : 8 ≤ length c.args.self.now = search rules in
    let both = agrees c.args.self.now (fits c) enough in
    (λ passed. both.0 ((tested c).0 passed), λ accepts. (tested c).1 (both.1 accepts))

pub returns-clause-detects : goal.returns-clause-detects
returns-clause-detects c passed = detects c.args.self.now (fits c) ((tested c).0 passed)
