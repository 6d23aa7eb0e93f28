use Rattle.std.proofs.Common.{[], rules}
use Rattle.std.specs.Prelude.{◌↔◌, IsTrue}
use Rattle.net_base.specs.Bytes.{IsBytes}
use Rattle.net_base.proofs.PlainSumLemmas.{detects}
use Rattle.word_sum.specs.Checksum.{Verifies}
use Rattle.net_base.proofs.ipv4_header_slice.Ipv4HeaderSlice.is_checksum_valid.Goals as goal

fits : (c : goal.After-is_valid) → IsBytes c.args.self.now
fits c = search (rules, c.is_valid.ensures.bytes)

tested : (c : goal.After-is_valid) → IsTrue c.is_valid.result ↔ Verifies [] c.args.self.now
tested c = search rules

pub returns-clause-detects : goal.returns-clause-detects
returns-clause-detects c passed = detects c.args.self.now (fits c) ((tested c).0 passed)
