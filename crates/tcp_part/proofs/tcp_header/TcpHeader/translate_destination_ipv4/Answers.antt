use Rattle.std.proofs.Common.{◌≡◌, ◌≢◌, ◌+◌, List, ℕ, length, arith, rules}
use Rattle.net_base.specs.PseudoHeader.{ipv4_pseudo_header}
use Rattle.tcp_part.specs.TcpFormat.{checksummed_ipv4, wire}
use Rattle.word_sum.specs.ChecksumChange.{TurnsInto}
use Rattle.tcp_part.proofs.TranslationLemmas.{some_ipv4, destination_replaced_ipv4}
use Rattle.tcp_part.proofs.tcp_header.TcpHeader.translate_destination_ipv4.Goals as goal

turns : (c : goal.After-replace_destination_port) (source payload : List ℕ) → length source ≡ 4
    → TurnsInto c.replace_4bytes.result (checksummed_ipv4 source c.args.old (wire c.args.self.now) payload)
    (checksummed_ipv4 source c.args.new (wire c.args.self.now) payload)
turns c source payload address =
    let old_len : length c.args.old ≡ 4 = search rules in
    let new_len : length c.args.new ≡ 4 = search rules in
    let packet = checksummed_ipv4 source c.args.old (wire c.args.self.now) payload in
    c.replace_4bytes.ensures.extends packet packet _
    (destination_replaced_ipv4 source c.args.old c.args.new (wire c.args.self.now) payload (omega (arith, address)) (omega arith))
    (c.new.ensures.unchanged packet)

some_old : (c : goal.After-replace_destination_port) (source payload : List ℕ) → length source ≡ 4
    → checksummed_ipv4 source c.args.old (wire c.args.self.now) payload ≢ 0
some_old c source payload address =
    let old_len : length c.args.old ≡ 4 = search rules in
    some_ipv4 source c.args.old (wire c.args.self.now) payload (omega (arith, address)) (omega arith)

some_new : (c : goal.After-replace_destination_port) (source payload : List ℕ) → length source ≡ 4
    → checksummed_ipv4 source c.args.new (wire c.replace_destination_port.new.self) payload ≢ 0
some_new c source payload address =
    let new_len : length c.args.new ≡ 4 = search rules in
    some_ipv4 source c.args.new (wire c.replace_destination_port.new.self) payload (omega (arith, address)) (omega arith)

pub returns-clause-updated : goal.returns-clause-updated
returns-clause-updated c source payload address =
    c.replace_destination_port.ensures.updated (λ len. ipv4_pseudo_header source c.args.old 6 (len + length payload))
    (λ len. ipv4_pseudo_header source c.args.new 6 (len + length payload)) payload (turns c source payload address)
    (some_new c source payload address)

pub returns-clause-verifies : goal.returns-clause-verifies
returns-clause-verifies c source payload address =
    c.replace_destination_port.ensures.verifies (λ len. ipv4_pseudo_header source c.args.old 6 (len + length payload))
    (λ len. ipv4_pseudo_header source c.args.new 6 (len + length payload)) payload (turns c source payload address)
    (some_old c source payload address) (some_new c source payload address)
