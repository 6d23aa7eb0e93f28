use Rattle.std.proofs.Common.{◌≡◌, ◌≢◌, ◌+◌, List, ℕ, length, arith, rules}
use Rattle.net_base.specs.PseudoHeader.{ipv4_pseudo_header}
use Rattle.tcp_part.specs.TcpFormat.{checksummed_ipv4, wire}
use Rattle.word_sum.specs.ChecksumChange.{TurnsInto}
use Rattle.tcp_part.proofs.TranslationLemmas.{some_ipv4, source_replaced_ipv4}
use Rattle.tcp_part.proofs.tcp_header.TcpHeader.translate_source_ipv4.Goals as goal

turns : (c : goal.After-replace_source_port) (destination payload : List ℕ) → length destination ≡ 4
    → TurnsInto c.replace_4bytes.result (checksummed_ipv4 c.args.old destination (wire c.args.self.now) payload)
    (checksummed_ipv4 c.args.new destination (wire c.args.self.now) payload)
turns c destination payload address =
    let old_len : length c.args.old ≡ 4 = search rules in
    let new_len : length c.args.new ≡ 4 = search rules in
    let packet = checksummed_ipv4 c.args.old destination (wire c.args.self.now) payload in
    c.replace_4bytes.ensures.extends packet packet _
    (source_replaced_ipv4 c.args.old c.args.new destination (wire c.args.self.now) payload (omega arith))
    (c.new.ensures.unchanged packet)

some_old : (c : goal.After-replace_source_port) (destination payload : List ℕ) → length destination ≡ 4
    → checksummed_ipv4 c.args.old destination (wire c.args.self.now) payload ≢ 0
some_old c destination payload address =
    let old_len : length c.args.old ≡ 4 = search rules in
    some_ipv4 c.args.old destination (wire c.args.self.now) payload (omega arith) (omega (arith, address))

some_new : (c : goal.After-replace_source_port) (destination payload : List ℕ) → length destination ≡ 4
    → checksummed_ipv4 c.args.new destination (wire c.replace_source_port.new.self) payload ≢ 0
some_new c destination payload address =
    let new_len : length c.args.new ≡ 4 = search rules in
    some_ipv4 c.args.new destination (wire c.replace_source_port.new.self) payload (omega arith) (omega (arith, address))

pub returns-clause-updated : goal.returns-clause-updated
returns-clause-updated c destination payload address =
    c.replace_source_port.ensures.updated (λ len. ipv4_pseudo_header c.args.old destination 6 (len + length payload))
    (λ len. ipv4_pseudo_header c.args.new destination 6 (len + length payload)) payload (turns c destination payload address)
    (some_new c destination payload address)

pub returns-clause-verifies : goal.returns-clause-verifies
returns-clause-verifies c destination payload address =
    c.replace_source_port.ensures.verifies (λ len. ipv4_pseudo_header c.args.old destination 6 (len + length payload))
    (λ len. ipv4_pseudo_header c.args.new destination 6 (len + length payload)) payload (turns c destination payload address)
    (some_old c destination payload address) (some_new c destination payload address)
