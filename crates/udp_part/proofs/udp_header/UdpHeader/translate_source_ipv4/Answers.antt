use Rattle.std.proofs.Common.{◌≡◌, List, ℕ, length, arith, rules}
use Rattle.net_base.specs.PseudoHeader.{ipv4_pseudo_header}
use Rattle.udp_part.specs.UdpFormat.{checksummed_ipv4}
use Rattle.word_sum.specs.ChecksumChange.{TurnsInto}
use Rattle.udp_part.proofs.TranslationLemmas.{source_replaced_ipv4}
use Rattle.udp_part.proofs.udp_header.UdpHeader.translate_source_ipv4.Goals as goal

turns : (c : goal.After-replace_source_port) (destination payload : List ℕ) → length destination ≡ 4
    → TurnsInto c.replace_4bytes.result (checksummed_ipv4 c.args.old destination c.args.self.now payload)
    (checksummed_ipv4 c.args.new destination c.args.self.now payload)
turns c destination payload address =
    let old_len : length c.args.old ≡ 4 = search rules in
    let new_len : length c.args.new ≡ 4 = search rules in
    let packet = checksummed_ipv4 c.args.old destination c.args.self.now payload in
    c.replace_4bytes.ensures.extends packet packet _
    (source_replaced_ipv4 c.args.old c.args.new destination c.args.self.now payload (omega arith)) (c.new.ensures.unchanged packet)

pub returns-clause-updated : goal.returns-clause-updated
returns-clause-updated c destination payload address =
    c.replace_source_port.ensures.updated (λ len. ipv4_pseudo_header c.args.old destination 17 len)
    (λ len. ipv4_pseudo_header c.args.new destination 17 len) payload (turns c destination payload address)

pub returns-clause-verifies : goal.returns-clause-verifies
returns-clause-verifies c destination payload address =
    c.replace_source_port.ensures.verifies (λ len. ipv4_pseudo_header c.args.old destination 17 len)
    (λ len. ipv4_pseudo_header c.args.new destination 17 len) payload (turns c destination payload address)
