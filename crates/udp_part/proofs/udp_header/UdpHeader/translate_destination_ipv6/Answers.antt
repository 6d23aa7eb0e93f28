use Rattle.std.proofs.Common.{◌≡◌, List, ℕ, length, arith, rules}
use Rattle.net_base.specs.PseudoHeader.{ipv6_pseudo_header}
use Rattle.udp_part.specs.UdpFormat.{checksummed_ipv6}
use Rattle.word_sum.specs.ChecksumChange.{TurnsInto}
use Rattle.udp_part.proofs.TranslationLemmas.{destination_replaced_ipv6}
use Rattle.udp_part.proofs.udp_header.UdpHeader.translate_destination_ipv6.Goals as goal

turns : (c : goal.After-replace_destination_port) (source payload : List ℕ) → length source ≡ 16
    → TurnsInto c.replace_16bytes.result (checksummed_ipv6 source c.args.old c.args.self.now payload)
    (checksummed_ipv6 source c.args.new c.args.self.now payload)
turns c source payload address =
    let old_len : length c.args.old ≡ 16 = search rules in
    let new_len : length c.args.new ≡ 16 = search rules in
    let packet = checksummed_ipv6 source c.args.old c.args.self.now payload in
    c.replace_16bytes.ensures.extends packet packet _
    (destination_replaced_ipv6 source c.args.old c.args.new c.args.self.now payload (omega (arith, address)) (omega arith))
    (c.new.ensures.unchanged packet)

pub returns-clause-updated : goal.returns-clause-updated
returns-clause-updated c source payload address =
    c.replace_destination_port.ensures.updated (λ len. ipv6_pseudo_header source c.args.old 17 len)
    (λ len. ipv6_pseudo_header source c.args.new 17 len) payload (turns c source payload address)

pub returns-clause-verifies : goal.returns-clause-verifies
returns-clause-verifies c source payload address =
    c.replace_destination_port.ensures.verifies (λ len. ipv6_pseudo_header source c.args.old 17 len)
    (λ len. ipv6_pseudo_header source c.args.new 17 len) payload (turns c source payload address)
