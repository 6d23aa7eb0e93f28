use Rattle.std.proofs.Common.{◌≡◌, List, ℕ, length, arith, rules}
use Rattle.icmp_part.proofs.Icmpv6TranslationLemmas.{destination_replaced, message_sum, some_sum, source_replaced}
use Rattle.word_sum.specs.ChecksumChange.{TurnsInto}
use Rattle.word_sum.proofs.ChecksumChangeLemmas.{verifies_alike}
use Rattle.icmp_part.proofs.icmpv6_header.Icmpv6Header.translate_address.Goals as goal

source_turns : (c : goal.After-self-1) (destination payload : List ℕ) → length destination ≡ 16
    → TurnsInto c.replace_16bytes.result (message_sum c.args.old destination c.args.self.now.icmp_type payload)
    (message_sum c.args.new destination c.args.self.now.icmp_type payload)
source_turns c destination payload address =
    let old_len : length c.args.old ≡ 16 = search rules in
    let new_len : length c.args.new ≡ 16 = search rules in
    let packet = message_sum c.args.old destination c.args.self.now.icmp_type payload in
    c.replace_16bytes.ensures.extends packet packet _
    (source_replaced c.args.old c.args.new destination c.args.self.now.icmp_type payload (omega arith)) (c.new.ensures.unchanged packet)

pub returns-clause-source : goal.returns-clause-source
returns-clause-source c destination payload address right =
    let new_len : length c.args.new ≡ 16 = search rules in
    (c.apply-self.ensures.updated _ _ (source_turns c destination payload address) right).1
    (some_sum c.args.new destination c.args.self.now.icmp_type payload (omega arith) (omega (arith, address)))

pub returns-clause-source_verifies : goal.returns-clause-source_verifies
returns-clause-source_verifies c destination payload address =
    let old_len : length c.args.old ≡ 16 = search rules in
    let new_len : length c.args.new ≡ 16 = search rules in
    verifies_alike (message_sum c.args.old destination c.args.self.now.icmp_type payload)
    (message_sum c.args.new destination c.args.self.now.icmp_type payload)
    c.args.self.now.checksum c.apply-self.result
    (c.apply-self.ensures.remainder _ _ (source_turns c destination payload address))
    (some_sum c.args.old destination c.args.self.now.icmp_type payload (omega arith) (omega (arith, address)))
    (some_sum c.args.new destination c.args.self.now.icmp_type payload (omega arith) (omega (arith, address)))

destination_turns : (c : goal.After-self-1) (source payload : List ℕ) → length source ≡ 16
    → TurnsInto c.replace_16bytes.result (message_sum source c.args.old c.args.self.now.icmp_type payload)
    (message_sum source c.args.new c.args.self.now.icmp_type payload)
destination_turns c source payload address =
    let old_len : length c.args.old ≡ 16 = search rules in
    let new_len : length c.args.new ≡ 16 = search rules in
    let packet = message_sum source c.args.old c.args.self.now.icmp_type payload in
    c.replace_16bytes.ensures.extends packet packet _
    (destination_replaced source c.args.old c.args.new c.args.self.now.icmp_type payload (omega (arith, address)) (omega arith))
    (c.new.ensures.unchanged packet)

pub returns-clause-destination : goal.returns-clause-destination
returns-clause-destination c source payload address right =
    let new_len : length c.args.new ≡ 16 = search rules in
    (c.apply-self.ensures.updated _ _ (destination_turns c source payload address) right).1
    (some_sum source c.args.new c.args.self.now.icmp_type payload (omega (arith, address)) (omega arith))

pub returns-clause-destination_verifies : goal.returns-clause-destination_verifies
returns-clause-destination_verifies c source payload address =
    let old_len : length c.args.old ≡ 16 = search rules in
    let new_len : length c.args.new ≡ 16 = search rules in
    verifies_alike (message_sum source c.args.old c.args.self.now.icmp_type payload)
    (message_sum source c.args.new c.args.self.now.icmp_type payload)
    c.args.self.now.checksum c.apply-self.result
    (c.apply-self.ensures.remainder _ _ (destination_turns c source payload address))
    (some_sum source c.args.old c.args.self.now.icmp_type payload (omega (arith, address)) (omega arith))
    (some_sum source c.args.new c.args.self.now.icmp_type payload (omega (arith, address)) (omega arith))
