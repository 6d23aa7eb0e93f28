use Rattle.std.proofs.Common.{List, ℕ, arith}
use Rattle.icmp_part.proofs.Icmpv6TranslationLemmas.{echo_id_replaced, message_sum, some_sum}
use Rattle.word_sum.specs.ChecksumChange.{TurnsInto}
use Rattle.word_sum.proofs.ChecksumChangeLemmas.{verifies_alike}
use Rattle.icmp_part.proofs.icmpv6_header.Icmpv6Header.translate_echo_id.Goals as goal

turns : (c : goal.After-self-1) (source destination payload : List ℕ)
    → TurnsInto c.replace_2bytes-change.result (message_sum source destination c.args.self.now.icmp_type payload)
    (message_sum source destination c.replace_echo_id.new.self payload)
turns c source destination payload =
    let packet = message_sum source destination c.args.self.now.icmp_type payload in
    c.replace_2bytes-change.ensures.extends packet packet _
    (rw (c.to_be_bytes.ensures, c.to_be_bytes-2.ensures)
    (echo_id_replaced source destination c.args.self.now.icmp_type c.replace_echo_id.new.self c.in_ok-old.old c.args.id payload
    c.in_ok-old.ensures.was c.replace_echo_id.ensures.replaced))
    (c.new.ensures.unchanged packet)

pub returns-clause-updated : goal.returns-clause-updated
returns-clause-updated c source destination payload address address_too right =
    (c.apply-self.ensures.updated _ _ (turns c source destination payload) right).1
    (some_sum source destination c.replace_echo_id.new.self payload (omega (arith, address)) (omega (arith, address_too)))

pub returns-clause-verifies : goal.returns-clause-verifies
returns-clause-verifies c source destination payload address address_too =
    verifies_alike (message_sum source destination c.args.self.now.icmp_type payload)
    (message_sum source destination c.replace_echo_id.new.self payload)
    c.args.self.now.checksum c.apply-self.result
    (c.apply-self.ensures.remainder _ _ (turns c source destination payload))
    (some_sum source destination c.args.self.now.icmp_type payload (omega (arith, address)) (omega (arith, address_too)))
    (some_sum source destination c.replace_echo_id.new.self payload (omega (arith, address)) (omega (arith, address_too)))
