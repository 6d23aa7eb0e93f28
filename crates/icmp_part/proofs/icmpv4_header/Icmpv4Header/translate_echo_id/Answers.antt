use Rattle.std.proofs.Common.{List, ℕ}
use Rattle.icmp_part.proofs.Icmpv4TranslationLemmas.{echo_id_replaced, message_sum}
use Rattle.word_sum.specs.ChecksumChange.{TurnsInto}
use Rattle.icmp_part.proofs.icmpv4_header.Icmpv4Header.translate_echo_id.Goals as goal

turns : (c : goal.After-self-1) (payload : List ℕ)
    → TurnsInto c.replace_2bytes-change.result (message_sum c.args.self.now.icmp_type payload)
    (message_sum c.replace_echo_id.new.self payload)
turns c payload =
    let packet = message_sum c.args.self.now.icmp_type payload in
    c.replace_2bytes-change.ensures.extends packet packet _
    (rw (c.to_be_bytes.ensures, c.to_be_bytes-2.ensures)
    (echo_id_replaced c.args.self.now.icmp_type c.replace_echo_id.new.self c.in_ok-old.old c.args.id payload c.in_ok-old.ensures.was
    c.replace_echo_id.ensures.replaced))
    (c.new.ensures.unchanged packet)

pub returns-clause-updated : goal.returns-clause-updated
returns-clause-updated c payload = c.apply-self.ensures.updated _ _ (turns c payload)

pub returns-clause-zeros : goal.returns-clause-zeros
returns-clause-zeros c payload = c.apply-self.ensures.zeros _ _ (turns c payload)

pub returns-clause-verifies : goal.returns-clause-verifies
returns-clause-verifies c payload = c.apply-self.ensures.verifies _ _ (turns c payload)
