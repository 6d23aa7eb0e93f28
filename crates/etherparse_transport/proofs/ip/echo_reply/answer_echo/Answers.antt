use Rattle.std.proofs.Common.{List, ℕ, None}
use Rattle.etherparse_transport.specs.EchoReplies.{ipv4_answer_refusal, ipv6_answer_refusal}
use Rattle.etherparse_transport.proofs.ReplyToLemmas.{destination_answers_ipv4, destination_answers_ipv6, if_accepted}
use Rattle.etherparse_transport.proofs.ip.echo_reply.answer_echo.Goals as goal

pub returns-then-packet-eq6-clause-replies : goal.returns-then-packet-eq6-clause-replies
returns-then-packet-eq6-clause-replies c =
    let packet : List ℕ = c.args.packet.now in
    if_accepted c.answer_echo_ipv6.result (ipv6_answer_refusal None packet) _ c.answer_echo_ipv6.ensures.refused
    (λ accepted. c.answer_echo_ipv6.ensures.replies (destination_answers_ipv6 packet accepted))

pub returns-else-not-is_empty-clause-replies : goal.returns-else-not-is_empty-clause-replies
returns-else-not-is_empty-clause-replies c =
    let packet : List ℕ = c.args.packet.now in
    if_accepted c.answer_echo_ipv4.result (ipv4_answer_refusal None packet) _ c.answer_echo_ipv4.ensures.refused
    (λ accepted. c.answer_echo_ipv4.ensures.replies (destination_answers_ipv4 packet accepted))
