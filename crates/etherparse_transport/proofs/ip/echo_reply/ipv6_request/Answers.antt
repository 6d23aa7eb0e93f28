use Rattle.std.proofs.Common.{◌≡◌, ◌∷◌, [], List, ℕ, None, Option, not, subst, ap, ◌∙◌, refl, rules, sym}
use Rattle.net_base.specs.IpHeaders.{ipv6_header_of}
use Rattle.net_base.specs.Refusals.{RefusesExactly, first_of, refused_if}
use Rattle.net_base.specs.declared.ipv6_header.Ipv6Header.{Ipv6Header}
use Rattle.etherparse_transport.specs.EchoReplies.{icmpv6_refusal, is_host_ipv6}
use Rattle.etherparse_transport.specs.declared.err.packet.answer_echo_error.AnswerEchoError.{AnswerEchoError}
use Rattle.etherparse_transport.specs.declared.err.packet.answer_echo_error.AnswerEchoError.TheVariants.{RequestSource}
use Rattle.etherparse_transport.proofs.EchoRequestLemmas.{IsFound, found_at, found_transport, ipv6_addresses_of, ipv6_message_rules, ipv6_request_of, skipped}
use Rattle.etherparse_transport.proofs.ReplyToLemmas.{ipv6_request_carried}
use Rattle.etherparse_transport.proofs.ip.echo_reply.ipv6_request.Goals as goal

pub returns-in_err-check_icmpv6-clause-refused : goal.returns-in_err-check_icmpv6-clause-refused
returns-in_err-check_icmpv6-clause-refused c =
    let addresses : Ipv6Header = c.to_header-addresses.result in
    let message = c.in_ok-found.found.payload.now in
    let found = c.in_ok-found.ensures in
    let RefusedBy : Option AnswerEchoError → Type 0 = λ refusal. RefusesExactly c.from_residual-in_err-check_icmpv6.result refusal in
    let refused : RefusedBy (first_of (icmpv6_refusal addresses.source addresses.destination message
    ∷ refused_if (not (is_host_ipv6 addresses.source)) RequestSource ∷ [])) = search rules in
    subst RefusedBy (sym (ipv6_message_rules c.args.packet.now c.in_ok-found.found addresses found.accepted found.found
    (c.in-Some.ensures.found.0 refl) found.stated found.whole c.in_ok-check_transport.ensures
    (ipv6_addresses_of c.args.packet.now c.in-Some.header addresses c.in-Some.ensures.kept c.to_header-addresses.ensures))) refused

pub returns-then-not-is_host_ipv6-clause-refused : goal.returns-then-not-is_host_ipv6-clause-refused
returns-then-not-is_host_ipv6-clause-refused c =
    let addresses : Ipv6Header = c.to_header-addresses.result in
    let message = c.in_ok-found.found.payload.now in
    let found = c.in_ok-found.ensures in
    ipv6_message_rules c.args.packet.now c.in_ok-found.found addresses found.accepted found.found
    (c.in-Some.ensures.found.0 refl) found.stated
    found.whole c.in_ok-check_transport.ensures
    (ipv6_addresses_of c.args.packet.now c.in-Some.header addresses c.in-Some.ensures.kept c.to_header-addresses.ensures)
    ∙ skipped (icmpv6_refusal addresses.source addresses.destination message) _ c.in_ok-check_icmpv6.ensures
    ∙ ap (λ host. first_of (refused_if (not host) RequestSource ∷ [])) (sym c.is_host_ipv6.ensures ∙ c.if-not-is_host_ipv6.true)

pub returns-clause-refused : goal.returns-clause-refused
returns-clause-refused c =
    let addresses : Ipv6Header = c.to_header-addresses.result in
    let message = c.in_ok-found.found.payload.now in
    let found = c.in_ok-found.ensures in
    ipv6_message_rules c.args.packet.now c.in_ok-found.found addresses found.accepted found.found
    (c.in-Some.ensures.found.0 refl) found.stated
    found.whole c.in_ok-check_transport.ensures
    (ipv6_addresses_of c.args.packet.now c.in-Some.header addresses c.in-Some.ensures.kept c.to_header-addresses.ensures)
    ∙ skipped (icmpv6_refusal addresses.source addresses.destination message) _ c.in_ok-check_icmpv6.ensures
    ∙ ap (λ host. first_of (refused_if (not host) RequestSource ∷ [])) (sym c.is_host_ipv6.ensures ∙ c.if-not-is_host_ipv6.false)

pub returns-clause-addresses : goal.returns-clause-addresses
returns-clause-addresses c =
    ipv6_addresses_of c.args.packet.now c.in-Some.header c.to_header-addresses.result c.in-Some.ensures.kept c.to_header-addresses.ensures

pub returns-clause-len : goal.returns-clause-len
returns-clause-len c =
    let packet : List ℕ = c.args.packet.now in
    let found = c.in_ok-found.ensures in
    let at : IsFound packet c.in_ok-found.found 40 = found_at packet c.in_ok-found.found 40 found.found found.stated found.whole
    (found_transport 58 40 c.in_ok-found.found c.in_ok-check_transport.ensures).offset in
    sym at.end

pub returns-clause-request : goal.returns-clause-request
returns-clause-request c =
    let found = c.in_ok-found.ensures in
    let is : c.to_header-addresses.result ≡ ipv6_header_of c.args.packet.now =
    ipv6_addresses_of c.args.packet.now c.in-Some.header c.to_header-addresses.result c.in-Some.ensures.kept
    c.to_header-addresses.ensures in
    let accepted : icmpv6_refusal c.to_header-addresses.result.source c.to_header-addresses.result.destination
    c.in_ok-found.found.payload.now ≡ None =
    c.in_ok-check_icmpv6.ensures in
    ipv6_request_of c.args.packet.now c.in_ok-found.found found.found found.parts (c.in-Some.ensures.found.0 refl) found.stated found.whole
    c.in_ok-check_transport.ensures
    (sym (ap (λ addresses. icmpv6_refusal addresses.source addresses.destination c.in_ok-found.found.payload.now) is) ∙ accepted)

pub returns-clause-carried : goal.returns-clause-carried
returns-clause-carried c =
    let found = c.in_ok-found.ensures in
    ipv6_request_carried c.args.packet.now c.in_ok-found.found found.accepted found.found found.parts
    (c.in-Some.ensures.found.0 refl) found.stated
    found.whole c.in_ok-check_transport.ensures
