use Rattle.std.proofs.Common.{◌≡◌, ◌+◌, None, Some, slice_range, ap, ◌∙◌, subst, sym, rules}
use Rattle.std.specs.Prelude.{IfOk}
use Rattle.net_base.specs.Refusals.{RefusesExactly}
use Rattle.etherparse_transport.specs.Ipv6Translations.{IsIpv6Accepted, IsIpv6ErrorAccepted, ipv6, ipv6_between, ipv6_of_quoted, ipv6_refusal_with, ipv6_with_message, message_in_ipv6, of_ipv6}
use Rattle.etherparse_transport.specs.Translations.{IsReadWith}
use Rattle.etherparse_transport.proofs.Ipv6ThereAndBack.{ipv6_laws}
use Rattle.etherparse_transport.proofs.PacketsThereAndBack.{again}
use Rattle.etherparse_transport.proofs.TranslationReading.{if_ok, ipv6_flow_message_len, ipv6_read}
use Rattle.etherparse_transport.proofs.TranslationLemmas.{IsLeft, ipv6_at, left}
use Rattle.etherparse_transport.proofs.TranslationSums.{if_ok_accepted, if_ok_then, if_ok_too, quoting_accepted, ipv6_error_accepted}
use Rattle.etherparse_transport.proofs.ip.translated_ipv6.translate_ipv6_by.Goals as goal
use Rattle.etherparse_transport.proofs.ip.translated_ipv6.translate_ipv6_by.Goals.{In-None, In-Some}

-- what is left if a packet is quoted
left_some : (c : In-Some) → IsLeft ipv6 (of_ipv6 c.args.new.now) (of_ipv6 (ipv6_of_quoted c.args.new.now c.args.passed)) c.args.packet.now
    (Some (slice_range (message_in_ipv6 c.args.packet.now) 8 (8 + c.in-Some.len)))
left_some c =
    left ipv6 _ _ c.args.packet.now c.in_ok-place.place _ (Some c.in-Some.len)
    (ipv6_at c.args.packet.now c.in_ok-place.place c.in_ok-place.ensures.place)
    c.in_ok-place.ensures.refused c.in_ok-len.ensures.refused c.in_ok-len.ensures.quoted c.in-Some.is

-- what is left if no packet is quoted
left_none : (c : In-None) → IsLeft ipv6 (of_ipv6 c.args.new.now) (of_ipv6 (ipv6_of_quoted c.args.new.now c.args.passed)) c.args.packet.now
    None
left_none c =
    left ipv6 _ _ c.args.packet.now c.in_ok-place.place _ None (ipv6_at c.args.packet.now c.in_ok-place.place c.in_ok-place.ensures.place)
    c.in_ok-place.ensures.refused c.in_ok-len.ensures.refused c.in_ok-len.ensures.quoted c.in-None.is

pub returns-in-Some-clause-refused : goal.returns-in-Some-clause-refused
returns-in-Some-clause-refused c =
    subst (RefusesExactly c.translate_ipv6_error.result) (sym (left_some (goal.at.returns-in-Some-clause-refused c).In-Some).refusal)
    c.translate_ipv6_error.ensures.refused

pub returns-in-Some-clause-translated : goal.returns-in-Some-clause-translated
returns-in-Some-clause-translated c =
    subst (λ message. IfOk c.translate_ipv6_error.result (λ done. c.translate_ipv6_error.new.packet
    ≡ ipv6_with_message c.args.new.now message c.args.packet.now))
    (sym (left_some (goal.at.returns-in-Some-clause-translated c).In-Some).message) c.translate_ipv6_error.ensures.translated

pub returns-in-Some-clause-read : goal.returns-in-Some-clause-read
returns-in-Some-clause-read c =
    if_ok c.translate_ipv6_error.result c.translate_ipv6_error.ensures.translated c.translate_ipv6_error.ensures.len
    c.translate_ipv6_error.ensures.addresses
    (λ is same are. subst (IsReadWith c.args.packet.now c.translate_ipv6_error.new.packet (ipv6_between c.args.new.now c.args.packet.now))
    (sym (left_some (goal.at.returns-in-Some-clause-read c).In-Some).message)
    (ipv6_read _ c.args.new.now c.args.packet.now c.translate_ipv6_error.new.packet _ c.in_ok-place.place c.in_ok-place.ensures.refused
    c.in_ok-place.ensures.place are same is))

pub returns-in-None-clause-read : goal.returns-in-None-clause-read
returns-in-None-clause-read c =
    subst (IsReadWith c.args.packet.now c.translate_ipv6_flow.new.packet (ipv6_between c.args.new.now c.args.packet.now))
    (sym (left_none (goal.at.returns-in-None-clause-read c).In-None).message)
    (ipv6_read _ c.args.new.now c.args.packet.now c.translate_ipv6_flow.new.packet _ c.in_ok-place.place c.in_ok-place.ensures.refused
    c.in_ok-place.ensures.place c.translate_ipv6_flow.ensures.addresses (ipv6_flow_message_len c.args.new.now c.args.packet.now)
    c.translate_ipv6_flow.ensures.translated)

pub returns-in-Some-clause-verifies : goal.returns-in-Some-clause-verifies
returns-in-Some-clause-verifies c =
    if_ok_too c.translate_ipv6_error.result
    (quoting_accepted ipv6 (of_ipv6 c.args.new.now) c.args.packet.now _ _
    (left_some (goal.at.returns-in-Some-clause-verifies c).In-Some).quoted_is)

pub returns-in-None-clause-verifies : goal.returns-in-None-clause-verifies
returns-in-None-clause-verifies c =
    subst (IsIpv6Accepted c.args.new.now c.args.packet.now) (sym (left_none (goal.at.returns-in-None-clause-verifies c).In-None).message)
    c.translate_ipv6_flow.ensures.verifies

pub returns-in-Some-clause-error : goal.returns-in-Some-clause-error
returns-in-Some-clause-error c =
    let left = left_some (goal.at.returns-in-Some-clause-error c).In-Some in
    subst (λ message. IfOk c.translate_ipv6_error.result (λ done. IsIpv6ErrorAccepted c.args.new.now c.args.packet.now message))
    (sym left.message)
    (if_ok c.translate_ipv6_error.result c.translate_ipv6_error.ensures.addresses c.translate_ipv6_error.ensures.len
    c.translate_ipv6_error.ensures.verifies
    (ipv6_error_accepted c.args.new.now c.args.packet.now _ _ (search rules) left.quoted_is))

pub returns-in-None-clause-error : goal.returns-in-None-clause-error
returns-in-None-clause-error c = λ quoted is.
    absurd (cc ((left_none (goal.at.returns-in-None-clause-error c).In-None).quoted_is, is))

pub returns-in-None-clause-again : goal.returns-in-None-clause-again
returns-in-None-clause-again c =
    let left = left_none (goal.at.returns-in-None-clause-again c).In-None in
    ap (ipv6_refusal_with c.args.new.now (ipv6_of_quoted c.args.new.now c.args.passed)) (c.translate_ipv6_flow.ensures.translated
    ∙ ap (λ message. ipv6_with_message c.args.new.now message c.args.packet.now) (sym left.message))
    ∙ again ipv6 ipv6_laws _ _ (of_ipv6 c.args.new.now) (of_ipv6 (ipv6_of_quoted c.args.new.now c.args.passed)) c.args.packet.now
    c.ipv6_place.ensures.bytes c.translate_ipv6_flow.ensures.types (left.types tt) left.refusal

pub returns-in-Some-clause-again : goal.returns-in-Some-clause-again
returns-in-Some-clause-again c =
    let left = left_some (goal.at.returns-in-Some-clause-again c).In-Some in
    let result = c.translate_ipv6_error.result in
    if_ok result (if_ok_accepted result _ c.translate_ipv6_error.ensures.refused) c.translate_ipv6_error.ensures.translated
    c.translate_ipv6_error.ensures.types
    (λ accepted is types. ap (ipv6_refusal_with c.args.new.now (ipv6_of_quoted c.args.new.now c.args.passed))
    (is ∙ ap (λ message. ipv6_with_message c.args.new.now message c.args.packet.now) (sym left.message))
    ∙ again ipv6 ipv6_laws _ _ (of_ipv6 c.args.new.now) (of_ipv6 (ipv6_of_quoted c.args.new.now c.args.passed)) c.args.packet.now
    c.ipv6_place.ensures.bytes types.0 (left.types types.1) (left.refusal ∙ accepted))

pub returns-in-None-clause-types : goal.returns-in-None-clause-types
returns-in-None-clause-types c =
    (c.translate_ipv6_flow.ensures.types, (left_none (goal.at.returns-in-None-clause-types c).In-None).types tt)

pub returns-in-Some-clause-types : goal.returns-in-Some-clause-types
returns-in-Some-clause-types c =
    if_ok_then c.translate_ipv6_error.result c.translate_ipv6_error.ensures.types
    (λ types. (types.0, (left_some (goal.at.returns-in-Some-clause-types c).In-Some).types types.1))

pub returns-in-None-clause-bytes : goal.returns-in-None-clause-bytes
returns-in-None-clause-bytes c = c.ipv6_place.ensures.bytes

pub returns-in-Some-clause-bytes : goal.returns-in-Some-clause-bytes
returns-in-Some-clause-bytes c = if_ok_too c.translate_ipv6_error.result c.ipv6_place.ensures.bytes
