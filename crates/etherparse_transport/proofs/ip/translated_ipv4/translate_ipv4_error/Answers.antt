use Rattle.std.proofs.Common.{◌≡◌, ◌≢◌, None, true, ◌+◌, ◌-◌, List, ℕ, length, slice_index, slice_range, ap, ◌∙◌, subst, sym, rules}
use Rattle.std.specs.Option.{option_map}
use Rattle.etherparse_transport.specs.Ipv4Translations.{ipv4_addresses, ipv4_of_quoted, ipv4_place_refusal, ipv4_translated_flow, message_in_ipv4, sum_of_ipv4, with_ipv4_addresses}
use Rattle.net_base.specs.IpHeaders.{ipv4_header_len}
use Rattle.etherparse_transport.specs.Translations.{has_port, IsAcceptedAlike, with_bytes, with_quote}
use Rattle.etherparse_transport.specs.declared.err.packet.translate_error.TranslateError.TheVariants.{QuotedPacket}
use Rattle.etherparse_transport.proofs.TranslationLemmas.{put_is, quoted_is_refused}
use Rattle.etherparse_transport.proofs.TranslationSums.{header_in_front, ipv4_header_put}
use Rattle.etherparse_transport.proofs.ip.translated_ipv4.translate_ipv4_error.Goals as goal
use Rattle.etherparse_transport.specs.declared.ip.ipv4_translation.Ipv4Translation.{Ipv4Translation}
use Rattle.etherparse_transport.specs.WaysBack.{IsIpv4Translation}
use borrow.Rule.Slice.PartMut.{put_mid}

-- a message in which the translated packet replaces the quoted packet, which ends at this place
abbrev with_translated : Ipv4Translation → ℕ → List ℕ → List ℕ
with_translated rule end message =
    with_quote 0 0 (slice_range message 8 end)
    (ipv4_translated_flow rule (message_in_ipv4 true (slice_range message 8 end)) (slice_range message 8 end)) message

changed_is : (c : goal.After-slice_known-3-1) → c.translate_ipv4_quoted.new.message
    ≡ with_translated (ipv4_of_quoted c.args.new.now c.args.passed) (8 + c.args.quoted_len)
    (slice_range c.args.packet.now c.args.place.now.start c.args.place.now.end)
changed_is c =
    c.translate_ipv4_quoted.ensures.translated
    ∙ ap (λ new. with_translated new (8 + c.args.quoted_len) (slice_range c.args.packet.now c.args.place.now.start c.args.place.now.end))
    c.of_quoted-for_quoted.ensures.passed

pub returns-clause-refused : goal.returns-clause-refused
returns-clause-refused c =
    let end : ℕ = 8 + c.args.quoted_len in
    ap (λ message. option_map (λ error. QuotedPacket)
    (ipv4_place_refusal true (has_port (ipv4_of_quoted c.args.new.now c.args.passed).source_port
    (ipv4_of_quoted c.args.new.now c.args.passed).destination_port) (slice_range message 8 end))) (sym c.requires.place.message)
    ∙ ap (option_map (λ error. QuotedPacket))
    (sym (ap (λ new. ipv4_place_refusal true (has_port new.source_port new.destination_port)
    (slice_range (slice_range c.args.packet.now c.args.place.now.start c.args.place.now.end) 8 end))
    c.of_quoted-for_quoted.ensures.passed) ∙ c.in-Some.ensures.found)

pub returns-in_default-clause-refused : goal.returns-in_default-clause-refused
returns-in_default-clause-refused c =
    let end : ℕ = 8 + c.args.quoted_len in
    let quoted : List ℕ = slice_range (slice_range c.args.packet.now c.args.place.now.start c.args.place.now.end) 8 end in
    ap (λ message. option_map (λ error. QuotedPacket)
    (ipv4_place_refusal true (has_port (ipv4_of_quoted c.args.new.now c.args.passed).source_port
    (ipv4_of_quoted c.args.new.now c.args.passed).destination_port) (slice_range message 8 end))) (sym c.requires.place.message)
    ∙ quoted_is_refused _ (subst (λ new. ipv4_place_refusal true (has_port new.source_port new.destination_port) quoted ≢ None)
    c.of_quoted-for_quoted.ensures.passed
    c.in_default.ensures.found)

pub returns-clause-translated : goal.returns-clause-translated
returns-clause-translated c =
    let packet : List ℕ = c.args.packet.now in
    let changed : List ℕ = c.translate_ipv4_quoted.new.message in
    c.replace_ipv4_addresses.ensures.replaced
    ∙ ap (λ addresses. with_ipv4_addresses addresses
    (put_mid c.args.place.now.start (c.args.place.now.end - c.args.place.now.start) packet changed))
    c.new_ipv4_addresses-addresses.ensures.new
    ∙ ap (with_ipv4_addresses (ipv4_addresses c.args.new.now packet))
    (put_is c.args.place.now.start c.args.place.now.end packet changed (search rules)
    ∙ ap (λ start. with_bytes start changed packet) c.requires.place.start
    ∙ ap (λ message. with_bytes (ipv4_header_len packet) message packet)
    (changed_is c ∙ ap (with_translated (ipv4_of_quoted c.args.new.now c.args.passed) (8 + c.args.quoted_len)) c.requires.place.message))

pub returns-clause-len : goal.returns-clause-len
returns-clause-len c =
    sym (ap length (changed_is c ∙ ap (with_translated (ipv4_of_quoted c.args.new.now c.args.passed) (8 + c.args.quoted_len))
    c.requires.place.message))
    ∙ c.translate_ipv4_quoted.auto.message ∙ ap length c.requires.place.message

pub returns-clause-header : goal.returns-clause-header
returns-clause-header c =
    header_in_front c.args.packet.now c.replace_ipv4_addresses.new.packet c.translate_ipv4_quoted.new.message _ c.args.place.now
    c.requires.place c.replace_ipv4_addresses.ensures.header (search rules)

pub replace_ipv4_addresses-requires-clause-removed : goal.replace_ipv4_addresses-requires-clause-removed
replace_ipv4_addresses-requires-clause-removed c =
    c.ipv4_change-change.ensures.removed
    ∙ ap sum_of_ipv4 (sym (ipv4_header_put c.args.place.now.start
    (c.args.place.now.end - c.args.place.now.start) c.args.packet.now c.translate_ipv4_quoted.new.message c.requires.place.header
    (search rules)))

pub returns-clause-verifies : goal.returns-clause-verifies
returns-clause-verifies c = λ some sum.
    subst (λ message. IsAcceptedAlike sum sum message
    (with_translated (ipv4_of_quoted c.args.new.now c.args.passed) (8 + c.args.quoted_len) message))
    c.requires.place.message
    (subst (IsAcceptedAlike sum sum (slice_range c.args.packet.now c.args.place.now.start c.args.place.now.end)) (changed_is c)
    (c.translate_ipv4_quoted.ensures.verifies
    (λ none. some (sym (ap (λ message. slice_index message 0) c.requires.place.message) ∙ none)) sum))

pub returns-clause-types : goal.returns-clause-types
returns-clause-types c = (
  c.of_quoted-for_quoted.ensures.types,
  subst IsIpv4Translation c.of_quoted-for_quoted.ensures.passed c.translate_ipv4_quoted.ensures.types,
)
