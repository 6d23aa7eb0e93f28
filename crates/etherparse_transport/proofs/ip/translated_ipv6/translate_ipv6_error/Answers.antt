use Rattle.std.proofs.Common.{◌≡◌, ◌+◌, ◌-◌, List, ℕ, length, slice_range, unwrap_or, ap, ◌∙◌, subst, sym, rules}
use Rattle.std.specs.Option.{option_map}
use Rattle.etherparse_transport.specs.Ipv6Translations.{sum_of_ipv6, ipv6_addresses, ipv6_of_quoted, ipv6_place_refusal, ipv6_start, ipv6_translated_flow, with_ipv6_addresses}
use Rattle.etherparse_transport.specs.Translations.{IsAcceptedAlike, has_port, with_bytes, with_quote}
use Rattle.etherparse_transport.specs.declared.err.packet.translate_error.TranslateError.TheVariants.{QuotedPacket}
use Rattle.etherparse_transport.specs.declared.ip.ipv6_translation.Ipv6Translation.{Ipv6Translation}
use Rattle.net_base.specs.IpHeaders.{ipv6_header_of}
use Rattle.net_base.specs.declared.ipv6_header.Ipv6Header.{Ipv6Header}
use Rattle.word_sum.specs.ChecksumChange.{TurnsInto, added_value, removed_value}
use Rattle.word_sum.specs.Checksum.{folded}
use Rattle.etherparse_transport.proofs.TranslationLemmas.{put_is}
use Rattle.etherparse_transport.proofs.TranslationSums.{ipv6_header_put}
use Rattle.etherparse_transport.proofs.ip.translated_ipv6.translate_ipv6_error.Goals as goal
use Rattle.etherparse_transport.specs.WaysBack.{IsIpv6Translation}
use borrow.Rule.Slice.PartMut.{put_mid}

pub returns-clause-refused : goal.returns-clause-refused
returns-clause-refused c =
    let end : ℕ = 8 + c.args.quoted_len in
    ap (λ message. option_map (λ error. QuotedPacket)
    (ipv6_place_refusal (has_port (ipv6_of_quoted c.args.new.now c.args.passed).source_port
    (ipv6_of_quoted c.args.new.now c.args.passed).destination_port) (slice_range message 8 end))) (sym c.requires.place.message)
    ∙ ap (option_map (λ error. QuotedPacket))
    (sym (ap (λ new. ipv6_place_refusal (has_port new.source_port new.destination_port)
    (slice_range (slice_range c.args.packet.now c.args.place.now.start c.args.place.now.end) 8 end))
    c.of_quoted-for_quoted.ensures.passed) ∙ c.in-Ok.ensures.refused)

-- the new addresses, given the old addresses
abbrev pub addresses_from : Ipv6Translation → Ipv6Header → Ipv6Header
addresses_from new old = record { source = unwrap_or new.source old.source; destination = unwrap_or new.destination old.destination }

-- a message in which the translated packet replaces the quoted packet, which ends at this place
abbrev with_translated : Ipv6Translation → ℕ → ℕ → ℕ → List ℕ → List ℕ
with_translated rule old new end message =
    with_quote old new (slice_range message 8 end) (ipv6_translated_flow rule (slice_range message 8 end)) message

added_is : (c : goal.After-slice_known-3-1) → added_value c.ipv6_change-change.result ≡ sum_of_ipv6
    (ipv6_addresses c.args.new.now c.args.packet.now)
added_is c = c.ipv6_change-change.ensures.added ∙ ap sum_of_ipv6 c.new_ipv6_addresses-addresses.ensures.new

changed_is : (c : goal.After-slice_known-3-1) → c.translate_ipv6_quoted.new.message
    ≡ with_translated (ipv6_of_quoted c.args.new.now c.args.passed) (sum_of_ipv6 (ipv6_header_of c.args.packet.now))
    (sum_of_ipv6 (ipv6_addresses c.args.new.now c.args.packet.now)) (8 + c.args.quoted_len)
    (slice_range c.args.packet.now c.args.place.now.start c.args.place.now.end)
changed_is c =
    let by : Ipv6Translation → ℕ → ℕ → List ℕ = λ rule old new.
    with_translated rule old new (8 + c.args.quoted_len) (slice_range c.args.packet.now c.args.place.now.start c.args.place.now.end) in
    c.translate_ipv6_quoted.ensures.translated
    ∙ ap (λ new. by new (removed_value c.ipv6_change-change.result) (added_value c.ipv6_change-change.result))
    c.of_quoted-for_quoted.ensures.passed
    ∙ ap (λ removed. by (ipv6_of_quoted c.args.new.now c.args.passed) removed (added_value c.ipv6_change-change.result))
    c.ipv6_change-change.ensures.removed
    ∙ ap (by (ipv6_of_quoted c.args.new.now c.args.passed) (sum_of_ipv6 (ipv6_header_of c.args.packet.now))) (added_is c)

pub returns-clause-translated : goal.returns-clause-translated
returns-clause-translated c =
    let packet : List ℕ = c.args.packet.now in
    let changed : List ℕ = c.translate_ipv6_quoted.new.message in
    c.replace_ipv6_addresses.ensures.replaced
    ∙ ap (λ header. with_ipv6_addresses (addresses_from c.args.new.now header)
    (put_mid c.args.place.now.start (c.args.place.now.end - c.args.place.now.start) packet changed))
    (ipv6_header_put c.args.place.now.start (c.args.place.now.end - c.args.place.now.start) packet changed c.requires.place.header
    (search rules))
    ∙ ap (with_ipv6_addresses (ipv6_addresses c.args.new.now packet))
    (put_is c.args.place.now.start c.args.place.now.end packet changed (search rules)
    ∙ ap (λ start. with_bytes start changed packet) c.requires.place.start
    ∙ ap (λ message. with_bytes (ipv6_start packet) message packet)
    (changed_is c ∙ ap (with_translated (ipv6_of_quoted c.args.new.now c.args.passed) (sum_of_ipv6 (ipv6_header_of c.args.packet.now))
    (sum_of_ipv6 (ipv6_addresses c.args.new.now c.args.packet.now)) (8 + c.args.quoted_len)) c.requires.place.message))

pub returns-clause-len : goal.returns-clause-len
returns-clause-len c =
    sym (ap length (changed_is c ∙ ap
    (with_translated (ipv6_of_quoted c.args.new.now c.args.passed) (sum_of_ipv6 (ipv6_header_of c.args.packet.now))
    (sum_of_ipv6 (ipv6_addresses c.args.new.now c.args.packet.now)) (8 + c.args.quoted_len)) c.requires.place.message))
    ∙ c.translate_ipv6_quoted.auto.message ∙ ap length c.requires.place.message

pub returns-in_default-clause-refused : goal.returns-in_default-clause-refused
returns-in_default-clause-refused c =
    let end : ℕ = 8 + c.args.quoted_len in
    ap (λ message. option_map (λ error. QuotedPacket)
    (ipv6_place_refusal (has_port (ipv6_of_quoted c.args.new.now c.args.passed).source_port
    (ipv6_of_quoted c.args.new.now c.args.passed).destination_port) (slice_range message 8 end))) (sym c.requires.place.message)
    ∙ ap (option_map (λ error. QuotedPacket))
    (sym (ap (λ new. ipv6_place_refusal (has_port new.source_port new.destination_port)
    (slice_range (slice_range c.args.packet.now c.args.place.now.start c.args.place.now.end) 8 end))
    c.of_quoted-for_quoted.ensures.passed) ∙ c.in_default.ensures.refused)

pub returns-clause-verifies : goal.returns-clause-verifies
returns-clause-verifies c = λ before after turns some some_too.
    let turned : TurnsInto c.ipv6_change-change.result before after =
    ap (λ n. folded (before + n)) (added_is c) ∙ turns ∙ sym (ap (λ n. folded (after + n)) c.ipv6_change-change.ensures.removed) in
    subst (λ message. IsAcceptedAlike before after message
    (with_translated (ipv6_of_quoted c.args.new.now c.args.passed) (sum_of_ipv6 (ipv6_header_of c.args.packet.now))
    (sum_of_ipv6 (ipv6_addresses c.args.new.now c.args.packet.now)) (8 + c.args.quoted_len) message)) c.requires.place.message
    (subst (IsAcceptedAlike before after (slice_range c.args.packet.now c.args.place.now.start c.args.place.now.end)) (changed_is c)
    (c.translate_ipv6_quoted.ensures.verifies before after turned some some_too))

pub returns-clause-types : goal.returns-clause-types
returns-clause-types c = (
  c.of_quoted-for_quoted.ensures.types,
  subst IsIpv6Translation c.of_quoted-for_quoted.ensures.passed c.translate_ipv6_quoted.ensures.types,
)
