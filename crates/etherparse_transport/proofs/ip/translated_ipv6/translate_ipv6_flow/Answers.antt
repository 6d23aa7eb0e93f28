use Rattle.std.proofs.Common.{◌≡◌, ◌+◌, ◌-◌, List, ℕ, slice_range, unwrap_or, ap, ◌∙◌, subst, arith, rules}
use Rattle.net_base.specs.IpHeaders.{ipv6_header_of}
use Rattle.net_base.specs.declared.ipv6_header.Ipv6Header.{Ipv6Header}
use Rattle.word_sum.specs.Checksum.{folded, total}
use Rattle.word_sum.specs.ChecksumChange.{added_value, removed_value}
use Rattle.etherparse_transport.specs.Ipv6Translations.{ipv6, message_in_ipv6, of_ipv6, AreIpv6Addresses, total_of_ipv6, ipv6_addresses, ipv6_flow_message, ipv6_start, with_ipv6_addresses}
use Rattle.etherparse_transport.specs.Translations.{with_bytes}
use Rattle.etherparse_transport.specs.declared.ip.ipv6_translation.Ipv6Translation.{Ipv6Translation}
use Rattle.etherparse_transport.proofs.TranslationLemmas.{flow_message_is, put_is}
use Rattle.etherparse_transport.proofs.TranslationSums.{flow_turns, ipv6_addresses_there, ipv6_header_put, ipv6_pseudo_headers, message_total, verifies}
use Rattle.etherparse_transport.proofs.ip.translated_ipv6.translate_ipv6_flow.Goals as goal
use borrow.Rule.Slice.PartMut.{put_mid}

-- the new addresses, given the old addresses
abbrev pub addresses_from : Ipv6Translation → Ipv6Header → Ipv6Header
addresses_from new old = record { source = unwrap_or new.source old.source; destination = unwrap_or new.destination old.destination }

message_is : (c : goal.After-slice_known-3-1) → c.translate_flow-change.new.message ≡ ipv6_flow_message c.args.new.now c.args.packet.now
message_is c =
    c.translate_flow-change.ensures.translated
    ∙ flow_message_is ipv6 (of_ipv6 c.args.new.now) c.args.packet.now (message_in_ipv6 c.args.packet.now) _ _ _ _ _ c.requires.place.message
    c.requires.place.later c.requires.place.proto c.replaced_ipv6_change-change.ensures

pub returns-clause-translated : goal.returns-clause-translated
returns-clause-translated c =
    let packet : List ℕ = c.args.packet.now in
    let start : ℕ = c.args.place.now.start in
    let end : ℕ = c.args.place.now.end in
    let message : List ℕ = c.translate_flow-change.new.message in
    c.replace_ipv6_addresses.ensures.replaced
    ∙ ap (λ header. with_ipv6_addresses (addresses_from c.args.new.now header) (put_mid start (end - start) packet message))
    (ipv6_header_put start (end - start) packet message c.requires.place.header (search rules))
    ∙ ap (with_ipv6_addresses (ipv6_addresses c.args.new.now packet)) (put_is start end packet message (search rules)
    ∙ ap (λ start. with_bytes start message packet) c.requires.place.start
    ∙ ap (λ message. with_bytes (ipv6_start packet) message packet) (message_is c))

pub returns-clause-verifies : goal.returns-clause-verifies
returns-clause-verifies c =
    let packet : List ℕ = c.args.packet.now in
    verifies ipv6 ipv6_pseudo_headers (of_ipv6 c.args.new.now) packet (message_in_ipv6 packet)
    (slice_range packet c.args.place.now.start c.args.place.now.end) c.translate_flow-change.new.message c.args.place.now _ _
    c.requires.place.proto c.requires.place.later c.requires.place.message (message_is c) c.replaced_ipv6_change-change.ensures
    (ipv6_addresses_there packet (omega (arith, c.requires.place.header, c.requires.place.ordered, c.requires.place.there)))
    (subst AreIpv6Addresses c.new_ipv6_addresses-addresses.ensures.new c.new_ipv6_addresses-addresses.ensures.addresses)
    c.translate_flow-change.ensures.verifies

pub returns-clause-turns : goal.returns-clause-turns
returns-clause-turns c =
    let packet : List ℕ = c.args.packet.now in
    let start : ℕ = c.args.place.now.start in
    let end : ℕ = c.args.place.now.end in
    let message : List ℕ = slice_range packet start end in
    let translated : List ℕ = c.translate_flow-change.new.message in
    let between : List ℕ = put_mid start (end - start) packet translated in
    let old : Ipv6Header = ipv6_header_of packet in
    let new : Ipv6Header = ipv6_addresses c.args.new.now packet in
    let removed : ℕ = removed_value c.replaced_ipv6_change-change.result in
    let added : ℕ = added_value c.replaced_ipv6_change-change.result in
    let header = ipv6_header_put start (end - start) packet translated c.requires.place.header (search rules) in
    let all = flow_turns (total packet) (total between) (total c.replace_ipv6_addresses.new.packet) (total message) (total translated)
    old.source old.destination new.source new.destination removed added 0 0 (removed_value c.translate_flow-change.result)
    (added_value c.translate_flow-change.result)
    c.replaced_ipv6_change-change.ensures
    (c.translate_flow-change.ensures.turns (removed + total message) added (ap folded (omega arith)))
    (message_total start end packet translated c.requires.place.even (search rules) c.requires.place.ordered c.requires.place.there)
    (omega (
      arith,
      c.replace_ipv6_addresses.ensures.total,
      ap total_of_ipv6 header,
      ap (λ header. total_of_ipv6 (addresses_from c.args.new.now header)) header,
    )) in
    omega (arith, all)
