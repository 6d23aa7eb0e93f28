use Rattle.std.proofs.Common.{◌≡◌, ◌+◌, ◌-◌, ◌%◌, List, ℕ, slice_index, slice_range, refl, sym, ap, ◌∙◌, subst, arith, rules, inl}
use Rattle.net_base.specs.IpHeaders.{ipv4_header_len, ipv4_header_of}
use Rattle.net_base.specs.declared.ipv4_header.Ipv4Header.{Ipv4Header}
use Rattle.word_sum.specs.Checksum.{folded, total}
use Rattle.word_sum.specs.ChecksumChange.{added_value, removed_value}
use Rattle.word_sum.proofs.ChecksumChangeLemmas.{folded-remainder}
use Rattle.etherparse_transport.specs.Ipv4Translations.{ipv4, of_ipv4, AreIpv4Addresses, sum_of_ipv4, total_of_ipv4, ipv4_addresses, ipv4_flow_message, with_ipv4_addresses}
use Rattle.etherparse_transport.specs.Translations.{AreUpdatedAlike, with_bytes}
use Rattle.etherparse_transport.proofs.TranslationLemmas.{flow_message_is, put_is}
use Rattle.etherparse_transport.proofs.TranslationSums.{even_len, flow_turns, header_in_front, ipv4_addresses_there, ipv4_header_put, ipv4_pseudo_headers, message_total, verifies}
use Rattle.etherparse_transport.proofs.ip.translated_ipv4.translate_ipv4_flow.Goals as goal
use borrow.Rule.Slice.PartMut.{put_mid}

-- the change is the change of both addresses
alike : (c : goal.After-replace_2bytes) → AreUpdatedAlike (removed_value c.ipv4_change-change.result)
    (added_value c.ipv4_change-change.result) (sum_of_ipv4 (ipv4_header_of c.args.packet.now))
    (sum_of_ipv4 (ipv4_addresses c.args.new.now c.args.packet.now))
alike c = inl (
  c.ipv4_change-change.ensures.removed,
  c.ipv4_change-change.ensures.added ∙ ap sum_of_ipv4 c.new_ipv4_addresses-addresses.ensures.new,
)

message_is : (c : goal.After-replace_2bytes) → c.translate_flow-all.new.message
    ≡ ipv4_flow_message c.args.new.now (slice_range c.args.packet.now c.args.place.now.start c.args.place.now.end) c.args.packet.now
message_is c =
    c.translate_flow-all.ensures.translated
    ∙ flow_message_is ipv4 (of_ipv4 c.args.new.now) c.args.packet.now _ _ _ _ _ _ refl c.requires.place.later c.requires.place.proto
    (alike c)

pub returns-clause-translated : goal.returns-clause-translated
returns-clause-translated c =
    let packet : List ℕ = c.args.packet.now in
    let start : ℕ = c.args.place.now.start in
    let end : ℕ = c.args.place.now.end in
    let message : List ℕ = c.translate_flow-all.new.message in
    c.replace_ipv4_addresses-old.ensures.replaced
    ∙ ap (λ addresses. with_ipv4_addresses addresses (put_mid start (end - start) packet message))
    c.new_ipv4_addresses-addresses.ensures.new
    ∙ ap (with_ipv4_addresses (ipv4_addresses c.args.new.now packet)) (put_is start end packet message (search rules)
    ∙ ap (λ start. with_bytes start message packet) c.requires.place.start
    ∙ ap (λ message. with_bytes (ipv4_header_len packet) message packet) (message_is c))

pub returns-clause-verifies : goal.returns-clause-verifies
returns-clause-verifies c =
    let packet : List ℕ = c.args.packet.now in
    let message : List ℕ = slice_range packet c.args.place.now.start c.args.place.now.end in
    verifies ipv4 ipv4_pseudo_headers (of_ipv4 c.args.new.now) packet message message c.translate_flow-all.new.message c.args.place.now _ _
    c.requires.place.proto c.requires.place.later refl (message_is c)
    (inl (
      c.ipv4_change-change.ensures.removed,
      c.ipv4_change-change.ensures.added ∙ ap sum_of_ipv4 c.new_ipv4_addresses-addresses.ensures.new,
    ))
    (ipv4_addresses_there packet (omega (arith, c.requires.place.header, c.requires.place.ordered, c.requires.place.there)))
    (subst AreIpv4Addresses c.new_ipv4_addresses-addresses.ensures.new c.new_ipv4_addresses-addresses.ensures.addresses)
    c.translate_flow-all.ensures.verifies

pub returns-clause-header : goal.returns-clause-header
returns-clause-header c =
    header_in_front c.args.packet.now c.replace_ipv4_addresses-old.new.packet c.translate_flow-all.new.message _ c.args.place.now
    c.requires.place c.replace_ipv4_addresses-old.ensures.header (search rules)

pub replace_ipv4_addresses-old-requires-clause-removed : goal.replace_ipv4_addresses-old-requires-clause-removed
replace_ipv4_addresses-old-requires-clause-removed c =
    c.ipv4_change-change.ensures.removed
    ∙ ap sum_of_ipv4 (sym (ipv4_header_put c.args.place.now.start
    (c.args.place.now.end - c.args.place.now.start) c.args.packet.now c.translate_flow-all.new.message c.requires.place.header
    (search rules)))

pub returns-clause-turns : goal.returns-clause-turns
returns-clause-turns c =
    let packet : List ℕ = c.args.packet.now in
    let start : ℕ = c.args.place.now.start in
    let end : ℕ = c.args.place.now.end in
    let message : List ℕ = slice_range packet start end in
    let translated : List ℕ = c.translate_flow-all.new.message in
    let old : Ipv4Header = ipv4_header_of packet in
    let new : Ipv4Header = c.new_ipv4_addresses-addresses.result in
    let removed : ℕ = removed_value c.ipv4_change-change.result in
    let added : ℕ = added_value c.ipv4_change-change.result in
    let between : List ℕ = put_mid start (end - start) packet translated in
    let header_kept = ap total_of_ipv4 (ipv4_header_put start (end - start) packet translated c.requires.place.header (search rules)) in
    let all = flow_turns (total packet) (total between) (total c.replace_ipv4_addresses-old.new.packet) (total message) (total translated)
    old.source old.destination new.source new.destination removed added c.replace_ipv4_addresses-old.result.0
    c.replace_ipv4_addresses-old.result.1 (removed_value c.translate_flow-all.result) (added_value c.translate_flow-all.result)
    (inl (c.ipv4_change-change.ensures.removed, c.ipv4_change-change.ensures.added))
    (c.translate_flow-all.ensures.turns (removed + total message) added (ap folded (omega arith)))
    (message_total start end packet translated (ap (λ n. n % 2) c.requires.place.start ∙ even_len (slice_index packet 0))
    (search rules) c.requires.place.ordered c.requires.place.there)
    (omega (arith, c.replace_ipv4_addresses-old.ensures.total, header_kept)) in
    omega (
      arith,
      all,
      ap (λ n. n % 65535) c.replace_2bytes.ensures.added
          ∙ folded-remainder (added_value c.translate_flow-all.result + total c.to_be_bytes-2.result),
      ap (λ n. n % 65535) c.replace_2bytes.ensures.removed
          ∙ folded-remainder (removed_value c.translate_flow-all.result + total c.to_be_bytes.result),
      ap total c.to_be_bytes.ensures,
      ap total c.to_be_bytes-2.ensures,
    )
