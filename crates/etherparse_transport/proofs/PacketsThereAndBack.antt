-- The law of packets that are translated there and back, for each family of addresses.
use Rattle.std.proofs.Common.{◌≡◌, ℕ, ◌+◌, ◌-◌, Bool, true, false, List, drop, length, Option, Some, None, refl, sym, ap, ◌∙◌, subst, arith}
use Rattle.std.specs.Prelude.{◌↔◌, IfSome, unwrap_or}
use Rattle.std.specs.Option.{option_map}
use Rattle.ip_part.specs.declared.proto.Proto.{Proto}
use Rattle.net_base.specs.Bytes.{IsBytes}
use Rattle.word_sum.proofs.ChecksumLemmas.{folded-lt}
use Rattle.etherparse_transport.specs.Families.{AddressPair, AreAddresses, Family, Translation, addresses_of, error_sum, flow_message, message_by, message_in, new_addresses, opposite, quoted_packet, quoted_refusal, refusal_by, refusal_of_message, sum_of, translated_flow, translated_with, with_message}
use Rattle.etherparse_transport.specs.Translations.{message_refusal, quoted_in, translated_in, with_quote}
use Rattle.etherparse_transport.specs.WaysBack.{AreChecksumsRestored, IsErrorRestored, IsFlowRestored, IsHeaderRestored, IsRestored, IsRestoredBy, IsRestoredWith, IsRestoredWithBy, IsTranslation, back_by, flow_back, instead, quoted_back, way_back}
use Rattle.etherparse_transport.specs.declared.err.packet.translate_error.TranslateError.TheVariants.{QuotedPacket}
use Rattle.etherparse_transport.proofs.BuiltLemmas.{mapped_none, none_first}
use Rattle.etherparse_transport.proofs.ReplacedBytes.{bytes_drop, bytes_take, iff_along}
use Rattle.etherparse_transport.proofs.ThereAndBack.{address_iff, address_len, new_address_len, part_back}
use Rattle.etherparse_transport.proofs.TranslatedAgain.{error_accepted, ports_accepted, quote_back, quote_len, quoted_range, quotes_none, quotes_translated}
use Rattle.etherparse_transport.proofs.TranslationLemmas.{IsRange, last_of_three}
use Rattle.etherparse_transport.proofs.TranslationReading.{part_len}

-- ---- what the law needs to know of a family

-- what is found in a packet with new addresses and another message
pub record IsChanged (family : Family) (is_quoted : Bool) (new : Translation) (packet message : List ℕ) : Type 0 where
  pub len : length (with_message family new message packet) ≡ length packet
  pub addresses : addresses_of family (with_message family new message packet) ≡ new_addresses family new packet
  pub message_is : message_in family is_quoted (with_message family new message packet) ≡ message
  pub proto : family.proto (with_message family new message packet) ≡ family.proto packet
  pub later : family.is_later_fragment (with_message family new message packet) ≡ family.is_later_fragment packet

-- a packet of the family with new addresses, and with a message of the length of the old message
pub record IsChange (family : Family) (IsFlow : Bool → List ℕ → Type 0) (is_quoted : Bool) (new : Translation)
    (packet message : List ℕ) : Type 0 where
  pub flow : IsFlow is_quoted packet
  pub addresses : AreAddresses family (new_addresses family new packet)
  pub same : length message ≡ length (message_in family is_quoted packet)

pub record Laws (family : Family) : Type 1 where
  -- the packet is accepted, and contains its headers
  pub IsFlow : Bool → List ℕ → Type 0
  pub found : (is_quoted has_port : Bool) (packet : List ℕ) → family.place_refusal is_quoted has_port packet ≡ None
      → IsFlow is_quoted packet
  pub addresses_there : (is_quoted : Bool) (packet : List ℕ) → IsFlow is_quoted packet → AreAddresses family (addresses_of family packet)
  pub changed : (is_quoted : Bool) (new : Translation) (packet message : List ℕ)
      → IsChange family IsFlow is_quoted new packet message → IsChanged family is_quoted new packet message
  pub still_flow : (is_quoted : Bool) (new : Translation) (packet message : List ℕ)
      → IsChange family IsFlow is_quoted new packet message → IsFlow is_quoted (with_message family new message packet)
  pub still_accepted : (is_quoted has_port : Bool) (new : Translation) (packet message : List ℕ)
      → IsChange family IsFlow is_quoted new packet message → family.place_refusal is_quoted has_port packet ≡ None
      → family.place_refusal is_quoted has_port (with_message family new message packet) ≡ None
  -- The message and the addresses of a packet are replaced twice. The second replacements may be the old message and addresses.
  pub replaced_twice : (is_quoted : Bool) (new back : Translation) (packet message message_too : List ℕ) → IsBytes packet
      → IsChange family IsFlow is_quoted new packet message
      → IsChange family IsFlow is_quoted back (with_message family new message packet) message_too
      → (with_message family back message_too (with_message family new message packet) ≡ packet)
      ↔ ((new_addresses family back (with_message family new message packet) ≡ addresses_of family packet)
      × (IsHeaderRestored family packet × (message_too ≡ message_in family is_quoted packet)))

-- an accepted ICMP error, its quoted packet, and a translation of each
pub record IsErrorOf (family : Family) (IsFlow : Bool → List ℕ → Type 0) (new rule : Translation) (packet quoted : List ℕ) : Type 0 where
  pub flow : IsFlow false packet
  pub flow_too : IsFlow true quoted
  pub fits : IsBytes packet
  pub fits_too : IsBytes quoted
  pub is : IsTranslation family new
  pub is_rule : IsTranslation family rule
  pub quotes : quoted_packet family packet ≡ Some quoted
  pub range : IsRange (message_in family false packet) quoted

-- no error applies to a packet, which quotes this packet, if any
pub record IsAccepted (family : Family) (has_port has_quoted_port : Bool) (packet : List ℕ) (quoted : Option (List ℕ)) : Type 0 where
  pub place : family.place_refusal false has_port packet ≡ None
  pub message : refusal_of_message family packet ≡ None
  pub quotes : quoted_packet family packet ≡ quoted
  pub of_quoted : quoted_refusal family has_quoted_port quoted ≡ None

accepted_parts : (family : Family) (has_port has_quoted_port : Bool) (packet : List ℕ)
    → refusal_by family has_port has_quoted_port packet ≡ None
    → IsAccepted family has_port has_quoted_port packet (quoted_packet family packet)
accepted_parts family has_port has_quoted_port packet accepted =
    let after_place = none_first (family.place_refusal false has_port packet) _ accepted in
    let after_message = none_first (refusal_of_message family packet) _ after_place.1 in
    record {
      place = after_place.0;
      message = after_message.0;
      quotes = refl;
      of_quoted = (none_first (quoted_refusal family has_quoted_port (quoted_packet family packet)) _ after_message.1).0;
    }

-- an address that is replaced and then put back is the old address
address_back : (old : List ℕ) (new : Option (List ℕ)) → unwrap_or (instead old new) (unwrap_or new old) ≡ old
address_back old None = refl
address_back old (Some address) = refl

-- a translation of the opposite direction has the same lengths
opposite_is : (family : Family) (new : Translation) → IsTranslation family new → IsTranslation family (opposite new)
opposite_is family new is =
    record {
      source = is.destination;
      destination = is.source;
      ports = record { source = is.ports.destination; destination = is.ports.source };
    }

module _ (family : Family) (laws : Laws family) where
  -- ---- a packet of a flow

  -- a message with new ports has the length of the message
  message_len : (new : Translation) (message packet : List ℕ) → length (flow_message family new message packet) ≡ length message
  message_len new message packet =
      part_len (family.is_later_fragment packet) (family.proto packet) _ _ new.source_port new.destination_port message

  -- the new addresses of a packet have the length of the family
  addresses_are : (is_quoted : Bool) (new : Translation) (packet : List ℕ) → laws.IsFlow is_quoted packet → IsTranslation family new
      → AreAddresses family (new_addresses family new packet)
  addresses_are is_quoted new packet flow is =
      let old : AddressPair = addresses_of family packet in
      let there : AreAddresses family old = laws.addresses_there is_quoted packet flow in
      record {
        source = new_address_len family.address_len old.source new.source there.source is.source;
        destination = new_address_len family.address_len old.destination new.destination there.destination is.destination;
      }

  -- the translation of a flow is a change
  flow_change : (is_quoted : Bool) (new : Translation) (packet : List ℕ) → laws.IsFlow is_quoted packet → IsTranslation family new
      → IsChange family laws.IsFlow is_quoted new packet (flow_message family new (message_in family is_quoted packet) packet)
  flow_change is_quoted new packet flow is =
      record {
        flow = flow;
        addresses = addresses_are is_quoted new packet flow is;
        same = message_len new (message_in family is_quoted packet) packet;
      }

  -- the message of a packet consists of bytes
  message_fits : (is_quoted : Bool) (packet : List ℕ) → IsBytes packet → IsBytes (message_in family is_quoted packet)
  message_fits is_quoted packet fits = bytes_drop (family.start packet) _ (bytes_take _ packet fits)

  -- the addresses come back if the packet is translated back
  addresses_back : (is_quoted : Bool) (new : Translation) (packet message : List ℕ) → IsChanged family is_quoted new packet message
      → new_addresses family (flow_back family new (message_in family is_quoted packet) packet) (with_message family new message packet)
      ≡ addresses_of family packet
  addresses_back is_quoted new packet message changed =
      let old : AddressPair = addresses_of family packet in
      let back : Translation = flow_back family new (message_in family is_quoted packet) packet in
      ap {B = AddressPair} (λ header. record {
        source = unwrap_or back.source header.source;
        destination = unwrap_or back.destination header.destination;
      }) changed.addresses
      ∙ ap {B = AddressPair} (λ source. record {
        source = source;
        destination = unwrap_or back.destination (new_addresses family new packet).destination;
      })
      (address_back old.source new.source)
      ∙ ap {B = AddressPair} (λ destination. record { source = old.source; destination = destination })
      (address_back old.destination new.destination)

  -- a translated flow is translated back
  flow_restored : (is_quoted : Bool) (new : Translation) (packet : List ℕ) → laws.IsFlow is_quoted packet → IsBytes packet
      → IsTranslation family new
      → (translated_flow family (flow_back family new (message_in family is_quoted packet) packet)
      (message_in family is_quoted (translated_flow family new (message_in family is_quoted packet) packet))
      (translated_flow family new (message_in family is_quoted packet) packet) ≡ packet)
      ↔ IsFlowRestored family (message_in family is_quoted packet) packet
  flow_restored is_quoted new packet flow fits is =
      let old : List ℕ = message_in family is_quoted packet in
      let back : Translation = flow_back family new old packet in
      let message : List ℕ = flow_message family new old packet in
      let changed : List ℕ = with_message family new message packet in
      let change = flow_change is_quoted new packet flow is in
      let found : IsChanged family is_quoted new packet message = laws.changed is_quoted new packet message change in
      let addresses_is : new_addresses family back changed ≡ addresses_of family packet =
      addresses_back is_quoted new packet message found in
      let message_too : List ℕ = flow_message family back (message_in family is_quoted changed) changed in
      let change_too : IsChange family laws.IsFlow is_quoted back changed message_too = record {
        flow = laws.still_flow is_quoted new packet message change;
        addresses = subst (AreAddresses family) (sym addresses_is) (laws.addresses_there is_quoted packet flow);
        same = message_len back (message_in family is_quoted changed) changed;
      } in
      let later : Bool = family.is_later_fragment packet in
      let proto : Option Proto = family.proto packet in
      let removed : ℕ = sum_of (addresses_of family packet) in
      let added : ℕ = sum_of (new_addresses family new packet) in
      let message_too_is : message_too ≡ translated_in later proto added removed back.source_port back.destination_port message =
      ap (λ later. translated_in later (family.proto changed) (sum_of (addresses_of family changed))
      (sum_of (new_addresses family back changed))
      back.source_port back.destination_port (message_in family is_quoted changed)) found.later
      ∙ ap (λ proto. translated_in later proto (sum_of (addresses_of family changed)) (sum_of (new_addresses family back changed))
      back.source_port back.destination_port (message_in family is_quoted changed)) found.proto
      ∙ ap (λ addresses. translated_in later proto (sum_of addresses) (sum_of (new_addresses family back changed))
      back.source_port back.destination_port (message_in family is_quoted changed)) found.addresses
      ∙ ap (λ addresses. translated_in later proto added (sum_of addresses) back.source_port back.destination_port
      (message_in family is_quoted changed)) addresses_is
      ∙ ap (translated_in later proto added removed back.source_port back.destination_port) found.message_is in
      let bytes = laws.replaced_twice is_quoted new back packet message message_too fits change change_too in
      let messages = part_back later proto removed added new.source_port new.destination_port old (message_fits is_quoted packet fits)
      is.ports.source is.ports.destination (folded-lt _) (folded-lt _) in (
        λ restored.
            let both = (bytes.0 restored).1 in
            (both.0, messages.0 (sym message_too_is ∙ both.1)),
        λ restored. bytes.1 (addresses_is, (restored.0, message_too_is ∙ messages.1 restored.1)),
      )

  -- ---- a packet that quotes no packet

  -- what a changed packet quotes
  quoted_is : (new : Translation) (packet message : List ℕ) → IsChanged family false new packet message
      → quoted_packet family (with_message family new message packet)
      ≡ quoted_in (family.is_later_fragment packet) (family.proto packet) message
  quoted_is new packet message found =
      let changed : List ℕ = with_message family new message packet in
      ap (λ later. quoted_in later (family.proto changed) (message_in family false changed)) found.later
      ∙ ap (λ proto. quoted_in (family.is_later_fragment packet) proto (message_in family false changed)) found.proto
      ∙ ap (quoted_in (family.is_later_fragment packet) (family.proto packet)) found.message_is

  -- a translated packet quotes no packet if the packet quotes none
  still_none : (new : Translation) (packet : List ℕ) → laws.IsFlow false packet → IsTranslation family new
      → quoted_packet family packet ≡ None
      → quoted_packet family (translated_flow family new (message_in family false packet) packet) ≡ None
  still_none new packet flow is none =
      let old : List ℕ = message_in family false packet in
      quoted_is new packet (flow_message family new old packet) (laws.changed false new packet _ (flow_change false new packet flow is))
      ∙ quotes_none (family.is_later_fragment packet) (family.proto packet) _ _ new.source_port new.destination_port old none

  no_quote_back : (new rule : Translation) (packet : List ℕ) → laws.IsFlow false packet → IsBytes packet → IsTranslation family new
      → quoted_packet family packet ≡ None
      → (translated_with family (flow_back family new (message_in family false packet) packet) rule
      (translated_flow family new (message_in family false packet) packet) ≡ packet)
      ↔ IsFlowRestored family (message_in family false packet) packet
  no_quote_back new rule packet flow fits is none =
      let back : Translation = flow_back family new (message_in family false packet) packet in
      let changed : List ℕ = translated_flow family new (message_in family false packet) packet in
      iff_along (translated_with family back rule changed) (translated_flow family back (message_in family false changed) changed) packet
      (ap (λ quoted. with_message family back (message_by family quoted back rule changed) changed) (still_none new packet flow is none))
      (flow_restored false new packet flow fits is)

  -- ---- an ICMP error

  -- the translated quoted packet is a change
  inner_change : (new rule : Translation) (packet quoted : List ℕ) → IsErrorOf family laws.IsFlow new rule packet quoted
      → IsChange family laws.IsFlow true rule quoted (flow_message family rule (message_in family true quoted) quoted)
  inner_change new rule packet quoted of = flow_change true rule quoted of.flow_too of.is_rule

  -- the translated quoted packet has the length of the quoted packet
  inner_len : (new rule : Translation) (packet quoted : List ℕ) → IsErrorOf family laws.IsFlow new rule packet quoted
      → length (translated_flow family rule (message_in family true quoted) quoted) ≡ length quoted
  inner_len new rule packet quoted of =
      (laws.changed true rule quoted (flow_message family rule (message_in family true quoted) quoted)
      (inner_change new rule packet quoted of)).len

  -- the translation of an ICMP error is a change
  error_change : (new rule : Translation) (packet quoted : List ℕ) → IsErrorOf family laws.IsFlow new rule packet quoted
      → IsChange family laws.IsFlow false new packet (message_by family (Some quoted) new rule packet)
  error_change new rule packet quoted of =
      let translated : List ℕ = translated_flow family rule (message_in family true quoted) quoted in
      let translated_len : length translated ≡ length quoted = inner_len new rule packet quoted of in
      record {
        flow = of.flow;
        addresses = addresses_are false new packet of.flow of.is;
        same = quote_len (error_sum family (addresses_of family packet)) (error_sum family (new_addresses family new packet))
            quoted translated (message_in family false packet) (omega (arith, of.range.within, translated_len));
      }

  -- what is found in a translated ICMP error
  error_changed : (new rule : Translation) (packet quoted : List ℕ) → IsErrorOf family laws.IsFlow new rule packet quoted
      → IsChanged family false new packet (message_by family (Some quoted) new rule packet)
  error_changed new rule packet quoted of =
      laws.changed false new packet (message_by family (Some quoted) new rule packet) (error_change new rule packet quoted of)

  -- a translated ICMP error quotes the translated quoted packet
  still_quotes : (new rule : Translation) (packet quoted : List ℕ) → IsErrorOf family laws.IsFlow new rule packet quoted
      → quoted_packet family (with_message family new (message_by family (Some quoted) new rule packet) packet)
      ≡ Some (translated_flow family rule (message_in family true quoted) quoted)
  still_quotes new rule packet quoted of =
      let translated : List ℕ = translated_flow family rule (message_in family true quoted) quoted in
      quoted_is new packet (message_by family (Some quoted) new rule packet) (error_changed new rule packet quoted of)
      ∙ quotes_translated (family.is_later_fragment packet) (family.proto packet) (error_sum family (addresses_of family packet))
      (error_sum family (new_addresses family new packet)) (message_in family false packet) quoted translated of.range
      (inner_len new rule packet quoted of) of.quotes

  -- an ICMP error that is translated back by any translation of the right lengths, and its quoted packet by its way back
  error_back : (new rule back : Translation) (packet quoted : List ℕ) → IsErrorOf family laws.IsFlow new rule packet quoted
      → AreAddresses family (new_addresses family back (with_message family new (message_by family (Some quoted) new rule packet) packet))
      → (translated_with family back (flow_back family rule (message_in family true quoted) quoted)
      (with_message family new (message_by family (Some quoted) new rule packet) packet) ≡ packet)
      ↔ ((new_addresses family back (with_message family new (message_by family (Some quoted) new rule packet) packet)
      ≡ addresses_of family packet) × AreChecksumsRestored family packet quoted)
  error_back new rule back packet quoted of are =
      let old : List ℕ = message_in family false packet in
      let removed : ℕ = error_sum family (addresses_of family packet) in
      let added : ℕ = error_sum family (new_addresses family new packet) in
      let inner : List ℕ = flow_message family rule (message_in family true quoted) quoted in
      let translated : List ℕ = translated_flow family rule (message_in family true quoted) quoted in
      let translated_len : length translated ≡ length quoted = inner_len new rule packet quoted of in
      let message : List ℕ = message_by family (Some quoted) new rule packet in
      let changed : List ℕ = with_message family new message packet in
      let change = error_change new rule packet quoted of in
      let found = error_changed new rule packet quoted of in
      let inner_back : Translation = flow_back family rule (message_in family true quoted) quoted in
      let restored : List ℕ = translated_flow family inner_back (message_in family true translated) translated in
      let restored_len : length restored ≡ length quoted =
      (laws.changed true inner_back translated (flow_message family inner_back (message_in family true translated) translated) (record {
        flow = laws.still_flow true rule quoted inner (inner_change new rule packet quoted of);
        addresses = subst (AreAddresses family)
            (sym (addresses_back true rule quoted inner (laws.changed true rule quoted inner (inner_change new rule packet quoted of))))
            (laws.addresses_there true quoted of.flow_too);
        same = message_len inner_back (message_in family true translated) translated;
      })).len ∙ translated_len in
      let removed_too : ℕ = error_sum family (new_addresses family back changed) in
      let message_too : List ℕ = with_quote added removed_too translated restored message in
      let message_too_is : new_addresses family back changed ≡ addresses_of family packet
      → message_too ≡ with_quote added removed translated restored message =
      λ is. ap (λ addresses. with_quote added (error_sum family addresses) translated restored message) is in
      let change_too : IsChange family laws.IsFlow false back changed message_too = record {
        flow = laws.still_flow false new packet message change;
        addresses = are;
        same = quote_len added removed_too translated restored message (omega (arith, of.range.within, restored_len, change.same))
            ∙ sym (ap length found.message_is);
      } in
      let quotes_iff =
      quote_back removed added quoted translated restored old (message_fits false packet of.fits) of.range translated_len restored_len in
      let flow_iff = flow_restored true rule quoted of.flow_too of.fits_too of.is_rule in
      let bytes_iff = laws.replaced_twice false new back packet message message_too of.fits change change_too in
      iff_along (translated_with family back inner_back changed) (with_message family back message_too changed) packet
      (ap (λ quoted. with_message family back (message_by family quoted back inner_back changed) changed)
      (still_quotes new rule packet quoted of)
      ∙ ap (λ addresses. with_message family back (with_quote (error_sum family addresses) removed_too translated restored
      (message_in family false changed)) changed) found.addresses
      ∙ ap (λ message. with_message family back (with_quote added removed_too translated restored message) changed) found.message_is) (
        λ whole.
            let parts = bytes_iff.0 whole in
            let quotes = quotes_iff.0 (sym (message_too_is parts.0) ∙ parts.1.1) in (
              parts.0,
              record {
                header = parts.1.0;
                message = quotes.1;
                quoted_packet = flow_iff.0 quotes.0;
              },
            ),
        λ both.
            let quotes = quotes_iff.1 (flow_iff.1 both.1.quoted_packet, both.1.message) in
            bytes_iff.1 (both.0, (both.1.header, message_too_is both.0 ∙ quotes)),
      )

  -- an ICMP error that is translated back by the opposite of the way back of its quoted packet
  opposite_back : (new : Translation) (packet quoted : List ℕ) → IsErrorOf family laws.IsFlow new (opposite new) packet quoted
      → (translated_with family (back_by family (Some quoted) new packet) (opposite (back_by family (Some quoted) new packet))
      (with_message family new (message_by family (Some quoted) new (opposite new) packet) packet) ≡ packet)
      ↔ IsErrorRestored family new packet quoted
  opposite_back new packet quoted of =
      let back : Translation = back_by family (Some quoted) new packet in
      let changed : List ℕ = with_message family new (message_by family (Some quoted) new (opposite new) packet) packet in
      let old : AddressPair = addresses_of family packet in
      let inner : AddressPair = addresses_of family quoted in
      let old_are : AreAddresses family old = laws.addresses_there false packet of.flow in
      let inner_are : AreAddresses family inner = laws.addresses_there true quoted of.flow_too in
      let addresses_is : new_addresses family back changed ≡ record {
        source = unwrap_or back.source (new_addresses family new packet).source;
        destination = unwrap_or back.destination (new_addresses family new packet).destination;
      } =
      ap {B = AddressPair} (λ header. record {
        source = unwrap_or back.source header.source;
        destination = unwrap_or back.destination header.destination;
      }) (error_changed new (opposite new) packet quoted of).addresses in
      let are : AreAddresses family (new_addresses family back changed) =
      subst (AreAddresses family) (sym addresses_is) (record {
        source = address_len family.address_len old.source inner.destination new.source old_are.source inner_are.destination;
        destination = address_len family.address_len old.destination inner.source new.destination old_are.destination inner_are.source;
      }) in
      let addresses_iff : (new_addresses family back changed ≡ old)
      ↔ (IfSome new.source (λ _. inner.destination ≡ old.source) × IfSome new.destination (λ _. inner.source ≡ old.destination)) =
      iff_along (new_addresses family back changed) _ old addresses_is (
        λ alike. (
          (address_iff old.source inner.destination new.source).0 (ap (λ header. header.source) alike),
          (address_iff old.destination inner.source new.destination).0 (ap (λ header. header.destination) alike),
        ),
        λ both.
            ap {B = AddressPair} (λ source. record {
              source = source;
              destination = unwrap_or back.destination (new_addresses family new packet).destination;
            })
            ((address_iff old.source inner.destination new.source).1 both.0)
            ∙ ap {B = AddressPair} (λ destination. record { source = old.source; destination = destination })
            ((address_iff old.destination inner.source new.destination).1 both.1),
      ) in
      let error_iff = error_back new (opposite new) back packet quoted of are in (
        λ whole.
            let parts = error_iff.0 whole in
            let addresses = addresses_iff.0 parts.0 in
            record { checksums = parts.1; source = addresses.0; destination = addresses.1 },
        λ restored. error_iff.1 (addresses_iff.1 (restored.source, restored.destination), restored.checksums),
      )

  -- an ICMP error and its quoted packet that are each translated back by their own way back
  both_back : (new rule : Translation) (packet quoted : List ℕ) → IsErrorOf family laws.IsFlow new rule packet quoted
      → (translated_with family (flow_back family new (message_in family false packet) packet)
      (flow_back family rule (message_in family true quoted) quoted)
      (with_message family new (message_by family (Some quoted) new rule packet) packet) ≡ packet)
      ↔ AreChecksumsRestored family packet quoted
  both_back new rule packet quoted of =
      let back : Translation = flow_back family new (message_in family false packet) packet in
      let message : List ℕ = message_by family (Some quoted) new rule packet in
      let addresses_is = addresses_back false new packet message (error_changed new rule packet quoted of) in
      let iff = error_back new rule back packet quoted of
      (subst (AreAddresses family) (sym addresses_is) (laws.addresses_there false packet of.flow)) in
      (λ whole. (iff.0 whole).1, λ restored. iff.1 (addresses_is, restored))

  -- ---- any packet

  -- the quoted packet of an accepted ICMP error
  error_of : (has_port has_quoted_port : Bool) (new rule : Translation) (packet quoted : List ℕ) → IsBytes packet
      → IsTranslation family new → IsTranslation family rule → IsAccepted family has_port has_quoted_port packet (Some quoted)
      → IsErrorOf family laws.IsFlow new rule packet quoted
  error_of has_port has_quoted_port new rule packet quoted fits is is_rule accepted =
      let message : List ℕ = message_in family false packet in
      let range : IsRange message quoted =
      quoted_range (family.is_later_fragment packet) (family.proto packet) message quoted accepted.message accepted.quotes in
      record {
        flow = laws.found false has_port packet accepted.place;
        flow_too = laws.found true has_quoted_port quoted
            (mapped_none (λ _. QuotedPacket) (family.place_refusal true has_quoted_port quoted) accepted.of_quoted);
        fits = fits;
        fits_too = subst IsBytes range.range
            (bytes_take (8 + length quoted - 8) (drop 8 message) (bytes_drop 8 message (message_fits false packet fits)));
        is = is;
        is_rule = is_rule;
        quotes = accepted.quotes;
        range = range;
      }

  restored_by : (has_port has_quoted_port : Bool) (quoted : Option (List ℕ)) (new : Translation) (packet : List ℕ) → IsBytes packet
      → IsTranslation family new → IsAccepted family has_port has_quoted_port packet quoted
      → (translated_with family (back_by family quoted new packet) (opposite (back_by family quoted new packet))
      (with_message family new (message_by family quoted new (opposite new) packet) packet) ≡ packet)
      ↔ IsRestoredBy family quoted new packet
  restored_by has_port has_quoted_port None new packet fits is accepted =
      no_quote_back new (opposite (flow_back family new (message_in family false packet) packet)) packet
      (laws.found false has_port packet accepted.place) fits is accepted.quotes
  restored_by has_port has_quoted_port (Some quoted) new packet fits is accepted =
      opposite_back new packet quoted
      (error_of has_port has_quoted_port new (opposite new) packet quoted fits is (opposite_is family new is) accepted)

  restored_with_by : (has_port has_quoted_port : Bool) (quoted : Option (List ℕ)) (new rule : Translation) (packet : List ℕ)
      → IsBytes packet → IsTranslation family new → IfSome quoted (λ _. IsTranslation family rule)
      → IsAccepted family has_port has_quoted_port packet quoted
      → (translated_with family (flow_back family new (message_in family false packet) packet) (quoted_back family quoted rule)
      (with_message family new (message_by family quoted new rule packet) packet) ≡ packet) ↔ IsRestoredWithBy family quoted packet
  restored_with_by has_port has_quoted_port None new rule packet fits is is_rule accepted =
      no_quote_back new rule packet (laws.found false has_port packet accepted.place) fits is accepted.quotes
  restored_with_by has_port has_quoted_port (Some quoted) new rule packet fits is is_rule accepted =
      both_back new rule packet quoted (error_of has_port has_quoted_port new rule packet quoted fits is is_rule accepted)

  -- An accepted packet is translated there and back. The result is the packet exactly if its checksums come back.
  pub there_and_back : (has_port has_quoted_port : Bool) (new : Translation) (packet : List ℕ) → IsBytes packet
      → IsTranslation family new → refusal_by family has_port has_quoted_port packet ≡ None
      → (translated_with family (way_back family new packet) (opposite (way_back family new packet))
      (translated_with family new (opposite new) packet) ≡ packet) ↔ IsRestored family new packet
  there_and_back has_port has_quoted_port new packet fits is accepted =
      restored_by has_port has_quoted_port (quoted_packet family packet) new packet fits is
      (accepted_parts family has_port has_quoted_port packet accepted)

  -- An accepted packet is translated there and back, and its quoted packet by another rule. The result is the packet exactly if its
  -- checksums come back.
  pub both_there_and_back : (has_port has_quoted_port : Bool) (new rule : Translation) (packet : List ℕ) → IsBytes packet
      → IsTranslation family new → IfSome (quoted_packet family packet) (λ _. IsTranslation family rule)
      → refusal_by family has_port has_quoted_port packet ≡ None
      → (translated_with family (flow_back family new (message_in family false packet) packet)
      (quoted_back family (quoted_packet family packet) rule)
      (translated_with family new rule packet) ≡ packet) ↔ IsRestoredWith family packet
  both_there_and_back has_port has_quoted_port new rule packet fits is is_rule accepted =
      restored_with_by has_port has_quoted_port (quoted_packet family packet) new rule packet fits is is_rule
      (accepted_parts family has_port has_quoted_port packet accepted)

  -- ---- the translated packet is accepted again

  -- the error for the message of a changed packet
  message_refusal_is : (new : Translation) (packet message : List ℕ) → IsChanged family false new packet message
      → refusal_of_message family (with_message family new message packet)
      ≡ message_refusal (family.is_later_fragment packet) (family.proto packet) message
  message_refusal_is new packet message found =
      let changed : List ℕ = with_message family new message packet in
      ap (λ later. message_refusal later (family.proto changed) (message_in family false changed)) found.later
      ∙ ap (λ proto. message_refusal (family.is_later_fragment packet) proto (message_in family false changed)) found.proto
      ∙ ap (message_refusal (family.is_later_fragment packet) (family.proto packet)) found.message_is

  again_by : (has_port has_quoted_port : Bool) (quoted : Option (List ℕ)) (new rule : Translation) (packet : List ℕ) → IsBytes packet
      → IsTranslation family new → IfSome quoted (λ _. IsTranslation family rule)
      → IsAccepted family has_port has_quoted_port packet quoted
      → refusal_by family has_port has_quoted_port (with_message family new (message_by family quoted new rule packet) packet) ≡ None
  again_by has_port has_quoted_port None new rule packet fits is is_rule accepted =
      let flow : laws.IsFlow false packet = laws.found false has_port packet accepted.place in
      let old : List ℕ = message_in family false packet in
      let message : List ℕ = flow_message family new old packet in
      let change = flow_change false new packet flow is in
      last_of_three _ _ _ (laws.still_accepted false has_port new packet message change accepted.place)
      (message_refusal_is new packet message (laws.changed false new packet message change)
      ∙ ports_accepted (family.is_later_fragment packet) (family.proto packet) _ _ new.source_port new.destination_port old accepted.quotes
      accepted.message)
      ∙ ap (quoted_refusal family has_quoted_port) (still_none new packet flow is accepted.quotes)
  again_by has_port has_quoted_port (Some quoted) new rule packet fits is is_rule accepted =
      let of = error_of has_port has_quoted_port new rule packet quoted fits is is_rule accepted in
      let message : List ℕ = message_by family (Some quoted) new rule packet in
      let translated : List ℕ = translated_flow family rule (message_in family true quoted) quoted in
      last_of_three _ _ _
      (laws.still_accepted false has_port new packet message (error_change new rule packet quoted of) accepted.place)
      (message_refusal_is new packet message (error_changed new rule packet quoted of)
      ∙ error_accepted (family.is_later_fragment packet) (family.proto packet) (error_sum family (addresses_of family packet))
      (error_sum family (new_addresses family new packet)) (message_in family false packet) quoted translated of.range
      (inner_len new rule packet quoted of) accepted.quotes accepted.message)
      ∙ ap (quoted_refusal family has_quoted_port) (still_quotes new rule packet quoted of)
      ∙ ap (option_map (λ _. QuotedPacket)) (laws.still_accepted true has_quoted_port rule quoted
      (flow_message family rule (message_in family true quoted) quoted) (inner_change new rule packet quoted of)
      (mapped_none (λ _. QuotedPacket) (family.place_refusal true has_quoted_port quoted) accepted.of_quoted))

  -- a translated packet is accepted, so it can be translated again
  pub again : (has_port has_quoted_port : Bool) (new rule : Translation) (packet : List ℕ) → IsBytes packet → IsTranslation family new
      → IfSome (quoted_packet family packet) (λ _. IsTranslation family rule) → refusal_by family has_port has_quoted_port packet ≡ None
      → refusal_by family has_port has_quoted_port (translated_with family new rule packet) ≡ None
  again has_port has_quoted_port new rule packet fits is is_rule accepted =
      again_by has_port has_quoted_port (quoted_packet family packet) new rule packet fits is is_rule
      (accepted_parts family has_port has_quoted_port packet accepted)
