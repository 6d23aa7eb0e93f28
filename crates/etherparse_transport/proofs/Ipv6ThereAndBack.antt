-- The law of IPv6 packets that are translated there and back.
use Rattle.std.proofs.Common.{◌≡◌, ℕ, ◌+◌, ◌-◌, ◌≤◌, ◌==◌, ◌&&◌, ◌||◌, not, Bool, false, List, [], ◌∷◌, take, drop, slice_range, length, Option, None, refl, sym, ap, ◌∙◌, arith}
use Rattle.std.specs.Prelude.{◌↔◌, is_none}
use Rattle.std.proofs.lemmas.List.{length-drop, length-take}
use Rattle.ip_part.specs.Addresses.{Ipv6}
use Rattle.ip_part.specs.Ip.{counted_len, lacks_len}
use Rattle.ip_part.specs.Protocols.{proto_over}
use Rattle.ip_part.specs.declared.proto.Proto.{Proto}
use Rattle.net_base.specs.Bytes.{IsBytes}
use Rattle.net_base.specs.IpHeaders.{version}
use Rattle.net_base.specs.Refusals.{first_of, refused_if}
use Rattle.ip_part.specs.declared.ip_error.IpError.{IpError}
use Rattle.etherparse_transport.specs.declared.err.packet.translate_error.TranslateError.{TranslateError}
use Rattle.std.specs.Option.{option_map}
use Rattle.etherparse_transport.specs.declared.err.packet.translate_error.TranslateError.TheVariants.{Ip, OtherVersion, Protocol}
use Rattle.etherparse_transport.specs.Families.{AddressPair, Translation, addresses_of, message_in, new_addresses, with_message}
use Rattle.etherparse_transport.specs.Ipv6Translations.{covers_ipv6_addresses, ipv6, ipv6_place_refusal, ipv6_proto, ipv6_protocol, ipv6_start}
use Rattle.etherparse_transport.specs.Translations.{with_bytes}
use Rattle.etherparse_transport.specs.WaysBack.{IsHeaderRestored}
use Rattle.etherparse_transport.proofs.TranslationLemmas.{message_is_range}
use Rattle.etherparse_transport.proofs.TranslationReading.{IsIpv6Flow, IsIpv6Kept, StatesAlike, ipv6_after, ipv6_flow_kept, ipv6_flow_of, ipv6_protocol_accepted, ipv6_parts_destination, protocol_kept, skipped_kept, start_kept, states_alike, ipv6_parts_kept, ipv6_parts_message, ipv6_parts_source, ipv6_within, message_kept, range_at}
use Rattle.etherparse_transport.proofs.TranslationSums.{ipv6_addresses_there}
use Rattle.etherparse_transport.proofs.ReplacedBytes.{put, put_len, put_same, put_there, replaced_again, replaced_same}
use Rattle.etherparse_transport.proofs.PacketsThereAndBack.{IsChange, IsChanged, Laws}

-- ---- a translated packet

module _ (is_quoted : Bool) (new : Translation) (packet message : List ℕ)
    (change : IsChange ipv6 (λ is_quoted. IsIpv6Flow) is_quoted new packet message) where
  abbrev start : ℕ
  start = ipv6_start packet

  abbrev source : List ℕ
  source = (new_addresses ipv6 new packet).source

  abbrev destination : List ℕ
  destination = (new_addresses ipv6 new packet).destination

  abbrev translated : List ℕ
  translated = with_message ipv6 new message packet

  after : 40 ≤ start
  after = ipv6_after packet

  sixteen : length source ≡ 16
  sixteen = change.addresses.source

  sixteen_too : length destination ≡ 16
  sixteen_too = change.addresses.destination

  there : start + length message ≤ length packet
  there =
      let n : ℕ = counted_len (lacks_len packet) packet in
      omega (arith, change.same, change.flow.there, length-drop start (take n packet), length-take n packet)

  translated_is : translated ≡ put 24 destination (put 8 source (put start message packet))
  translated_is =
      let first : List ℕ = put start message packet in
      let first_len : length first ≡ length packet = put_len start message packet in
      let second : List ℕ = put 8 source first in
      let second_len : length second ≡ length packet = put_len 8 source first ∙ first_len in
      ap (λ bytes. with_bytes 24 destination (with_bytes 8 source bytes)) (sym (put_there start message packet there))
      ∙ ap (with_bytes 24 destination) (sym (put_there 8 source first (omega (arith, first_len, after, change.flow.there, sixteen))))
      ∙ sym (put_there 24 destination second (omega (arith, second_len, after, change.flow.there, sixteen_too)))

  kept : IsIpv6Kept packet translated
  kept = ipv6_parts_kept start source destination message packet after sixteen sixteen_too there refl

  still_flow : IsIpv6Flow translated
  still_flow = ipv6_flow_kept packet translated kept change.flow

  start_is : ipv6_start translated ≡ start
  start_is = start_kept packet translated kept change.flow

  message_is : message_in ipv6 is_quoted translated ≡ message
  message_is =
      let alike : StatesAlike packet translated = states_alike packet translated kept change.flow.accepted change.flow.is_ipv6 in
      let missing : Bool = lacks_len packet in
      ap (λ len. drop len (take (counted_len (lacks_len translated) translated) translated)) start_is
      ∙ ap (λ missing. drop start (take (counted_len missing translated) translated)) alike.lacks
      ∙ ap (λ n. drop start (take n translated)) (alike.counts missing)
      ∙ message_kept start (counted_len missing packet) packet translated message
      (ipv6_parts_message start source destination message packet after sixteen sixteen_too there)
      change.same (ipv6_within packet change.flow) change.flow.there

  changed : IsChanged ipv6 is_quoted new packet message
  changed =
      record {
        len = kept.front.len;
        addresses = ap {B = AddressPair} (λ source. record { source = source; destination = slice_range translated 24 40 })
            (ipv6_parts_source start source destination message packet after sixteen sixteen_too there)
            ∙ ap {B = AddressPair} (λ destination. record { source = source; destination = destination })
            (ipv6_parts_destination start source destination message packet after sixteen sixteen_too there);
        message_is = message_is;
        proto = ap (proto_over (Ipv6 [] None)) (protocol_kept packet translated kept change.flow);
        later = ap (λ skipped. skipped.is_later_fragment) (skipped_kept packet translated kept change.flow);
      }

  still_accepted : (has_port : Bool) → ipv6_place_refusal has_port packet ≡ None → ipv6_place_refusal has_port translated ≡ None
  still_accepted has_port accepted =
      let by : Option IpError → ℕ → Option Proto → ℕ → Option TranslateError = λ refusal v proto number. first_of (
      option_map Ip refusal ∷ refused_if (not (v == 6)) OtherVersion
      ∷ refused_if (is_none proto && (has_port || covers_ipv6_addresses number)) (Protocol (record { 0 = number })) ∷ []) in
      ap (λ refusal. by refusal (version translated) (ipv6_proto translated) (ipv6_protocol translated)) still_flow.accepted
      ∙ ap (λ v. by None v (ipv6_proto translated) (ipv6_protocol translated)) still_flow.is_ipv6
      ∙ ap (λ proto. by None 6 proto (ipv6_protocol translated)) changed.proto
      ∙ ap (by None 6 (ipv6_proto packet)) (protocol_kept packet translated kept change.flow)
      ∙ ap (λ refused. first_of (refused_if refused (Protocol (record { 0 = ipv6_protocol packet })) ∷ []))
      (ipv6_protocol_accepted has_port packet accepted)

-- ---- the packet that comes back

-- the message of a packet is in the packet after its headers
message_there : (packet : List ℕ) → IsIpv6Flow packet
    → take (length (message_in ipv6 false packet)) (drop (ipv6_start packet) packet) ≡ message_in ipv6 false packet
message_there packet flow =
    let len : ℕ = ipv6_start packet in
    let message : List ℕ = message_in ipv6 false packet in
    let count : len + length message - len ≡ length message = omega arith in
    sym (ap (λ n. take n (drop len packet)) count)
    ∙ message_is_range len (counted_len (lacks_len packet) packet) packet (ipv6_within packet flow)

-- a packet with this message is the packet exactly if the message is the message of the packet
restored_iff : (packet message : List ℕ) → IsIpv6Flow packet → length message ≡ length (message_in ipv6 false packet)
    → (put (ipv6_start packet) message packet ≡ packet) ↔ (message ≡ message_in ipv6 false packet)
restored_iff packet message flow same =
    let start : ℕ = ipv6_start packet in
    let old : List ℕ = message_in ipv6 false packet in
    let n : ℕ = counted_len (lacks_len packet) packet in
    let there : start + length message ≤ length packet =
    omega (arith, same, flow.there, length-drop start (take n packet), length-take n packet) in (
      λ is.
          sym (range_at start message packet there)
          ∙ ap (λ bytes. take (length message) (drop start bytes)) (sym (put_there start message packet there) ∙ is)
          ∙ ap (λ n. take n (drop start packet)) same ∙ message_there packet flow,
      λ is.
          ap (λ message. put start message packet) (is ∙ sym (message_there packet flow))
          ∙ put_same start (length old) packet (omega (arith, same, there)),
    )

-- A packet in which the message and the addresses are replaced twice. The second replacements may be the old message and addresses.
replaced_twice : (is_quoted : Bool) (new back : Translation) (packet message message_too : List ℕ) → IsBytes packet
    → IsChange ipv6 (λ is_quoted. IsIpv6Flow) is_quoted new packet message
    → IsChange ipv6 (λ is_quoted. IsIpv6Flow) is_quoted back (with_message ipv6 new message packet) message_too
    → (with_message ipv6 back message_too (with_message ipv6 new message packet) ≡ packet)
    ↔ ((new_addresses ipv6 back (with_message ipv6 new message packet) ≡ addresses_of ipv6 packet)
    × (IsHeaderRestored ipv6 packet × (message_too ≡ message_in ipv6 is_quoted packet)))
replaced_twice is_quoted new back packet message message_too fits change change_too =
    let start : ℕ = ipv6_start packet in
    let after : 40 ≤ start = ipv6_after packet in
    let old : AddressPair = addresses_of ipv6 packet in
    let found : IsChanged ipv6 is_quoted new packet message = changed is_quoted new packet message change in
    let middle : List ℕ = with_message ipv6 new message packet in
    let addresses : AddressPair = new_addresses ipv6 back middle in
    let same : length message_too ≡ length message = change_too.same ∙ ap length found.message_is in
    let result_is : addresses ≡ old → with_message ipv6 back message_too middle ≡ put start message_too packet = λ is.
    translated_is is_quoted back middle message_too change_too
    ∙ ap (λ start. put 24 addresses.destination (put 8 addresses.source (put start message_too middle)))
    (start_is is_quoted new packet message change)
    ∙ ap (λ bytes. put 24 addresses.destination (put 8 addresses.source (put start message_too bytes)))
    (translated_is is_quoted new packet message change)
    ∙ replaced_again 8 24 start 16 (omega arith) (omega (arith, after)) _ _ message
    addresses.source addresses.destination message_too packet change.addresses.source change.addresses.destination
    change_too.addresses.source change_too.addresses.destination same
    ∙ ap (λ pair. put 24 pair.destination (put 8 pair.source (put start message_too packet))) is
    ∙ replaced_same 8 24 start 16 (omega arith) (omega (arith, after)) message_too packet change.flow.there in
    let iff = restored_iff packet message_too change.flow (same ∙ change.same) in (
      λ restored.
          let is : addresses ≡ old =
          sym (changed is_quoted back middle message_too change_too).addresses ∙ ap (addresses_of ipv6) restored in
          (is, (tt, iff.0 (sym (result_is is) ∙ restored))),
      λ both. result_is both.0 ∙ iff.1 both.1.1,
    )

pub ipv6_laws : Laws ipv6
ipv6_laws = record {
  IsFlow = λ is_quoted. IsIpv6Flow;
  found = λ is_quoted. ipv6_flow_of;
  addresses_there = λ is_quoted packet flow. ipv6_addresses_there packet (omega (arith, flow.there, ipv6_after packet));
  changed = changed;
  still_flow = still_flow;
  still_accepted = λ is_quoted has_port new packet message change. still_accepted is_quoted new packet message change has_port;
  replaced_twice = replaced_twice;
}
