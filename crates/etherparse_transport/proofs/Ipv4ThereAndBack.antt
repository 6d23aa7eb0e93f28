-- The law of IPv4 packets that are translated there and back.
use Rattle.std.proofs.Common.{◌≡◌, ◌≢◌, ℕ, ◌+◌, ◌-◌, ◌*◌, ◌%◌, ◌^◌, ◌<◌, ◌≤◌, ◌==◌, ◌&&◌, ◌||◌, not, Bool, false, if◌then◌else◌, List, [], ◌∷◌, take, drop, slice_index, slice_range, length, Option, Some, None, refl, sym, ap, ◌∙◌, subst, arith}
use Rattle.std.specs.Prelude.{◌↔◌, is_none}
use Rattle.std.specs.Int.{to_be_bytes, w16}
use Rattle.std.proofs.lemmas.List.{length-drop, length-take}
use Rattle.ip_part.specs.Addresses.{Ipv4}
use Rattle.ip_part.specs.Ip.{counted_len, lacks_len}
use Rattle.ip_part.specs.Ip as ip
use Rattle.ip_part.specs.Protocols.{proto_over}
use Rattle.ip_part.specs.declared.proto.Proto.{Proto}
use Rattle.net_base.specs.Bytes.{IsBytes}
use Rattle.net_base.specs.IpHeaders.{ipv4_header_len, version}
use Rattle.net_base.specs.Refusals.{first_of, refused_if}
use Rattle.ip_part.specs.declared.ip_error.IpError.{IpError}
use Rattle.etherparse_transport.specs.declared.err.packet.translate_error.TranslateError.{TranslateError}
use Rattle.std.specs.Option.{option_map}
use Rattle.etherparse_transport.specs.declared.err.packet.translate_error.TranslateError.TheVariants.{Ip, OtherVersion, Protocol, SourceRoute}
use Rattle.word_sum.specs.UpdatedChecksum.{updated_checksum_of}
use Rattle.word_sum.proofs.ChecksumLemmas.{folded-lt}
use Rattle.word_sum.proofs.ChecksumChangeLemmas.{updated_reversed_iff}
use Rattle.etherparse_transport.specs.Families.{AddressPair, Translation, addresses_of, message_in, new_addresses, sum_of, with_message}
use Rattle.etherparse_transport.specs.Ipv4Translations.{covers_ipv4_addresses, has_source_route, ipv4, ipv4_place_refusal, ipv4_proto}
use Rattle.etherparse_transport.specs.Translations.{number, with_bytes, with_number}
use Rattle.etherparse_transport.proofs.TranslationLemmas.{message_is_range}
use Rattle.etherparse_transport.proofs.TranslationReading.{IsIpv4Flow, IsIpv4Kept, header_len_kept, ipv4_counted_len_is, ipv4_flow_kept, ipv4_flow_of, ipv4_protocol_accepted, ipv4_lacks_len_is, ipv4_parts_destination, ipv4_parts_kept, ipv4_parts_message, ipv4_parts_source, ipv4_within, message_kept, number_len, range_at, range_before, total_len_kept}
use Rattle.etherparse_transport.proofs.TranslationSums.{ipv4_addresses_there}
use Rattle.etherparse_transport.proofs.ReplacedBytes.{number_again, number_here, number_put, number_same, number_small, put, put_apart, put_len, put_same, put_there, replaced_again, replaced_number, replaced_same}
use Rattle.etherparse_transport.proofs.PacketsThereAndBack.{IsChange, IsChanged, Laws}
use Rattle.etherparse_transport.proofs.ThereAndBack.{updated_small}

-- ---- a translated packet

module _ (is_quoted : Bool) (new : Translation) (packet message : List ℕ)
    (change : IsChange ipv4 IsIpv4Flow is_quoted new packet message) where
  abbrev start : ℕ
  start = ipv4_header_len packet

  abbrev source : List ℕ
  source = (new_addresses ipv4 new packet).source

  abbrev destination : List ℕ
  destination = (new_addresses ipv4 new packet).destination

  abbrev translated : List ℕ
  translated = with_message ipv4 new message packet

  abbrev between : List ℕ
  between = with_bytes start message packet

  five : 20 ≤ start
  five = change.flow.five_words

  four : length source ≡ 4
  four = change.addresses.source

  four_too : length destination ≡ 4
  four_too = change.addresses.destination

  there : start + length message ≤ length packet
  there =
      let n : ℕ = counted_len (is_quoted || lacks_len packet) packet in
      omega (arith, change.same, change.flow.there, length-drop start (take n packet), length-take n packet)

  between_is : between ≡ put start message packet
  between_is = sym (put_there start message packet there)

  abbrev sum : ℕ
  sum = updated_checksum_of (number 10 between) (sum_of (addresses_of ipv4 between)) (sum_of (new_addresses ipv4 new packet))

  sum_is : sum ≡ updated_checksum_of (number 10 packet) (sum_of (addresses_of ipv4 packet)) (sum_of (new_addresses ipv4 new packet))
  sum_is =
      let added : ℕ = sum_of (new_addresses ipv4 new packet) in
      let by : ℕ → List ℕ → List ℕ → ℕ = λ n source destination.
      updated_checksum_of n (sum_of (record { source = source; destination = destination })) added in
      ap (λ n. by n (slice_range between 12 16) (slice_range between 16 20))
      (ap (number 10) between_is ∙ number_put start message 10 packet (omega (arith, five)))
      ∙ ap (λ source. by (number 10 packet) source (slice_range between 16 20))
      (range_before start message packet there 12 4 (omega (arith, five)))
      ∙ ap (by (number 10 packet) (slice_range packet 12 16)) (range_before start message packet there 16 4 (omega (arith, five)))

  translated_is : translated ≡ with_number 10 sum (put 16 destination (put 12 source (put start message packet)))
  translated_is =
      let first : List ℕ = put start message packet in
      let first_len : length first ≡ length packet = put_len start message packet in
      let second : List ℕ = with_number 10 sum first in
      let second_len : length second ≡ length packet = number_len 10 sum first ∙ first_len in
      let third : List ℕ = put 12 source second in
      let third_len : length third ≡ length packet = put_len 12 source second ∙ second_len in
      let room : 20 ≤ length packet = omega (arith, five, change.flow.there) in
      ap (λ bytes. with_bytes 16 destination (with_bytes 12 source (with_bytes 10 (to_be_bytes w16 sum) bytes))) between_is
      ∙ ap (λ bytes. with_bytes 16 destination (with_bytes 12 source bytes))
      (sym (put_there 10 (to_be_bytes w16 sum) first (omega (arith, first_len, room))))
      ∙ ap (with_bytes 16 destination) (sym (put_there 12 source second (omega (arith, second_len, room, four))))
      ∙ sym (put_there 16 destination third (omega (arith, third_len, room, four_too)))
      ∙ ap (put 16 destination) (sym (put_apart 10 12 (to_be_bytes w16 sum) source first (omega arith)))
      ∙ sym (put_apart 10 16 (to_be_bytes w16 sum) destination (put 12 source first) (omega arith))

  kept : IsIpv4Kept packet translated
  kept = ipv4_parts_kept start (to_be_bytes w16 sum) source destination message packet five refl four four_too there refl

  still_flow : IsIpv4Flow is_quoted translated
  still_flow = ipv4_flow_kept is_quoted packet translated kept change.flow

  start_is : ipv4_header_len translated ≡ start
  start_is = header_len_kept packet translated kept

  message_is : message_in ipv4 is_quoted translated ≡ message
  message_is =
      let total_len : ip.total_len translated ≡ ip.total_len packet = total_len_kept packet translated kept five in
      let missing : Bool = is_quoted || lacks_len packet in
      let lacks : lacks_len translated ≡ lacks_len packet =
      ipv4_lacks_len_is translated still_flow.is_ipv4 ∙ ap (λ n. is_none (if n == 0 then None else Some n)) total_len
      ∙ sym (ipv4_lacks_len_is packet change.flow.is_ipv4) in
      let counts : counted_len missing translated ≡ counted_len missing packet =
      ipv4_counted_len_is missing translated still_flow.is_ipv4
      ∙ ap (λ n. if missing then n else ip.total_len translated) kept.front.len ∙ ap (λ n. if missing then length packet else n) total_len
      ∙ sym (ipv4_counted_len_is missing packet change.flow.is_ipv4) in
      ap (λ len. drop len (take (counted_len (is_quoted || lacks_len translated) translated) translated)) start_is
      ∙ ap (λ lacks. drop start (take (counted_len (is_quoted || lacks) translated) translated)) lacks
      ∙ ap (λ n. drop start (take n translated)) counts
      ∙ message_kept start (counted_len missing packet) packet translated message
      (ipv4_parts_message start (to_be_bytes w16 sum) source destination message packet five refl four four_too there)
      change.same (ipv4_within is_quoted packet change.flow) change.flow.there

  changed : IsChanged ipv4 is_quoted new packet message
  changed =
      record {
        len = kept.front.len;
        addresses = ap {B = AddressPair} (λ source. record { source = source; destination = slice_range translated 16 20 })
            (ipv4_parts_source start (to_be_bytes w16 sum) source destination message packet five refl four four_too there)
            ∙ ap {B = AddressPair} (λ destination. record { source = source; destination = destination })
            (ipv4_parts_destination start (to_be_bytes w16 sum) source destination message packet five refl four four_too there);
        message_is = message_is;
        proto = ap (proto_over (Ipv4 [] [])) (kept.front.front 9 (omega arith));
        later = ap (λ high. not (((0 * 256 + high) * 256 + slice_index translated 7) % 2 ^ 13 == 0)) (kept.front.front 6 (omega arith))
            ∙ ap (λ low. not (((0 * 256 + slice_index packet 6) * 256 + low) % 2 ^ 13 == 0)) (kept.front.front 7 (omega arith));
      }

  checksum_is : number 10 translated ≡ sum
  checksum_is =
      let rest : List ℕ = put 16 destination (put 12 source (put start message packet)) in
      let rest_len : length rest ≡ length packet =
      put_len 16 destination (put 12 source (put start message packet)) ∙ put_len 12 source (put start message packet)
      ∙ put_len start message packet in
      ap (number 10) translated_is
      ∙ number_here 10 sum rest (omega (arith, rest_len, five, change.flow.there))
      (updated_small (number 10 between) (sum_of (addresses_of ipv4 between)) (sum_of (new_addresses ipv4 new packet)))

  still_accepted : (has_port : Bool) → ipv4_place_refusal is_quoted has_port packet ≡ None
      → ipv4_place_refusal is_quoted has_port translated ≡ None
  still_accepted has_port accepted =
      let by : Option IpError → ℕ → Bool → Option Proto → ℕ → Option TranslateError = λ refusal v has_route proto number. first_of (
      option_map Ip refusal ∷ refused_if (not (v == 4)) OtherVersion ∷ refused_if has_route SourceRoute
      ∷ refused_if (is_none proto && (has_port || covers_ipv4_addresses number)) (Protocol (record { 0 = number })) ∷ []) in
      let number : ℕ = slice_index translated 9 in
      ap (λ refusal. by refusal (version translated) (has_source_route translated) (ipv4_proto translated) number) still_flow.accepted
      ∙ ap (λ v. by None v (has_source_route translated) (ipv4_proto translated) number) still_flow.is_ipv4
      ∙ ap (λ has_route. by None 4 has_route (ipv4_proto translated) number) still_flow.no_route
      ∙ ap (λ proto. by None 4 false proto number) changed.proto
      ∙ ap (by None 4 false (ipv4_proto packet)) (kept.front.front 9 (omega arith))
      ∙ ap (λ refused. first_of (refused_if refused (Protocol (record { 0 = slice_index packet 9 })) ∷ []))
      (ipv4_protocol_accepted is_quoted has_port packet accepted)

-- ---- the packet that comes back

-- the message of a packet is where it was
message_there : (is_quoted : Bool) (packet : List ℕ) → IsIpv4Flow is_quoted packet
    → take (length (message_in ipv4 is_quoted packet)) (drop (ipv4_header_len packet) packet) ≡ message_in ipv4 is_quoted packet
message_there is_quoted packet flow =
    let len : ℕ = ipv4_header_len packet in
    let message : List ℕ = message_in ipv4 is_quoted packet in
    let count : len + length message - len ≡ length message = omega arith in
    sym (ap (λ n. take n (drop len packet)) count)
    ∙ message_is_range len (counted_len (is_quoted || lacks_len packet) packet) packet (ipv4_within is_quoted packet flow)

-- the packet with this checksum and this message
restored_iff : (is_quoted : Bool) (packet message : List ℕ) (checksum : ℕ) → IsIpv4Flow is_quoted packet
    → IsBytes packet → checksum < 65536
    → length message ≡ length (message_in ipv4 is_quoted packet) → (checksum ≡ number 10 packet) ↔ (number 10 packet ≢ 65535)
    → (with_number 10 checksum (put (ipv4_header_len packet) message packet) ≡ packet)
    ↔ ((number 10 packet ≢ 65535) × (message ≡ message_in ipv4 is_quoted packet))
restored_iff is_quoted packet message checksum flow fits small same iff =
    let start : ℕ = ipv4_header_len packet in
    let old : List ℕ = message_in ipv4 is_quoted packet in
    let n : ℕ = counted_len (is_quoted || lacks_len packet) packet in
    let there : start + length message ≤ length packet =
    omega (arith, same, flow.there, length-drop start (take n packet), length-take n packet) in
    let between : List ℕ = put start message packet in
    let room : 12 ≤ length between = omega (arith, put_len start message packet, flow.five_words, flow.there) in
    let other : List ℕ = with_number 10 checksum packet in
    let other_len : length other ≡ length packet = number_len 10 checksum packet in
    let there_too : start + length message ≤ length other = omega (arith, there, other_len) in
    let apart : with_number 10 checksum between ≡ with_bytes start message other =
    put_apart 10 start (to_be_bytes w16 checksum) message packet (omega (arith, flow.five_words))
    ∙ put_there start message other there_too in (
      λ is. (
        iff.0 (sym (number_here 10 checksum between room small) ∙ ap (number 10) is),
        sym (range_at start message other there_too) ∙ ap (λ bytes. take (length message) (drop start bytes)) (sym apart ∙ is)
            ∙ ap (λ n. take n (drop start packet)) same ∙ message_there is_quoted packet flow,
      ),
      λ both.
          ap (λ message. with_number 10 checksum (put start message packet)) (both.1 ∙ sym (message_there is_quoted packet flow))
          ∙ ap (with_number 10 checksum) (put_same start (length old) packet (omega (arith, same, there)))
          ∙ ap (λ checksum. with_number 10 checksum packet) (iff.1 both.0) ∙ number_same 10 packet fits,
    )

-- A packet with another message and other addresses, and then with a message and addresses that may be the old ones.
replaced_twice : (is_quoted : Bool) (new back : Translation) (packet message message_too : List ℕ) → IsBytes packet
    → IsChange ipv4 IsIpv4Flow is_quoted new packet message
    → IsChange ipv4 IsIpv4Flow is_quoted back (with_message ipv4 new message packet) message_too
    → (with_message ipv4 back message_too (with_message ipv4 new message packet) ≡ packet)
    ↔ ((new_addresses ipv4 back (with_message ipv4 new message packet) ≡ addresses_of ipv4 packet)
    × ((number 10 packet ≢ 65535) × (message_too ≡ message_in ipv4 is_quoted packet)))
replaced_twice is_quoted new back packet message message_too fits change change_too =
    let start : ℕ = ipv4_header_len packet in
    let five : 20 ≤ start = change.flow.five_words in
    let old : AddressPair = addresses_of ipv4 packet in
    let found : IsChanged ipv4 is_quoted new packet message = changed is_quoted new packet message change in
    let middle : List ℕ = with_message ipv4 new message packet in
    let first_addresses : AddressPair = new_addresses ipv4 new packet in
    let addresses : AddressPair = new_addresses ipv4 back middle in
    let first : ℕ = sum is_quoted new packet message change in
    let second : ℕ = sum is_quoted back middle message_too change_too in
    let removed : ℕ = sum_of old in
    let added : ℕ = sum_of first_addresses in
    let result : List ℕ = with_message ipv4 back message_too middle in
    let same : length message_too ≡ length message = change_too.same ∙ ap length found.message_is in
    let once : List ℕ = put 16 first_addresses.destination (put 12 first_addresses.source (put start message packet)) in
    let twice : List ℕ = put 16 addresses.destination (put 12 addresses.source (put start message_too once)) in
    let small : second < 65536 = updated_small _ _ _ in
    let second_is : addresses ≡ old → second ≡ updated_checksum_of first added removed = λ is.
    sum_is is_quoted back middle message_too change_too
    ∙ ap (λ n. updated_checksum_of n (sum_of (addresses_of ipv4 middle)) (sum_of addresses))
    (checksum_is is_quoted new packet message change)
    ∙ ap (λ pair. updated_checksum_of first (sum_of pair) (sum_of addresses)) found.addresses
    ∙ ap (λ pair. updated_checksum_of first added (sum_of pair)) is in
    let result_is : addresses ≡ old → result ≡ with_number 10 second (put start message_too packet) = λ is.
    translated_is is_quoted back middle message_too change_too
    ∙ ap (λ start. with_number 10 second (put 16 addresses.destination (put 12 addresses.source (put start message_too middle))))
    (start_is is_quoted new packet message change)
    ∙ ap (λ bytes. with_number 10 second (put 16 addresses.destination (put 12 addresses.source (put start message_too bytes))))
    (translated_is is_quoted new packet message change)
    ∙ ap (with_number 10 second) (sym (replaced_number 12 16 start 4 (omega arith) (omega (arith, five)) 10 first
    addresses.source addresses.destination message_too once (omega arith)))
    ∙ number_again 10 first second twice
    ∙ ap (with_number 10 second) (replaced_again 12 16 start 4 (omega arith) (omega (arith, five)) _ _ message
    addresses.source addresses.destination message_too packet change.addresses.source change.addresses.destination
    change_too.addresses.source change_too.addresses.destination same)
    ∙ ap (λ pair. with_number 10 second (put 16 pair.destination (put 12 pair.source (put start message_too packet)))) is
    ∙ ap (with_number 10 second) (replaced_same 12 16 start 4 (omega arith) (omega (arith, five)) message_too packet change.flow.there) in
    let iff : addresses ≡ old → (with_number 10 second (put start message_too packet) ≡ packet)
    ↔ ((number 10 packet ≢ 65535) × (message_too ≡ message_in ipv4 is_quoted packet)) = λ is.
    restored_iff is_quoted packet message_too second change.flow fits small (same ∙ change.same)
    (subst (λ n. (n ≡ number 10 packet) ↔ (number 10 packet ≢ 65535)) (sym (second_is is))
    (updated_reversed_iff (number 10 packet) removed added first (number_small 10 packet fits) (folded-lt _) (folded-lt _)
    (sum_is is_quoted new packet message change))) in (
      λ restored.
          let is : addresses ≡ old =
          sym (changed is_quoted back middle message_too change_too).addresses ∙ ap (addresses_of ipv4) restored in
          (is, (iff is).0 (sym (result_is is) ∙ restored)),
      λ both. result_is both.0 ∙ (iff both.0).1 both.1,
    )

pub ipv4_laws : Laws ipv4
ipv4_laws = record {
  IsFlow = IsIpv4Flow;
  found = ipv4_flow_of;
  addresses_there = λ is_quoted packet flow. ipv4_addresses_there packet (omega (arith, flow.five_words, flow.there));
  changed = changed;
  still_flow = still_flow;
  still_accepted = λ is_quoted has_port new packet message change. still_accepted is_quoted new packet message change has_port;
  replaced_twice = replaced_twice;
}
