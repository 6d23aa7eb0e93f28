-- Laws of messages that are translated there and back.
use Rattle.std.proofs.Common.{◌≡◌, ◌≢◌, ℕ, ◌+◌, ◌-◌, ◌%◌, ◌<◌, ◌≤◌, ◌==◌, ◌&&◌, ◌||◌, nat_le, Bool, true, false, if◌then◌else◌, List, slice_index, length, Option, Some, None, inl, refl, sym, ap, ◌∙◌, subst, arith}
use Rattle.std.specs.Prelude.{◌↔◌, IfSome, ⊤, unwrap_or}
use Rattle.std.proofs.Math.Logic.{⊎_elim}
use Rattle.std.proofs.lemmas.Bool.Decides.{nat_tests}
use Rattle.net_base.specs.Bytes.{IsBytes}
use Rattle.word_sum.specs.Checksum.{complement, folded, total, zero_as_all_ones}
use Rattle.word_sum.specs.UpdatedChecksum.{updated_checksum_of, updated_udp_checksum_of}
use Rattle.word_sum.proofs.ChecksumLemmas.{folded-lt}
use Rattle.word_sum.proofs.ChecksumChangeLemmas.{folded-remainder, udp_checksum_of-remainder, updated_reversed_iff, updated_udp_reversed}
use Rattle.etherparse_transport.specs.Translations.{added_ports, and_word, is_query, is_reply, is_request, new_identifier, number, port_or, removed_ports, rest_of_message, translated_in, translated_message, translated_query, translated_tcp, translated_udp, updated_query_checksum, with_identifier, with_number, with_ports, with_updated_checksum}
use Rattle.etherparse_transport.specs.WaysBack.{IsChecksumRestored, IsChecksumRestoredIn, instead, lost_checksum, place_in, port_in}
use Rattle.ip_part.specs.declared.proto.Proto.{Proto}
use Rattle.ip_part.specs.declared.proto.Proto.TheVariants as protos
use Rattle.etherparse_transport.proofs.TranslationReading.{number_len, ports_len}
use Rattle.etherparse_transport.proofs.EchoReplyLemmas.{is_number}
use Rattle.etherparse_transport.proofs.TranslationSums.{first_counts, folded_some, icmpv6_type, number_after, number_before, other_by, stored_number_total}
use Rattle.etherparse_transport.proofs.ReplacedBytes.{checksum_back, iff_along, number_again, number_apart, number_here, number_missing, number_same, number_small}

-- ---- the ports

-- the port of a message comes back if it is put back
port_back : (new : Option ℕ) (place : ℕ) (message changed : List ℕ) → IsBytes message
    → (number place changed ≡ number place (with_number place (port_or new place message) message))
    → port_or (instead (number place message) new) place changed ≡ number place message
port_back None place message changed fits is = is ∙ ap (number place) (number_same place message fits)
port_back (Some port) place message changed fits is = refl

port_small : (new : Option ℕ) (place : ℕ) (message : List ℕ) → IsBytes message → IfSome new (λ port. port < 65536)
    → port_or new place message < 65536
port_small None place message fits small = number_small place message fits
port_small (Some port) place message fits small = small

-- if three numbers are replaced, and then the first two are put back, only the third is new
pub three_back : (first second third value value_too sum sum_too : ℕ) (bytes : List ℕ) → IsBytes bytes → first + 2 ≤ second
    → second + 2 ≤ third
    → with_number third sum_too (with_number second (number second bytes) (with_number first (number first bytes)
    (with_number third sum (with_number second value_too (with_number first value bytes)))))
    ≡ with_number third sum_too bytes
three_back first second third value value_too sum sum_too bytes fits apart apart_too =
    let old : ℕ = number first bytes in
    let old_too : ℕ = number second bytes in
    let one : with_number first old (with_number third sum (with_number second value_too (with_number first value bytes)))
    ≡ with_number third sum (with_number second value_too bytes) =
    number_apart first third old sum (with_number second value_too (with_number first value bytes)) (omega (arith, apart, apart_too))
    ∙ ap (with_number third sum) (number_apart first second old value_too (with_number first value bytes) apart
    ∙ ap (with_number second value_too) (number_again first value old bytes ∙ number_same first bytes fits)) in
    ap (λ bytes. with_number third sum_too (with_number second old_too bytes)) one
    ∙ ap (with_number third sum_too) (number_apart second third old_too sum (with_number second value_too bytes) apart_too
    ∙ ap (with_number third sum) (number_again second value_too old_too bytes ∙ number_same second bytes fits))
    ∙ number_again third sum sum_too bytes

-- ---- UDP and TCP

-- a message with new ports and an updated checksum, and the message that comes back
module _ (place sum old new : ℕ) (source destination : Option ℕ) (message : List ℕ) (fits : IsBytes message)
    (small : IfSome source (λ port. port < 65536)) (small_too : IfSome destination (λ port. port < 65536)) (apart : 4 ≤ place) where
  abbrev new_source : ℕ
  new_source = port_or source 0 message

  abbrev new_destination : ℕ
  new_destination = port_or destination 2 message

  abbrev pub source_back : Option ℕ
  source_back = instead (number 0 message) source

  abbrev pub destination_back : Option ℕ
  destination_back = instead (number 2 message) destination

  abbrev pub with_new_ports : List ℕ
  with_new_ports = with_number place sum (with_ports source destination message)

  source_there : number 0 with_new_ports ≡ number 0 (with_number 0 new_source message)
  source_there =
      number_before place sum 0 (with_ports source destination message) (omega (arith, apart))
      ∙ number_before 2 new_destination 0 (with_number 0 new_source message) (omega arith)

  destination_there : number 2 with_new_ports ≡ number 2 (with_number 2 new_destination message)
  destination_there =
      number_before place sum 2 (with_ports source destination message) (omega (arith, apart))
      ∙ sym (ap (number 2) (number_apart 0 2 new_source new_destination message (omega arith)))
      ∙ number_after 0 new_source 2 (with_number 2 new_destination message) (omega arith)

  source_is : port_or source_back 0 with_new_ports ≡ number 0 message
  source_is = port_back source 0 message with_new_ports fits source_there

  destination_is : port_or destination_back 2 with_new_ports ≡ number 2 message
  destination_is = port_back destination 2 message with_new_ports fits destination_there

  pub ports_restored : (sum_too : ℕ) → with_number place sum_too (with_ports source_back destination_back with_new_ports)
      ≡ with_number place sum_too message
  ports_restored sum_too =
      ap (λ port. with_number place sum_too (with_number 2 (port_or destination_back 2 with_new_ports) (with_number 0 port with_new_ports)))
      source_is
      ∙ ap (λ port. with_number place sum_too (with_number 2 port (with_number 0 (number 0 message) with_new_ports))) destination_is
      ∙ three_back 0 2 place new_source new_destination sum sum_too message fits (omega arith) (omega (arith, apart))

  pub removed_back : place + 2 ≤ length message → removed_ports new with_new_ports ≡ added_ports new source destination message
  removed_back room =
      ap (λ port. and_word (and_word new port) (number 2 with_new_ports))
      (source_there ∙ number_here 0 new_source message (omega (arith, apart, room)) (port_small source 0 message fits small))
      ∙ ap (λ port. and_word (and_word new new_source) port)
      (destination_there ∙ number_here 2 new_destination message (omega (arith, apart, room))
      (port_small destination 2 message fits small_too))

  pub added_back : added_ports old source_back destination_back with_new_ports ≡ removed_ports old message
  added_back =
      ap (λ port. and_word (and_word old port) (port_or destination_back 2 with_new_ports)) source_is
      ∙ ap (λ port. and_word (and_word old (number 0 message)) port) destination_is

  pub checksum_there : place + 2 ≤ length message → sum < 65536 → number place with_new_ports ≡ sum
  checksum_there room sum_small =
      number_here place sum (with_ports source destination message) (omega (arith, room, ports_len source destination message)) sum_small

pub updated_small : (checksum removed added : ℕ) → updated_checksum_of checksum removed added < 65536
updated_small checksum removed added = omega arith

updated_udp_small : (checksum removed added : ℕ) → updated_udp_checksum_of checksum removed added < 65536
updated_udp_small checksum removed added = grind (arith, nat_tests)

tcp_back : (old new : ℕ) (source destination : Option ℕ) (segment : List ℕ) → IsBytes segment
    → IfSome source (λ port. port < 65536) → IfSome destination (λ port. port < 65536)
    → (translated_tcp new old (instead (number 0 segment) source) (instead (number 2 segment) destination)
    (translated_tcp old new source destination segment)
    ≡ segment) ↔ (number 16 segment ≢ 65535)
tcp_back old new source destination segment fits small small_too =
    let removed : ℕ = removed_ports old segment in
    let added : ℕ = added_ports new source destination segment in
    let sum : ℕ = updated_checksum_of (number 16 segment) removed added in
    let back : List ℕ = with_new_ports 16 sum old new source destination segment fits small small_too (omega arith) in
    let source_too : Option ℕ = instead (number 0 segment) source in
    let destination_too : Option ℕ = instead (number 2 segment) destination in
    let sum_too : ℕ = updated_checksum_of (number 16 back) (removed_ports new back) (added_ports old source_too destination_too back) in
    iff_along _ (with_number 16 sum_too segment) segment
    (ports_restored 16 sum old new source destination segment fits small small_too (omega arith) sum_too)
    (checksum_back 16 sum_too segment fits (updated_small (number 16 back) (removed_ports new back)
    (added_ports old source_too destination_too back))
    (λ room. iff_along sum_too (updated_checksum_of sum added removed) (number 16 segment)
    (ap (λ n. updated_checksum_of n (removed_ports new back) (added_ports old source_too destination_too back))
    (checksum_there 16 sum old new source destination segment fits small small_too (omega arith) room
    (updated_small (number 16 segment) removed added))
    ∙ ap (λ n. updated_checksum_of sum n (added_ports old source_too destination_too back))
    (removed_back 16 sum old new source destination segment fits small small_too (omega arith) room)
    ∙ ap (updated_checksum_of sum added) (added_back 16 sum old new source destination segment fits small small_too (omega arith)))
    (updated_reversed_iff (number 16 segment) removed added sum (number_small 16 segment fits) (folded-lt _) (folded-lt _) refl))
    (λ short ones. omega (arith, ones, number_missing 16 segment short)))

udp_back : (old new : ℕ) (source destination : Option ℕ) (packet : List ℕ) → IsBytes packet
    → IfSome source (λ port. port < 65536) → IfSome destination (λ port. port < 65536)
    → translated_udp new old (instead (number 0 packet) source) (instead (number 2 packet) destination)
    (translated_udp old new source destination packet)
    ≡ packet
udp_back old new source destination packet fits small small_too =
    let removed : ℕ = removed_ports old packet in
    let added : ℕ = added_ports new source destination packet in
    let sum : ℕ = updated_udp_checksum_of (number 6 packet) removed added in
    let back : List ℕ = with_new_ports 6 sum old new source destination packet fits small small_too (omega arith) in
    let source_too : Option ℕ = instead (number 0 packet) source in
    let destination_too : Option ℕ = instead (number 2 packet) destination in
    let sum_too : ℕ = updated_udp_checksum_of (number 6 back) (removed_ports new back) (added_ports old source_too destination_too back) in
    ports_restored 6 sum old new source destination packet fits small small_too (omega arith) sum_too
    ∙ (checksum_back {P = ⊤} 6 sum_too packet fits
    (updated_udp_small (number 6 back) (removed_ports new back) (added_ports old source_too destination_too back))
    (λ room. (
      λ same. tt,
      λ true.
          ap (λ n. updated_udp_checksum_of n (removed_ports new back) (added_ports old source_too destination_too back))
          (checksum_there 6 sum old new source destination packet fits small small_too (omega arith) room
          (updated_udp_small (number 6 packet) removed added))
          ∙ ap (λ n. updated_udp_checksum_of sum n (added_ports old source_too destination_too back))
          (removed_back 6 sum old new source destination packet fits small small_too (omega arith) room)
          ∙ ap (updated_udp_checksum_of sum added) (added_back 6 sum old new source destination packet fits small small_too (omega arith))
          ∙ updated_udp_reversed (number 6 packet) removed added sum (number_small 6 packet fits) (folded-lt _) (folded-lt _) refl,
    ))
    (λ short. tt)).1 tt

-- ---- ICMP

-- the checksum that is stored for a query, which depends on whether its other bytes are all 0
abbrev stored_by : Bool → ℕ → ℕ
stored_by is_zero checksum = if is_zero then zero_as_all_ones checksum else checksum

stored_small : (is_zero : Bool) (checksum removed added : ℕ) → stored_by is_zero (updated_checksum_of checksum removed added) < 65536
stored_small false checksum removed added = updated_small checksum removed added
stored_small true checksum removed added = grind (arith, nat_tests)

-- the checksum that is stored for a query, modulo 65535
stored_remainder : (is_zero : Bool) (checksum removed added : ℕ)
    → stored_by is_zero (updated_checksum_of checksum removed added) % 65535
    ≡ (65535 - (complement checksum + complement removed + added) % 65535) % 65535
stored_remainder true checksum removed added =
    ap (λ n. n % 65535) (udp_checksum_of-remainder (complement checksum + complement removed + added))
stored_remainder false checksum removed added =
    let sum : ℕ = complement checksum + complement removed + added in
    omega (arith, folded-remainder sum, folded-lt sum)

-- The checksum that is stored on the way back. If the old message is all zeros except its checksum, checksum 0 is lost, otherwise all ones
-- is lost.
query_reversed : (is_zero is_zero_back : Bool) (checksum removed added result : ℕ) → checksum < 65536 → removed < 65536 → added < 65536
    → (is_zero ≡ true → added ≡ 0) → result ≡ stored_by is_zero (updated_checksum_of checksum removed added)
    → (stored_by is_zero_back (updated_checksum_of result added removed) ≡ checksum) ↔ (checksum ≢ (if is_zero_back then 0 else 65535))
query_reversed false false checksum removed added result small small_too small_three zero equation =
    updated_reversed_iff checksum removed added result small small_too small_three equation
query_reversed true false checksum removed added result small small_too small_three zero equation =
    let nothing : added ≡ 0 = zero refl in
    let stored : result ≡ 65535 - (complement checksum + complement removed + added) % 65535 =
    equation ∙ udp_checksum_of-remainder (complement checksum + complement removed + added) in
    let sum : ℕ = complement result + complement added + removed in
    let remainder = folded-remainder sum in
    let fits = folded-lt sum in
    let some : folded sum ≢ 0 = folded_some sum (λ none. omega (arith, none, nothing)) in (
      λ same ones. omega (arith, stored, remainder, fits, some, same, ones, nothing),
      λ other.
          omega (arith, stored, remainder, fits, some, other, nothing, small, small_too),
    )
query_reversed is_zero true checksum removed added result small small_too small_three zero equation =
    let stored : result % 65535 ≡ (65535 - (complement checksum + complement removed + added) % 65535) % 65535 =
    ap (λ n. n % 65535) equation ∙ stored_remainder is_zero checksum removed added in
    let fits : result < 65536 = omega (arith, equation, stored_small is_zero checksum removed added) in
    let back = udp_checksum_of-remainder (complement result + complement added + removed) in
    (λ same none. omega (arith, back, same, none), λ some. back ∙ omega (arith, stored, some, fits, small, small_too, small_three))

-- if two numbers are replaced, and then the second is put back, only the first is new
two_back : (first second value sum sum_too : ℕ) (bytes : List ℕ) → IsBytes bytes → first + 2 ≤ second
    → with_number first sum_too (with_number second (number second bytes) (with_number first sum (with_number second value bytes)))
    ≡ with_number first sum_too bytes
two_back first second value sum sum_too bytes fits apart =
    ap (with_number first sum_too) (sym (number_apart first second sum (number second bytes) (with_number second value bytes) apart)
    ∙ ap (with_number first sum) (number_again second value (number second bytes) bytes ∙ number_same second bytes fits))
    ∙ number_again first sum sum_too bytes

-- a byte before two replaced numbers does not change
pub before_both : (sum value k : ℕ) (bytes : List ℕ) → k < 2
    → slice_index (with_number 2 sum (with_number 4 value bytes)) k ≡ slice_index bytes k
before_both sum value k bytes before =
    let between : List ℕ = with_number 4 value bytes in
    other_by (nat_le 4 (length between)) 2 sum k between refl (inl before)
    ∙ other_by (nat_le 6 (length bytes)) 4 value k bytes refl (inl (omega (arith, before)))

-- a query stays a query of its type
query_kept : (proto : Proto) (sum value : ℕ) (message : List ℕ)
    → is_query proto (with_number 2 sum (with_number 4 value message)) ≡ is_query proto message
query_kept proto sum value message =
    let changed : List ℕ = with_number 2 sum (with_number 4 value message) in
    let by : ℕ → ℕ → Bool = λ len type. nat_le 6 len && (is_request proto type || is_reply proto type) in
    ap (λ len. by len (slice_index changed 0)) (number_len 2 sum (with_number 4 value message) ∙ number_len 4 value message)
    ∙ ap (by (length message)) (before_both sum value 0 message (omega arith))

query_kept_by_sum : (proto : Proto) (sum : ℕ) (message : List ℕ) → is_query proto (with_number 2 sum message) ≡ is_query proto message
query_kept_by_sum proto sum message =
    let changed : List ℕ = with_number 2 sum message in
    let there : Bool = nat_le 4 (length message) in
    let by : ℕ → ℕ → Bool = λ len type. nat_le 6 len && (is_request proto type || is_reply proto type) in
    ap (λ len. by len (slice_index changed 0)) (number_len 2 sum message)
    ∙ ap (by (length message)) (other_by there 2 sum 0 message refl (inl (omega arith)))

query_back : (old new : ℕ) (identifier : Option ℕ) (message : List ℕ) → IsBytes message
    → IfSome identifier (λ identifier. identifier < 65536)
    → 6 ≤ length message
    → ((rest_of_message (with_identifier identifier message) == 0) ≡ true → and_word new (port_or identifier 4 message) ≡ 0)
    → (translated_query new old (instead (number 4 message) identifier) (translated_query old new identifier message) ≡ message)
    ↔ (number 2 message ≢ lost_checksum message)
query_back old new identifier message fits small room zero =
    let value : ℕ = port_or identifier 4 message in
    let removed : ℕ = and_word old (number 4 message) in
    let added : ℕ = and_word new value in
    let between : List ℕ = with_number 4 value message in
    let is_zero : Bool = rest_of_message between == 0 in
    let sum : ℕ = stored_by is_zero (updated_checksum_of (number 2 message) removed added) in
    let back : List ℕ = with_number 2 sum between in
    let identifier_too : Option ℕ = instead (number 4 message) identifier in
    let between_len : length between ≡ length message = number_len 4 value message in
    let there : number 4 back ≡ number 4 between = number_after 2 sum 4 between (omega arith) in
    let there_is : number 4 back ≡ value =
    there ∙ number_here 4 value message (omega (arith, room)) (port_small identifier 4 message fits small) in
    let value_back : port_or identifier_too 4 back ≡ number 4 message = port_back identifier 4 message back fits there in
    let sum_there : number 2 back ≡ sum =
    number_here 2 sum between (omega (arith, room, between_len)) (stored_small is_zero (number 2 message) removed added) in
    let restored : (n : ℕ) → with_number 2 n (with_number 4 (number 4 message) back) ≡ with_number 2 n message = λ n.
    two_back 2 4 value sum n message fits (omega arith) in
    let is_zero_back : Bool = rest_of_message (with_number 4 (port_or identifier_too 4 back) back) == 0 in
    let is_zero_back_is : is_zero_back ≡ (rest_of_message message == 0) =
    ap (λ n. rest_of_message (with_number 4 n back) == 0) value_back ∙ ap (λ bytes. total bytes == 0) (restored 0) in
    let sum_by : Bool → ℕ → ℕ → ℕ → ℕ = λ is_zero checksum removed added. stored_by is_zero (updated_checksum_of checksum removed added) in
    let sum_too : ℕ = sum_by is_zero_back (number 2 back) (and_word new (number 4 back)) (and_word old (port_or identifier_too 4 back)) in
    iff_along _ (with_number 2 sum_too message) message
    (ap (λ n. with_number 2 sum_too (with_number 4 n back)) value_back ∙ restored sum_too)
    (checksum_back 2 sum_too message fits
    (stored_small is_zero_back (number 2 back) (and_word new (number 4 back)) (and_word old (port_or identifier_too 4 back)))
    (λ whole. iff_along sum_too (sum_by (rest_of_message message == 0) sum added removed) (number 2 message)
    (ap (λ is_zero. sum_by is_zero (number 2 back) (and_word new (number 4 back)) (and_word old (port_or identifier_too 4 back)))
    is_zero_back_is
    ∙ ap (λ n. sum_by (rest_of_message message == 0) n (and_word new (number 4 back)) (and_word old (port_or identifier_too 4 back)))
    sum_there
    ∙ ap (λ n. sum_by (rest_of_message message == 0) sum (and_word new n) (and_word old (port_or identifier_too 4 back))) there_is
    ∙ ap (λ n. sum_by (rest_of_message message == 0) sum added (and_word old n)) value_back)
    (query_reversed is_zero (rest_of_message message == 0) (number 2 message) removed added sum (number_small 2 message fits) (folded-lt _)
    (folded-lt _) zero refl))
    (λ short. absurd (omega (arith, room, short))))

-- the old identifier is put back
identifier_by : (is_request : Bool) (old : ℕ) (source destination : Option ℕ)
    → (if is_request then instead old source else instead old destination) ≡ instead old (if is_request then source else destination)
identifier_by true old source destination = refl
identifier_by false old source destination = refl

identifier_small : (is_request : Bool) (source destination : Option ℕ) → IfSome source (λ port. port < 65536)
    → IfSome destination (λ port. port < 65536)
    → IfSome (if is_request then source else destination) (λ identifier. identifier < 65536)
identifier_small true source destination small small_too = small
identifier_small false source destination small small_too = small_too

identifier_back : (proto : Proto) (sum value : ℕ) (source destination : Option ℕ) (message : List ℕ)
    → new_identifier proto (instead (number 4 message) source) (instead (number 4 message) destination)
    (with_number 2 sum (with_number 4 value message))
    ≡ instead (number 4 message) (new_identifier proto source destination message)
identifier_back proto sum value source destination message =
    let old : ℕ = number 4 message in
    ap (λ byte. if is_request proto byte then instead old source else instead old destination)
    (before_both sum value 0 message (omega arith))
    ∙ identifier_by (is_request proto (slice_index message 0)) old source destination

front : (a b : Bool) → (a && b) ≡ true → a ≡ true
front true b is = refl
front false b is = is

query_there : (proto : Proto) (message : List ℕ) → is_query proto message ≡ true → 6 ≤ length message
query_there proto message is =
    let test : nat_le 6 (length message) ≡ true = front (nat_le 6 (length message)) _ is in
    grind (arith, nat_tests)

-- if all bytes except the checksum are 0 after the identifier is replaced, the new identifier is 0
zero_identifier : (value : ℕ) (message : List ℕ) → 6 ≤ length message → value < 65536
    → (rest_of_message (with_number 4 value message) == 0) ≡ true
    → value ≡ 0
zero_identifier value message room small is =
    let between : List ℕ = with_number 4 value message in
    let rest : List ℕ = with_number 2 0 between in
    let none : total rest ≡ 0 = is_number (total rest) 0 is in
    let between_len : length between ≡ length message = number_len 4 value message in
    let rest_len : length rest ≡ length message = number_len 2 0 between ∙ between_len in
    let there : number 4 rest ≡ value =
    number_after 2 0 4 between (omega arith) ∙ number_here 4 value message (omega (arith, room)) small in
    omega (arith, there, none, stored_number_total 4 0 rest refl (omega arith) (omega (arith, room, rest_len)))

-- a checksum that is updated by a change and then by the reverse change comes back exactly if it is not all ones
updated_back : (old new : ℕ) (message : List ℕ) → IsBytes message → old < 65536 → new < 65536
    → (with_updated_checksum new old (with_updated_checksum old new message) ≡ message) ↔ (number 2 message ≢ 65535)
updated_back old new message fits small small_too =
    let sum : ℕ = updated_checksum_of (number 2 message) old new in
    let back : List ℕ = with_number 2 sum message in
    let sum_too : ℕ = updated_checksum_of (number 2 back) new old in
    iff_along _ (with_number 2 sum_too message) message (number_again 2 sum sum_too message)
    (checksum_back 2 sum_too message fits (updated_small (number 2 back) new old)
    (λ room. iff_along sum_too (updated_checksum_of sum new old) (number 2 message)
    (ap (λ n. updated_checksum_of n new old) (number_here 2 sum message room (updated_small (number 2 message) old new)))
    (updated_reversed_iff (number 2 message) old new sum (number_small 2 message fits) small small_too refl))
    (λ short ones. omega (arith, ones, number_missing 2 message short)))

-- ---- the message

icmpv4_back : (is_a_query : Bool) (source destination : Option ℕ) (message : List ℕ) → is_a_query ≡ is_query protos.Icmpv4 message
    → IsBytes message
    → IfSome source (λ port. port < 65536) → IfSome destination (λ port. port < 65536)
    → (translated_message protos.Icmpv4 0 0 (instead (number 4 message) source) (instead (number 4 message) destination)
    (if is_a_query then translated_query 0 0 (new_identifier protos.Icmpv4 source destination message) message else message) ≡ message)
    ↔ IsChecksumRestored protos.Icmpv4 message
unfolding folded
icmpv4_back false source destination message test fits small small_too =
    let back : List ℕ =
    translated_query 0 0 (new_identifier protos.Icmpv4 (instead (number 4 message) source) (instead (number 4 message) destination) message)
    message in
    (λ same is. absurd (cc (test, is)), λ p. ap (λ b. if b then back else message) (sym test))
icmpv4_back true source destination message test fits small small_too =
    let old : ℕ = number 4 message in
    let identifier : Option ℕ = new_identifier protos.Icmpv4 source destination message in
    let value : ℕ = port_or identifier 4 message in
    let between : List ℕ = with_number 4 value message in
    let sum : ℕ = updated_query_checksum between (updated_checksum_of (number 2 message) (and_word 0 old) (and_word 0 value)) in
    let changed : List ℕ = with_number 2 sum between in
    let identifier_too : Option ℕ = new_identifier protos.Icmpv4 (instead old source) (instead old destination) changed in
    let room : 6 ≤ length message = query_there protos.Icmpv4 message (sym test) in
    let small_identifier = identifier_small (is_request protos.Icmpv4 (slice_index message 0)) source destination small small_too in
    let iff = query_back 0 0 identifier message fits small_identifier room
    (λ zero. ap (and_word 0) (zero_identifier value message room (port_small identifier 4 message fits small_identifier) zero)) in
    let whole = iff_along _ (translated_query 0 0 (instead old identifier) changed) message
    (ap (λ b. if b then translated_query 0 0 identifier_too changed else changed) (query_kept protos.Icmpv4 sum value message ∙ sym test)
    ∙ ap (λ identifier. translated_query 0 0 identifier changed) (identifier_back protos.Icmpv4 sum value source destination message))
    iff in
    (λ same is. whole.0 same, λ p. whole.1 (p (sym test)))

-- no query over IPv6 begins with 0
first_icmpv6 : (message : List ℕ) → is_query protos.Icmpv6 message ≡ true → slice_index message 0 ≢ 0
first_icmpv6 message is none = ⊎_elim (λ type. omega (arith, type, none)) (λ type. omega (arith, type, none)) (icmpv6_type message is)

rest_icmpv6 : (message : List ℕ) → slice_index message 0 ≢ 0 → (rest_of_message message == 0) ≡ false
rest_icmpv6 message some =
    let first : slice_index (with_number 2 0 message) 0 ≡ slice_index message 0 =
    other_by (nat_le 4 (length message)) 2 0 0 message refl (inl (omega arith)) in
    let other : total (with_number 2 0 message) ≢ 0 = first_counts (with_number 2 0 message) (λ none. some (sym first ∙ none)) in
    grind (arith, nat_tests)

lost_icmpv6 : (message : List ℕ) → is_query protos.Icmpv6 message ≡ true → lost_checksum message ≡ 65535
lost_icmpv6 message is = ap {B = ℕ} (λ b. if b then 0 else 65535) (rest_icmpv6 message (first_icmpv6 message is))

icmpv6_back : (is_a_query : Bool) (old new : ℕ) (source destination : Option ℕ) (message : List ℕ)
    → is_a_query ≡ is_query protos.Icmpv6 message
    → IsBytes message → IfSome source (λ port. port < 65536) → IfSome destination (λ port. port < 65536) → old < 65536 → new < 65536
    → (translated_message protos.Icmpv6 new old (instead (number 4 message) source) (instead (number 4 message) destination)
    (if is_a_query then translated_query old new (new_identifier protos.Icmpv6 source destination message) message
    else with_updated_checksum old new message) ≡ message)
    ↔ IsChecksumRestored protos.Icmpv6 message
icmpv6_back false old new source destination message test fits small small_too old_small new_small =
    let sum : ℕ = updated_checksum_of (number 2 message) old new in
    let changed : List ℕ = with_number 2 sum message in
    let identifier_too : Option ℕ =
    new_identifier protos.Icmpv6 (instead (number 4 message) source) (instead (number 4 message) destination) changed in
    iff_along _ (with_updated_checksum new old changed) message
    (ap (λ b. if b then translated_query new old identifier_too changed else with_updated_checksum new old changed)
    (query_kept_by_sum protos.Icmpv6 sum message ∙ sym test))
    (updated_back old new message fits old_small new_small)
icmpv6_back true old new source destination message test fits small small_too old_small new_small =
    let word : ℕ = number 4 message in
    let identifier : Option ℕ = new_identifier protos.Icmpv6 source destination message in
    let value : ℕ = port_or identifier 4 message in
    let between : List ℕ = with_number 4 value message in
    let sum : ℕ = updated_query_checksum between (updated_checksum_of (number 2 message) (and_word old word) (and_word new value)) in
    let changed : List ℕ = with_number 2 sum between in
    let identifier_too : Option ℕ = new_identifier protos.Icmpv6 (instead word source) (instead word destination) changed in
    let first : slice_index between 0 ≢ 0 = λ none.
    first_icmpv6 message (sym test) (sym (other_by (nat_le 6 (length message)) 4 value 0 message refl (inl (omega arith))) ∙ none) in
    iff_along _ (translated_query new old (instead word identifier) changed) message
    (ap (λ b. if b then translated_query new old identifier_too changed else with_updated_checksum new old changed)
    (query_kept protos.Icmpv6 sum value message ∙ sym test)
    ∙ ap (λ identifier. translated_query new old identifier changed) (identifier_back protos.Icmpv6 sum value source destination message))
    (subst (λ lost. (translated_query new old (instead word identifier) changed ≡ message) ↔ (number 2 message ≢ lost))
    (lost_icmpv6 message (sym test))
    (query_back old new identifier message fits
    (identifier_small (is_request protos.Icmpv6 (slice_index message 0)) source destination small small_too)
    (query_there protos.Icmpv6 message (sym test)) (λ zero. absurd (cc (rest_icmpv6 between first, zero)))))

pub message_back : (proto : Proto) (old new : ℕ) (source destination : Option ℕ) (message : List ℕ) → IsBytes message
    → IfSome source (λ port. port < 65536) → IfSome destination (λ port. port < 65536) → old < 65536 → new < 65536
    → (translated_message proto new old (instead (number (place_in proto 0) message) source)
    (instead (number (place_in proto 2) message) destination)
    (translated_message proto old new source destination message) ≡ message)
    ↔ IsChecksumRestored proto message
message_back protos.Udp old new source destination message fits small small_too old_small new_small =
    (λ same. tt, λ true. udp_back old new source destination message fits small small_too)
message_back protos.Tcp old new source destination message fits small small_too old_small new_small =
    tcp_back old new source destination message fits small small_too
message_back protos.Icmpv4 old new source destination message fits small small_too old_small new_small =
    icmpv4_back (is_query protos.Icmpv4 message) source destination message refl fits small small_too
message_back protos.Icmpv6 old new source destination message fits small small_too old_small new_small =
    icmpv6_back (is_query protos.Icmpv6 message) old new source destination message refl fits small small_too old_small new_small

-- the law for the message of a packet; a later fragment has no ports
part_back_of : (is_later_fragment : Bool) (proto : Proto) (old new : ℕ) (source destination : Option ℕ) (message : List ℕ) → IsBytes message
    → IfSome source (λ port. port < 65536) → IfSome destination (λ port. port < 65536) → old < 65536 → new < 65536
    → (translated_in is_later_fragment (Some proto) new old (instead (port_in (Some proto) 0 message) source)
    (instead (port_in (Some proto) 2 message) destination)
    (translated_in is_later_fragment (Some proto) old new source destination message) ≡ message)
    ↔ IsChecksumRestoredIn is_later_fragment (Some proto) message
part_back_of true proto old new source destination message fits small small_too old_small new_small = (λ same is. absurd (cc is), λ p. refl)
part_back_of false proto old new source destination message fits small small_too old_small new_small =
    let iff = message_back proto old new source destination message fits small small_too old_small new_small in
    (λ same is. iff.0 same, λ p. iff.1 (p refl))

-- the law for the message of a packet with any protocol
pub part_back : (is_later_fragment : Bool) (proto : Option Proto) (old new : ℕ) (source destination : Option ℕ) (message : List ℕ)
    → IsBytes message
    → IfSome source (λ port. port < 65536) → IfSome destination (λ port. port < 65536) → old < 65536 → new < 65536
    → (translated_in is_later_fragment proto new old (instead (port_in proto 0 message) source)
    (instead (port_in proto 2 message) destination)
    (translated_in is_later_fragment proto old new source destination message) ≡ message)
    ↔ IsChecksumRestoredIn is_later_fragment proto message
part_back is_later_fragment None old new source destination message fits small small_too old_small new_small = (λ same. tt, λ true. refl)
part_back is_later_fragment (Some proto) old new source destination message fits small small_too old_small new_small =
    part_back_of is_later_fragment proto old new source destination message fits small small_too old_small new_small

-- ---- the addresses

-- an address that is put back is the old address exactly if it is what the translation replaced
pub address_iff : (old other : List ℕ) (new : Option (List ℕ))
    → (unwrap_or (instead other new) (unwrap_or new old) ≡ old) ↔ IfSome new (λ _. other ≡ old)
address_iff old other None = (λ same. tt, λ true. refl)
address_iff old other (Some address) = (λ same. same, λ same. same)

pub address_len : (n : ℕ) (old other : List ℕ) (new : Option (List ℕ)) → length old ≡ n → length other ≡ n
    → length (unwrap_or (instead other new) (unwrap_or new old)) ≡ n
address_len n old other None is is_too = is
address_len n old other (Some address) is is_too = is_too

-- an address that may be replaced has the same length
pub new_address_len : (n : ℕ) (old : List ℕ) (new : Option (List ℕ)) → length old ≡ n → IfSome new (λ address. length address ≡ n)
    → length (unwrap_or new old) ≡ n
new_address_len n old None is is_too = is
new_address_len n old (Some address) is is_too = is_too
