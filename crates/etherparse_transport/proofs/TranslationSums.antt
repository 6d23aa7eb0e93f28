-- Laws of the sums of translated messages: the change by the replaced words, and a receiver's check, whose result is the same.
use Rattle.std.proofs.Common.{◌≡◌, ◌≢◌, ◌⊎◌, ℕ, ◌+◌, ◌-◌, ◌/◌, ◌%◌, ◌<◌, ◌≤◌, ◌*◌, ◌==◌, ◌&&◌, ◌||◌, nat_le, nat_lt, zero, suc, Bool, true, false, if◌then◌else◌, List, [], ◌∷◌, ◌++◌, take, drop, slice_index, slice_range, length, Option, Some, None, Result, Ok, Err, inl, inr, refl, sym, ap, ◌∙◌, subst, arith}
use Rattle.std.specs.Prelude.{IfOk, ◌↔◌}
use Rattle.std.specs.Int.{to_be_bytes, w16, w32}
use Rattle.std.proofs.Math.Logic.{⊎_elim}
use Rattle.std.proofs.lemmas.Bool.Decides.{nat_tests}
use Rattle.std.proofs.lemmas.List.{drop-drop, drop-take, get_or-take, length-drop, length-take, length-take-le, take-append-drop, take-take, take_all}
use lib.Seq.{drop-cons}
use borrow.Rule.Slice.PartMut.{put_mid, take_put}
use Rattle.net_base.specs.Bytes.{be_number}
use Rattle.net_base.specs.Refusals.{RefusesExactly}
use Rattle.net_base.specs.StoredChecksum.{with_checksum}
use Rattle.word_sum.specs.Checksum.{IsAllOnes, Verifies, complement, folded, sum_of_pieces, total}
use Rattle.word_sum.proofs.ChecksumLemmas.{folded-add, folded-lt, folded_equal_iff, total-append, total-append_twice}
use Rattle.word_sum.proofs.ChecksumChangeLemmas.{folded-remainder, folded_all_ones_iff, remainder_alike, total_replaced}
use Rattle.icmp_part.specs.QuotedPackets.{counted, quoted_by_icmpv4, quoted_by_icmpv6}
use Rattle.ip_part.specs.declared.proto.Proto.{Proto}
use Rattle.ip_part.specs.declared.proto.Proto.TheVariants as protos
use Rattle.net_base.specs.PseudoHeader.{ipv4_pseudo_header, ipv6_pseudo_header}
use Rattle.word_sum.specs.UpdatedChecksum.{TurnsIntoBy, updated_checksum_of}
use Rattle.etherparse_transport.specs.Families.{AddressPair, AreAddresses, Family, IsAcceptedBy, Translation, addresses_of, flow_message, message_in, new_addresses, pseudo_header_of, quoted_packet, sum_of}
use Rattle.etherparse_transport.specs.Ipv4Translations.{ipv4, IsHeaderAccepted, IsIpv4Place, ipv4_is_later_fragment, ipv4_quoted, IsIpv4ErrorAccepted, ipv4_proto, message_in_ipv4}
use Rattle.etherparse_transport.specs.Ipv6Translations.{ipv6, of_ipv6, AreIpv6Addresses, ipv6_addresses, ipv6_quoted, message_in_ipv6, sum_of_ipv6, IsIpv6ErrorAccepted}
use Rattle.etherparse_transport.specs.Translations.{AreUpdatedAlike, HaveSums, IsAcceptedAlike, IsUpdated, least_summed, translated_in, translated_message, translated_udp, is_query, is_reply, is_request, number, rest_of_message, quoted_by, quoted_in, with_bytes, with_number}
use Rattle.etherparse_transport.specs.declared.ip.ipv6_translation.Ipv6Translation.{Ipv6Translation}
use Rattle.etherparse_transport.specs.declared.ip.message_place.Place.{Place}
use Rattle.net_base.specs.IpHeaders.{ipv4_header_len, ipv4_header_of, ipv6_header_of}
use Rattle.etherparse_transport.proofs.EchoReplyLemmas.{is_number}
use Rattle.etherparse_transport.proofs.TranslationLemmas.{put_is}
use Rattle.etherparse_transport.proofs.UpdatedAlike.{difference_alike, sums_alike, two_pieces}
use Rattle.etherparse_transport.proofs.TranslationReading.{both_after, both_before, both_len, drop_after, part_len, length_kept, index_after, index_before, number_len}

-- ---- one word

-- the bytes from a place on begin with two bytes
pub two_bytes : (place : ℕ) (bytes : List ℕ) → place + 2 ≤ length bytes
    → drop place bytes ≡ slice_index bytes place ∷ slice_index bytes (place + 1) ∷ drop (place + 2) bytes
two_bytes place bytes there =
    let next : suc place ≡ place + 1 = omega arith in
    let last : suc (suc place) ≡ place + 2 = omega arith in
    drop-cons bytes place 0 (omega (arith, there))
    ∙ ap (λ rest. slice_index bytes place ∷ rest) (drop-cons bytes (suc place) 0 (omega (arith, there)))
    ∙ ap (λ k. slice_index bytes place ∷ slice_index bytes k ∷ drop (suc (suc place)) bytes) next
    ∙ ap (λ k. slice_index bytes place ∷ slice_index bytes (place + 1) ∷ drop k bytes) last

stored_total : (place value : ℕ) (bytes : List ℕ) → place % 2 ≡ 0 → value < 65536 → place + 2 ≤ length bytes
    → total (with_checksum place bytes value) + be_number bytes place 2 ≡ total bytes + value
stored_total place value bytes even small there =
    let front : List ℕ = take place bytes in
    let back : List ℕ = drop (place + 2) bytes in
    let front_len : length front ≡ place = length-take-le place bytes (omega (arith, there)) in
    let front_even : length front % 2 ≡ 0 = ap (λ n. n % 2) front_len ∙ even in
    let was : total bytes ≡ total front + total (slice_index bytes place ∷ slice_index bytes (place + 1) ∷ back) =
    ap total (sym (take-append-drop place bytes) ∙ ap (λ rest. front ++ rest) (two_bytes place bytes there))
    ∙ total-append front (slice_index bytes place ∷ slice_index bytes (place + 1) ∷ back) front_even in
    let first : slice_index bytes (place + 0) ≡ slice_index bytes place = ap (slice_index bytes) (omega arith) in
    omega (arith, was, small, first, total-append front (to_be_bytes w16 value ++ back) front_even)

pub stored_number_total : (place value : ℕ) (bytes : List ℕ) → place % 2 ≡ 0 → value < 65536 → place + 2 ≤ length bytes
    → total (with_checksum place bytes value) + number place bytes ≡ total bytes + value
stored_number_total place value bytes even small there =
    let test : nat_le (place + 2) (length bytes) ≡ true = grind (arith, nat_tests) in
    ap (λ b. total (with_checksum place bytes value) + (if b then be_number bytes place 2 else 0)) test
    ∙ stored_total place value bytes even small there

-- a number of 16 bits is the sum of its two bytes
pub word_total : (word : ℕ) → word < 65536 → total (to_be_bytes w16 word) ≡ word
word_total word small = omega (arith, small)

-- ---- another word

pub other_by : (there : Bool) (place value k : ℕ) (bytes : List ℕ) → there ≡ nat_le (place + 2) (length bytes)
    → (k < place) ⊎ (place + 2 ≤ k)
    → slice_index (if there then with_checksum place bytes value else bytes) k ≡ slice_index bytes k
other_by false place value k bytes test other = refl
other_by true place value k bytes test (inl before) =
    index_before place (to_be_bytes w16 value) bytes (grind (arith, nat_tests)) k before
other_by true place value k bytes test (inr after) =
    index_after place (to_be_bytes w16 value) bytes (grind (arith, nat_tests)) k after

pub number_at : (there : Bool) (place : ℕ) (bytes changed : List ℕ)
    → slice_index changed (place + 0) ≡ slice_index bytes (place + 0) → slice_index changed (place + 1) ≡ slice_index bytes (place + 1)
    → (if there then be_number changed place 2 else 0) ≡ (if there then be_number bytes place 2 else 0)
number_at false place bytes changed first second = refl
number_at true place bytes changed first second = omega (arith, first, second)

pub number_after : (place value at : ℕ) (bytes : List ℕ) → place + 2 ≤ at → number at (with_number place value bytes) ≡ number at bytes
number_after place value at bytes after =
    let changed : List ℕ = with_number place value bytes in
    ap (λ len. if nat_le (at + 2) len then be_number changed at 2 else 0) (number_len place value bytes)
    ∙ number_at (nat_le (at + 2) (length bytes)) at bytes changed
    (other_by (nat_le (place + 2) (length bytes)) place value (at + 0) bytes refl (inr (omega (arith, after))))
    (other_by (nat_le (place + 2) (length bytes)) place value (at + 1) bytes refl (inr (omega (arith, after))))

pub number_before : (place value at : ℕ) (bytes : List ℕ) → at + 2 ≤ place → number at (with_number place value bytes) ≡ number at bytes
number_before place value at bytes before =
    let changed : List ℕ = with_number place value bytes in
    ap (λ len. if nat_le (at + 2) len then be_number changed at 2 else 0) (number_len place value bytes)
    ∙ number_at (nat_le (at + 2) (length bytes)) at bytes changed
    (other_by (nat_le (place + 2) (length bytes)) place value (at + 0) bytes refl (inl (omega (arith, before))))
    (other_by (nat_le (place + 2) (length bytes)) place value (at + 1) bytes refl (inl (omega (arith, before))))

-- ---- two words

folded-add_last : (a b : ℕ) → folded (a + folded b) ≡ folded (a + b)
folded-add_last a b = ap folded (omega arith) ∙ folded-add b a ∙ ap folded (omega arith)

flattened : (a sum first second : ℕ) → folded (a + folded (folded (sum + first) + second)) ≡ folded (sum + (a + (first + second)))
flattened a sum first second =
    folded-add_last a (folded (sum + first) + second)
    ∙ ap folded (omega arith) ∙ folded-add (sum + first) (a + second) ∙ ap folded (omega arith)

-- a change of the pseudo header, followed by a change of two words of the message
pub turns_by_two : (before added after removed old old_too new new_too x y : ℕ) → folded (before + added) ≡ folded (after + removed)
    → y + (old + old_too) ≡ x + (new + new_too)
    → folded ((before + x) + folded (folded (added + new) + new_too)) ≡ folded ((after + y) + folded (folded (removed + old) + old_too))
turns_by_two before added after removed old old_too new new_too x y turns changes =
    flattened (before + x) added new new_too
    ∙ ap folded (omega arith) ∙ sym (folded-add (before + added) (x + (new + new_too)))
    ∙ ap (λ n. folded (n + (x + (new + new_too)))) turns
    ∙ folded-add (after + removed) (x + (new + new_too))
    ∙ ap folded (omega (arith, changes))
    ∙ sym (flattened (after + y) removed old old_too)

-- ---- a receiver's check

-- two sums that leave the same remainder are both all ones or both not, unless one is 0
pub both_accepted : (was is : ℕ) → is % 65535 ≡ was % 65535 → was ≢ 0 → is ≢ 0 → IsAllOnes is ↔ IsAllOnes was
both_accepted was is remainder some some_too =
    let now = folded_all_ones_iff is in
    let then_was = folded_all_ones_iff was in (
      λ ones. then_was.1 (sym remainder ∙ (now.0 ones).0, some),
      λ ones. now.1 (remainder ∙ (then_was.0 ones).0, some_too),
    )

-- a change stays a change if a sum is added to both sides
pub turns_shifted : (before added after removed x : ℕ) → folded (before + added) ≡ folded (after + removed)
    → folded ((before + x) + added) ≡ folded ((after + x) + removed)
turns_shifted before added after removed x turns =
    ap folded (omega arith) ∙ sym (folded-add (before + added) x) ∙ ap (λ n. folded (n + x)) turns ∙ folded-add (after + removed) x
    ∙ ap folded (omega arith)

-- ---- sums above 0

pub first_counts : (bytes : List ℕ) → slice_index bytes 0 ≢ 0 → total bytes ≢ 0
first_counts [] some none = some refl
first_counts (first ∷ []) some none = some (omega (arith, none))
first_counts (first ∷ (second ∷ rest)) some none = some (omega (arith, none))

-- a sum of two numbers is not 0 if the second is not 0 whenever the first is 0
pub sum_some : (first second : ℕ) → (first ≡ 0 → second ≢ 0) → first + second ≢ 0
sum_some first second some none = some (omega (arith, none)) (omega (arith, none))

-- ---- messages of zeros

pub folded_some : (n : ℕ) → n ≢ 0 → folded n ≢ 0
unfolding folded
folded_some zero some none = some refl
folded_some (suc n) some none = absurd (omega (arith, none))

-- the sum of an ICMP message without its checksum is the sum of the parts before and after the checksum
pub rest_parts : (message : List ℕ) → 4 ≤ length message → rest_of_message message ≡ total (take 2 message) + total (drop 4 message)
rest_parts message there =
    let test : nat_le 4 (length message) ≡ true = grind (arith, nat_tests) in
    ap (λ b. total (if b then with_checksum 2 message 0 else message)) test
    ∙ total-append (take 2 message) (to_be_bytes w16 0 ++ drop 4 message)
    (ap (λ n. n % 2) (length-take-le 2 message (omega (arith, there))))
    ∙ ap (λ n. total (take 2 message) + n) (omega arith)

folded_nothing : folded 0 ≡ 0
unfolding folded
folded_nothing = refl

-- the checksum of two parts is all ones exactly if their sum is 0
pub zero_test : (start one two result first second rest : ℕ) → start ≡ 0 → one ≡ folded (start + first) → two ≡ folded (one + second)
    → result ≡ complement two → rest ≡ first + second → (result == 65535) ≡ (rest == 0)
zero_test start one two result first second zero begins is_one is_two is parts =
    let none : start + first ≡ 0 = omega (arith, begins, parts) in
    let none_too : one + second ≡ 0 = omega (arith, parts, is_one ∙ ap folded none ∙ folded_nothing) in
    ap (λ n. n == 65535) (is ∙ ap complement (is_two ∙ ap folded none_too ∙ folded_nothing))
zero_test start one two result first second (suc rest) begins is_one is_two is parts =
    let some : one + second ≢ 0 = λ none.
    folded_some (start + first) (λ zero. omega (arith, zero, none, parts)) (sym is_one ∙ omega (arith, none)) in
    let some_too : two ≢ 0 = λ none. folded_some (one + second) some (sym is_two ∙ none) in
    let small : two < 65536 = subst (λ n. n < 65536) (sym is_two) (folded-lt (one + second)) in
    let other : result ≢ 65535 = λ same. some_too (omega (arith, is, same, small)) in
    grind (arith, nat_tests)

-- ---- pseudo headers

-- the sum of a pseudo header is the sum of its addresses and of the rest, which is not 0
pub record IsPseudoHeader (header source destination : List ℕ) (rest : ℕ) : Type 0 where
  pub sum : total header ≡ total source + (total destination + rest)
  pub some : rest ≢ 0

pub addresses_turn : (header header_too source destination source_too destination_too : List ℕ) (rest : ℕ)
    → IsPseudoHeader header source destination rest → IsPseudoHeader header_too source_too destination_too rest
    → TurnsIntoBy (sum_of_pieces 0 (source ∷ destination ∷ [])) (sum_of_pieces 0 (source_too ∷ destination_too ∷ [])) (total header)
    (total header_too)
addresses_turn header header_too source destination source_too destination_too rest is is_too =
    let x : ℕ = total source + total destination in
    let y : ℕ = total source_too + total destination_too in
    let added : ℕ = sum_of_pieces 0 (source_too ∷ destination_too ∷ []) in
    let removed : ℕ = sum_of_pieces 0 (source ∷ destination ∷ []) in
    let before : total header ≡ rest + x = omega (arith, is.sum) in
    let after : total header_too ≡ rest + y = omega (arith, is_too.sum) in
    ap (λ n. folded (n + added)) before
    ∙ turns_by_two rest 0 rest 0 (total source) (total destination) (total source_too) (total destination_too) x y refl (omega arith)
    ∙ sym (ap (λ n. folded (n + removed)) after)

pub ipv4_pseudo_header_is : (source destination : List ℕ) (protocol len : ℕ) → length source ≡ 4 → length destination ≡ 4 → 0 < protocol
    → IsPseudoHeader (ipv4_pseudo_header source destination protocol len) source destination (total (0 ∷ protocol ∷ to_be_bytes w16 len))
ipv4_pseudo_header_is source destination protocol len four four_too some =
    record {
      sum = total-append_twice source destination (0 ∷ protocol ∷ to_be_bytes w16 len) (ap (λ n. n % 2) four) (ap (λ n. n % 2) four_too);
      some = λ none. omega (arith, some, none);
    }

pub ipv6_pseudo_header_is : (source destination : List ℕ) (protocol len : ℕ) → length source ≡ 16 → length destination ≡ 16 → 0 < protocol
    → IsPseudoHeader (ipv6_pseudo_header source destination protocol len) source destination
    (total (to_be_bytes w32 len ++ (0 ∷ 0 ∷ 0 ∷ protocol ∷ [])))
ipv6_pseudo_header_is source destination protocol len sixteen sixteen_too some =
    record {
      sum = total-append_twice source destination (to_be_bytes w32 len ++ (0 ∷ 0 ∷ 0 ∷ protocol ∷ [])) (ap (λ n. n % 2) sixteen)
          (ap (λ n. n % 2) sixteen_too);
      some = λ none. omega (arith, some, none);
    }

-- the sums of both pseudo headers are not 0, and differ by the addresses
both_sums : (header header_too source destination source_too destination_too : List ℕ) (rest : ℕ)
    → IsPseudoHeader header source destination rest → IsPseudoHeader header_too source_too destination_too rest
    → TurnsIntoBy (sum_of_pieces 0 (source ∷ destination ∷ [])) (sum_of_pieces 0 (source_too ∷ destination_too ∷ [])) (total header)
    (total header_too)
    × (total header ≢ 0) × (total header_too ≢ 0)
both_sums header header_too source destination source_too destination_too rest is is_too = (
  addresses_turn header header_too source destination source_too destination_too rest is is_too,
  λ none. is.some (omega (arith, is.sum, none)),
  λ none. is_too.some (omega (arith, is_too.sum, none)),
)

-- the pseudo headers of a family contain its addresses
pub record HavePseudoHeaders (family : Family) : Type 0 where
  pub rest : ℕ → ℕ → ℕ
  pub is : (addresses : AddressPair) (protocol len : ℕ) → AreAddresses family addresses → 0 < protocol
      → IsPseudoHeader (family.pseudo_header addresses protocol len) addresses.source addresses.destination (rest protocol len)

pub ipv4_pseudo_headers : HavePseudoHeaders ipv4
ipv4_pseudo_headers = record {
  rest = λ protocol len. total (0 ∷ protocol ∷ to_be_bytes w16 len);
  is = λ addresses protocol len four some.
      ipv4_pseudo_header_is addresses.source addresses.destination protocol len four.source four.destination some;
}

pub ipv6_pseudo_headers : HavePseudoHeaders ipv6
ipv6_pseudo_headers = record {
  rest = λ protocol len. total (to_be_bytes w32 len ++ (0 ∷ 0 ∷ 0 ∷ protocol ∷ []));
  is = λ addresses protocol len sixteen some.
      ipv6_pseudo_header_is addresses.source addresses.destination protocol len sixteen.source sixteen.destination some;
}

have_sums : (family : Family) (headers : HavePseudoHeaders family) (proto : Proto) (old new : AddressPair) (len : ℕ)
    → AreAddresses family old → AreAddresses family new
    → HaveSums proto (sum_of old) (sum_of new) (total (pseudo_header_of family proto old len))
    (total (pseudo_header_of family proto new len))
have_sums family headers protos.Udp old new len are are_too =
    both_sums _ _ old.source old.destination new.source new.destination _ (headers.is old 17 len are (omega arith))
    (headers.is new 17 len are_too (omega arith))
have_sums family headers protos.Tcp old new len are are_too =
    both_sums _ _ old.source old.destination new.source new.destination _ (headers.is old 6 len are (omega arith))
    (headers.is new 6 len are_too (omega arith))
have_sums family headers protos.Icmpv4 old new len are are_too = refl
have_sums family headers protos.Icmpv6 old new len are are_too =
    both_sums _ _ old.source old.destination new.source new.destination _ (headers.is old 58 len are (omega arith))
    (headers.is new 58 len are_too (omega arith))

-- ---- a receiver's check of a part of a message

-- the sum of bytes that follow other bytes; after an odd number of bytes, the first byte is the low byte of a word
sum_after : List ℕ → List ℕ → ℕ
sum_after [] bytes = total bytes
sum_after (odd ∷ []) bytes = total (0 ∷ bytes)
sum_after (high ∷ (low ∷ front)) bytes = sum_after front bytes

joined_total : (front bytes : List ℕ) → total (front ++ bytes) ≡ total front + sum_after front bytes
unfolding sum_after
joined_total [] bytes = omega arith
joined_total (odd ∷ []) [] = omega arith
joined_total (odd ∷ []) (next ∷ rest) = omega arith
joined_total (high ∷ (low ∷ front)) bytes = omega (arith, joined_total front bytes)

sum_after_alike : (front front_too bytes : List ℕ) → length front ≡ length front_too → sum_after front bytes ≡ sum_after front_too bytes
unfolding sum_after
sum_after_alike [] [] bytes len = refl
sum_after_alike [] (a ∷ rest) bytes len = absurd (omega (arith, len))
sum_after_alike (a ∷ []) [] bytes len = absurd (omega (arith, len))
sum_after_alike (a ∷ []) (b ∷ []) bytes len = refl
sum_after_alike (a ∷ []) (b ∷ (c ∷ rest)) bytes len = absurd (omega (arith, len))
sum_after_alike (a ∷ (b ∷ rest)) [] bytes len = absurd (omega (arith, len))
sum_after_alike (a ∷ (b ∷ rest)) (c ∷ []) bytes len = absurd (omega (arith, len))
sum_after_alike (a ∷ (b ∷ rest)) (c ∷ (d ∷ rest_too)) bytes len = sum_after_alike rest rest_too bytes (omega (arith, len))

-- two sums still fit a change after the same sum is added to both
have_sums_and : (proto : Proto) (removed added before after sum : ℕ) → HaveSums proto removed added before after
    → HaveSums proto removed added (before + sum) (after + sum)
have_sums_and protos.Udp removed added before after sum have =
    (turns_shifted before added after removed sum have.0, λ none. have.1 (omega (arith, none)), λ none. have.2 (omega (arith, none)))
have_sums_and protos.Tcp removed added before after sum have =
    (turns_shifted before added after removed sum have.0, λ none. have.1 (omega (arith, none)), λ none. have.2 (omega (arith, none)))
have_sums_and protos.Icmpv4 removed added before after sum have = ap (λ n. n + sum) have
have_sums_and protos.Icmpv6 removed added before after sum have =
    (turns_shifted before added after removed sum have.0, λ none. have.1 (omega (arith, none)), λ none. have.2 (omega (arith, none)))

-- adding 65535 several times does not change whether a sum is all ones
ones_and_more : (n more : ℕ) → n ≢ 0 → IsAllOnes (n + more * 65535) ↔ IsAllOnes n
ones_and_more n more some =
    both_accepted n (n + more * 65535) (omega arith) some (λ none. some (omega (arith, none)))

-- the law, if the receiver sums all bytes of the message and others after them
alike_with_missing : (before after : ℕ) (message translated missing : List ℕ) → length translated ≡ length message
    → ((sum : ℕ) → IsAcceptedAlike (before + sum) (after + sum) message translated)
    → IsAllOnes (after + total (translated ++ missing)) ↔ IsAllOnes (before + total (message ++ missing))
alike_with_missing before after message translated missing len alike =
    let more : ℕ = sum_after message missing in
    let was : before + total (message ++ missing) ≡ before + more + total message = omega (arith, joined_total message missing) in
    let is : after + total (translated ++ missing) ≡ after + more + total translated =
    omega (arith, joined_total translated missing, sum_after_alike translated message missing len) in
    subst (λ n. IsAllOnes n ↔ IsAllOnes (before + total (message ++ missing))) (sym is)
    (subst (λ n. IsAllOnes (after + more + total translated) ↔ IsAllOnes n) (sym was) (alike more))

alike_within : (before after count : ℕ) (message translated missing : List ℕ) → length translated ≡ length message → length message ≤ count
    → ((sum : ℕ) → IsAcceptedAlike (before + sum) (after + sum) message translated)
    → IsAllOnes (after + total (take count translated ++ missing)) ↔ IsAllOnes (before + total (take count message ++ missing))
alike_within before after count message translated missing len within alike =
    let was : take count message ≡ message = take_all count message within in
    let is : take count translated ≡ translated = take_all count translated (omega (arith, len, within)) in
    subst (λ bytes. IsAllOnes (after + total (bytes ++ missing)) ↔ IsAllOnes (before + total (take count message ++ missing))) (sym is)
    (subst (λ bytes. IsAllOnes (after + total (translated ++ missing)) ↔ IsAllOnes (before + total (bytes ++ missing))) (sym was)
    (alike_with_missing before after message translated missing len alike))

-- the law, if the receiver sums a part of the message, and the bytes after it do not change
alike_in_front : (before after count : ℕ) (message translated missing : List ℕ) → length translated ≡ length message
    → drop count translated ≡ drop count message → before ≢ 0 → after ≢ 0
    → ((sum : ℕ) → IsAcceptedAlike (before + sum) (after + sum) message translated)
    → IsAllOnes (after + total (take count translated ++ missing)) ↔ IsAllOnes (before + total (take count message ++ missing))
alike_in_front before after count message translated missing len same some some_too alike =
    let front : List ℕ = take count message in
    let front_too : List ℕ = take count translated in
    let front_len : length front_too ≡ length front =
    omega (arith, length-take count translated, length-take count message, len) in
    let more : ℕ = sum_after front missing in
    let rest : ℕ = sum_after front (drop count message) in
    let was : ℕ = before + total (front ++ missing) in
    let is : ℕ = after + total (front_too ++ missing) in
    let message_is : total message ≡ total front + rest =
    ap total (sym (take-append-drop count message)) ∙ joined_total front (drop count message) in
    let translated_is : total translated ≡ total front_too + rest =
    ap total (sym (take-append-drop count translated)) ∙ joined_total front_too (drop count translated)
    ∙ ap (λ bytes. total front_too + sum_after front_too bytes) same
    ∙ ap (λ n. total front_too + n) (sum_after_alike front_too front (drop count message) front_len) in
    let whole : before + (more + rest * 65534) + total message ≡ was + rest * 65535 =
    omega (arith, message_is, joined_total front missing) in
    let whole_too : after + (more + rest * 65534) + total translated ≡ is + rest * 65535 =
    omega (arith, translated_is, joined_total front_too missing, sum_after_alike front_too front missing front_len) in
    let all : IsAcceptedAlike (before + (more + rest * 65534)) (after + (more + rest * 65534)) message translated =
    alike (more + rest * 65534) in
    let then_was = ones_and_more was rest (λ none. some (omega (arith, none))) in
    let then_is = ones_and_more is rest (λ none. some_too (omega (arith, none))) in (
      λ ones. then_was.0 (ap folded (sym whole) ∙ all.0 (ap folded whole_too ∙ then_is.1 ones)),
      λ ones. then_is.0 (ap folded (sym whole_too) ∙ all.1 (ap folded whole ∙ then_was.1 ones)),
    )

drop_number : (there : Bool) (place value n : ℕ) (bytes : List ℕ) → there ≡ nat_le (place + 2) (length bytes) → place + 2 ≤ n
    → drop n (if there then with_checksum place bytes value else bytes) ≡ drop n bytes
drop_number false place value n bytes test after = refl
drop_number true place value n bytes test after = drop_after place (to_be_bytes w16 value) bytes (grind (arith, nat_tests)) n after

drop_with_number : (place value n : ℕ) (bytes : List ℕ) → place + 2 ≤ n → drop n (with_number place value bytes) ≡ drop n bytes
drop_with_number place value n bytes after = drop_number (nat_le (place + 2) (length bytes)) place value n bytes refl after

-- the translation of a UDP packet does not change the bytes after its header
after_udp : (n old new : ℕ) (source destination : Option ℕ) (packet : List ℕ) → 8 ≤ n
    → drop n (translated_udp old new source destination packet) ≡ drop n packet
after_udp n old new source destination packet after =
    drop_with_number 6 _ n _ after ∙ drop_with_number 2 _ n _ (omega (arith, after)) ∙ drop_with_number 0 _ n packet (omega (arith, after))

-- the law for a message of this protocol
alike_by_proto : (proto : Proto) (removed added before after count : ℕ) (source destination : Option ℕ)
    (message translated missing : List ℕ)
    → HaveSums proto removed added before after → IsUpdated proto message → length translated ≡ length message
    → translated ≡ translated_message proto removed added source destination message
    → ((before after : ℕ) → HaveSums proto removed added before after → IsUpdated proto message
    → IsAcceptedAlike before after message translated)
    → least_summed proto (length message) ≤ count
    → IsAllOnes (after + total (take count translated ++ missing)) ↔ IsAllOnes (before + total (take count message ++ missing))
alike_by_proto protos.Udp removed added before after count source destination message translated missing have updated len is alike least =
    alike_in_front before after count message translated missing len
    (ap (drop count) is ∙ after_udp count removed added source destination message least)
    have.1 have.2 (λ sum. alike (before + sum) (after + sum) (have_sums_and protos.Udp removed added before after sum have) updated)
alike_by_proto protos.Tcp removed added before after count source destination message translated missing have updated len is alike least =
    alike_within before after count message translated missing len least
    (λ sum. alike (before + sum) (after + sum) (have_sums_and protos.Tcp removed added before after sum have) updated)
alike_by_proto protos.Icmpv4 removed added before after count source destination message translated missing have updated len is alike least
    =
    alike_within before after count message translated missing len least
    (λ sum. alike (before + sum) (after + sum) (have_sums_and protos.Icmpv4 removed added before after sum have) updated)
alike_by_proto protos.Icmpv6 removed added before after count source destination message translated missing have updated len is alike least
    =
    alike_within before after count message translated missing len least
    (λ sum. alike (before + sum) (after + sum) (have_sums_and protos.Icmpv6 removed added before after sum have) updated)

-- ---- a receiver's check of a translated IPv4 packet

-- the translated message of a known protocol that is not a later fragment
translated_known : (is_later_fragment : Bool) (known : Option Proto) (proto : Proto) (removed added : ℕ) (source destination : Option ℕ)
    (message : List ℕ)
    → known ≡ Some proto → is_later_fragment ≡ false
    → translated_in is_later_fragment known removed added source destination message
    ≡ translated_message proto removed added source destination message
translated_known is_later_fragment known proto removed added source destination message is later =
    ap (λ known. translated_in is_later_fragment known removed added source destination message) is
    ∙ ap (λ later. if later then message else translated_message proto removed added source destination message) later

-- a range within the packet has its length
pub range_len : (from n : ℕ) (packet : List ℕ) → from + n ≤ length packet → length (take n (drop from packet)) ≡ n
range_len from n packet there = length-take-le n (drop from packet) (omega (arith, there, length-drop from packet))

-- the addresses of a packet have four bytes
pub ipv4_addresses_there : (packet : List ℕ) → 20 ≤ length packet → AreAddresses ipv4 (addresses_of ipv4 packet)
ipv4_addresses_there packet there =
    record {
      source = range_len 12 4 packet (omega (arith, there));
      destination = range_len 16 4 packet (omega (arith, there));
    }

-- the addresses of a packet have 16 bytes
pub ipv6_addresses_there : (packet : List ℕ) → 40 ≤ length packet → AreAddresses ipv6 (addresses_of ipv6 packet)
ipv6_addresses_there packet there =
    record {
      source = range_len 8 16 packet (omega (arith, there));
      destination = range_len 24 16 packet (omega (arith, there));
    }

pub verifies : (family : Family) (headers : HavePseudoHeaders family) (new : Translation) (packet message bytes translated : List ℕ)
    (place : Place) (removed added : ℕ) → place.proto ≡ family.proto packet → place.is_later_fragment ≡ family.is_later_fragment packet
    → bytes ≡ message → translated ≡ flow_message family new message packet
    → AreUpdatedAlike removed added (sum_of (addresses_of family packet)) (sum_of (new_addresses family new packet))
    → AreAddresses family (addresses_of family packet) → AreAddresses family (new_addresses family new packet)
    → (place.is_later_fragment ≡ false → (proto : Proto) → place.proto ≡ Some proto → (before after : ℕ)
    → HaveSums proto removed added before after
    → IsUpdated proto bytes → IsAcceptedAlike before after bytes translated)
    → IsAcceptedBy family new message packet (flow_message family new message packet)
verifies family headers new packet message bytes translated place removed added at_proto at_later bytes_is translated_is is_alike are
    are_too alike = λ proto known later updated.
    let old : AddressPair = addresses_of family packet in
    let next : AddressPair = new_addresses family new packet in
    let to : List ℕ = flow_message family new message packet in
    let before : ℕ → ℕ = λ len. total (pseudo_header_of family proto old len) in
    let after : ℕ → ℕ = λ len. total (pseudo_header_of family proto next len) in
    let sums : (len : ℕ) → HaveSums proto (sum_of old) (sum_of next) (before len) (after len) =
    λ len. have_sums family headers proto old next len are are_too in
    let alike_too : (before after : ℕ) → HaveSums proto (sum_of old) (sum_of next) before after → IsUpdated proto message
    → IsAcceptedAlike before after message to = λ before after have updated.
    subst (IsAcceptedAlike before after message) translated_is
    (subst (λ bytes. IsAcceptedAlike before after bytes translated) bytes_is (alike (at_later ∙ later) proto (at_proto ∙ known) before after
    (sums_alike proto removed added (sum_of old) (sum_of next) before after is_alike have)
    (subst (IsUpdated proto) (sym bytes_is) updated))) in
    let flow : to ≡ translated_message proto (sum_of old) (sum_of next) new.source_port new.destination_port message =
    translated_known (family.is_later_fragment packet) (family.proto packet) proto _ _ new.source_port new.destination_port message known
    later in
    record {
      whole = alike_too (before (length message)) (after (length message)) (sums (length message)) updated;
      received = λ len count missing least.
          alike_by_proto proto _ _ (before len) (after len) count new.source_port new.destination_port message to missing (sums len) updated
          (part_len (family.is_later_fragment packet) (family.proto packet) _ _ new.source_port new.destination_port message) flow alike_too
          least;
    }

-- ---- a query quotes no packet

last : (a b : Bool) → (a && b) ≡ true → b ≡ true
last true b is = is
last false b is = absurd (cc is)

-- one of two tests holds, so the number is the first number, or the rest holds
either_by : (n first : ℕ) (is_first : Bool) (rest : Bool) → is_first ≡ (n == first) → (is_first || rest) ≡ true
    → (n ≡ first) ⊎ (rest ≡ true)
either_by n first true rest test is = inl (is_number n first (sym test))
either_by n first false rest test is = inr is

either : (n first : ℕ) (rest : Bool) → ((n == first) || rest) ≡ true → (n ≡ first) ⊎ (rest ≡ true)
either n first rest is = either_by n first (n == first) rest refl is

-- a property that each of four numbers has
one_of_four : (P : ℕ → Type 0) (n a b c d : ℕ) → (n == a || (n == b || (n == c || n == d))) ≡ true → P a → P b → P c → P d → P n
one_of_four P n a b c d is at_a at_b at_c at_d =
    ⊎_elim (λ same. subst P (sym same) at_a)
    (λ is. ⊎_elim (λ same. subst P (sym same) at_b)
    (λ is. ⊎_elim (λ same. subst P (sym same) at_c) (λ is. subst P (sym (is_number n d is)) at_d)
    (either n c (n == d) is)) (either n b (n == c || n == d) is)) (either n a (n == b || (n == c || n == d)) is)

-- a test for a request or a reply
request_or_reply : (is_a_request is_a_reply : Bool) → (is_a_request || is_a_reply) ≡ true → (is_a_request ≡ true) ⊎ (is_a_reply ≡ true)
request_or_reply true is_a_reply is = inl refl
request_or_reply false is_a_reply is = inr is

abbrev icmpv4_quote : List ℕ → ℕ → Option (List ℕ)
icmpv4_quote message type =
    if type == 3 || (type == 11 || type == 12) then Some (counted (slice_index message 5 * 4) (drop 8 message))
    else (if type == 4 || type == 5 then Some (drop 8 message) else None)

icmpv4_none : (message : List ℕ) → is_query protos.Icmpv4 message ≡ true → quoted_by_icmpv4 message ≡ None
icmpv4_none message is =
    let type : ℕ = slice_index message 0 in
    ⊎_elim (λ request. one_of_four (λ type. icmpv4_quote message type ≡ None) type 8 13 15 17 request refl refl refl refl)
    (λ reply. one_of_four (λ type. icmpv4_quote message type ≡ None) type 0 14 16 18 reply refl refl refl refl)
    (request_or_reply (is_request protos.Icmpv4 type) (is_reply protos.Icmpv4 type) (last _ _ is))

icmpv4_zero : (message : List ℕ) → slice_index message 0 ≡ 0 → quoted_by_icmpv4 message ≡ None
icmpv4_zero message is = ap (icmpv4_quote message) is

pub icmpv6_type : (message : List ℕ) → is_query protos.Icmpv6 message ≡ true → (slice_index message 0 ≡ 128) ⊎ (slice_index message 0 ≡ 129)
icmpv6_type message is =
    let type : ℕ = slice_index message 0 in
    ⊎_elim (λ request. inl request) (λ reply. inr (is_number type 129 reply)) (either type 128 (type == 129) (last _ _ is))

icmpv6_none : (message : List ℕ) → (slice_index message 0 ≡ 128) ⊎ (slice_index message 0 ≡ 129) → quoted_by_icmpv6 message ≡ None
icmpv6_none message (inl is) =
    ap (λ type. if type == 1 || type == 3 then Some (counted (slice_index message 4 * 8) (drop 8 message))
    else (if nat_lt type 128 then Some (drop 8 message) else None)) is
icmpv6_none message (inr is) =
    ap (λ type. if type == 1 || type == 3 then Some (counted (slice_index message 4 * 8) (drop 8 message))
    else (if nat_lt type 128 then Some (drop 8 message) else None)) is

no_quote : (proto : Proto) (message : List ℕ) → IsUpdated proto message → quoted_by proto message ≡ None
no_quote protos.Udp message updated = refl
no_quote protos.Tcp message updated = refl
no_quote protos.Icmpv4 message updated = icmpv4_none message updated.1
no_quote protos.Icmpv6 message updated = icmpv6_none message (icmpv6_type message updated.1)

-- a packet that quotes a packet has no message whose checksum is updated
pub quoting_accepted : (family : Family) (new : Translation) (packet quoted translated : List ℕ) → quoted_packet family packet ≡ Some quoted
    → IsAcceptedBy family new (message_in family false packet) packet translated
quoting_accepted family new packet quoted translated quotes = λ proto known later updated.
    let message : List ℕ = message_in family false packet in
    let none : quoted_packet family packet ≡ None =
    ap (λ proto. quoted_in (family.is_later_fragment packet) proto message) known ∙ ap (λ later. quoted_in later (Some proto) message) later
    ∙ no_quote proto message updated in
    absurd (cc (none, quotes))

-- the protocol over IPv4 is never ICMPv6
no_icmpv6 : (is_udp is_tcp is_icmp : Bool)
    → (if is_udp then Some protos.Udp else if is_tcp then Some protos.Tcp else if is_icmp then Some protos.Icmpv4 else None)
    ≢ Some protos.Icmpv6
no_icmpv6 true is_tcp is_icmp is = cc is
no_icmpv6 false true is_icmp is = cc is
no_icmpv6 false false true is = cc is
no_icmpv6 false false false is = cc is

-- the type of an ICMPv4 message that quotes a packet is not 0
quotes_some : (is_later_fragment : Bool) (proto : Option Proto) (message quoted : List ℕ) → proto ≢ Some protos.Icmpv6
    → quoted_in is_later_fragment proto message ≡ Some quoted → slice_index message 0 ≢ 0
quotes_some is_later_fragment None message quoted other quotes = absurd (cc quotes)
quotes_some true (Some proto) message quoted other quotes = absurd (cc quotes)
quotes_some false (Some protos.Udp) message quoted other quotes = absurd (cc quotes)
quotes_some false (Some protos.Tcp) message quoted other quotes = absurd (cc quotes)
quotes_some false (Some protos.Icmpv4) message quoted other quotes = λ zero. absurd (cc (icmpv4_zero message zero, quotes))
quotes_some false (Some protos.Icmpv6) message quoted other quotes = absurd (other refl)

pub ipv4_error_accepted : (packet quoted translated : List ℕ) → ipv4_quoted packet ≡ Some quoted
    → length translated ≡ length (message_in_ipv4 false packet)
    → (slice_index (message_in_ipv4 false packet) 0 ≢ 0 → (sum : ℕ) → IsAcceptedAlike sum sum (message_in_ipv4 false packet) translated)
    → IsIpv4ErrorAccepted packet translated
ipv4_error_accepted packet quoted translated quotes len accepted = λ other is.
    let message : List ℕ = message_in_ipv4 false packet in
    let alike : (sum : ℕ) → IsAcceptedAlike sum sum message translated =
    accepted (quotes_some (ipv4_is_later_fragment packet) (ipv4_proto packet) message quoted (no_icmpv6 _ _ _) quotes) in
    record {
      whole = alike 0;
      received = λ n count missing least. alike_within 0 0 count message translated missing len least
          (λ sum. subst (λ n. IsAcceptedAlike n n message translated) (omega arith) (alike sum));
    }

pub ipv6_error_accepted : (new : Ipv6Translation) (packet quoted translated : List ℕ) → 40 ≤ length packet
    → ipv6_quoted packet ≡ Some quoted
    → AreIpv6Addresses (ipv6_addresses new packet) → length translated ≡ length (message_in_ipv6 packet)
    → ((before after : ℕ) → TurnsIntoBy (sum_of_ipv6 (ipv6_header_of packet)) (sum_of_ipv6 (ipv6_addresses new packet)) before after
    → before ≢ 0 → after ≢ 0 → IsAcceptedAlike before after (message_in_ipv6 packet) translated)
    → IsIpv6ErrorAccepted new packet translated
ipv6_error_accepted new packet quoted translated there quotes four len accepted = λ other is.
    let message : List ℕ = message_in_ipv6 packet in
    let old : AddressPair = addresses_of ipv6 packet in
    let next : AddressPair = new_addresses ipv6 (of_ipv6 new) packet in
    let before : ℕ → ℕ = λ len. total (pseudo_header_of ipv6 protos.Icmpv6 old len) in
    let after : ℕ → ℕ = λ len. total (pseudo_header_of ipv6 protos.Icmpv6 next len) in
    let both : (len : ℕ) → HaveSums protos.Icmpv6 (sum_of old) (sum_of next) (before len) (after len) =
    λ len. have_sums ipv6 ipv6_pseudo_headers protos.Icmpv6 old next len (ipv6_addresses_there packet there) four in
    let alike : (len sum : ℕ) → IsAcceptedAlike (before len + sum) (after len + sum) message translated = λ len sum.
    let sums = have_sums_and protos.Icmpv6 _ _ (before len) (after len) sum (both len) in
    accepted (before len + sum) (after len + sum) sums.0 sums.1 sums.2 in
    let sums = both (length message) in
    record {
      whole = accepted (before (length message)) (after (length message)) sums.0 sums.1 sums.2;
      received = λ n count missing least. alike_within (before n) (after n) count message translated missing len least (alike n);
    }

-- a fact about a success that follows from another
pub if_ok_then : {T E : Type 0} {P Q : Type 0} (result : Result T E) → IfOk result (λ value. P) → (P → Q) → IfOk result (λ value. Q)
if_ok_then (Ok value) p then_q = then_q p
if_ok_then (Err error) p then_q = tt

pub if_ok_both : {T E : Type 0} {P Q R : Type 0} (result : Result T E) → IfOk result (λ value. P) → IfOk result (λ value. Q) → (P → Q → R)
    → IfOk result (λ value. R)
if_ok_both (Ok value) p q then_r = then_r p q
if_ok_both (Err error) p q then_r = tt

-- a fact about a success that follows from four others
pub if_ok_four : {T E : Type 0} {P Q R S U : Type 0} (result : Result T E) → IfOk result (λ value. P) → IfOk result (λ value. Q)
    → IfOk result (λ value. R) → IfOk result (λ value. S) → (P → Q → R → S → U) → IfOk result (λ value. U)
if_ok_four (Ok value) p q r s then_u = then_u p q r s
if_ok_four (Err error) p q r s then_u = tt

-- a success had no reason for an error
pub if_ok_accepted : {T E : Type 0} (result : Result T E) (refusal : Option E) → RefusesExactly result refusal
    → IfOk result (λ value. refusal ≡ None)
if_ok_accepted (Ok value) refusal refused = refused
if_ok_accepted (Err error) refusal refused = tt

-- a fact holds for each value of a success
pub if_ok_too : {T E : Type 0} {P : Type 0} (result : Result T E) → P → IfOk result (λ value. P)
if_ok_too (Ok value) p = p
if_ok_too (Err error) p = tt

-- ---- the header of an IPv4 packet

-- the sum changes by the bytes that are replaced at an even place
pub bytes_total : (place : ℕ) (new bytes : List ℕ) → place % 2 ≡ 0 → place + length new ≤ length bytes
    → total (with_bytes place new bytes) + total (take (length new) (drop place bytes)) ≡ total bytes + total new
bytes_total place new bytes even there =
    let front : List ℕ = take place bytes in
    let old : List ℕ = take (length new) (drop place bytes) in
    let back : List ℕ = drop (place + length new) bytes in
    let front_even : length front % 2 ≡ 0 = ap (λ n. n % 2) (length-take-le place bytes (omega (arith, there))) ∙ even in
    let parts : bytes ≡ front ++ (old ++ back) =
    sym (take-append-drop place bytes)
    ∙ ap (λ rest. front ++ rest) (sym (take-append-drop (length new) (drop place bytes))
    ∙ ap (λ rest. old ++ rest) (drop-drop (length new) place bytes)) in
    let same : length old % 2 ≡ length new % 2 = ap (λ n. n % 2) (range_len place (length new) bytes there) in
    omega (arith, ap total parts, total_replaced front old new back front_even same)

-- the sum of a packet is the sum of its header and of the bytes after the header
pub front_total : (n : ℕ) (bytes : List ℕ) → n % 2 ≡ 0 → n ≤ length bytes → total (take n bytes) + total (drop n bytes) ≡ total bytes
front_total n bytes even there =
    sym (ap total (sym (take-append-drop n bytes))
    ∙ total-append (take n bytes) (drop n bytes) (ap (λ n. n % 2) (length-take-le n bytes there) ∙ even))

-- the sum of a packet whose addresses are replaced
pub addresses_total : (first second n : ℕ) (source destination bytes : List ℕ) → first % 2 ≡ 0 → second % 2 ≡ 0 → first + n ≤ second
    → length source ≡ n → length destination ≡ n → second + n ≤ length bytes
    → total (with_bytes second destination (with_bytes first source bytes))
    + (total (take n (drop first bytes)) + total (take n (drop second bytes)))
    ≡ total bytes + (total source + total destination)
addresses_total first second n source destination bytes even even_too apart is is_too there =
    let middle : List ℕ = with_bytes first source bytes in
    let first_there : first + length source ≤ length bytes = omega (arith, apart, is, there) in
    let middle_len : length middle ≡ length bytes = length_kept first source bytes first_there in
    let old_source : take (length source) (drop first bytes) ≡ take n (drop first bytes) = ap (λ n. take n (drop first bytes)) is in
    let old_destination : take (length destination) (drop second middle) ≡ take n (drop second bytes) =
    ap (λ n. take n (drop second middle)) is_too ∙ ap (take n) (drop_after first source bytes first_there second (omega (arith, is, apart)))
    in
    omega (
      arith,
      bytes_total first source bytes even first_there,
      bytes_total second destination middle even_too (omega (arith, is_too, there, middle_len)),
      ap total old_source,
      ap total old_destination,
    )

-- the checksum and the addresses in the header of a packet are replaced
module _ (checksum : ℕ) (source destination packet : List ℕ) (four : length source ≡ 4) (four_too : length destination ≡ 4)
    (there : 20 ≤ length packet) where
  abbrev stored : List ℕ
  stored = with_checksum 10 packet checksum

  stored_len : length stored ≡ length packet
  stored_len = length_kept 10 (to_be_bytes w16 checksum) packet (omega (arith, there))

  stored_after : (n : ℕ) → 12 ≤ n → drop n stored ≡ drop n packet
  stored_after n after = drop_after 10 (to_be_bytes w16 checksum) packet (omega (arith, there)) n (omega (arith, after))

  room : 20 ≤ length stored
  room = omega (arith, there, stored_len)

  -- the sum of the packet
  pub packet_total : checksum < 65536 → total (with_bytes 16 destination (with_bytes 12 source stored))
      + (number 10 packet + (total (slice_range packet 12 16) + total (slice_range packet 16 20)))
      ≡ total packet + (checksum + (total source + total destination))
  packet_total small =
      omega (
        arith,
        stored_number_total 10 checksum packet refl small (omega (arith, there)),
        addresses_total 12 16 4 source destination stored refl refl (omega arith) four four_too room,
        ap (λ bytes. total (take 4 bytes)) (stored_after 12 (omega arith)),
        ap (λ bytes. total (take 4 bytes)) (stored_after 16 (omega arith)),
      )

  -- the bytes after the header do not change
  after_header : (len : ℕ) → 20 ≤ len → drop len (with_bytes 16 destination (with_bytes 12 source stored)) ≡ drop len packet
  after_header len five =
      both_after 12 16 4 source destination stored (omega arith) four four_too room len five ∙ stored_after len (omega (arith, five))

  packet_len : length (with_bytes 16 destination (with_bytes 12 source stored)) ≡ length packet
  packet_len = both_len 12 16 4 source destination stored (omega arith) four four_too room ∙ stored_len

  new_first : slice_index (with_bytes 16 destination (with_bytes 12 source stored)) 0 ≡ slice_index packet 0
  new_first =
      both_before 12 16 4 source destination stored (omega arith) four four_too room 0 (omega arith)
      ∙ index_before 10 (to_be_bytes w16 checksum) packet (omega (arith, there)) 0 (omega arith)

-- the sum of the header of a packet whose checksum and addresses are replaced
header_total : (len checksum : ℕ) (source destination packet : List ℕ) → checksum < 65536 → length source ≡ 4 → length destination ≡ 4
    → len % 2 ≡ 0 → 20 ≤ len → len ≤ length packet
    → total (take len (with_bytes 16 destination (with_bytes 12 source (with_checksum 10 packet checksum))))
    + (number 10 packet + (total (slice_range packet 12 16) + total (slice_range packet 16 20)))
    ≡ total (take len packet) + (checksum + (total source + total destination))
header_total len checksum source destination packet small four four_too even five there =
    let new : List ℕ = with_bytes 16 destination (with_bytes 12 source (with_checksum 10 packet checksum)) in
    let long : 20 ≤ length packet = omega (arith, five, there) in
    omega (
      arith,
      packet_total checksum source destination packet four four_too long small,
      front_total len packet even there,
      front_total len new even (omega (arith, packet_len checksum source destination packet four four_too long, there)),
      ap total (after_header checksum source destination packet four four_too long len five),
    )

long_enough : (packet : List ℕ) → 12 ≤ length packet → nat_le 12 (length packet) ≡ true
long_enough packet there = grind (arith, nat_tests)

-- the checksum in the header is the number at its place in the packet
header_number : (len : ℕ) (packet : List ℕ) → 20 ≤ len → len ≤ length packet → number 10 (take len packet) ≡ number 10 packet
header_number len packet five there =
    ap (λ b. if b then be_number (take len packet) 10 2 else 0)
    (long_enough (take len packet) (omega (arith, five, length-take-le len packet there)))
    ∙ number_at true 10 packet (take len packet) (get_or-take len packet 10 0 (omega (arith, five)))
    (get_or-take len packet 11 0 (omega (arith, five)))
    ∙ sym (ap (λ b. if b then be_number packet 10 2 else 0) (long_enough packet (omega (arith, five, there))))

pub header_accepted : (len : ℕ) (packet source destination : List ℕ) (checksum : ℕ) → len % 2 ≡ 0 → 20 ≤ len → len ≤ length packet
    → slice_index packet 0 ≢ 0 → length source ≡ 4 → length destination ≡ 4 → checksum < 65536
    → ((before after : ℕ) → TurnsIntoBy (sum_of_pieces 0 (slice_range packet 12 16 ∷ slice_range packet 16 20 ∷ []))
    (sum_of_pieces 0 (source ∷ destination ∷ [])) before after → (after + checksum) % 65535 ≡ (before + number 10 packet) % 65535)
    → (IsAllOnes (total (take len (with_bytes 16 destination (with_bytes 12 source (with_checksum 10 packet checksum))))))
    ↔ (IsAllOnes (total (take len packet)))
header_accepted len packet source destination checksum even five there some four four_too small remainder =
    let new : List ℕ = with_bytes 16 destination (with_bytes 12 source (with_checksum 10 packet checksum)) in
    let without : ℕ = total (with_checksum 10 (take len packet) 0) in
    let without_too : ℕ = total (take len (with_bytes 16 destination (with_bytes 12 source (with_checksum 10 packet 0)))) in
    let old : ℕ = total (slice_range packet 12 16) in
    let old_too : ℕ = total (slice_range packet 16 20) in
    let whole : length (take len packet) ≡ len = length-take-le len packet there in
    let was : without + number 10 (take len packet) ≡ total (take len packet) + 0 =
    stored_number_total 10 0 (take len packet) refl (omega arith) (omega (arith, whole, five)) in
    let zero = header_total len 0 source destination packet (omega arith) four four_too even five there in
    let is = header_total len checksum source destination packet small four four_too even five there in
    let number_is = header_number len packet five there in
    let turned : TurnsIntoBy (sum_of_pieces 0 (slice_range packet 12 16 ∷ slice_range packet 16 20 ∷ []))
    (sum_of_pieces 0 (source ∷ destination ∷ [])) without without_too =
    ap folded (omega arith)
    ∙ turns_by_two 0 0 0 0 old old_too (total source) (total destination) without without_too refl (omega (arith, was, zero, number_is))
    ∙ ap folded (omega arith) in
    let sum : total (take len packet) ≡ without + number 10 packet = omega (arith, was, number_is) in
    let sum_too : total (take len new) ≡ without_too + checksum = omega (arith, zero, is) in
    let first : slice_index (take len packet) 0 ≢ 0 = λ none. some (sym (get_or-take len packet 0 0 (omega (arith, five))) ∙ none) in
    let first_too : slice_index (take len new) 0 ≢ 0 = λ none.
    some (sym (get_or-take len new 0 0 (omega (arith, five))
    ∙ new_first checksum source destination packet four four_too (omega (arith, five, there))) ∙ none) in
    both_accepted (total (take len packet)) (total (take len new))
    (ap (λ n. n % 65535) sum_too ∙ remainder without without_too turned ∙ sym (ap (λ n. n % 65535) sum))
    (first_counts (take len packet) first) (first_counts (take len new) first_too)

-- the length of a header is even
pub even_len : (byte : ℕ) → (byte % 16 * 4) % 2 ≡ 0
even_len byte = omega arith

-- the first byte of an IPv4 header is not 0, since it contains the header length
pub first_byte_some : (byte : ℕ) → 20 ≤ byte % 16 * 4 → byte ≢ 0
first_byte_some byte five none = absurd (omega (arith, five, none))

-- the first byte of a packet is not 0, since it contains the version
pub not_zero_by : (byte version : ℕ) → byte / 16 ≡ suc version → byte ≢ 0
not_zero_by byte version is none = absurd (omega (arith, is, none))

-- the header in front of another message
pub header_in_front : (packet changed message found : List ℕ) (place : Place) → IsIpv4Place found packet place
    → (20 ≤ ipv4_header_len (put_mid place.start (place.end - place.start) packet message)
    → ipv4_header_len (put_mid place.start (place.end - place.start) packet message)
    ≤ length (put_mid place.start (place.end - place.start) packet message)
    → IsHeaderAccepted (put_mid place.start (place.end - place.start) packet message) changed)
    → length (put_mid place.start (place.end - place.start) packet message) ≡ length packet
    → IsHeaderAccepted packet changed
header_in_front packet changed message found place at accepted same =
    let between : List ℕ = put_mid place.start (place.end - place.start) packet message in
    let there : place.start ≤ length packet = omega (arith, at.ordered, at.there) in
    let front : take place.start between ≡ take place.start packet = take_put place.start (place.end - place.start) packet message there in
    let first : slice_index between 0 ≡ slice_index packet 0 =
    sym (get_or-take place.start between 0 0 (omega (arith, at.header))) ∙ ap (λ bytes. slice_index bytes 0) front
    ∙ get_or-take place.start packet 0 0 (omega (arith, at.header)) in
    let len : ipv4_header_len between ≡ ipv4_header_len packet = ap (λ byte. byte % 16 * 4) first in
    let header : take (ipv4_header_len packet) between ≡ take (ipv4_header_len packet) packet =
    subst (λ n. take n between ≡ take n packet) at.start front in
    subst (λ bytes. (Verifies [] (take (ipv4_header_len packet) changed)) ↔ (Verifies [] bytes)) header
    (subst (λ n. (Verifies [] (take n changed)) ↔ (Verifies [] (take n between))) len
    (accepted (omega (arith, len, at.start, at.header)) (omega (arith, len, at.start, there, same))))

-- ---- all that is replaced in a packet

-- The sums of all replaced words, from the sums of the packet and of its message before and after: first the message is replaced, then the
-- addresses and the checksum of the header.
pub flow_turns : (packet between changed message translated : ℕ) (source destination source_too destination_too : List ℕ)
    → (old_sum new_sum old new removed added : ℕ)
    → AreUpdatedAlike old_sum new_sum (sum_of_pieces 0 (source ∷ destination ∷ [])) (sum_of_pieces 0 (source_too ∷ destination_too ∷ []))
    → folded (old_sum + message + added) ≡ folded (new_sum + translated + removed)
    → between + message ≡ packet + translated
    → changed + (old + (total source + total destination)) ≡ between + (new + (total source_too + total destination_too))
    → (packet + (added + new)) % 65535 ≡ (changed + (removed + old)) % 65535
flow_turns packet between changed message translated source destination source_too destination_too old_sum new_sum old new removed added
    alike turns is is_too =
    omega (
      arith,
      remainder_alike _ _ turns,
      difference_alike _ _ _ _ alike,
      two_pieces source destination,
      two_pieces source_too destination_too,
      is,
      is_too,
    )

-- the sum of a packet whose message is replaced
pub message_total : (place end : ℕ) (packet message : List ℕ) → place % 2 ≡ 0 → length message ≡ end - place → place ≤ end
    → end ≤ length packet
    → total (put_mid place (end - place) packet message) + total (slice_range packet place end) ≡ total packet + total message
message_total place end packet message even len within there =
    ap (λ bytes. total bytes + total (slice_range packet place end)) (put_is place end packet message len)
    ∙ ap (λ n. total (with_bytes place message packet) + total (take n (drop place packet))) (sym len)
    ∙ bytes_total place message packet even (omega (arith, len, within, there))

-- ---- the addresses with another message

pub range_in_front : (start len n : ℕ) (bytes : List ℕ) → start + len ≤ n
    → take len (drop start (take n bytes)) ≡ take len (drop start bytes)
range_in_front start len n bytes within =
    let more : n ≡ start + (n - start) = omega (arith, within) in
    ap (λ n. take len (drop start (take n bytes))) more ∙ ap (take len) (drop-take start (n - start) bytes)
    ∙ take-take len (n - start) (drop start bytes) (omega (arith, within))

same_range : (start len n : ℕ) (bytes changed : List ℕ) → take n changed ≡ take n bytes → start + len ≤ n
    → take len (drop start changed) ≡ take len (drop start bytes)
same_range start len n bytes changed same within =
    sym (range_in_front start len n changed within) ∙ ap (λ bytes. take len (drop start bytes)) same
    ∙ range_in_front start len n bytes within

pub ipv4_header_put : (start n : ℕ) (packet message : List ℕ) → 20 ≤ start → start ≤ length packet
    → ipv4_header_of (put_mid start n packet message) ≡ ipv4_header_of packet
ipv4_header_put start n packet message after there =
    let changed : List ℕ = put_mid start n packet message in
    let front : take start changed ≡ take start packet = take_put start n packet message there in
    ap (λ source. record { source = source; destination = slice_range changed 16 20 })
    (same_range 12 4 start packet changed front (omega (arith, after)))
    ∙ ap (λ destination. record { source = slice_range packet 12 16; destination = destination })
    (same_range 16 4 start packet changed front (omega (arith, after)))

pub ipv6_header_put : (start n : ℕ) (packet message : List ℕ) → 40 ≤ start → start ≤ length packet
    → ipv6_header_of (put_mid start n packet message) ≡ ipv6_header_of packet
ipv6_header_put start n packet message after there =
    let changed : List ℕ = put_mid start n packet message in
    let front : take start changed ≡ take start packet = take_put start n packet message there in
    ap (λ source. record { source = source; destination = slice_range changed 24 40 })
    (same_range 8 16 start packet changed front (omega (arith, after)))
    ∙ ap (λ destination. record { source = slice_range packet 8 24; destination = destination })
    (same_range 24 16 start packet changed front (omega (arith, after)))

-- ---- the checksum of an ICMP error

-- two changes update a checksum alike if they have the same difference modulo 65535, and the added words are not 0
pub updated_alike : (checksum removed added removed_too added_too : ℕ) → removed < 65536 → removed_too < 65536 → added ≢ 0 → added_too ≢ 0
    → (added + removed_too) % 65535 ≡ (added_too + removed) % 65535
    → updated_checksum_of checksum removed added ≡ updated_checksum_of checksum removed_too added_too
updated_alike checksum removed added removed_too added_too small small_too some some_too same =
    let sum : ℕ = complement checksum + complement removed + added in
    let sum_too : ℕ = complement checksum + complement removed_too + added_too in
    ap complement ((folded_equal_iff sum sum_too).1 (
      omega (arith, small, small_too, same),
      (
        λ none. absurd (some (omega (arith, none))),
        λ none. absurd (some_too (omega (arith, none))),
      ),
    ))

-- the checksum of an error that is updated by the replaced words of the quoted packet is the checksum that is updated by all its bytes
pub quote_alike : (checksum old new quoted translated removed added : ℕ) → removed < 65536 → added ≢ 0 → translated ≢ 0
    → (new + translated + removed) % 65535 ≡ (old + quoted + added) % 65535
    → updated_checksum_of checksum removed added ≡ updated_checksum_of checksum (folded (old + quoted)) (folded (new + translated))
quote_alike checksum old new quoted translated removed added small some some_too same =
    updated_alike checksum removed added (folded (old + quoted)) (folded (new + translated)) small (folded-lt (old + quoted)) some
    (folded_some (new + translated) (λ none. some_too (omega (arith, none))))
    (omega (arith, same, folded-remainder (old + quoted), folded-remainder (new + translated)))

-- the words that differ turn the sum of one packet into the sum of another, if neither sum is 0
pub turned_by : (packet changed removed added : ℕ) → packet ≢ 0 → changed ≢ 0 → (packet + added) % 65535 ≡ (changed + removed) % 65535
    → folded (packet + added) ≡ folded (changed + removed)
turned_by packet changed removed added some some_too same =
    (folded_equal_iff (packet + added) (changed + removed)).1 (
      same,
      (
        λ none. absurd (some (omega (arith, none))),
        λ none. absurd (some_too (omega (arith, none))),
      ),
    )

pub first_put : (start n : ℕ) (bytes new : List ℕ) → 0 < start → start ≤ length bytes
    → slice_index (put_mid start n bytes new) 0 ≡ slice_index bytes 0
first_put start n bytes new some there =
    let changed : List ℕ = put_mid start n bytes new in
    sym (get_or-take start changed 0 0 some) ∙ ap (λ bytes. slice_index bytes 0) (take_put start n bytes new there)
    ∙ get_or-take start bytes 0 0 some

-- an error with an updated checksum, after its quoted packet is replaced
pub error_alike : (before after : ℕ) (message between translated : List ℕ) (quoted changed : ℕ)
    → total between + quoted ≡ total message + changed
    → (after + changed + total translated) % 65535 ≡ (before + quoted + total between) % 65535
    → before + total message ≢ 0 → after + total translated ≢ 0 → IsAcceptedAlike before after message translated
error_alike before after message between translated quoted changed replaced same some some_too =
    both_accepted (before + total message) (after + total translated) (omega (arith, replaced, same)) some some_too
