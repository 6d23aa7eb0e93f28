-- Changes that update each checksum alike. They differ only by words that are replaced by themselves.
use Rattle.std.proofs.Common.{◌≡◌, ◌≢◌, ℕ, zero, suc, ◌+◌, ◌%◌, ◌==◌, ◌<◌, Bool, length, replicate, if◌then◌else◌, List, [], ◌∷◌, Option, None, Some, inl, inr, refl, sym, ap, ◌∙◌, subst, arith}
use Rattle.std.specs.Int.{from_be_bytes, to_be_bytes, w16, w128}
use Rattle.ip_part.specs.declared.proto.Proto.{Proto}
use Rattle.ip_part.specs.declared.proto.Proto.TheVariants as protos
use Rattle.word_sum.specs.Checksum.{complement, folded, sum_of_pieces, total, zero_as_all_ones}
use Rattle.word_sum.specs.UpdatedChecksum.{TurnsIntoBy, updated_checksum_of}
use Rattle.word_sum.proofs.ChecksumChangeLemmas.{folded-remainder, remainder_alike}
use Rattle.word_sum.proofs.ChecksumLemmas.{folded-lt, folded-some, folded_equal_iff}
use Rattle.etherparse_transport.specs.Translations.{AreUpdatedAlike, HaveSums, IsSameChange, added_ports, is_query, new_identifier, number, port_or, removed_ports, translated_in, translated_message, translated_query, updated_query_checksum, with_identifier, with_number, with_ports, with_updated_checksum}

-- a sum is 0 only if all its words are 0
pub nothing : (n : ℕ) → folded n ≡ 0 → n ≡ 0
nothing zero none = refl
nothing (suc n) none = absurd (omega (arith, none, folded-some (suc n) (omega arith)))

-- ---- one checksum

-- two equal changes update a checksum alike
pub updated : (checksum removed added removed_too added_too : ℕ) → IsSameChange removed added removed_too added_too
    → updated_checksum_of checksum removed added ≡ updated_checksum_of checksum removed_too added_too
updated checksum removed added removed_too added_too same =
    let sum : ℕ = complement checksum + complement removed + added in
    let sum_too : ℕ = complement checksum + complement removed_too + added_too in
    ap complement ((folded_equal_iff sum sum_too).1 (
      omega (arith, same.difference, same.small, same.small_too),
      (λ none. absurd (same.some (omega (arith, none))), λ none. absurd (same.some_too (omega (arith, none)))),
    ))

-- two changes stay equal if both also replace these words
pub with_words : (removed added removed_too added_too old new : ℕ) → IsSameChange removed added removed_too added_too
    → IsSameChange (folded (removed + old)) (folded (added + new)) (folded (removed_too + old)) (folded (added_too + new))
with_words removed added removed_too added_too old new same = record {
  difference = omega (
    arith,
    same.difference,
    folded-remainder (removed + old),
    folded-remainder (added + new),
    folded-remainder (removed_too + old),
    folded-remainder (added_too + new),
  );
  some = λ none. same.some (omega (arith, nothing (added + new) none));
  some_too = λ none. same.some_too (omega (arith, nothing (added_too + new) none));
  small = omega (arith, folded-lt (removed + old));
  small_too = omega (arith, folded-lt (removed_too + old));
}

-- ---- a message

-- two changes stay equal if both also replace the ports
ports_alike : (removed added removed_too added_too : ℕ) (source destination : Option ℕ) (message : List ℕ)
    → IsSameChange removed added removed_too added_too
    → IsSameChange (removed_ports removed message) (added_ports added source destination message)
    (removed_ports removed_too message) (added_ports added_too source destination message)
ports_alike removed added removed_too added_too source destination message same =
    let word : ℕ → ℕ = λ word. total (to_be_bytes w16 word) in
    with_words _ _ _ _ (word (number 2 message)) (word (port_or destination 2 message))
    (with_words removed added removed_too added_too (word (number 0 message)) (word (port_or source 0 message)) same)

message_alike : (proto : Proto) (removed added removed_too added_too : ℕ) (source destination : Option ℕ) (message : List ℕ)
    → IsSameChange removed added removed_too added_too
    → translated_message proto removed added source destination message
    ≡ translated_message proto removed_too added_too source destination message
message_alike protos.Udp removed added removed_too added_too source destination message same =
    ap (λ checksum. with_number 6 (if number 6 message == 0 then 0 else zero_as_all_ones checksum) (with_ports source destination message))
    (updated (number 6 message) _ _ _ _ (ports_alike removed added removed_too added_too source destination message same))
message_alike protos.Tcp removed added removed_too added_too source destination message same =
    ap (λ checksum. with_number 16 checksum (with_ports source destination message))
    (updated (number 16 message) _ _ _ _ (ports_alike removed added removed_too added_too source destination message same))
message_alike protos.Icmpv4 removed added removed_too added_too source destination message same = refl
message_alike protos.Icmpv6 removed added removed_too added_too source destination message same =
    let identifier : Option ℕ = new_identifier protos.Icmpv6 source destination message in
    let word : ℕ → ℕ = λ word. total (to_be_bytes w16 word) in
    let query : translated_query removed added identifier message ≡ translated_query removed_too added_too identifier message =
    ap (λ checksum. with_number 2 (updated_query_checksum (with_identifier identifier message) checksum)
    (with_identifier identifier message))
    (updated (number 2 message) _ _ _ _
    (with_words removed added removed_too added_too (word (number 4 message)) (word (port_or identifier 4 message)) same)) in
    let other : with_updated_checksum removed added message ≡ with_updated_checksum removed_too added_too message =
    ap (λ checksum. with_number 2 checksum message) (updated (number 2 message) removed added removed_too added_too same) in
    ap (λ query. if is_query protos.Icmpv6 message then query else with_updated_checksum removed added message) query
    ∙ ap (λ other. if is_query protos.Icmpv6 message then translated_query removed_too added_too identifier message else other) other

-- two equal changes translate a message alike
pub translated_alike : (is_later_fragment : Bool) (proto : Option Proto) (removed added removed_too added_too : ℕ)
    (source destination : Option ℕ)
    (message : List ℕ) → AreUpdatedAlike removed added removed_too added_too
    → translated_in is_later_fragment proto removed added source destination message
    ≡ translated_in is_later_fragment proto removed_too added_too source destination message
translated_alike is_later_fragment None removed added removed_too added_too source destination message alike = refl
translated_alike is_later_fragment (Some proto) removed added removed_too added_too source destination message (inl equal) =
    ap (λ removed. translated_in is_later_fragment (Some proto) removed added source destination message) equal.0
    ∙ ap (λ added. translated_in is_later_fragment (Some proto) removed_too added source destination message) equal.1
translated_alike is_later_fragment (Some proto) removed added removed_too added_too source destination message (inr same) =
    ap (λ changed. if is_later_fragment then message else changed)
    (message_alike proto removed added removed_too added_too source destination message same)

-- ---- the pseudo headers

turn_alike : (removed added removed_too added_too before after : ℕ) → IsSameChange removed added removed_too added_too
    → before ≢ 0 → after ≢ 0 → TurnsIntoBy removed_too added_too before after → TurnsIntoBy removed added before after
turn_alike removed added removed_too added_too before after same some some_too turns =
    (folded_equal_iff (before + added) (after + removed)).1 (
      omega (arith, remainder_alike (before + added_too) (after + removed_too) turns, same.difference),
      (λ none. absurd (some (omega (arith, none))), λ none. absurd (some_too (omega (arith, none)))),
    )

same_sums : (proto : Proto) (removed added removed_too added_too before after : ℕ) → IsSameChange removed added removed_too added_too
    → HaveSums proto removed_too added_too before after → HaveSums proto removed added before after
same_sums protos.Udp removed added removed_too added_too before after same have =
    (turn_alike removed added removed_too added_too before after same have.1 have.2 have.0, have.1, have.2)
same_sums protos.Tcp removed added removed_too added_too before after same have =
    (turn_alike removed added removed_too added_too before after same have.1 have.2 have.0, have.1, have.2)
same_sums protos.Icmpv4 removed added removed_too added_too before after same have = have
same_sums protos.Icmpv6 removed added removed_too added_too before after same have =
    (turn_alike removed added removed_too added_too before after same have.1 have.2 have.0, have.1, have.2)

-- sums that fit one of two equal changes fit the other change
pub sums_alike : (proto : Proto) (removed added removed_too added_too before after : ℕ)
    → AreUpdatedAlike removed added removed_too added_too
    → HaveSums proto removed_too added_too before after → HaveSums proto removed added before after
sums_alike proto removed added removed_too added_too before after (inl equal) have =
    subst (λ removed. HaveSums proto removed added before after) (sym equal.0)
    (subst (λ added. HaveSums proto removed_too added before after) (sym equal.1) have)
sums_alike proto removed added removed_too added_too before after (inr same) have =
    same_sums proto removed added removed_too added_too before after same have

-- two equal changes have the same difference modulo 65535
pub difference_alike : (removed added removed_too added_too : ℕ) → AreUpdatedAlike removed added removed_too added_too
    → (removed + added_too) % 65535 ≡ (removed_too + added) % 65535
difference_alike removed added removed_too added_too (inl equal) = ap (λ n. n % 65535) (omega (arith, equal.0, equal.1))
difference_alike removed added removed_too added_too (inr same) = same.difference

-- ---- an address that stays

-- bytes with sum 0 are zeros
zeros : (bytes : List ℕ) → total bytes ≡ 0 → bytes ≡ replicate (length bytes) 0
zeros [] none = refl
zeros (first ∷ []) none = ap (λ first. first ∷ []) (omega (arith, none))
zeros (first ∷ (second ∷ rest)) none =
    ap (λ first. first ∷ (second ∷ rest)) (omega (arith, none))
    ∙ ap (λ second. 0 ∷ (second ∷ rest)) (omega (arith, none))
    ∙ ap (λ rest. 0 ∷ (0 ∷ rest)) (zeros rest (omega (arith, none)))

-- the sum of an address that is not the unspecified address is not 0
pub some_address : (address : List ℕ) → length address ≡ 16 → from_be_bytes w128 address ≢ 0 → total address ≢ 0
some_address address len some none = some (ap (from_be_bytes w128) (zeros address none ∙ ap (λ n. replicate n 0) len))

-- the sum of two pieces modulo 65535
pub two_pieces : (first second : List ℕ) → sum_of_pieces 0 (first ∷ second ∷ []) % 65535 ≡ (total first + total second) % 65535
two_pieces first second =
    folded-remainder (folded (0 + total first) + total second) ∙ omega (arith, folded-remainder (0 + total first))

-- a change of one address is equal to a change of both, one of which is replaced by itself
one_of_both : (removed added removed_too added_too : ℕ) (old new kept : List ℕ) → removed ≡ folded (0 + total old)
    → added ≡ folded (0 + total new)
    → removed_too % 65535 ≡ (total old + total kept) % 65535 → added_too % 65535 ≡ (total new + total kept) % 65535
    → total new ≢ 0 → added_too ≢ 0 → removed_too < 65536 → IsSameChange removed added removed_too added_too
one_of_both removed added removed_too added_too old new kept removed_is added_is sum sum_too some some_too small = record {
  difference = omega (
    arith,
    ap (λ n. n % 65535) removed_is ∙ folded-remainder (0 + total old),
    ap (λ n. n % 65535) added_is ∙ folded-remainder (0 + total new),
    sum,
    sum_too,
  );
  some = λ none. some (omega (arith, nothing (0 + total new) (sym added_is ∙ none)));
  some_too = some_too;
  small = omega (arith, removed_is, folded-lt (0 + total old));
  small_too = omega (arith, small);
}

-- a change of the source is equal to a change of both addresses, if the destination stays
pub source_replaced : (removed added : ℕ) (old new kept : List ℕ) → removed ≡ folded (0 + total old) → added ≡ folded (0 + total new)
    → total new ≢ 0 → IsSameChange removed added (sum_of_pieces 0 (old ∷ kept ∷ [])) (sum_of_pieces 0 (new ∷ kept ∷ []))
source_replaced removed added old new kept removed_is added_is some =
    let first : folded (0 + total new) + total kept ≡ 0 → total new ≡ 0 =
    λ none. omega (arith, nothing (0 + total new) (omega (arith, none))) in
    one_of_both removed added _ _ old new kept removed_is added_is (two_pieces old kept) (two_pieces new kept) some
    (λ none. some (first (nothing (folded (0 + total new) + total kept) none))) (folded-lt (folded (0 + total old) + total kept))

-- a change of the destination is equal to a change of both addresses, if the source stays
pub destination_replaced : (removed added : ℕ) (old new kept : List ℕ) → removed ≡ folded (0 + total old) → added ≡ folded (0 + total new)
    → total new ≢ 0 → IsSameChange removed added (sum_of_pieces 0 (kept ∷ old ∷ [])) (sum_of_pieces 0 (kept ∷ new ∷ []))
destination_replaced removed added old new kept removed_is added_is some =
    one_of_both removed added _ _ old new kept removed_is added_is
    (two_pieces kept old ∙ ap (λ n. n % 65535) (omega arith)) (two_pieces kept new ∙ ap (λ n. n % 65535) (omega arith)) some
    (λ none. some (omega (arith, nothing (folded (0 + total kept) + total new) none))) (folded-lt (folded (0 + total kept) + total old))
