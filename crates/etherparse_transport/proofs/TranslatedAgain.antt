-- Laws of messages that are translated again: they are accepted, and an ICMP error quotes the translated packet.
use Rattle.std.proofs.Common.{◌≡◌, ◌≢◌, ℕ, ◌⊎◌, ◌+◌, ◌-◌, ◌*◌, ◌<◌, ◌≤◌, ◌==◌, ◌&&◌, ◌||◌, not, nat_le, nat_lt, Bool, true, false, if◌then◌else◌, List, [], ◌∷◌, ◌++◌, take, drop, slice_index, length, Option, Some, None, inl, inr, refl, sym, ap, ◌∙◌, arith}
use Rattle.std.specs.Prelude.{◌↔◌, is_none, is_some, unwrap_or}
use Rattle.std.specs.Int.{to_be_bytes, w16}
use Rattle.std.proofs.lemmas.Bool.Decides.{nat_tests}
use Rattle.std.proofs.lemmas.List.{append-nil, drop-drop, drop_all}
use Rattle.net_base.specs.Bytes.{IsBytes}
use Rattle.net_base.specs.Refusals.{first_of, refused_if, wrong_length}
use Rattle.net_base.specs.declared.err.layer.Layer.TheVariants as layers
use Rattle.net_base.specs.declared.err.len_error.LenError.{LenError}
use Rattle.icmp_part.specs.Icmpv4Format as icmpv4
use Rattle.icmp_part.specs.Icmpv6Format as icmpv6
use Rattle.icmp_part.specs.QuotedPackets.{quoted_by_icmpv4, quoted_by_icmpv6}
use Rattle.etherparse_transport.specs.declared.err.packet.translate_error.TranslateError.{TranslateError}
use Rattle.etherparse_transport.specs.declared.err.packet.translate_error.TranslateError.TheVariants.{HeaderCutOff, IcmpMessage}
use Rattle.word_sum.specs.Checksum.{folded, total}
use Rattle.word_sum.specs.UpdatedChecksum.{updated_checksum_of}
use Rattle.word_sum.proofs.ChecksumLemmas.{folded-lt}
use Rattle.word_sum.proofs.ChecksumChangeLemmas.{updated_reversed_iff}
use Rattle.etherparse_transport.specs.Translations.{is_query, is_reply, is_request, message_refusal, new_identifier, number, quoted_in, translated_in, translated_message, translated_query, with_bytes, with_number, with_quote, with_updated_checksum}
use Rattle.ip_part.specs.declared.proto.Proto.{Proto}
use Rattle.ip_part.specs.declared.proto.Proto.TheVariants as protos
use Rattle.etherparse_transport.proofs.TranslationReading.{drop_after, drop_here, index_before, length_kept, message_kept, number_len, range_at, translated_len}
use Rattle.etherparse_transport.proofs.TranslationLemmas.{IsRange, icmpv4_quoted_range, icmpv6_quoted_range}
use Rattle.etherparse_transport.proofs.BuiltLemmas.{none_first, none_if}
use Rattle.etherparse_transport.proofs.TranslationSums.{other_by}
use Rattle.etherparse_transport.proofs.ReplacedBytes.{checksum_back, iff_along, number_again, number_here, number_missing, number_put, number_small, put, put_again, put_apart, put_len, put_same, put_there}
use Rattle.etherparse_transport.proofs.ThereAndBack.{before_both, updated_small}

-- ---- the quoted packet

-- the checksum of an error is not changed by another quoted packet
error_number : (message translated : List ℕ) → 8 + length translated ≤ length message
    → number 2 (with_bytes 8 translated message) ≡ number 2 message
error_number message translated there =
    ap (number 2) (sym (put_there 8 translated message there)) ∙ number_put 8 translated 2 message (omega arith)

pub quote_len : (old new : ℕ) (quoted translated message : List ℕ) → 8 + length translated ≤ length message
    → length (with_quote old new quoted translated message) ≡ length message
quote_len old new quoted translated message there =
    number_len 2 _ (with_bytes 8 translated message) ∙ length_kept 8 translated message there

-- the bytes after the header of an error with another quoted packet are that packet and the old bytes after it
quote_there : (old new : ℕ) (quoted translated message : List ℕ) → 8 + length translated ≤ length message
    → drop 8 (with_quote old new quoted translated message) ≡ translated ++ drop (length translated) (drop 8 message)
quote_there old new quoted translated message there =
    let between : List ℕ = with_bytes 8 translated message in
    let sum : ℕ = updated_checksum_of (number 2 between) (folded (old + total quoted)) (folded (new + total translated)) in
    let room : 4 ≤ length between = omega (arith, there, length_kept 8 translated message there) in
    ap (drop 8) (put_there 2 (to_be_bytes w16 sum) between room)
    ∙ drop_after 2 (to_be_bytes w16 sum) between room 8 (omega arith)
    ∙ drop_here 8 translated message there
    ∙ ap (λ rest. translated ++ rest) (ap (λ n. drop n message) (omega arith) ∙ sym (drop-drop (length translated) 8 message))

-- a byte in the header of an error, except in its checksum, is not changed by another quoted packet
pub quote_byte : (old new k : ℕ) (quoted translated message : List ℕ) → 8 + length translated ≤ length message → (k < 2) ⊎ (4 ≤ k) → k < 8
    → slice_index (with_quote old new quoted translated message) k ≡ slice_index message k
quote_byte old new k quoted translated message there other within =
    let between : List ℕ = with_bytes 8 translated message in
    other_by (nat_le 4 (length between)) 2 _ k between refl other ∙ index_before 8 translated message there k within

-- an error whose quoted packet is replaced twice
pub quote_back : (old new : ℕ) (quoted translated quoted_too message : List ℕ) → IsBytes message → IsRange message quoted
    → length translated ≡ length quoted → length quoted_too ≡ length quoted
    → (with_quote new old translated quoted_too (with_quote old new quoted translated message) ≡ message)
    ↔ ((quoted_too ≡ quoted) × (number 2 message ≢ 65535))
quote_back old new quoted translated quoted_too message fits range same same_too =
    let there : 8 + length translated ≤ length message = omega (arith, range.within, same) in
    let there_too : 8 + length quoted_too ≤ length message = omega (arith, range.within, same_too) in
    let removed : ℕ = folded (old + total quoted) in
    let added : ℕ = folded (new + total translated) in
    let sum : ℕ = updated_checksum_of (number 2 (with_bytes 8 translated message)) removed added in
    let sum_is : sum ≡ updated_checksum_of (number 2 message) removed added =
    ap (λ n. updated_checksum_of n removed added) (error_number message translated there) in
    let changed : List ℕ = with_quote old new quoted translated message in
    let changed_len : length changed ≡ length message = quote_len old new quoted translated message there in
    let room : 8 + length quoted_too ≤ length changed = omega (arith, there_too, changed_len) in
    let put_translated : List ℕ = put 8 translated message in
    let changed_is : changed ≡ with_number 2 sum put_translated = ap (with_number 2 sum) (sym (put_there 8 translated message there)) in
    let sum_too : ℕ = updated_checksum_of (number 2 (with_bytes 8 quoted_too changed)) added (folded (old + total quoted_too)) in
    let sum_there : number 2 (with_bytes 8 quoted_too changed) ≡ sum =
    error_number changed quoted_too room ∙ ap (number 2) changed_is
    ∙ number_here 2 sum put_translated (omega (arith, range.within, put_len 8 translated message))
    (updated_small (number 2 (with_bytes 8 translated message)) removed added) in
    let back_is : with_quote new old translated quoted_too changed ≡ with_number 2 sum_too (put 8 quoted_too message) =
    ap (with_number 2 sum_too) (sym (put_there 8 quoted_too changed room) ∙ ap (put 8 quoted_too) changed_is
    ∙ sym (put_apart 2 8 (to_be_bytes w16 sum) quoted_too put_translated (omega arith))
    ∙ ap (with_number 2 sum) (put_again 8 translated quoted_too message (same_too ∙ sym same)))
    ∙ number_again 2 sum sum_too (put 8 quoted_too message) in
    let count : 8 + length quoted - 8 ≡ length quoted = omega arith in
    let quoted_there : take (length quoted) (drop 8 message) ≡ quoted = sym (ap (λ n. take n (drop 8 message)) count) ∙ range.range in
    let other : List ℕ = with_number 2 sum_too message in
    let other_room : 8 + length quoted_too ≤ length other = omega (arith, there_too, number_len 2 sum_too message) in
    let apart : with_number 2 sum_too (put 8 quoted_too message) ≡ with_bytes 8 quoted_too other =
    put_apart 2 8 (to_be_bytes w16 sum_too) quoted_too message (omega arith) ∙ put_there 8 quoted_too other other_room in
    let alone : quoted_too ≡ quoted → with_number 2 sum_too (put 8 quoted_too message) ≡ with_number 2 sum_too message = λ is.
    ap (λ quoted. with_number 2 sum_too (put 8 quoted message)) (is ∙ sym quoted_there)
    ∙ ap (with_number 2 sum_too) (put_same 8 (length quoted) message range.within) in
    let iff : quoted_too ≡ quoted → (with_number 2 sum_too message ≡ message) ↔ (number 2 message ≢ 65535) = λ is.
    checksum_back 2 sum_too message fits (updated_small _ _ _)
    (λ whole. iff_along sum_too (updated_checksum_of sum added removed) (number 2 message)
    (ap (λ n. updated_checksum_of n added (folded (old + total quoted_too))) sum_there
    ∙ ap (λ quoted. updated_checksum_of sum added (folded (old + total quoted))) is)
    (updated_reversed_iff (number 2 message) removed added sum (number_small 2 message fits) (folded-lt _) (folded-lt _) sum_is))
    (λ short ones. omega (arith, ones, number_missing 2 message short)) in (
      λ restored.
          let is : quoted_too ≡ quoted =
          sym (range_at 8 quoted_too other other_room)
          ∙ ap (λ bytes. take (length quoted_too) (drop 8 bytes)) (sym apart ∙ sym back_is ∙ restored)
          ∙ ap (λ n. take n (drop 8 message)) same_too ∙ quoted_there in
          (is, (iff is).0 (sym (back_is ∙ alone is) ∙ restored)),
      λ both. back_is ∙ alone both.0 ∙ (iff both.0).1 both.1,
    )

-- the packet that an error quotes, given its type and its length field
abbrev quote_by : Bool → Bool → ℕ → List ℕ → Option (List ℕ)
quote_by counts all n bytes = if counts then Some (if nat_lt n 128 then bytes else take n bytes) else (if all then Some bytes else None)

some_is : (first second : List ℕ) → Some first ≡ Some second → first ≡ second
some_is first second same = ap (λ option. unwrap_or option first) same

whole_quote : (bytes changed quoted translated : List ℕ) → changed ≡ translated ++ drop (length translated) bytes
    → length translated ≡ length quoted
    → bytes ≡ quoted → changed ≡ translated
whole_quote bytes changed quoted translated is same whole =
    is ∙ ap (λ rest. translated ++ rest) (drop_all (length translated) bytes (omega (arith, same, ap length whole))) ∙ append-nil translated

counted_quote : (is_unused : Bool) (n : ℕ) (bytes changed quoted translated : List ℕ)
    → changed ≡ translated ++ drop (length translated) bytes
    → length translated ≡ length quoted → (if is_unused then bytes else take n bytes) ≡ quoted
    → (if is_unused then changed else take n changed) ≡ translated
counted_quote true n bytes changed quoted translated is same whole = whole_quote bytes changed quoted translated is same whole
counted_quote false n bytes changed quoted translated is same part =
    let more : drop (length translated) bytes ≡ drop (0 + length translated) bytes = ap (λ n. drop n bytes) (omega arith) in
    message_kept 0 n bytes changed translated (is ∙ ap (λ rest. translated ++ rest) more) (same ∙ sym (ap length part)) (omega arith)
    (omega arith)

quote_kept : (counts all : Bool) (n : ℕ) (bytes changed quoted translated : List ℕ) → changed ≡ translated ++ drop (length translated) bytes
    → length translated ≡ length quoted → quote_by counts all n bytes ≡ Some quoted → quote_by counts all n changed ≡ Some translated
quote_kept true all n bytes changed quoted translated is same quotes =
    ap (λ quoted. Some quoted) (counted_quote (nat_lt n 128) n bytes changed quoted translated is same (some_is _ quoted quotes))
quote_kept false true n bytes changed quoted translated is same quotes =
    ap (λ quoted. Some quoted) (whole_quote bytes changed quoted translated is same (some_is bytes quoted quotes))
quote_kept false false n bytes changed quoted translated is same quotes = absurd (cc quotes)

-- an error with a translated packet quotes the translated packet
quotes_translated_of : (is_later_fragment : Bool) (proto : Proto) (old new : ℕ) (message quoted translated : List ℕ)
    → IsRange message quoted
    → length translated ≡ length quoted → quoted_in is_later_fragment (Some proto) message ≡ Some quoted
    → quoted_in is_later_fragment (Some proto) (with_quote old new quoted translated message) ≡ Some translated
quotes_translated_of true proto old new message quoted translated range same quotes = absurd (cc quotes)
quotes_translated_of false protos.Udp old new message quoted translated range same quotes = absurd (cc quotes)
quotes_translated_of false protos.Tcp old new message quoted translated range same quotes = absurd (cc quotes)
quotes_translated_of false protos.Icmpv4 old new message quoted translated range same quotes =
    let there : 8 + length translated ≤ length message = omega (arith, range.within, same) in
    let changed : List ℕ = with_quote old new quoted translated message in
    let type : ℕ = slice_index message 0 in
    ap (λ type. quote_by (type == 3 || (type == 11 || type == 12)) (type == 4 || type == 5) (slice_index changed 5 * 4) (drop 8 changed))
    (quote_byte old new 0 quoted translated message there (inl (omega arith)) (omega arith))
    ∙ ap (λ n. quote_by (type == 3 || (type == 11 || type == 12)) (type == 4 || type == 5) (n * 4) (drop 8 changed))
    (quote_byte old new 5 quoted translated message there (inr (omega arith)) (omega arith))
    ∙ quote_kept (type == 3 || (type == 11 || type == 12)) (type == 4 || type == 5) (slice_index message 5 * 4) (drop 8 message)
    (drop 8 changed)
    quoted translated (quote_there old new quoted translated message there) same quotes
quotes_translated_of false protos.Icmpv6 old new message quoted translated range same quotes =
    let there : 8 + length translated ≤ length message = omega (arith, range.within, same) in
    let changed : List ℕ = with_quote old new quoted translated message in
    let type : ℕ = slice_index message 0 in
    ap (λ type. quote_by (type == 1 || type == 3) (nat_lt type 128) (slice_index changed 4 * 8) (drop 8 changed))
    (quote_byte old new 0 quoted translated message there (inl (omega arith)) (omega arith))
    ∙ ap (λ n. quote_by (type == 1 || type == 3) (nat_lt type 128) (n * 8) (drop 8 changed))
    (quote_byte old new 4 quoted translated message there (inr (omega arith)) (omega arith))
    ∙ quote_kept (type == 1 || type == 3) (nat_lt type 128) (slice_index message 4 * 8) (drop 8 message) (drop 8 changed)
    quoted translated (quote_there old new quoted translated message there) same quotes

-- ---- a message without a quoted packet

none_by : (counts all : Bool) (n n_too : ℕ) (bytes changed : List ℕ) → quote_by counts all n bytes ≡ None
    → quote_by counts all n_too changed ≡ None
none_by true all n n_too bytes changed none = absurd (cc none)
none_by false true n n_too bytes changed none = absurd (cc none)
none_by false false n n_too bytes changed none = refl

icmpv4_byte : (k : ℕ) (is_a_query : Bool) (identifier : Option ℕ) (message : List ℕ) → k < 2
    → slice_index (if is_a_query then translated_query 0 0 identifier message else message) k ≡ slice_index message k
icmpv4_byte k false identifier message before = refl
icmpv4_byte k true identifier message before = before_both _ _ k message before

icmpv6_byte : (k : ℕ) (is_a_query : Bool) (old new : ℕ) (identifier : Option ℕ) (message : List ℕ) → k < 2
    → slice_index (if is_a_query then translated_query old new identifier message else with_updated_checksum old new message) k
    ≡ slice_index message k
icmpv6_byte k false old new identifier message before = other_by (nat_le 4 (length message)) 2 _ k message refl (inl before)
icmpv6_byte k true old new identifier message before = before_both _ _ k message before

-- a translated message quotes no packet if the message quotes none
quotes_none_of : (is_later_fragment : Bool) (proto : Proto) (old new : ℕ) (source destination : Option ℕ) (message : List ℕ)
    → quoted_in is_later_fragment (Some proto) message ≡ None
    → quoted_in is_later_fragment (Some proto) (translated_in is_later_fragment (Some proto) old new source destination message) ≡ None
quotes_none_of true proto old new source destination message none = refl
quotes_none_of false protos.Udp old new source destination message none = refl
quotes_none_of false protos.Tcp old new source destination message none = refl
quotes_none_of false protos.Icmpv4 old new source destination message none =
    let changed : List ℕ = translated_message protos.Icmpv4 old new source destination message in
    let type : ℕ = slice_index message 0 in
    ap (λ type. quote_by (type == 3 || (type == 11 || type == 12)) (type == 4 || type == 5) (slice_index changed 5 * 4) (drop 8 changed))
    (icmpv4_byte 0 (is_query protos.Icmpv4 message) (new_identifier protos.Icmpv4 source destination message) message (omega arith))
    ∙ none_by (type == 3 || (type == 11 || type == 12)) (type == 4 || type == 5) (slice_index message 5 * 4) (slice_index changed 5 * 4)
    (drop 8 message) (drop 8 changed) none
quotes_none_of false protos.Icmpv6 old new source destination message none =
    let changed : List ℕ = translated_message protos.Icmpv6 old new source destination message in
    let type : ℕ = slice_index message 0 in
    ap (λ type. quote_by (type == 1 || type == 3) (nat_lt type 128) (slice_index changed 4 * 8) (drop 8 changed))
    (icmpv6_byte 0 (is_query protos.Icmpv6 message) old new (new_identifier protos.Icmpv6 source destination message) message (omega arith))
    ∙ none_by (type == 1 || type == 3) (nat_lt type 128) (slice_index message 4 * 8) (slice_index changed 4 * 8) (drop 8 message)
    (drop 8 changed) none

long_enough : (len min : ℕ) → nat_lt len min ≡ false → min ≤ len
long_enough len min whole = grind (arith, nat_tests)

-- the packet that an accepted error quotes is a range of its message
quoted_range_of : (is_later_fragment : Bool) (proto : Proto) (message quoted : List ℕ)
    → message_refusal is_later_fragment (Some proto) message ≡ None
    → quoted_in is_later_fragment (Some proto) message ≡ Some quoted → IsRange message quoted
quoted_range_of true proto message quoted accepted quotes = absurd (cc quotes)
quoted_range_of false protos.Udp message quoted accepted quotes = absurd (cc quotes)
quoted_range_of false protos.Tcp message quoted accepted quotes = absurd (cc quotes)
quoted_range_of false protos.Icmpv4 message quoted accepted quotes =
    icmpv4_quoted_range message quoted (long_enough (length message) 8 (none_if (nat_lt (length message) 8) _ (none_first _ _ accepted).0))
    quotes
quoted_range_of false protos.Icmpv6 message quoted accepted quotes =
    icmpv6_quoted_range message quoted (long_enough (length message) 8 (none_if (nat_lt (length message) 8) _ (none_first _ _ accepted).0))
    quotes

-- ---- a message that is accepted again

-- the changed message has the same length, and if it is ICMP, the same type and code
pub record IsAlike (message changed : List ℕ) : Type 0 where
  pub len : length changed ≡ length message
  pub type : slice_index changed 0 ≡ slice_index message 0
  pub code : slice_index changed 1 ≡ slice_index message 1

abbrev pub IsAlikeOf : Proto → List ℕ → List ℕ → Type 0
IsAlikeOf protos.Udp message changed = length changed ≡ length message
IsAlikeOf protos.Tcp message changed = length changed ≡ length message
IsAlikeOf protos.Icmpv4 message changed = IsAlike message changed
IsAlikeOf protos.Icmpv6 message changed = IsAlike message changed

query_alike : (proto : Proto) (message changed : List ℕ) → IsAlike message changed → is_query proto changed ≡ is_query proto message
query_alike proto message changed alike =
    let by : ℕ → ℕ → Bool = λ len type. nat_le 6 len && (is_request proto type || is_reply proto type) in
    ap (λ len. by len (slice_index changed 0)) alike.len ∙ ap (by (length message)) alike.type

icmpv4_alike : (message changed : List ℕ) → IsAlike message changed → icmpv4.refusal changed ≡ icmpv4.refusal message
icmpv4_alike message changed alike =
    let by : ℕ → ℕ → ℕ → Option LenError = λ len type code. first_of (
    refused_if (nat_lt len 8) (wrong_length layers.Icmpv4 8 len)
    ∷ refused_if ((type == 13) && (code == 0) && not (len == 20)) (wrong_length layers.Icmpv4Timestamp 20 len)
    ∷ refused_if ((type == 14) && (code == 0) && not (len == 20)) (wrong_length layers.Icmpv4TimestampReply 20 len)
    ∷ []) in
    ap (λ len. by len (slice_index changed 0) (slice_index changed 1)) alike.len
    ∙ ap (λ type. by (length message) type (slice_index changed 1)) alike.type ∙ ap (by (length message) (slice_index message 0)) alike.code

icmpv6_alike : (message changed : List ℕ) → IsAlike message changed → icmpv6.refusal changed ≡ icmpv6.refusal message
icmpv6_alike message changed alike =
    ap (λ len. first_of (
    refused_if (nat_lt len 8) (wrong_length layers.Icmpv6 8 len)
    ∷ refused_if (nat_lt icmpv6.max_packet_len len) (wrong_length layers.Icmpv6 icmpv6.max_packet_len len)
    ∷ [])) alike.len

-- a message that is like an accepted message is accepted
pub accepted_alike : (is_later_fragment : Bool) (proto : Proto) (message changed : List ℕ) → IsAlikeOf proto message changed
    → is_none (quoted_in is_later_fragment (Some proto) changed) ≡ is_none (quoted_in is_later_fragment (Some proto) message)
    → message_refusal is_later_fragment (Some proto) changed ≡ message_refusal is_later_fragment (Some proto) message
accepted_alike true proto message changed alike quotes = refl
accepted_alike false protos.Udp message changed alike quotes =
    ap (λ len. first_of (refused_if (nat_lt len 8) (HeaderCutOff 8 len) ∷ None ∷ [])) alike
accepted_alike false protos.Tcp message changed alike quotes =
    ap (λ len. first_of (refused_if (nat_lt len 8) (HeaderCutOff 8 len) ∷ None ∷ [])) alike
accepted_alike false protos.Icmpv4 message changed alike quotes =
    let by : ℕ → Bool → Option LenError → ℕ → Bool → Option TranslateError = λ len is_a_query refusal type is_no_error. first_of (
    refused_if (nat_lt len 8) (HeaderCutOff 8 len)
    ∷ refused_if (not is_a_query && (is_some refusal || ((type == 5) || is_no_error))) IcmpMessage
    ∷ []) in
    let type : ℕ = slice_index changed 0 in
    ap (λ len. by len (is_query protos.Icmpv4 changed) (icmpv4.refusal changed) type (is_none (quoted_by_icmpv4 changed))) alike.len
    ∙ ap (λ is_a_query. by (length message) is_a_query (icmpv4.refusal changed) type (is_none (quoted_by_icmpv4 changed)))
    (query_alike protos.Icmpv4 message changed alike)
    ∙ ap (λ refusal. by (length message) (is_query protos.Icmpv4 message) refusal type (is_none (quoted_by_icmpv4 changed)))
    (icmpv4_alike message changed alike)
    ∙ ap (λ type. by (length message) (is_query protos.Icmpv4 message) (icmpv4.refusal message) type (is_none (quoted_by_icmpv4 changed)))
    alike.type
    ∙ ap (by (length message) (is_query protos.Icmpv4 message) (icmpv4.refusal message) (slice_index message 0)) quotes
accepted_alike false protos.Icmpv6 message changed alike quotes =
    let by : ℕ → Bool → Option LenError → Bool → Option TranslateError = λ len is_a_query refusal is_no_error. first_of (
    refused_if (nat_lt len 8) (HeaderCutOff 8 len)
    ∷ refused_if (not is_a_query && (is_some refusal || is_no_error)) IcmpMessage
    ∷ []) in
    ap (λ len. by len (is_query protos.Icmpv6 changed) (icmpv6.refusal changed) (is_none (quoted_by_icmpv6 changed))) alike.len
    ∙ ap (λ is_a_query. by (length message) is_a_query (icmpv6.refusal changed) (is_none (quoted_by_icmpv6 changed)))
    (query_alike protos.Icmpv6 message changed alike)
    ∙ ap (λ refusal. by (length message) (is_query protos.Icmpv6 message) refusal (is_none (quoted_by_icmpv6 changed)))
    (icmpv6_alike message changed alike)
    ∙ ap (by (length message) (is_query protos.Icmpv6 message) (icmpv6.refusal message)) quotes

alike_of : (proto : Proto) (message changed : List ℕ) → IsAlike message changed → IsAlikeOf proto message changed
alike_of protos.Udp message changed alike = alike.len
alike_of protos.Tcp message changed alike = alike.len
alike_of protos.Icmpv4 message changed alike = alike
alike_of protos.Icmpv6 message changed alike = alike

ports_alike : (proto : Proto) (old new : ℕ) (source destination : Option ℕ) (message : List ℕ)
    → IsAlikeOf proto message (translated_message proto old new source destination message)
ports_alike protos.Udp old new source destination message = translated_len protos.Udp old new source destination message
ports_alike protos.Tcp old new source destination message = translated_len protos.Tcp old new source destination message
ports_alike protos.Icmpv4 old new source destination message =
    let identifier : Option ℕ = new_identifier protos.Icmpv4 source destination message in
    record {
      len = translated_len protos.Icmpv4 old new source destination message;
      type = icmpv4_byte 0 (is_query protos.Icmpv4 message) identifier message (omega arith);
      code = icmpv4_byte 1 (is_query protos.Icmpv4 message) identifier message (omega arith);
    }
ports_alike protos.Icmpv6 old new source destination message =
    let identifier : Option ℕ = new_identifier protos.Icmpv6 source destination message in
    record {
      len = translated_len protos.Icmpv6 old new source destination message;
      type = icmpv6_byte 0 (is_query protos.Icmpv6 message) old new identifier message (omega arith);
      code = icmpv6_byte 1 (is_query protos.Icmpv6 message) old new identifier message (omega arith);
    }

-- a message with new ports is accepted
ports_accepted_of : (is_later_fragment : Bool) (proto : Proto) (old new : ℕ) (source destination : Option ℕ) (message : List ℕ)
    → quoted_in is_later_fragment (Some proto) message ≡ None → message_refusal is_later_fragment (Some proto) message ≡ None
    → message_refusal is_later_fragment (Some proto) (translated_in is_later_fragment (Some proto) old new source destination message)
    ≡ None
ports_accepted_of true proto old new source destination message none accepted = refl
ports_accepted_of false proto old new source destination message none accepted =
    let changed : List ℕ = translated_message proto old new source destination message in
    accepted_alike false proto message changed (ports_alike proto old new source destination message)
    (ap (λ quoted. is_none quoted) (quotes_none_of false proto old new source destination message none ∙ sym none)) ∙ accepted

-- an error with a translated packet is accepted
error_accepted_of : (is_later_fragment : Bool) (proto : Proto) (old new : ℕ) (message quoted translated : List ℕ) → IsRange message quoted
    → length translated ≡ length quoted → quoted_in is_later_fragment (Some proto) message ≡ Some quoted
    → message_refusal is_later_fragment (Some proto) message ≡ None
    → message_refusal is_later_fragment (Some proto) (with_quote old new quoted translated message) ≡ None
error_accepted_of is_later_fragment proto old new message quoted translated range same quotes accepted =
    let there : 8 + length translated ≤ length message = omega (arith, range.within, same) in
    let changed : List ℕ = with_quote old new quoted translated message in
    accepted_alike is_later_fragment proto message changed
    (alike_of proto message changed (record {
      len = quote_len old new quoted translated message there;
      type = quote_byte old new 0 quoted translated message there (inl (omega arith)) (omega arith);
      code = quote_byte old new 1 quoted translated message there (inl (omega arith)) (omega arith);
    }))
    (ap (λ quoted. is_none quoted) (quotes_translated_of is_later_fragment proto old new message quoted translated range same quotes)
    ∙ sym (ap (λ quoted. is_none quoted) quotes)) ∙ accepted

-- ---- a message of any protocol

pub quotes_translated : (is_later_fragment : Bool) (proto : Option Proto) (old new : ℕ) (message quoted translated : List ℕ)
    → IsRange message quoted
    → length translated ≡ length quoted → quoted_in is_later_fragment proto message ≡ Some quoted
    → quoted_in is_later_fragment proto (with_quote old new quoted translated message) ≡ Some translated
quotes_translated is_later_fragment None old new message quoted translated range same quotes = absurd (cc quotes)
quotes_translated is_later_fragment (Some proto) old new message quoted translated range same quotes =
    quotes_translated_of is_later_fragment proto old new message quoted translated range same quotes

pub quotes_none : (is_later_fragment : Bool) (proto : Option Proto) (old new : ℕ) (source destination : Option ℕ) (message : List ℕ)
    → quoted_in is_later_fragment proto message ≡ None
    → quoted_in is_later_fragment proto (translated_in is_later_fragment proto old new source destination message) ≡ None
quotes_none is_later_fragment None old new source destination message none = refl
quotes_none is_later_fragment (Some proto) old new source destination message none =
    quotes_none_of is_later_fragment proto old new source destination message none

pub quoted_range : (is_later_fragment : Bool) (proto : Option Proto) (message quoted : List ℕ)
    → message_refusal is_later_fragment proto message ≡ None
    → quoted_in is_later_fragment proto message ≡ Some quoted → IsRange message quoted
quoted_range is_later_fragment None message quoted accepted quotes = absurd (cc quotes)
quoted_range is_later_fragment (Some proto) message quoted accepted quotes =
    quoted_range_of is_later_fragment proto message quoted accepted quotes

pub ports_accepted : (is_later_fragment : Bool) (proto : Option Proto) (old new : ℕ) (source destination : Option ℕ) (message : List ℕ)
    → quoted_in is_later_fragment proto message ≡ None → message_refusal is_later_fragment proto message ≡ None
    → message_refusal is_later_fragment proto (translated_in is_later_fragment proto old new source destination message) ≡ None
ports_accepted is_later_fragment None old new source destination message none accepted = refl
ports_accepted is_later_fragment (Some proto) old new source destination message none accepted =
    ports_accepted_of is_later_fragment proto old new source destination message none accepted

pub error_accepted : (is_later_fragment : Bool) (proto : Option Proto) (old new : ℕ) (message quoted translated : List ℕ)
    → IsRange message quoted
    → length translated ≡ length quoted → quoted_in is_later_fragment proto message ≡ Some quoted
    → message_refusal is_later_fragment proto message ≡ None
    → message_refusal is_later_fragment proto (with_quote old new quoted translated message) ≡ None
error_accepted is_later_fragment None old new message quoted translated range same quotes accepted = absurd (cc quotes)
error_accepted is_later_fragment (Some proto) old new message quoted translated range same quotes accepted =
    error_accepted_of is_later_fragment proto old new message quoted translated range same quotes accepted
