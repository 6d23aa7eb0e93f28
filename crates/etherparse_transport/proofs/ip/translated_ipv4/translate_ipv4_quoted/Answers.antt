use Rattle.std.proofs.Common.{◌≡◌, true, ◌≢◌, ◌+◌, ◌-◌, ◌%◌, ◌<◌, [], ◌∷◌, List, ℕ, slice_index, slice_range, refl, sym, ap, ◌∙◌, subst, arith, rules}
use Rattle.word_sum.specs.Checksum.{folded, total}
use Rattle.word_sum.specs.ChecksumChange.{TurnsInto, added_value, removed_value}
use Rattle.word_sum.specs.declared.checksum_change.ChecksumChange.{ChecksumChange}
use Rattle.word_sum.proofs.ChecksumChangeLemmas.{folded-remainder}
use Rattle.word_sum.proofs.ChecksumLemmas.{folded-lt}
use Rattle.etherparse_transport.specs.Ipv4Translations.{IsIpv4Place, ipv4_translated_flow, message_in_ipv4}
use Rattle.etherparse_transport.specs.Translations.{number, with_bytes, with_number, with_updated_checksum}
use Rattle.etherparse_transport.proofs.TranslationLemmas.{put_is}
use Rattle.etherparse_transport.proofs.TranslationSums.{error_alike, first_counts, first_put, folded_some, message_total, not_zero_by, quote_alike, turned_by}
use Rattle.etherparse_transport.proofs.ip.translated_ipv4.translate_ipv4_quoted.Goals as goal
use borrow.Rule.Slice.PartMut.{put_mid}

pub returns-clause-translated : goal.returns-clause-translated
returns-clause-translated c =
    let message : List ℕ = c.args.message.now in
    let end : ℕ = 8 + c.args.quoted_len in
    let quoted : List ℕ = slice_range message 8 end in
    let translated : List ℕ = ipv4_translated_flow c.args.new.now (message_in_ipv4 true quoted) quoted in
    let changed : List ℕ = c.translate_ipv4_flow-change.new.packet in
    let flow : ChecksumChange = c.translate_ipv4_flow-change.result in
    let first : List ℕ = slice_index quoted 0 ∷ slice_index quoted 1 ∷ [] in
    let changed_is : changed ≡ translated =
    c.translate_ipv4_flow-change.ensures.translated
    ∙ ap (λ message. ipv4_translated_flow c.args.new.now message quoted) c.requires.place.message in
    let version : slice_index quoted 0 ≢ 0 = not_zero_by (slice_index quoted 0) 3 c.requires.place.is_ipv4 in
    let first_some : total first ≢ 0 = first_counts first version in
    let some : added_value c.replace_2bytes.result ≢ 0 = λ none.
    folded_some (added_value flow + total first) (λ zero. first_some (omega (arith, zero))) (sym c.replace_2bytes.ensures.added ∙ none) in
    let changed_some : total changed ≢ 0 =
    first_counts changed (λ none. version (sym c.translate_ipv4_flow-change.ensures.version ∙ none)) in
    let checksum = quote_alike (number 2 (put_mid 8 (end - 8) message changed)) (0) (0) (total quoted) (total changed)
    (removed_value c.replace_2bytes.result) (added_value c.replace_2bytes.result)
    (subst (λ n. n < 65536) (sym c.replace_2bytes.ensures.removed) (folded-lt (removed_value flow + total first))) some changed_some
    (omega (
      arith,
      c.translate_ipv4_flow-change.ensures.turns,
      ap (λ n. n % 65535) c.replace_2bytes.ensures.removed ∙ folded-remainder (removed_value flow + total first),
      ap (λ n. n % 65535) c.replace_2bytes.ensures.added ∙ folded-remainder (added_value flow + total first),
    )) in
    c.update_checksum.ensures.updated
    ∙ ap (λ checksum. with_number 2 checksum (put_mid 8 (end - 8) message changed)) checksum
    ∙ ap (with_updated_checksum (folded (0 + total quoted)) (folded (0 + total changed))) (put_is 8 end message changed (search rules))
    ∙ ap (λ changed. with_updated_checksum (folded (0 + total quoted)) (folded (0 + total changed)) (with_bytes 8 changed message))
    changed_is

pub returns-clause-verifies : goal.returns-clause-verifies
returns-clause-verifies c = λ some sum.
    let message : List ℕ = c.args.message.now in
    let end : ℕ = 8 + c.args.quoted_len in
    let quoted : List ℕ = slice_range message 8 end in
    let changed : List ℕ = c.translate_ipv4_flow-change.new.packet in
    let between : List ℕ = put_mid 8 (end - 8) message changed in
    let flow : ChecksumChange = c.translate_ipv4_flow-change.result in
    let first : List ℕ = slice_index quoted 0 ∷ slice_index quoted 1 ∷ [] in
    let version : slice_index quoted 0 ≢ 0 = not_zero_by (slice_index quoted 0) 3 c.requires.place.is_ipv4 in
    let turned : TurnsInto c.replace_2bytes.result (total quoted) (total changed) =
    turned_by (total quoted) (total changed) (removed_value c.replace_2bytes.result) (added_value c.replace_2bytes.result)
    (first_counts quoted version) (first_counts changed (λ none. version (sym c.translate_ipv4_flow-change.ensures.version ∙ none)))
    (omega (
      arith,
      c.translate_ipv4_flow-change.ensures.turns,
      ap (λ n. n % 65535) c.replace_2bytes.ensures.removed ∙ folded-remainder (removed_value flow + total first),
      ap (λ n. n % 65535) c.replace_2bytes.ensures.added ∙ folded-remainder (added_value flow + total first),
    )) in
    error_alike sum sum message between c.update_checksum.new.message (total quoted) (total changed)
    (message_total 8 end message changed refl (search rules) (omega arith) c.requires.room)
    (omega (arith, c.update_checksum.ensures.remainder (total quoted) (total changed) turned (search rules)))
    (λ none. first_counts message some (omega (arith, none)))
    (λ none. first_counts c.update_checksum.new.message
    (λ zero. some (sym (c.update_checksum.ensures.first ∙ first_put 8 (end - 8) message changed (omega arith) (search rules)) ∙ zero))
    (omega (arith, none)))

pub translate_ipv4_flow-change-requires : goal.translate_ipv4_flow-change-requires
translate_ipv4_flow-change-requires c =
    record {
      place = subst (λ message. IsIpv4Place message (slice_range c.args.message.now 8 (8 + c.args.quoted_len)) c.args.place.now)
          (sym c.requires.place.message) c.requires.place;
    }
