use Rattle.std.proofs.Common.{◌≡◌, ◌≢◌, ◌+◌, ◌-◌, ◌%◌, ◌<◌, [], ◌∷◌, List, ℕ, slice_index, slice_range, refl, sym, ap, ◌∙◌, subst, arith, rules}
use Rattle.word_sum.specs.Checksum.{folded, total}
use Rattle.word_sum.specs.ChecksumChange.{TurnsInto, added_value, removed_value}
use Rattle.word_sum.specs.declared.checksum_change.ChecksumChange.{ChecksumChange}
use Rattle.word_sum.proofs.ChecksumChangeLemmas.{folded-remainder}
use Rattle.word_sum.proofs.ChecksumLemmas.{folded-lt}
use Rattle.etherparse_transport.specs.Ipv6Translations.{ipv6_translated_flow}
use Rattle.etherparse_transport.specs.Translations.{number, with_bytes, with_number, with_updated_checksum}
use Rattle.etherparse_transport.proofs.TranslationLemmas.{put_is}
use Rattle.etherparse_transport.proofs.TranslationSums.{error_alike, first_counts, folded_some, message_total, not_zero_by, quote_alike, turned_by, turns_shifted}
use Rattle.etherparse_transport.proofs.ip.translated_ipv6.translate_ipv6_quoted.Goals as goal
use borrow.Rule.Slice.PartMut.{put_mid}

pub returns-clause-translated : goal.returns-clause-translated
returns-clause-translated c =
    let message : List ℕ = c.args.message.now in
    let end : ℕ = 8 + c.args.quoted_len in
    let quoted : List ℕ = slice_range message 8 end in
    let translated : List ℕ = ipv6_translated_flow c.args.new.now quoted in
    let changed : List ℕ = c.translate_ipv6_flow-change.new.packet in
    let flow : ChecksumChange = c.translate_ipv6_flow-change.result in
    let first : List ℕ = slice_index quoted 0 ∷ slice_index quoted 1 ∷ [] in
    let changed_is : changed ≡ translated = c.translate_ipv6_flow-change.ensures.translated in
    let version : slice_index quoted 0 ≢ 0 = not_zero_by (slice_index quoted 0) 5 c.requires.place.is_ipv6 in
    let first_some : total first ≢ 0 = first_counts first version in
    let first_added : added_value c.replace_2bytes.result ≢ 0 = λ none.
    folded_some (added_value flow + total first) (λ zero. first_some (omega (arith, zero))) (sym c.replace_2bytes.ensures.added ∙ none) in
    let some : added_value c.and.result ≢ 0 = λ none.
    folded_some (added_value c.args.addresses + added_value c.replace_2bytes.result) (λ zero. first_added (omega (arith, zero)))
    (sym c.and.ensures.added ∙ none) in
    let changed_some : total changed ≢ 0 =
    first_counts changed (λ none. version (sym c.translate_ipv6_flow-change.ensures.version ∙ none)) in
    let checksum = quote_alike (number 2 (put_mid 8 (end - 8) message changed)) (removed_value c.args.addresses)
    (added_value c.args.addresses) (total quoted) (total changed)
    (removed_value c.and.result) (added_value c.and.result)
    (subst (λ n. n < 65536) (sym c.and.ensures.removed)
    (folded-lt (removed_value c.args.addresses + removed_value c.replace_2bytes.result))) some changed_some
    (omega (
      arith,
      c.translate_ipv6_flow-change.ensures.turns,
      ap (λ n. n % 65535) c.replace_2bytes.ensures.removed ∙ folded-remainder (removed_value flow + total first),
      ap (λ n. n % 65535) c.and.ensures.removed ∙ folded-remainder (removed_value c.args.addresses + removed_value c.replace_2bytes.result),
      ap (λ n. n % 65535) c.replace_2bytes.ensures.added ∙ folded-remainder (added_value flow + total first),
      ap (λ n. n % 65535) c.and.ensures.added ∙ folded-remainder (added_value c.args.addresses + added_value c.replace_2bytes.result),
    )) in
    c.update_checksum.ensures.updated
    ∙ ap (λ checksum. with_number 2 checksum (put_mid 8 (end - 8) message changed)) checksum
    ∙ ap (with_updated_checksum (folded (removed_value c.args.addresses + total quoted))
    (folded (added_value c.args.addresses + total changed))) (put_is 8 end message changed (search rules))
    ∙ ap (λ changed. with_updated_checksum (folded (removed_value c.args.addresses + total quoted))
    (folded (added_value c.args.addresses + total changed)) (with_bytes 8 changed message)) changed_is

pub returns-clause-verifies : goal.returns-clause-verifies
returns-clause-verifies c = λ before after turns some some_too.
    let message : List ℕ = c.args.message.now in
    let end : ℕ = 8 + c.args.quoted_len in
    let quoted : List ℕ = slice_range message 8 end in
    let changed : List ℕ = c.translate_ipv6_flow-change.new.packet in
    let between : List ℕ = put_mid 8 (end - 8) message changed in
    let flow : ChecksumChange = c.translate_ipv6_flow-change.result in
    let first : List ℕ = slice_index quoted 0 ∷ slice_index quoted 1 ∷ [] in
    let version : slice_index quoted 0 ≢ 0 = not_zero_by (slice_index quoted 0) 5 c.requires.place.is_ipv6 in
    let turned : TurnsInto c.replace_2bytes.result (total quoted) (total changed) =
    turned_by (total quoted) (total changed) (removed_value c.replace_2bytes.result) (added_value c.replace_2bytes.result)
    (first_counts quoted version) (first_counts changed (λ none. version (sym c.translate_ipv6_flow-change.ensures.version ∙ none)))
    (omega (
      arith,
      c.translate_ipv6_flow-change.ensures.turns,
      ap (λ n. n % 65535) c.replace_2bytes.ensures.removed ∙ folded-remainder (removed_value flow + total first),
      ap (λ n. n % 65535) c.replace_2bytes.ensures.added ∙ folded-remainder (added_value flow + total first),
    )) in
    let shifted : TurnsInto c.args.addresses (before + total quoted) (after + total quoted) =
    turns_shifted before (added_value c.args.addresses) after (removed_value c.args.addresses) (total quoted) turns in
    let joined = c.and.ensures.joins (before + total quoted) (after + total quoted) (after + total changed) shifted
    (ap folded (omega arith)
    ∙ turns_shifted (total quoted) (added_value c.replace_2bytes.result) (total changed)
    (removed_value c.replace_2bytes.result) after turned
    ∙ ap folded (omega arith)) in
    error_alike before after message between c.update_checksum.new.message (total quoted) (total changed)
    (message_total 8 end message changed refl (search rules) (omega arith) c.requires.room)
    (c.update_checksum.ensures.remainder (before + total quoted) (after + total changed) joined (search rules))
    (λ none. some (omega (arith, none))) (λ none. some_too (omega (arith, none)))
