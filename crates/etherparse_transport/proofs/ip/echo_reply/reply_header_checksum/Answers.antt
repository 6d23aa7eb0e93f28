use Rattle.std.proofs.Common.{◌≡◌, ◌≢◌, ◌+◌, ◌*◌, ◌<◌, ◌≤◌, [], ◌%◌, ◌∷◌, ◌++◌, IfSome, List, None, Option, Some, ℕ, ap, arith, drop, length, refl, rules, slice_index, slice_range, subst, suc, sym, take, unwrap_or, zero, ◌∙◌}
use Rattle.std.specs.Int.{to_be_bytes, w16}
use Rattle.std.proofs.lemmas.List.{drop-drop, length-drop, length-take-le, take_all}
use Rattle.net_base.specs.Bytes.{be_number}
use Rattle.word_sum.specs.Checksum.{IsAllOnes, folded, total}
use Rattle.word_sum.specs.ChecksumChange.{IsExtendedBy, TurnsInto, added_value}
use Rattle.word_sum.proofs.ChecksumLemmas.{folded-some, total-append}
use Rattle.etherparse_transport.specs.Packets.{ipv4_fields}
use Rattle.etherparse_transport.specs.EchoReplies.{ipv4_reply_start}
use Rattle.etherparse_transport.proofs.EchoReplyLemmas.{below_all_ones, only_checksum, reply_start_len}
use Rattle.etherparse_transport.proofs.TranslationSums.{front_total, two_bytes}
use Rattle.etherparse_transport.proofs.ip.echo_reply.reply_header_checksum.Goals as goal

-- the sum of a header of five words, by its fields
header_total : (header : List ℕ) → length header ≡ 20 → total header ≡ total (take 6 header)
    + ((slice_index header 6 * 256 + slice_index header 7)
    + ((slice_index header 8 * 256 + slice_index header 9)
    + (be_number header 10 2 + (total (slice_range header 12 16) + total (slice_range header 16 20)))))
header_total header len =
    let rest_len : length (drop 16 header) ≡ 4 = omega (arith, length-drop 16 header, len) in
    omega (
      arith,
      front_total 6 header refl (omega (arith, len)),
      ap total (two_bytes 6 header (omega (arith, len))),
      ap total (two_bytes 8 header (omega (arith, len))),
      ap total (two_bytes 10 header (omega (arith, len))),
      front_total 4 (drop 12 header) refl (omega (arith, length-drop 12 header, len)),
      ap total (drop-drop 4 12 header),
      ap total (take_all 4 (drop 16 header) (omega (arith, rest_len))),
    )

-- the sum of the new header without its checksum
fields_total : (start source destination : List ℕ) (time_to_live : ℕ) → length start ≡ 8 → length source ≡ 4
    → total (ipv4_fields start time_to_live 1 source destination 0) ≡ total start
    + ((time_to_live * 256 + 1) + (total source + total destination))
fields_total start source destination time_to_live len len_too =
    omega (
      arith,
      total-append start ((time_to_live ∷ 1 ∷ to_be_bytes w16 0) ++ (source ++ destination)) (ap (λ n. n % 2) len),
      total-append source destination (ap (λ n. n % 2) len_too),
    )

passed_len : (source : Option (List ℕ)) (destination : List ℕ) → IfSome source (λ source. length source ≡ 4) → length destination ≡ 4
    → length (unwrap_or source destination) ≡ 4
passed_len None destination len len_too = len_too
passed_len (Some source) destination len len_too = len

above_0 : (n : ℕ) → n ≢ 0 → 0 < n
above_0 zero some = absurd (some refl)
above_0 (suc n) some = omega arith

pub returns : goal.returns
returns c =
    let header : List ℕ = c.args.header.now in
    let time_to_live : ℕ = c.args.time_to_live in
    let receiver : List ℕ = slice_range header 12 16 in
    let destination : List ℕ = slice_range header 16 20 in
    let source : List ℕ = unwrap_or c.args.source destination in
    let front : List ℕ = ipv4_reply_start header in
    let start : ℕ = total (take 6 header) in
    let checksum : ℕ = c.apply.result in
    let destination_is : c.copy_from_slice.new.self ≡ destination = search rules in
    let destination_len : length c.copy_from_slice.new.self ≡ 4 = search rules in
    let source_len : length source ≡ 4 =
    passed_len c.args.source destination (search rules) (ap length (sym destination_is) ∙ destination_len) in
    let there : 6 ≤ length header = omega (arith, c.requires.len) in
    let front_is : total front ≡ start + 0x4000 =
    omega (arith, total-append (take 6 header) (0x40 ∷ 0 ∷ []) (ap (λ n. n % 2) (length-take-le 6 header there))) in
    let packet : ℕ =
    start + ((slice_index header 6 * 256 + slice_index header 7)
    + ((slice_index header 8 * 256 + slice_index header 9) + (total receiver + total destination))) in
    let between : ℕ = start + (0x4000 + ((time_to_live * 256 + 1) + (total receiver + total destination))) in
    let changed : ℕ = total (ipv4_fields front time_to_live 1 source receiver 0) in
    let changed_is = fields_total front source receiver time_to_live (reply_start_len header there) source_len in
    let turns : TurnsInto c.replace_4bytes-change.result packet between =
    c.replace_4bytes-change.ensures.extends packet packet between (omega arith) (c.new.ensures.unchanged packet) in
    let extends = subst (λ old. IsExtendedBy c.replace_4bytes-change.result old
    (unwrap_or c.args.source old) c.replace_ipv4_if_passed-change.result) destination_is
    c.replace_ipv4_if_passed-change.ensures.extends in
    let turns_too : TurnsInto c.replace_ipv4_if_passed-change.result packet changed =
    extends packet between changed (omega (arith, changed_is, front_is)) turns in
    let ones : IsAllOnes (packet + c.from_be_bytes.result) =
    ap folded (omega (arith, header_total header c.requires.len, c.from_be_bytes.ensures)) ∙ c.requires.accepted in
    let added : added_value c.replace_4bytes-change.result ≡ folded (added_value c.new.result + (0x4000 + (time_to_live * 256 + 1))) =
    c.replace_4bytes-change.ensures.added ∙ ap folded (omega arith) in
    let some = folded-some (added_value c.new.result + (0x4000 + (time_to_live * 256 + 1))) (omega arith) in
    let some_too = above_0 (added_value c.replace_ipv4_if_passed-change.result)
    (c.replace_ipv4_if_passed-change.ensures.some (λ none. absurd (omega (arith, none, added, some)))) in
    let small : checksum < 65535 = rw c.apply.ensures.equation (below_all_ones _ (omega (arith, some_too))) in
    only_checksum changed checksum small
    ((c.apply.ensures.verifies packet changed turns_too ones).1 (λ none. absurd (omega (arith, none, changed_is))))
