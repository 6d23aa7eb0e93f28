-- Laws of a lowered hop limit: a receiver's check of the IPv4 header gives the same result.
use Rattle.std.proofs.Common.{◌≡◌, ◌≢◌, ℕ, ◌+◌, ◌%◌, ◌<◌, ◌≤◌, List, take, drop, slice_index, length, refl, sym, ap, ◌∙◌, arith}
use Rattle.std.specs.Int.{to_be_bytes, w16}
use Rattle.std.proofs.lemmas.List.{get_or-take}
use Rattle.net_base.specs.IpHeaders.{BeginsWithIpv4Header, ipv4_header_len}
use Rattle.net_base.specs.StoredChecksum.{with_checksum}
use Rattle.word_sum.specs.Checksum.{folded, total}
use Rattle.etherparse_transport.specs.HopLimits.{hop_word}
use Rattle.etherparse_transport.specs.Ipv4Translations.{IsHeaderAccepted}
use Rattle.etherparse_transport.specs.Translations.{number, with_bytes}
use Rattle.etherparse_transport.proofs.TranslationReading.{drop_after, index_before, length_kept, range_before}
use Rattle.etherparse_transport.proofs.TranslationSums.{both_accepted, bytes_total, even_len, first_byte_some, first_counts, front_total, stored_number_total, two_bytes}

module _ (packet word : List ℕ) (checksum : ℕ) (is : BeginsWithIpv4Header packet) (two : length word ≡ 2) (small : checksum < 65536) where
  abbrev stored : List ℕ
  stored = with_checksum 10 packet checksum

  abbrev new : List ℕ
  new = with_bytes 8 word stored

  stored_room : 10 + 2 ≤ length packet
  stored_room = omega (arith, is.shortest)

  stored_len : length stored ≡ length packet
  stored_len = length_kept 10 (to_be_bytes w16 checksum) packet stored_room

  room : 8 + length word ≤ length stored
  room = omega (arith, is.shortest, stored_len, two)

  old_word : take (length word) (drop 8 stored) ≡ hop_word packet
  old_word =
      ap (λ n. take n (drop 8 stored)) two
      ∙ range_before 10 (to_be_bytes w16 checksum) packet stored_room 8 2 (omega arith)
      ∙ ap (take 2) (two_bytes 8 packet (omega (arith, is.shortest)))

  rest_kept : drop (ipv4_header_len packet) new ≡ drop (ipv4_header_len packet) packet
  rest_kept =
      drop_after 8 word stored room (ipv4_header_len packet) (omega (arith, two, is.five_words))
      ∙ drop_after 10 (to_be_bytes w16 checksum) packet stored_room (ipv4_header_len packet) (omega (arith, is.five_words))

  new_total : total (take (ipv4_header_len packet) new) + (number 10 packet + total (hop_word packet))
      ≡ total (take (ipv4_header_len packet) packet) + (checksum + total word)
  new_total =
      omega (
        arith,
        stored_number_total 10 checksum packet refl small stored_room,
        bytes_total 8 word stored refl room,
        ap total old_word,
        front_total (ipv4_header_len packet) packet (even_len (slice_index packet 0)) is.whole,
        front_total (ipv4_header_len packet) new (even_len (slice_index packet 0))
            (omega (arith, is.whole, stored_len, length_kept 8 word stored room)),
        ap total rest_kept,
      )

  first_kept : slice_index new 0 ≡ slice_index packet 0
  first_kept =
      index_before 8 word stored room 0 (omega arith)
      ∙ index_before 10 (to_be_bytes w16 checksum) packet stored_room 0 (omega arith)

  some : slice_index packet 0 ≢ 0
  some = first_byte_some (slice_index packet 0) is.five_words

  -- the checksum is updated by the word
  pub lowered_accepted : ((before after : ℕ) → after + total (hop_word packet) ≡ before + total word
      → (after + checksum) % 65535 ≡ (before + number 10 packet) % 65535)
      → IsHeaderAccepted packet new
  lowered_accepted remainder =
      let len : ℕ = ipv4_header_len packet in
      let was : ℕ = total (take len packet) in
      let is_now : ℕ = total (take len new) in
      let updated = remainder (is_now + total (hop_word packet)) (is_now + total word) (omega arith) in
      let alike : is_now % 65535 ≡ was % 65535 = omega (arith, updated, new_total) in
      let first : slice_index (take len packet) 0 ≢ 0 =
      λ none. some (sym (get_or-take len packet 0 0 (omega (arith, is.five_words))) ∙ none) in
      let first_too : slice_index (take len new) 0 ≢ 0 = λ none.
      some (sym (get_or-take len new 0 0 (omega (arith, is.five_words)) ∙ first_kept) ∙ none) in
      let iff = both_accepted was is_now alike (first_counts (take len packet) first) (first_counts (take len new) first_too) in
      let sum : 0 + was ≡ was = omega arith in
      let sum_too : 0 + is_now ≡ is_now = omega arith in (
        λ ones. ap folded sum ∙ iff.0 (ap folded (sym sum_too) ∙ ones),
        λ ones. ap folded sum_too ∙ iff.1 (ap folded (sym sum) ∙ ones),
      )
