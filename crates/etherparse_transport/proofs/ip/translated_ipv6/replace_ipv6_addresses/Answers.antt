use Rattle.std.proofs.Common.{◌≡◌, ◌+◌, ◌≤◌, IfSome, List, None, Option, Some, ℕ, ap, arith, drop, length, refl, slice_range, take, unwrap_or, ◌∙◌}
use Rattle.std.proofs.lemmas.List.{length-drop, length-take-le}
use Rattle.word_sum.specs.Checksum.{total}
use Rattle.etherparse_transport.specs.Translations.{with_bytes}
use Rattle.etherparse_transport.proofs.TranslationReading.{drop_after}
use Rattle.etherparse_transport.proofs.TranslationSums.{addresses_total}
use Rattle.etherparse_transport.proofs.ip.translated_ipv6.replace_ipv6_addresses.Goals as goal

-- a new address has 16 bytes, and so has an address of the packet
address_len : (new : Option (List ℕ)) (place : ℕ) (packet : List ℕ) → IfSome new (λ new. length new ≡ 16) → place + 16 ≤ length packet
    → length (unwrap_or new (take 16 (drop place packet))) ≡ 16
address_len None place packet passed there = length-take-le 16 (drop place packet) (omega (arith, length-drop place packet, there))
address_len (Some new) place packet passed there = passed

source_len : (c : goal.After-slice_known-3-1) → length (unwrap_or c.args.new.now.source (slice_range c.args.packet.now 8 24)) ≡ 16
source_len c = address_len c.args.new.now.source 8 c.args.packet.now c.replace_if_passed.ensures.len (omega (arith, c.requires.header))

destination_len : (c : goal.After-slice_known-3-1)
    → length (unwrap_or c.args.new.now.destination (slice_range c.args.packet.now 24 40)) ≡ 16
destination_len c = address_len c.args.new.now.destination 24 c.args.packet.now c.replace_if_passed-2.ensures.len
    (omega (arith, c.requires.header))

pub returns-clause-replaced : goal.returns-clause-replaced
returns-clause-replaced c =
    let packet : List ℕ = c.args.packet.now in
    let between : List ℕ = c.replace_if_passed.new.packet in
    let source : List ℕ = unwrap_or c.args.new.now.source (slice_range packet 8 24) in
    let kept : take 16 (drop 24 between) ≡ slice_range packet 24 40 =
    ap (λ packet. take 16 (drop 24 packet)) c.replace_if_passed.ensures.written
    ∙ ap (take 16) (drop_after 8 source packet (omega (arith, c.requires.header, source_len c)) 24 (omega (arith, source_len c))) in
    c.replace_if_passed-2.ensures.written
    ∙ ap (λ old. with_bytes 24 (unwrap_or c.args.new.now.destination old) between) kept
    ∙ ap (with_bytes 24 (unwrap_or c.args.new.now.destination (slice_range packet 24 40))) c.replace_if_passed.ensures.written

pub returns-clause-total : goal.returns-clause-total
returns-clause-total c =
    let packet : List ℕ = c.args.packet.now in
    omega (
      arith,
      ap total (returns-clause-replaced c),
      addresses_total 8 24 16 (unwrap_or c.args.new.now.source (slice_range packet 8 24))
          (unwrap_or c.args.new.now.destination (slice_range packet 24 40))
          packet refl refl (omega arith) (source_len c) (destination_len c) c.requires.header,
    )
