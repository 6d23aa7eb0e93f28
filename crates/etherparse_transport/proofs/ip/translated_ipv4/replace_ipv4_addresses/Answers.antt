use Rattle.std.proofs.Common.{◌≡◌, ◌+◌, ◌%◌, List, ℕ, slice_index, take, sym, ap, ◌∙◌, arith, rules}
use Rattle.net_base.specs.IpHeaders.{ipv4_header_len}
use Rattle.net_base.specs.StoredChecksum.{with_checksum}
use Rattle.word_sum.specs.Checksum.{folded, total}
use Rattle.etherparse_transport.specs.Translations.{with_bytes}
use Rattle.etherparse_transport.proofs.TranslationSums.{even_len, first_byte_some, header_accepted, packet_total}
use Rattle.etherparse_transport.proofs.ip.translated_ipv4.replace_ipv4_addresses.Goals as goal

pub returns-clause-header : goal.returns-clause-header
returns-clause-header c = λ five there.
    let packet : List ℕ = c.args.packet.now in
    let source : List ℕ = c.args.new.now.source in
    let destination : List ℕ = c.args.new.now.destination in
    let checksum : ℕ = c.apply-checksum.result in
    let new : List ℕ = c.replace_bytes-3.new.bytes in
    let new_is : new ≡ with_bytes 16 destination (with_bytes 12 source (with_checksum 10 packet checksum)) =
    c.replace_bytes-3.ensures ∙ ap (with_bytes 16 destination) (c.replace_bytes-2.ensures ∙ ap (with_bytes 12 source)
    (c.replace_bytes.ensures ∙ ap (λ bytes. with_bytes 10 bytes packet) c.to_be_bytes.ensures)) in
    let len : ℕ = ipv4_header_len packet in
    let iff = header_accepted len packet source destination checksum (even_len (slice_index packet 0)) five there
    (first_byte_some (slice_index packet 0) five) (search rules) (search rules) (search rules)
    (λ before after turns.
    c.apply-checksum.ensures.remainder before after
    (ap (λ n. folded (before + n)) c.requires.added ∙ turns ∙ sym (ap (λ n. folded (after + n)) c.requires.removed))
    ∙ ap (λ n. (before + n) % 65535) c.number-old.ensures) in
    let sum : 0 + total (take len packet) ≡ total (take len packet) = omega arith in
    let sum_too : 0 + total (take len new)
    ≡ total (take len (with_bytes 16 destination (with_bytes 12 source (with_checksum 10 packet checksum)))) =
    omega (arith, ap (λ bytes. total (take len bytes)) new_is) in (
      λ ones. ap folded sum ∙ iff.0 (ap folded (sym sum_too) ∙ ones),
      λ ones. ap folded sum_too ∙ iff.1 (ap folded (sym sum) ∙ ones),
    )

pub returns-clause-total : goal.returns-clause-total
returns-clause-total c =
    let packet : List ℕ = c.args.packet.now in
    let source : List ℕ = c.args.new.now.source in
    let destination : List ℕ = c.args.new.now.destination in
    let checksum : ℕ = c.apply-checksum.result in
    let new_is : c.replace_bytes-3.new.bytes ≡ with_bytes 16 destination (with_bytes 12 source (with_checksum 10 packet checksum)) =
    c.replace_bytes-3.ensures ∙ ap (with_bytes 16 destination) (c.replace_bytes-2.ensures ∙ ap (with_bytes 12 source)
    (c.replace_bytes.ensures ∙ ap (λ bytes. with_bytes 10 bytes packet) c.to_be_bytes.ensures)) in
    omega (
      arith,
      ap total new_is,
      c.number-old.ensures,
      packet_total checksum source destination packet (search rules) (search rules) c.requires.header (search rules),
    )
