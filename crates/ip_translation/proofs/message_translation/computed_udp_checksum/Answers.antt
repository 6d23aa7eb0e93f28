use Rattle.std.proofs.Common.{◌≡◌, ◌+◌, min, List, ℕ, length, take, ap, ap₂, ◌∙◌}
use Rattle.std.proofs.lemmas.List.{take_min}
use Rattle.net_base.specs.IpNumbers.{udp_number}
use Rattle.net_base.specs.PseudoHeader.{ipv6_pseudo_header}
use Rattle.word_sum.specs.Checksum.{complement, folded, total, zero_as_all_ones}
use Rattle.word_sum.proofs.ChecksumLemmas.{folded-add}
use Rattle.ip_translation.specs.HeadersToIpv6.{destination, new_pseudo_header, source}
use Rattle.ip_translation.specs.PacketsToIpv6.{udp_length}
use Rattle.ip_translation.specs.AddressTables.{embedded}
use Rattle.ip_translation.proofs.message_translation.computed_udp_checksum.Goals as goal

pub returns : goal.returns
returns c =
    let packet : List ℕ = c.args.packet.now in
    let header : List ℕ = c.args.header.now in
    let len : ℕ = udp_length packet in
    let from : List ℕ = embedded c.args.prefixes.now.source (source header) in
    let to : List ℕ = embedded c.args.prefixes.now.destination (destination header) in
    let pseudo_header : total (ipv6_pseudo_header c.embed-source.result c.embed-destination.result udp_number c.from-2.result)
    ≡ total (new_pseudo_header c.args.prefixes.now header udp_number len) =
    ap₂ (λ from to. total (ipv6_pseudo_header from to udp_number c.from-2.result))
    (c.embed-source.ensures.embedded ∙ ap (embedded c.args.prefixes.now.source) c.source.ensures)
    (c.embed-destination.ensures.embedded ∙ ap (embedded c.args.prefixes.now.destination) c.destination.ensures)
    ∙ ap (λ len. total (ipv6_pseudo_header from to udp_number len)) (c.from-2.ensures ∙ c.number-length.ensures) in
    let counted : take c.min.result packet ≡ take len packet =
    ap (λ n. take n packet) (c.min.ensures ∙ ap (λ n. min n (length packet)) (c.from.ensures ∙ c.number-length.ensures))
    ∙ take_min len packet in
    c.to_ones_complement_with_no_zero.ensures
    ∙ ap (λ n. zero_as_all_ones (complement n)) (
    c.add_slice.ensures.sum
    ∙ ap (λ n. folded (n + total (take c.min.result packet))) c.pseudo_header_ipv6.ensures.sum
    ∙ folded-add _ _
    ∙ ap₂ (λ sum bytes. folded (sum + total bytes)) pseudo_header counted)
