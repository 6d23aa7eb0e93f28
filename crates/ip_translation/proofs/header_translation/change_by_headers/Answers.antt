use Rattle.std.proofs.Common.{◌≡◌, ◌+◌, ℕ, List, length, rules, ap, ap₂, ◌∙◌, subst₂, sym, arith}
use Rattle.net_base.specs.PseudoHeader.{ipv4_pseudo_header, ipv6_pseudo_header}
use Rattle.net_base.proofs.PseudoHeaderLemmas.{ipv4_pseudo_header_some, ipv6_pseudo_header_some}
use Rattle.word_sum.specs.Checksum.{folded, total}
use Rattle.word_sum.specs.ChecksumChange.{TurnsInto}
use Rattle.word_sum.proofs.ChecksumLemmas.{folded_twice}
use Rattle.ip_translation.specs.AddressTables.{embedded}
use Rattle.ip_translation.specs.HeadersToIpv6 as headers
use Rattle.ip_translation.proofs.ReplacedAddressLemmas.{address_len, both_turn}
use Rattle.ip_translation.proofs.header_translation.change_by_headers.Goals as goal

pub returns-clause-removed : goal.returns-clause-removed
returns-clause-removed c =
    c.replace_address.ensures.removed
    ∙ ap (λ n. folded (n + total c.destination.result)) (c.replace_address-change.ensures.removed
    ∙ ap (λ n. folded (n + total c.source.result)) c.new-change.ensures.removed)
    ∙ folded_twice 0 (total c.source.result) (total c.destination.result)
    ∙ ap folded (omega arith)
    ∙ ap₂ (λ source destination. folded (total source + total destination)) c.source.ensures c.destination.ensures

pub returns-clause-added : goal.returns-clause-added
returns-clause-added c =
    let source : List ℕ = embedded c.args.prefixes.now.source c.source.result in
    let destination : List ℕ = embedded c.args.prefixes.now.destination c.destination.result in
    c.replace_address.ensures.added
    ∙ ap (λ n. folded (n + total destination)) (c.replace_address-change.ensures.added
    ∙ ap (λ n. folded (n + total source)) c.new-change.ensures.added)
    ∙ folded_twice 0 (total source) (total destination)
    ∙ ap folded (omega arith)
    ∙ ap₂ (λ source destination. folded (total (embedded c.args.prefixes.now.source source)
    + total (embedded c.args.prefixes.now.destination destination))) c.source.ensures c.destination.ensures

pub returns-clause-turned : goal.returns-clause-turned
returns-clause-turned c = λ protocol some.
    let header : List ℕ = c.args.header.now in
    let source : List ℕ = embedded c.args.prefixes.now.source (headers.source header) in
    let destination : List ℕ = embedded c.args.prefixes.now.destination (headers.destination header) in
    let source_len : length source ≡ 16 =
    ap length (sym c.requires.addresses.source) ∙ address_len c.args.front.now 8 (omega (arith, c.requires.there)) in
    let destination_len : length destination ≡ 16 =
    ap length (sym c.requires.addresses.destination) ∙ address_len c.args.front.now 24 (omega (arith, c.requires.there)) in
    let old_source_len : length (headers.source header) ≡ 4 = ap length (sym c.source.ensures) ∙ search rules in
    let old_destination_len : length (headers.destination header) ≡ 4 = ap length (sym c.destination.ensures) ∙ search rules in
    record {
      turns = λ len rest short.
          subst₂ (λ source destination. TurnsInto c.replace_address.result (total (ipv4_pseudo_header source destination protocol len) + rest)
          (total (ipv6_pseudo_header (embedded c.args.prefixes.now.source source)
          (embedded c.args.prefixes.now.destination destination) protocol len) + rest))
          c.source.ensures c.destination.ensures
          (both_turn c.new-change.result c.replace_address-change.result c.replace_address.result
          c.source.result c.destination.result (embedded c.args.prefixes.now.source c.source.result)
          (embedded c.args.prefixes.now.destination c.destination.result) protocol len rest
          (search rules) (search rules)
          (ap (λ ipv4. length (embedded c.args.prefixes.now.source ipv4)) c.source.ensures ∙ source_len)
          (ap (λ ipv4. length (embedded c.args.prefixes.now.destination ipv4)) c.destination.ensures ∙ destination_len)
          short c.new-change.ensures.unchanged c.replace_address-change.ensures.extends c.replace_address.ensures.extends);
      old_some = λ len.
          ipv4_pseudo_header_some (headers.source header) (headers.destination header) protocol len old_source_len old_destination_len some;
      new_some = λ len. ipv6_pseudo_header_some source destination protocol len source_len destination_len some;
    }
