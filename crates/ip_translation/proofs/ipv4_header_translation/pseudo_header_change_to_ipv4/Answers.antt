use Rattle.std.proofs.Common.{◌+◌, ◌<◌, rules, ap, ap₂, ◌∙◌, subst₂}
use Rattle.ip_translation.specs.HeadersToIpv4 as specs
use Rattle.ip_translation.specs.AddressTables.{extracted}
use Rattle.net_base.specs.PseudoHeader.{ipv4_pseudo_header, ipv6_pseudo_header}
use Rattle.net_base.proofs.PseudoHeaderLemmas.{ipv4_pseudo_header_some, ipv6_pseudo_header_some}
use Rattle.word_sum.specs.Checksum.{folded, total}
use Rattle.word_sum.specs.ChecksumChange.{TurnsInto}
use Rattle.ip_translation.proofs.ipv4_header_translation.pseudo_header_change_to_ipv4.Goals as goal

pub returns-clause-removed : goal.returns-clause-removed
returns-clause-removed c =
    c.reversed.ensures.removed
    ∙ c.address_change.ensures.added
    ∙ ap₂ (λ source destination. folded (total source + total destination)) c.source-source.ensures c.destination-destination.ensures

pub returns-clause-added : goal.returns-clause-added
returns-clause-added c =
    c.reversed.ensures.added
    ∙ c.address_change.ensures.removed
    ∙ ap₂ (λ source destination. folded (total source + total destination))
    (c.ipv4_of-new_source.ensures.ipv4 ∙ ap (extracted c.args.prefixes.now.source) c.source-source.ensures)
    (c.ipv4_of-new_destination.ensures.ipv4 ∙ ap (extracted c.args.prefixes.now.destination) c.destination-destination.ensures)

pub returns-clause-turned : goal.returns-clause-turned
returns-clause-turned c = λ protocol some.
    let is_source = c.ipv4_of-new_source.ensures.ipv4 ∙ ap (extracted c.args.prefixes.now.source) c.source-source.ensures in
    let is_destination = c.ipv4_of-new_destination.ensures.ipv4 ∙ ap (extracted c.args.prefixes.now.destination) c.destination-destination.ensures in
    record {
      turns = λ len rest short.
          subst₂ (λ source destination. TurnsInto c.reversed.result (total (ipv6_pseudo_header source destination protocol len) + rest)
          (total (specs.new_pseudo_header c.args.prefixes.now c.args.header.now protocol len) + rest))
          c.source-source.ensures c.destination-destination.ensures
          (subst₂ (λ source destination. TurnsInto c.reversed.result
          (total (ipv6_pseudo_header c.source-source.result c.destination-destination.result protocol len) + rest)
          (total (ipv4_pseudo_header source destination protocol len) + rest))
          is_source is_destination
          (c.reversed.ensures.reverses
          (total (ipv4_pseudo_header c.ipv4_of-new_source.result c.ipv4_of-new_destination.result protocol len) + rest)
          (total (ipv6_pseudo_header c.source-source.result c.destination-destination.result protocol len) + rest)
          (c.address_change.ensures.turns protocol len rest short)));
      old_some = λ len.
          subst₂ (λ source destination. 0 < total (ipv6_pseudo_header source destination protocol len)) c.source-source.ensures
          c.destination-destination.ensures
          (ipv6_pseudo_header_some c.source-source.result c.destination-destination.result protocol len (search rules) (search rules) some);
      new_some = λ len.
          subst₂ (λ source destination. 0 < total (ipv4_pseudo_header source destination protocol len)) is_source is_destination
          (ipv4_pseudo_header_some c.ipv4_of-new_source.result c.ipv4_of-new_destination.result protocol len (search rules) (search rules) some);
    }
