use Rattle.std.proofs.Common.{◌+◌, ◌<◌, rules, ap, ap₂, ◌∙◌, subst₂}
use Rattle.ip_translation.specs.AddressTables.{embedded}
use Rattle.net_base.specs.PseudoHeader.{ipv4_pseudo_header, ipv6_pseudo_header}
use Rattle.net_base.proofs.PseudoHeaderLemmas.{ipv4_pseudo_header_some, ipv6_pseudo_header_some}
use Rattle.word_sum.specs.Checksum.{folded, total}
use Rattle.word_sum.specs.ChecksumChange.{TurnsInto}
use Rattle.ip_translation.proofs.header_translation.pseudo_header_change.Goals as goal

pub returns-clause-removed : goal.returns-clause-removed
returns-clause-removed c =
    c.address_change.ensures.removed
    ∙ ap₂ (λ source destination. folded (total source + total destination)) c.source-source.ensures c.destination-destination.ensures

pub returns-clause-added : goal.returns-clause-added
returns-clause-added c =
    c.address_change.ensures.added
    ∙ ap₂ (λ source destination. folded (total source + total destination))
    (c.embed-new_source.ensures.embedded ∙ ap (embedded c.args.prefixes.now.source) c.source-source.ensures)
    (c.embed-new_destination.ensures.embedded ∙ ap (embedded c.args.prefixes.now.destination) c.destination-destination.ensures)

pub returns-clause-some : goal.returns-clause-some
returns-clause-some c = λ protocol len some. (
  subst₂ (λ source destination. 0 < total (ipv4_pseudo_header source destination protocol len)) c.source-source.ensures
      c.destination-destination.ensures
      (ipv4_pseudo_header_some c.source-source.result c.destination-destination.result protocol len (search rules) (search rules) some),
  subst₂ (λ source destination. 0 < total (ipv6_pseudo_header source destination protocol len))
      (c.embed-new_source.ensures.embedded ∙ ap (embedded c.args.prefixes.now.source) c.source-source.ensures)
      (c.embed-new_destination.ensures.embedded ∙ ap (embedded c.args.prefixes.now.destination) c.destination-destination.ensures)
      (ipv6_pseudo_header_some c.embed-new_source.result c.embed-new_destination.result protocol len (search rules) (search rules) some),
)

pub returns-clause-turns : goal.returns-clause-turns
returns-clause-turns c = λ protocol len rest short.
    subst₂ (λ source destination. TurnsInto c.address_change.result (total (ipv4_pseudo_header source destination protocol len) + rest)
    (total (ipv6_pseudo_header (embedded c.args.prefixes.now.source source)
    (embedded c.args.prefixes.now.destination destination) protocol len) + rest))
    c.source-source.ensures c.destination-destination.ensures
    (subst₂ (λ source destination. TurnsInto c.address_change.result
    (total (ipv4_pseudo_header c.source-source.result c.destination-destination.result protocol len) + rest)
    (total (ipv6_pseudo_header source destination protocol len) + rest))
    c.embed-new_source.ensures.embedded c.embed-new_destination.ensures.embedded
    (c.address_change.ensures.turns protocol len rest short))
