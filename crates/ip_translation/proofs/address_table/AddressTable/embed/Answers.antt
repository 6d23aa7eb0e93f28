use Rattle.std.proofs.Common.{None, Some, ap, refl, sym, ◌∙◌}
use Rattle.std.specs.Int.{to_be_bytes, w128}
use Rattle.ip_translation.specs.AddressMappings.{mapped_to_ipv6}
use Rattle.ip_translation.specs.Prefixes as prefixes
use Rattle.ip_translation.proofs.AddressTableLemmas.{back_again, embedded_is, some_ipv4}
use Rattle.ip_translation.proofs.address_table.AddressTable.embed.Goals as goal

pub returns-in-Some-clause-embedded : goal.returns-in-Some-clause-embedded
returns-in-Some-clause-embedded c =
    let is = embedded_is c.args.self.now c.args.ipv4 _ (Some c.in-Some.mapping) refl
    (sym c.mapping_of_ipv4.ensures ∙ c.in-Some.is) in
    c.to_be_bytes.ensures
    ∙ ap (to_be_bytes w128) (c.to_ipv6.ensures ∙ ap (mapped_to_ipv6 c.in-Some.mapping) c.from_be_bytes.ensures)
    ∙ sym is

pub returns-in-None-clause-embedded : goal.returns-in-None-clause-embedded
returns-in-None-clause-embedded c =
    let is = embedded_is c.args.self.now c.args.ipv4 _ None refl
    (sym c.mapping_of_ipv4.ensures ∙ c.in-None.is) in
    c.embed.ensures.embedded ∙ sym is

pub returns-in-Some-clause-extracted : goal.returns-in-Some-clause-extracted
returns-in-Some-clause-extracted c =
    let finds = sym c.mapping_of_ipv4.ensures ∙ c.in-Some.is in
    back_again c.args.self.now c.args.ipv4 _ (returns-in-Some-clause-embedded c)
    (λ empty. absurd (some_ipv4 c.args.self.now _ c.in-Some.mapping finds empty))

pub returns-in-None-clause-extracted : goal.returns-in-None-clause-extracted
returns-in-None-clause-extracted c =
    back_again c.args.self.now c.args.ipv4 _ (returns-in-None-clause-embedded c)
    (λ empty. ap (prefixes.extracted c.args.self.now.prefix) (sym c.embed.ensures.embedded) ∙ c.embed.ensures.extracted)
