use Rattle.std.proofs.Common.{◌∙◌, Some, ap, refl, sym}
use Rattle.ip_part.proofs.FixedHeaderLemmas.{ipv6_fixed}
use Rattle.ip_part.proofs.ip_header.read_ipv6_header.Goals as goal

pub returns-clause-fixed : goal.returns-clause-fixed
returns-clause-fixed c =
    let begins = c.in-Some.ensures.found.0 refl in
    ipv6_fixed c.args.packet.now c.slice.result.now c.requires begins.whole (c.slice.ensures ∙ c.in-Some.ensures.kept)
    ∙ ap Some (sym c.ipv6_fixed_header.ensures)
