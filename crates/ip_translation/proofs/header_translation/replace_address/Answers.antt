use Rattle.std.proofs.Common.{◌+◌, ap, ◌∙◌, subst, sym}
use Rattle.word_sum.specs.Checksum.{folded, total}
use Rattle.word_sum.specs.ChecksumChange.{IsExtendedBy, added_value}
use Rattle.ip_translation.specs.Prefixes as prefixes
use Rattle.ip_translation.proofs.AddressTableLemmas.{embedded_without}
use Rattle.ip_translation.proofs.header_translation.replace_address.Goals as goal

pub returns-in-Some-clause-added : goal.returns-in-Some-clause-added
returns-in-Some-clause-added c =
    c.replace_by_96.ensures.added
    ∙ ap (λ prefix. folded (added_value c.args.change + total (prefixes.embedded prefix c.args.ipv4))) (sym c.in-Some.ensures.1)
    ∙ ap (λ address. folded (added_value c.args.change + total address))
    (sym (embedded_without c.args.table.now c.args.ipv4 c.in-Some.ensures.0))

pub returns-in-Some-clause-extends : goal.returns-in-Some-clause-extends
returns-in-Some-clause-extends c =
    subst (λ address. IsExtendedBy c.args.change c.args.ipv4 address c.replace_by_96.result)
    (ap (λ prefix. prefixes.embedded prefix c.args.ipv4) (sym c.in-Some.ensures.1)
    ∙ sym (embedded_without c.args.table.now c.args.ipv4 c.in-Some.ensures.0))
    c.replace_by_96.ensures.extends
