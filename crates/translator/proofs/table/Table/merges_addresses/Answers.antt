use Rattle.std.proofs.Common.{◌∙◌, sym}
use Rattle.translator.proofs.MergingLemmas.{keeps_apart}
use Rattle.translator.proofs.table.Table.merges_addresses.Goals as goal

pub returns-clause-apart : goal.returns-clause-apart
returns-clause-apart c = λ apart. keeps_apart c.args.self.now (sym c.can_merge.ensures ∙ apart)
