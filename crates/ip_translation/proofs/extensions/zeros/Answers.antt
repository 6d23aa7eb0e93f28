use Rattle.std.proofs.Common.{take, ap, ◌∙◌}
use Rattle.std.proofs.lemmas.List.{take-replicate}
use Rattle.ip_translation.proofs.extensions.zeros.Goals as goal

pub returns-clause-zeros : goal.returns-clause-zeros
returns-clause-zeros c = ap (take c.args.len) c.requires.all ∙ take-replicate c.args.len 128 0 c.requires.there
