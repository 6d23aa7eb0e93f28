use Rattle.std.proofs.Common.{◌*◌, refl, rules, arith}
use Rattle.transport_part.proofs.VerdictLemmas.{is_partial}
use Rattle.transport_part.proofs.expected.wrong_or_partial.Goals as goal

pub returns-then-stored-partial : goal.returns-then-stored-partial
returns-then-stored-partial c =
    is_partial _ _ (c.args.pseudo_header.word * 256) c.args.stored c.ones_complement-partial.result c.ones_complement-partial.ensures
    (search (rules, arith)) refl
