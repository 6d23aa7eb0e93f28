use Rattle.std.proofs.Common.{arith}
use Rattle.std.proofs.lemmas.Str.Pattern.{split_once_first}
use Rattle.capture_arguments.proofs.ChosenLemmas.{cut_by, cut_shorter}
use Rattle.capture_arguments.proofs.chosen.cut_item.Goals as goal

-- a comma is an ASCII character
pub returns-clause-items : goal.returns-clause-items
returns-clause-items c = cut_by c.args.list.now _ (split_once_first 44 c.args.list.now _ c.split_once.ensures.cases (omega arith))

pub returns-clause-shorter : goal.returns-clause-shorter
returns-clause-shorter c = cut_shorter c.args.list.now _ (split_once_first 44 c.args.list.now _ c.split_once.ensures.cases (omega arith))
