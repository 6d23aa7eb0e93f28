use Rattle.std.proofs.Common.{arith}
use Rattle.std.proofs.lemmas.Str.Pattern.{split_once_first}
use Rattle.capture_arguments.proofs.ChosenLemmas.{bounds_by}
use Rattle.capture_arguments.proofs.chosen.bounds_in.Goals as goal

-- `-` is an ASCII character
pub returns : goal.returns
returns c = bounds_by c.args.text.now _ (split_once_first 45 c.args.text.now _ c.split_once.ensures.cases (omega arith))
