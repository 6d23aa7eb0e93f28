use Rattle.std.proofs.Common.{◌∙◌, ap, sym}
use Rattle.clap.specs.Words.{found_of}
use Rattle.capture_arguments.specs.Conflicts.{is_from_words}
use Rattle.capture_arguments.proofs.ConflictLemmas.{given-rows}
use Rattle.capture_arguments.proofs.conflicts.is_given.Goals as goal

-- the source of the value
pub returns : goal.returns
returns c =
    c.is_from_words.ensures ∙ ap is_from_words c.value_source.ensures ∙ sym (given-rows (found_of c.args.matches.now) c.args.name.now)
