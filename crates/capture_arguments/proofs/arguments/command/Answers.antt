use Rattle.std.proofs.lemmas.Result.{IfOk-weaker}
use Rattle.clap.specs.Words.{app_of}
use Rattle.capture_arguments.proofs.CommandLemmas.{all_options}
use Rattle.capture_arguments.proofs.arguments.command.Goals as goal

-- the line consists of the parts, in their order
pub returns-clause-line : goal.returns-clause-line
returns-clause-line g c =
    IfOk-weaker _ _ _
    (λ more is_all. all_options _ _ _ _ _ _ (app_of more) c.bare.ensures.app c.in_ok-command.ensures.rules c.in_ok-command-2.ensures.rules
    c.in_ok-command-3.ensures.rules c.in_ok-command-4.ensures.rules c.in_ok-command-5.ensures.rules is_all) c.with_files.ensures.rules
