use Rattle.std.proofs.lemmas.Result.{IfOk-weaker}
use Rattle.clap.specs.Words.{app_of}
use Rattle.translator.proofs.ArgumentLemmas.{all_options}
use Rattle.translator.proofs.arguments.command.Goals as goal

-- the line consists of the options, in their order
pub returns : goal.returns
returns c =
    IfOk-weaker _ _ _
    (λ more is_all. all_options _ _ _ (app_of more) c.bare.ensures c.in_ok-command.ensures c.in_ok-command-2.ensures is_all)
    c.with_files.ensures
