use Rattle.std.proofs.Common.{rules}
use Rattle.capture_json.proofs.JsonLemmas.{names_more}
use Rattle.capture_json.proofs.tcp.push_names_of_set.Goals as goal

-- the invariant holds after another flag
pub loop-flag-preserved : goal.loop-flag-preserved
loop-flag-preserved c =
    names_more c.args.flags.now (λ flag. (flag.0, flag.1.now)) _ _ _ _ _ (search rules) c.loop-flag.invariant c.in_ok-push_if_set.ensures
