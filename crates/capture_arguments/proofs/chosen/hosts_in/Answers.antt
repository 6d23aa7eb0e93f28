use Rattle.std.proofs.Common.{◌∙◌, Err, arith}
use Rattle.std.proofs.lemmas.List.{length-set}
use Rattle.capture_arguments.specs.Chosen.{ReadsHost}
use Rattle.capture_summary.specs.Networks.{ReadsNetwork}
use Rattle.capture_arguments.proofs.ChosenLemmas.{first-wrong, reads-step}
use Rattle.capture_arguments.proofs.chosen.hosts_in.Goals as goal

-- the invariant holds after another host
pub loop-place-preserved : goal.loop-place-preserved
loop-place-preserved c =
    let (len, reads) = c.loop-place.invariant in (
      length-set c.loop-place.hosts _ _ ∙ len,
      reads-step ReadsHost c.args.texts.now (λ text. text.now) c.loop-place.place _ c.loop-place.hosts c.in-Ok.host c.loop-place-test.true
          (omega arith) reads c.in-Ok.ensures.value,
    )

-- the error for the first text that is not a host
pub returns-in-Err-clause-refusal : goal.returns-in-Err-clause-refusal
returns-in-Err-clause-refusal c =
    first-wrong ReadsHost (λ wrong. ReadsNetwork wrong (Err c.in-Err.error)) c.args.texts.now (λ text. text.now) c.loop-place.place _
    c.loop-place.hosts c.loop-place-test.true c.loop-place.invariant.1 c.in-Err.ensures.value
