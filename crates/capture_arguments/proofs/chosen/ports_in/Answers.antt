use Rattle.std.proofs.Common.{◌∙◌, arith}
use Rattle.std.proofs.lemmas.List.{length-set}
use Rattle.capture_arguments.specs.Chosen.{IsNoRange, ReadsRange}
use Rattle.capture_arguments.proofs.ChosenLemmas.{first-wrong, reads-step}
use Rattle.capture_arguments.proofs.chosen.ports_in.Goals as goal

-- one more range of ports
pub loop-place-preserved : goal.loop-place-preserved
loop-place-preserved c =
    let (len, reads) = c.loop-place.invariant in (
      length-set c.loop-place.ports _ _ ∙ len,
      reads-step ReadsRange c.args.texts.now (λ text. text.now) c.loop-place.place _ c.loop-place.ports c.in-Some.range
          c.loop-place-test.true
          (omega arith) reads (rw c.in-Some.is at c.range_in.ensures),
    )

-- the first text that is no range of ports
pub returns-in-None-clause-refusal : goal.returns-in-None-clause-refusal
returns-in-None-clause-refusal c =
    first-wrong ReadsRange IsNoRange c.args.texts.now (λ text. text.now) c.loop-place.place _ c.loop-place.ports c.loop-place-test.true
    c.loop-place.invariant.1 (rw c.in-None.is at c.range_in.ensures)
