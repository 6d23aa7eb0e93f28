use Rattle.std.proofs.Common.{◌∙◌, arith}
use Rattle.std.proofs.lemmas.List.{length-set}
use Rattle.capture_arguments.specs.Chosen.{IsNoProtocol, ReadsProtocol}
use Rattle.capture_arguments.proofs.ChosenLemmas.{first-wrong, reads-step}
use Rattle.capture_arguments.proofs.chosen.protocols_in.Goals as goal

-- one more name
pub loop-place-preserved : goal.loop-place-preserved
loop-place-preserved c =
    let (len, reads) = c.loop-place.invariant in (
      length-set c.loop-place.protocols _ _ ∙ len,
      reads-step ReadsProtocol c.args.texts.now
          (λ text. text.now) c.loop-place.place _ c.loop-place.protocols c.in-Some.protocol c.loop-place-test.true
          (omega arith) reads (rw c.in-Some.is at c.protocol_named.ensures),
    )

-- the first text that is no name
pub returns-in-None-clause-refusal : goal.returns-in-None-clause-refusal
returns-in-None-clause-refusal c =
    first-wrong ReadsProtocol IsNoProtocol c.args.texts.now
    (λ text. text.now) c.loop-place.place _ c.loop-place.protocols c.loop-place-test.true
    c.loop-place.invariant.1 (rw c.in-None.is at c.protocol_named.ensures)
