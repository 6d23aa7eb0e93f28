use Rattle.std.proofs.Common.{◌∙◌, ◌-◌, arith, rules, sym}
use Rattle.capture_file.proofs.TextsLemmas.{at_first, at_start, one_back}
use Rattle.capture_file.proofs.kept_text.char_start.Goals as goal

-- the invariant holds one byte before
pub loop-start-preserved : goal.loop-start-preserved
loop-start-preserved c = (
  omega (arith, c.loop-start.invariant.0),
  c.loop-start.invariant.1
      ∙ one_back c.args.text.now c.loop-start.start (c.loop-start.start - 1) (omega (arith, c.loop-start-test.true)) (search rules),
)

-- the first byte of a character
pub returns-else-is_continuation-clause-start : goal.returns-else-is_continuation-clause-start
returns-else-is_continuation-clause-start c =
    sym (c.loop-start.invariant.1 ∙ at_start c.args.text.now c.loop-start.start (search rules))

-- the first byte of the text
pub returns-after-loop-start-clause-start : goal.returns-after-loop-start-clause-start
returns-after-loop-start-clause-start c =
    sym (c.loop-start.invariant.1 ∙ at_first c.args.text.now c.loop-start.start (omega (arith, c.loop-start-test.false)))
