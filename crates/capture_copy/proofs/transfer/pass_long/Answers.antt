use Rattle.std.proofs.Common.{[], arith, inr, refl}
use Rattle.std.proofs.KnownBytes.{Consumes-nil}
use Rattle.capture_copy.proofs.PartLemmas.{rest_skipped}
use Rattle.capture_copy.proofs.transfer.pass_long.Goals as goal

-- skipping failed, and nothing was written
pub returns-in-Err-clause-passes : goal.returns-in-Err-clause-passes
returns-in-Err-clause-passes g c = inr (
  refl,
  0,
  omega arith,
  g.R.Read.remaining c.args.copier.now.input,
  rest_skipped _ c.args.first.now [] _ _ _ 0 c.if-not-is_written.true refl (Consumes-nil _),
)
