use Rattle.std.proofs.Common.{[], sym, append-nil, inr}
use Rattle.pktprobe.proofs.probe.run.Goals as goal

-- a text that was written whole is a beginning of itself
pub returns-in-Ok-clause-failed : goal.returns-in-Ok-clause-failed
returns-in-Ok-clause-failed g c = λ _. inr (record {
  input = c.in-Ok.ensures.written.input;
  reads = c.in-Ok.ensures.written.reads;
  begins = record { written = _; unwritten = []; parts = sym (append-nil _); appends = c.in-Ok.ensures.written.appends };
})
