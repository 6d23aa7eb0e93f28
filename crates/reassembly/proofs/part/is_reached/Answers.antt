use Rattle.std.proofs.Common.{sym}
use Rattle.reassembly.proofs.PartLemmas.{none_reaches}
use Rattle.reassembly.proofs.part.is_reached.Goals as goal

pub returns-then-reach-place : goal.returns-then-reach-place
returns-then-reach-place c = sym (none_reaches c.args.parts.now c.args.reach c.args.place c.requires c.if-reach-place.true)
