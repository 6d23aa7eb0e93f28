use Rattle.std.proofs.Common.{rules}
use Rattle.capture_copy.proofs.BlockEndLemmas.{taken_refused}
use Rattle.capture_copy.proofs.blocks.take_block.Goals as goal

pub returns-in-Ok-clause-refused : goal.returns-in-Ok-clause-refused
returns-in-Ok-clause-refused c =
    taken_refused c.args.section.now c.take.new.self c.args.bytes.now c.take.result (search rules) (search rules)
