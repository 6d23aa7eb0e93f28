use Rattle.std.proofs.Common.{arith, rules}
use Rattle.std.proofs.lemmas.Grind.{common_steps}
use Rattle.std.proofs.lemmas.List.Folds.{flat_map-map}
use Rattle.capture_words.proofs.WrittenLemmas.{each_more}
use Rattle.capture_text.proofs.tables.write_table.Goals as goal

-- the invariant holds after another row
pub loop-row-preserved : goal.loop-row-preserved
loop-row-preserved g c = each_more c.args.rows.now _ _ _ _ _ _ c.loop-row.invariant c.in_ok-write_row.ensures (search rules)

pub returns : goal.returns
returns g c = rw flat_map-map (grind (arith, common_steps))
