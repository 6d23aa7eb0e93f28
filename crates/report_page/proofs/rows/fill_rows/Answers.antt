use Rattle.std.proofs.Common.{◌+◌, refl, rules, subst, sym}
use Rattle.std.proofs.lemmas.Grind.{take-set_at}
use Rattle.report_page.proofs.ReadingLemmas.{rows_push}
use Rattle.report_page.specs.Reading.{ReadsRows}
use Rattle.report_page.proofs.rows.fill_rows.Goals as goal

-- the row that was read is written after the rows before it
pub loop-count-preserved : goal.loop-count-preserved
loop-count-preserved g c =
    let (within, rows, buffer, read) = c.loop-count.invariant in
    let count = c.loop-count.count in
    let one = rw buffer at c.in-Ok.ensures.row in
    let written = take-set_at c.loop-count.rows count (count + 1) c.in-Ok.row refl c.loop-count-test.true in (
      search rules,
      search rules,
      search rules,
      subst (ReadsRows _ _ _ _ _ _) (sym written) (rows_push _ _ _ _ _ _ _ _ _ _ read one),
    )
