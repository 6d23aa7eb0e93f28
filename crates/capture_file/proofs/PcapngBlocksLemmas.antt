-- Laws of the blocks of a file in memory: the results of `next` up to the end are the items of the file.
use Rattle.std.proofs.Common.{◌≡◌, true, List, [], ◌∷◌, Ok, Err, refl, ap, ◌∙◌, subst}
use Rattle.std.specs.Iterator.{Yields}
use Rattle.std.specs.Iterator.Runs.{Run, YieldsRun}
use Rattle.capture_file.specs.PcapngBlocks.{AreItems, BlockItem, GivesBlock, UnreadFile}
use Rattle.capture_numbers.specs.declared.byte_order.ByteOrder.{ByteOrder}

-- without bytes there are no items
none_left : (section : ByteOrder) (items : List BlockItem) → AreItems section [] items → items ≡ []
none_left section [] are = refl
none_left section (Ok block ∷ items) are = absurd (cc are.1)
none_left section (Err error ∷ items) are = absurd (are.0 refl)

calls_read : (items : List BlockItem) (before last : UnreadFile) → Yields GivesBlock before items last → last.rest ≡ []
    → AreItems before.section before.rest items
calls_read [] before last gave end = ap (λ file. file.rest) gave ∙ end
calls_read (Ok block ∷ items) before last gave end = (
  gave.0.rest,
  gave.1.0,
  gave.1.1,
  subst (λ section. AreItems section gave.0.rest items) gave.1.2 (calls_read items gave.0 last gave.2 end),
)
calls_read (Err error ∷ items) before last gave end =
    let others : AreItems gave.0.section [] items =
    subst (λ rest. AreItems gave.0.section rest items) gave.1.3 (calls_read items gave.0 last gave.2 end) in
    (gave.1.0, gave.1.1, none_left gave.0.section items others)

pub run_reads : (run : Run GivesBlock) → run.whole ≡ true → AreItems run.from.section run.from.rest run.items
unfolding YieldsRun
run_reads run all =
    let drains = run.gave.0 in
    calls_read run.items run.from drains.0 drains.1 (drains.2 all).1.0
