use Rattle.std.proofs.Common.{◌+◌, ◌≤◌, ℕ, List, [], length, take}
use Rattle.capture_numbers.specs.declared.byte_order.ByteOrder.TheVariants.{BigEndian}
use Rattle.report_page.specs.Heads.{IsHeadAfter}
use Rattle.report_page.proofs.head.report_page_head.Given as goal

-- whatever head the other blocks lead to, all blocks lead to it
abbrev pub invariant-loop-block : goal.invariant-loop-block
invariant-loop-block l =
    (l.len ≤ length l.head)
    × ((count : ℕ) × ((more : ℕ) (whole : List ℕ) → IsHeadAfter more l.section l.rest (take l.len l.head) whole
    → IsHeadAfter (count + more) BigEndian l.piece [] whole))

abbrev pub decreases-loop-block : goal.decreases-loop-block
decreases-loop-block l = length l.rest
