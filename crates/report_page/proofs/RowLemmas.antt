-- The row of a packet before its addresses and ports are added.
use Rattle.std.proofs.Common.{◌≡◌, ℕ}
use Rattle.report_page.specs.Rows.{empty_row}
use Rattle.report_page.specs.declared.event.PageEvent.{PageEvent}
use Rattle.report_page.specs.declared.row.PageRow.{PageRow}
use Rattle.report_page.specs.declared.time.PageTime.{PageTime}

abbrev made : ℕ → PageTime → PageEvent → ℕ → ℕ → ℕ → PageRow
made end time event verdict protocol in_tunnel =
    record empty_row { end = end; time = time; event = event; verdict = verdict; protocol = protocol; in_tunnel = in_tunnel }

pub made_same : (end : ℕ) (event : PageEvent) (a a' : PageTime) (b b' c c' d d' : ℕ) → a ≡ a' → b ≡ b' → c ≡ c' → d ≡ d'
    → made end a event b c d ≡ made end a' event b' c' d'
made_same end event a a' b b' c c' d d' p q r s = cc
