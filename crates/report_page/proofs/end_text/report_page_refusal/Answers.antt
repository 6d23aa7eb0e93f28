use Rattle.std.proofs.Common.{subst}
use Rattle.report_page.specs.EndTexts.{IsRefused}
use Rattle.report_page.specs.Text.{WritesText}
use Rattle.report_page.proofs.end_text.report_page_refusal.Goals as goal

-- the beginning is not refused, so the first item decides
pub returns-in-Ok-Ok : goal.returns-in-Ok-Ok
returns-in-Ok-Ok c =
    subst (λ room. WritesText (λ words. IsRefused c.args.piece.now room) c.args.text.now c.put_refused.new.text c.put_refused.result)
    c.read_header.auto.buffer c.put_refused.ensures
