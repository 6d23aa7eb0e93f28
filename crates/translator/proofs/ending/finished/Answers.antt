use Rattle.std.proofs.Common.{rules}
use Rattle.std.specs.Option.{option_map}
use Rattle.translator.specs.Outputs.{IsEndLine, ended_status, summary_after}
use Rattle.translator.proofs.OutputLemmas.{lacks_more, not_both, summary_follows}
use Rattle.translator.proofs.ending.finished.Goals as goal

-- the error of the capture could not be written
pub returns-in_err-status-clause-text : goal.returns-in_err-status-clause-text
returns-in_err-status-clause-text g c =
    let translated = c.args.translated in
    lacks_more _ _ _ _ (IsEndLine (option_map (λ text. text.now) c.args.name) translated.ended)
    (summary_after c.args.table.now (ended_status translated.ended) translated.flushed translated.counts)
    (not_both _ c.from_residual.ensures.0) c.ended_status.ensures.line

-- the counts could not be written
pub returns-in_err-write_summary-clause-text : goal.returns-in_err-write_summary-clause-text
returns-in_err-write_summary-clause-text g c =
    let translated = c.args.translated in
    summary_follows _ _ _ _ _ _ (option_map (λ text. text.now) c.args.name) c.args.table.now translated.ended translated.flushed
    translated.counts _ c.in_ok-status.ensures.status (search rules) (search rules)
    (λ ok. absurd (not_both _ c.from_residual-in_err-write_summary.ensures.0 ok)) c.ended_status.ensures.line c.write_summary.ensures

-- the whole text was written
pub returns-clause-text : goal.returns-clause-text
returns-clause-text g c =
    let translated = c.args.translated in
    summary_follows _ _ _ _ _ _ (option_map (λ text. text.now) c.args.name) c.args.table.now translated.ended translated.flushed
    translated.counts _ c.in_ok-status.ensures.status (search rules) (search rules) (λ ok. search rules) c.ended_status.ensures.line
    c.write_summary.ensures
