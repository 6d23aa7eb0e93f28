use Rattle.std.proofs.Common.{rules}
use Rattle.std.specs.Option.{option_map}
use Rattle.capture_request.specs.Names.{shown_name}
use Rattle.capture_report.specs.Outputs.{AreErrorLines, counts_line}
use Rattle.capture_report.proofs.OutputLemmas.{lacks_more, not_both, writes_more}
use Rattle.capture_report.proofs.finished.Goals as goal

-- the error of the capture could not be written
pub returns-in_err-status-clause-lines : goal.returns-in_err-status-clause-lines
returns-in_err-status-clause-lines g c =
    lacks_more _ _ _ _ (AreErrorLines (option_map (λ text. shown_name text.now) c.args.name) c.args.written.ended)
    (counts_line c.args.written.counts)
    (not_both _ c.from_residual.ensures.0) c.written_status.ensures.lines

-- the output could not be flushed
pub returns-in_err-written-clause-lines : goal.returns-in_err-written-clause-lines
returns-in_err-written-clause-lines g c =
    lacks_more _ _ _ _ (AreErrorLines (option_map (λ text. shown_name text.now) c.args.name) c.args.written.ended)
    (counts_line c.args.written.counts)
    (not_both _ c.from_residual-in_err-written.ensures.0) c.written_status.ensures.lines

-- the numbers could not be written
pub returns-in_err-write_counts-clause-lines : goal.returns-in_err-write_counts-clause-lines
returns-in_err-write_counts-clause-lines g c =
    writes_more _ _ _ _ _ _ (AreErrorLines (option_map (λ text. shown_name text.now) c.args.name) c.args.written.ended)
    (counts_line c.args.written.counts)
    (λ ok. absurd (not_both _ c.from_residual-in_err-write_counts.ensures.0 ok))
    (λ ok. absurd (not_both _ c.from_residual-in_err-write_counts.ensures.0 ok))
    c.written_status.ensures.lines c.write_counts.ensures

-- all lines were written
pub returns-clause-lines : goal.returns-clause-lines
returns-clause-lines g c =
    writes_more _ _ _ _ _ _ (AreErrorLines (option_map (λ text. shown_name text.now) c.args.name) c.args.written.ended)
    (counts_line c.args.written.counts)
    (λ ok. search rules) (λ ok. search rules) c.written_status.ensures.lines c.write_counts.ensures
