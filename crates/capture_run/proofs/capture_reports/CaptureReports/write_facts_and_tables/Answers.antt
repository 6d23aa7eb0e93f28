use Rattle.capture_words.proofs.WrittenLemmas.{written_then}
use Rattle.capture_run.proofs.capture_reports.CaptureReports.write_facts_and_tables.Goals as goal

-- the tables follow the facts of the capture
pub returns : goal.returns
returns g c =
    written_then _ _ _ _ _ _ c.in_ok-write_facts.ensures (written_then _ _ _ _ _ _ c.in_ok-write_summary.ensures
    (written_then _ _ _ _ _ _ c.in_ok-write_timeline.ensures c.write_files.ensures))
