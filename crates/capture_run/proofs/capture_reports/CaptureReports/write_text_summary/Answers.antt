use Rattle.std.proofs.KnownBytes.{Appends-trans}
use Rattle.capture_run.proofs.capture_reports.CaptureReports.write_text_summary.Goals as goal

-- the facts and the tables follow the empty line
pub returns : goal.returns
returns g c = Appends-trans _ _ _ _ _ c.in_ok-write_empty_line.ensures c.in_ok-write_facts_and_tables.ensures
