use Rattle.capture_run.proofs.capture_reports.CaptureReports.add.Goals as goal

-- `CaptureReports` keeps the reader after the capture, if no other beginning was accepted
pub returns-clause-report : goal.returns-clause-report
returns-clause-report g c = (
  c.report_packets.new.capture,
  c.only_capture.ensures,
  rw c.file.ensures at c.files_after-files.ensures,
  rw c.into_summary-summary.ensures (rw (c.new-packets.ensures.parts, c.new-packets.ensures.summary) at c.in_ok-ended.ensures.report),
)

-- the counted packets reach the limit, or do not reach it
pub returns-clause-limit : goal.returns-clause-limit
returns-clause-limit g c = rw c.into_summary-summary.ensures (rw c.new-packets.ensures.parts at c.in_ok-ended.ensures.limit)

pub returns-clause-within : goal.returns-clause-within
returns-clause-within g c =
    rw c.into_summary-summary.ensures (rw (c.new-packets.ensures.parts, c.new-packets.ensures.summary) at c.in_ok-ended.ensures.within)
