use Rattle.capture_run.proofs.capture_reports.CaptureReports.write_summary.Goals as goal

-- the summary as text
pub returns-in-Text : goal.returns-in-Text
returns-in-Text g c = λ conversations endpoints. rw c.in-Text.is (rw (conversations, endpoints) at c.write_text_summary.ensures)

-- the summary as JSON
pub returns-in-Json : goal.returns-in-Json
returns-in-Json g c = λ conversations endpoints. rw c.in-Json.is (rw (conversations, endpoints) at c.write_json_summary.ensures)
