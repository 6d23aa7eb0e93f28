use Rattle.std.proofs.Common.{◌≡◌, IsNone, length, map, take}
use Rattle.capture_run.specs.Captures.{Gives, ReportsEach, WritesReport, progress_of}
use Rattle.capture_run.proofs.report.report_each_capture.Given as goal

-- the captures before this one were reported
abbrev pub invariant-loop-place : goal.invariant-loop-place
invariant-loop-place g l =
    (l.reports.parts ≡ l.initial.reports.parts)
    × (IsNone l.reports.unwritten → IsNone l.initial.reports.unwritten)
    × WritesReport (g.W.Write.contents l.initial.outputs.report) (g.W.Write.contents l.outputs.report)
    (g.E.Write.contents l.initial.outputs.errors)
    (g.E.Write.contents l.outputs.errors) (IsNone l.reports.unwritten)
    (ReportsEach (Gives (g.O.Open.misses l.sources.opener.now) (g.O.Open.opens l.sources.opener.now) g.O.Input.Read.remaining)
    l.initial.reports.parts
    (length l.sources.names.now) 0
    (map (λ name. name.now) (take l.place l.sources.names.now)) (progress_of l.initial.reports) (progress_of l.reports))
