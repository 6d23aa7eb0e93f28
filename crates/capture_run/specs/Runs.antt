-- The beginning of a capture in a report.
use Rattle.std.specs.Prelude.{List, ℕ, Option, IfSome, Result, Err}
use Rattle.capture_request.specs.Endings.{IsRefusedCapture}
use Rattle.capture_request.specs.declared.capture_error.CaptureError.{CaptureError}
use Rattle.capture_request.specs.declared.capture_error.CaptureError.TheVariants.{Header, ReadHeader}
use Rattle.capture_request.specs.declared.reached.Reached.{Reached}

-- the report ended within the beginning of the capture, before the first packet
abbrev pub EndsAtHeader : Result Reached CaptureError → Type 0
EndsAtHeader (Err (Header error)) = Unit {0}
EndsAtHeader (Err (ReadHeader error)) = Unit {0}
EndsAtHeader other = ⊥

-- The report ended within the beginning of the capture. Either this error is the reason why the beginning is refused, or reading the
-- beginning failed.
abbrev pub RejectsBeginning : Option (List ℕ) → Result Reached CaptureError → Type 0
RejectsBeginning left (Err (Header error)) = IfSome left (IsRefusedCapture error)
RejectsBeginning left (Err (ReadHeader error)) = Unit {0}
RejectsBeginning left other = ⊥
