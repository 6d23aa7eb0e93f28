-- A requested number of lines, after which a report ends.
use Rattle.std.specs.Prelude.{◌≡◌, ◌⊎◌, ◌≤◌, ℕ, ◌+◌, slice_index, Bool, true, false, nat_lt, not, List, [], ◌∷◌, ◌++◌, Option, Some, None, Result, Ok, Err}
use Rattle.capture_file.specs.CapturePackets.{FilePacket}
use Rattle.capture_request.specs.Report.{CountsEach}
use Rattle.capture_summary.specs.Kinds.{verdict_place}
use Rattle.capture_summary.specs.SummaryTables.{SummaryTables}
use Rattle.capture_summary.specs.declared.verdict_kind.VerdictKind.TheVariants as kinds
use Rattle.capture_request.specs.declared.capture_error.CaptureError.{CaptureError}
use Rattle.capture_request.specs.declared.capture_error.CaptureError.TheVariants.{Header, Read, ReadHeader, RecordCutOff, Refused, TooManyPackets}
use Rattle.capture_request.specs.declared.parts.Lines.{Lines}
use Rattle.capture_request.specs.declared.parts.Lines.TheVariants as lines
use Rattle.capture_request.specs.declared.parts.Parts.{Parts}
use Rattle.capture_request.specs.declared.reached.Reached.{Reached}
use Rattle.capture_request.specs.declared.reached.Reached.TheVariants.{End, Limit}

-- The number that a requested number limits: how many of the counted packets have a line. If no lines are requested, it is the number of
-- counted packets.
abbrev pub limited : Lines → SummaryTables → ℕ
limited lines.All tables = tables.packets
limited lines.Wrong tables =
    slice_index tables.verdicts (verdict_place kinds.Wrong) + slice_index tables.verdicts (verdict_place kinds.Refused)
limited lines.None tables = tables.packets

-- this number has reached the requested number; this is false if no number is requested
abbrev pub is_full : Option ℕ → ℕ → Bool
is_full None number = false
is_full (Some limit) number = not (nat_lt number limit)

-- this number does not exceed the requested number; this is true if no number is requested
abbrev pub IsWithin : Option ℕ → ℕ → Type 0
IsWithin None number = Unit {0}
IsWithin (Some limit) number = number ≤ limit

-- If the report ended at the limit, this number has reached the requested number. If it ended at the end of the capture, or at an error
-- after the beginning, the requested number was not reached. Nothing is stated about an error in the beginning, or about `TooManyPackets`.
abbrev pub EndsByLimit : Option ℕ → ℕ → Result Reached CaptureError → Type 0
EndsByLimit limit number (Ok End) = is_full limit number ≡ false
EndsByLimit limit number (Ok Limit) = is_full limit number ≡ true
EndsByLimit limit number (Err (RecordCutOff place offset required len)) = is_full limit number ≡ false
EndsByLimit limit number (Err (Refused error)) = is_full limit number ≡ false
EndsByLimit limit number (Err (Read place offset error)) = is_full limit number ≡ false
EndsByLimit limit number (Err TooManyPackets) = Unit {0}
EndsByLimit limit number (Err (Header error)) = Unit {0}
EndsByLimit limit number (Err (ReadHeader error)) = Unit {0}

-- the report of a capture ended, but not because the requested number was reached
abbrev pub EndsWithoutLimit : Result Reached CaptureError → Type 0
EndsWithoutLimit (Ok Limit) = ⊥
EndsWithoutLimit other = Unit {0}

-- The requested number was not reached before the last of these packets. If there is no packet, nothing is stated.
abbrev pub EndsWithRequested : Parts → SummaryTables → List FilePacket → Type 0
EndsWithRequested parts before packets =
    (packets ≡ [])
    ⊎ ((earlier : List FilePacket) × (last : FilePacket) × (between : SummaryTables) × (packets ≡ earlier ++ last ∷ [])
    × CountsEach parts.choice before earlier between × (is_full parts.limit (limited parts.lines between) ≡ false))
