-- The file to which the packets of a capture are written instead of a report.
use Rattle.std.specs.Prelude.{◌≡◌, ℕ, ◌++◌, IfOk, IsOk, List, [], ◌∷◌, codes, decimal, Option, Some, Result, Ok, Err}
use Rattle.std.specs.Io.KnownBytes.{Keeps}
use Rattle.std.specs.declared.io.Error.{Error}
use Rattle.capture_request.specs.Endings.{exit_status}
use Rattle.capture_request.specs.ErrorLines.{AreEndLines, WritesSome}
use Rattle.capture_request.specs.declared.exit_status.ExitStatus.{ExitStatus}
use Rattle.capture_request.specs.declared.exit_status.ExitStatus.TheVariants as statuses
use Rattle.capture_request.specs.ExitStatuses.{exit_number}
use Rattle.capture_request.specs.declared.parts.Parts.{Parts}
use Rattle.capture_request.specs.declared.reached.Reached.{Reached}
use Rattle.capture_selection.specs.Captures.{SelectsCapture}
use Rattle.capture_selection.specs.declared.counts.Counts.{Counts}
use Rattle.capture_selection.specs.declared.selection_error.SelectionError.{SelectionError}
use Rattle.capture_selection.specs.declared.selection_error.SelectionError.TheVariants.{Capture, Write}

-- ---- exit statuses

-- The end of a run that wrote the packets of a capture: the exit status that a report of the capture would have, or the error of a write.
abbrev pub written_status : Result Reached SelectionError → Result ExitStatus Error
written_status (Ok reached) = Ok statuses.Success
written_status (Err (Capture error)) = Ok (exit_status error)
written_status (Err (Write error)) = Err error

-- if writing a packet failed, the run ends with the error of that write
abbrev pub FailsFirst : {T : Type 0} → Result Reached SelectionError → Result T Error → Type 0
FailsFirst (Err (Write error)) result = result ≡ Err error
FailsFirst ended result = Unit {0}

-- the run ends with an exit status that has this number
abbrev pub IsStatusOf : Result Reached SelectionError → ℕ → Type 0
IsStatusOf ended number = (status : ExitStatus) × (written_status ended ≡ Ok status) × (number ≡ exit_number status)

-- ---- what is written to standard error

-- the error lines at the end of a capture with this name: one line if the capture could not be read further, and otherwise no line
abbrev pub AreErrorLines : Option (List ℕ) → Result Reached SelectionError → List (List ℕ) → Type 0
AreErrorLines name (Ok reached) lines = AreEndLines name (Ok reached) lines
AreErrorLines name (Err (Capture error)) lines = AreEndLines name (Err error) lines
AreErrorLines name (Err (Write error)) lines = lines ≡ []

-- the line that states how many packets were read and how many were written
abbrev pub counts_line : Counts → List ℕ
counts_line counts =
    codes "capture_report: " ++ (decimal counts.read ++ (codes " packets read, " ++ (decimal counts.written ++ codes " written\n")))

-- the error lines at the end of a capture, and then the line with the counts of packets
abbrev pub AreSelectionLines : Option (List ℕ) → Result Reached SelectionError → Counts → List (List ℕ) → Type 0
AreSelectionLines name ended counts lines =
    (errors : List (List ℕ)) × AreErrorLines name ended errors × (lines ≡ errors ++ counts_line counts ∷ [])

-- ---- the run

-- the counts before the first packet
abbrev pub no_counts : Counts
no_counts = record { read = 0; chosen = 0; written = 0 }

-- The packets of a capture that have a line in a report with these options were written, up to the end of the capture or an error. Then the
-- output was flushed. At least a beginning of the lines for standard error was written, and all lines if the result is not an error. `name`
-- is the name of the capture in these lines. If the result is the error of writing a packet, nothing is stated about the output.
pub record WritesSelection (options : Parts) (name left still_left held now_held told now_told : Option (List ℕ)) (result : Result ℕ Error) : Type 0 where
  pub ended : Result Reached SelectionError
  pub counts : Counts
  pub then_held : Option (List ℕ)
  pub selects : SelectsCapture options ended left still_left held then_held no_counts counts
  pub flushed : Keeps then_held now_held
  pub lines : WritesSome told now_told (IsOk result) (AreSelectionLines name ended counts)
  pub status : IfOk result (IsStatusOf ended)
  pub failure : FailsFirst ended result
