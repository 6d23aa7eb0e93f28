-- The captures that are opened for a report, and the end of a report. `IsStandard` and `Opens` are the statements of a file system about
-- standard input, and about a name and the result of opening its file.
use Rattle.std.specs.Prelude.{◌≡◌, ◌⊎◌, ℕ, IfOk, List, Result, Ok, Err}
use Rattle.std.specs.Global.{Global}
use Rattle.std.specs.Io.Buffered.{reader_inner}
use Rattle.std.specs.IoError.{error_kind}
use Rattle.std.specs.declared.io.buffered.BufReader.{BufReader}
use Rattle.std.specs.declared.io.Error.{Error}
use Rattle.std.specs.declared.io.ErrorKind.TheVariants.{OutOfMemory}
use Rattle.capture_report.specs.Failures.{write_failure_number}
use Rattle.capture_request.specs.ExitStatuses.{exit_number}
use Rattle.capture_request.specs.declared.exit_status.ExitStatus.{ExitStatus}
use Rattle.capture_request.specs.declared.writing_error.WriteError.{WriteError}
use Rattle.program_files.specs.Inputs.{IsRequestedBy, IsUnopened}
use Rattle.program_files.specs.Progress.{inner_of}
use Rattle.program_files.specs.declared.input.Input.{Input}
use Rattle.program_files.specs.declared.progress.Progress.{Progress}

-- this is the input that the name requests, with a buffer and a progress line
abbrev pub IsOpened : {G F : Type 0} → (G → Type 0) → (List ℕ → Result F Error → Type 0) → List ℕ
    → BufReader (Progress (Input G F)) Global → Type 0
IsOpened IsStandard Opens name input = IsRequestedBy IsStandard Opens name (inner_of (reader_inner input))

-- no input is opened by the name, because of an error of the operating system, a name that is not UTF-8, or because no memory is left
pub record IsMissed {F : Type 0} (Opens : List ℕ → Result F Error → Type 0) (name : List ℕ) : Type 0 where
  pub error : Error
  pub reason : IsUnopened Opens name error ⊎ (error_kind error ≡ OutOfMemory)

-- the exit status at the end of a report
abbrev pub report_number : Result ExitStatus WriteError → ℕ
report_number (Ok status) = exit_number status
report_number (Err error) = write_failure_number error

-- A report ended with this exit status. If it was written to its end, `IsReport` holds for its status.
pub record EndsReport (IsReport : ExitStatus → Type 0) (number : ℕ) : Type 0 where
  pub ended : Result ExitStatus WriteError
  pub is_number : number ≡ report_number ended
  pub is_report : IfOk ended IsReport
