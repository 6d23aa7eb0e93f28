-- The exit statuses of the program.
use Rattle.std.specs.Prelude.{ℕ, Bool, ◌&&◌, if◌then◌else◌, nat_lt}
use Rattle.capture_summary.specs.SummaryTables.{SummaryTables, has_fault}
use Rattle.capture_request.specs.declared.exit_status.ExitStatus.{ExitStatus}
use Rattle.capture_request.specs.declared.exit_status.ExitStatus.TheVariants.{Failed, Fault, NoCapture, Success, Unfinished}

-- the exit status of the program as a number
abbrev pub exit_number : ExitStatus → ℕ
exit_number Success = 0
exit_number Unfinished = 1
exit_number NoCapture = 2
exit_number Failed = 3
exit_number Fault = 4

-- the status with the greater number
abbrev pub greater : ExitStatus → ExitStatus → ExitStatus
greater status other = if nat_lt (exit_number status) (exit_number other) then other else status

-- The exit status of a run. It is `Fault` if a check is requested, and a packet has a wrong checksum or was refused. Otherwise it is
-- `greatest`, the greatest status of the reports.
abbrev pub final_status : Bool → ExitStatus → SummaryTables → ExitStatus
final_status check greatest tables = if check && has_fault tables then Fault else greatest
