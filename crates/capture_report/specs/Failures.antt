-- The exit statuses of runs that ended early.
use Rattle.std.specs.Prelude.{ℕ, ◌+◌}
use Rattle.std.specs.IoError.{error_kind}
use Rattle.std.specs.declared.io.ErrorKind.{ErrorKind}
use Rattle.std.specs.declared.io.ErrorKind.TheVariants as kinds
use Rattle.capture_request.specs.declared.writing_error.WriteError.{WriteError}
use Rattle.capture_request.specs.declared.writing_error.WriteError.TheVariants.{NoMemory, Write}

-- The exit status after this kind of error. If the reader of standard output or standard error ended first, it is 128 + 13, which a shell
-- reports for a program that SIGPIPE (signal 13) ended. Otherwise it is 3.
abbrev pub failure_number : ErrorKind → ℕ
failure_number kinds.BrokenPipe = 128 + 13
failure_number kind = 3

-- the exit status if a report could not be written
abbrev pub write_failure_number : WriteError → ℕ
write_failure_number (Write error) = failure_number (error_kind error)
write_failure_number NoMemory = 3
