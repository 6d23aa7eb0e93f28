-- What the options request of the program.
use Rattle.std.specs.Prelude.{ℕ, ◌==◌, ◌&&◌, ◌||◌, Bool, if◌then◌else◌, List, [], ◌∷◌, length, Option, Some, None}
use Rattle.std.specs.Borrow.{Bor}
use Rattle.capture_arguments.specs.declared.arguments.Options.{Options}
use Rattle.capture_report.specs.declared.task.Task.{Task}
use Rattle.capture_report.specs.declared.task.Task.TheVariants.{Refuse, Report, ReportByLine, Write}

-- the task if there is a capture to read: the packets are written to the file that is named, or else a report is written
abbrev pub writing_task : Option (Bor (List ℕ)) → Bool → Task
writing_task (Some name) by_line = Write name
writing_task None by_line = if by_line then ReportByLine else Report

-- What the options request. Nothing is read if no capture is named and standard input is a terminal. Each line of a report is written as
-- soon
-- as it is complete if this is requested, or if standard output is a terminal.
abbrev pub task_of : Options → Bool → Bool → Task
task_of options input_is_terminal output_is_terminal =
    if (length options.files.items == 0) && input_is_terminal then Refuse
    else writing_task options.write (options.line_buffered || output_is_terminal)

-- the first of these names, if there is one
abbrev pub first_name : List (Bor (List ℕ)) → Option (Bor (List ℕ))
first_name [] = None
first_name (name ∷ names) = Some name
