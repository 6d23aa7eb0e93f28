-- The progress line of a capture.
use Rattle.std.specs.Prelude.{ℕ, ◌+◌, ◌*◌, ◌/◌, ◌&&◌, not, nat_le, nat_lt, Bool, if◌then◌else◌}
use Rattle.program_files.specs.declared.progress.Progress.{Progress}

-- the reader of the capture
abbrev pub inner_of : {R : Type 0} → Progress R → R
inner_of progress = progress.inner

-- the length of the capture
abbrev pub len_of : {R : Type 0} → Progress R → ℕ
len_of progress = progress.len

-- the number of bytes that were read
abbrev pub read_of : {R : Type 0} → Progress R → ℕ
read_of progress = progress.read

-- the number of bytes after which the line is written next
abbrev pub next_of : {R : Type 0} → Progress R → ℕ
next_of progress = progress.next

-- whether the line was written and must be erased
abbrev pub is_written : {R : Type 0} → Progress R → Bool
is_written progress = progress.is_written

-- The progress line is shown for a file of more than 100 MB if standard error is a terminal, and no other output is written to the terminal
-- while the file is read.
abbrev pub is_shown : ℕ → Bool → Bool → Bool
is_shown len stderr_is_terminal lines_on_terminal = nat_lt 100000000 len && (stderr_is_terminal && not lines_on_terminal)

-- the percentage of the length that was read, as a whole number, at most 100
abbrev pub percent_of : ℕ → ℕ → ℕ
percent_of read len = if nat_le len read then 100 else read * 100 / len

-- the number of bytes after which the percentage is shown again: the next whole number above a hundredth of the length
abbrev pub step_of : ℕ → ℕ
step_of len = len / 100 + 1
