-- What the operating system states about a file.
use Rattle.std.specs.Prelude.{ℕ, ◌==◌, ◌&&◌, Bool, false, Option, Some, None, Result, Ok, Err}
use Rattle.std.specs.declared.io.Error.{Error}
use Rattle.program_files.specs.declared.file_facts.FileFacts.{FileFacts}
use Rattle.program_files.specs.declared.file_facts.FileId.{FileId}

-- the numbers that identify a file, if the operating system returned its facts
abbrev pub id_in : Result FileFacts Error → Option FileId
id_in (Ok facts) = Some facts.id
id_in (Err error) = None

-- the length of a file in bytes, and 0 if the operating system did not return its facts
abbrev pub len_in : Result FileFacts Error → ℕ
len_in (Ok facts) = facts.len
len_in (Err error) = 0

-- the error of the operating system, if it did not return the facts of a file
abbrev pub error_in : Result FileFacts Error → Option Error
error_in (Ok facts) = None
error_in (Err error) = Some error

-- two files are the same file: the numbers of both files are known, and are equal
abbrev pub is_same_file : Option FileId → Option FileId → Bool
is_same_file (Some file) (Some other) = file.device == other.device && file.number == other.number
is_same_file file other = false
