-- Filters of tcpdump among the names of captures.
use Rattle.std.specs.Prelude.{◌≡◌, ℕ, List, [], ◌∷◌, MatchBool, MatchOption, Option, Some, None, Result}
use Rattle.std.specs.declared.io.Error.{Error}
use Rattle.capture_request.specs.Filters.{is_filter}
use Rattle.program_files.specs.Inputs.{FindsMissing}
use Rattle.program_files.specs.declared.file_facts.FileFacts.{FileFacts}

-- The error of the operating system if this name begins like a filter, and its file is missing. `Describes` is the statement of a file
-- system about a name and the facts of its file.
abbrev pub IsMissingFilter : (List ℕ → Result FileFacts Error → Type 0) → List ℕ → Option Error → Type 0
IsMissingFilter Describes name missing = MatchBool (is_filter name) (FindsMissing Describes name missing) (missing ≡ None)

-- the first of these names that begins like a filter and is the name of no file, with the error of the operating system, if there is one
abbrev pub FindsFilter : (List ℕ → Result FileFacts Error → Type 0) → List (List ℕ) → Option (List ℕ × Error) → Type 0
FindsFilter Describes [] found = found ≡ None
FindsFilter Describes (name ∷ names) found = (missing : Option Error) × IsMissingFilter Describes name missing
    × MatchOption missing (FindsFilter Describes names found) (λ error. found ≡ Some (name, error))
