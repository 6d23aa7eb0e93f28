-- A file that is created when the first byte is written to it.
use Rattle.std.specs.Prelude.{◌≡◌, ℕ, Bool, true, false, if◌then◌else◌, List, Option, Some, None, Result, Ok, Err, option_and_then}
use Rattle.std.specs.Borrow.{Bor}
use Rattle.std.specs.Io.KnownBytes.{WriteAppends}
use Rattle.std.specs.declared.io.Error.{Error}
use Rattle.program_files.specs.Inputs.{ComparesFiles}
use Rattle.program_files.specs.declared.file_facts.FileFacts.{FileFacts}
use Rattle.program_files.specs.declared.input.Input.{Input}
use Rattle.program_files.specs.declared.new_file.NewFile.{NewFile}

-- the file after it was created
abbrev pub file_of : {S F : Type 0} → NewFile S F → Option F
file_of new = new.file

-- the system refused to create the file
abbrev pub is_refused : {S F : Type 0} → NewFile S F → Bool
is_refused new = new.is_refused

-- the bytes that were written to the file after it was created
abbrev pub bytes_held : {S F : Type 0} → (F → Option (List ℕ)) → NewFile S F → Option (List ℕ)
bytes_held of_file new = option_and_then of_file new.file

-- a file with this name that is not created yet
abbrev pub uncreated : {S F : Type 0} → Bor S → Bor (List ℕ) → NewFile S F
uncreated system name = record { system = system; name = name; file = None; is_refused = false }

-- The result is a file with this name, which is not created yet. If it is the file from which the input is read, there is no result.
-- `Describes` and `DescribesOpen` are the statements of a file system about the facts of a file.
pub record MakesUnlessInput {S G F C : Type 0} (Describes : List ℕ → Result FileFacts Error → Type 0)
    (DescribesOpen : F → Result FileFacts Error → Type 0) (input : Input G F) (system : Bor S) (name : Bor (List ℕ))
    (result : Option (NewFile S C)) : Type 0 where
  pub is_input : Bool
  pub compares : ComparesFiles Describes DescribesOpen input name.now is_input
  pub made : result ≡ (if is_input then None else Some (uncreated system name))

-- The file that was created before, or else the result of creating it by its name. `Creates` is the statement of a file system about a name
-- and this result.
abbrev pub IsFile : {F : Type 0} → Option F → (Result F Error → Type 0) → Result F Error → Type 0
IsFile None Creates created = Creates created
IsFile (Some file) Creates created = created ≡ Ok file

-- the file of a new file, which is created first if necessary
abbrev pub IsCreated : {S F : Type 0} → (S → List ℕ → Result F Error → Type 0) → NewFile S F → Result F Error → Type 0
IsCreated Creates new created = IsFile new.file (Creates new.system.now new.name.now) created

-- the bytes were written to the file that was created, or nothing was written since the file can't be created
abbrev pub WritesCreated : {S F : Type 0} → (F → Option (List ℕ)) → Result F Error → NewFile S F → List ℕ → Result ℕ Error → Type 0
WritesCreated {S} {F} contents (Ok file) after bytes result = (written : F) × (after.file ≡ Some written) × (after.is_refused ≡ false)
    × WriteAppends (contents file) (contents written) result bytes
WritesCreated contents (Err error) after bytes result = (result ≡ Err error) × (after.file ≡ None) × (after.is_refused ≡ true)

-- a write to a new file goes to the file of its name, which is created first if necessary
pub record WritesFile {S F : Type 0} (Creates : S → List ℕ → Result F Error → Type 0) (contents : F → Option (List ℕ))
    (before after : NewFile S F) (bytes : List ℕ) (result : Result ℕ Error) : Type 0 where
  pub created : Result F Error
  pub is_created : IsCreated Creates before created
  pub writes : WritesCreated contents created after bytes result
