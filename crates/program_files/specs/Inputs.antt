-- The input of a capture. `IsStandard`, `Opens`, `Describes` and `DescribesOpen` are the statements of a file system: about standard input,
-- about a name and the result of opening its file, about a name and the facts of its file, and about an open file and its facts.
use Rattle.std.specs.Prelude.{◌≡◌, ◌≢◌, ◌==◌, ℕ, Bool, false, List, [], ◌∷◌, codes, MatchBool, Option, Result, Ok, Err}
use Rattle.std.specs.IoError.{error_kind}
use Rattle.std.specs.declared.io.Error.{Error}
use Rattle.std.specs.declared.io.ErrorKind.TheVariants.{InvalidFilename}
use Rattle.program_files.specs.Facts.{error_in, id_in, is_same_file, len_in}
use Rattle.program_files.specs.declared.file_facts.FileFacts.{FileFacts}
use Rattle.program_files.specs.declared.file_facts.FileId.{FileId}
use Rattle.program_files.specs.declared.input.Input.{Input}
use Rattle.program_files.specs.declared.input.Input.TheVariants.{File, Standard}

-- ---- opening

-- the name is not UTF-8, and is escaped: it begins with NUL (0)
abbrev pub is_escaped : List ℕ → Bool
is_escaped [] = false
is_escaped (byte ∷ name) = byte == 0

-- This is the input that the name requests: standard input for `-`, and for every other name that is UTF-8 the file that is opened by this
-- name.
abbrev pub IsRequestedBy : {G F : Type 0} → (G → Type 0) → (List ℕ → Result F Error → Type 0) → List ℕ → Input G F → Type 0
IsRequestedBy IsStandard Opens name (Standard stdin) = (name ≡ codes "-") × IsStandard stdin
IsRequestedBy IsStandard Opens name (File file) = (name ≢ codes "-") × (is_escaped name ≡ false) × Opens name (Ok file)

-- This is the error if no input is opened by the name. The name is escaped, or this is the error of opening the file with this name.
-- Standard input is always opened.
abbrev pub IsUnopened : {F : Type 0} → (List ℕ → Result F Error → Type 0) → List ℕ → Error → Type 0
IsUnopened Opens name error =
    (name ≢ codes "-") × MatchBool (is_escaped name) (error_kind error ≡ InvalidFilename) (Opens name (Err error))

-- ---- which file an input is

-- only a file has a length; the length of standard input is 0
abbrev pub HasLen : {G F : Type 0} → (F → Result FileFacts Error → Type 0) → Input G F → ℕ → Type 0
HasLen DescribesOpen (Standard stdin) len = len ≡ 0
HasLen DescribesOpen (File file) len = (told : Result FileFacts Error) × DescribesOpen file told × (len ≡ len_in told)

-- these are the numbers of the file from which an input is read; standard input is the file `/dev/stdin`
abbrev pub HasId : {G F : Type 0} → (List ℕ → Result FileFacts Error → Type 0) → (F → Result FileFacts Error → Type 0) → Input G F
    → Option FileId → Type 0
HasId Describes DescribesOpen (Standard stdin) id =
    (told : Result FileFacts Error) × Describes (codes "/dev/stdin") told × (id ≡ id_in told)
HasId Describes DescribesOpen (File file) id = (told : Result FileFacts Error) × DescribesOpen file told × (id ≡ id_in told)

-- this is the result of comparing the numbers of the file from which an input is read with the numbers of the file with this name
pub record ComparesFiles {G F : Type 0} (Describes : List ℕ → Result FileFacts Error → Type 0)
    (DescribesOpen : F → Result FileFacts Error → Type 0) (input : Input G F) (name : List ℕ) (result : Bool) : Type 0 where
  pub own : Option FileId
  pub other : Result FileFacts Error
  pub is_own : HasId Describes DescribesOpen input own
  pub is_other : Describes name other
  pub compared : result ≡ is_same_file own (id_in other)

-- this is the error of asking for the facts of the file with this name, if that failed
abbrev pub FindsMissing : (List ℕ → Result FileFacts Error → Type 0) → List ℕ → Option Error → Type 0
FindsMissing Describes name missing = (told : Result FileFacts Error) × Describes name told × (missing ≡ error_in told)

-- ---- reading

-- the bytes that an input has left
abbrev pub bytes_left : {G F : Type 0} → (G → Option (List ℕ)) → (F → Option (List ℕ)) → Input G F → Option (List ℕ)
bytes_left of_standard of_file (Standard stdin) = of_standard stdin
bytes_left of_standard of_file (File file) = of_file file
