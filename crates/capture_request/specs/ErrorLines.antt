-- The lines of errors.
use Rattle.std.specs.Prelude.{◌≡◌, List, [], ◌∷◌, ℕ, ◌++◌, ◌==◌, codes, if◌then◌else◌, Option, Some, None, MatchOption, Result, Ok, Err}
use Rattle.std.specs.Io.KnownBytes.{Appends}
use Rattle.std.specs.List.{concat}
use Rattle.capture_request.specs.Compressions.{compression_name, compression_of}
use Rattle.capture_request.specs.Filters.{is_filter}
use Rattle.capture_request.specs.Names.{shown_name}
use Rattle.capture_request.specs.declared.compression.Compression.{Compression}
use Rattle.capture_request.specs.declared.capture_error.CaptureError.{CaptureError}
use Rattle.capture_request.specs.declared.reached.Reached.{Reached}

-- the text for a compressed capture, which contains the command that decompresses it
abbrev pub compressed_text : Compression → List ℕ
compressed_text compression =
    codes "The capture is compressed, and is read by " ++ (compression_name compression ++ codes " -dc FILE | capture_report.")

-- `text` is the text of this error. For a compressed capture it is `compressed_text`. For any other error nothing is stated about the text.
abbrev pub IsErrorText : CaptureError → List ℕ → Type 0
IsErrorText error text = MatchOption (compression_of error) (Unit {0}) (λ compression. text ≡ compressed_text compression)

-- the start of the line of an error: the name of the program, and then the name of the capture if the capture has a name
abbrev pub line_start : Option (List ℕ) → List ℕ
line_start None = codes "capture_report: "
line_start (Some name) = codes "capture_report: " ++ (name ++ codes ": ")

-- this line consists of `line_start`, a text for which `IsText` holds, and a line feed
abbrev pub IsLineOf : Option (List ℕ) → (List ℕ → Type 0) → List ℕ → Type 0
IsLineOf name IsText line = (text : List ℕ) × IsText text × (line ≡ line_start name ++ (text ++ codes "\n"))

-- the hint that lists the options that select packets; it is empty unless the name begins like a filter, for example `tcp port 80`
abbrev pub hint_of : List ℕ → List ℕ
hint_of name = if is_filter name then codes "; filters are --host, --port and --protocol" else []

-- `text` is the text for a capture that can't be opened: the text of an error, and then the hint for this name
abbrev pub EndsInHint : List ℕ → List ℕ → Type 0
EndsInHint name text = (cause : List ℕ) × (text ≡ cause ++ hint_of name)

-- ---- the lines of a run

-- there is exactly one line, and `IsLine` holds for it
abbrev pub IsOneLine : (List ℕ → Type 0) → List (List ℕ) → Type 0
IsOneLine IsLine lines = (line : List ℕ) × IsLine line × (lines ≡ line ∷ [])

-- the line for a capture that can't be opened
abbrev pub IsOpenErrorLine : List ℕ → List ℕ → Type 0
IsOpenErrorLine name line = IsLineOf (Some (shown_name name)) (EndsInHint name) line

-- The lines that are written when the report of the capture with this name ends. There is no line if the capture was read to its end, or as
-- far as was requested. Otherwise there is one line with the error.
abbrev pub AreEndLines : Option (List ℕ) → Result Reached CaptureError → List (List ℕ) → Type 0
AreEndLines name (Ok reached) lines = lines ≡ []
AreEndLines name (Err error) lines = IsOneLine (IsLineOf name (IsErrorText error)) lines

-- The name of the capture in the line of an error. `count` is the number of named captures. If it is 0, standard input is read, and the
-- line contains no name.
abbrev pub line_name : ℕ → List ℕ → Option (List ℕ)
line_name count name = if count == 0 then None else Some (shown_name name)

-- ---- lines that are written completely or in part

-- The beginning of each line was written, in the order of the lines. A beginning may be empty, or the whole line.
abbrev pub AreBegun : List (List ℕ) → List ℕ → Type 0
AreBegun [] written = written ≡ []
AreBegun (line ∷ lines) written =
    (begun : List ℕ) × (rest : List ℕ) × (others : List ℕ) × (line ≡ begun ++ rest) × AreBegun lines others × (written ≡ begun ++ others)

-- The beginnings of the lines were written, in the order of the lines. If `AreWhole` holds, each line was written completely.
pub record WritesLines (before after : Option (List ℕ)) (AreWhole : Type 0) (lines : List (List ℕ)) : Type 0 where
  pub written : List ℕ
  pub appends : Appends before after written
  pub begun : AreBegun lines written
  pub whole : AreWhole → written ≡ concat lines

-- lines for which `AreLines` holds were written as `WritesLines` states
abbrev pub WritesSome : Option (List ℕ) → Option (List ℕ) → Type 0 → (List (List ℕ) → Type 0) → Type 0
WritesSome before after AreWhole AreLines = (lines : List (List ℕ)) × AreLines lines × WritesLines before after AreWhole lines
