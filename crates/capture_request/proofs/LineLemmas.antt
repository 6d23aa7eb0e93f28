-- Laws of the lines of errors.
use Rattle.std.proofs.Common.{◌≡◌, ◌∙◌, ℕ, List, [], ◌∷◌, ◌++◌, Err, IsOk, None, Ok, OnOk, Option, Result, Some, MatchOption, append-nil, append_assoc, ap, arith, codes, refl, sym}
use Rattle.std.proofs.KnownBytes.{Appends-nil, Appends-trans}
use Rattle.std.proofs.lemmas.List.Folds.{concat-append}
use Rattle.std.specs.Io.KnownBytes.{Appends}
use Rattle.streams.specs.Streams.{AppendsBeginning}
use Rattle.capture_request.specs.Compressions.{compression_of}
use Rattle.capture_request.specs.ErrorLines.{AreBegun, IsErrorText, IsLineOf, IsOneLine, IsOpenErrorLine, WritesLines, WritesSome, compressed_text, hint_of, line_start}
use Rattle.capture_request.specs.Names.{shown_name}
use Rattle.capture_request.specs.declared.compression.Compression.{Compression}
use Rattle.capture_request.specs.declared.capture_error.CaptureError.{CaptureError}

-- ---- several lines that are written completely or in part

-- if there is no line, nothing was written
pub writes-nothing : (a : Option (List ℕ)) (AreWhole : Type 0) → WritesLines a a AreWhole []
writes-nothing a AreWhole = record { written = []; appends = Appends-nil a; begun = refl; whole = λ holds. refl }

-- if the beginnings of some lines and of further lines were written, the beginnings of all these lines were written
begun-append : (lines more : List (List ℕ)) (written others : List ℕ) → AreBegun lines written → AreBegun more others
    → AreBegun (lines ++ more) (written ++ others)
begun-append [] more written others none are = rw none are
begun-append (line ∷ lines) more written others all are =
    let (begun, rest, after, parts, left, whole) = all in (
      begun,
      rest,
      after ++ others,
      parts,
      begun-append lines more after others left are,
      ap (λ bytes. bytes ++ others) whole ∙ append_assoc begun after others,
    )

-- if lines and then further lines were written, all these lines were written
pub writes-more : (a b c : Option (List ℕ)) (First Second Both : Type 0) (lines more : List (List ℕ)) → (Both → First) → (Both → Second)
    → WritesLines a b First lines → WritesLines b c Second more → WritesLines a c Both (lines ++ more)
writes-more a b c First Second Both lines more to_first to_second first second = record {
  written = first.written ++ second.written;
  appends = Appends-trans a b c first.written second.written first.appends second.appends;
  begun = begun-append lines more first.written second.written first.begun second.begun;
  whole = λ both. rw (first.whole (to_first both), second.whole (to_second both)) (sym (concat-append lines more));
}

-- the lines are whole if a stronger statement holds
pub writes-weaker : (a b : Option (List ℕ)) (AreWhole Stronger : Type 0) (lines : List (List ℕ)) → (Stronger → AreWhole)
    → WritesLines a b AreWhole lines → WritesLines a b Stronger lines
writes-weaker a b AreWhole Stronger lines weaker writes = record {
  written = writes.written;
  appends = writes.appends;
  begun = writes.begun;
  whole = λ holds. writes.whole (weaker holds);
}

-- ---- one line that is written completely or in part

writes-line : {T E : Type 0} (a b : Option (List ℕ)) (result : Result T E) (line : List ℕ) → OnOk result (Appends a b line)
    → AppendsBeginning a b line → WritesLines a b (IsOk result) (line ∷ [])
writes-line a b (Ok done) line appends begins = record {
  written = line;
  appends = appends;
  begun = (line, [], [], sym (append-nil line), refl, sym (append-nil line));
  whole = λ ok. sym (append-nil line);
}
writes-line a b (Err error) line appends begins = record {
  written = begins.written;
  appends = begins.appends;
  begun = (begins.written, begins.unwritten, [], begins.parts, refl, sym (append-nil begins.written));
  whole = λ ok. absurd (grind (arith, ok));
}

-- a line was written
pub writes_one : {T E : Type 0} (a b : Option (List ℕ)) (result : Result T E) (IsLine : List ℕ → Type 0) (line : List ℕ) → IsLine line
    → OnOk result (Appends a b line) → AppendsBeginning a b line → WritesSome a b (IsOk result) (IsOneLine IsLine)
writes_one a b result IsLine line is appends begins = (line ∷ [], (line, is, refl), writes-line a b result line appends begins)

-- a line was not written, since no memory is left for it
loses_one : (a : Option (List ℕ)) (AreWhole : Type 0) (IsLine : List ℕ → Type 0) (line : List ℕ) → (AreWhole → ⊥) → IsLine line
    → WritesSome a a AreWhole (IsOneLine IsLine)
loses_one a AreWhole IsLine line lost is = (
  line ∷ [],
  (line, is, refl),
  record {
    written = [];
    appends = Appends-nil a;
    begun = ([], line, [], refl, refl, refl);
    whole = λ ok. absurd (lost ok);
  },
)

-- each error has a text
some_text : (compression : Option Compression) → (text : List ℕ) × MatchOption compression (Unit {0}) (λ c. text ≡ compressed_text c)
some_text None = ([], tt)
some_text (Some compression) = (compressed_text compression, refl)

-- the line of an error within a capture was not written
pub loses_error : (a : Option (List ℕ)) (AreWhole : Type 0) (name : Option (List ℕ)) (error : CaptureError) → (AreWhole → ⊥)
    → WritesSome a a AreWhole (IsOneLine (IsLineOf name (IsErrorText error)))
loses_error a AreWhole name error lost =
    let (text, is) = some_text (compression_of error) in
    loses_one a AreWhole (IsLineOf name (IsErrorText error)) (line_start name ++ (text ++ codes "\n")) lost (text, is, refl)

-- the line of a capture that can't be opened was not written
pub loses_open_error : (a : Option (List ℕ)) (AreWhole : Type 0) (name : List ℕ) → (AreWhole → ⊥)
    → WritesSome a a AreWhole (IsOneLine (IsOpenErrorLine name))
loses_open_error a AreWhole name lost =
    loses_one a AreWhole (IsOpenErrorLine name) (line_start (Some (shown_name name)) ++ (hint_of name ++ codes "\n")) lost
    (hint_of name, ([], refl), refl)
