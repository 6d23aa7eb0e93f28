-- Laws of the text on standard error.
use Rattle.std.proofs.Common.{◌≡◌, ◌∙◌, ℕ, List, [], ◌++◌, Err, IsErr, IsOk, MatchOption, None, Ok, Some, codes, OnOk, Option, Result, append_assoc, ap, arith, refl, subst, sym}
use Rattle.std.proofs.KnownBytes.{Appends-nil, Appends-trans}
use Rattle.std.specs.Io.KnownBytes.{Appends}
use Rattle.streams.specs.Streams.{AppendsBeginning}
use Rattle.std.specs.declared.io.Error.{Error}
use Rattle.translator.specs.ErrorTexts.{IsErrorLine, IsErrorText, compressed_text, cut_off_text, decompressor_of, line_start}
use Rattle.translator.specs.Outputs.{IsEndLine, IsEndText, IsFollowedBy, WritesText, ended_status, summary_after, summary_text}
use Rattle.translator.specs.declared.capture_error.CaptureError.{CaptureError}
use Rattle.translator.specs.declared.capture_error.CaptureError.TheVariants.{Block, Header, Read, RecordCutOff, TooManyParts, Write}
use Rattle.translator.specs.declared.counts.Counts.{Counts}
use Rattle.translator.specs.declared.table.Table.{Table}

-- a result is not both an error and a success
pub not_both : {T E : Type 0} (result : Result T E) → IsErr result → IsOk result → ⊥
not_both (Ok done) fails ok = absurd (grind (arith, fails))
not_both (Err error) fails ok = absurd (grind (arith, ok))

-- ---- beginnings of a text

-- nothing was written
pub begins_none : (a : Option (List ℕ)) (text : List ℕ) → AppendsBeginning a a text
begins_none a text = record { written = []; unwritten = text; parts = refl; appends = Appends-nil a }

-- a beginning of the first part of a text is a beginning of the text
begins_more : (a b : Option (List ℕ)) (text more : List ℕ) → AppendsBeginning a b text → AppendsBeginning a b (text ++ more)
begins_more a b text more begun = record {
  written = begun.written;
  unwritten = begun.unwritten ++ more;
  parts = ap (λ bytes. bytes ++ more) begun.parts ∙ append_assoc begun.written begun.unwritten more;
  appends = begun.appends;
}

-- the first part of a text and a beginning of its second part are a beginning of the text
begins_after : (a b c : Option (List ℕ)) (text more : List ℕ) → Appends a b text → AppendsBeginning b c more
    → AppendsBeginning a c (text ++ more)
begins_after a b c text more first begun = record {
  written = text ++ begun.written;
  unwritten = begun.unwritten;
  parts = ap (λ bytes. text ++ bytes) begun.parts ∙ sym (append_assoc text begun.written begun.unwritten);
  appends = Appends-trans a b c text begun.written first begun.appends;
}

-- ---- a text for which a statement holds

-- the empty text was written
pub writes_nothing : (a : Option (List ℕ)) (IsWhole : Type 0) (IsText : List ℕ → Type 0) → IsText [] → WritesText a a IsWhole IsText
writes_nothing a IsWhole IsText is =
    record { text = []; is_text = is; begun = begins_none a []; whole = λ holds. Appends-nil a }

-- a text, or a beginning of it, was written
pub writes_text : {T E : Type 0} (a b : Option (List ℕ)) (result : Result T E) (IsText : List ℕ → Type 0) (text : List ℕ) → IsText text
    → OnOk result (Appends a b text) → AppendsBeginning a b text → WritesText a b (IsOk result) IsText
writes_text a b (Ok done) IsText text is appends begins =
    record { text = text; is_text = is; begun = begins; whole = λ ok. appends }
writes_text a b (Err error) IsText text is appends begins =
    record { text = text; is_text = is; begun = begins; whole = λ ok. absurd (grind (arith, ok)) }

-- no byte of a text was written
pub loses_text : (a : Option (List ℕ)) (IsWhole : Type 0) (IsText : List ℕ → Type 0) (text : List ℕ) → (IsWhole → ⊥) → IsText text
    → WritesText a a IsWhole IsText
loses_text a IsWhole IsText text lost is =
    record { text = text; is_text = is; begun = begins_none a text; whole = λ holds. absurd (lost holds) }

-- the text is whole if a stronger statement holds
pub writes_weaker : (a b : Option (List ℕ)) (IsWhole Stronger : Type 0) (IsText : List ℕ → Type 0) → (Stronger → IsWhole)
    → WritesText a b IsWhole IsText → WritesText a b Stronger IsText
writes_weaker a b IsWhole Stronger IsText weaker writes =
    record { text = writes.text; is_text = writes.is_text; begun = writes.begun; whole = λ holds. writes.whole (weaker holds) }

-- ---- two texts

-- the second text was not written
pub lacks_more : (a b : Option (List ℕ)) (First Both : Type 0) (IsText : List ℕ → Type 0) (more : List ℕ) → (Both → ⊥)
    → WritesText a b First IsText → WritesText a b Both (IsFollowedBy more IsText)
lacks_more a b First Both IsText more never first = record {
  text = first.text ++ more;
  is_text = (first.text, first.is_text, refl);
  begun = begins_more a b first.text more first.begun;
  whole = λ both. absurd (never both);
}

-- the second text, or a beginning of it, was written
pub writes_more : (a b c : Option (List ℕ)) (First Second Both : Type 0) (IsText : List ℕ → Type 0) (more : List ℕ) → First
    → (Both → Second) → WritesText a b First IsText → WritesText b c Second (λ text. text ≡ more)
    → WritesText a c Both (IsFollowedBy more IsText)
writes_more a b c First Second Both IsText more holds to_second first second = record {
  text = first.text ++ more;
  is_text = (first.text, first.is_text, refl);
  begun = begins_after a b c first.text more (first.whole holds) (rw second.is_text at second.begun);
  whole = λ both. Appends-trans a b c first.text more (first.whole holds) (rw second.is_text at second.whole (to_second both));
}

-- the counts and the warning, or a beginning of them, were written after the line of the end of a capture
pub summary_follows : (a b c : Option (List ℕ)) (First Second Both : Type 0) (name : Option (List ℕ)) (table : Table)
    (ended : Result (Unit {0}) CaptureError) (flushed : Result (Unit {0}) Error) (counts : Counts) (number : ℕ)
    → ended_status ended ≡ Ok number → IsOk flushed → First → (Both → Second) → WritesText a b First (IsEndLine name ended)
    → WritesText b c Second (λ text. text ≡ summary_text table counts) → WritesText a c Both (IsEndText name table ended flushed counts)
summary_follows a b c First Second Both name table ended (Ok done) counts number is ok holds to_second first second =
    subst (λ status. WritesText a c Both (IsFollowedBy (summary_after table status (Ok done) counts) (IsEndLine name ended))) (sym is)
    (writes_more a b c First Second Both (IsEndLine name ended) (summary_text table counts) holds to_second first second)
summary_follows a b c First Second Both name table ended (Err error) counts number is ok holds to_second first second =
    absurd (grind (arith, ok))

-- ---- texts of errors

some_header_text : (command : Option (List ℕ)) → (text : List ℕ) × MatchOption command (Unit {0}) (λ name. text ≡ compressed_text name)
some_header_text None = ([], tt)
some_header_text (Some command) = (compressed_text command, refl)

-- each error has a text
some_text : (error : CaptureError) → (text : List ℕ) × IsErrorText error text
some_text (Header error) = some_header_text (decompressor_of error)
some_text (RecordCutOff offset required_len len) = (cut_off_text offset required_len len, refl)
some_text (Block error) = ([], tt)
some_text (Read offset error) = (_, ([], refl))
some_text TooManyParts = (_, refl)
some_text (Write error) = (_, ([], refl))

-- each error has a line
pub some_line : (name : Option (List ℕ)) (error : CaptureError) → (line : List ℕ) × IsErrorLine name error line
some_line name error = let some = some_text error in (line_start name ++ (some.0 ++ codes "\n"), (some.0, some.1, refl))
