-- The end of a run: what is written to standard error, and the exit status.
use Rattle.std.specs.Prelude.{◌≡◌, ℕ, ◌+◌, ◌++◌, IfErr, IfOk, IsOk, OnOk, List, [], codes, if◌then◌else◌, replicate, Option, None, Result, Ok, Err}
use Rattle.std.specs.Io.KnownBytes.{Appends, IsAtEnd, Keeps}
use Rattle.std.specs.declared.io.Error.{Error}
use Rattle.std.specs.declared.io.ErrorKind.{ErrorKind}
use Rattle.std.specs.declared.io.ErrorKind.TheVariants as kinds
use Rattle.clap.specs.declared.error.kind.ErrorKind.{ErrorKind as AnswerKind}
use Rattle.clap.specs.declared.error.kind.ErrorKind.TheVariants as answers
use Rattle.streams.specs.Streams.{AppendsBeginning}
use Rattle.translator.specs.Captures.{TranslatesCapture}
use Rattle.translator.specs.ErrorTexts.{IsErrorLine}
use Rattle.translator.specs.Merging.{merges_addresses}
use Rattle.translator.specs.Outcomes.{counts_text, status}
use Rattle.translator.specs.declared.capture_error.CaptureError.{CaptureError}
use Rattle.translator.specs.declared.capture_error.CaptureError.TheVariants.{Block, Header, Read, RecordCutOff, TooManyParts, Write}
use Rattle.translator.specs.declared.counts.Counts.{Counts}
use Rattle.translator.specs.declared.table.Table.{Table}

-- ---- exit statuses

-- The exit status after an error that ends the program. If the reader of standard output or standard error ended first, it is 128 + 13,
-- which a shell reports for a program that SIGPIPE (signal 13) ended. Otherwise it is 3.
abbrev pub failure_number : ErrorKind → ℕ
failure_number kinds.BrokenPipe = 128 + 13
failure_number kind = 3

-- the exit status after an error in the arguments: 0 for a request for help or for the version, 3 if no memory is left, and otherwise 2
abbrev pub answer_number : AnswerKind → ℕ
answer_number answers.DisplayHelp = 0
answer_number answers.DisplayVersion = 0
answer_number answers.OutOfMemory = 3
answer_number kind = 2

-- the exit status after a capture, or the error if writing the capture failed
abbrev pub ended_status : Result (Unit {0}) CaptureError → Result ℕ Error
ended_status (Ok done) = Ok 0
ended_status (Err (Write error)) = Err error
ended_status (Err (Header error)) = Ok (status (Header error))
ended_status (Err (RecordCutOff offset required_len len)) = Ok (status (RecordCutOff offset required_len len))
ended_status (Err (Block error)) = Ok (status (Block error))
ended_status (Err (Read offset error)) = Ok (status (Read offset error))
ended_status (Err TooManyParts) = Ok (status TooManyParts)

-- if writing the capture failed, the run ends with the error of that write
abbrev pub FailsFirst : {T : Type 0} → Result (Unit {0}) CaptureError → Result T Error → Type 0
FailsFirst ended result = IfErr (ended_status ended) (λ error. result ≡ Err error)

-- if the capture was read to its end, but the output could not be flushed, the run ends with the error of the flush
abbrev pub FailsAfter : {T : Type 0} → Result (Unit {0}) CaptureError → Result (Unit {0}) Error → Result T Error → Type 0
FailsAfter ended flushed result = IfOk ended (λ done. IfErr flushed (λ error. result ≡ Err error))

-- ---- what is written to standard error

-- the line at the end of a capture: the line of its error, or nothing if the capture was read to its end or if writing failed
abbrev pub IsEndLine : Option (List ℕ) → Result (Unit {0}) CaptureError → List ℕ → Type 0
IsEndLine name (Ok done) line = line ≡ []
IsEndLine name (Err (Write error)) line = line ≡ []
IsEndLine name (Err (Header error)) line = IsErrorLine name (Header error) line
IsEndLine name (Err (RecordCutOff offset required_len len)) line = IsErrorLine name (RecordCutOff offset required_len len) line
IsEndLine name (Err (Block error)) line = IsErrorLine name (Block error) line
IsEndLine name (Err (Read offset error)) line = IsErrorLine name (Read offset error) line
IsEndLine name (Err TooManyParts) line = IsErrorLine name TooManyParts line

-- the line of the warning if two addresses can become one, and otherwise no text
abbrev pub warning_text : Table → List ℕ
warning_text table =
    if merges_addresses table
    then codes "translator: warning: two addresses can become one, since a new network is smaller than its old network, or new networks overlap\n"
    else []

-- the counts of packets, and the warning if two addresses can become one
abbrev pub summary_text : Table → Counts → List ℕ
summary_text table counts = counts_text counts ++ warning_text table

-- the text after the line of an error; it is empty if writing or flushing the output failed
abbrev pub summary_after : Table → Result ℕ Error → Result (Unit {0}) Error → Counts → List ℕ
summary_after table (Ok number) (Ok done) counts = summary_text table counts
summary_after table (Ok number) (Err error) counts = []
summary_after table (Err error) flushed counts = []

-- the whole text is a text for which `IsText` holds, followed by `more`
abbrev pub IsFollowedBy : List ℕ → (List ℕ → Type 0) → List ℕ → Type 0
IsFollowedBy more IsText whole = (text : List ℕ) × IsText text × (whole ≡ text ++ more)

-- the text at the end of a capture: the line of its error, if there is one, then the counts, and then the warning
abbrev pub IsEndText : Option (List ℕ) → Table → Result (Unit {0}) CaptureError → Result (Unit {0}) Error → Counts → List ℕ → Type 0
IsEndText name table ended flushed counts text =
    IsFollowedBy (summary_after table (ended_status ended) flushed counts) (IsEndLine name ended) text

-- The beginning of a text for which `IsText` holds was written. If `IsWhole` holds, the whole text was written.
pub record WritesText (before after : Option (List ℕ)) (IsWhole : Type 0) (IsText : List ℕ → Type 0) : Type 0 where
  pub text : List ℕ
  pub is_text : IsText text
  pub begun : AppendsBeginning before after text
  pub whole : IsWhole → Appends before after text

-- ---- the run

-- the counts before the first packet
abbrev pub no_counts : Counts
no_counts = record {
  translated_ipv4 = 0;
  translated_ipv6 = 0;
  unaffected_ipv4 = 0;
  unaffected_ipv6 = 0;
  by_reason = replicate 12 0;
  by_protocol = replicate 256 0;
  first_refusal = None;
}

-- The packets of a capture with this name were translated by a table, up to the end of the capture or an error. Then the output was
-- flushed. The beginning of the text for standard error was written, and the whole text if the result is not an error. The result is the
-- exit status, or an error.
-- If writing the capture failed, the result is the error of that write, and nothing is stated about the output.
pub record WritesTranslation (table : Table) (name left still_left held now_held told now_told : Option (List ℕ)) (result : Result ℕ Error)
    : Type 0 where
  pub ended : Result (Unit {0}) CaptureError
  pub counts : Counts
  pub then_held : Option (List ℕ)
  pub flushed : Result (Unit {0}) Error
  pub translates : TranslatesCapture table ended left still_left held then_held no_counts counts
  pub is_at_end : OnOk ended (IsAtEnd still_left)
  pub kept : Keeps then_held now_held
  pub text : WritesText told now_told (IsOk result) (IsEndText name table ended flushed counts)
  pub status : IfOk result (λ number. ended_status ended ≡ Ok number)
  pub is_flushed : IfOk result (λ number. IsOk flushed)
  pub failure : FailsFirst ended result
  pub flush_failure : FailsAfter ended flushed result
