-- The report of a run: the packets of each capture, and then the summary of all captures.
use Rattle.std.specs.Prelude.{◌≡◌, ◌↔◌, ℕ, ◌+◌, ◌==◌, nat_lt, Bool, true, false, IsTrue, if◌then◌else◌, List, [], ◌∷◌, ◌++◌, codes, length, MatchBool, Option, Some, None, Result}
use Rattle.std.specs.Io.KnownBytes.{Appends}
use Rattle.std.specs.List.{concat}
use Rattle.capture_file.specs.CapturePackets.{FilePacket}
use Rattle.capture_file.specs.declared.reader.capture_reader.CaptureReader.{CaptureReader}
use Rattle.capture_json.specs.JsonPacket.{file_members, json_line}
use Rattle.capture_summary.specs.Files.{Files, no_files, with_file}
use Rattle.capture_summary.specs.SummaryTables.{SummaryTables, empty_tables}
use Rattle.capture_summary.specs.declared.file_count.FileCount.{FileCount}
use Rattle.capture_request.specs.Endings.{status_of}
use Rattle.capture_request.specs.ErrorLines.{AreEndLines, IsOneLine, IsOpenErrorLine, WritesLines, line_name}
use Rattle.capture_request.specs.ExitStatuses.{final_status, greater}
use Rattle.capture_request.specs.Intervals.{width_of}
use Rattle.capture_request.specs.Limits.{EndsByLimit, IsWithin, is_full, limited}
use Rattle.capture_request.specs.Names.{shown_name, without_mark}
use Rattle.capture_run.specs.PacketsText.{IsCaptureReport, end_text, has_headings}
use Rattle.capture_run.specs.Runs.{EndsAtHeader}
use Rattle.capture_run.specs.Timelines.{HasTimeline}
use Rattle.capture_run.specs.declared.capture_reports.CaptureReports.{CaptureReports}
use Rattle.capture_request.specs.declared.exit_status.ExitStatus.{ExitStatus}
use Rattle.capture_request.specs.declared.exit_status.ExitStatus.TheVariants.{Failed, Success}
use Rattle.capture_request.specs.declared.parts.Format.{Format}
use Rattle.capture_request.specs.declared.parts.Format.TheVariants as formats
use Rattle.capture_request.specs.declared.parts.Parts.{Parts}
use Rattle.capture_request.specs.declared.capture_error.CaptureError.{CaptureError}
use Rattle.capture_request.specs.declared.reached.Reached.{Reached}

-- ---- one capture

-- The state of a run between two captures. `summary` contains the counts, and `status` is the greatest exit status. `is_empty` is true if
-- no beginning of a capture was accepted. `capture` is the reader of the only capture whose beginning was accepted. `files` is the table of
-- files.
pub record Progress : Type 0 where
  pub summary : SummaryTables
  pub status : ExitStatus
  pub is_empty : Bool
  pub capture : Option CaptureReader
  pub files : Files

-- the fields of `CaptureReports` that are the state of a run
abbrev pub progress_of : CaptureReports → Progress
progress_of reports = record {
  summary = reports.summary;
  status = reports.status;
  is_empty = reports.is_empty;
  capture = reports.capture;
  files = reports.files;
}

-- the state before the first capture
abbrev pub at_start : Parts → Progress
at_start parts = record { summary = empty_tables (width_of parts); status = Success; is_empty = true; capture = None; files = no_files }

-- the state after a capture that can't be opened
abbrev pub unopened : Progress → Progress
unopened before = record {
  summary = before.summary;
  status = greater before.status Failed;
  is_empty = before.is_empty;
  capture = before.capture;
  files = before.files;
}

-- The reader of the only capture whose beginning was accepted, or `None` if no beginning or several beginnings were accepted. `before` is
-- the result for the captures before the new capture. The last argument is the reader of the new capture, or `None` if its beginning was
-- not accepted. `is_empty` is true if no beginning was accepted before.
abbrev pub only_capture : Bool → Option CaptureReader → Option CaptureReader → Option CaptureReader
only_capture is_empty before None = before
only_capture true before (Some reader) = Some reader
only_capture false before (Some reader) = None

-- The table of files after a capture with these packets. `name` is the name in its row, or `None` if it has no row. It has no row either if
-- its beginning was not accepted, so that there is no reader.
abbrev pub files_after : Option (List ℕ) → Option CaptureReader → FileCount → Files → Files
files_after None reader count files = files
files_after (Some name) None count files = files
files_after (Some name) (Some reader) count files = with_file name count files

-- A capture was reported. `left` contains its bytes, or is `None` if they are unknown. `text` is the text of its packets. `lines` contains
-- the line of its error, if there is one, with the name `shown`. `reader` is the reader after the packets, or `None` if the beginning of
-- the capture was not accepted. The row of the capture, with the name `row`, counts exactly its packets in `is_report` that are chosen.
pub record ReportsOpened (parts : Parts) (shown row : Option (List ℕ)) (left : Option (List ℕ)) (before after : Progress) (text : List ℕ) (lines : List (List ℕ)) : Type 0 where
  pub ended : Result Reached CaptureError
  pub still_left : Option (List ℕ)
  pub reader : Option CaptureReader
  pub is_report : IsCaptureReport parts left still_left ended before.summary after.summary reader text
  pub capture : after.capture ≡ only_capture before.is_empty before.capture reader
  pub files : after.files ≡ files_after row reader after.summary.file before.files
  pub are_lines : AreEndLines shown ended lines
  pub status : after.status ≡ greater before.status (status_of ended)
  pub empty : IsTrue after.is_empty ↔ (IsTrue before.is_empty × EndsAtHeader ended)
  pub limit : EndsByLimit parts.limit (limited parts.lines after.summary) ended
  pub within : IsWithin parts.limit (limited parts.lines before.summary) → IsWithin parts.limit (limited parts.lines after.summary)

-- The result of opening a capture by its name. The outer `Option` is `None` if the capture can't be opened. The inner `Option` contains the
-- bytes of the opened input, or is `None` if they are unknown.
abbrev pub Given : Type 0
Given = Option (Option (List ℕ))

-- Opening the capture with this name has this result. `Misses` is the statement about a name that can't be opened. `Opens` is the statement
-- about an opened input. `remaining` returns the bytes of an input.
abbrev pub Gives : {R : Type 0} → (List ℕ → Type 0) → (List ℕ → R → Type 0) → (R → Option (List ℕ)) → List ℕ → Given → Type 0
Gives Misses Opens remaining name None = Misses name
Gives {R} Misses Opens remaining name (Some left) = (input : R) × Opens name input × (left ≡ remaining input)

-- The capture with this name was opened with the result `given`, and was reported. `text` is the text of its packets. `lines` contains the
-- line of its error, if there is one. If the capture can't be opened, there is only the line of this error.
abbrev pub ReportsGiven : Parts → Option (List ℕ) → Option (List ℕ) → List ℕ → Given → Progress → Progress → List ℕ → List (List ℕ) → Type 0
ReportsGiven parts shown row name None before after text lines =
    (after ≡ unopened before) × (text ≡ []) × IsOneLine (IsOpenErrorLine name) lines
ReportsGiven parts shown row name (Some left) before after text lines = ReportsOpened parts shown row left before after text lines

-- the capture with this name was opened and reported, or the error of opening it was reported
abbrev pub ReportsNamed : (List ℕ → Given → Type 0) → Parts → Option (List ℕ) → Option (List ℕ) → List ℕ → Progress → Progress → List ℕ
    → List (List ℕ) → Type 0
ReportsNamed Reads parts shown row name before after text lines =
    (given : Given) × Reads name given × ReportsGiven parts shown row name given before after text lines

-- ---- all captures

-- the heading as text: the name of the capture between arrows; an empty line precedes it, except before the first capture
abbrev pub text_heading : ℕ → List ℕ → List ℕ
text_heading place name = (if place == 0 then [] else codes "\n") ++ (codes "==> " ++ (shown_name name ++ codes " <==\n"))

-- the heading in a format: as text, or as a JSON object with the member `file`
abbrev pub heading_in : Format → ℕ → List ℕ → List ℕ
heading_in formats.Text place name = text_heading place name
heading_in formats.Json place name = json_line (file_members (without_mark name))

-- The heading before the packets of a capture. It is empty if at most one capture is named, or if no packet may have a line.
abbrev pub heading_of : Parts → ℕ → ℕ → List ℕ → List ℕ
heading_of parts count place name = if has_headings parts.lines count then heading_in parts.format place name else []

-- The name in the row of a capture, or `None` if at most one capture is named. Then the table of files has no rows.
abbrev pub row_name : ℕ → List ℕ → Option (List ℕ)
row_name count name = if nat_lt 1 count then Some (without_mark name) else None

-- The capture with this name was reported. `count` is the number of named captures, and `place` is the place of this capture among them.
-- `text` is its heading and the text of its packets, and `lines` are the lines of its errors. If the requested number was already reached,
-- the capture is skipped.
abbrev pub ReportsHeaded : (List ℕ → Given → Type 0) → Parts → ℕ → ℕ → List ℕ → Progress → Progress → List ℕ → List (List ℕ) → Type 0
ReportsHeaded Reads parts count place name before after text lines =
    MatchBool (is_full parts.limit (limited parts.lines before.summary)) ((after ≡ before) × (text ≡ []) × (lines ≡ []))
    ((packets : List ℕ) × ReportsNamed Reads parts (line_name count name) (row_name count name) name before after packets lines
    × (text ≡ heading_of parts count place name ++ packets))

-- The captures with these names were reported in their order. `count` is the number of all named captures, and `place` is the place of the
-- first of these captures among them. `text` is the text of these captures, and `lines` are the lines of their errors.
abbrev pub ReportsEach : (List ℕ → Given → Type 0) → Parts → ℕ → ℕ → List (List ℕ) → Progress → Progress → List ℕ → List (List ℕ) → Type 0
ReportsEach Reads parts count place [] before after text lines = (after ≡ before) × (text ≡ []) × (lines ≡ [])
ReportsEach Reads parts count place (name ∷ names) before after text lines =
    (between : Progress) × (first : List ℕ) × (others : List ℕ) × (first_lines : List (List ℕ)) × (other_lines : List (List ℕ))
    × ReportsHeaded Reads parts count place name before between first first_lines
    × ReportsEach Reads parts count (place + 1) names between after others other_lines
    × (text ≡ first ++ others) × (lines ≡ first_lines ++ other_lines)

-- the names of the captures that are read: the given names, or else the name of standard input
abbrev pub captures_of : List (List ℕ) → List (List ℕ)
captures_of [] = codes "-" ∷ []
captures_of (name ∷ names) = name ∷ names

-- ---- the packets of all captures

-- all packets that were read from a capture; there are none if its beginning was not accepted
abbrev pub packets_read : (parts : Parts) (left still_left : Option (List ℕ)) (ended : Result Reached CaptureError)
    (before after : SummaryTables) (text : List ℕ) (reader : Option CaptureReader)
    → IsCaptureReport parts left still_left ended before after reader text → List FilePacket
packets_read parts left still_left ended before after text None report = []
packets_read parts left still_left ended before after text (Some last) report = report.writes.packets

-- all packets that were read from a capture; there are none if it can't be opened
abbrev pub packets_given : (parts : Parts) (shown row : Option (List ℕ)) (name : List ℕ) (before after : Progress) (text : List ℕ)
    (lines : List (List ℕ)) (given : Given) → ReportsGiven parts shown row name given before after text lines → List FilePacket
packets_given parts shown row name before after text lines None reports = []
packets_given parts shown row name before after text lines (Some left) reports =
    packets_read parts left reports.still_left reports.ended before.summary after.summary text reports.reader reports.is_report

-- all packets that were read from a capture; there are none if it is skipped
abbrev pub packets_headed : (Reads : List ℕ → Given → Type 0) (parts : Parts) (count place : ℕ) (name : List ℕ) (before after : Progress)
    (text : List ℕ) (lines : List (List ℕ)) (is_skipped : Bool)
    → MatchBool is_skipped ((after ≡ before) × (text ≡ []) × (lines ≡ []))
    ((packets : List ℕ) × ReportsNamed Reads parts (line_name count name) (row_name count name) name before after packets lines
    × (text ≡ heading_of parts count place name ++ packets))
    → List FilePacket
packets_headed Reads parts count place name before after text lines true skips = []
packets_headed Reads parts count place name before after text lines false reports =
    packets_given parts (line_name count name) (row_name count name) name before after reports.0 lines reports.1.0 reports.1.2

-- all packets that were read from the captures with these names, in their order
abbrev pub packets_of_each : (Reads : List ℕ → Given → Type 0) (parts : Parts) (count place : ℕ) (names : List (List ℕ))
    (before after : Progress) (text : List ℕ) (lines : List (List ℕ))
    → ReportsEach Reads parts count place names before after text lines → List FilePacket
packets_of_each Reads parts count place [] before after text lines reports = []
packets_of_each Reads parts count place (name ∷ names) before after text lines reports =
    packets_headed Reads parts count place name before reports.0 reports.1 reports.3
    (is_full parts.limit (limited parts.lines before.summary)) reports.5
    ++ packets_of_each Reads parts count (place + 1) names reports.0 after reports.2 reports.4 reports.6

-- ---- the run

-- The report of a run with this exit status. `text` is the text of each capture, and then the summary if it is requested and the beginning
-- of a capture was accepted. `lines` are the lines of all errors, in the order of the captures. The timeline in the summary is the timeline
-- of the chosen packets that were read, in their order, with intervals of the requested width.
pub record IsRun (Reads : List ℕ → Given → Type 0) (parts : Parts) (names : List (List ℕ)) (status : ExitStatus) (text : List ℕ) (lines : List (List ℕ)) : Type 0 where
  pub after : Progress
  pub captures : List ℕ
  pub reports : ReportsEach Reads parts (length names) 0 (captures_of names) (at_start parts) after captures lines
  pub timeline : HasTimeline parts.choice (width_of parts)
      (packets_of_each Reads parts (length names) 0 (captures_of names) (at_start parts) after captures lines reports) after.summary.timeline
  pub whole : text ≡ captures ++ (if after.is_empty then [] else end_text parts (length names) after.capture after.files after.summary)
  pub is_final : status ≡ final_status parts.check after.status after.summary

-- ---- the writers of a report and of the lines of its errors

-- A report was written to one writer, and the lines of its errors to another writer. If `AreWhole` holds, the lines were written
-- completely. Otherwise only the beginning of each line may have been written.
pub record WritesReport (before after errors_before errors_after : Option (List ℕ)) (AreWhole : Type 0) (IsReport : List ℕ → List (List ℕ) → Type 0) : Type 0 where
  pub text : List ℕ
  pub lines : List (List ℕ)
  pub is_report : IsReport text lines
  pub appends : Appends before after text
  pub tells : WritesLines errors_before errors_after AreWhole lines

-- a report was written to one writer, and all lines of its errors to another writer
abbrev pub WritesRun : Option (List ℕ) → Option (List ℕ) → Option (List ℕ) → Option (List ℕ) → (List ℕ → List (List ℕ) → Type 0) → Type 0
WritesRun before after errors_before errors_after IsReport =
    (text : List ℕ) × (lines : List (List ℕ)) × IsReport text lines × Appends before after text
    × Appends errors_before errors_after (concat lines)

-- The captures `first`, with which `names` begins, were reported. The beginnings of the lines of their errors were written to the writer of
-- the errors, and nothing else was written to it.
pub record TellsFirst (Reads : List ℕ → Given → Type 0) (parts : Parts) (count : ℕ) (names : List (List ℕ)) (before : Progress) (errors_before errors_after : Option (List ℕ)) : Type 0 where
  pub first : List (List ℕ)
  pub others : List (List ℕ)
  pub are_first : names ≡ first ++ others
  pub after : Progress
  pub text : List ℕ
  pub lines : List (List ℕ)
  pub reports : ReportsEach Reads parts count 0 first before after text lines
  pub tells : WritesLines errors_before errors_after ⊥ lines
