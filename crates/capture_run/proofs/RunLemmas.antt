-- Laws of the report of several captures: the report of one more capture follows the reports of the captures before it.
use Rattle.std.proofs.Common.{◌≡◌, ◌<◌, ◌+◌, ◌==◌, ◌∙◌, ℕ, false, true, List, [], ◌∷◌, ◌++◌, Err, IfErr, IfOk, IsNone, OnErr, None, Ok, Option, Result, ap, append-nil, append_assoc, arith, codes, drop, get_or, if◌then◌else◌, length, map, refl, subst, sym, take, take-append-drop}
use Rattle.std.proofs.KnownBytes.{Appends-nil, Appends-trans}
use Rattle.std.proofs.lemmas.List.{length-map, length-take-le, map-append, map_more}
use Rattle.std.specs.Io.KnownBytes.{Appends}
use Rattle.std.specs.List.{concat}
use Rattle.capture_request.specs.declared.writing_error.WriteError.{WriteError}
use Rattle.capture_summary.specs.Files.{no_files}
use Rattle.capture_summary.specs.SummaryTables.{empty_tables}
use Rattle.capture_request.proofs.LineLemmas.{writes-more, writes-nothing, writes-weaker}
use Rattle.capture_run.specs.Captures.{Given, IsRun, Progress, ReportsEach, ReportsHeaded, ReportsNamed, TellsFirst, WritesReport, WritesRun, at_start, captures_of, heading_of, progress_of, row_name}
use Rattle.capture_request.specs.ErrorLines.{line_name}
use Rattle.capture_request.specs.ExitStatuses.{final_status}
use Rattle.capture_request.specs.Intervals.{width_of}
use Rattle.capture_request.specs.Limits.{is_full, limited}
use Rattle.capture_run.proofs.TimelineLemmas.{timeline_from_start}
use Rattle.capture_run.specs.PacketsText.{end_text}
use Rattle.capture_run.specs.declared.capture_reports.CaptureReports.{CaptureReports}
use Rattle.capture_request.specs.declared.exit_status.ExitStatus.{ExitStatus}
use Rattle.capture_request.specs.declared.exit_status.ExitStatus.TheVariants.{Success}
use Rattle.capture_request.specs.declared.parts.Parts.{Parts}

-- the reports of some captures, followed by the report of one more capture, are the reports of all these captures
reports-push : (Reads : List ℕ → Given → Type 0) (parts : Parts) (count place now : ℕ) (names : List (List ℕ)) (name : List ℕ)
    (before between after : Progress) (text headed : List ℕ) (lines more : List (List ℕ))
    → ReportsEach Reads parts count place names before between text lines → now ≡ place + length names
    → ReportsHeaded Reads parts count now name between after headed more
    → ReportsEach Reads parts count place (names ++ name ∷ []) before after (text ++ headed) (lines ++ more)
reports-push Reads parts count place now [] name before between after text headed lines more each same one =
    let same_place : now ≡ place = omega (arith, same) in (
      after,
      headed,
      [],
      more,
      [],
      rw (each.0, same_place) at one,
      (refl, refl, refl),
      rw (each.1, append-nil headed) refl,
      rw (each.2, append-nil more) refl,
    )
reports-push Reads parts count place now (first ∷ names) name before between after text headed lines more each same one =
    let (next, begin, others, first_lines, other_lines, is_first, are_others, whole, all_lines) = each in (
      next,
      begin,
      others ++ headed,
      first_lines,
      other_lines ++ more,
      is_first,
      reports-push Reads parts count (place + 1) now names name next between after others headed other_lines more are_others
          (omega (arith, same))
          one,
      simp (whole, append_assoc) refl,
      simp (all_lines, append_assoc) refl,
    )

-- the report of standard input, without a name
reports_one : (Reads : List ℕ → Given → Type 0) (parts : Parts) (before after : Progress) (text : List ℕ) (lines : List (List ℕ))
    → ReportsHeaded Reads parts 0 0 (codes "-") before after text lines
    → ReportsEach Reads parts 0 0 (captures_of []) before after text lines
reports_one Reads parts before after text lines one =
    (after, text, [], lines, [], one, (refl, refl, refl), sym (append-nil text), sym (append-nil lines))

-- if the requested number of packets was counted, the next capture is skipped
pub left_out : (Reads : List ℕ → Given → Type 0) (parts : Parts) (count place : ℕ) (name : List ℕ) (before : Progress)
    (a e : Option (List ℕ)) (AreWhole : Type 0) → is_full parts.limit (limited parts.lines before.summary) ≡ true
    → WritesReport a a e e AreWhole (ReportsHeaded Reads parts count place name before before)
left_out Reads parts count place name before a e AreWhole full = record {
  text = [];
  lines = [];
  is_report = rw full (refl, refl, refl);
  appends = Appends-nil a;
  tells = writes-nothing e AreWhole;
}

-- the report of a capture, with its heading
pub headed : (Reads : List ℕ → Given → Type 0) (parts : Parts) (count place : ℕ) (name : List ℕ) (before : Progress)
    (a b c e f : Option (List ℕ)) (result : Result CaptureReports WriteError)
    → is_full parts.limit (limited parts.lines before.summary) ≡ false
    → Appends a b (heading_of parts count place name)
    → IfOk result (λ after. WritesReport b c e f (IsNone after.unwritten)
    (ReportsNamed Reads parts (line_name count name) (row_name count name) name before (progress_of after)))
    → IfOk result (λ after. WritesReport a c e f (IsNone after.unwritten)
    (ReportsHeaded Reads parts count place name before (progress_of after)))
headed Reads parts count place name before a b c e f (Err error) more head one = tt
headed Reads parts count place name before a b c e f (Ok after) more head one = record {
  text = heading_of parts count place name ++ one.text;
  lines = one.lines;
  is_report = rw more (one.text, one.is_report, refl);
  appends = Appends-trans a b c (heading_of parts count place name) one.text head one.appends;
  tells = one.tells;
}

-- the report of one more capture was written after the reports of the captures before it
pub one-more : {X : Type 0} (Reads : List ℕ → Given → Type 0) (parts others : Parts) (count : ℕ) (xs : List X) (named : X → List ℕ) (i : ℕ)
    (d : X)
    (before between after : Progress) (a b c e f h : Option (List ℕ)) (Between After : Type 0) → i < length xs → others ≡ parts
    → (After → Between)
    → WritesReport a b e f Between (ReportsEach Reads parts count 0 (map named (take i xs)) before between)
    → WritesReport b c f h After (ReportsHeaded Reads others count i (named (get_or xs i d)) between after)
    → WritesReport a c e h After (ReportsEach Reads parts count 0 (map named (take (i + 1) xs)) before after)
one-more Reads parts others count xs named i d before between after a b c e f h Between After below same told each one =
    let name = named (get_or xs i d) in
    let is_place : i ≡ 0 + length (map named (take i xs)) =
    omega (arith, length-map (take i xs) named ∙ length-take-le i xs (omega (arith, below))) in
    record {
      text = each.text ++ one.text;
      lines = each.lines ++ one.lines;
      is_report =
          subst (λ names. ReportsEach Reads parts count 0 names before after (each.text ++ one.text) (each.lines ++ one.lines))
          (sym (map_more named xs i d below))
          (reports-push Reads parts count 0 i (map named (take i xs)) name before between after each.text one.text each.lines one.lines
          each.is_report is_place (rw same at one.is_report));
      appends = Appends-trans a b c each.text one.text each.appends one.appends;
      tells = writes-more e f h Between After After each.lines one.lines told (λ whole. whole) each.tells one.tells;
    }

-- if a capture can't be reported, the captures before it were reported
pub tells_first : {X : Type 0} (Reads : List ℕ → Given → Type 0) (parts : Parts) (count : ℕ) (xs : List X) (named : X → List ℕ) (i : ℕ)
    (before between : Progress) (a b e f : Option (List ℕ)) (AreWhole : Type 0)
    → WritesReport a b e f AreWhole (ReportsEach Reads parts count 0 (map named (take i xs)) before between)
    → TellsFirst Reads parts count (map named xs) before e f
tells_first Reads parts count xs named i before between a b e f AreWhole each = record {
  first = map named (take i xs);
  others = map named (drop i xs);
  are_first = ap (map named) (sym (take-append-drop i xs)) ∙ map-append named (take i xs) (drop i xs);
  after = between;
  text = each.text;
  lines = each.lines;
  reports = each.is_report;
  tells = writes-weaker e f AreWhole ⊥ each.lines (λ none. absurd none) each.tells;
}

-- before the first capture nothing was reported
pub tells_nothing : (Reads : List ℕ → Given → Type 0) (parts : Parts) (count : ℕ) (names : List (List ℕ)) (before : Progress)
    (e : Option (List ℕ)) → TellsFirst Reads parts count names before e e
tells_nothing Reads parts count names before e = record {
  first = [];
  others = names;
  are_first = refl;
  after = before;
  text = [];
  lines = [];
  reports = (refl, refl, refl);
  tells = writes-nothing e ⊥;
}

-- if nothing was written to the writer of errors, `TellsFirst` holds without a reported capture
pub untold : {X T E : Type 0} (Reads : List ℕ → Given → Type 0) (parts : Parts) (count : ℕ) (names : List (List ℕ)) (before : Progress)
    (contents : X → Option (List ℕ)) (old new : X) (result : Result T E) → OnErr result (new ≡ old)
    → IfErr result (λ error. TellsFirst Reads parts count names before (contents old) (contents new))
untold Reads parts count names before contents old new (Ok after) same = tt
untold Reads parts count names before contents old new (Err error) same =
    rw same (tells_nothing Reads parts count names before (contents old))

-- all captures were reported
pub tells_all : (Reads : List ℕ → Given → Type 0) (parts : Parts) (count : ℕ) (names : List (List ℕ)) (before after : Progress)
    (a b e f : Option (List ℕ)) (AreWhole : Type 0)
    → WritesReport a b e f AreWhole (ReportsEach Reads parts count 0 names before after) → TellsFirst Reads parts count names before e f
tells_all Reads parts count names before after a b e f AreWhole each = record {
  first = names;
  others = [];
  are_first = sym (append-nil names);
  after = after;
  text = each.text;
  lines = each.lines;
  reports = each.is_report;
  tells = writes-weaker e f AreWhole ⊥ each.lines (λ none. absurd none) each.tells;
}

-- no capture is named
pub unnamed : {X : Type 0} (Reads : List ℕ → Given → Type 0) (parts : Parts) (names : List X) (named : X → List ℕ) (before : Progress)
    (a b e f : Option (List ℕ)) (result : Result CaptureReports WriteError) → (length names == 0) ≡ true
    → IfOk result (λ after. WritesReport a b e f (IsNone after.unwritten)
    (ReportsHeaded Reads parts 0 0 (codes "-") before (progress_of after)))
    → IfOk result (λ after. WritesReport a b e f (IsNone after.unwritten)
    (ReportsEach Reads parts (length names) 0 (captures_of (map named names)) before (progress_of after)))
unnamed Reads parts names named before a b e f (Err error) none one = tt
unnamed Reads parts [] named before a b e f (Ok after) none one = record {
  text = one.text;
  lines = one.lines;
  is_report = reports_one Reads parts before (progress_of after) one.text one.lines one.is_report;
  appends = one.appends;
  tells = one.tells;
}
unnamed Reads parts (name ∷ names) named before a b e f (Ok after) none one = absurd (grind (arith, none))

-- captures are named
pub all_named : {X : Type 0} (names : List X) (named : X → List ℕ) → (length names == 0) ≡ false
    → map named names ≡ captures_of (map named names)
all_named [] named some = absurd (grind (arith, some))
all_named (name ∷ names) named some = refl

-- the state at the start of a run
at_first : (parts : Parts) (start : CaptureReports) → start.summary ≡ empty_tables (width_of parts) → start.status ≡ Success → start.is_empty ≡ true → start.capture ≡ None
    → start.files ≡ no_files → progress_of start ≡ at_start parts
at_first parts start tables status empty no_capture none = cc (tables, status, empty, no_capture, none)

-- the summary was written after all captures, and all lines of errors were written
pub run_result : {X : Type 0} (Reads : List ℕ → Given → Type 0) (parts : Parts) (names : List X) (named : X → List ℕ)
    (start reports : CaptureReports) (status : ExitStatus) (a b c e f : Option (List ℕ)) → start.parts ≡ parts
    → start.summary ≡ empty_tables (width_of parts) → start.status ≡ Success → start.is_empty ≡ true → start.capture ≡ None → start.files ≡ no_files
    → reports.parts ≡ start.parts → reports.unwritten ≡ None
    → WritesReport a b e f (IsNone reports.unwritten)
    (ReportsEach Reads start.parts (length names) 0 (captures_of (map named names)) (progress_of start) (progress_of reports))
    → Appends b c (if reports.is_empty then [] else end_text reports.parts (length names) reports.capture reports.files reports.summary)
    → status ≡ final_status reports.parts.check reports.status reports.summary
    → WritesRun a c e f (IsRun Reads parts (map named names) status)
run_result Reads parts names named start reports status a b c e f same tables first empty no_capture none kept told each end final =
    let is_start : progress_of start ≡ at_start parts = at_first parts start tables first empty no_capture none in
    let all : ReportsEach Reads parts (length (map named names)) 0 (captures_of (map named names)) (at_start parts)
    (progress_of reports) each.text each.lines =
    rw (same, is_start, sym (length-map names named)) at each.is_report in
    let whole : each.tells.written ≡ concat each.lines = each.tells.whole (rw told refl) in (
      each.text ++ (if reports.is_empty then [] else end_text parts (length names) reports.capture reports.files reports.summary),
      each.lines,
      record {
        after = progress_of reports;
        captures = each.text;
        reports = all;
        timeline = timeline_from_start Reads parts (length (map named names)) (captures_of (map named names)) (progress_of reports)
            each.text each.lines all;
        whole = rw (length-map names named) refl;
        is_final = rw (kept ∙ same) at final;
      },
      Appends-trans a b c each.text _ each.appends (rw (kept ∙ same) at end),
      rw whole at each.tells.appends,
    )

-- the run failed after all captures
pub run_failed : {X : Type 0} (Reads : List ℕ → Given → Type 0) (parts : Parts) (names : List X) (named : X → List ℕ)
    (start : CaptureReports) (e f : Option (List ℕ)) → start.parts ≡ parts
    → start.summary ≡ empty_tables (width_of parts) → start.status ≡ Success → start.is_empty ≡ true → start.capture ≡ None
    → start.files ≡ no_files
    → TellsFirst Reads start.parts (length names) (captures_of (map named names)) (progress_of start) e f
    → TellsFirst Reads parts (length names) (captures_of (map named names)) (at_start parts) e f
run_failed Reads parts names named start e f same tables first empty no_capture none tells =
    rw (same, at_first parts start tables first empty no_capture none) at tells
