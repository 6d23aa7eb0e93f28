use Rattle.std.proofs.Common.{◌∙◌, [], None, Some, ap, refl}
use Rattle.std.proofs.KnownBytes.{Appends-nil}
use Rattle.capture_run.specs.Captures.{progress_of}
use Rattle.capture_request.proofs.LineLemmas.{writes-weaker}
use Rattle.capture_run.proofs.report.report_capture.Goals as goal

-- if a capture can't be opened, only the line of the error is written
pub returns-in-Err-clause-report : goal.returns-in-Err-clause-report
returns-in-Err-clause-report g c =
    let (lines, one, tells) = c.write_open_error-written.ensures in
    record {
      text = [];
      lines = lines;
      is_report = (None, c.in-Err.ensures.missing, (c.after_line.ensures.progress ∙ ap progress_of c.add_unopened.ensures, refl, one));
      appends = Appends-nil _;
      tells = writes-weaker _ _ _ _ lines (λ none. (c.after_line.ensures.unwritten.0 none).1) tells;
    }

-- the capture is read from the input that its name opens
pub returns-clause-report : goal.returns-clause-report
returns-clause-report g c =
    let added = c.in_ok-reports in
    let (reader, capture, files, (text, is_report, wrote)) = added.ensures.report in
    let (lines, are_lines, tells) = rw c.line_name-shown.ensures at c.write_end-written.ensures in
    record {
      text = text;
      lines = lines;
      is_report = (
        Some (g.O.Input.Read.remaining c.in-Ok.input),
        (c.in-Ok.input, c.in-Ok.ensures.opened, refl),
        rw c.after_line-2.ensures.progress (record {
          ended = added.ended;
          still_left = g.O.Input.Read.remaining c.add.new.input;
          reader = reader;
          is_report = is_report;
          capture = capture;
          files = rw c.row_name-row.ensures at files;
          are_lines = are_lines;
          status = added.ensures.status;
          empty = added.ensures.empty;
          limit = added.ensures.limit;
          within = added.ensures.within;
        }),
      );
      appends = wrote;
      tells = writes-weaker _ _ _ _ lines (λ none. (c.after_line-2.ensures.unwritten.0 none).1) tells;
    }
