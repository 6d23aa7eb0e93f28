-- A worked example of a run that writes the packets of a capture, so that a wrong definition fails before any code does.
use Rattle.std.proofs.Common.{◌++◌, List, ℕ, [], ◌∷◌, None, Some, Ok, codes, refl}
use Rattle.std.specs.Fmt.{digits}
use Rattle.capture_request.specs.declared.exit_status.ExitStatus.TheVariants.{Success}
use Rattle.capture_request.specs.declared.parts.Parts.{Parts}
use Rattle.capture_request.specs.declared.reached.Reached.TheVariants.{End}
use Rattle.capture_selection.proofs.SelectionExamples.{counts, header, options, other_record, selection, udp_record}
use Rattle.capture_report.specs.Outputs.{WritesSelection}

-- the line for standard error
abbrev line : List ℕ
line = codes "capture_report: 2 packets read, 1 written\n"

-- one of two packets is written, and the exit status is 0
written : (others : Parts) → WritesSelection (options others) None (Some (header ++ udp_record ++ other_record)) (Some []) (Some [])
    (Some (header ++ udp_record)) (Some []) (Some line)
    (Ok 0)
unfolding digits
written others = record {
  ended = Ok End;
  counts = counts 2 1 1;
  then_held = Some (header ++ udp_record);
  selects = selection others;
  flushed = refl;
  lines = (
    line ∷ [],
    ([], refl, refl),
    record { written = line; appends = refl; begun = (line, [], [], refl, refl, refl); whole = λ done. refl },
  );
  status = (Success, refl, refl);
  failure = tt;
}
