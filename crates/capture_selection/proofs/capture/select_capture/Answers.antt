use Rattle.std.proofs.Common.{◌∙◌, Err, Ok, refl, subst, sym}
use Rattle.capture_copy.proofs.VisitLemmas.{passes_from}
use Rattle.capture_copy.specs.Captures.{BeginsCapture}
use Rattle.capture_selection.proofs.CaptureLemmas.{selects_capture}
use Rattle.capture_selection.proofs.SelectorLemmas.{limit_of, whole_of}
use Rattle.capture_selection.specs.Captures.{EndsAtLimit}
use Rattle.capture_selection.specs.Selector.{selection_of}
use Rattle.capture_selection.proofs.capture.select_capture.Goals as goal

-- the header is refused
pub returns-in-Ok-Err-clause-selects : goal.returns-in-Ok-Err-clause-selects
returns-in-Ok-Err-clause-selects g c =
    λ left consumed other.
    let refused : BeginsCapture (Ok (Err c.in-Ok-Err.error)) left (g.R.Read.remaining c.copy_header.new.self.input)
    (g.W.Write.contents c.args.copier.now.output) (g.W.Write.contents c.copy_header.new.self.output) =
    subst (λ given. BeginsCapture (Ok given) left (g.R.Read.remaining c.copy_header.new.self.input)
    (g.W.Write.contents c.args.copier.now.output) (g.W.Write.contents c.copy_header.new.self.output)) c.in-Ok-Err.field-0-is
    (c.in-Ok-Err.ensures.begins left c.requires.begin consumed) in (refused.0, other, (refused.1, refl))

-- reading the header failed
pub returns-in-Err-Read-clause-selects : goal.returns-in-Err-Read-clause-selects
returns-in-Err-Read-clause-selects g c =
    λ left consumed other. (
      subst (λ given. BeginsCapture (Err given) left (g.R.Read.remaining c.copy_header.new.self.input)
          (g.W.Write.contents c.args.copier.now.output) (g.W.Write.contents c.copy_header.new.self.output)) c.in-Err-Read.field-0-is
          (c.in-Err-Read.ensures.begins left c.requires.begin consumed),
      refl,
    )

-- the header was copied
pub returns-clause-selects : goal.returns-clause-selects
returns-clause-selects g c =
    λ left consumed other. selects_capture c.args.parts.now _ c.copy_records.result left _ _ _ _ _ c.selected.ensures (record {
      header = c.in-Ok-Ok.header;
      middle = _;
      then_held = _;
      copies = subst (λ given. BeginsCapture (Ok given) left (g.R.Read.remaining c.copy_header.new.self.input)
          (g.W.Write.contents c.args.copier.now.output) (g.W.Write.contents c.copy_header.new.self.output)) c.in-Ok-Ok.field-0-is
          (c.in-Ok-Ok.ensures.begins left c.requires.begin consumed);
      after = _;
      passes = passes_from (selection_of c.args.parts.now) _ _ _ _ _ _ _ _ _ _ c.after-records.ensures c.copy_records.ensures.passes;
    })

pub returns-clause-ends : goal.returns-clause-ends
returns-clause-ends g c = λ is_end. c.copy_records.ensures.ends (whole_of c.copy_records.result (sym c.selected.ensures ∙ is_end))

pub returns-clause-limit : goal.returns-clause-limit
returns-clause-limit g c =
    subst (EndsAtLimit c.args.parts.now.limit c.copy_records.new.counts.written) (sym c.selected.ensures)
    (limit_of c.args.parts.now.limit c.copy_records.new.counts.written c.copy_records.result c.copy_records.ensures.enough)
