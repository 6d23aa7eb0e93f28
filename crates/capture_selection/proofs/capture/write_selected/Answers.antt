use Rattle.std.proofs.Common.{inl, inr, refl, subst, sym, false, true, ◌∙◌}
use Rattle.capture_copy.proofs.BeginLemmas.{begins_pcapng}
use Rattle.capture_selection.proofs.CaptureLemmas.{selects_blocks}
use Rattle.capture_selection.proofs.SelectorLemmas.{limit_of_blocks, whole_of_blocks}
use Rattle.capture_selection.specs.Captures.{EndsAtLimit}
use Rattle.capture_selection.proofs.capture.write_selected.Goals as goal

pub returns-then-not-is_pcapng-clause-selects : goal.returns-then-not-is_pcapng-clause-selects
returns-then-not-is_pcapng-clause-selects g c =
    c.select_capture.ensures.selects _ c.in-Ok.ensures.consumed
    (begins_pcapng _ _ false c.in-Ok.ensures.bytes (sym c.is_pcapng.ensures.is ∙ c.if-not-is_pcapng.true))

pub returns-then-is_full-clause-selects : goal.returns-then-is_full-clause-selects
returns-then-is_full-clause-selects g c = inr (inr (
  begins_pcapng _ _ true c.in-Ok.ensures.bytes (sym c.is_pcapng.ensures.is ∙ c.if-not-is_pcapng.false),
  sym c.is_full.ensures ∙ c.if-is_full.true,
  (refl, refl),
  refl,
))

pub returns-clause-selects : goal.returns-clause-selects
returns-clause-selects g c = selects_blocks _ _ _ _ _ _ _ _ (inl (
  c.copy_blocks.result,
  c.selected_blocks.ensures,
  record {
    is_pcapng = begins_pcapng _ _ true c.in-Ok.ensures.bytes (sym c.is_pcapng.ensures.is ∙ c.if-not-is_pcapng.false);
    start = _;
    is_start = c.start-blocks.ensures;
    after = _;
    passes = c.copy_blocks.ensures.passes _ c.in-Ok.ensures.consumed;
  },
))

pub returns-clause-ends : goal.returns-clause-ends
returns-clause-ends g c = λ is_end. c.copy_blocks.ensures.ends (whole_of_blocks c.copy_blocks.result (sym c.selected_blocks.ensures ∙ is_end))

pub returns-clause-limit : goal.returns-clause-limit
returns-clause-limit g c =
    subst (EndsAtLimit c.args.parts.now.limit c.copy_blocks.new.counts.written) (sym c.selected_blocks.ensures)
    (limit_of_blocks c.args.parts.now.limit c.copy_blocks.new.counts.written c.copy_blocks.result c.copy_blocks.ensures.enough)

pub returns-clause-full : goal.returns-clause-full
returns-clause-full g c = λ full. absurd (cc (sym full ∙ sym c.is_full.ensures ∙ c.if-is_full.false))
