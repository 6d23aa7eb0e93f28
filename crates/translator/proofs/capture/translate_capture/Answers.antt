use Rattle.std.proofs.Common.{◌∙◌, OnOk, false, inl, refl, subst, sym, true}
use Rattle.std.specs.Io.KnownBytes.{IsAtEnd}
use Rattle.capture_copy.proofs.BeginLemmas.{begins_pcapng}
use Rattle.translator.proofs.CaptureLemmas.{translates_blocks}
use Rattle.translator.proofs.TranslationLemmas.{at_end_of}
use Rattle.translator.specs.Translation.{block_error}
use Rattle.translator.proofs.capture.translate_capture.Goals as goal

-- reading the first bytes failed
pub returns-in-Err-clause-translates : goal.returns-in-Err-clause-translates
returns-in-Err-clause-translates g c = inl (refl, (refl, refl))

pub returns-then-not-is_pcapng-clause-translates : goal.returns-then-not-is_pcapng-clause-translates
returns-then-not-is_pcapng-clause-translates g c =
    c.translate_classic.ensures.translates _ c.in-Ok.ensures.consumed
    (begins_pcapng _ _ false c.in-Ok.ensures.bytes (sym c.is_pcapng.ensures.is ∙ c.if-not-is_pcapng.true))

pub returns-clause-translates : goal.returns-clause-translates
returns-clause-translates g c = translates_blocks c.args.table.now _ c.copy_blocks.result _ _ _ _ _ _ c.of_blocks.ensures (record {
  is_pcapng = begins_pcapng _ _ true c.in-Ok.ensures.bytes (sym c.is_pcapng.ensures.is ∙ c.if-not-is_pcapng.false);
  start = _;
  is_start = c.start-blocks.ensures;
  after = _;
  passes = c.copy_blocks.ensures.passes _ c.in-Ok.ensures.consumed;
})

pub returns-clause-ends : goal.returns-clause-ends
returns-clause-ends g c =
    subst (λ given. OnOk given (IsAtEnd (g.R.Read.remaining c.copy_blocks.new.copier.input))) (sym c.of_blocks.ensures)
    (at_end_of block_error c.copy_blocks.result _ c.copy_blocks.ensures.enough c.copy_blocks.ensures.ends)
