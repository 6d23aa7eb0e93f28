use Rattle.std.proofs.Common.{Err, Ok, OnOk, inl, refl, subst, sym}
use Rattle.std.specs.Io.KnownBytes.{IsAtEnd}
use Rattle.capture_copy.proofs.VisitLemmas.{passes_from}
use Rattle.capture_copy.specs.Captures.{BeginsCapture}
use Rattle.translator.proofs.CaptureLemmas.{translates_records}
use Rattle.translator.proofs.TranslationLemmas.{at_end_of}
use Rattle.translator.specs.Translation.{record_error, translation_of}
use Rattle.translator.proofs.capture.translate_classic.Goals as goal

-- the header is refused
pub returns-in-Ok-Err-clause-translates : goal.returns-in-Ok-Err-clause-translates
returns-in-Ok-Err-clause-translates g c =
    λ left consumed no_pcapng.
    let refused : BeginsCapture (Ok (Err c.in-Ok-Err.error)) left (g.R.Read.remaining c.copy_header.new.self.input)
    (g.W.Write.contents c.args.copier.now.output) (g.W.Write.contents c.copy_header.new.self.output) =
    subst (λ given. BeginsCapture (Ok given) left (g.R.Read.remaining c.copy_header.new.self.input)
    (g.W.Write.contents c.args.copier.now.output) (g.W.Write.contents c.copy_header.new.self.output)) c.in-Ok-Err.field-0-is
    (c.in-Ok-Err.ensures.begins left c.requires.begin consumed) in (no_pcapng, refused.0, (refused.1, refl))

-- reading the header failed
pub returns-in-Err-Read-clause-translates : goal.returns-in-Err-Read-clause-translates
returns-in-Err-Read-clause-translates g c =
    λ left consumed no_pcapng. inl (
      refl,
      (
        subst (λ given. BeginsCapture (Err given) left (g.R.Read.remaining c.copy_header.new.self.input)
            (g.W.Write.contents c.args.copier.now.output) (g.W.Write.contents c.copy_header.new.self.output)) c.in-Err-Read.field-0-is
            (c.in-Err-Read.ensures.begins left c.requires.begin consumed),
        refl,
      ),
    )

-- the header was copied
pub returns-clause-translates : goal.returns-clause-translates
returns-clause-translates g c =
    λ left consumed no_pcapng. translates_records c.args.table.now _ c.copy_records.result left _ _ _ _ _ c.of_records.ensures (record {
      header = c.in-Ok-Ok.header;
      middle = _;
      then_held = _;
      copies = subst (λ given. BeginsCapture (Ok given) left (g.R.Read.remaining c.copy_header.new.self.input)
          (g.W.Write.contents c.args.copier.now.output) (g.W.Write.contents c.copy_header.new.self.output)) c.in-Ok-Ok.field-0-is
          (c.in-Ok-Ok.ensures.begins left c.requires.begin consumed);
      after = _;
      passes = passes_from (translation_of c.args.table.now) _ _ _ _ _ _ _ _ _ _ c.after-records.ensures c.copy_records.ensures.passes;
    })

pub returns-clause-ends : goal.returns-clause-ends
returns-clause-ends g c =
    subst (λ given. OnOk given (IsAtEnd (g.R.Read.remaining c.copy_records.new.copier.input))) (sym c.of_records.ensures)
    (at_end_of record_error c.copy_records.result _ c.copy_records.ensures.enough c.copy_records.ensures.ends)
