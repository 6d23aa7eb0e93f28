use Rattle.std.proofs.Common.{◌≡◌, Ok, arith, length-take-le, refl, subst, take}
use Rattle.std.proofs.lemmas.List.{take_all}
use Rattle.std.specs.Io.KnownBytes.{Consumes}
use Rattle.capture_copy.proofs.BeginLemmas.{all_consumed, refuses_header, says_of_filled}
use Rattle.capture_file.proofs.ReaderLemmas.{fills_whole}
use Rattle.capture_file.specs.Opening.{SaysHeader}
use Rattle.capture_copy.proofs.copier.Copier.copy_header.Goals as goal

-- the header is refused
pub returns-in-Ok-Err : goal.returns-in-Ok-Err
returns-in-Ok-Err g c = record {
  begins =
      λ left are_first consumed.
      let first = c.fill_after.new.buffer in
      let len = c.in-Ok.len in
      let fills = fills_whole 24 c.args.begin.now _ _ first len (omega (arith, are_first.0)) c.in-Ok.ensures.fills in (
        refuses_header c.in-Ok-Err.error left _ _ c.args.begin.now first len (omega (arith, c.fill_after.auto.buffer)) consumed fills
            (subst (SaysHeader (take len first)) c.in-Ok-Err.field-0-is
            (says_of_filled first len _ (omega (arith, c.fill_after.auto.buffer)) c.in-Ok-Err.ensures)),
        refl,
      );
}

-- the header is accepted, so it has 24 bytes
pub returns : goal.returns
returns g c = record {
  begins =
      λ left are_first consumed.
      let first = c.fill_after.new.buffer in
      let len = c.in-Ok.len in
      let fills = fills_whole 24 c.args.begin.now _ _ first len (omega (arith, are_first.0)) c.in-Ok.ensures.fills in
      let says : SaysHeader (take len first) (Ok c.in-Ok-Ok.header) = subst (SaysHeader (take len first)) c.in-Ok-Ok.field-0-is
      (says_of_filled first len _ (omega (arith, c.fill_after.auto.buffer)) c.in-Ok-Ok.ensures) in
      let whole : take len first ≡ first =
      take_all len first (omega (arith, says.0, c.fill_after.auto.buffer, fills.within, length-take-le len first fills.within)) in
      record {
        bytes = first;
        says = subst (λ bytes. SaysHeader bytes (Ok c.in-Ok-Ok.header)) whole says;
        consumed = subst (Consumes left (g.R.Read.remaining c.fill_after.new.input)) whole
            (all_consumed left _ _ c.args.begin.now first len consumed fills);
        appended = c.in_default.ensures.bytes;
      };
}
