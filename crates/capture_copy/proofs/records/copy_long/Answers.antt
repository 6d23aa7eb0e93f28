use Rattle.std.proofs.Common.{◌++◌, Some, ap, arith, refl, rules, subst}
use Rattle.std.proofs.KnownBytes.{Consumes-trans}
use Rattle.capture_copy.proofs.PartLemmas.{front_if_long}
use Rattle.capture_copy.proofs.PassingLemmas.{passes_part}
use Rattle.capture_copy.proofs.RecordLemmas.{cut_captured}
use Rattle.capture_copy.proofs.VisitLemmas.{after_record, ends_cut, long_record_front, long_record_visited, next_long_to_error, part_with}
use Rattle.std.specs.Io.KnownBytes.{Appends}
use Rattle.capture_file.specs.Packets.{classic_time}
use Rattle.capture_copy.specs.Records.{IsLongRecord}
use Rattle.capture_copy.specs.Visits.{written_if}
use Rattle.capture_copy.proofs.records.copy_long.Goals as goal

pub returns-in_err-len : goal.returns-in_err-len
returns-in_err-len g c = record {
  passes =
      λ left consumed counts.
      let captured_len = ap (λ header. header.captured_len) c.requires.header in
      next_long_to_error (g.V.Visitor.visits c.args.visitor.now) _ _ _ _ left _ _ _ _ counts c.args.first.now
      c.args.header.now.captured_len c.is_written-is_written.result (search rules)
      captured_len c.requires.room
      c.is_written-is_written.ensures.each
      consumed c.in_err-len.ensures.passes (search rules);
}

pub returns-then-len-captured_len : goal.returns-then-len-captured_len
returns-then-len-captured_len g c = record {
  passes =
      λ left consumed counts.
      let first = c.args.first.now in
      let rest = c.in_ok-len.ensures.passes in
      let captured_len = ap (λ header. header.captured_len) c.requires.header in
      ends_cut (g.V.Visitor.visits c.args.visitor.now) _ _ left _ _ _ counts (first ++ rest.bytes) _ _ _ c.cut_off.ensures
      (Consumes-trans _ _ _ first rest.bytes consumed rest.consumed) rest.appended
      (front_if_long _ _ (IsLongRecord c.args.records.now.header (first ++ rest.bytes)) (first ++ rest.bytes)
      (long_record_front c.args.records.now.header first rest.bytes (search rules) (omega (arith, captured_len, c.requires.room)))
      c.is_written-is_written.ensures.each)
      (cut_captured c.args.records.now.header.byte_order first rest.bytes _ _ (search rules)
      (omega (arith, rest.has_len, captured_len, c.if-len-captured_len.true))
      (omega (arith, captured_len))
      (omega (arith, rest.has_len)))
      (c.in_ok-len.ensures.end (omega (arith, c.if-len-captured_len.true)));
}

pub returns : goal.returns
returns g c = record {
  passes =
      λ left consumed counts.
      let visits = g.V.Visitor.visits c.args.visitor.now in
      let capture = c.args.records.now.header in
      let first = c.args.first.now in
      let rest = c.in_ok-len.ensures.passes in
      let outcome = c.visit_long-outcome.result in
      let captured_len = ap (λ header. header.captured_len) c.requires.header in
      passes_part _ _ _ left _ _ _ _ _ (part_with visits (first ++ rest.bytes) (first ++ rest.bytes) outcome) (
        after_record c.args.records.now _ c.args.header.now first rest.bytes (search rules) c.requires.header c.pass.ensures,
        long_record_visited visits capture first rest.bytes outcome (search rules)
            (omega (arith, rest.has_len, captured_len, c.in_ok-len.ensures.within, c.if-len-captured_len.false))
            (omega (arith, captured_len, c.requires.room))
            (subst (λ header. visits.visits_long header.captured_len (Some (classic_time capture.resolution header.time)) outcome)
            c.requires.header
            (subst (λ time. visits.visits_long c.args.header.now.captured_len (Some time) outcome) c.from_record-time.ensures
            c.visit_long-outcome.ensures)),
      )
      (Consumes-trans _ _ _ first rest.bytes consumed rest.consumed)
      (subst (λ is_written. Appends (g.W.Write.contents c.args.copier.now.output) (g.W.Write.contents c.pass_long.new.copier.output)
      (written_if is_written (first ++ rest.bytes))) c.is_written-is_written.ensures.written rest.appended) refl;
}
