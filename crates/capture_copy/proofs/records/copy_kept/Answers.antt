use Rattle.std.proofs.Common.{◌≡◌, ◌++◌, Err, Some, ap, arith, inr, length, length-take, length-take-le, refl, rules, subst, take}
use Rattle.std.proofs.KnownBytes.{Consumes-trans}
use Rattle.capture_file.proofs.ReaderLemmas.{full}
use Rattle.capture_file.specs.Packets.{packet_of_record}
use Rattle.capture_copy.proofs.PartLemmas.{front_alone, front_if_all}
use Rattle.capture_copy.proofs.PassingLemmas.{passes_part}
use Rattle.capture_copy.proofs.RecordLemmas.{cut_captured}
use Rattle.capture_copy.proofs.VisitLemmas.{after_record, ends_cut, next_to_read_error, part_with, record_visited}
use Rattle.std.specs.Io.KnownBytes.{Appends}
use Rattle.capture_copy.specs.Visits.{written_if}
use Rattle.capture_copy.proofs.records.copy_kept.Goals as goal

-- reading the captured bytes failed
pub returns-in-Err : goal.returns-in-Err
returns-in-Err g c = record {
  passes =
      λ left consumed counts.
      let visits = g.V.Visitor.visits c.args.visitor.now in
      let first = c.args.first.now in
      let sixteen : length first ≡ 16 = search rules in
      next_to_read_error {A = Unit {0}} visits (Err c.in-Err.error) c.in-Err.error c.args.records.now c.args.records.now left _ _ _ _ counts
      first _ c.in-Err.ensures.failed consumed c.in_ok-write_if-in-Err.ensures.appends (front_alone _ _ _ _ c.writes_all-writes_all.ensures) (inr (omega (arith, sixteen)))
      refl;
}

-- the capture ends within the captured bytes
pub returns-then-len-frame : goal.returns-then-len-frame
returns-then-len-frame g c = record {
  passes =
      λ left consumed counts.
      let first = c.args.first.now in
      let frame = c.read_into.new.buffer in
      let len = c.in-Ok.len in
      let captured_len = ap (λ header. header.captured_len) c.requires.header in
      let room = length-take c.args.header.now.captured_len c.args.copier.now.buffer.now in
      let taken = length-take-le len frame c.in-Ok.ensures.len in
      ends_cut (g.V.Visitor.visits c.args.visitor.now) _ _ left _ _ _ counts (first ++ take len frame) _ _ _ c.cut_off.ensures
      (Consumes-trans _ _ _ first (take len frame) consumed c.in-Ok.ensures.consumed) c.in_ok-write_if.ensures.appends
      (front_if_all _ _ _ _ c.writes_all-writes_all.ensures)
      (cut_captured c.args.records.now.header.byte_order first (take len frame) _ _ (search rules)
      (omega (arith, taken, captured_len, room, c.read_into.auto.buffer, c.requires.room, c.if-len-frame.true))
      (omega (arith, captured_len, room, c.read_into.auto.buffer, c.requires.room))
      (omega (arith, taken)))
      (c.in-Ok.ensures.end (omega (arith, c.if-len-frame.true)));
}

pub returns : goal.returns
returns g c = record {
  passes =
      λ left consumed counts.
      let visits = g.V.Visitor.visits c.args.visitor.now in
      let capture = c.args.records.now.header in
      let first = c.args.first.now in
      let frame = c.read_into.new.buffer in
      let after = c.visit-outcome.new.frame in
      let outcome = c.visit-outcome.result in
      let captured_len = ap (λ header. header.captured_len) c.requires.header in
      let room = length-take c.args.header.now.captured_len c.args.copier.now.buffer.now in
      let visited = subst (λ header. visits.visits (packet_of_record capture header) frame after outcome) c.requires.header
      (subst (λ packet. visits.visits packet frame after outcome) c.from_record-packet.ensures c.visit-outcome.ensures) in
      passes_part _ _ _ left _ _ _ _ _ (record {
        read = first ++ frame;
        written = (part_with visits (first ++ frame) (first ++ after) outcome).written;
        outcome = Some outcome;
      }) (
        after_record c.args.records.now _ c.args.header.now first frame (search rules) c.requires.header c.pass.ensures,
        record_visited visits capture first frame after outcome (search rules)
            (omega (arith, captured_len, room, c.read_into.auto.buffer, c.requires.room))
            (omega (arith, captured_len, c.requires.room)) visited,
      )
      (Consumes-trans _ _ _ first frame consumed
      (full _ _ frame c.in-Ok.len (omega (arith, c.if-len-frame.false)) c.in-Ok.ensures.consumed))
      (subst (λ is_written. Appends (g.W.Write.contents c.args.copier.now.output) (g.W.Write.contents c.write_if-2.new.output)
      (written_if is_written (first ++ after))) c.is_written-is_written.ensures.written c.in_ok-write_if-2.ensures.appends) refl;
}
