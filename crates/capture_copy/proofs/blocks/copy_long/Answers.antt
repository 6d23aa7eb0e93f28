use Rattle.std.proofs.Common.{◌≡◌, ◌++◌, ◌∙◌, Err, IfOk, OnErr, ap, arith, length-append, refl, rules, subst, sym}
use Rattle.std.proofs.KnownBytes.{Consumes-trans}
use Rattle.std.specs.Io.KnownBytes.{Appends}
use Rattle.capture_file.proofs.PcapngLemmas.{block_header_front}
use Rattle.capture_file.specs.Pcapng.{block_header}
use Rattle.capture_copy.proofs.BlockEndLemmas.{ends_rejected}
use Rattle.capture_copy.proofs.LongBlockLemmas.{appends_last, begins_front, begins_long, ends_cut, long_part, long_refused, next_last_to_error, next_middle_to_error, whole_long}
use Rattle.capture_copy.proofs.PartLemmas.{front_if_all}
use Rattle.capture_copy.proofs.PassingLemmas.{passes_part}
use Rattle.capture_copy.specs.Blocks.{EndsWithLast, HasLongOutcome, IsLongBlock, blocks_of, place_after, writes_front}
use Rattle.capture_copy.specs.Visits.{is_written_with, written_if}
use Rattle.capture_copy.proofs.blocks.copy_long.Goals as goal

pub returns-in_err-len : goal.returns-in_err-len
returns-in_err-len g c = record {
  passes =
      λ left consumed counts.
      let visits = g.V.Visitor.visits c.args.visitor.now in
      let header = c.args.header.now in
      let written = c.is_long_written-is_written in
      let begins = begins_long visits c.args.blocks.now.section.byte_order c.args.first.now header c.visit_long-visited.result
      c.writes_front-writes_front.result (writes_front visits c.args.blocks.now.place) written.result
      c.writes_front-writes_front.ensures c.requires.header c.requires.room c.visit_long-visited.ensures written.ensures.refused
      written.ensures.each in
      next_middle_to_error visits _ c.in_err-len.field-0.0 c.args.blocks.now _ left _ _ _ _ counts c.args.first.now header _
      written.result begins (omega (arith, c.requires.room)) consumed c.in_err-len.ensures.passes (search rules);
}

pub returns-then-len-middle_len : goal.returns-then-len-middle_len
returns-then-len-middle_len g c = record {
  passes =
      λ left consumed counts.
      let visits = g.V.Visitor.visits c.args.visitor.now in
      let section = c.args.blocks.now.section.byte_order in
      let first = c.args.first.now in
      let header = c.args.header.now in
      let written = c.is_long_written-is_written in
      let middle = c.in_ok-len.ensures.passes in
      let begins = begins_long visits section first header c.visit_long-visited.result
      c.writes_front-writes_front.result (writes_front visits c.args.blocks.now.place) written.result
      c.writes_front-writes_front.ensures c.requires.header c.requires.room c.visit_long-visited.ensures written.ensures.refused
      written.ensures.each in
      ends_cut visits _ c.args.blocks.now left _ _ _ counts first middle.bytes (written_if written.result (first ++ middle.bytes)) header _
      written.result begins refl (Consumes-trans left _ _ first middle.bytes consumed middle.consumed) middle.appended
      (begins_front section first middle.bytes header (writes_front visits c.args.blocks.now.place) written.result begins)
      (omega (arith, c.requires.header.has_len, middle.has_len, length-append first middle.bytes))
      (omega (arith, c.requires.room, c.if-len-middle_len.true)) (c.in_ok-len.ensures.end (omega (arith, c.if-len-middle_len.true)));
}

pub returns-in_err-last : goal.returns-in_err-last
returns-in_err-last g c = record {
  passes =
      λ left consumed counts.
      let visits = g.V.Visitor.visits c.args.visitor.now in
      let place = c.args.blocks.now.place in
      let first = c.args.first.now in
      let header = c.args.header.now in
      let written = c.is_long_written-is_written in
      let middle = c.in_ok-len.ensures.passes in
      let begins = begins_long visits c.args.blocks.now.section.byte_order first header c.visit_long-visited.result
      c.writes_front-writes_front.result (writes_front visits place) written.result
      c.writes_front-writes_front.ensures c.requires.header c.requires.room c.visit_long-visited.ensures written.ensures.refused
      written.ensures.each in
      next_last_to_error visits _ c.in_err-last.field-0.0 c.args.blocks.now _ left _ _ _ _ _ counts first middle.bytes header
      written.result begins
      (omega (arith, c.requires.room, middle.has_len, c.in_ok-len.ensures.within, c.if-len-middle_len.false))
      (Consumes-trans left _ _ first middle.bytes consumed middle.consumed) middle.appended
      (subst (λ front. EndsWithLast header place front (Err c.in_err-last.field-0.0) (g.R.Read.remaining c.pass_long.new.copier.input)
      (g.R.Read.remaining c.read_last.new.copier.input) (g.W.Write.contents c.pass_long.new.copier.output)
      (g.W.Write.contents c.read_last.new.copier.output)) c.writes_front-writes_front.ensures c.in_err-last.ensures.ends) (search rules);
}

pub returns-in-Ok : goal.returns-in-Ok
returns-in-Ok g c = record {
  passes =
      λ left consumed counts.
      let visits = g.V.Visitor.visits c.args.visitor.now in
      let section = c.args.blocks.now.section.byte_order in
      let place = c.args.blocks.now.place in
      let first = c.args.first.now in
      let header = c.args.header.now in
      let written = c.is_long_written-is_written in
      let middle = c.in_ok-len.ensures.passes in
      let last = c.in_ok-last.last in
      let ends = c.in_ok-last.ensures.ends in
      let outcome = c.in-Ok.outcome in
      let more = middle.bytes ++ last in
      let whole = whole_long section first middle.bytes last header c.requires.header.has_len c.requires.header.accepted
      c.requires.header.is_header c.requires.room
      (omega (arith, c.requires.room, middle.has_len, c.in_ok-len.ensures.within, c.if-len-middle_len.false)) ends.0 ends.1 in
      let same_header : header ≡ block_header section (first ++ more) =
      c.requires.header.is_header ∙ sym (block_header_front section first more (omega (arith, c.requires.header.has_len))) in
      let is_written : written.result ≡ is_written_with visits outcome =
      subst (λ visited. IfOk visited (λ given. written.result ≡ is_written_with visits given)) c.in-Ok.is written.ensures.kept in
      passes_part (blocks_of visits) c.args.blocks.now _ left _ _ _ _ _ (record {
        read = first ++ more;
        written = written_if (is_written_with visits outcome) (first ++ more);
        outcome = outcome;
      }) (
        c.after_block-blocks.ensures ∙ ap (λ given. place_after place given c.is_some.result) same_header
            ∙ ap (place_after place (block_header section (first ++ more))) c.is_some.ensures,
        long_part visits c.args.blocks.now first more header outcome c.requires.header.has_len c.requires.header.is_header whole.0 whole.1
            (subst (HasLongOutcome visits header) c.in-Ok.is c.visit_long-visited.ensures),
      )
      (Consumes-trans left _ _ first more consumed (Consumes-trans _ _ _ middle.bytes last middle.consumed ends.2))
      (subst (λ given. Appends (g.W.Write.contents c.args.copier.now.output) (g.W.Write.contents c.write_if.new.output)
      (written_if given (first ++ more))) is_written
      (appends_last written.result _ _ _ _ first middle.bytes last middle.appended ends.3 c.in_ok-write_if.ensures.appends)) refl;
}

pub returns-in-Err : goal.returns-in-Err
returns-in-Err g c = record {
  passes =
      λ left consumed counts.
      let visits = g.V.Visitor.visits c.args.visitor.now in
      let section = c.args.blocks.now.section.byte_order in
      let place = c.args.blocks.now.place in
      let first = c.args.first.now in
      let header = c.args.header.now in
      let written = c.is_long_written-is_written in
      let middle = c.in_ok-len.ensures.passes in
      let last = c.in_ok-last.last in
      let ends = c.in_ok-last.ensures.ends in
      let error = c.in-Err.error in
      let more = middle.bytes ++ last in
      let whole = whole_long section first middle.bytes last header c.requires.header.has_len c.requires.header.accepted
      c.requires.header.is_header c.requires.room
      (omega (arith, c.requires.room, middle.has_len, c.in_ok-len.ensures.within, c.if-len-middle_len.false)) ends.0 ends.1 in
      let front : written.result ≡ writes_front visits place =
      subst (λ visited. OnErr visited (written.result ≡ c.writes_front-writes_front.result)) c.in-Err.is written.ensures.refused
      ∙ c.writes_front-writes_front.ensures in
      ends_rejected visits _ c.args.blocks.now error left _ _ _ counts (first ++ more) (written_if written.result (first ++ more))
      c.refused.ensures
      (Consumes-trans left _ _ first more consumed (Consumes-trans _ _ _ middle.bytes last middle.consumed ends.2))
      (appends_last written.result _ _ _ _ first middle.bytes last middle.appended ends.3 c.in_ok-write_if.ensures.appends)
      (front_if_all (writes_front visits place) written.result (IsLongBlock section (first ++ more)) (first ++ more) front)
      (long_refused visits c.args.blocks.now first more header error c.requires.header.has_len c.requires.header.is_header whole.0 whole.1
      (subst (HasLongOutcome visits header) c.in-Err.is c.visit_long-visited.ensures));
}
