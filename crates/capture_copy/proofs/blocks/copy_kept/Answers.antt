use Rattle.std.proofs.Common.{◌≡◌, ◌∙◌, Ok, [], ap, append-nil, arith, inl, length, length-take, refl, rules, subst, sym}
use Rattle.std.proofs.KnownBytes.{Appends-nil, Consumes-nil, Consumes-trans}
use Rattle.std.specs.Io.KnownBytes.{Appends, Consumes}
use Rattle.capture_file.proofs.PcapngLemmas.{block_header_front}
use Rattle.capture_file.specs.Pcapng.{block_header}
use Rattle.capture_copy.proofs.BlockEndLemmas.{ends_kept, kept_block, kept_part, next_to_read_error}
use Rattle.capture_copy.proofs.PartLemmas.{front_none}
use Rattle.capture_copy.proofs.PassingLemmas.{given_error, passes_part}
use Rattle.capture_copy.specs.Blocks.{TakesFrom, blocks_of, place_after}
use Rattle.capture_copy.specs.Visits.{is_written_with, written_if}
use Rattle.capture_copy.proofs.blocks.copy_kept.Goals as goal

pub returns-in_err-len : goal.returns-in_err-len
returns-in_err-len g c = record {
  passes =
      λ left consumed counts.
      let visits = g.V.Visitor.visits c.args.visitor.now in
      given_error (blocks_of visits) _ c.in_err-len.field-0.0 _ _ _ _ _ _ counts
      (next_to_read_error visits _ c.in_err-len.field-0.0 c.args.blocks.now _ left left _ _ _ counts [] [] c.in_err-len.ensures.failed (Consumes-nil _)
      (Appends-nil _) (front_none _ _) (inl refl) (search rules)) (search rules);
}

pub returns-in-Err : goal.returns-in-Err
returns-in-Err g c = record {
  passes =
      λ left consumed counts.
      let room : length c.read_after.new.buffer ≡ c.args.header.now.total_len =
      omega (arith, c.read_after.auto.buffer, length-take c.args.header.now.total_len c.args.copier.now.buffer.now, c.requires.room) in
      ends_kept (g.V.Visitor.visits c.args.visitor.now) _ c.args.blocks.now c.in-Err.error left _ _ _ _ counts c.args.first.now
      c.read_after.new.buffer c.args.header.now c.in_ok-len.len _ c.refused.ensures c.requires.header c.requires.room room consumed
      c.in_ok-len.ensures.fills c.in-Err.ensures.refused c.writes_front-writes_front.ensures c.in_ok-write_if-in-Err.ensures.appends;
}

pub returns : goal.returns
returns g c = record {
  passes =
      λ left consumed counts.
      let visits = g.V.Visitor.visits c.args.visitor.now in
      let section = c.args.blocks.now.section in
      let first = c.args.first.now in
      let buffer = c.read_after.new.buffer in
      let copy = c.visit_taken-outcome.new.block in
      let outcome = c.visit_taken-outcome.result in
      let fills = c.in_ok-len.ensures.fills in
      let header = c.args.header.now in
      let room : length buffer ≡ header.total_len =
      omega (arith, c.read_after.auto.buffer, length-take header.total_len c.args.copier.now.buffer.now, c.requires.room) in
      let kept = kept_block section.byte_order first buffer _ _ header c.in_ok-len.len c.requires.header room fills
      c.in-Ok.ensures.takes.0 in
      let same_header : header ≡ block_header section.byte_order buffer =
      c.requires.header.is_header
      ∙ sym (block_header_front section.byte_order first fills.bytes (omega (arith, c.requires.header.has_len)))
      ∙ ap (block_header section.byte_order) (sym kept.1) in
      passes_part (blocks_of visits) c.args.blocks.now _ left _ _ _ _ _ (record {
        read = buffer;
        written = written_if (is_written_with visits outcome) copy;
        outcome = outcome;
      }) (
        c.after_block-blocks.ensures ∙ ap (λ given. place_after c.args.blocks.now.place given c.is_some.result) same_header
            ∙ ap (place_after c.args.blocks.now.place (block_header section.byte_order buffer)) c.is_some.ensures,
        kept_part visits section c.take_block.new.section buffer copy c.in-Ok.taken outcome kept.0 (omega (arith, room, c.requires.room))
            (subst (λ given. TakesFrom section given c.take_block.new.section (Ok c.in-Ok.taken)) kept.2 c.in-Ok.ensures.takes.1)
            c.visit_taken-outcome.ensures.visits,
      )
      (subst (Consumes left _) (sym kept.1) (Consumes-trans left _ _ first fills.bytes consumed fills.consumed))
      (subst (Appends (g.W.Write.contents c.args.copier.now.output) (g.W.Write.contents c.write_if-2.new.output))
      (ap (written_if c.is_written.result) (append-nil copy) ∙ ap (λ given. written_if given copy) c.is_written.ensures.written)
      c.in_ok-write_if.ensures.appends) refl;
}
