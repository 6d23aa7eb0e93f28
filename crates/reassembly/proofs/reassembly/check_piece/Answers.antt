use Rattle.std.proofs.Common.{◌≡◌, length, refl, sym, true, false, ◌∙◌}
use Rattle.std.specs.List.{list_any}
use Rattle.reassembly.proofs.KeptLemmas.{among_by_parts, many_false, many_true, piece_rules}
use Rattle.reassembly.proofs.OverlapLemmas.{is_new, new_conflicts, repeats_alone}
use Rattle.reassembly.proofs.PartLemmas.{overlaps_parts}
use Rattle.reassembly.specs.Parts.{pieces_in}
use Rattle.reassembly.specs.Pieces.{Piece, is_among, overlaps}
use Rattle.reassembly.specs.Reassembly.{conflicts}
use Rattle.reassembly.proofs.reassembly.check_piece.Goals as goal

pub returns-then-is_repeated-clause-refused : goal.returns-then-is_repeated-clause-refused
returns-then-is_repeated-clause-refused c =
    let pieces = pieces_in c.args.buffer.now c.args.parts.now in
    let piece : Piece = record { offset = c.args.offset; bytes = c.args.bytes.now } in
    let among : is_among pieces piece ≡ true =
    among_by_parts c.args.buffer.now c.args.parts.now piece ∙ sym c.is_repeated.ensures ∙ c.if-is_repeated.true in
    piece_rules c.args.buffer.now c.args.parts.now piece false true _ (repeats_alone pieces piece c.requires.apart among) among refl

pub returns-then-is_repeated-clause-repeated : goal.returns-then-is_repeated-clause-repeated
returns-then-is_repeated-clause-repeated c =
    sym (among_by_parts c.args.buffer.now c.args.parts.now _ ∙ sym c.is_repeated.ensures ∙ c.if-is_repeated.true)

pub returns-then-is_overlapped-clause-refused : goal.returns-then-is_overlapped-clause-refused
returns-then-is_overlapped-clause-refused c =
    let pieces = pieces_in c.args.buffer.now c.args.parts.now in
    let piece : Piece = record { offset = c.args.offset; bytes = c.args.bytes.now } in
    let among : is_among pieces piece ≡ false =
    among_by_parts c.args.buffer.now c.args.parts.now piece ∙ sym c.is_repeated.ensures ∙ c.if-is_repeated.false in
    let overlap : list_any (overlaps piece) pieces ≡ true =
    overlaps_parts c.args.buffer.now c.args.parts.now piece c.requires.fit ∙ sym c.is_overlapped.ensures ∙ c.if-is_overlapped.true in
    piece_rules c.args.buffer.now c.args.parts.now piece true false _ (new_conflicts pieces piece among ∙ overlap) among refl

pub returns-then-parts-ge-MAX_FRAGMENTS-clause-refused :
    goal.returns-then-parts-ge-MAX_FRAGMENTS-clause-refused
returns-then-parts-ge-MAX_FRAGMENTS-clause-refused c =
    let pieces = pieces_in c.args.buffer.now c.args.parts.now in
    let piece : Piece = record { offset = c.args.offset; bytes = c.args.bytes.now } in
    let apart : list_any (overlaps piece) pieces ≡ false =
    overlaps_parts c.args.buffer.now c.args.parts.now piece c.requires.fit ∙ sym c.is_overlapped.ensures ∙ c.if-is_overlapped.false in
    let among : is_among pieces piece ≡ false = is_new pieces piece c.requires.some apart in
    piece_rules c.args.buffer.now c.args.parts.now piece false false true (new_conflicts pieces piece among ∙ apart) among
    (many_true (length c.args.parts.now) c.if-parts-ge-MAX_FRAGMENTS.true)

pub returns-clause-refused : goal.returns-clause-refused
returns-clause-refused c =
    let pieces = pieces_in c.args.buffer.now c.args.parts.now in
    let piece : Piece = record { offset = c.args.offset; bytes = c.args.bytes.now } in
    let apart : list_any (overlaps piece) pieces ≡ false =
    overlaps_parts c.args.buffer.now c.args.parts.now piece c.requires.fit ∙ sym c.is_overlapped.ensures ∙ c.if-is_overlapped.false in
    let among : is_among pieces piece ≡ false = is_new pieces piece c.requires.some apart in
    piece_rules c.args.buffer.now c.args.parts.now piece false false false (new_conflicts pieces piece among ∙ apart) among
    (many_false (length c.args.parts.now) c.if-parts-ge-MAX_FRAGMENTS.false)

pub returns-clause-repeated : goal.returns-clause-repeated
returns-clause-repeated c =
    let pieces = pieces_in c.args.buffer.now c.args.parts.now in
    let piece : Piece = record { offset = c.args.offset; bytes = c.args.bytes.now } in
    let apart : list_any (overlaps piece) pieces ≡ false =
    overlaps_parts c.args.buffer.now c.args.parts.now piece c.requires.fit ∙ sym c.is_overlapped.ensures ∙ c.if-is_overlapped.false in
    sym (is_new pieces piece c.requires.some apart)
