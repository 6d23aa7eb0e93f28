-- The laws of the blocks of a file: a reading exists and is unique, and the reading of a truncated file contains the blocks before the cut.
use Rattle.std.proofs.Common.{◌≡◌, ◌≢◌, ◌⊎◌, ℕ, ◌≤◌, ◌<◌, List, Option, Some, None, arith, inl, inr, length, take, refl, sym, ap, ◌∙◌, length-take-le}
use Rattle.capture_file.proofs.PcapngLemmas.{Begins, accepted, begins_with, same_block}
use Rattle.capture_file.proofs.PieceLaws.{Form, before_cut, exists, unique}
use Rattle.capture_file.specs.Classic.{AreBeforeCut}
use Rattle.capture_file.specs.Laws.{AreUnique, Exist, RemainAtCut}
use Rattle.capture_file.specs.Pcapng.{AreBlocks, IsBlock, IsBlockReading, block_len, block_refusal, order_after, order_of}
use Rattle.capture_numbers.specs.declared.byte_order.ByteOrder.{ByteOrder}
use Rattle.capture_file.specs.declared.pcapng.errors.BlockError.{BlockError}

-- bytes are refused, or begin with a block
refused_or_block : (refusal : Option BlockError) (section : ByteOrder) (bytes : List ℕ) → block_refusal section bytes ≡ refusal
    → (Unit {0} × (block_refusal section bytes ≢ None))
    ⊎ ((len : ℕ) × (0 < len) × (len ≤ length bytes) × IsBlock section (take len bytes))
refused_or_block (Some error) section bytes is = inl (tt, λ none. cc)
refused_or_block None section bytes is =
    let found : Begins section bytes = begins_with section bytes is in
    let len : ℕ = block_len section bytes in
    inr (len, omega (arith, length-take-le len bytes found.within, found.is_block.shortest), found.within, found.is_block)

-- the form of blocks; its state is the byte order of the section
abbrev blocks : Form
blocks = record {
  State = ByteOrder;
  after = order_of;
  IsPiece = IsBlock;
  Are = λ section blocks rest. AreBlocks section blocks × (block_refusal (order_after section blocks) rest ≢ None);
  one_more = λ section block blocks rest is are. ((is, are.0), are.1);
  first_of = λ section block blocks rest are. (are.0.0, (are.0.1, are.1));
  piece_or_none = λ section bytes. refused_or_block (block_refusal section bytes) section bytes refl;
  no_piece = λ section block more is are. are.1 (accepted section block more is);
  same_piece = same_block;
}

pub there_is_a_reading : (section : ByteOrder) (bytes : List ℕ) → Exist (IsBlockReading section bytes)
there_is_a_reading section bytes =
    let (pieces, rest, whole, are) = exists blocks section bytes in
    (pieces, rest, record { whole = whole; each = are.0; refused = are.1 })

pub there_is_one_reading : (section : ByteOrder) (bytes : List ℕ) → AreUnique (IsBlockReading section bytes)
there_is_one_reading section bytes a b x y one other =
    unique blocks section a b x y (one.each, one.refused) (other.each, other.refused) (sym one.whole ∙ other.whole)

pub blocks_before_cut : (section : ByteOrder) → RemainAtCut (IsBlockReading section) (λ _. AreBeforeCut)
blocks_before_cut section bytes all rest cut cut_blocks cut_rest reading cut_reading =
    before_cut blocks section cut all cut_blocks rest cut_rest (reading.each, reading.refused) (cut_reading.each, cut_reading.refused)
    (ap (take cut) (sym reading.whole) ∙ cut_reading.whole)
