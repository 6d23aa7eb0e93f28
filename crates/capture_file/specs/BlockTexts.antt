-- The texts of a pcapng file, block by block (draft-ietf-opsawg-pcapng, sections 3.5, 4.1 and 4.2).
use Rattle.std.specs.Prelude.{ℕ, ◌-◌, List, slice_range, Option, Some}
use Rattle.capture_numbers.specs.Blocks.{body_at, trailer_len}
use Rattle.capture_file.specs.declared.pcapng.block.BlockHeader.{BlockHeader}
use Rattle.capture_file.specs.declared.pcapng.read.NextBlock.{NextBlock}
use Rattle.capture_file.specs.declared.pcapng.read.NextBlock.TheVariants.{Whole}
use Rattle.capture_file.specs.declared.reader.next_packet.NextPacket.{NextPacket}
use Rattle.capture_file.specs.declared.reader.next_packet.NextPacket.TheVariants.{Refused}
use Rattle.capture_file.specs.Texts.{texts_after}
use Rattle.capture_file.specs.declared.file_texts.FileTexts.{FileTexts}

-- the texts of the file after a block with this header and body
abbrev pub texts_with : BlockHeader → List ℕ → FileTexts → FileTexts
texts_with header body before = texts_after header.byte_order header.block_type body before

-- the texts after a block: `before` if the block is refused, otherwise `after`
abbrev pub unless_refused : Option NextPacket → FileTexts → FileTexts → FileTexts
unless_refused (Some (Refused error)) before after = before
unless_refused next before after = after

-- The texts of the file after a block was read. `next` is the packet in the block, the error that refuses the block, or `None`. A block
-- that is refused or is longer than the buffer changes no text.
abbrev pub noted : NextBlock → List ℕ → Option NextPacket → FileTexts → FileTexts
noted (Whole header) buffer next before =
    unless_refused next before (texts_with header (slice_range buffer body_at (header.total_len - trailer_len)) before)
noted block buffer next before = before
