-- The blocks of a pcapng file in memory, one after the other (draft-ietf-opsawg-pcapng, section 3.1).
use Rattle.std.specs.Prelude.{◌≡◌, ◌≢◌, ℕ, ◌-◌, List, [], ◌∷◌, length, Option, Some, None, Result, Ok, Err}
use Rattle.capture_file.specs.Pcapng.{ReadsBlock, block_refusal}
use Rattle.capture_numbers.specs.declared.byte_order.ByteOrder.{ByteOrder}
use Rattle.capture_file.specs.declared.pcapng.block.Block.{Block}
use Rattle.capture_file.specs.declared.pcapng.block.PlacedBlockError.{PlacedBlockError}

-- a partly read file: the byte order of the current section, the bytes that are left, and the length of the file
pub record UnreadFile : Type 0 where
  pub section : ByteOrder
  pub rest : List ℕ
  pub file_len : ℕ

-- the next item in a file: a block, or an error
abbrev pub BlockItem : Type 0
BlockItem = Result Block PlacedBlockError

-- A call of `next` changed the partly read file from `before` to `after`, and returned this item. The place of an error is the start of the
-- bytes that were left before the call.
abbrev pub GivesBlock : UnreadFile → Option BlockItem → UnreadFile → Type 0
GivesBlock before None after = (before.rest ≡ []) × (after ≡ before)
GivesBlock before (Some (Ok block)) after =
    (block_refusal before.section before.rest ≡ None) × ReadsBlock before.section before.rest block after.rest
    × (after.section ≡ block.header.byte_order) × (after.file_len ≡ before.file_len)
GivesBlock before (Some (Err error)) after =
    (before.rest ≢ []) × (block_refusal before.section before.rest ≡ Some error.error)
    × (error.offset ≡ before.file_len - length before.rest) × (after.rest ≡ [])

-- The items of some bytes: blocks, one after the other, up to the end or to an error. Each block has the byte order of its section. An
-- error states why the next bytes are not a block.
abbrev pub AreItems : ByteOrder → List ℕ → List BlockItem → Type 0
AreItems section bytes [] = bytes ≡ []
AreItems section bytes (Ok block ∷ items) =
    (rest : List ℕ) × (block_refusal section bytes ≡ None) × ReadsBlock section bytes block rest
    × AreItems block.header.byte_order rest items
AreItems section bytes (Err error ∷ items) =
    (bytes ≢ []) × (block_refusal section bytes ≡ Some error.error) × (items ≡ [])
