-- Reading the next block of a pcapng file from a stream. The statements compare the bytes that are left before and after the read.
use Rattle.std.specs.Prelude.{◌≡◌, ◌≢◌, ℕ, ◌%◌, ◌<◌, ◌≤◌, List, [], ◌++◌, length, take, Option, Some, None}
use Rattle.std.specs.Io.KnownBytes.{Consumes, IsAtEnd}
use Rattle.capture_numbers.specs.Blocks.{min_block_len}
use Rattle.capture_file.specs.Pcapng.{IsBlock, block_header, block_header_refusal, block_refusal}
use Rattle.capture_numbers.specs.declared.byte_order.ByteOrder.{ByteOrder}
use Rattle.capture_file.specs.declared.pcapng.block.BlockHeader.{BlockHeader}
use Rattle.capture_file.specs.declared.pcapng.errors.BlockError.TheVariants.{CutOff}
use Rattle.capture_file.specs.declared.pcapng.read.NextBlock.{NextBlock}
use Rattle.capture_file.specs.declared.pcapng.read.NextBlock.TheVariants.{End, Refused, TooLong, Whole}

-- The bytes that were read determine the next item. The item is a block at the front of the buffer, or a block that is longer than the
-- buffer. If no bytes were read, the item is the end of the input. If the bytes are refused as a block, the item is the error.
abbrev pub IsNextBlock : ByteOrder → List ℕ → List ℕ → NextBlock → Type 0
IsNextBlock section bytes buffer (Whole header) =
    IsBlock section bytes × (header ≡ block_header section bytes) × (header.total_len ≤ length buffer)
    × (take header.total_len buffer ≡ bytes)
IsNextBlock section bytes buffer (TooLong header) =
    IsBlock section bytes × (header ≡ block_header section bytes) × (length buffer < header.total_len)
IsNextBlock section bytes buffer End = bytes ≡ []
IsNextBlock section bytes buffer (Refused error) = (bytes ≢ []) × (block_refusal section bytes ≡ Some error)

-- if the next item is the end of the file or a block that is cut off, the input is at its end
abbrev pub IsLastBlock : NextBlock → Option (List ℕ) → Type 0
IsLastBlock End still_left = IsAtEnd still_left
IsLastBlock (Refused (CutOff required len)) still_left = IsAtEnd still_left
IsLastBlock other still_left = Unit {0}

-- `bytes` were read after `first`, the first bytes of a block; `first` and `bytes` together determine the next item
pub record ReadsAfter (section : ByteOrder) (first : List ℕ) (left still_left : Option (List ℕ)) (buffer : List ℕ)
    (next : NextBlock) : Type 0 where
  pub bytes : List ℕ
  pub consumed : Consumes left still_left bytes
  pub is_next : IsNextBlock section (first ++ bytes) buffer next
  pub is_last : IsLastBlock next still_left

-- the bytes between `left` and `still_left` were read, and they determine the next item
abbrev pub ReadsNextBlock : ByteOrder → Option (List ℕ) → Option (List ℕ) → List ℕ → NextBlock → Type 0
ReadsNextBlock section left still_left buffer next = ReadsAfter section [] left still_left buffer next

-- Reading failed within a block. The first bytes of the block, `first`, were read before. `first` and the bytes that were read now are only
-- a part of the block.
pub record FailsAfter (section : ByteOrder) (first : List ℕ) (left still_left : Option (List ℕ)) : Type 0 where
  pub bytes : List ℕ
  pub consumed : Consumes left still_left bytes
  pub required : ℕ
  pub cut_off : block_refusal section (first ++ bytes) ≡ Some (CutOff required (length (first ++ bytes)))

-- reading failed within the next block
abbrev pub FailsInBlock : ByteOrder → Option (List ℕ) → Option (List ℕ) → Type 0
FailsInBlock section left still_left = FailsAfter section [] left still_left

-- the first bytes of a block or of a capture were read: 12 bytes, or fewer if the input has fewer
abbrev pub AreFirst : List ℕ → Option (List ℕ) → Type 0
AreFirst first left = (length first ≤ min_block_len) × (length first < min_block_len → IsAtEnd left)

-- these are the first 12 bytes of a block, and its header is accepted
pub record BeginsBlock (section : ByteOrder) (first : List ℕ) (header : BlockHeader) : Type 0 where
  pub has_len : length first ≡ min_block_len
  pub accepted : block_header_refusal section first ≡ None
  pub is_header : header ≡ block_header section first
  pub len : (min_block_len ≤ header.total_len) × (header.total_len % 4 ≡ 0)
