-- The head of the next piece of a pcapng file: what the reader needs of the blocks before.
use Rattle.std.specs.Prelude.{◌≡◌, ◌≢◌, ◌≤◌, ◌⊎◌, ℕ, zero, suc, ◌-◌, ◌==◌, if◌then◌else◌, List, [], ◌++◌, length, take, None}
use Rattle.capture_file.specs.Pcapng.{ReadsBlock, block_refusal}
use Rattle.capture_numbers.specs.Blocks.{interface_description_type, section_header_type}
use Rattle.capture_numbers.specs.declared.byte_order.ByteOrder.{ByteOrder}
use Rattle.capture_numbers.specs.declared.byte_order.ByteOrder.TheVariants.{BigEndian}
use Rattle.capture_file.specs.declared.pcapng.block.Block.{Block}

-- the head after a block of this type, which consists of these bytes
abbrev pub with_block : ℕ → List ℕ → List ℕ → List ℕ
with_block type bytes head =
    if type == section_header_type then bytes else if type == interface_description_type then head ++ bytes else head

-- The bytes begin with `count` blocks, and do not go on with another block. `head` is the head after these blocks, and `before` is the head
-- before them.
abbrev pub IsHeadAfter : ℕ → ByteOrder → List ℕ → List ℕ → List ℕ → Type 0
IsHeadAfter zero section bytes before head = (block_refusal section bytes ≢ None) × (head ≡ before)
IsHeadAfter (suc count) section bytes before head =
    (block : Block) × (rest : List ℕ) × (block_refusal section bytes ≡ None) × ReadsBlock section bytes block rest
    × IsHeadAfter count block.header.byte_order rest
    (with_block block.header.block_type (take (length bytes - length rest) bytes) before) head

-- this is the head of the piece after a piece of a pcapng file
abbrev pub IsHead : ByteOrder → List ℕ → List ℕ → Type 0
IsHead section piece head = (count : ℕ) × IsHeadAfter count section piece [] head

-- a call wrote the head to the front of `buffer` and returned its length, or it returned 0
abbrev pub HasHead : List ℕ → List ℕ → ℕ → Type 0
HasHead piece buffer len = ((len ≤ length buffer) × IsHead BigEndian piece (take len buffer)) ⊎ (len ≡ 0)
