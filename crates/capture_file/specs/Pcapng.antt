-- The blocks of a pcapng file (draft-ietf-opsawg-pcapng, sections 3.1 and 4.1), and the division of a file into blocks.
use Rattle.std.specs.Prelude.{◌≡◌, ◌≢◌, ℕ, ◌-◌, ◌%◌, ◌≤◌, ◌==◌, Bool, false, not, ◌&&◌, if◌then◌else◌, is_none, nat_le, nat_lt, List, [], ◌∷◌, ◌++◌, drop, length, slice_range, Option, Some, None, unwrap_or, ◌+◌}
use Rattle.std.specs.List.{concat}
use Rattle.net_base.specs.Bytes.{be_number}
use Rattle.net_base.specs.Refusals.{first_of, refused_if}
use Rattle.capture_numbers.specs.Blocks.{body_at, min_block_len, section_header_len, section_header_type, trailer_len}
use Rattle.capture_numbers.specs.Numbers.{number_at}
use Rattle.capture_numbers.specs.declared.byte_order.ByteOrder.{ByteOrder}
use Rattle.capture_numbers.specs.declared.byte_order.ByteOrder.TheVariants.{BigEndian, LittleEndian}
use Rattle.capture_file.specs.declared.pcapng.block.Block.{Block}
use Rattle.capture_file.specs.declared.pcapng.errors.BlockError.{BlockError}
use Rattle.capture_file.specs.declared.pcapng.errors.BlockError.TheVariants.{CutOff, LastLength, Magic, SectionLength, TotalLength}
use Rattle.capture_file.specs.declared.pcapng.block.BlockHeader.{BlockHeader}

-- ---- the byte order of a block

-- the bytes begin with the type of a section header block; this type is the same number in both byte orders (section 4.1)
abbrev pub is_section_header : List ℕ → Bool
is_section_header bytes = be_number bytes 0 4 == section_header_type

-- the byte-order magic (section 4.1)
abbrev pub byte_order_magic : ℕ
byte_order_magic = 0x1A2B3C4D

-- The byte order in which bytes 8 to 11 of a section header block are the byte-order magic. `None` if these bytes are not the magic in
-- either byte order.
abbrev pub order_by_magic : List ℕ → Option ByteOrder
order_by_magic bytes =
    if number_at BigEndian bytes 8 == byte_order_magic then Some BigEndian
    else if number_at LittleEndian bytes 8 == byte_order_magic then Some LittleEndian
    else None

-- the bytes begin a section header block, but bytes 8 to 11 are not the byte-order magic
abbrev pub lacks_magic : List ℕ → Bool
lacks_magic bytes = is_section_header bytes && is_none (order_by_magic bytes)

-- The byte order of a block in a section with this byte order. A section header block begins a section, and states its own byte order.
abbrev pub order_of : ByteOrder → List ℕ → ByteOrder
order_of section bytes = if is_section_header bytes then unwrap_or (order_by_magic bytes) section else section

-- ---- a block (section 3.1): type, total length, body, and total length again

-- this number is the length of a block: at least 12, and a multiple of 4
abbrev pub is_block_len : ℕ → Bool
is_block_len len = nat_le min_block_len len && len % 4 == 0

-- the length of the block at the front of these bytes, as bytes 4 to 7 of the block state it
abbrev pub block_len : ByteOrder → List ℕ → ℕ
block_len section bytes = number_at (order_of section bytes) bytes 4

-- the number in the last four bytes of a block of this length
abbrev pub last_len : ByteOrder → List ℕ → ℕ → ℕ
last_len section bytes len = number_at (order_of section bytes) bytes (len - trailer_len)

-- the header that these first bytes of a block contain
abbrev pub block_header : ByteOrder → List ℕ → BlockHeader
block_header section bytes = record {
  byte_order = order_of section bytes;
  block_type = number_at (order_of section bytes) bytes 0;
  total_len = block_len section bytes;
}

-- the bytes begin a section header block that is too short for its fields (section 4.1)
abbrev pub is_short_section : ByteOrder → List ℕ → Bool
is_short_section section bytes = is_section_header bytes && nat_lt (block_len section bytes) (min_block_len + section_header_len)

-- The error that refuses the header of a block, if there is one. The header is the first 12 bytes of the block. If several errors apply,
-- the first one counts.
abbrev pub block_header_refusal : ByteOrder → List ℕ → Option BlockError
block_header_refusal section bytes = first_of (
    refused_if (nat_lt (length bytes) min_block_len) (CutOff min_block_len (length bytes))
    ∷ refused_if (lacks_magic bytes) (Magic (be_number bytes 8 4))
    ∷ refused_if (not (is_block_len (block_len section bytes))) (TotalLength (block_len section bytes))
    ∷ refused_if (is_short_section section bytes) (SectionLength (block_len section bytes))
    ∷ [])

-- The error that refuses a block, if there is one. If several errors apply, the first one counts. The last check is that both total lengths
-- of the block are equal.
abbrev pub block_refusal : ByteOrder → List ℕ → Option BlockError
block_refusal section bytes =
    let len = block_len section bytes in
    first_of (
    block_header_refusal section bytes
    ∷ refused_if (nat_lt (length bytes) len) (CutOff len (length bytes))
    ∷ refused_if (not (last_len section bytes len == len)) (LastLength len (last_len section bytes len))
    ∷ [])

-- the block at the front of these bytes, and the bytes after it
pub record ReadsBlock (section : ByteOrder) (bytes : List ℕ) (block : Block) (rest : List ℕ) : Type 0 where
  pub header : block.header ≡ block_header section bytes
  pub body : block.body.now ≡ slice_range bytes body_at (block_len section bytes - trailer_len)
  pub rest_is : rest ≡ drop (block_len section bytes) bytes

-- ---- a file as a list of blocks

-- the bytes are exactly one block, in a section with this byte order
pub record IsBlock (section : ByteOrder) (bytes : List ℕ) : Type 0 where
  pub has_order : lacks_magic bytes ≡ false
  pub shortest : min_block_len ≤ length bytes
  pub words : length bytes % 4 ≡ 0
  pub has_fields : is_short_section section bytes ≡ false
  pub begins : block_len section bytes ≡ length bytes
  pub ends : last_len section bytes (length bytes) ≡ length bytes

-- these are blocks, one after the other; a section header block states the byte order of itself and of the blocks after it
abbrev pub AreBlocks : ByteOrder → List (List ℕ) → Type 0
AreBlocks section [] = Unit {0}
AreBlocks section (block ∷ blocks) = IsBlock section block × AreBlocks (order_of section block) blocks

-- the byte order of the section after these blocks
abbrev pub order_after : ByteOrder → List (List ℕ) → ByteOrder
order_after section [] = section
order_after section (block ∷ blocks) = order_after (order_of section block) blocks

-- The bytes consist of these blocks, one after the other, and a rest that is refused as a block.
pub record IsBlockReading (section : ByteOrder) (bytes : List ℕ) (blocks : List (List ℕ)) (rest : List ℕ) : Type 0 where
  pub whole : bytes ≡ concat blocks ++ rest
  pub each : AreBlocks section blocks
  pub refused : block_refusal (order_after section blocks) rest ≢ None
