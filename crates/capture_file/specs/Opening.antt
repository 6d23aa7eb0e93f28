-- Opening a capture. A classic capture begins with its header (draft-ietf-opsawg-pcap, section 4). A pcapng file begins with a section
-- header block (draft-ietf-opsawg-pcapng, section 4.1).
use Rattle.std.specs.Prelude.{◌≡◌, ◌≢◌, ℕ, ◌-◌, ◌<◌, ◌≤◌, true, List, [], ◌++◌, length, slice_range, Option, Some, None, Result, Ok, Err}
use Rattle.std.specs.Io.KnownBytes.{Consumes, IsAtEnd}
use Rattle.capture_numbers.specs.Blocks.{body_at, min_block_len, trailer_len}
use Rattle.capture_file.specs.BlockTexts.{texts_with}
use Rattle.capture_file.specs.Classic.{IsHeaderOf, capture_header_len, header_refusal}
use Rattle.capture_file.specs.Packets.{begins_records}
use Rattle.capture_file.specs.Pcapng.{is_section_header}
use Rattle.capture_file.specs.PcapngBodies.{section_header_refusal}
use Rattle.capture_file.specs.PcapngReading.{ReadsAfter, ReadsNextBlock}
use Rattle.capture_file.specs.Reading.{ReadsHeader}
use Rattle.capture_numbers.specs.declared.byte_order.ByteOrder.TheVariants.{BigEndian}
use Rattle.capture_file.specs.declared.classic.capture_header.CaptureHeader.{CaptureHeader}
use Rattle.capture_file.specs.declared.classic.capture_header_error.CaptureHeaderError.{CaptureHeaderError}
use Rattle.capture_file.specs.declared.classic.capture_header_error.CaptureHeaderError.TheVariants as header_errors
use Rattle.capture_file.specs.declared.pcapng.errors.BlockError.TheVariants.{CutOff}
use Rattle.capture_file.specs.declared.pcapng.block.BlockHeader.{BlockHeader}
use Rattle.capture_file.specs.declared.pcapng.errors.BodyError.{BodyError}
use Rattle.capture_file.specs.declared.pcapng.read.NextBlock.{NextBlock}
use Rattle.capture_file.specs.declared.pcapng.read.NextBlock.TheVariants as blocks
use Rattle.capture_file.specs.declared.reader.capture_reader.CaptureReader.{CaptureReader}
use Rattle.capture_file.specs.declared.reader.capture_reader.CaptureReader.TheVariants as readers
use Rattle.capture_file.specs.declared.reader.open_error.OpenError.{OpenError}
use Rattle.capture_file.specs.declared.reader.open_error.OpenError.TheVariants as refusals
use Rattle.capture_file.specs.declared.reader.packet_error.PacketError.{PacketError}
use Rattle.capture_file.specs.declared.reader.packet_error.PacketError.TheVariants as errors
use Rattle.capture_file.specs.declared.reader.pcapng_reader.PcapngReader.{PcapngReader}
use Rattle.capture_file.specs.Texts.{no_texts}

-- ---- a pcapng file

-- The reader after the section header block at the start of a file. The block has this header and this body. The section has no interface
-- yet, and the texts of the reader are the texts of the block.
pub record BeginsFile (header : BlockHeader) (body : List ℕ) (reader : PcapngReader) : Type 0 where
  pub byte_order : reader.section.byte_order ≡ header.byte_order
  pub interfaces : reader.section.interfaces.items ≡ []
  pub offset : reader.offset ≡ header.total_len
  pub texts : reader.texts ≡ texts_with header body no_texts

-- the result of a section header block at the start of a file: the reader after the block, or the error that refuses the block's body
abbrev pub BeginsUnless : Option BodyError → BlockHeader → List ℕ → Result PcapngReader PacketError → Type 0
BeginsUnless None header body result = (reader : PcapngReader) × (result ≡ Ok reader) × BeginsFile header body reader
BeginsUnless (Some error) header body result = result ≡ Err (errors.Body error)

-- The result of opening a pcapng file after its first block was read: the reader, or the error that refuses the block. A block that fits in
-- the buffer is at the front of the buffer.
abbrev pub IsFirstBlock : List ℕ → NextBlock → Result PcapngReader PacketError → Type 0
IsFirstBlock buffer (blocks.Whole header) result =
    let body = slice_range buffer body_at (header.total_len - trailer_len) in
    BeginsUnless (section_header_refusal header.byte_order body) header body result
IsFirstBlock buffer (blocks.TooLong header) result = result ≡ Err (errors.TooLong header.block_type header.total_len)
IsFirstBlock buffer blocks.End result = result ≡ Err (errors.Block (CutOff min_block_len 0))
IsFirstBlock buffer (blocks.Refused error) result = result ≡ Err (errors.Block error)

-- the rest of the first block was read; the first bytes of this block, `first`, were already read before
pub record ReadsRestOfBlock (first : List ℕ) (left still_left : Option (List ℕ)) (buffer : List ℕ)
    (result : Result PcapngReader PacketError) : Type 0 where
  pub block : NextBlock
  pub reads : ReadsAfter BigEndian first left still_left buffer block
  pub is_first : IsFirstBlock buffer block result

-- The first block of a file was read. The block begins with the type of a section header block. This type is the same number in both byte
-- orders.
pub record ReadsFirstBlock (left still_left : Option (List ℕ)) (buffer : List ℕ) (result : Result PcapngReader PacketError) : Type 0 where
  pub block : NextBlock
  pub reads : ReadsNextBlock BigEndian left still_left buffer block
  pub begins : is_section_header reads.bytes ≡ true
  pub is_first : IsFirstBlock buffer block result

-- ---- a classic capture

-- The header in these bytes, or the error that refuses the bytes. An accepted header has exactly 24 bytes.
abbrev pub SaysHeader : List ℕ → Result CaptureHeader CaptureHeaderError → Type 0
SaysHeader bytes (Ok header) = (length bytes ≡ capture_header_len) × (header_refusal bytes ≡ None) × IsHeaderOf bytes header
SaysHeader bytes (Err error) = header_refusal bytes ≡ Some error

-- The rest of the header was read. The first bytes of the header, `first`, were already read before. If `first` has fewer than 12 bytes,
-- the input is at its end, and no other bytes were read.
pub record ReadsRestOfHeader (first : List ℕ) (left still_left : Option (List ℕ))
    (result : Result CaptureHeader CaptureHeaderError) : Type 0 where
  pub bytes : List ℕ
  pub consumed : Consumes left still_left bytes
  pub within : length (first ++ bytes) ≤ capture_header_len
  pub end : length (first ++ bytes) < capture_header_len → IsAtEnd still_left
  pub none_after : length first < min_block_len → bytes ≡ []
  pub says : SaysHeader (first ++ bytes) result

-- ---- a capture of either format

-- The beginning of a capture was read. If the first bytes are the type of a section header block, the beginning is the first block of a
-- pcapng file. Otherwise the beginning is the header of a classic capture.
abbrev pub ReadsBeginning : Option (List ℕ) → Option (List ℕ) → List ℕ → Result CaptureReader OpenError → Type 0
ReadsBeginning left still_left buffer (Ok (readers.Classic reader)) =
    ReadsHeader left still_left (Ok reader.header) × (reader ≡ begins_records reader.header)
ReadsBeginning left still_left buffer (Ok (readers.Pcapng reader)) = ReadsFirstBlock left still_left buffer (Ok reader)
ReadsBeginning left still_left buffer (Err (refusals.Classic error)) =
    ReadsHeader left still_left (Err error) × (error ≢ header_errors.Pcapng)
ReadsBeginning left still_left buffer (Err (refusals.Pcapng error)) = ReadsFirstBlock left still_left buffer (Err error)
