-- Compressed files, recognised by their first bytes.
use Rattle.std.specs.Prelude.{ℕ, ◌==◌, ◌&&◌, ◌/◌, nat_le, if◌then◌else◌, List, codes, Option, Some, None}
use Rattle.capture_request.specs.declared.compression.Compression.{Compression}
use Rattle.capture_request.specs.declared.compression.Compression.TheVariants.{Bzip2, Compress, Gzip, Lz4, Xz, Zstandard}
use Rattle.capture_request.specs.declared.capture_error.CaptureError.{CaptureError}
use Rattle.capture_request.specs.declared.capture_error.CaptureError.TheVariants.{Header}
use Rattle.capture_file.specs.declared.reader.open_error.OpenError.TheVariants as refusals
use Rattle.capture_file.specs.declared.classic.capture_header_error.CaptureHeaderError.TheVariants.{Magic}

-- The compression of a file whose first four bytes are this big-endian number. The files begin with these bytes:
--   gzip: 1F 8B (RFC 1952, section 2.3.1)
--   compress: 1F 9D
--   zstd: 28 B5 2F FD (RFC 8878, section 3.1.1)
--   xz: FD 37 7A 58 5A 00 (the .xz file format, section 2.1.1.1)
--   lz4: 04 22 4D 18 (LZ4 frame format)
--   bzip2: 42 5A 68, and a digit from 1 to 9, which is 31 to 39
abbrev pub compression_with : ℕ → Option Compression
compression_with magic =
    if magic / 65536 == 0x1F8B then Some Gzip
    else if magic / 65536 == 0x1F9D then Some Compress
    else if magic == 0x28B52FFD then Some Zstandard
    else if magic == 0xFD377A58 then Some Xz
    else if magic == 0x04224D18 then Some Lz4
    else if nat_le 0x425A6831 magic && nat_le magic 0x425A6839 then Some Bzip2
    else None

-- the name of the command that decompresses the file
abbrev pub compression_name : Compression → List ℕ
compression_name Gzip = codes "gzip"
compression_name Compress = codes "gzip"
compression_name Zstandard = codes "zstd"
compression_name Xz = codes "xz"
compression_name Bzip2 = codes "bzip2"
compression_name Lz4 = codes "lz4"

-- the compression of the input, if the error contains the first bytes of a compressed file
abbrev pub compression_of : CaptureError → Option Compression
compression_of (Header (refusals.Classic (Magic magic))) = compression_with magic
compression_of other = None
