-- The lines of errors.
use Rattle.std.specs.Prelude.{◌≡◌, ◌++◌, ◌==◌, ◌/◌, ℕ, List, MatchOption, None, Option, Some, codes, decimal, if◌then◌else◌}
use Rattle.capture_file.specs.declared.classic.capture_header_error.CaptureHeaderError.{CaptureHeaderError}
use Rattle.capture_file.specs.declared.classic.capture_header_error.CaptureHeaderError.TheVariants.{Magic}
use Rattle.translator.specs.declared.capture_error.CaptureError.{CaptureError}
use Rattle.translator.specs.declared.capture_error.CaptureError.TheVariants.{Block, Header, Read, RecordCutOff, TooManyParts, Write}

-- ---- compressed captures

-- The command that decompresses a file whose first four bytes are this big-endian number. The files begin with these bytes:
--   gzip: 1F 8B (RFC 1952, section 2.3.1)
--   zstd: 28 B5 2F FD (RFC 8878, section 3.1.1)
abbrev pub decompressor : ℕ → Option (List ℕ)
decompressor magic =
    if magic / 65536 == 0x1F8B then Some (codes "gzip")
    else if magic == 0x28B52FFD then Some (codes "zstd")
    else None

-- the command that decompresses the capture, if the refused bytes are those of a compressed file
abbrev pub decompressor_of : CaptureHeaderError → Option (List ℕ)
decompressor_of (Magic magic) = decompressor magic
decompressor_of other = None

-- the text for a compressed capture
abbrev pub compressed_text : List ℕ → List ℕ
compressed_text command =
    codes "The capture is compressed, and is read by " ++ (command ++ codes " -dc FILE | translator OPTIONS.")

-- ---- texts

-- This is the text for a refused header. For a compressed capture it is `compressed_text`. Otherwise `capture_file` gives the text, and
-- nothing is stated about it.
abbrev pub IsHeaderText : CaptureHeaderError → List ℕ → Type 0
IsHeaderText error text = MatchOption (decompressor_of error) (Unit {0}) (λ command. text ≡ compressed_text command)

-- this is the text for a record that is cut off
abbrev pub cut_off_text : ℕ → ℕ → ℕ → List ℕ
cut_off_text offset required_len len =
    codes "At byte " ++ (decimal offset ++ (codes " of the file: The record has at least "
    ++ (decimal required_len ++ (codes " bytes, and " ++ (decimal len ++ codes " are left.")))))

-- this is the text if reading failed at this offset; it contains a text of the operating system, about which nothing is stated
abbrev pub IsReadText : ℕ → List ℕ → Type 0
IsReadText offset text =
    (cause : List ℕ) × (text ≡ codes "At byte " ++ (decimal offset ++ (codes " of the file: Reading failed: " ++ (cause ++ codes "."))))

-- this is the text if writing failed; it contains a text of the operating system, about which nothing is stated
abbrev pub IsWriteText : List ℕ → Type 0
IsWriteText text = (cause : List ℕ) × (text ≡ codes "Writing failed: " ++ (cause ++ codes "."))

-- This is the text of an error. For a block that is refused, `capture_file` gives the text, and nothing is stated about it.
abbrev pub IsErrorText : CaptureError → List ℕ → Type 0
IsErrorText (Header error) text = IsHeaderText error text
IsErrorText (RecordCutOff offset required_len len) text = text ≡ cut_off_text offset required_len len
IsErrorText (Block error) text = Unit {0}
IsErrorText (Read offset error) text = IsReadText offset text
IsErrorText TooManyParts text = text ≡ codes "No more records or blocks can be read."
IsErrorText (Write error) text = IsWriteText text

-- ---- lines

-- the start of the line of an error: the name of the program, and then the name of the capture if the capture has a name
abbrev pub line_start : Option (List ℕ) → List ℕ
line_start None = codes "translator: "
line_start (Some name) = codes "translator: " ++ (name ++ codes ": ")

-- the line for an error of a capture with this name
abbrev pub IsErrorLine : Option (List ℕ) → CaptureError → List ℕ → Type 0
IsErrorLine name error line = (text : List ℕ) × IsErrorText error text × (line ≡ line_start name ++ (text ++ codes "\n"))

-- the line for a capture that has this name and can't be opened
abbrev pub IsOpenErrorLine : List ℕ → List ℕ → Type 0
IsOpenErrorLine name line = (text : List ℕ) × (line ≡ codes "translator: " ++ (name ++ (codes ": " ++ (text ++ codes "\n"))))
