-- The facts of a capture, as text (draft-ietf-opsawg-pcap, section 4; draft-ietf-opsawg-pcapng, sections 4.1 and 4.2).
use Rattle.std.specs.Prelude.{ℕ, ◌+◌, List, [], ◌∷◌, ◌++◌, length, codes, decimal, slice_get, Option, Some, None}
use Rattle.capture_file.specs.Packets.{power_of_ten}
use Rattle.capture_numbers.specs.declared.byte_order.ByteOrder.{ByteOrder}
use Rattle.capture_numbers.specs.declared.byte_order.ByteOrder.TheVariants.{BigEndian, LittleEndian}
use Rattle.capture_file.specs.declared.classic.capture_header.CaptureHeader.{CaptureHeader}
use Rattle.capture_file.specs.declared.pcapng.interface_description.InterfaceDescription.{InterfaceDescription}
use Rattle.capture_file.specs.declared.pcapng.time_resolution.TimeResolution.{TimeResolution}
use Rattle.capture_file.specs.declared.pcapng.time_resolution.TimeResolution.TheVariants.{PowerOfTen, PowerOfTwo}
use Rattle.capture_file.specs.declared.reader.capture_reader.CaptureReader.{CaptureReader}
use Rattle.capture_file.specs.declared.reader.capture_reader.CaptureReader.TheVariants.{Classic, Pcapng}
use Rattle.capture_file.specs.declared.reader.pcapng_reader.PcapngReader.{PcapngReader}
use Rattle.capture_words.specs.TextsText.{interface_lines, texts_text}
use Rattle.capture_file.specs.declared.file_texts.FileTexts.{FileTexts}
use Rattle.capture_file.specs.declared.file_texts.InterfaceTexts.{InterfaceTexts}

-- the word for a byte order
abbrev pub byte_order_word : ByteOrder → List ℕ
byte_order_word BigEndian = codes "big-endian"
byte_order_word LittleEndian = codes "little-endian"

-- a unit of times in seconds, as a power of ten or of two
abbrev pub resolution_text : TimeResolution → List ℕ
resolution_text (PowerOfTen exponent) = codes "10^-" ++ (decimal exponent ++ codes " s")
resolution_text (PowerOfTwo exponent) = codes "2^-" ++ (decimal exponent ++ codes " s")

-- the text of two facts: the snap length, which is the maximum number of captured bytes of a packet, and the unit of the times
abbrev pub limits_text : ℕ → TimeResolution → List ℕ
limits_text snap_len resolution =
    codes ", snap length " ++ (decimal snap_len ++ (codes ", time resolution " ++ resolution_text resolution))

-- the line of a classic capture with this header
abbrev pub classic_text : CaptureHeader → List ℕ
classic_text header =
    codes "file type classic, byte order " ++ (byte_order_word header.byte_order
    ++ (limits_text header.snap_len (power_of_ten header.resolution) ++ codes "\n"))

-- the line of the interface with this number
abbrev pub interface_text : ℕ → InterfaceDescription → List ℕ
interface_text number interface =
    codes "interface " ++ (decimal number ++ (limits_text interface.snap_len interface.time_resolution ++ codes "\n"))

-- the line of the interface with this number, and the lines of its texts if `texts` contains them
abbrev pub described_text : List InterfaceTexts → ℕ → InterfaceDescription → List ℕ
described_text texts number interface = interface_text number interface ++ interface_lines number (slice_get texts number)

-- the lines of these interfaces, one after the other; the first interface has this number
abbrev pub interfaces_text : List InterfaceTexts → ℕ → List InterfaceDescription → List ℕ
interfaces_text texts number [] = []
interfaces_text texts number (interface ∷ interfaces) =
    described_text texts number interface ++ interfaces_text texts (number + 1) interfaces

-- the lines of a pcapng file: its byte order and the number of its interfaces, the texts of its section, and each interface with its texts
abbrev pub pcapng_text : List ℕ → FileTexts → List InterfaceDescription → List InterfaceTexts → List ℕ
pcapng_text order texts interfaces interface_texts =
    codes "file type pcapng, byte order " ++ (order ++ (codes ", interfaces " ++ (decimal (length interfaces)
    ++ (codes "\n" ++ (texts_text texts ++ interfaces_text interface_texts 0 interfaces)))))

-- the lines of the section that was read last from a pcapng file
abbrev pub section_text : PcapngReader → List ℕ
section_text reader =
    pcapng_text (byte_order_word reader.section.byte_order) reader.texts reader.section.interfaces.items reader.texts.interfaces.items

-- the lines of a capture; without a capture the text is empty
abbrev pub facts_text : Option CaptureReader → List ℕ
facts_text None = []
facts_text (Some (Classic reader)) = classic_text reader.header
facts_text (Some (Pcapng reader)) = section_text reader
