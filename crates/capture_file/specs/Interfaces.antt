-- The interface of a packet in a section with several interfaces (draft-ietf-opsawg-pcapng, sections 4.2 and 4.3).
use Rattle.std.specs.Prelude.{◌≡◌, ℕ, nat_lt, if◌then◌else◌, List, [], drop, length, map, slice_get, take, Option, Some, None, unwrap_or}
use Rattle.std.specs.Option.{option_map}
use Rattle.net_base.specs.Bytes.{IsBytes}
use Rattle.capture_numbers.specs.Blocks.{interface_description_len}
use Rattle.capture_file.specs.Texts.{interface_texts, kept_text, max_interfaces_with_texts, no_statistics}
use Rattle.capture_numbers.specs.declared.byte_order.ByteOrder.{ByteOrder}
use Rattle.capture_file.specs.declared.file_texts.InterfaceTexts.{InterfaceTexts}
use Rattle.capture_file.specs.declared.kept_text.KeptText.{KeptText}
use Rattle.capture_file.specs.CapturePackets.{Begins, FilePacket, ReadsPackets}
use Rattle.capture_file.specs.PcapngBodies.{interface_description}
use Rattle.capture_file.specs.declared.pcapng.interface_description.InterfaceDescription.{InterfaceDescription}
use Rattle.capture_file.specs.declared.reader.capture_reader.CaptureReader.{CaptureReader}
use Rattle.capture_file.specs.declared.reader.capture_reader.CaptureReader.TheVariants.{Classic, Pcapng}
use Rattle.capture_file.specs.declared.reader.packet_interface.PacketInterface.{PacketInterface}
use Rattle.capture_file.specs.declared.reader.pcapng_reader.PcapngReader.{PcapngReader}

-- the name of the interface with this number; the name is empty if the interface has no name, or if `texts` does not contain its texts
abbrev pub name_in : List InterfaceTexts → ℕ → KeptText
name_in texts number = unwrap_or (option_map (λ texts. texts.name) (slice_get texts number)) (kept_text [])

-- The interface with this number. `None` if the section that is read describes only one interface so far.
abbrev pub interface_in : PcapngReader → ℕ → Option PacketInterface
interface_in reader number =
    if nat_lt 1 (length reader.section.interfaces.items)
    then Some (record { number = number; name = name_in reader.texts.interfaces.items number })
    else None

-- The interface of a packet that was read last, given the number of the interface. `None` if the packet has no interface number, or if its
-- section describes only one interface so far.
abbrev pub interface_of : CaptureReader → Option ℕ → Option PacketInterface
interface_of (Pcapng reader) (Some number) = interface_in reader number
interface_of reader number = None

-- ---- the law

-- an interface description block: its byte order and its body
abbrev pub Description : Type 0
Description = ByteOrder × List ℕ

-- the interface that a block describes
abbrev pub description_of : Description → InterfaceDescription
description_of block = interface_description block.0 block.1

-- the texts of an interface without its statistics, which come from other blocks
abbrev pub without_statistics : InterfaceTexts → InterfaceTexts
without_statistics texts = record texts { statistics = no_statistics }

-- the texts of the interface that a block describes
abbrev pub texts_of : Description → InterfaceTexts
texts_of block = interface_texts block.0 (drop interface_description_len block.1)

-- These blocks describe the interfaces of the section that is read. The texts that the reader keeps are the texts of the first of these
-- blocks.
pub record AreDescribed (reader : PcapngReader) (blocks : List Description) : Type 0 where
  pub interfaces : reader.section.interfaces.items ≡ map description_of blocks
  pub texts : map without_statistics reader.texts.interfaces.items ≡ take max_interfaces_with_texts (map texts_of blocks)

-- Each interface of the section that is read and the texts with its number come from the same block.
abbrev pub HasOwnTexts : CaptureReader → Type 0
HasOwnTexts (Classic reader) = Unit {0}
HasOwnTexts (Pcapng reader) = (blocks : List Description) × AreDescribed reader blocks

-- At the beginning of a file and after each packet, each interface and the texts with its number come from the same block.
pub record KeepsOwnTexts (room : ℕ) : Type 0 where
  pub begins : (reader : CaptureReader) (file rest : List ℕ) → IsBytes file → Begins room reader file rest → HasOwnTexts reader
  pub packets : (reader after : CaptureReader) (left still_left : Option (List ℕ)) (packets : List FilePacket) → HasOwnTexts reader
      → ReadsPackets room reader left still_left after packets → HasOwnTexts after
