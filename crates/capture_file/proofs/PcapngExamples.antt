-- Worked examples of blocks of pcapng files, so that a wrong definition fails before any code does.
use Rattle.std.proofs.Common.{◌≡◌, ℕ, List, [], ◌∷◌, ◌++◌, None, Some, arith, refl, replicate}
use Rattle.std.specs.Prelude.{Ok, pos}
use Rattle.ip_part.specs.Options.{options_within}
use Rattle.capture_file.specs.CapturePackets.{FilePacket, kept, too_long}
use Rattle.capture_file.specs.PacketsOfBlocks.{packets_of_blocks}
use Rattle.capture_file.specs.Pcapng.{IsBlock, IsBlockReading, block_len, block_refusal, order_of}
use Rattle.capture_file.specs.PcapngBodies.{interface_description, section_header_refusal}
use Rattle.capture_file.specs.PcapngPackets.{simple_end, timed_refusal}
use Rattle.capture_file.specs.PcapngSteps.{refused_at}
use Rattle.capture_numbers.specs.declared.byte_order.ByteOrder.TheVariants.{BigEndian, LittleEndian}
use Rattle.capture_file.specs.declared.pcapng.errors.BlockError.TheVariants.{CutOff, LastLength, Magic, SectionLength, TotalLength}
use Rattle.capture_numbers.specs.declared.link_type.LinkType.TheVariants.{Ethernet}
use Rattle.capture_file.specs.declared.pcapng.errors.BodyError.TheVariants.{Interface, Version}
use Rattle.capture_file.specs.declared.pcapng.time_resolution.TimeResolution.TheVariants.{PowerOfTen, PowerOfTwo}
use Rattle.capture_file.specs.declared.reader.next_packet.NextPacket.TheVariants as packets
use Rattle.capture_file.specs.declared.reader.packet_error.PacketError.TheVariants as errors

-- a section header block of version 1.0 without a stated length, as written by a little-endian machine
abbrev section : List ℕ
section =
    10 ∷ 13 ∷ 13 ∷ 10 ∷ 28 ∷ 0 ∷ 0 ∷ 0 ∷ 77 ∷ 60 ∷ 43 ∷ 26 ∷ 1 ∷ 0 ∷ 0 ∷ 0 ∷ (replicate 8 255 ++ 28 ∷ 0 ∷ 0 ∷ 0 ∷ [])

section_is_little_endian : order_of BigEndian section ≡ LittleEndian
section_is_little_endian = refl

section_is_block : IsBlock BigEndian section
section_is_block = record { has_order = refl; shortest = omega arith; words = refl; has_fields = refl; begins = refl; ends = refl }

section_is_read : block_refusal BigEndian (section ++ 1 ∷ []) ≡ None
section_is_read = refl

big_endian_section : order_of LittleEndian (10 ∷ 13 ∷ 13 ∷ 10 ∷ 0 ∷ 0 ∷ 0 ∷ 28 ∷ 26 ∷ 43 ∷ 60 ∷ 77 ∷ []) ≡ BigEndian
big_endian_section = refl

section_without_magic : block_refusal LittleEndian (10 ∷ 13 ∷ 13 ∷ 10 ∷ 28 ∷ 0 ∷ 0 ∷ 0 ∷ replicate 4 0) ≡ Some (Magic 0)
section_without_magic = refl

-- a section header block of 12 bytes: its byte-order magic is where the last total length would be
section_of_twelve : block_refusal BigEndian (10 ∷ 13 ∷ 13 ∷ 10 ∷ 0 ∷ 0 ∷ 0 ∷ 12 ∷ 26 ∷ 43 ∷ 60 ∷ 77 ∷ []) ≡ Some (SectionLength 12)
section_of_twelve = refl

section_of_24 : block_refusal BigEndian (10 ∷ 13 ∷ 13 ∷ 10 ∷ 24 ∷ 0 ∷ 0 ∷ 0 ∷ 77 ∷ 60 ∷ 43 ∷ 26 ∷ replicate 12 0) ≡ Some (SectionLength 24)
section_of_24 = refl

-- a block of another type without a body is in the byte order of its section
abbrev empty_block : List ℕ
empty_block = 173 ∷ 11 ∷ 0 ∷ 0 ∷ 12 ∷ 0 ∷ 0 ∷ 0 ∷ 12 ∷ 0 ∷ 0 ∷ 0 ∷ []

empty_is_block : IsBlock LittleEndian empty_block
empty_is_block = record { has_order = refl; shortest = omega arith; words = refl; has_fields = refl; begins = refl; ends = refl }

other_order : block_len BigEndian empty_block ≡ 201326592
other_order = refl

no_byte : block_refusal LittleEndian [] ≡ Some (CutOff 12 0)
no_byte = refl

below_twelve : block_refusal LittleEndian (1 ∷ 0 ∷ 0 ∷ 0 ∷ 8 ∷ 0 ∷ 0 ∷ 0 ∷ 8 ∷ 0 ∷ 0 ∷ 0 ∷ []) ≡ Some (TotalLength 8)
below_twelve = refl

no_multiple_of_four : block_refusal LittleEndian (1 ∷ 0 ∷ 0 ∷ 0 ∷ 14 ∷ 0 ∷ 0 ∷ 0 ∷ replicate 6 0) ≡ Some (TotalLength 14)
no_multiple_of_four = refl

cut_off : block_refusal LittleEndian (1 ∷ 0 ∷ 0 ∷ 0 ∷ 16 ∷ 0 ∷ 0 ∷ 0 ∷ replicate 7 0) ≡ Some (CutOff 16 15)
cut_off = refl

lengths_differ : block_refusal LittleEndian (1 ∷ 0 ∷ 0 ∷ 0 ∷ 16 ∷ 0 ∷ 0 ∷ 0 ∷ (replicate 4 0 ++ 20 ∷ 0 ∷ 0 ∷ 0 ∷ []))
    ≡ Some (LastLength 16 20)
lengths_differ = refl

-- ---- bodies

other_version : section_header_refusal LittleEndian (replicate 4 0 ++ 2 ∷ 0 ∷ 3 ∷ 0 ∷ replicate 8 0) ≡ Some (Version 2 3)
other_version = refl

-- link type 1, snap length 262,144, a comment of five bytes, a resolution of 2^-10 seconds, and the end of the options
abbrev interface_body : List ℕ
interface_body =
    1 ∷ 0 ∷ 0 ∷ 0 ∷ 0 ∷ 0 ∷ 4 ∷ 0 ∷ 1 ∷ 0 ∷ 5 ∷ 0 ∷ 104 ∷ 101 ∷ 108 ∷ 108 ∷ 111 ∷ 0 ∷ 0 ∷ 0 ∷ 9 ∷ 0 ∷ 1 ∷ 0 ∷ 138 ∷ replicate 7 0

its_interface : interface_description LittleEndian interface_body
    ≡ record { link_type = 1; snap_len = 262144; time_resolution = PowerOfTwo 10; time_offset = pos 0 }
unfolding options_within
its_interface = refl

missing_interface : timed_refusal LittleEndian 1 1 (replicate 20 0) ≡ Some (Interface 1 1)
missing_interface = refl

snap_length_of_two : simple_end LittleEndian 2 (3 ∷ 0 ∷ 0 ∷ 0 ∷ []) ≡ 6
snap_length_of_two = refl

-- ---- the packets of a file

-- an Ethernet interface with a snap length of 262,144 bytes, whose timestamps are in nanoseconds
abbrev interface : List ℕ
interface =
    1 ∷ 0 ∷ 0 ∷ 0 ∷ 32 ∷ 0 ∷ 0 ∷ 0 ∷ 1 ∷ 0 ∷ 0 ∷ 0 ∷ 0 ∷ 0 ∷ 4 ∷ 0 ∷ 9 ∷ 0 ∷ 1 ∷ 0 ∷ 9 ∷ 0 ∷ 0 ∷ 0 ∷ (replicate 4 0 ++ 32 ∷ 0 ∷ 0 ∷ 0 ∷ [])

-- four of the 60 bytes of a packet of interface 0, which was captured at 5,000,000,007 nanoseconds
abbrev enhanced : List ℕ
enhanced =
    6 ∷ 0 ∷ 0 ∷ 0 ∷ 36 ∷ 0 ∷ 0 ∷ 0 ∷ 0 ∷ 0 ∷ 0 ∷ 0 ∷ 1 ∷ 0 ∷ 0 ∷ 0 ∷ 7 ∷ 242 ∷ 5 ∷ 42
    ∷ 4 ∷ 0 ∷ 0 ∷ 0 ∷ 60 ∷ 0 ∷ 0 ∷ 0 ∷ 1 ∷ 2 ∷ 3 ∷ 4 ∷ 36 ∷ 0 ∷ 0 ∷ 0 ∷ []

-- all four bytes of a packet, in a simple packet block
abbrev simple : List ℕ
simple = 3 ∷ 0 ∷ 0 ∷ 0 ∷ 20 ∷ 0 ∷ 0 ∷ 0 ∷ 4 ∷ 0 ∷ 0 ∷ 0 ∷ 5 ∷ 6 ∷ 7 ∷ 8 ∷ 20 ∷ 0 ∷ 0 ∷ 0 ∷ []

interface_is_block : IsBlock LittleEndian interface
interface_is_block = record { has_order = refl; shortest = omega arith; words = refl; has_fields = refl; begins = refl; ends = refl }

enhanced_is_block : IsBlock LittleEndian enhanced
enhanced_is_block = record { has_order = refl; shortest = omega arith; words = refl; has_fields = refl; begins = refl; ends = refl }

simple_is_block : IsBlock LittleEndian simple
simple_is_block = record { has_order = refl; shortest = omega arith; words = refl; has_fields = refl; begins = refl; ends = refl }

-- a file with these blocks
four_blocks : IsBlockReading BigEndian (section ++ interface ++ enhanced ++ simple) (section ∷ interface ∷ enhanced ∷ simple ∷ []) []
four_blocks = record {
  whole = refl;
  each = (section_is_block, (interface_is_block, (enhanced_is_block, (simple_is_block, tt))));
  refused = λ none. cc none;
}

-- the packet in the enhanced packet block
abbrev enhanced_packet : FilePacket
enhanced_packet =
    kept (record {
      link_type = Ok Ethernet;
      byte_order = LittleEndian;
      time = Some (record { seconds = 5; fraction = 7; resolution = PowerOfTen 9; offset = pos 0 });
      start = 28;
      captured_len = 4;
      original_len = 60;
      interface = Some 0;
    }) (1 ∷ 2 ∷ 3 ∷ 4 ∷ [])

-- the packet in the simple packet block, whose time is not known
abbrev simple_packet : FilePacket
simple_packet =
    kept (record {
      link_type = Ok Ethernet;
      byte_order = LittleEndian;
      time = None;
      start = 12;
      captured_len = 4;
      original_len = 4;
      interface = Some 0;
    }) (5 ∷ 6 ∷ 7 ∷ 8 ∷ [])

-- the two packets belong to the interface that was described before them
two_packets : packets_of_blocks 64 BigEndian [] 0 (section ∷ interface ∷ enhanced ∷ simple ∷ []) []
    ≡ (enhanced_packet ∷ simple_packet ∷ [], packets.End)
unfolding options_within
two_packets = refl

-- a buffer of 32 bytes has no room for the block of the first packet
no_room : packets_of_blocks 32 BigEndian [] 0 (section ∷ interface ∷ enhanced ∷ simple ∷ []) (1 ∷ [])
    ≡ (
      too_long (record { link_type = None; time = None; required_len = 36; original_len = None }) ∷ simple_packet ∷ [],
      packets.CutOff 12 1,
    )
unfolding options_within
no_room = refl

-- the second section does not have an interface yet, so its packet is refused, at byte 88 of the file
other_section : packets_of_blocks 64 BigEndian [] 0 (section ∷ interface ∷ section ∷ simple ∷ enhanced ∷ []) []
    ≡ ([], refused_at 88 (errors.Body (Interface 0 0)))
unfolding options_within
other_section = refl
