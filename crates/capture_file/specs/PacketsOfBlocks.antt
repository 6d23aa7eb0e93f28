-- The packets of a pcapng file, computed block by block (draft-ietf-opsawg-pcapng, section 4 and appendix A). A section header block begins
-- a section without interfaces. An interface description block adds an interface to the section. A packet block contains a packet of one of
-- these interfaces. A block of another type changes nothing.
use Rattle.std.specs.Prelude.{◌≡◌, ℕ, ◌+◌, ◌-◌, ◌*◌, ◌^◌, ◌==◌, ◌&&◌, nat_le, nat_lt, if◌then◌else◌, List, [], ◌∷◌, ◌++◌, length, slice_get, slice_range, Option, Some, None, Result, Ok, Err}
use Rattle.std.specs.Option.{option_map}
use Rattle.net_base.specs.Bytes.{IsBytes}
use Rattle.net_base.specs.Refusals.{first_of, refused_if}
use Rattle.capture_file.specs.CapturePackets.{Begins, FilePacket, HasPackets, kept, too_long}
use Rattle.capture_numbers.specs.Numbers.{number_at, short_at}
use Rattle.capture_file.specs.Packets.{interface_packet, long_block}
use Rattle.capture_file.specs.Pcapng.{IsBlockReading, block_header, block_refusal}
use Rattle.capture_file.specs.PcapngBodies.{interface_description}
use Rattle.capture_file.specs.PcapngBody.{body_refusal}
use Rattle.capture_numbers.specs.Blocks.{body_at, enhanced_packet_type, interface_description_type, obsolete_packet_type, section_header_type, simple_captured_at, simple_packet_type, timed_captured_at, timed_captured_len_at, trailer_len}
use Rattle.capture_file.specs.PcapngPackets.{simple_end}
use Rattle.capture_file.specs.PcapngSteps.{is_description, is_packet, next_by_refusal, offset_after, refused_at}
use Rattle.capture_file.specs.Sections.{max_interfaces}
use Rattle.capture_numbers.specs.declared.byte_order.ByteOrder.{ByteOrder}
use Rattle.capture_numbers.specs.declared.byte_order.ByteOrder.TheVariants.{BigEndian}
use Rattle.capture_file.specs.declared.pcapng.block.BlockHeader.{BlockHeader}
use Rattle.capture_file.specs.declared.pcapng.errors.BlockError.{BlockError}
use Rattle.capture_file.specs.declared.pcapng.interface_description.InterfaceDescription.{InterfaceDescription}
use Rattle.capture_file.specs.declared.reader.capture_reader.CaptureReader.TheVariants.{Pcapng}
use Rattle.capture_file.specs.declared.reader.next_packet.NextPacket.{NextPacket}
use Rattle.capture_file.specs.declared.reader.next_packet.NextPacket.TheVariants as packets
use Rattle.capture_file.specs.declared.reader.packet_error.PacketError.{PacketError}
use Rattle.capture_file.specs.declared.reader.packet_error.PacketError.TheVariants as errors
use Rattle.capture_file.specs.declared.reader.pcapng_reader.PcapngReader.{PcapngReader}

-- ---- the packet in a block

-- the body of a block: the bytes between its two total lengths (section 3.1)
abbrev pub body_of : List ℕ → List ℕ
body_of block = slice_range block body_at (length block - trailer_len)

-- The packet in the body of an enhanced packet block (section 4.3) or of an obsolete packet block (appendix A). The packet was captured on
-- this interface, which has this number.
abbrev pub timed_packet : BlockHeader → List ℕ → ℕ → InterfaceDescription → FilePacket
timed_packet header body number interface =
    let order = header.byte_order in
    let timestamp = number_at order body 4 * 2 ^ 32 + number_at order body 8 in
    let captured = slice_range body timed_captured_at (timed_captured_at + number_at order body timed_captured_len_at) in
    kept (interface_packet header number interface (Some timestamp) (length captured) (number_at order body 16)) captured

-- the packet in the body of a simple packet block (section 4.4); the packet was captured on this interface
abbrev pub simple_packet : BlockHeader → List ℕ → InterfaceDescription → FilePacket
simple_packet header body interface =
    let captured = slice_range body simple_captured_at (simple_end header.byte_order interface.snap_len body) in
    kept (interface_packet header 0 interface None (length captured) (number_at header.byte_order body 0)) captured

-- The packet in the body of a packet block. An enhanced or obsolete packet block states the number of the packet's interface. The packet of
-- a simple packet block always belongs to interface 0. `None` if the section does not describe the interface, or if the block has another
-- type.
abbrev pub packet_in_body : BlockHeader → List InterfaceDescription → List ℕ → Option FilePacket
packet_in_body header interfaces body =
    let order = header.byte_order in
    let type = header.block_type in
    if type == enhanced_packet_type then option_map (timed_packet header body (number_at order body 0)) (slice_get interfaces
    (number_at order body 0))
    else if type == obsolete_packet_type then option_map (timed_packet header body (short_at order body 0)) (slice_get interfaces
    (short_at order body 0))
    else if type == simple_packet_type then option_map (simple_packet header body) (slice_get interfaces 0)
    else None

-- ---- one block, in a section with these interfaces before the block

-- the interfaces of the section after the block
abbrev pub interfaces_after : BlockHeader → List InterfaceDescription → List ℕ → List InterfaceDescription
interfaces_after header interfaces body =
    if header.block_type == section_header_type then []
    else if header.block_type == interface_description_type then interfaces ++ interface_description header.byte_order body ∷ []
    else interfaces

-- The error that refuses the block. Either its body is refused. Or the block describes an interface although the section already has the
-- maximum number of interfaces.
abbrev pub block_error : BlockHeader → List InterfaceDescription → List ℕ → Option PacketError
block_error header interfaces body = first_of (
    option_map errors.Body (body_refusal header interfaces body)
    ∷ refused_if (header.block_type == interface_description_type && nat_le max_interfaces (length interfaces))
    (errors.Interfaces max_interfaces)
    ∷ [])

-- the result of a block: this error if there is an error, otherwise this packet or no packet
abbrev pub result_by : Option PacketError → Option FilePacket → Result (Option FilePacket) PacketError
result_by (Some error) packet = Err error
result_by None packet = Ok packet

-- the result of a block that fits in the buffer
abbrev pub whole_result : BlockHeader → List InterfaceDescription → List ℕ → Result (Option FilePacket) PacketError
whole_result header interfaces body = result_by (block_error header interfaces body) (packet_in_body header interfaces body)

-- The result of a block that is longer than the buffer. A section header or an interface description is refused, since later packets can't
-- be read without it. A packet block gives a packet that is too long. Any other block is skipped.
abbrev pub long_result : BlockHeader → Result (Option FilePacket) PacketError
long_result header =
    result_by (refused_if (is_description header.block_type) (errors.TooLong header.block_type header.total_len))
    (if is_packet header.block_type then Some (too_long (long_block header)) else None)

-- the result of a block, read into a buffer of `room` bytes
abbrev pub block_result : ℕ → BlockHeader → List InterfaceDescription → List ℕ → Result (Option FilePacket) PacketError
block_result room header interfaces body =
    if nat_lt room header.total_len then long_result header else whole_result header interfaces body

-- ---- the fold

-- the packets of a file, and the item after them
abbrev pub Contents : Type 0
Contents = List FilePacket × NextPacket

-- The contents of a file whose first block has this result, and whose other blocks have the contents `others`. The first block begins at
-- the place `offset`. After an error no packet follows.
abbrev pub before_others : ℕ → Result (Option FilePacket) PacketError → Contents → Contents
before_others offset (Err error) others = ([], refused_at offset error)
before_others offset (Ok None) others = others
before_others offset (Ok (Some packet)) others = (packet ∷ others.0, others.1)

-- The item after the last block. The bytes after this block are `bytes`, and begin at the place `offset`. If `bytes` is empty, the item is
-- the end of the file. Otherwise it is the error that refuses `bytes` as a block.
abbrev pub item_after : ℕ → List ℕ → Option BlockError → NextPacket
item_after offset (byte ∷ bytes) (Some error) = next_by_refusal offset error
item_after offset bytes refusal = packets.End

-- The packets of these blocks, and the item after them. The first block begins at the place `offset`, in a section with this byte order and
-- these interfaces. The bytes after the last block are `rest`.
abbrev pub packets_of_blocks : ℕ → ByteOrder → List InterfaceDescription → ℕ → List (List ℕ) → List ℕ → Contents
packets_of_blocks room section interfaces offset [] rest = ([], item_after offset rest (block_refusal section rest))
packets_of_blocks room section interfaces offset (block ∷ blocks) rest =
    let header = block_header section block in
    let body = body_of block in
    before_others offset (block_result room header interfaces body)
    (packets_of_blocks room header.byte_order (interfaces_after header interfaces body) (offset_after offset header) blocks rest)

-- ---- the laws

-- Assume that bytes consist of blocks and a rest that is refused as a block. Then a reader reads exactly the packets of these blocks, and
-- the item after them. `packets_of_blocks` computes them from the byte order, the interfaces and the place of the reader.
abbrev pub ReadPacketsOfBlocks : ℕ → Type 0
ReadPacketsOfBlocks room =
    (reader : PcapngReader) (bytes : List ℕ) (blocks : List (List ℕ)) (rest : List ℕ) (packets : List FilePacket) (next : NextPacket)
    → IsBytes bytes → IsBlockReading reader.section.byte_order bytes blocks rest → HasPackets room (Pcapng reader) bytes packets next
    → (packets, next) ≡ packets_of_blocks room reader.section.byte_order reader.section.interfaces.items reader.offset blocks rest

-- A reader of a whole file reads exactly the packets of all blocks of the file. `packets_of_blocks` computes these packets from the start
-- of the file, where no interface is described yet.
abbrev pub FilesHavePacketsOfBlocks : ℕ → Type 0
FilesHavePacketsOfBlocks room =
    (reader : PcapngReader) (file bytes : List ℕ) (blocks : List (List ℕ)) (rest : List ℕ) (packets : List FilePacket) (next : NextPacket)
    → IsBytes file → IsBlockReading BigEndian file blocks rest → Begins room (Pcapng reader) file bytes
    → HasPackets room (Pcapng reader) bytes packets next → (packets, next) ≡ packets_of_blocks room BigEndian [] 0 blocks rest
