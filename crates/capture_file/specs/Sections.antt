-- A section of a pcapng file while its blocks are read: its byte order and its interfaces (draft-ietf-opsawg-pcapng, section 4.1).
use Rattle.std.specs.Prelude.{◌≡◌, ◌+◌, ◌<◌, ◌≤◌, ℕ, List, [], ◌∷◌, ◌++◌, length, slice_get, Option, Some, None, Result, Ok, Err}
use Rattle.capture_numbers.specs.Blocks.{body_at}
use Rattle.capture_file.specs.Packets.{packet_of_block, packet_start}
use Rattle.capture_file.specs.PcapngBody.{IsBody, body_refusal}
use Rattle.capture_file.specs.declared.pcapng.block_body.BlockBody.{BlockBody}
use Rattle.capture_file.specs.declared.pcapng.block_body.BlockBody.TheVariants as bodies
use Rattle.capture_file.specs.declared.pcapng.errors.BodyError.{BodyError}
use Rattle.capture_file.specs.declared.pcapng.block.BlockHeader.{BlockHeader}
use Rattle.capture_file.specs.declared.pcapng.interface_description.InterfaceDescription.{InterfaceDescription}
use Rattle.capture_file.specs.declared.reader.captured_packet.CapturedPacket.{CapturedPacket}
use Rattle.capture_file.specs.declared.reader.packet_error.PacketError.{PacketError}
use Rattle.capture_file.specs.declared.reader.packet_error.PacketError.TheVariants as errors
use Rattle.capture_file.specs.declared.reader.pcapng_reader.Section.{Section}

-- the maximum number of interfaces of a section
abbrev pub max_interfaces : ℕ
max_interfaces = 1024

-- The section and the result after an interface description. The interface is added to the section, unless the section already has the
-- maximum number of interfaces. In that case the interface is refused.
abbrev pub Describes : Section → InterfaceDescription → Section → Result (Option CapturedPacket) PacketError → Type 0
Describes before interface after (Ok found) =
    (found ≡ None) × (length before.interfaces.items < max_interfaces) × (after.byte_order ≡ before.byte_order)
    × (after.interfaces.items ≡ before.interfaces.items ++ interface ∷ [])
Describes before interface after (Err error) =
    (after ≡ before) × (max_interfaces ≤ length before.interfaces.items) × (error ≡ errors.Interfaces max_interfaces)

-- The section and the result after a block whose body has this content. The result is the packet in the block, `None` if the block contains
-- no packet, or an error.
abbrev pub TakesBody : Section → BlockHeader → BlockBody → Section → Result (Option CapturedPacket) PacketError → Type 0
TakesBody before header (bodies.SectionHeader said) after result =
    (result ≡ Ok None) × (after.byte_order ≡ header.byte_order) × (after.interfaces.items ≡ [])
TakesBody before header (bodies.InterfaceDescription interface) after result = Describes before interface after result
TakesBody before header (bodies.Packet packet) after result =
    (interface : InterfaceDescription) × (slice_get before.interfaces.items packet.interface ≡ Some interface)
    × (result ≡ Ok (Some (packet_of_block header interface packet))) × (after ≡ before)
TakesBody before header bodies.Other after result = (result ≡ Ok None) × (after ≡ before)

-- The section and the result after a block. If this error refuses the body of the block, the section does not change.
abbrev pub TakesUnless : Option BodyError → Section → BlockHeader → List ℕ → Section → Result (Option CapturedPacket) PacketError → Type 0
TakesUnless (Some error) before header body after result = (result ≡ Err (errors.Body error)) × (after ≡ before)
TakesUnless None before header body after result =
    (said : BlockBody) × IsBody header before.interfaces.items body said × TakesBody before header said after result

-- the section after a block with this header and body, and the result: the packet in the block, no packet, or an error
abbrev pub TakesBlock : Section → BlockHeader → List ℕ → Section → Result (Option CapturedPacket) PacketError → Type 0
TakesBlock before header body after result =
    TakesUnless (body_refusal header before.interfaces.items body) before header body after result

-- if the block contains a packet, the number of the packet's interface is below `count`
abbrev pub IsInterfaceThere : ℕ → BlockBody → Type 0
IsInterfaceThere count (bodies.Packet packet) = packet.interface < count
IsInterfaceThere count _ = Unit {0}

-- If the block contains a packet, its captured bytes end within the block. The body of the block begins after 8 bytes and has `len` bytes.
abbrev pub IsBodyWithin : ℕ → ℕ → BlockBody → Type 0
IsBodyWithin type len (bodies.Packet packet) = packet_start type + length packet.captured.now ≤ body_at + len
IsBodyWithin type len _ = Unit {0}
