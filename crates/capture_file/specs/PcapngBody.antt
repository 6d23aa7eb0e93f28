-- The body of a block of a pcapng file. The type of the block determines its content (draft-ietf-opsawg-pcapng, section 4 and appendix A).
use Rattle.std.specs.Prelude.{◌≡◌, ◌≢◌, ◌⊎◌, ℕ, ◌==◌, if◌then◌else◌, List, length, Option, None}
use Rattle.capture_numbers.specs.Blocks.{enhanced_packet_type, interface_description_type, obsolete_packet_type, section_header_type, simple_packet_type}
use Rattle.capture_numbers.specs.Numbers.{number_at, short_at}
use Rattle.capture_file.specs.PcapngBodies.{interface_description, interface_refusal, section_header, section_header_refusal}
use Rattle.capture_file.specs.PcapngPackets.{IsSimplePacket, IsTimedPacket, simple_refusal, timed_refusal}
use Rattle.capture_file.specs.declared.pcapng.block_body.BlockBody.{BlockBody}
use Rattle.capture_file.specs.declared.pcapng.block_body.BlockBody.TheVariants as bodies
use Rattle.capture_file.specs.declared.pcapng.block.BlockHeader.{BlockHeader}
use Rattle.capture_file.specs.declared.pcapng.errors.BodyError.{BodyError}
use Rattle.capture_file.specs.declared.pcapng.interface_description.InterfaceDescription.{InterfaceDescription}

-- The error that refuses a body, if there is one. The type of the block determines the check. Only section headers, interface descriptions
-- and packet blocks are checked.
abbrev pub body_refusal : BlockHeader → List InterfaceDescription → List ℕ → Option BodyError
body_refusal header interfaces body =
    let order = header.byte_order in
    let type = header.block_type in
    if type == section_header_type then section_header_refusal order body
    else if type == interface_description_type then interface_refusal body
    else if type == enhanced_packet_type then timed_refusal order (number_at order body 0) (length interfaces) body
    else if type == obsolete_packet_type then timed_refusal order (short_at order body 0) (length interfaces) body
    else if type == simple_packet_type then simple_refusal order interfaces body
    else None

-- the content of a body, which the type of its block determines
abbrev pub IsBody : BlockHeader → List InterfaceDescription → List ℕ → BlockBody → Type 0
IsBody header interfaces body (bodies.SectionHeader said) =
    (header.block_type ≡ section_header_type) × (said ≡ section_header header.byte_order body)
IsBody header interfaces body (bodies.InterfaceDescription said) =
    (header.block_type ≡ interface_description_type) × (said ≡ interface_description header.byte_order body)
IsBody header interfaces body (bodies.Packet packet) =
    let order = header.byte_order in
    ((header.block_type ≡ enhanced_packet_type) × IsTimedPacket order (number_at order body 0) body packet)
    ⊎ (((header.block_type ≡ obsolete_packet_type) × IsTimedPacket order (short_at order body 0) body packet)
    ⊎ ((header.block_type ≡ simple_packet_type) × IsSimplePacket order interfaces body packet))
IsBody header interfaces body bodies.Other =
    let type = header.block_type in
    (type ≢ section_header_type) × (type ≢ interface_description_type) × (type ≢ enhanced_packet_type) × (type ≢ obsolete_packet_type)
    × (type ≢ simple_packet_type)
