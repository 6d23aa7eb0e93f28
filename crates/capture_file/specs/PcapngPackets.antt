-- The packets in the bodies of the blocks of a pcapng file (draft-ietf-opsawg-pcapng, sections 4.3 and 4.4, and appendix A).
use Rattle.std.specs.Prelude.{◌≡◌, ℕ, ◌+◌, ◌*◌, ◌^◌, ◌==◌, nat_le, if◌then◌else◌, min, List, [], ◌∷◌, slice_get, slice_range, Option, Some, None}
use Rattle.std.specs.Option.{option_map}
use Rattle.net_base.specs.Refusals.{first_of, refused_if}
use Rattle.capture_numbers.specs.Blocks.{simple_captured_at, timed_captured_at, timed_captured_len_at}
use Rattle.capture_numbers.specs.Numbers.{number_at}
use Rattle.capture_file.specs.PcapngBodies.{below}
use Rattle.capture_numbers.specs.declared.byte_order.ByteOrder.{ByteOrder}
use Rattle.capture_file.specs.declared.pcapng.errors.BodyError.{BodyError}
use Rattle.capture_file.specs.declared.pcapng.errors.BodyError.TheVariants.{Interface}
use Rattle.capture_file.specs.declared.pcapng.interface_description.InterfaceDescription.{InterfaceDescription}
use Rattle.capture_file.specs.declared.pcapng.block_body.PacketBlock.{PacketBlock}

-- ---- an enhanced packet block (section 4.3) or an obsolete packet block (appendix A)

-- The packet in a body. The number of the interface is in bytes 0 to 3 of an enhanced packet block, and in bytes 0 and 1 of an obsolete
-- packet block. From byte 4 on, both types of block contain the upper and the lower half of the timestamp, the captured length, the
-- original length, and the captured bytes.
pub record IsTimedPacket (order : ByteOrder) (interface : ℕ) (body : List ℕ) (packet : PacketBlock) : Type 0 where
  pub of_interface : packet.interface ≡ interface
  pub timestamp : packet.timestamp ≡ Some (number_at order body 4 * 2 ^ 32 + number_at order body 8)
  pub original_len : packet.original_len ≡ number_at order body 16
  pub captured : packet.captured.now ≡ slice_range body timed_captured_at (timed_captured_at + number_at order body timed_captured_len_at)

-- The first error that applies. Either `interface` is not below `count`, the number of interfaces that the section describes before the
-- packet. Or the body ends within the captured bytes.
abbrev pub captured_refusal : ByteOrder → ℕ → ℕ → List ℕ → Option BodyError
captured_refusal order interface count body = first_of (
    refused_if (nat_le count interface) (Interface interface count)
    ∷ below (timed_captured_at + number_at order body timed_captured_len_at) body
    ∷ [])

-- the first error that applies: the error for a body that is too short for its fields, or the error of `captured_refusal`
abbrev pub timed_refusal : ByteOrder → ℕ → ℕ → List ℕ → Option BodyError
timed_refusal order interface count body = first_of (below timed_captured_at body ∷ captured_refusal order interface count body ∷ [])

-- ---- a simple packet block (section 4.4): the original length, and the captured bytes of a packet of the first interface

-- the snap length of the first interface, if there is one
abbrev pub first_snap_len : List InterfaceDescription → Option ℕ
first_snap_len interfaces = option_map (λ interface. interface.snap_len) (slice_get interfaces 0)

-- The number of captured bytes: the original length, or the snap length if the snap length is smaller. A snap length of 0 means no limit
-- (section 4.2).
abbrev pub captured_len : ℕ → ℕ → ℕ
captured_len original_len snap_len = if snap_len == 0 then original_len else min original_len snap_len

-- the place in the body at which the captured bytes end
abbrev pub simple_end : ByteOrder → ℕ → List ℕ → ℕ
simple_end order snap_len body = simple_captured_at + captured_len (number_at order body 0) snap_len

-- the packet in a body, if the first interface has this snap length
pub record IsSimplePacketOf (order : ByteOrder) (snap_len : ℕ) (body : List ℕ) (packet : PacketBlock) : Type 0 where
  pub of_interface : packet.interface ≡ 0
  pub timestamp : packet.timestamp ≡ None
  pub original_len : packet.original_len ≡ number_at order body 0
  pub captured : packet.captured.now ≡ slice_range body simple_captured_at (simple_end order snap_len body)

-- the packet in a body, in a section with these interfaces; the snap length of the first interface limits the captured bytes
abbrev pub IsSimplePacket : ByteOrder → List InterfaceDescription → List ℕ → PacketBlock → Type 0
IsSimplePacket order interfaces body packet =
    (snap_len : ℕ) × (first_snap_len interfaces ≡ Some snap_len) × IsSimplePacketOf order snap_len body packet

-- the error if the section has no interface, or if the body ends within the captured bytes
abbrev pub simple_captured_refusal : ByteOrder → Option ℕ → List ℕ → Option BodyError
simple_captured_refusal order None body = Some (Interface 0 0)
simple_captured_refusal order (Some snap_len) body = below (simple_end order snap_len body) body

-- the first error that applies: the error for a body that is too short for the original length, or the error of `simple_captured_refusal`
abbrev pub simple_refusal : ByteOrder → List InterfaceDescription → List ℕ → Option BodyError
simple_refusal order interfaces body =
    first_of (below simple_captured_at body ∷ simple_captured_refusal order (first_snap_len interfaces) body ∷ [])
