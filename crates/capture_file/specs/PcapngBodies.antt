-- The bodies of the blocks of a pcapng file (draft-ietf-opsawg-pcapng, sections 4.1 and 4.2).
use Rattle.std.specs.Prelude.{ℕ, ◌-◌, ◌^◌, ◌==◌, not, nat_lt, if◌then◌else◌, ℤ, pos, List, [], ◌∷◌, drop, length, slice_index, Option, Some, None}
use Rattle.std.specs.Int.{cast_signed, w64}
use Rattle.net_base.specs.Refusals.{first_of, refused_if}
use Rattle.capture_numbers.specs.Blocks.{interface_description_len, section_header_len}
use Rattle.capture_numbers.specs.Numbers.{long_at, number_at, short_at}
use Rattle.capture_numbers.specs.Options.{option_value}
use Rattle.capture_numbers.specs.declared.byte_order.ByteOrder.{ByteOrder}
use Rattle.capture_file.specs.declared.pcapng.errors.BodyError.{BodyError}
use Rattle.capture_file.specs.declared.pcapng.errors.BodyError.TheVariants.{CutOff, Version}
use Rattle.capture_file.specs.declared.pcapng.interface_description.InterfaceDescription.{InterfaceDescription}
use Rattle.capture_file.specs.declared.pcapng.block_body.SectionHeader.{SectionHeader}
use Rattle.capture_file.specs.declared.pcapng.time_resolution.TimeResolution.{TimeResolution}
use Rattle.capture_file.specs.declared.pcapng.time_resolution.TimeResolution.TheVariants.{PowerOfTen, PowerOfTwo}

-- the error for a body that has fewer bytes than this length
abbrev pub below : ℕ → List ℕ → Option BodyError
below required_len body = refused_if (nat_lt (length body) required_len) (CutOff required_len (length body))

-- ---- a section header block (section 4.1)

-- the section header in a body: the major and the minor version of the format
abbrev pub section_header : ByteOrder → List ℕ → SectionHeader
section_header order body = record { major_version = short_at order body 4; minor_version = short_at order body 6 }

-- the only major version that can be read
abbrev pub read_major_version : ℕ
read_major_version = 1

-- the error that refuses the body, if there is one: the body is too short, or its major version can't be read
abbrev pub section_header_refusal : ByteOrder → List ℕ → Option BodyError
section_header_refusal order body = first_of (
    below section_header_len body
    ∷ refused_if (not (short_at order body 4 == read_major_version)) (Version (short_at order body 4) (short_at order body 6))
    ∷ [])

-- ---- an interface description block (section 4.2)

-- the code of the option that states the unit of the timestamps
abbrev pub if_tsresol : ℕ
if_tsresol = 9

-- the code of the option that states the seconds to add to each timestamp
abbrev pub if_tsoffset : ℕ
if_tsoffset = 14

-- the resolution that the byte of `if_tsresol` states: a power of ten if the byte is below 128, otherwise a power of two
abbrev pub time_resolution : ℕ → TimeResolution
time_resolution byte = if nat_lt byte 128 then PowerOfTen byte else PowerOfTwo (byte - 128)

-- the number of units of a resolution in a second
abbrev pub units_per_second : TimeResolution → ℕ
units_per_second (PowerOfTen exponent) = 10 ^ exponent
units_per_second (PowerOfTwo exponent) = 2 ^ exponent

-- the resolution that the option `if_tsresol` states in its one byte, or microseconds if the option is missing
abbrev pub resolution_by : Option (List ℕ) → TimeResolution
resolution_by None = PowerOfTen 6
resolution_by (Some value) = time_resolution (slice_index value 0)

-- the seconds to add to each timestamp: the signed number of eight bytes in the option `if_tsoffset`, or 0 if the option is missing
abbrev pub offset_by : ByteOrder → Option (List ℕ) → ℤ
offset_by order None = pos 0
offset_by order (Some value) = cast_signed w64 (long_at order value 0)

-- the interface that a body describes: the number of the link type, the snap length, and the values of two options
abbrev pub interface_description : ByteOrder → List ℕ → InterfaceDescription
interface_description order body = record {
  link_type = short_at order body 0;
  snap_len = number_at order body 4;
  time_resolution = resolution_by (option_value order if_tsresol (Some 1) (drop interface_description_len body));
  time_offset = offset_by order (option_value order if_tsoffset (Some 8) (drop interface_description_len body));
}

-- the error for a body that is too short
abbrev pub interface_refusal : List ℕ → Option BodyError
interface_refusal body = below interface_description_len body
