-- The fields of an IPv4 header that describe a fragment (RFC 791, section 3.1), and the fragments that are not translated.
use Rattle.std.specs.Prelude.{ℕ, ◌%◌, ◌==◌, Bool, false, not, nat_le, if◌then◌else◌, Option, Some, None}
use Rattle.ip_translation.specs.declared.fragment_fields.FragmentFields.{FragmentFields}

-- the flag "more fragments" in the 16 bits that contain the flags and the fragment offset
abbrev pub more_fragments : ℕ
more_fragments = 0x2000

-- the flag "don't fragment" in these 16 bits
abbrev pub dont_fragment : ℕ
dont_fragment = 0x4000

-- The flags of a packet without a fragment header, whose IPv4 total length is this length. "Don't fragment" is set in a packet of more than
-- 1260 bytes (RFC 7915, section 5.1).
abbrev pub flags : ℕ → ℕ
flags total_len = if nat_le total_len 1260 then 0 else dont_fragment

-- a packet without a fragment header has this identification
abbrev pub whole : ℕ → FragmentFields
whole identification = record { identification = identification; flags_and_offset = None }

-- the flags and the fragment offset of a packet with this total length
abbrev pub flags_and_offset : Option ℕ → ℕ → ℕ
flags_and_offset None total_len = flags total_len
flags_and_offset (Some value) total_len = value

-- The packet is one of several fragments: more fragments follow, or its offset is above 0. An atomic fragment is a whole packet (RFC 6946).
abbrev pub is_part : Option ℕ → Bool
is_part None = false
is_part (Some value) = not (value == 0)

-- the packet is a later fragment, whose offset is above 0
abbrev pub is_later : Option ℕ → Bool
is_later None = false
is_later (Some value) = not (value % more_fragments == 0)
