-- The blocks of a pcapng file by their types, and the lengths and places of their fields, in bytes (draft-ietf-opsawg-pcapng).
use Rattle.std.specs.Prelude.{ℕ, ◌+◌}

-- the type of a section header block (section 4.1)
abbrev pub section_header_type : ℕ
section_header_type = 0x0A0D0D0A

-- the type of an interface description block (section 4.2)
abbrev pub interface_description_type : ℕ
interface_description_type = 1

-- the type of an obsolete packet block (appendix A)
abbrev pub obsolete_packet_type : ℕ
obsolete_packet_type = 2

-- the type of a simple packet block (section 4.4)
abbrev pub simple_packet_type : ℕ
simple_packet_type = 3

-- the type of an enhanced packet block (section 4.3)
abbrev pub enhanced_packet_type : ℕ
enhanced_packet_type = 6

-- the place of the body in a block: after the type and the first total length (section 3.1)
abbrev pub body_at : ℕ
body_at = 8

-- the length of the last field of a block: the total length again (section 3.1)
abbrev pub trailer_len : ℕ
trailer_len = 4

-- the length of a block without a body (section 3.1)
abbrev pub min_block_len : ℕ
min_block_len = body_at + trailer_len

-- the length of the body of a section header block without options: magic, versions, and the length of the section (section 4.1)
abbrev pub section_header_len : ℕ
section_header_len = 16

-- the length of the body of an interface description block without options: link type, two reserved bytes, and snap length (section 4.2)
abbrev pub interface_description_len : ℕ
interface_description_len = 8

-- the place of the captured bytes in the body of a simple packet block (section 4.4)
abbrev pub simple_captured_at : ℕ
simple_captured_at = 4

-- the place of the captured bytes in the body of an enhanced or obsolete packet block (section 4.3 and appendix A)
abbrev pub timed_captured_at : ℕ
timed_captured_at = 20

-- the place of the captured length in the body of an enhanced or obsolete packet block
abbrev pub timed_captured_len_at : ℕ
timed_captured_len_at = 12
