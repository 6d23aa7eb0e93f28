-- Formats of messages by type and code, as in ICMP.
--
--   byte  0     1     2, 3      4 and on
--         type  code  checksum  fields, by type and code
use Rattle.std.specs.Prelude.{ℕ, ◌==◌, if◌then◌else◌, List, [], ◌∷◌, ◌++◌, replicate, slice_get, Option}
use Rattle.std.specs.Int.{to_be_bytes, w16}
use Rattle.std.specs.Option.{option_map, unwrap_or}
use Rattle.net_base.specs.Bytes.{HeaderLayout}
use Rattle.net_base.specs.StoredChecksum.{icmp_checksum_place, with_checksum}

-- the layout of a header, and how a message with its fields is read from a packet
pub record MessageFormat (Message : Type 0) : Type 0 where
  pub layout : HeaderLayout
  pub message_of : List ℕ → Message

-- the masks for this number of bytes, with every bit used
abbrev pub used : ℕ → List ℕ
used count = replicate count 255

-- the masks for this number of bytes, with every bit unused
abbrev pub cleared : ℕ → List ℕ
cleared count = replicate count 0

-- the format of a header in which every bit is used
abbrev pub all_used : {Message : Type 0} → ℕ → (List ℕ → Message) → MessageFormat Message
all_used len message_of = record { layout = record { header_len = len; masks = used len }; message_of = message_of }

-- the format of a header of eight bytes whose last four bytes are unused
abbrev pub unused : {Message : Type 0} → Message → MessageFormat Message
unused message = record { layout = record { header_len = 8; masks = used 4 ++ cleared 4 }; message_of = λ bytes. message }

-- the format of a message whose only field is a part with this format
abbrev pub inside : {Part Message : Type 0} → (Part → Message) → MessageFormat Part → MessageFormat Message
inside variant format = record { layout = format.layout; message_of = λ bytes. variant (format.message_of bytes) }

-- the formats of all codes of this type, from code 0 on; empty if the type is not listed
abbrev pub codes_of : {Message : Type 0} → List (ℕ × List (MessageFormat Message)) → ℕ → List (MessageFormat Message)
codes_of [] type = []
codes_of (listed ∷ others) type = if type == listed.0 then listed.1 else codes_of others type

-- The message that is read from a packet with this code. `None` if the code is not listed.
abbrev pub listed : {Message : Type 0} → List (MessageFormat Message) → ℕ → List ℕ → Option Message
listed formats code bytes = option_map (λ format. format.message_of bytes) (slice_get formats code)

-- the format of this type and code, or `unknown` if they are not listed
abbrev pub format_in : {Message : Type 0} → List (ℕ × List (MessageFormat Message)) → MessageFormat Message → ℕ → ℕ → MessageFormat Message
format_in formats unknown type code = unwrap_or (slice_get (codes_of formats type) code) unknown

-- a message as it is written: type, code, and the bytes after the checksum
pub record Written : Type 0 where
  pub type : ℕ
  pub code : ℕ
  pub fields : List ℕ

-- the bytes of a header with this checksum
abbrev pub header_bytes : Written → ℕ → List ℕ
header_bytes message checksum = message.type ∷ message.code ∷ (to_be_bytes w16 checksum ++ message.fields)

-- a packet with zeros instead of its checksum
abbrev pub with_zero_checksum : List ℕ → List ℕ
with_zero_checksum bytes = with_checksum icmp_checksum_place bytes 0
