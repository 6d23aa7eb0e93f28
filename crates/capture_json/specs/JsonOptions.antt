-- The options of a TCP header as JSON objects (RFC 9293, section 3.1).
use Rattle.std.specs.Prelude.{◌≡◌, ◌<◌, ◌⊎◌, ℕ, List, [], ◌∷◌, length, slice_index, codes, Option, Some, None, MatchOption}
use Rattle.std.specs.List.{flat_map}
use Rattle.capture_json.specs.Members.{Member, array_of, object_of, whole_number}
use Rattle.capture_words.specs.Numbers.{hex_bytes}
use Rattle.capture_words.specs.TcpText.{fault_text}
use Rattle.serde_json.specs.Data.{Data, string}
use Rattle.tcp_part.specs.TcpOptionsReading.{BeginsWith}
use Rattle.tcp_part.specs.TcpRawOptions.{BeginsWithRaw, RawOption, element_refusal, raw_fault, raw_spelling}
use Rattle.tcp_part.specs.declared.tcp_option_element.TcpOptionElement.{TcpOptionElement}
use Rattle.tcp_part.specs.declared.tcp_option_element.TcpOptionElement.TheVariants.{Noop, MaximumSegmentSize, WindowScale, SelectiveAcknowledgementPermitted, SelectiveAcknowledgement, Timestamp}
use Rattle.tcp_part.specs.declared.tcp_raw_option_error.TcpRawOptionError.{TcpRawOptionError}

-- ---- the fields of an option

-- a block of a selective acknowledgment: its two edges (RFC 2018, section 3)
abbrev pub block_data : ℕ × ℕ → Data
block_data block = object_of ((codes "left", whole_number block.0) ∷ (codes "right", whole_number block.1) ∷ [])

-- a block as an item, or no item if there is no block
abbrev pub other_block : Option (ℕ × ℕ) → List Data
other_block None = []
other_block (Some block) = block_data block ∷ []

-- the blocks of a selective acknowledgment
abbrev pub blocks_data : ℕ × ℕ → List (Option (ℕ × ℕ)) → Data
blocks_data first more = array_of (block_data first ∷ flat_map other_block more)

-- the fields of an option of a known kind with a valid length
abbrev pub element_fields : TcpOptionElement → List Member
element_fields Noop = []
element_fields (MaximumSegmentSize size) = (codes "maximum_segment_size", whole_number size) ∷ []
element_fields (WindowScale shift) = (codes "shift", whole_number shift) ∷ []
element_fields SelectiveAcknowledgementPermitted = []
element_fields (SelectiveAcknowledgement first more) = (codes "selective_acknowledgment", blocks_data first more) ∷ []
element_fields (Timestamp value echo_reply) =
    (codes "value", whole_number value) ∷ (codes "echo_reply", whole_number echo_reply) ∷ []

-- the value of an option of an unknown kind or with an invalid length, as hex digits
abbrev pub data_fields : RawOption → List Member
data_fields option = (codes "data", string (hex_bytes option.value)) ∷ []

-- These are the fields of an option. If the kind is known and the length is valid, they are the fields of this kind of option. Otherwise
-- they are the value as hex digits.
abbrev pub AreOptionFields : RawOption → List Member → Type 0
AreOptionFields option fields = MatchOption (element_refusal option)
    ((element : TcpOptionElement) × BeginsWith (raw_spelling option) element [] × (fields ≡ element_fields element))
    (λ error. fields ≡ data_fields option)

-- ---- objects

-- an option of this kind with these fields
abbrev pub option_object : ℕ → List Member → Data
option_object kind fields = object_of ((codes "kind", whole_number kind) ∷ fields)

-- an option of this kind without fields
abbrev pub kind_object : ℕ → Data
kind_object kind = option_object kind []

-- this is the object of an option
abbrev pub IsOptionObject : RawOption → Data → Type 0
IsOptionObject option value = (fields : List Member) × AreOptionFields option fields × (value ≡ option_object option.kind fields)

-- These are the objects of the options in some bytes, and the fault after the options, if there is a fault. There is no object for the end
-- of the bytes or for a fault. An option of kind 0 ends the list, so its object is the last one. After the object of any other option come
-- the objects of the options that follow it.
abbrev pub AreOptionObjects : List ℕ → List Data → Option TcpRawOptionError → Type 0
AreOptionObjects bytes [] None = bytes ≡ []
AreOptionObjects bytes [] (Some error) = raw_fault bytes ≡ Some error
AreOptionObjects bytes (value ∷ values) fault =
    ((0 < length bytes) × (slice_index bytes 0 ≡ 0) × (value ≡ kind_object 0) × (values ≡ []) × (fault ≡ None))
    ⊎ ((option : RawOption) × (rest : List ℕ) × BeginsWithRaw bytes option rest × IsOptionObject option value
    × AreOptionObjects rest values fault)

-- ---- members

-- the reason why an option can't be read, if there is a fault
abbrev pub fault_members : Option TcpRawOptionError → List Member
fault_members None = []
fault_members (Some error) = (codes "options_fault", string (fault_text error)) ∷ []

-- these members are the options of a header
abbrev pub AreOptionMembers : List ℕ → List Member → Type 0
AreOptionMembers bytes members =
    (values : List Data) × (fault : Option TcpRawOptionError) × AreOptionObjects bytes values fault
    × (members ≡ (codes "options", array_of values) ∷ fault_members fault)
