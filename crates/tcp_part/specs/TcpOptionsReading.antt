-- How bytes are read as TCP options (RFC 9293, section 3.1). A relation between bytes and items is defined by the bytes of each element and
-- by a table of faults.
use Rattle.std.specs.Prelude.{ℕ, Bool, ◌%◌, ◌≤◌, ◌<◌, ◌≡◌, ◌⊎◌, ◌↔◌, ◌^◌, ◌==◌, ◌||◌, not, map, nat_lt, if◌then◌else◌, List, [], ◌∷◌, ◌++◌, length, slice_index, Option, Some, None, Result, Ok, Err, IfSome}
use Rattle.std.specs.List.{AllByRecursion}
use Rattle.net_base.specs.declared.tcp_option_read_error.TcpOptionReadError.{TcpOptionReadError}
use Rattle.net_base.specs.declared.tcp_option_read_error.TcpOptionReadError.TheVariants.{UnexpectedEndOfSlice, UnexpectedSize, UnknownId}
use Rattle.net_base.specs.Refusals.{first_of, refused_if}
use Rattle.tcp_part.specs.TcpOptionKinds.{end_kind, maximum_segment_size_kind, maximum_segment_size_len, noop_kind, sack_kind, sack_permitted_kind, sack_permitted_len, timestamp_kind, timestamp_len, window_scale_kind, window_scale_len}
use Rattle.tcp_part.specs.TcpOptions.{IsBefore, front, join, max_options_len, pad, spelling}
use Rattle.tcp_part.specs.declared.tcp_option_element.TcpOptionElement.{TcpOptionElement}
use Rattle.tcp_part.specs.declared.tcp_option_element.TcpOptionElement.TheVariants.{Noop, MaximumSegmentSize, WindowScale, SelectiveAcknowledgementPermitted, SelectiveAcknowledgement, Timestamp}

-- ---- elements at the front

-- both numbers fit in 32 bits
abbrev pub IsPair : ℕ × ℕ → Type 0
IsPair numbers = (numbers.0 < 2 ^ 32) × (numbers.1 < 2 ^ 32)

-- the numbers of an element are in the ranges of their types
abbrev pub IsInRange : TcpOptionElement → Type 0
IsInRange Noop = Unit {0}
IsInRange (MaximumSegmentSize size) = size < 2 ^ 16
IsInRange (WindowScale shift) = shift < 2 ^ 8
IsInRange SelectiveAcknowledgementPermitted = Unit {0}
IsInRange (SelectiveAcknowledgement first more) = IsPair first × (length more ≡ 3) × AllByRecursion (λ block. IfSome block IsPair) more
IsInRange (Timestamp value echo) = IsPair (value, echo)

-- the bytes begin with this element, and this rest follows it; the element has its present blocks first, and its numbers are in range
pub record BeginsWith (bytes : List ℕ) (element : TcpOptionElement) (rest : List ℕ) : Type 0 where
  pub spelled : bytes ≡ spelling element ++ rest
  pub read_back : front element ≡ element
  pub in_range : IsInRange element

-- no byte is left, or the next byte is the end of the list
abbrev pub Ends : List ℕ → Type 0
Ends bytes = (length bytes ≡ 0) ⊎ (slice_index bytes 0 ≡ end_kind)

-- ---- faults: why the option at the front can't be read. This depends on its kind, its length byte, and the number of bytes left, which
-- includes the kind and the length byte. If no length byte is left, its value does not matter.
--
--   kind          rules in their order
--   0, 1          no fault: the option is a single byte
--   2, 3, 4, 8    fewer bytes are left than the kind requires; the length byte is another length
--   5             no length byte is left; the length byte is not the length of one to four blocks; fewer bytes are left than it counts
--   every other   the kind is not known

-- the fault of an option whose kind has a fixed length
abbrev pub fault_of_length : ℕ → ℕ → ℕ → ℕ → Option TcpOptionReadError
fault_of_length expected kind size left = first_of (
    refused_if (nat_lt left expected) (UnexpectedEndOfSlice kind expected left)
    ∷ refused_if (not (size == expected)) (UnexpectedSize kind size)
    ∷ [])

-- this is the length of a selective acknowledgement: kind, length byte, and one to four blocks of 8 bytes
abbrev pub is_size_of_blocks : ℕ → Bool
is_size_of_blocks size = size == 10 || (size == 18 || (size == 26 || size == 34))

-- the fault of a selective acknowledgement
abbrev pub fault_of_blocks : ℕ → ℕ → Option TcpOptionReadError
fault_of_blocks size left = first_of (
    refused_if (nat_lt left 2) (UnexpectedEndOfSlice sack_kind 2 left)
    ∷ refused_if (not (is_size_of_blocks size)) (UnexpectedSize sack_kind size)
    ∷ refused_if (nat_lt left size) (UnexpectedEndOfSlice sack_kind size left)
    ∷ [])

-- the fault of an option, by its kind
abbrev pub fault_of_kind : ℕ → ℕ → ℕ → Option TcpOptionReadError
fault_of_kind kind size left =
    if kind == end_kind || kind == noop_kind then None
    else if kind == maximum_segment_size_kind then fault_of_length maximum_segment_size_len kind size left
    else if kind == window_scale_kind then fault_of_length window_scale_len kind size left
    else if kind == sack_permitted_kind then fault_of_length sack_permitted_len kind size left
    else if kind == sack_kind then fault_of_blocks size left
    else if kind == timestamp_kind then fault_of_length timestamp_len kind size left
    else Some (UnknownId kind)

-- the fault at the front of some bytes; a missing byte counts as 0
abbrev pub fault : List ℕ → Option TcpOptionReadError
fault bytes = fault_of_kind (slice_index bytes 0) (slice_index bytes 1) (length bytes)

-- ---- readings

-- an item is an element or a fault
abbrev pub Item : Type 0
Item = Result TcpOptionElement TcpOptionReadError

-- The bytes are read as these items. If no byte is left, or the list ends here, there is no item. Otherwise the first item is the element
-- at the front, and the items of the rest follow. Or the only item is a fault.
abbrev pub Reads : List ℕ → List Item → Type 0
Reads bytes [] = Ends bytes
Reads bytes (Ok element ∷ items) = (rest : List ℕ) × BeginsWith bytes element rest × Reads rest items
Reads bytes (Err error ∷ items) = (fault bytes ≡ Some error) × (items ≡ [])

-- one call of `next` changed the unread bytes from `before` to `after`, and returned this item
abbrev pub ReadsNext : List ℕ → Option Item → List ℕ → Type 0
ReadsNext before None after = Ends before × (after ≡ [])
ReadsNext before (Some (Ok element)) after = BeginsWith before element after
ReadsNext before (Some (Err error)) after = (fault before ≡ Some error) × (after ≡ [])

-- the bytes have exactly one reading
pub record HasOneReading (bytes : List ℕ) : Type 0 where
  pub items : List Item
  pub reads : Reads bytes items
  pub alone : (others : List Item) → Reads bytes others → others ≡ items

-- ---- readings without a fault

-- these elements as items without a fault
abbrev pub as_items : List TcpOptionElement → List Item
as_items elements = map (λ element. Ok element) elements

-- the items that are read from the bytes of these elements
abbrev pub read_back : List TcpOptionElement → List Item
read_back elements = map (λ element. Ok (front element)) elements

-- options that consist of the bytes of these elements, and then nothing or the end of the list
pub record AreJoined (options : List ℕ) (elements : List TcpOptionElement) : Type 0 where
  pub rest : List ℕ
  pub whole : options ≡ join elements ++ rest
  pub end : Ends rest

-- the options represent these elements: they are read as these elements without a fault, and a header can contain them
pub record StandFor (options : List ℕ) (elements : List TcpOptionElement) : Type 0 where
  pub reads : Reads options (read_back elements)
  pub room : length options ≤ max_options_len
  pub whole_words : length options % 4 ≡ 0

-- of all options that represent these elements, these are the first in lexicographic order
pub record AreLeastFor (options : List ℕ) (elements : List TcpOptionElement) : Type 0 where
  pub stand : StandFor options elements
  pub first : (others : List ℕ) → StandFor others elements → (others ≡ options) ⊎ IsBefore options others

-- Assume that both options are read without a fault. They are read as the same elements exactly if the padded bytes of the elements are the
-- same.
abbrev pub ReadAlike : List ℕ → List ℕ → Type 0
ReadAlike options others = (elements other_elements : List TcpOptionElement)
    → Reads options (as_items elements) → Reads others (as_items other_elements)
    → ((elements ≡ other_elements) ↔ (pad (join elements) ≡ pad (join other_elements)))
