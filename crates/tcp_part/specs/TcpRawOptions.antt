-- TCP options of any kind, known or unknown (RFC 9293, section 3.1): a relation between bytes and options, which are kinds and values. The
-- length byte states where an option ends, so a host can skip an unknown kind (RFC 1122, section 4.2.2.5).
use Rattle.std.specs.Prelude.{ℕ, ◌+◌, ◌<◌, ◌≡◌, ◌≢◌, ◌⊎◌, ◌==◌, ◌||◌, min, map, nat_lt, if◌then◌else◌, List, [], ◌∷◌, ◌++◌, length, drop, slice_index, Option, Some, None, Result, Ok, Err}
use Rattle.std.specs.List.{flat_map}
use Rattle.net_base.specs.Refusals.{first_of, refused_if}
use Rattle.net_base.specs.declared.tcp_option_read_error.TcpOptionReadError.{TcpOptionReadError}
use Rattle.net_base.specs.declared.tcp_option_read_error.TcpOptionReadError.TheVariants.{UnexpectedEndOfSlice, UnexpectedSize, UnknownId}
use Rattle.tcp_part.specs.TcpOptionKinds.{end_kind, length_of_kind, noop_kind}
use Rattle.tcp_part.specs.TcpOptions.{max_options_len, spelling, with_length}
use Rattle.tcp_part.specs.TcpOptionsReading.{BeginsWith, Ends, Item, Reads, as_items, fault, fault_of_kind}
use Rattle.tcp_part.specs.declared.tcp_option_element.TcpOptionElement.{TcpOptionElement}
use Rattle.tcp_part.specs.declared.tcp_raw_option_error.TcpRawOptionError.{TcpRawOptionError}
use Rattle.tcp_part.specs.declared.tcp_raw_option_error.TcpRawOptionError.TheVariants.{NoLengthByte, LengthBelowTwo, LengthBeyondEnd}

-- ---- options at the front

-- an option: its kind, and the bytes of its value, which follow its length byte
pub record RawOption : Type 0 where
  pub kind : ℕ
  pub value : List ℕ

-- the bytes of an option; no operation is a single byte, and any other kind has a length byte that also counts the kind and itself
abbrev pub raw_spelling : RawOption → List ℕ
raw_spelling option = if option.kind == noop_kind then noop_kind ∷ [] else with_length option.kind option.value

-- the bytes begin with this option, and this rest follows it; the end of the list is not an option
pub record BeginsWithRaw (bytes : List ℕ) (option : RawOption) (rest : List ℕ) : Type 0 where
  pub spelled : bytes ≡ raw_spelling option ++ rest
  pub is_no_end : option.kind ≢ end_kind
  pub noop_has_no_value : option.kind ≡ noop_kind → option.value ≡ []

-- ---- faults: why the option at the front can't be read. This depends on its kind, its length byte, and the number of bytes left, which
-- includes the kind and the length byte. If no length byte is left, its value does not matter.
--
--   kind          rules in their order
--   0, 1          no fault: the option is a single byte
--   every other   no length byte is left; the length byte is below 2; fewer bytes are left than it counts
abbrev pub raw_fault_of : ℕ → ℕ → ℕ → Option TcpRawOptionError
raw_fault_of kind len available = if kind == end_kind || kind == noop_kind then None else first_of (
    refused_if (nat_lt available 2) (NoLengthByte kind)
    ∷ refused_if (nat_lt len 2) (LengthBelowTwo kind len)
    ∷ refused_if (nat_lt available len) (LengthBeyondEnd kind len available)
    ∷ [])

-- the fault at the front of some bytes; a missing byte counts as 0
abbrev pub raw_fault : List ℕ → Option TcpRawOptionError
raw_fault bytes = raw_fault_of (slice_index bytes 0) (slice_index bytes 1) (length bytes)

-- ---- readings

-- an item is an option or a fault
abbrev pub RawItem : Type 0
RawItem = Result RawOption TcpRawOptionError

-- The bytes are read as these items. If no byte is left, or the list ends here, there is no item. Otherwise the first item is the option at
-- the front, and the items of the rest follow. Or the only item is a fault.
abbrev pub ReadsRaw : List ℕ → List RawItem → Type 0
ReadsRaw bytes [] = Ends bytes
ReadsRaw bytes (Ok option ∷ items) = (rest : List ℕ) × BeginsWithRaw bytes option rest × ReadsRaw rest items
ReadsRaw bytes (Err error ∷ items) = (raw_fault bytes ≡ Some error) × (items ≡ [])

-- one call of `next` changed the unread bytes from `before` to `after`, and returned this item
abbrev pub ReadsRawNext : List ℕ → Option RawItem → List ℕ → Type 0
ReadsRawNext before None after = Ends before × (after ≡ [])
ReadsRawNext before (Some (Ok option)) after = BeginsWithRaw before option after
ReadsRawNext before (Some (Err error)) after = (raw_fault before ≡ Some error) × (after ≡ [])

-- the bytes have exactly one reading
pub record HasOneRawReading (bytes : List ℕ) : Type 0 where
  pub items : List RawItem
  pub reads : ReadsRaw bytes items
  pub alone : (others : List RawItem) → ReadsRaw bytes others → others ≡ items

-- ---- written back

-- these options as items without a fault
abbrev pub as_raw_items : List RawOption → List RawItem
as_raw_items options = map (λ option. Ok option) options

-- the bytes of some options, one after the other
abbrev pub raw_join : List RawOption → List ℕ
raw_join options = flat_map raw_spelling options

-- The bytes consist of the bytes of options, and then a rest. Either the items are these options, and the rest is empty or begins with the
-- end of the list. Or the items are these options and then one fault, which is the fault of the rest.
pub record AreRawJoined (bytes : List ℕ) (items : List RawItem) : Type 0 where
  pub options : List RawOption
  pub rest : List ℕ
  pub whole : bytes ≡ raw_join options ++ rest
  pub end : ((items ≡ as_raw_items options) × Ends rest)
      ⊎ ((error : TcpRawOptionError) × (items ≡ as_raw_items options ++ (Err error ∷ [])) × (raw_fault rest ≡ Some error))

-- if these bytes are read, the bytes of the options that were read are the bytes at the front, as `AreRawJoined` states
abbrev pub IsWrittenBack : List ℕ → Type 0
IsWrittenBack bytes = (items : List RawItem) → ReadsRaw bytes items → AreRawJoined bytes items

-- ---- compared with the elements

-- the length byte of an option, or 255 if its value is too long
abbrev pub length_byte : RawOption → ℕ
length_byte option = min (length option.value + 2) 255

-- The error for an option that is not an element. It is the fault that the kind and the length byte cause if 40 bytes are left, so that no
-- byte is missing. The end of the list is not an element.
abbrev pub element_refusal : RawOption → Option TcpOptionReadError
element_refusal option =
    if option.kind == end_kind then Some (UnknownId end_kind) else fault_of_kind option.kind (length_byte option) max_options_len

-- The kind of the option has a fixed length. Fewer bytes are left than this length, and the length byte is another length.
abbrev pub IsMissingBytes : ℕ → RawOption → TcpOptionReadError → Option ℕ → Type 0
IsMissingBytes left option error None = ⊥
IsMissingBytes left option error (Some len) = (left < len) × (error ≡ UnexpectedEndOfSlice option.kind len left)
    × (element_refusal option ≡ Some (UnexpectedSize option.kind (length_byte option)))

-- the fault of bytes that begin with this option: the option is not an element, or bytes are missing
abbrev pub IsFaultOf : ℕ → RawOption → TcpOptionReadError → Type 0
IsFaultOf left option error =
    (element_refusal option ≡ Some error) ⊎ IsMissingBytes left option error (length_of_kind option.kind)

-- The items of both readings of these bytes correspond. Each option corresponds to its element. An option that is not an element
-- corresponds to its fault, which ends the reading as elements. A fault of the reading as options corresponds to a fault of the reading as
-- elements.
abbrev pub AreItemsOf : List ℕ → List RawItem → List Item → Type 0
AreItemsOf bytes [] [] = Unit {0}
AreItemsOf bytes (Ok option ∷ options) (Ok element ∷ items) =
    BeginsWith (raw_spelling option) element [] × AreItemsOf (drop (length (raw_spelling option)) bytes) options items
AreItemsOf bytes (Ok option ∷ options) (Err error ∷ items) = IsFaultOf (length bytes) option error × (items ≡ [])
AreItemsOf bytes (Err raw_error ∷ options) (Err error ∷ items) =
    (raw_fault bytes ≡ Some raw_error) × (options ≡ []) × (fault bytes ≡ Some error) × (items ≡ [])
AreItemsOf bytes options items = ⊥

-- both readings of these bytes have corresponding items up to the first fault
abbrev pub ReadsTheSameItems : List ℕ → Type 0
ReadsTheSameItems bytes = (options : List RawItem) (items : List Item) → ReadsRaw bytes options → Reads bytes items
    → AreItemsOf bytes options items

-- The bytes are read as options, and then as more items. These options have the same bytes as these elements, in the same order. If no item
-- follows the elements, no item follows the options.
pub record BeginsAsElements (bytes : List ℕ) (elements : List TcpOptionElement) (others : List Item) : Type 0 where
  pub options : List RawOption
  pub more : List RawItem
  pub reads : ReadsRaw bytes (as_raw_items options ++ more)
  pub same : map raw_spelling options ≡ map spelling elements
  pub no_more : others ≡ [] → more ≡ []

-- up to the first fault, reading these bytes as elements and as options returns the same options
abbrev pub ReadsTheSameOptions : List ℕ → Type 0
ReadsTheSameOptions bytes = (elements : List TcpOptionElement) (others : List Item)
    → Reads bytes (as_items elements ++ others) → BeginsAsElements bytes elements others
