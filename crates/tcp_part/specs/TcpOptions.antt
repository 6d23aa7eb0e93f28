-- TCP options as bytes (RFC 9293, section 3.1): how an option and a list of options are written, and the order of bytes.
use Rattle.std.specs.Prelude.{ℕ, ◌+◌, ◌-◌, ◌%◌, ◌<◌, ◌^◌, ◌≡◌, ◌⊎◌, nat_lt, min, List, [], ◌∷◌, ◌++◌, length, slice_index, take, replicate, Option, Some, None, Result, IfOk}
use Rattle.std.specs.Int.{to_be_bytes, w16, w32}
use Rattle.std.specs.List.{flat_map}
use Rattle.net_base.specs.declared.tcp_option_write_error.TcpOptionWriteError.{TcpOptionWriteError}
use Rattle.net_base.specs.declared.tcp_option_write_error.TcpOptionWriteError.TheVariants.{NotEnoughSpace}
use Rattle.net_base.specs.Refusals.{RefusesExactly, refused_if}
use Rattle.tcp_part.specs.TcpOptionKinds.{maximum_segment_size_kind, noop_kind, sack_kind, sack_permitted_kind, timestamp_kind, window_scale_kind}
use Rattle.tcp_part.specs.declared.tcp_option_element.TcpOptionElement.{TcpOptionElement}
use Rattle.tcp_part.specs.declared.tcp_option_element.TcpOptionElement.TheVariants.{Noop, MaximumSegmentSize, WindowScale, SelectiveAcknowledgementPermitted, SelectiveAcknowledgement, Timestamp}

-- ---- elements

-- two numbers of 32 bits: the edges of a block (RFC 2018, section 3), or a timestamp and its echo (RFC 7323, section 3.2)
unfoldable pub pair : ℕ × ℕ → List ℕ
pair numbers = to_be_bytes w32 numbers.0 ++ to_be_bytes w32 numbers.1

-- the bytes of a block, if it is present
abbrev pub block_bytes : Option (ℕ × ℕ) → List ℕ
block_bytes None = []
block_bytes (Some block) = pair block

-- an option with a length byte (RFC 9293, section 3.1, case 2): its kind, its length, which also counts these two bytes, and its value
abbrev pub with_length : ℕ → List ℕ → List ℕ
with_length kind value = kind ∷ (length value + 2) ∷ value

-- the bytes of an element
--
--   kind                                                    length          value
--   1  no operation                         RFC 9293, 3.2   none
--   2  maximum segment size                 RFC 9293, 3.2   4               16 bits
--   3  window scale                         RFC 7323, 2.2   3               8 bits
--   4  selective acknowledgement permitted  RFC 2018, 2     2
--   5  selective acknowledgement            RFC 2018, 3     10, 18, 26, 34  the blocks that are present, each two numbers of 32 bits
--   8  timestamp                            RFC 7323, 3.2   10              two numbers of 32 bits
abbrev pub spelling : TcpOptionElement → List ℕ
spelling Noop = noop_kind ∷ []
spelling (MaximumSegmentSize size) = with_length maximum_segment_size_kind (to_be_bytes w16 size)
spelling (WindowScale shift) = with_length window_scale_kind (shift ∷ [])
spelling SelectiveAcknowledgementPermitted = with_length sack_permitted_kind []
spelling (SelectiveAcknowledgement first more) = with_length sack_kind (pair first ++ flat_map block_bytes more)
spelling (Timestamp value echo) = with_length timestamp_kind (pair (value, echo))

-- the present blocks in their order, followed by the absent blocks
abbrev pub present_first : List (Option (ℕ × ℕ)) → List (Option (ℕ × ℕ))
present_first [] = []
present_first (None ∷ more) = present_first more ++ (None ∷ [])
present_first (Some block ∷ more) = Some block ∷ present_first more

-- an element as it is read back: the present blocks come first, since the bytes do not show the place of an absent block
abbrev pub front : TcpOptionElement → TcpOptionElement
front Noop = Noop
front (MaximumSegmentSize size) = MaximumSegmentSize size
front (WindowScale shift) = WindowScale shift
front SelectiveAcknowledgementPermitted = SelectiveAcknowledgementPermitted
front (SelectiveAcknowledgement first more) = SelectiveAcknowledgement first (present_first more)
front (Timestamp value echo) = Timestamp value echo

-- ---- lists of elements

-- the bytes of some elements, one after the other
abbrev pub join : List TcpOptionElement → List ℕ
join elements = flat_map spelling elements

-- The bytes, padded with the fewest zeros to a multiple of 4, since the length of a header is counted in words of 4 bytes. A zero ends the
-- list of options (RFC 9293, section 3.1).
abbrev pub pad : List ℕ → List ℕ
pad bytes = bytes ++ replicate ((4 - length bytes % 4) % 4) 0

-- The greatest length of the options of a header, in bytes. A data offset counts at most 15 words of 4 bytes, and a header without options
-- has 5 words (RFC 9293, section 3.1).
abbrev pub max_options_len : ℕ
max_options_len = 40

-- the number, or `usize::MAX` if it is greater
abbrev pub saturated : ℕ → ℕ
saturated number = min number (2 ^ 64 - 1)

-- the error if there are more bytes of options than a header has room for
abbrev pub too_long : ℕ → Option TcpOptionWriteError
too_long len = refused_if (nat_lt max_options_len len) (NotEnoughSpace len)

-- the result of making options of these bytes: the padded bytes, or an error
abbrev pub PadsOrRefuses : List ℕ → Result (List ℕ) TcpOptionWriteError → Type 0
PadsOrRefuses bytes result = RefusesExactly result (too_long (length bytes)) × IfOk result (λ options. options ≡ pad bytes)

-- the result of making options of these elements: their padded bytes, or an error
abbrev pub JoinsOrRefuses : List TcpOptionElement → Result (List ℕ) TcpOptionWriteError → Type 0
JoinsOrRefuses elements result =
    RefusesExactly result (too_long (saturated (length (join elements)))) × IfOk result (λ options. options ≡ pad (join elements))

-- ---- order

-- `a` is before `b` in the order of bytes: at the first place where they differ, the byte of `a` is smaller. A list is also before every
-- longer list that begins with it.
abbrev pub IsBefore : List ℕ → List ℕ → Type 0
IsBefore a b = (place : ℕ) × (take place a ≡ take place b)
    × (((place < length a) × (place < length b) × (slice_index a place < slice_index b place)) ⊎ ((length a ≡ place) × (place < length b)))
