-- TCP options to write, in the interface to C. An element is an option in the form of the library in Rattle.
use Rattle.std.specs.Prelude.{ℕ, Bool, ◌+◌, ◌==◌, ◌&&◌, ◌||◌, not, nat_lt, if◌then◌else◌, List, [], ◌∷◌, ◌++◌, length, slice_index, Option, Some, None, Result, Ok, Err}
use Rattle.std.specs.Option.{option_map}
use Rattle.tcp_part.specs.TcpOptions.{join, pad, saturated, too_long}
use Rattle.tcp_part.specs.declared.tcp_option_element.TcpOptionElement.{TcpOptionElement}
use Rattle.tcp_part.specs.declared.tcp_option_element.TcpOptionElement.TheVariants.{Noop, MaximumSegmentSize, WindowScale, SelectiveAcknowledgementPermitted, SelectiveAcknowledgement, Timestamp}
use Rattle.etherparse_transport_c.specs.Errors.{first_refusal, no_room, of_option_kind, of_option_values, of_options}
use Rattle.etherparse_transport_c.specs.Numbers as numbers
use Rattle.etherparse_transport_c.specs.declared.error.EtherparseError.{EtherparseError}
use Rattle.etherparse_transport_c.specs.declared.tcp_option.EtherparseTcpOption.{EtherparseTcpOption}

-- ---- one option

-- the value at this place in the list of values of an option
abbrev pub value : EtherparseTcpOption → ℕ → ℕ
value option place = slice_index option.values place

-- this element if the option has no values, otherwise `None`
abbrev pub bare_in : EtherparseTcpOption → TcpOptionElement → Option TcpOptionElement
bare_in option element = if option.value_count == 0 then Some element else None

-- the maximum segment size, if the option has exactly one value, which fits in 16 bits (RFC 9293, section 3.1)
abbrev pub size_in : EtherparseTcpOption → Option TcpOptionElement
size_in option =
    if option.value_count == 1 && not (nat_lt 0xffff (value option 0)) then Some (MaximumSegmentSize (value option 0)) else None

-- the window scale, if the option has exactly one value, which fits in 8 bits (RFC 7323, section 2.2)
abbrev pub shift_in : EtherparseTcpOption → Option TcpOptionElement
shift_in option =
    if option.value_count == 1 && not (nat_lt 0xff (value option 0)) then Some (WindowScale (value option 0)) else None

-- the block whose left edge is the value at this place, if the option has both edges
abbrev pub block_in : EtherparseTcpOption → ℕ → Option (ℕ × ℕ)
block_in option place = if nat_lt place option.value_count then Some (value option place, value option (place + 1)) else None

-- the option has the edges of one to four blocks (RFC 2018, section 3)
abbrev pub has_whole_blocks : EtherparseTcpOption → Bool
has_whole_blocks option = option.value_count == 2 || (option.value_count == 4 || (option.value_count == 6 || option.value_count == 8))

-- the selective acknowledgement, if the values of the option are whole blocks
abbrev pub blocks_in : EtherparseTcpOption → Option TcpOptionElement
blocks_in option =
    if has_whole_blocks option
    then Some (SelectiveAcknowledgement (value option 0, value option 1) (block_in option 2 ∷ block_in option 4 ∷ block_in option 6 ∷ []))
    else None

-- the timestamp value and its echo reply, if the option has exactly two values (RFC 7323, section 3.2)
abbrev pub timestamp_in : EtherparseTcpOption → Option TcpOptionElement
timestamp_in option = if option.value_count == 2 then Some (Timestamp (value option 0) (value option 1)) else None

-- The element with the kind and the values of an option. It is `None` if the kind is unknown, or if an option of this kind can't have these
-- values. Only the first `value_count` values are used.
abbrev pub element_in : EtherparseTcpOption → Option TcpOptionElement
element_in option =
    if option.kind == numbers.tcp_option_noop then bare_in option Noop
    else if option.kind == numbers.tcp_option_maximum_segment_size then size_in option
    else if option.kind == numbers.tcp_option_window_scale then shift_in option
    else if option.kind == numbers.tcp_option_sack_permitted then bare_in option SelectiveAcknowledgementPermitted
    else if option.kind == numbers.tcp_option_sack then blocks_in option
    else if option.kind == numbers.tcp_option_timestamp then timestamp_in option
    else None

-- the kind is one of the six known kinds
abbrev pub is_known : ℕ → Bool
is_known kind =
    kind == numbers.tcp_option_noop || (kind == numbers.tcp_option_maximum_segment_size || (kind == numbers.tcp_option_window_scale
    || (kind == numbers.tcp_option_sack_permitted || (kind == numbers.tcp_option_sack || kind == numbers.tcp_option_timestamp))))

-- the error for an option without an element: its kind is unknown, or its values are wrong for its kind
abbrev pub no_element : EtherparseTcpOption → EtherparseError
no_element option = if is_known option.kind then of_option_values option.kind else of_option_kind option.kind

-- ---- several options

-- Appends the element of an option to the elements `found`, and passes the longer list to `further`, which appends the elements of the next
-- options. If the option has no element, the result is the error for this option.
abbrev pub gathered_next : (List TcpOptionElement → Result (List TcpOptionElement) EtherparseError) → List TcpOptionElement
    → EtherparseTcpOption → Option TcpOptionElement → Result (List TcpOptionElement) EtherparseError
gathered_next further found option None = Err (no_element option)
gathered_next further found option (Some element) = further (found ++ (element ∷ []))

-- The elements `found`, followed by the elements of these options. If an option has a wrong kind or value, the result is the error for the
-- first such option.
abbrev pub gathered : List TcpOptionElement → List EtherparseTcpOption → Result (List TcpOptionElement) EtherparseError
gathered found [] = Ok found
gathered found (option ∷ options) = gathered_next (λ longer. gathered longer options) found option (element_in option)

-- the refusal of options, given the result of `gathered`: its error, or an error if the elements have more than 40 bytes
abbrev pub refusal_of : Result (List TcpOptionElement) EtherparseError → Option EtherparseError
refusal_of (Ok elements) = option_map of_options (too_long (saturated (length (join elements))))
refusal_of (Err error) = Some error

-- the bytes of the elements that `gathered` returned, padded with zeros to whole words of four bytes; no bytes if it returned an error
abbrev pub bytes_of : Result (List TcpOptionElement) EtherparseError → List ℕ
bytes_of (Ok elements) = pad (join elements)
bytes_of (Err error) = []

-- the refusal of these options: the error for the first option with a wrong kind or value, or an error if all options have more than 40
-- bytes
abbrev pub options_refusal : List EtherparseTcpOption → Option EtherparseError
options_refusal options = refusal_of (gathered [] options)

-- the bytes of accepted options, padded with zeros to whole words of four bytes
abbrev pub joined_bytes : List EtherparseTcpOption → List ℕ
joined_bytes options = bytes_of (gathered [] options)

-- the refusal to write options: they are refused, or the buffer is too small
abbrev pub write_refusal : List EtherparseTcpOption → ℕ → Option EtherparseError
write_refusal options room = first_refusal (options_refusal options) (no_room (length (joined_bytes options)) room)
