-- The text of each error.
use Rattle.std.specs.Prelude.{ℕ, List, [], ◌∷◌, codes}
use Rattle.std.specs.Fmt.{decimal}
use Rattle.std.specs.List.{concat}
use Rattle.net_base.specs.Layer.{word_of}
use Rattle.net_base.specs.declared.err.len_error.LenError.{LenError}
use Rattle.net_base.specs.declared.err.len_source.LenSource.{LenSource}
use Rattle.net_base.specs.declared.err.len_source.LenSource.TheVariants.{Slice, UdpHeaderLen}
use Rattle.net_base.specs.declared.err.tcp.header_error.HeaderError.{HeaderError}
use Rattle.net_base.specs.declared.err.tcp.header_error.HeaderError.TheVariants.{DataOffsetTooSmall}
use Rattle.net_base.specs.declared.err.tcp.header_slice_error.HeaderSliceError.{HeaderSliceError}
use Rattle.net_base.specs.declared.err.tcp.header_slice_error.HeaderSliceError.TheVariants.{Len, Content}
use Rattle.net_base.specs.declared.err.value_too_big_error.ValueTooBigError.{ValueTooBigError}
use Rattle.net_base.specs.declared.err.value_type.ValueType.{ValueType}
use Rattle.net_base.specs.declared.err.value_type.ValueType.TheVariants.{UdpPayloadLengthIpv4, UdpPayloadLengthIpv6, TcpPayloadLengthIpv4, TcpPayloadLengthIpv6, Icmpv6PayloadLength}
use Rattle.net_base.specs.declared.tcp_option_read_error.TcpOptionReadError.{TcpOptionReadError}
use Rattle.net_base.specs.declared.tcp_option_read_error.TcpOptionReadError.TheVariants.{UnexpectedEndOfSlice, UnexpectedSize, UnknownId}
use Rattle.net_base.specs.declared.tcp_option_write_error.TcpOptionWriteError.{TcpOptionWriteError}
use Rattle.net_base.specs.declared.tcp_option_write_error.TcpOptionWriteError.TheVariants.{NotEnoughSpace}

-- the name of the source of a length
abbrev pub len_source_word : LenSource → List ℕ
len_source_word Slice = codes "Slice"
len_source_word UdpHeaderLen = codes "UdpHeaderLen"

-- the name of a kind of value
abbrev pub value_type_word : ValueType → List ℕ
value_type_word UdpPayloadLengthIpv4 = codes "UdpPayloadLengthIpv4"
value_type_word UdpPayloadLengthIpv6 = codes "UdpPayloadLengthIpv6"
value_type_word TcpPayloadLengthIpv4 = codes "TcpPayloadLengthIpv4"
value_type_word TcpPayloadLengthIpv6 = codes "TcpPayloadLengthIpv6"
value_type_word Icmpv6PayloadLength = codes "Icmpv6PayloadLength"

-- the text for a length that is too short or too long
abbrev pub len_text : LenError → List ℕ
len_text error = concat (
    codes "Length Error: layer " ∷ word_of error.layer
    ∷ codes " at offset " ∷ decimal error.layer_start_offset
    ∷ codes " requires length " ∷ decimal error.required_len
    ∷ codes ", the length is " ∷ decimal error.len
    ∷ codes " (from " ∷ len_source_word error.len_source ∷ codes ")." ∷ [])

-- the text for a value above its limit
abbrev pub value_text : ValueTooBigError ℕ → List ℕ
value_text error = concat (
    codes "Value Error: " ∷ value_type_word error.value_type ∷ codes " " ∷ decimal error.actual
    ∷ codes " is above " ∷ decimal error.max_allowed ∷ codes "." ∷ [])

-- the text for a TCP header whose fields are wrong
abbrev pub header_text : HeaderError → List ℕ
header_text (DataOffsetTooSmall data_offset) = concat (
    codes "TCP Header Error: 'data offset' too small (" ∷ decimal data_offset
    ∷ codes "). The 'data offset' must be at least 5 so the data is not overlapping with the TCP header itself." ∷ [])

-- the text for a TCP header that can't be read
abbrev pub header_slice_text : HeaderSliceError → List ℕ
header_slice_text (Len error) = len_text error
header_slice_text (Content error) = header_text error

-- the text for options that are too long
abbrev pub options_text : TcpOptionWriteError → List ℕ
options_text (NotEnoughSpace len) = concat (
    codes "TcpOptionWriteError: Not enough memory to store all options in the options section of a tcp header "
    ∷ codes "(maximum 40 bytes can be stored, the options would have needed "
    ∷ decimal len ∷ codes " bytes)." ∷ [])

-- the text for an option that can't be read
abbrev pub option_text : TcpOptionReadError → List ℕ
option_text (UnexpectedEndOfSlice kind expected left) = concat (
    codes "TcpOptionReadError: Not enough memory left in slice to read option of kind " ∷ decimal kind
    ∷ codes " (expected at least " ∷ decimal expected ∷ codes " bytes, only " ∷ decimal left ∷ codes " bytes available)." ∷ [])
option_text (UnexpectedSize kind size) = concat (
    codes "TcpOptionReadError: Length value of the option of kind " ∷ decimal kind
    ∷ codes " had unexpected value " ∷ decimal size ∷ codes "." ∷ [])
option_text (UnknownId kind) = concat (codes "TcpOptionReadError: Unknown tcp option kind value " ∷ decimal kind ∷ codes "." ∷ [])
