-- The input of a hash. For an enum with several variants, it begins with the place of the variant, from 0, as a number
-- of 64 bits. Then it contains every field, in the order of the fields.
use Rattle.std.specs.Prelude.{ℕ, pos, List, ◌++◌}
use Rattle.std.specs.Hash as fed
use Rattle.net_base.specs.declared.err.layer.Layer.{Layer}
use Rattle.net_base.specs.declared.err.layer.Layer.TheVariants.{UdpHeader, UdpPayload, TcpHeader, Icmpv4, Icmpv4Timestamp, Icmpv4TimestampReply, Icmpv6}
use Rattle.net_base.specs.declared.err.len_error.LenError.{LenError}
use Rattle.net_base.specs.declared.err.len_source.LenSource.{LenSource}
use Rattle.net_base.specs.declared.err.len_source.LenSource.TheVariants.{Slice, UdpHeaderLen}
use Rattle.net_base.specs.declared.err.tcp.header_error.HeaderError.{HeaderError}
use Rattle.net_base.specs.declared.err.tcp.header_error.HeaderError.TheVariants.{DataOffsetTooSmall}
use Rattle.net_base.specs.declared.err.tcp.header_slice_error.HeaderSliceError.{HeaderSliceError}
use Rattle.net_base.specs.declared.err.tcp.header_slice_error.HeaderSliceError.TheVariants.{Len, Content}
use Rattle.net_base.specs.declared.err.value_too_big_error.ValueTooBigError.{ValueTooBigError}
use Rattle.net_base.specs.declared.err.value_type.ValueType.{ValueType}
use Rattle.net_base.specs.declared.err.value_type.ValueType.TheVariants.{UdpPayloadLengthIpv4, UdpPayloadLengthIpv6, TcpPayloadLengthIpv4, TcpPayloadLengthIpv6, Icmpv6PayloadLength}

-- the input for the place of a variant
abbrev pub place : ℕ → List (List ℕ)
place number = fed.isize (pos number)

-- the input for a `LenSource`
abbrev pub len_source_input : LenSource → List (List ℕ)
len_source_input Slice = place 0
len_source_input UdpHeaderLen = place 1

-- the input for a `Layer`
abbrev pub layer_input : Layer → List (List ℕ)
layer_input UdpHeader = place 0
layer_input UdpPayload = place 1
layer_input TcpHeader = place 2
layer_input Icmpv4 = place 3
layer_input Icmpv4Timestamp = place 4
layer_input Icmpv4TimestampReply = place 5
layer_input Icmpv6 = place 6

-- the input for a `ValueType`
abbrev pub value_type_input : ValueType → List (List ℕ)
value_type_input UdpPayloadLengthIpv4 = place 0
value_type_input UdpPayloadLengthIpv6 = place 1
value_type_input TcpPayloadLengthIpv4 = place 2
value_type_input TcpPayloadLengthIpv6 = place 3
value_type_input Icmpv6PayloadLength = place 4

-- the input for a `LenError`
abbrev pub len_error_input : LenError → List (List ℕ)
len_error_input error =
    fed.usize error.required_len ++ (fed.usize error.len
    ++ (len_source_input error.len_source ++ (layer_input error.layer ++ fed.usize error.layer_start_offset)))

-- the input for a `ValueTooBigError`
abbrev pub value_too_big_error_input : ValueTooBigError ℕ → List (List ℕ)
value_too_big_error_input error =
    fed.usize error.actual ++ (fed.usize error.max_allowed ++ value_type_input error.value_type)

-- the input for a `HeaderError`
abbrev pub header_error_input : HeaderError → List (List ℕ)
header_error_input (DataOffsetTooSmall data_offset) = fed.u8 data_offset

-- the input for a `HeaderSliceError`
abbrev pub header_slice_error_input : HeaderSliceError → List (List ℕ)
header_slice_error_input (Len error) = place 0 ++ len_error_input error
header_slice_error_input (Content error) = place 1 ++ header_error_input error
