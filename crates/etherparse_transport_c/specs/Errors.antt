-- Errors in the interface to C: the number of each variant, and one record for all kinds of errors.
use Rattle.std.specs.Prelude.{◌≡◌, ◌⊎◌, ℕ, Bool, true, false, if◌then◌else◌, ◌==◌, nat_lt, List, ◌++◌, length, drop, Option, None, Some}
use Rattle.etherparse_transport.specs.declared.err.packet.answer_echo_error.AnswerEchoError.{AnswerEchoError}
use Rattle.etherparse_transport.specs.declared.err.packet.answer_echo_error.AnswerEchoError.TheVariants as echo
use Rattle.etherparse_transport.specs.declared.err.packet.build_slice_write_error.BuildSliceWriteError.{BuildSliceWriteError}
use Rattle.etherparse_transport.specs.declared.err.packet.build_slice_write_error.BuildSliceWriteError.TheVariants as build
use Rattle.etherparse_transport.specs.declared.err.packet.translate_error.TranslateError.{TranslateError}
use Rattle.etherparse_transport.specs.declared.err.packet.translate_error.TranslateError.TheVariants as translate
use Rattle.etherparse_transport.specs.declared.err.packet.write_checksum_error.WriteChecksumError.{WriteChecksumError}
use Rattle.etherparse_transport.specs.declared.err.packet.write_checksum_error.WriteChecksumError.TheVariants as write
use Rattle.ip_part.specs.declared.ip_error.IpError.{IpError}
use Rattle.ip_part.specs.declared.ip_error.IpError.TheVariants as ip
use Rattle.net_base.specs.Refusals.{refused_if}
use Rattle.net_base.specs.declared.err.layer.Layer.{Layer}
use Rattle.net_base.specs.declared.err.layer.Layer.TheVariants as layers
use Rattle.net_base.specs.declared.err.len_error.LenError.{LenError}
use Rattle.net_base.specs.declared.err.len_source.LenSource.{LenSource}
use Rattle.net_base.specs.declared.err.len_source.LenSource.TheVariants.{Slice, UdpHeaderLen}
use Rattle.net_base.specs.declared.err.tcp.header_error.HeaderError.TheVariants.{DataOffsetTooSmall}
use Rattle.net_base.specs.declared.err.tcp.header_slice_error.HeaderSliceError.{HeaderSliceError}
use Rattle.net_base.specs.declared.err.tcp.header_slice_error.HeaderSliceError.TheVariants.{Len, Content}
use Rattle.net_base.specs.declared.err.value_too_big_error.ValueTooBigError.{ValueTooBigError}
use Rattle.net_base.specs.declared.err.value_type.ValueType.{ValueType}
use Rattle.net_base.specs.declared.err.value_type.ValueType.TheVariants as values
use Rattle.net_base.specs.declared.tcp_option_read_error.TcpOptionReadError.{TcpOptionReadError}
use Rattle.net_base.specs.declared.tcp_option_read_error.TcpOptionReadError.TheVariants.{UnexpectedEndOfSlice, UnexpectedSize, UnknownId}
use Rattle.net_base.specs.declared.tcp_option_write_error.TcpOptionWriteError.{TcpOptionWriteError}
use Rattle.net_base.specs.declared.tcp_option_write_error.TcpOptionWriteError.TheVariants.{NotEnoughSpace}
use Rattle.tcp_part.specs.TcpOptions.{max_options_len}
use Rattle.tcp_part.specs.declared.tcp_raw_option_error.TcpRawOptionError.{TcpRawOptionError}
use Rattle.tcp_part.specs.declared.tcp_raw_option_error.TcpRawOptionError.TheVariants.{NoLengthByte, LengthBelowTwo, LengthBeyondEnd}
use Rattle.transport_part.specs.declared.checksum_verdict.Untested as reasons
use Rattle.transport_part.specs.declared.checksum_verdict.Untested.TheVariants.{CutOff, Fragment, OtherProtocol, TooLong, UnknownDestination, ZeroLength}
use Rattle.etherparse_transport_c.specs.Numbers as numbers
use Rattle.etherparse_transport_c.specs.declared.answer.Answer.{Answer}
use Rattle.etherparse_transport_c.specs.declared.answer.ErrorPlace.{ErrorPlace}
use Rattle.etherparse_transport_c.specs.declared.error.EtherparseError.{EtherparseError}

-- ---- the number of each variant

-- the number of a layer in C
abbrev pub layer_number : Layer → ℕ
layer_number layers.UdpHeader = numbers.layer_udp_header
layer_number layers.UdpPayload = numbers.layer_udp_payload
layer_number layers.TcpHeader = numbers.layer_tcp_header
layer_number layers.Icmpv4 = numbers.layer_icmpv4
layer_number layers.Icmpv4Timestamp = numbers.layer_icmpv4_timestamp
layer_number layers.Icmpv4TimestampReply = numbers.layer_icmpv4_timestamp_reply
layer_number layers.Icmpv6 = numbers.layer_icmpv6

-- the number in C of the source that states a length
abbrev pub len_source_number : LenSource → ℕ
len_source_number Slice = numbers.len_source_slice
len_source_number UdpHeaderLen = numbers.len_source_udp_header_len

-- the number in C of a kind of value that can be too big
abbrev pub value_type_number : ValueType → ℕ
value_type_number values.UdpPayloadLengthIpv4 = numbers.value_udp_payload_length_ipv4
value_type_number values.UdpPayloadLengthIpv6 = numbers.value_udp_payload_length_ipv6
value_type_number values.TcpPayloadLengthIpv4 = numbers.value_tcp_payload_length_ipv4
value_type_number values.TcpPayloadLengthIpv6 = numbers.value_tcp_payload_length_ipv6
value_type_number values.Icmpv6PayloadLength = numbers.value_icmpv6_payload_length

-- the number in C of the verdict that a checksum is not tested for this reason
abbrev pub untested_number : reasons.Untested → ℕ
untested_number Fragment = numbers.verdict_untested_fragment
untested_number CutOff = numbers.verdict_untested_cut_off
untested_number UnknownDestination = numbers.verdict_untested_unknown_destination
untested_number OtherProtocol = numbers.verdict_untested_other_protocol
untested_number ZeroLength = numbers.verdict_untested_zero_length
untested_number TooLong = numbers.verdict_untested_too_long

-- ---- errors

-- an error in which every field is 0
abbrev pub nothing : EtherparseError
nothing = record {
  status = 0;
  layer = 0;
  len_source = 0;
  value_type = 0;
  data_offset = 0;
  option_kind = 0;
  option_size = 0;
  required_len = 0;
  len = 0;
  layer_start_offset = 0;
  actual = 0;
  max_allowed = 0;
}

-- the error for a wrong length
abbrev pub of_len : LenError → EtherparseError
of_len error = record nothing {
  status = numbers.status_length;
  layer = layer_number error.layer;
  len_source = len_source_number error.len_source;
  required_len = error.required_len;
  len = error.len;
  layer_start_offset = error.layer_start_offset;
}

-- the error for a refused transport header: a wrong length, or a TCP data offset that is too small
abbrev pub of_header_slice : HeaderSliceError → EtherparseError
of_header_slice (Len error) = of_len error
of_header_slice (Content (DataOffsetTooSmall data_offset)) =
    record nothing { status = numbers.status_data_offset; data_offset = data_offset }

-- the error for a value that is too big
abbrev pub of_value : ValueTooBigError ℕ → EtherparseError
of_value error = record nothing {
  status = numbers.status_value_too_big;
  value_type = value_type_number error.value_type;
  actual = error.actual;
  max_allowed = error.max_allowed;
}

-- the error for a buffer of the caller that is too small
abbrev pub of_buffer : ℕ → ℕ → EtherparseError
of_buffer required_len len = record nothing { status = numbers.status_buffer_too_small; required_len = required_len; len = len }

-- the error for TCP flags above 0x1ff, which contain a bit that is not one of the nine flags
abbrev pub of_flags : ℕ → EtherparseError
of_flags flags = record nothing { status = numbers.status_flags_unknown; actual = flags; max_allowed = numbers.tcp_flags }

-- the error for a protocol that the call does not accept
abbrev pub of_protocol : ℕ → EtherparseError
of_protocol number = record nothing { status = numbers.status_protocol_unknown; actual = number }

-- an error that consists only of a status
abbrev pub of_status : ℕ → EtherparseError
of_status status = record nothing { status = status }

-- the error for TCP options that can't be written
abbrev pub of_options : TcpOptionWriteError → EtherparseError
of_options (NotEnoughSpace len) = record nothing { status = numbers.status_options_too_long; required_len = max_options_len; len = len }

-- the error for an option of a known kind that can't be read
abbrev pub of_option : TcpOptionReadError → EtherparseError
of_option (UnexpectedEndOfSlice kind expected left) =
    record nothing { status = numbers.status_option_cut_off; option_kind = kind; required_len = expected; len = left }
of_option (UnexpectedSize kind size) = record nothing { status = numbers.status_option_size; option_kind = kind; option_size = size }
of_option (UnknownId kind) = record nothing { status = numbers.status_option_unknown; option_kind = kind }

-- the error for an option of any kind that can't be read; if the length byte is missing, two bytes are required and one is present
abbrev pub of_raw_option : TcpRawOptionError → EtherparseError
of_raw_option (NoLengthByte kind) = record nothing { status = numbers.status_option_cut_off; option_kind = kind; required_len = 2; len = 1 }
of_raw_option (LengthBelowTwo kind size) = record nothing { status = numbers.status_option_size; option_kind = kind; option_size = size }
of_raw_option (LengthBeyondEnd kind size left) =
    record nothing { status = numbers.status_option_cut_off; option_kind = kind; required_len = size; len = left }

-- the error for an unknown kind of option
abbrev pub of_option_kind : ℕ → EtherparseError
of_option_kind kind = record nothing { status = numbers.status_option_unknown; option_kind = kind }

-- the error for values that an option of this kind can't have
abbrev pub of_option_values : ℕ → EtherparseError
of_option_values kind = record nothing { status = numbers.status_option_values; option_kind = kind }

-- the error for a wrong length of an IP packet; `required_len` is a length that the call would have accepted
abbrev pub of_ip_length : ℕ → ℕ → ℕ → EtherparseError
of_ip_length status required_len len = record nothing { status = status; required_len = required_len; len = len }

-- The error for a refused IP packet. If a length in the header is too small, `required_len` is the minimum. The minimum is 20 for a header
-- length, the header length for a total length, and 65,536 for a jumbo payload length. `actual` is the version, the number of an extension
-- header, or the payload length.
abbrev pub of_ip : IpError → EtherparseError
of_ip (ip.HeaderCutOff required_len len) = of_ip_length numbers.status_ip_header_cut_off required_len len
of_ip (ip.Version version) = record nothing { status = numbers.status_ip_version; actual = version }
of_ip (ip.HeaderLength header_len) = of_ip_length numbers.status_ip_header_length 20 header_len
of_ip (ip.TotalLength total_len header_len) = of_ip_length numbers.status_ip_total_length header_len total_len
of_ip (ip.PacketCutOff required_len len) = of_ip_length numbers.status_ip_packet_cut_off required_len len
of_ip (ip.ExtensionHeaderCutOff protocol offset required_len len) =
    record (of_ip_length numbers.status_ip_extension_cut_off required_len len) { layer_start_offset = offset; actual = protocol.0 }
of_ip ip.JumboPayloadMissing = of_status numbers.status_ip_jumbo_payload_missing
of_ip (ip.JumboPayloadLength jumbo_payload_len) = of_ip_length numbers.status_ip_jumbo_payload_length 65536 jumbo_payload_len
of_ip (ip.JumboPayloadUnexpected payload_len) =
    record nothing { status = numbers.status_ip_jumbo_payload_unexpected; actual = payload_len }
of_ip (ip.JumboPayloadFragment offset) =
    record nothing { status = numbers.status_ip_jumbo_payload_fragment; layer_start_offset = offset }

-- the error for a refused echo request; a wrong checksum of the message has the same status as in every other call
abbrev pub of_answer_echo : AnswerEchoError → EtherparseError
of_answer_echo (echo.Ip error) = of_ip error
of_answer_echo echo.Fragment = of_status numbers.status_echo_fragment
of_answer_echo echo.NoEchoRequest = of_status numbers.status_echo_no_request
of_answer_echo echo.Options = of_status numbers.status_echo_has_options
of_answer_echo (echo.Len error) = of_len error
of_answer_echo echo.HeaderChecksum = of_status numbers.status_echo_header_checksum_wrong
of_answer_echo echo.Checksum = of_status numbers.status_checksum_wrong
of_answer_echo echo.RequestSource = of_status numbers.status_echo_request_source
of_answer_echo echo.ReplySource = of_status numbers.status_echo_reply_source

-- the error for a packet that is not translated; `other_version` is the IP version that the call does not accept
abbrev pub of_translate : ℕ → TranslateError → EtherparseError
of_translate other_version (translate.Ip error) = of_ip error
of_translate other_version translate.OtherVersion = of_ip (ip.Version other_version)
of_translate other_version translate.SourceRoute = of_status numbers.status_translate_source_route
of_translate other_version (translate.Protocol protocol) =
    record nothing { status = numbers.status_translate_protocol; actual = protocol.0 }
of_translate other_version (translate.HeaderCutOff required_len len) =
    of_ip_length numbers.status_translate_header_cut_off required_len len
of_translate other_version translate.IcmpMessage = of_status numbers.status_translate_icmp_message
of_translate other_version translate.QuotedPacket = of_status numbers.status_translate_quoted_packet

-- the error of a call that stores no checksum in a packet; if the checksum is not tested, `actual` is the number of the verdict
abbrev pub of_write_checksum : WriteChecksumError → EtherparseError
of_write_checksum (write.Ip error) = of_ip error
of_write_checksum (write.Transport error) = of_header_slice error
of_write_checksum (write.Untested why) = record nothing { status = numbers.status_checksum_untested; actual = untested_number why }

-- the error of a call that writes no packet; ICMP of the other IP version is a protocol that the call does not accept
abbrev pub of_build : BuildSliceWriteError → EtherparseError
of_build (build.Space required_len len) = of_buffer required_len len
of_build (build.PayloadLen actual max_allowed) = record nothing {
  status = numbers.status_value_too_big;
  value_type = numbers.value_ip_payload_length;
  actual = actual;
  max_allowed = max_allowed;
}
of_build (build.TimestampLen error) = of_len error
of_build build.Icmpv6InIpv4 = of_protocol numbers.protocol_icmpv6
of_build build.Icmpv4InIpv6 = of_protocol numbers.protocol_icmpv4

-- ---- results of calls

-- the status of a call: `OK`, or the status of the refusal
abbrev pub status_of : Option EtherparseError → ℕ
status_of None = numbers.status_ok
status_of (Some error) = error.status

-- if the pointer is not NULL, it points to this error after the call
abbrev pub Leaves : ErrorPlace → Answer → EtherparseError → Type 0
Leaves place answer error = (answer.pointer ≡ place.pointer) × (answer.error ≡ error)

-- what a pointer points to after the call: the new value, or the old value if the call refused its input
abbrev pub unless_refused : {A : Type 0} → Option EtherparseError → A → A → A
unless_refused None made before = made
unless_refused (Some error) made before = before

-- the refusal if a buffer of `len` bytes has no room for `needed` bytes
abbrev pub no_room : ℕ → ℕ → Option EtherparseError
no_room needed len = refused_if (nat_lt len needed) (of_buffer needed len)

-- a buffer with these bytes at its front; the bytes after them are unchanged
unfoldable pub at_front : List ℕ → List ℕ → List ℕ
at_front bytes buffer = bytes ++ drop (length bytes) buffer

-- The status of the test of a checksum. If the packet is refused, it is the status of the refusal. Otherwise it states whether the checksum
-- is absent, right or wrong.
abbrev pub Tells : Option EtherparseError → Bool → Type 0 → ℕ → Type 0
Tells (Some error) absent Valid status = status ≡ error.status
Tells None true Valid status = status ≡ numbers.status_checksum_absent
Tells None false Valid status = ((status ≡ numbers.status_ok) × Valid) ⊎ ((status ≡ numbers.status_checksum_wrong) × (Valid → ⊥))

-- The error after a test that returned this status. If the packet is refused, it is the refusal. If the status is `OK`, the error is
-- unchanged. For any other status, the error consists only of the status.
abbrev pub test_error : Option EtherparseError → ℕ → EtherparseError → EtherparseError
test_error (Some error) status before = error
test_error None status before = if status == numbers.status_ok then before else of_status status

-- the test returns this status and no other
abbrev pub Answers : (ℕ → Type 0) → ℕ → Type 0
Answers Told status = Told status × ((other : ℕ) → Told other → other ≡ status)

-- the first of two refusals, or `None` if neither refuses
abbrev pub first_refusal : Option EtherparseError → Option EtherparseError → Option EtherparseError
first_refusal (Some error) other = Some error
first_refusal None other = other
