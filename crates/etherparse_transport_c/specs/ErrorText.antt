-- The text of each error.
use Rattle.std.specs.Prelude.{ℕ, ◌==◌, ◌&&◌, nat_lt, nat_le, if◌then◌else◌, List, [], ◌∷◌, codes, option_and_then, Option, None, Some}
use Rattle.std.specs.Fmt.{decimal}
use Rattle.std.specs.List.{concat}
use Rattle.std.specs.Option.{option_map}
use Rattle.etherparse_transport.specs.ErrorTexts.{answer_echo_text, build_text, error_about_text, lower_hop_limit_text, lower_maximum_segment_size_text, translate_text, untested_text}
use Rattle.etherparse_transport.specs.declared.err.packet.answer_echo_error.AnswerEchoError.TheVariants as echo
use Rattle.etherparse_transport.specs.declared.err.packet.answer_echo_error.AnswerEchoError.{AnswerEchoError}
use Rattle.etherparse_transport.specs.declared.err.packet.build_slice_write_error.BuildSliceWriteError.TheVariants as build
use Rattle.etherparse_transport.specs.declared.err.packet.build_slice_write_error.BuildSliceWriteError.{BuildSliceWriteError}
use Rattle.etherparse_transport.specs.declared.err.packet.error_about_error.ErrorAboutError.TheVariants as about
use Rattle.etherparse_transport.specs.declared.err.packet.lower_hop_limit_error.LowerHopLimitError.TheVariants as lower
use Rattle.etherparse_transport.specs.declared.err.packet.lower_maximum_segment_size_error.LowerMaximumSegmentSizeError.TheVariants as segment_size
use Rattle.etherparse_transport.specs.declared.err.packet.translate_error.TranslateError.{TranslateError}
use Rattle.etherparse_transport.specs.declared.err.packet.translate_error.TranslateError.TheVariants as translate
use Rattle.ip_part.specs.ErrorTexts.{ip_text}
use Rattle.ip_part.specs.declared.ip_error.IpError.{IpError}
use Rattle.ip_part.specs.declared.ip_error.IpError.TheVariants as ip
use Rattle.ip_translation.specs.ErrorTexts.{address_text, packet_text, prefix_text, translation_text}
use Rattle.ip_translation.specs.declared.address_error.AddressError.TheVariants as addresses
use Rattle.ip_translation.specs.declared.packet_translation_error.PacketTranslationError.{PacketTranslationError}
use Rattle.ip_translation.specs.declared.packet_translation_error.PacketTranslationError.TheVariants as siit
use Rattle.ip_translation.specs.declared.prefix64_error.Prefix64Error.TheVariants as prefixes
use Rattle.ip_translation.specs.declared.translation_error.TranslationError.{TranslationError}
use Rattle.ip_translation.specs.declared.translation_error.TranslationError.TheVariants as headers
use Rattle.net_base.specs.ErrorTexts.{header_text, len_text, option_text, options_text, value_text}
use Rattle.net_base.specs.declared.err.layer.Layer.{Layer}
use Rattle.net_base.specs.declared.err.layer.Layer.TheVariants as layers
use Rattle.net_base.specs.declared.err.len_error.LenError.{LenError}
use Rattle.net_base.specs.declared.err.len_source.LenSource.{LenSource}
use Rattle.net_base.specs.declared.err.len_source.LenSource.TheVariants.{Slice, UdpHeaderLen}
use Rattle.net_base.specs.declared.err.tcp.header_error.HeaderError.{HeaderError}
use Rattle.net_base.specs.declared.err.tcp.header_error.HeaderError.TheVariants.{DataOffsetTooSmall}
use Rattle.net_base.specs.declared.err.value_too_big_error.ValueTooBigError.{ValueTooBigError}
use Rattle.net_base.specs.declared.err.value_type.ValueType.{ValueType}
use Rattle.net_base.specs.declared.err.value_type.ValueType.TheVariants as values
use Rattle.net_base.specs.declared.tcp_option_read_error.TcpOptionReadError.{TcpOptionReadError}
use Rattle.net_base.specs.declared.tcp_option_read_error.TcpOptionReadError.TheVariants.{UnexpectedEndOfSlice, UnexpectedSize, UnknownId}
use Rattle.net_base.specs.declared.tcp_option_write_error.TcpOptionWriteError.TheVariants.{NotEnoughSpace}
use Rattle.transport_part.specs.declared.checksum_verdict.Untested as reasons
use Rattle.transport_part.specs.declared.checksum_verdict.Untested.TheVariants.{CutOff, Fragment, OtherProtocol, TooLong, UnknownDestination, ZeroLength}
use Rattle.etherparse_transport_c.specs.Numbers as numbers
use Rattle.etherparse_transport_c.specs.ReassemblyTexts.{joining_text}
use Rattle.etherparse_transport_c.specs.declared.error.EtherparseError.{EtherparseError}

-- ---- texts in C that differ from the texts of the library in Rattle

-- the text of every wrong checksum
abbrev pub wrong_checksum_text : List ℕ
wrong_checksum_text = codes "Checksum Error: the checksum is wrong."

-- The text for a refused echo request. A wrong checksum has the same text in every call, since it has the same status in every call.
abbrev pub echo_text_in_c : AnswerEchoError → List ℕ
echo_text_in_c echo.Checksum = wrong_checksum_text
echo_text_in_c error = answer_echo_text error

-- The text for a packet that is not translated. A refused IP version has the same text in every call, since it has the same status in every
-- call.
abbrev pub translate_text_in_c : ℕ → TranslateError → List ℕ
translate_text_in_c other_version translate.OtherVersion = ip_text (ip.Version other_version)
translate_text_in_c other_version error = translate_text error

-- the text for a buffer that is too small
abbrev pub buffer_text : ℕ → ℕ → List ℕ
buffer_text required_len len = concat (
    codes "Buffer Error: " ∷ decimal required_len ∷ codes " bytes are needed, the buffer has " ∷ decimal len ∷ codes "." ∷ [])

-- the text for a protocol that the call does not accept
abbrev pub protocol_text : ℕ → List ℕ
protocol_text number = concat (codes "Protocol Error: the call does not accept the protocol " ∷ decimal number ∷ codes "." ∷ [])

-- The text of a call that writes no packet. A small buffer and a wrong protocol have the same texts in every call, since they have the same
-- statuses in every call.
abbrev pub build_text_in_c : BuildSliceWriteError → List ℕ
build_text_in_c (build.Space required_len len) = buffer_text required_len len
build_text_in_c build.Icmpv6InIpv4 = protocol_text numbers.protocol_icmpv6
build_text_in_c build.Icmpv4InIpv6 = protocol_text numbers.protocol_icmpv4
build_text_in_c error = build_text error

-- the text for an ICMP message that is not translated between IPv4 and IPv6
abbrev pub icmp_message_text : List ℕ
icmp_message_text = codes "Translation Error: the ICMP message is not translated."

-- the text for an ICMP error that quotes a packet that can't be translated between IPv4 and IPv6
abbrev pub quoted_packet_text : List ℕ
quoted_packet_text = codes "Translation Error: the packet that an ICMP error quotes can't be translated."

-- The text for a header that is not translated between IPv4 and IPv6. A total length below the header length and a source route have the
-- same texts in every call. No call returns `Fragment`, since the calls translate fragments.
abbrev pub siit_header_text_in_c : TranslationError → List ℕ
siit_header_text_in_c (headers.TotalLength total_len header_len) = ip_text (ip.TotalLength total_len header_len)
siit_header_text_in_c headers.SourceRoute = translate_text translate.SourceRoute
siit_header_text_in_c headers.Fragment = packet_text siit.FragmentChecksum
siit_header_text_in_c error = translation_text error

-- The text for a packet that is not translated between IPv4 and IPv6. A packet that is cut off and a buffer that is too small have the same
-- texts in every call.
abbrev pub siit_text_in_c : PacketTranslationError → List ℕ
siit_text_in_c (siit.Header error) = siit_header_text_in_c error
siit_text_in_c (siit.CutOff total_len len) = ip_text (ip.PacketCutOff total_len len)
siit_text_in_c (siit.IcmpMessage type code) = icmp_message_text
siit_text_in_c siit.NoQuotedHeader = quoted_packet_text
siit_text_in_c (siit.QuotedHeader error) = quoted_packet_text
siit_text_in_c (siit.QuotedIcmp type code) = quoted_packet_text
siit_text_in_c (siit.Space required_len len) = buffer_text required_len len
siit_text_in_c error = packet_text error

-- ---- the error of the library in Rattle for an error in C, or `None` if no call returns these numbers

-- the layer with this number
abbrev pub layer_at : ℕ → Option Layer
layer_at number =
    if number == numbers.layer_udp_header then Some layers.UdpHeader
    else if number == numbers.layer_udp_payload then Some layers.UdpPayload
    else if number == numbers.layer_tcp_header then Some layers.TcpHeader
    else if number == numbers.layer_icmpv4 then Some layers.Icmpv4
    else if number == numbers.layer_icmpv4_timestamp then Some layers.Icmpv4Timestamp
    else if number == numbers.layer_icmpv4_timestamp_reply then Some layers.Icmpv4TimestampReply
    else if number == numbers.layer_icmpv6 then Some layers.Icmpv6
    else None

-- the source of a length with this number
abbrev pub len_source_at : ℕ → Option LenSource
len_source_at number =
    if number == numbers.len_source_slice then Some Slice
    else if number == numbers.len_source_udp_header_len then Some UdpHeaderLen
    else None

-- the kind of value with this number
abbrev pub value_type_at : ℕ → Option ValueType
value_type_at number =
    if number == numbers.value_udp_payload_length_ipv4 then Some values.UdpPayloadLengthIpv4
    else if number == numbers.value_udp_payload_length_ipv6 then Some values.UdpPayloadLengthIpv6
    else if number == numbers.value_tcp_payload_length_ipv4 then Some values.TcpPayloadLengthIpv4
    else if number == numbers.value_tcp_payload_length_ipv6 then Some values.TcpPayloadLengthIpv6
    else if number == numbers.value_icmpv6_payload_length then Some values.Icmpv6PayloadLength
    else None

-- the reason why a checksum is not tested, given the number of the verdict
abbrev pub untested_at : ℕ → Option reasons.Untested
untested_at number =
    if number == numbers.verdict_untested_fragment then Some Fragment
    else if number == numbers.verdict_untested_cut_off then Some CutOff
    else if number == numbers.verdict_untested_unknown_destination then Some UnknownDestination
    else if number == numbers.verdict_untested_other_protocol then Some OtherProtocol
    else if number == numbers.verdict_untested_zero_length then Some ZeroLength
    else if number == numbers.verdict_untested_too_long then Some TooLong
    else None

-- the number, if it fits in a byte
abbrev pub byte_in : ℕ → Option ℕ
byte_in number = if nat_lt number 256 then Some number else None

-- the error about a length
abbrev pub len_error_in : EtherparseError → Option LenError
len_error_in error = option_and_then
    (λ layer. option_map
    (λ len_source. record {
      required_len = error.required_len;
      len = error.len;
      len_source = len_source;
      layer = layer;
      layer_start_offset = error.layer_start_offset;
    })
    (len_source_at error.len_source))
    (layer_at error.layer)

-- the error about a value that is too big
abbrev pub value_error_in : EtherparseError → Option (ValueTooBigError ℕ)
value_error_in error = option_map
    (λ value_type. record { actual = error.actual; max_allowed = error.max_allowed; value_type = value_type })
    (value_type_at error.value_type)

-- the reason why a TCP header is refused
abbrev pub header_error_in : EtherparseError → Option HeaderError
header_error_in error = option_map DataOffsetTooSmall (byte_in error.data_offset)

-- the reason why an option of a known kind is refused
abbrev pub option_error_in : EtherparseError → Option TcpOptionReadError
option_error_in error = option_and_then
    (λ kind.
    if error.status == numbers.status_option_cut_off
    then option_map (λ expected. UnexpectedEndOfSlice kind expected error.len) (byte_in error.required_len)
    else if error.status == numbers.status_option_size then option_map (λ size. UnexpectedSize kind size) (byte_in error.option_size)
    else Some (UnknownId kind))
    (byte_in error.option_kind)

-- the reason why an IP packet is refused
abbrev pub ip_error_in : EtherparseError → Option IpError
ip_error_in error =
    if error.status == numbers.status_ip_header_cut_off then Some (ip.HeaderCutOff error.required_len error.len)
    else if error.status == numbers.status_ip_version then option_map ip.Version (byte_in error.actual)
    else if error.status == numbers.status_ip_header_length then Some (ip.HeaderLength error.len)
    else if error.status == numbers.status_ip_total_length then Some (ip.TotalLength error.len error.required_len)
    else if error.status == numbers.status_ip_packet_cut_off then Some (ip.PacketCutOff error.required_len error.len)
    else if error.status == numbers.status_ip_extension_cut_off then option_map
    (λ protocol. ip.ExtensionHeaderCutOff (record { 0 = protocol }) error.layer_start_offset error.required_len error.len)
    (byte_in error.actual)
    else if error.status == numbers.status_ip_jumbo_payload_missing then Some ip.JumboPayloadMissing
    else if error.status == numbers.status_ip_jumbo_payload_length then Some (ip.JumboPayloadLength error.len)
    else if error.status == numbers.status_ip_jumbo_payload_unexpected then Some (ip.JumboPayloadUnexpected error.actual)
    else if error.status == numbers.status_ip_jumbo_payload_fragment then Some (ip.JumboPayloadFragment error.layer_start_offset)
    else None

-- the reason why an echo request is refused, given the status
abbrev pub answer_echo_error_in : EtherparseError → Option AnswerEchoError
answer_echo_error_in error =
    if error.status == numbers.status_echo_fragment then Some echo.Fragment
    else if error.status == numbers.status_echo_no_request then Some echo.NoEchoRequest
    else if error.status == numbers.status_echo_has_options then Some echo.Options
    else if error.status == numbers.status_echo_header_checksum_wrong then Some echo.HeaderChecksum
    else if error.status == numbers.status_echo_request_source then Some echo.RequestSource
    else if error.status == numbers.status_echo_reply_source then Some echo.ReplySource
    else None

-- the reason why a packet is not translated: its protocol, its transport header, its ICMP message, or the packet that it quotes
abbrev pub translate_error_in : EtherparseError → Option TranslateError
translate_error_in error =
    if error.status == numbers.status_translate_protocol
    then option_map (λ number. translate.Protocol (record { 0 = number })) (byte_in error.actual)
    else if error.status == numbers.status_translate_header_cut_off then Some (translate.HeaderCutOff error.required_len error.len)
    else if error.status == numbers.status_translate_icmp_message then Some translate.IcmpMessage
    else if error.status == numbers.status_translate_quoted_packet then Some translate.QuotedPacket
    else None

-- ---- the text of an error

-- the text of an error of the library in Rattle, or the text `other` if no error is given
abbrev pub text_or : {E : Type 0} → List ℕ → (E → List ℕ) → Option E → List ℕ
text_or other text None = other
text_or other text (Some error) = text error

-- the text for a checksum that is not tested, given the number of the verdict
abbrev pub untested_text_at : ℕ → List ℕ
untested_text_at number = text_or (codes "Unknown error.") untested_text (untested_at number)

-- The text for a packet whose message or extension header is not translated between IPv4 and IPv6: each status from 69 to 75 and from 90 to
-- 92. An ICMP message, and a packet that an ICMP error quotes, have texts without numbers.
unfoldable pub siit_message_text : EtherparseError → List ℕ
siit_message_text error =
    if error.status == numbers.status_siit_icmp_extension then packet_text (siit.IcmpExtension error.actual)
    else if error.status == numbers.status_siit_icmp_pointer then packet_text (siit.IcmpPointer error.actual)
    else if error.status == numbers.status_siit_transport_header then packet_text (siit.TransportHeader error.required_len error.len)
    else if error.status == numbers.status_siit_udp_length then packet_text (siit.UdpLength error.actual error.len)
    else if error.status == numbers.status_siit_no_udp_checksum then packet_text siit.NoUdpChecksum
    else if error.status == numbers.status_siit_icmp_message then icmp_message_text
    else if error.status == numbers.status_siit_quoted_packet then quoted_packet_text
    else if error.status == numbers.status_siit_extension_header_cut_off
    then packet_text (siit.ExtensionHeaderCutOff error.actual error.required_len error.len)
    else if error.status == numbers.status_siit_segments_left then packet_text (siit.SegmentsLeft error.actual)
    else if error.status == numbers.status_siit_icmp_fragment then packet_text siit.IcmpFragment
    else joining_text error

-- the text for a refused prefix, and for a packet whose header is not translated between IPv4 and IPv6: each status from 56 to 68
unfoldable pub siit_header_text : EtherparseError → List ℕ
siit_header_text error =
    if error.status == numbers.status_prefix_length then prefix_text (prefixes.Len error.actual)
    else if error.status == numbers.status_prefix_reserved_octet then prefix_text prefixes.ReservedOctet
    else if error.status == numbers.status_prefix_suffix then prefix_text prefixes.SuffixBits
    else if error.status == numbers.status_siit_no_header
    then (if error.actual == 4 then packet_text siit.NoIpv4Header else packet_text siit.NoIpv6Header)
    else if error.status == numbers.status_siit_header_checksum then translation_text headers.HeaderChecksum
    else if error.status == numbers.status_siit_fragment_checksum then packet_text siit.FragmentChecksum
    else if error.status == numbers.status_siit_extension_header then translation_text (headers.ExtensionHeader error.actual)
    else if error.status == numbers.status_siit_payload_length then translation_text (headers.PayloadLength error.actual)
    else if error.status == numbers.status_siit_time_exceeded then translation_text headers.TimeExceeded
    else if error.status == numbers.status_siit_source then translation_text headers.IllegalSource
    else if error.status == numbers.status_siit_destination then translation_text headers.IllegalDestination
    else if error.status == numbers.status_siit_not_embedded then address_text addresses.NotEmbedded
    else if error.status == numbers.status_siit_not_global then address_text addresses.NotGlobal
    else siit_message_text error

-- The text of each status above 43. These statuses were added later, and the ranges in `text_of` do not include them.
unfoldable pub later_text : EtherparseError → List ℕ
later_text error =
    if error.status == numbers.status_echo_no_reply then codes "Echo Error: the packet is not the reply to the request."
    else if error.status == numbers.status_translate_source_route then translate_text translate.SourceRoute
    else if error.status == numbers.status_checksum_untested then untested_text_at error.actual
    else if error.status == numbers.status_hop_limit_expired then lower_hop_limit_text (lower.Expired error.actual)
    else if error.status == numbers.status_icmp_error_later_fragment then error_about_text about.LaterFragment
    else if error.status == numbers.status_icmp_error_about_error then error_about_text about.IcmpError
    else if error.status == numbers.status_icmp_error_about_group then error_about_text about.GroupDestination
    else if error.status == numbers.status_icmp_error_packet_source then error_about_text about.PacketSource
    else if error.status == numbers.status_icmp_error_source then error_about_text about.ErrorSource
    else if error.status == numbers.status_segment_size_later_fragment then lower_maximum_segment_size_text segment_size.LaterFragment
    else if error.status == numbers.status_segment_size_no_syn then lower_maximum_segment_size_text segment_size.NoSyn
    else if error.status == numbers.status_segment_size_no_option then lower_maximum_segment_size_text segment_size.NoOption
    else siit_header_text error

-- the text of an error that exists only in C, or whose status is above 43, or whose numbers no call returns
abbrev pub own_text : EtherparseError → List ℕ
own_text error =
    if error.status == numbers.status_ok then codes "No error."
    else if error.status == numbers.status_buffer_too_small then buffer_text error.required_len error.len
    else if error.status == numbers.status_checksum_wrong then wrong_checksum_text
    else if error.status == numbers.status_checksum_absent then codes "Checksum Error: there is no checksum."
    else if error.status == numbers.status_flags_unknown then concat (
    codes "Flags Error: " ∷ decimal error.actual ∷ codes " is above " ∷ decimal error.max_allowed ∷ codes ", which are all flags." ∷ [])
    else if error.status == numbers.status_protocol_unknown then protocol_text error.actual
    else if error.status == numbers.status_options_end then codes "Option Error: no option is left."
    else if error.status == numbers.status_message_unknown then codes "Message Error: the kind of the message or its code is not known."
    else if error.status == numbers.status_option_unknown then concat (
    codes "Option Error: " ∷ decimal error.option_kind ∷ codes " is no kind of option." ∷ [])
    else if error.status == numbers.status_option_values then concat (
    codes "Option Error: no option of kind " ∷ decimal error.option_kind ∷ codes " has these values." ∷ [])
    else if error.status == numbers.status_no_icmp_error then codes "ICMP Error: the message is no error."
    else later_text error

-- The text for a value that is too big. In the library in Rattle, the payload length of a written packet is not a `ValueType`. So the text
-- for this length is the text of a `BuildSliceWriteError`.
abbrev pub value_text_in : EtherparseError → List ℕ
value_text_in error =
    if error.value_type == numbers.value_ip_payload_length then build_text (build.PayloadLen error.actual error.max_allowed)
    else text_or (own_text error) value_text (value_error_in error)

-- the text of any error
abbrev pub text_of : EtherparseError → List ℕ
text_of error =
    if error.status == numbers.status_length then text_or (own_text error) len_text (len_error_in error)
    else if error.status == numbers.status_data_offset then text_or (own_text error) header_text (header_error_in error)
    else if error.status == numbers.status_value_too_big then value_text_in error
    else if error.status == numbers.status_options_too_long then options_text (NotEnoughSpace error.len)
    else if nat_le numbers.status_option_cut_off error.status && nat_le error.status numbers.status_option_unknown
    then text_or (own_text error) option_text (option_error_in error)
    else if nat_le numbers.status_ip_header_cut_off error.status && nat_le error.status numbers.status_ip_jumbo_payload_fragment
    then text_or (own_text error) ip_text (ip_error_in error)
    else if nat_le numbers.status_echo_fragment error.status && nat_le error.status numbers.status_echo_reply_source
    then text_or (own_text error) answer_echo_text (answer_echo_error_in error)
    else if nat_le numbers.status_translate_protocol error.status && nat_le error.status numbers.status_translate_quoted_packet
    then text_or (own_text error) translate_text (translate_error_in error)
    else own_text error
