-- The text of each error of a packet.
use Rattle.std.specs.Prelude.{ℕ, List, [], ◌∷◌, codes}
use Rattle.std.specs.Fmt.{decimal}
use Rattle.std.specs.List.{concat}
use Rattle.etherparse_transport.specs.declared.err.packet.answer_echo_error.AnswerEchoError.{AnswerEchoError}
use Rattle.etherparse_transport.specs.declared.err.packet.answer_echo_error.AnswerEchoError.TheVariants as echo
use Rattle.etherparse_transport.specs.declared.err.packet.build_slice_write_error.BuildSliceWriteError.{BuildSliceWriteError}
use Rattle.etherparse_transport.specs.declared.err.packet.build_slice_write_error.BuildSliceWriteError.TheVariants as build
use Rattle.etherparse_transport.specs.declared.err.packet.error_about_error.ErrorAboutError.{ErrorAboutError}
use Rattle.etherparse_transport.specs.declared.err.packet.error_about_error.ErrorAboutError.TheVariants as about
use Rattle.etherparse_transport.specs.declared.err.packet.lower_hop_limit_error.LowerHopLimitError.{LowerHopLimitError}
use Rattle.etherparse_transport.specs.declared.err.packet.lower_hop_limit_error.LowerHopLimitError.TheVariants as lower
use Rattle.etherparse_transport.specs.declared.err.packet.lower_maximum_segment_size_error.LowerMaximumSegmentSizeError.{LowerMaximumSegmentSizeError}
use Rattle.etherparse_transport.specs.declared.err.packet.lower_maximum_segment_size_error.LowerMaximumSegmentSizeError.TheVariants as segment_size
use Rattle.etherparse_transport.specs.declared.err.packet.translate_error.TranslateError.{TranslateError}
use Rattle.etherparse_transport.specs.declared.err.packet.translate_error.TranslateError.TheVariants as translate
use Rattle.etherparse_transport.specs.declared.err.packet.transport_checksum_error.TransportChecksumError.{TransportChecksumError}
use Rattle.etherparse_transport.specs.declared.err.packet.transport_checksum_error.TransportChecksumError.TheVariants as checksum
use Rattle.etherparse_transport.specs.declared.err.packet.write_checksum_error.WriteChecksumError.{WriteChecksumError}
use Rattle.etherparse_transport.specs.declared.err.packet.write_checksum_error.WriteChecksumError.TheVariants as write
use Rattle.ip_part.specs.ErrorTexts.{ip_text}
use Rattle.net_base.specs.ErrorTexts.{header_slice_text, len_text, value_text}
use Rattle.tcp_part.specs.ErrorTexts.{raw_option_text}
use Rattle.transport_part.specs.declared.checksum_verdict.Untested.{Untested}
use Rattle.transport_part.specs.declared.checksum_verdict.Untested.TheVariants as reasons

-- the text for an echo request that is not answered
abbrev pub answer_echo_text : AnswerEchoError → List ℕ
answer_echo_text (echo.Ip error) = ip_text error
answer_echo_text echo.Fragment = codes "Echo Error: the packet is a fragment."
answer_echo_text echo.NoEchoRequest = codes "Echo Error: the packet is no echo request."
answer_echo_text echo.Options = codes "Echo Error: the packet contains options or extension headers."
answer_echo_text (echo.Len error) = len_text error
answer_echo_text echo.HeaderChecksum = codes "Echo Error: the checksum of the IPv4 header is wrong."
answer_echo_text echo.Checksum = codes "Echo Error: the checksum of the message is wrong."
answer_echo_text echo.RequestSource = codes "Echo Error: the source of the request is not the address of a host."
answer_echo_text echo.ReplySource = codes "Echo Error: the source of the reply is not the address of a host."

-- the text for a packet that is not written
abbrev pub build_text : BuildSliceWriteError → List ℕ
build_text (build.Space required_len len) = concat (
    codes "Space Error: " ∷ decimal required_len ∷ codes " bytes are needed, and there is room for " ∷ decimal len ∷ codes "." ∷ [])
build_text (build.PayloadLen actual max_allowed) = concat (
    codes "Payload Error: a payload of " ∷ decimal actual ∷ codes " bytes is above " ∷ decimal max_allowed ∷ codes "." ∷ [])
build_text (build.TimestampLen error) = len_text error
build_text build.Icmpv6InIpv4 = codes "ICMPv6 Error: there is no packet over IPv4."
build_text build.Icmpv4InIpv6 = codes "ICMPv4 Error: there is no packet over IPv6."

-- the text for a packet about which no ICMP error is written
abbrev pub error_about_text : ErrorAboutError → List ℕ
error_about_text about.NoErrorType = codes "ICMP Error: the message is no error."
error_about_text (about.Ip error) = ip_text error
error_about_text about.OtherVersion = codes "ICMP Error: the packet has the other IP version."
error_about_text about.LaterFragment = codes "ICMP Error: the packet is a later fragment."
error_about_text about.IcmpError = codes "ICMP Error: the packet may be an ICMP error."
error_about_text about.GroupDestination = codes "ICMP Error: the destination of the packet is an address of several hosts."
error_about_text about.PacketSource = codes "ICMP Error: the source of the packet is not the address of a host."
error_about_text about.ErrorSource = codes "ICMP Error: the source of the error is not the address of a host."
error_about_text (about.Space required_len len) = concat (
    codes "Space Error: " ∷ decimal required_len ∷ codes " bytes are needed, and there is room for " ∷ decimal len ∷ codes "." ∷ [])

-- the text for a packet whose hop limit is not lowered
abbrev pub lower_hop_limit_text : LowerHopLimitError → List ℕ
lower_hop_limit_text (lower.Ip error) = ip_text error
lower_hop_limit_text (lower.Expired hop_limit) = concat (codes "Hop Limit Error: the hop limit is " ∷ decimal hop_limit ∷ codes "." ∷ [])

-- the text for a packet whose maximum segment size is not lowered
abbrev pub lower_maximum_segment_size_text : LowerMaximumSegmentSizeError → List ℕ
lower_maximum_segment_size_text (segment_size.Ip error) = ip_text error
lower_maximum_segment_size_text (segment_size.Protocol protocol) = concat (
    codes "Maximum Segment Size Error: the protocol " ∷ decimal protocol.0 ∷ codes " is not TCP." ∷ [])
lower_maximum_segment_size_text segment_size.LaterFragment = codes "Maximum Segment Size Error: the packet is a later fragment."
lower_maximum_segment_size_text (segment_size.Header error) = header_slice_text error
lower_maximum_segment_size_text segment_size.NoSyn = codes "Maximum Segment Size Error: the segment is not a SYN."
lower_maximum_segment_size_text (segment_size.Options error) = raw_option_text error
lower_maximum_segment_size_text (segment_size.OptionLength len) = concat (
    codes "Maximum Segment Size Error: the length of the option is " ∷ decimal len ∷ codes "." ∷ [])
lower_maximum_segment_size_text segment_size.NoOption = codes "Maximum Segment Size Error: the segment contains no maximum segment size."

-- the text for a packet that is not translated
abbrev pub translate_text : TranslateError → List ℕ
translate_text (translate.Ip error) = ip_text error
translate_text translate.OtherVersion = codes "Translation Error: the packet has the other IP version."
translate_text translate.SourceRoute = codes "Translation Error: the IPv4 options contain a source route."
translate_text (translate.Protocol protocol) = concat (
    codes "Translation Error: the protocol " ∷ decimal protocol.0 ∷ codes " is not translated." ∷ [])
translate_text (translate.HeaderCutOff required_len len) = concat (
    codes "Translation Error: the transport header has at least " ∷ decimal required_len
    ∷ codes " bytes, and the packet contains " ∷ decimal len ∷ codes "." ∷ [])
translate_text translate.IcmpMessage = codes "Translation Error: the ICMP message is no query and no error, or a redirect."
translate_text translate.QuotedPacket = codes "Translation Error: the packet that the ICMP error is about can't be translated."

-- the text for a checksum that is not calculated
abbrev pub transport_checksum_text : TransportChecksumError → List ℕ
transport_checksum_text (checksum.PayloadLen error) = value_text error
transport_checksum_text checksum.Icmpv6InIpv4 = codes "ICMPv6 Error: a checksum over IPv4 does not exist."

-- the text for a checksum that is not tested
abbrev pub untested_text : Untested → List ℕ
untested_text reasons.Fragment = codes "Checksum Error: the packet is a fragment."
untested_text reasons.CutOff = codes "Checksum Error: the packet is cut off."
untested_text reasons.UnknownDestination = codes "Checksum Error: the final destination is unknown."
untested_text reasons.OtherProtocol = codes "Checksum Error: the protocol has no known checksum."
untested_text reasons.ZeroLength = codes "Checksum Error: the length field of the UDP packet is 0."
untested_text reasons.TooLong = codes "Checksum Error: the packet is too long for its pseudo header."

-- the text for a packet in which no checksum is written
abbrev pub write_checksum_text : WriteChecksumError → List ℕ
write_checksum_text (write.Ip error) = ip_text error
write_checksum_text (write.Transport error) = header_slice_text error
write_checksum_text (write.Untested why) = untested_text why
