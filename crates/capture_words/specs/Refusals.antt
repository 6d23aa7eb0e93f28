-- Why a packet is refused, in the terms of the RFCs. A text states the number of bytes needed and the number of bytes present, or a field
-- with its value and the bound that it violates. Each text begins with the protocol or layer, and contains the fields of the error. An
-- offset of 0 is left out.
use Rattle.std.specs.Prelude.{ℕ, ◌==◌, if◌then◌else◌, List, [], ◌++◌, codes, decimal}
use Rattle.ip_part.specs.declared.ip_error.IpError.{IpError}
use Rattle.ip_part.specs.declared.ip_error.IpError.TheVariants as ip_errors
use Rattle.net_base.specs.declared.err.layer.Layer.{Layer}
use Rattle.net_base.specs.declared.err.layer.Layer.TheVariants.{UdpHeader, UdpPayload, TcpHeader, Icmpv4, Icmpv4Timestamp, Icmpv4TimestampReply, Icmpv6}
use Rattle.net_base.specs.declared.err.len_error.LenError.{LenError}
use Rattle.net_base.specs.declared.err.len_source.LenSource.{LenSource}
use Rattle.net_base.specs.declared.err.len_source.LenSource.TheVariants.{Slice, UdpHeaderLen}
use Rattle.net_base.specs.declared.err.tcp.header_error.HeaderError.TheVariants.{DataOffsetTooSmall}
use Rattle.net_base.specs.declared.err.tcp.header_slice_error.HeaderSliceError.TheVariants.{Len, Content}
use Rattle.capture_packet.specs.declared.refusal.Refusal.{Refusal}
use Rattle.capture_packet.specs.declared.refusal.Refusal.TheVariants as refusals

-- the word after a number of bytes: `byte` if the number is 1, otherwise `bytes`
abbrev pub unit_word : ℕ → List ℕ
unit_word bytes = if bytes == 1 then codes "byte" else codes "bytes"

-- the number of bytes that `what` needs, and the number of bytes that are present
abbrev pub needs_text : List ℕ → ℕ → ℕ → List ℕ
needs_text what required_len len =
    what ++ (codes " needs " ++ (decimal required_len ++ (codes " " ++ (unit_word required_len ++ (codes ", has " ++ decimal len)))))

-- the name of a layer, as in RFC 768, RFC 9293, RFC 792 and RFC 4443; a UDP datagram consists of the bytes that its length field counts
abbrev pub layer_word : Layer → List ℕ
layer_word UdpHeader = codes "UDP header"
layer_word UdpPayload = codes "UDP datagram"
layer_word TcpHeader = codes "TCP header"
layer_word Icmpv4 = codes "ICMPv4 message"
layer_word Icmpv4Timestamp = codes "ICMPv4 timestamp message"
layer_word Icmpv4TimestampReply = codes "ICMPv4 timestamp reply message"
layer_word Icmpv6 = codes "ICMPv6 message"

-- the words before a length; they state whether it is the number of bytes present, or the length field of UDP
abbrev pub len_source_word : LenSource → List ℕ
len_source_word Slice = codes "has"
len_source_word UdpHeaderLen = codes "the UDP length is"

-- the number of the first byte of a layer; the text is empty if this is byte 0
abbrev pub place_text : ℕ → List ℕ
place_text offset = if offset == 0 then [] else codes " at byte " ++ decimal offset

-- why a length is refused
abbrev pub len_error_text : LenError → List ℕ
len_error_text error =
    layer_word error.layer ++ (place_text error.layer_start_offset ++ (codes " needs " ++ (decimal error.required_len
    ++ (codes " bytes, " ++ (len_source_word error.len_source ++ (codes " " ++ decimal error.len))))))

-- why a TCP data offset is refused
abbrev pub data_offset_text : ℕ → List ℕ
data_offset_text data_offset = codes "TCP data offset " ++ (decimal data_offset ++ codes ", below 5")

-- why IP headers are refused
abbrev pub ip_error_text : IpError → List ℕ
ip_error_text (ip_errors.HeaderCutOff required_len len) = needs_text (codes "IP header") required_len len
ip_error_text (ip_errors.Version version) = codes "IP version " ++ decimal version
ip_error_text (ip_errors.HeaderLength header_len) = codes "IPv4 header length " ++ (decimal header_len ++ codes ", below 20")
ip_error_text (ip_errors.TotalLength total_len header_len) =
    codes "IPv4 total length " ++ (decimal total_len ++ (codes ", below the header length " ++ decimal header_len))
ip_error_text (ip_errors.PacketCutOff required_len len) = needs_text (codes "IP packet") required_len len
ip_error_text (ip_errors.ExtensionHeaderCutOff protocol offset required_len len) =
    codes "IP extension header " ++ (decimal protocol.0 ++ (codes " at byte " ++ (decimal offset
    ++ (codes " needs " ++ (decimal required_len ++ (codes " bytes, has " ++ decimal len))))))
ip_error_text ip_errors.JumboPayloadMissing = codes "IPv6 payload length 0 without a jumbo payload option"
ip_error_text (ip_errors.JumboPayloadLength jumbo_payload_len) =
    codes "IPv6 jumbo payload length " ++ (decimal jumbo_payload_len ++ codes ", not above 65535")
ip_error_text (ip_errors.JumboPayloadUnexpected payload_len) =
    codes "IPv6 payload length " ++ (decimal payload_len ++ codes " with a jumbo payload option")
ip_error_text (ip_errors.JumboPayloadFragment offset) =
    codes "IPv6 fragment header at byte " ++ (decimal offset ++ codes " with a jumbo payload option")

-- why a packet is refused
abbrev pub refusal_text : Refusal → List ℕ
refusal_text (refusals.Link error) = needs_text (codes "link header") error.required_len error.len
refusal_text (refusals.Ip error) = ip_error_text error
refusal_text (refusals.Transport proto (Len error)) = len_error_text error
refusal_text (refusals.Transport proto (Content (DataOffsetTooSmall data_offset))) = data_offset_text data_offset
