-- The verdict on a packet of a capture.
use Rattle.std.specs.Prelude.{◌≡◌, ℕ, ◌==◌, Bool, true, false, not, ◌&&◌, ◌||◌, List, Option, Some, None, IfSome, MatchBool, MatchOption}
use Rattle.ip_part.specs.Addresses.{by_value}
use Rattle.ip_part.specs.Protocols.{proto_over}
use Rattle.ip_part.specs.declared.ip_error.IpError.{IpError}
use Rattle.ip_part.specs.declared.ip_error.IpError.TheVariants.{ExtensionHeaderCutOff, HeaderCutOff, HeaderLength, JumboPayloadFragment, JumboPayloadLength, JumboPayloadMissing, JumboPayloadUnexpected, PacketCutOff, TotalLength, Version}
use Rattle.ip_part.specs.declared.proto.Proto.{Proto}
use Rattle.ip_part.specs.declared.proto.Proto.TheVariants.{Udp}
use Rattle.ip_part.specs.declared.transport.TransportInIp.{TransportInIp}
use Rattle.net_base.specs.IpHeaders.{version}
use Rattle.net_base.specs.declared.err.layer.Layer.TheVariants as layers
use Rattle.net_base.specs.declared.err.len_source.LenSource.TheVariants.{UdpHeaderLen}
use Rattle.net_base.specs.declared.err.tcp.header_slice_error.HeaderSliceError.{HeaderSliceError}
use Rattle.net_base.specs.declared.err.tcp.header_slice_error.HeaderSliceError.TheVariants.{Content, Len}
use Rattle.transport_part.specs.Transports as transports
use Rattle.transport_part.specs.Verdicts.{JudgesFound}
use Rattle.transport_part.specs.declared.checksum_verdict.ChecksumVerdict.TheVariants as checksums
use Rattle.transport_part.specs.declared.checksum_verdict.Untested.{Untested}
use Rattle.transport_part.specs.declared.checksum_verdict.Untested.TheVariants.{CutOff, Fragment, OtherProtocol, TooLong as TooLongToTest, UnknownDestination, ZeroLength}
use Rattle.capture_packet.specs.declared.refusal.Refusal.{Refusal}
use Rattle.capture_packet.specs.declared.refusal.Refusal.TheVariants as refusals
use Rattle.capture_packet.specs.declared.verdict.Verdict.{Verdict}
use Rattle.capture_packet.specs.declared.verdict.Verdict.TheVariants.{Checksum, LengthMissing, Refused, TooLong}

-- the verdict that the checksum is not tested, for this reason
abbrev pub untested : Untested → Verdict
untested reason = Checksum (checksums.Untested reason)

-- the error for a UDP packet whose length field is 0, since the field counts less than a header (RFC 768)
abbrev pub zero_length : Refusal
zero_length = refusals.Transport Udp (Len (record {
  required_len = 8;
  len = 0;
  len_source = UdpHeaderLen;
  layer = layers.UdpHeader;
  layer_start_offset = 0;
}))

-- the error that refuses a packet whose checksum is not tested for this reason; only a UDP length field of 0 is an error
abbrev pub refusal_if_untested : Untested → Option Refusal
refusal_if_untested ZeroLength = Some zero_length
refusal_if_untested Fragment = None
refusal_if_untested CutOff = None
refusal_if_untested UnknownDestination = None
refusal_if_untested OtherProtocol = None
refusal_if_untested TooLongToTest = None

-- the verdict refuses the length field of a UDP datagram, since the field is 0
abbrev pub is_length_refused : Verdict → Bool
is_length_refused (Checksum (checksums.Untested ZeroLength)) = true
is_length_refused verdict = false

-- the error that refuses a packet with this verdict, if there is one
abbrev pub refusal_of : Verdict → Option Refusal
refusal_of (Checksum checksums.Right) = None
refusal_of (Checksum checksums.Absent) = None
refusal_of (Checksum (checksums.Wrong expected)) = None
refusal_of (Checksum (checksums.Partial expected)) = None
refusal_of (Checksum (checksums.Untested reason)) = refusal_if_untested reason
refusal_of LengthMissing = None
refusal_of (TooLong required_len) = None
refusal_of (Refused refusal) = Some refusal

-- ---- the transport

-- this verdict is the verdict on the checksum of this transport
abbrev pub IsOnChecksum : TransportInIp → Verdict → Type 0
IsOnChecksum found (Checksum verdict) = JudgesFound found verdict
IsOnChecksum found LengthMissing = ⊥
IsOnChecksum found (TooLong required_len) = ⊥
IsOnChecksum found (Refused refusal) = ⊥

-- The verdict on an accepted transport of UDP, TCP or ICMP. If the packet states no length, its checksum is not tested, since the number of
-- covered bytes is unknown. For a fragment the verdict is always `Fragment`.
abbrev pub JudgesRead : TransportInIp → Verdict → Type 0
JudgesRead found verdict =
    MatchBool (found.is_length_missing && not found.is_fragment) (verdict ≡ LengthMissing) (IsOnChecksum found verdict)

-- The verdict on an accepted transport. Only the checksums of UDP, TCP, and ICMP of the IP version are tested. For any other protocol the
-- verdict is `OtherProtocol`, even for a fragment, for a packet that is cut off, and for a packet that states no length.
abbrev pub JudgesAccepted : TransportInIp → Verdict → Type 0
JudgesAccepted found verdict =
    MatchOption (proto_over (by_value found.addresses) found.protocol.0) (verdict ≡ untested OtherProtocol)
    (λ proto. JudgesRead found verdict)

-- Only the first bytes of a transport are present. Either the IP header counts more bytes than are present. Or the IP header states no
-- length, so that the packet ends with its frame, and the capture cut the frame.
abbrev pub is_transport_cut_off : Bool → TransportInIp → Bool
is_transport_cut_off is_cut found = found.is_cut_off || (is_cut && found.is_length_missing)

-- The verdict on a transport with this error. If the packet is cut off and this is a length error, the verdict is `CutOff`.
abbrev pub refused : Bool → Proto → HeaderSliceError → Verdict
refused true proto (Len error) = untested CutOff
refused true proto (Content error) = Refused (refusals.Transport proto (Content error))
refused false proto error = Refused (refusals.Transport proto error)

-- The verdict on the transport of an IP packet. Only a transport of UDP, TCP or ICMP can be refused.
abbrev pub JudgesTransport : Bool → TransportInIp → Verdict → Type 0
JudgesTransport is_cut found verdict = MatchOption (transports.refusal found) (JudgesAccepted found verdict)
    (λ error. IfSome (transports.proto_in found) (λ proto. verdict ≡ refused (is_transport_cut_off is_cut found) proto error))

-- ---- IP packets

-- The payload length of an IPv6 packet is 0, so that no byte of its first extension header is counted. `len` is the number of counted bytes
-- that begin at `offset`.
abbrev pub counts_no_payload : List ℕ → ℕ → ℕ → Bool
counts_no_payload packet offset len = version packet == 6 && (offset == 40 && len == 0)

-- Only the first bytes of a packet are present, as the error that refuses its headers shows. This is true if the header counts more bytes
-- than are present. It is also true if the capture cut the frame, and the header is incomplete or states no length.
abbrev pub is_cut_off : Bool → List ℕ → Option IpError → Bool
is_cut_off is_cut packet (Some (PacketCutOff required_len len)) = true
is_cut_off is_cut packet (Some (HeaderCutOff required_len len)) = is_cut
is_cut_off is_cut packet (Some (Version version)) = false
is_cut_off is_cut packet (Some (HeaderLength header_len)) = false
is_cut_off is_cut packet (Some (TotalLength total_len header_len)) = is_cut && total_len == 0
is_cut_off is_cut packet (Some (ExtensionHeaderCutOff protocol offset required_len len)) = is_cut && counts_no_payload packet offset len
is_cut_off is_cut packet (Some JumboPayloadMissing) = is_cut
is_cut_off is_cut packet (Some (JumboPayloadLength jumbo_payload_len)) = false
is_cut_off is_cut packet (Some (JumboPayloadUnexpected payload_len)) = false
is_cut_off is_cut packet (Some (JumboPayloadFragment offset)) = false
is_cut_off is_cut packet None = false

-- The verdict on a packet whose IP headers have this error. If the packet is cut off and its headers are incomplete, the verdict is
-- `CutOff`.
abbrev pub unread_verdict : Bool → IpError → Verdict
unread_verdict true (HeaderCutOff required_len len) = untested CutOff
unread_verdict true (ExtensionHeaderCutOff protocol offset required_len len) = untested CutOff
unread_verdict true (Version version) = Refused (refusals.Ip (Version version))
unread_verdict true (HeaderLength header_len) = Refused (refusals.Ip (HeaderLength header_len))
unread_verdict true (TotalLength total_len header_len) = Refused (refusals.Ip (TotalLength total_len header_len))
unread_verdict true (PacketCutOff required_len len) = Refused (refusals.Ip (PacketCutOff required_len len))
unread_verdict true JumboPayloadMissing = Refused (refusals.Ip JumboPayloadMissing)
unread_verdict true (JumboPayloadLength jumbo_payload_len) = Refused (refusals.Ip (JumboPayloadLength jumbo_payload_len))
unread_verdict true (JumboPayloadUnexpected payload_len) = Refused (refusals.Ip (JumboPayloadUnexpected payload_len))
unread_verdict true (JumboPayloadFragment offset) = Refused (refusals.Ip (JumboPayloadFragment offset))
unread_verdict false error = Refused (refusals.Ip error)
