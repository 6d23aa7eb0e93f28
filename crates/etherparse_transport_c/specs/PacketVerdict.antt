-- An IP packet and the verdict on its checksum, in the interface to C.
use Rattle.std.specs.Prelude.{◌≡◌, ℕ, Bool, false, Option, None, Some, if◌then◌else◌, List, drop, Result, Ok, Err}
use Rattle.std.specs.Option.{option_map}
use Rattle.transport_part.specs.Transports.{kept, proto_of, refusal_by}
use Rattle.transport_part.specs.Verdicts.{JudgesFound}
use Rattle.transport_part.specs.declared.checksum_verdict.ChecksumVerdict.{ChecksumVerdict}
use Rattle.transport_part.specs.declared.checksum_verdict.ChecksumVerdict.TheVariants.{Absent, Partial, Right, Untested, Wrong}
use Rattle.transport_part.specs.declared.transport_slice.TransportSlice.{TransportSlice}
use Rattle.ip_part.specs.Ip.{Carries, counted, headers_of, is_cut_off, lacks_len}
use Rattle.ip_part.specs.Headers.{Headers}
use Rattle.ip_part.specs.Protocols.{proto_over}
use Rattle.ip_part.specs.declared.ip_error.IpError.{IpError}
use Rattle.ip_part.specs.declared.proto.Proto.{Proto}
use Rattle.ip_part.specs.declared.proto.Proto.TheVariants.{Icmpv4, Icmpv6, Tcp, Udp}
use Rattle.ip_part.specs.declared.transport.TransportInIp.{TransportInIp}
use Rattle.net_base.specs.declared.err.tcp.header_slice_error.HeaderSliceError.{HeaderSliceError}
use Rattle.net_base.specs.declared.err.tcp.header_slice_error.HeaderSliceError.TheVariants.{Len, Content}
use Rattle.etherparse_transport_c.specs.Errors.{first_refusal, of_header_slice, of_len, untested_number}
use Rattle.etherparse_transport_c.specs.Ip as ip
use Rattle.etherparse_transport_c.specs.Ip.{HasPayload, transport_in}
use Rattle.etherparse_transport_c.specs.Numbers as numbers
use Rattle.etherparse_transport_c.specs.declared.error.EtherparseError.{EtherparseError}
use Rattle.etherparse_transport_c.specs.declared.packet_verdict.EtherparseIpPacket.{EtherparseIpPacket}

-- ---- refusals of packets

-- the protocol of the transport header that follows these IP headers; `None` for a fragment, and for a protocol other than UDP, TCP and the
-- ICMP of the IP version
abbrev pub proto_after : Headers → Option Proto
proto_after headers = if headers.is_fragment then None else proto_over headers.addresses headers.protocol.0

-- the refusal of a transport whose header begins at this place in the packet
abbrev pub of_transport : ℕ → HeaderSliceError → EtherparseError
of_transport place (Len error) = record (of_len error) { layer_start_offset = place }
of_transport place (Content error) = of_header_slice (Content error)

-- the refusal of the transport after these IP headers, if the IP headers are accepted
abbrev pub transport_refusal : Bool → List ℕ → Result Headers IpError → Option EtherparseError
transport_refusal is_length_missing packet (Ok headers) =
    option_map (of_transport headers.len)
    (refusal_by (proto_after headers) (is_cut_off is_length_missing packet) (drop headers.len (counted is_length_missing packet)))
transport_refusal is_length_missing packet (Err error) = None

-- the refusal of the transport that a packet carries
abbrev pub refusal_of_carried : List ℕ → TransportInIp → Option EtherparseError
refusal_of_carried packet carried =
    transport_refusal carried.is_length_missing packet (headers_of carried.is_length_missing packet)

-- the refusal of an IP packet, or of its transport if the IP headers are accepted
abbrev pub refusal : List ℕ → Option EtherparseError
refusal packet = first_refusal (ip.refusal packet) (transport_refusal false packet (headers_of false packet))

-- the refusal of an IP packet, or of its transport if the IP headers are accepted; the packet may be cut off or state no length
abbrev pub lax_refusal : List ℕ → Option EtherparseError
lax_refusal packet =
    first_refusal (ip.lax_refusal packet) (transport_refusal (lacks_len packet) packet (headers_of (lacks_len packet) packet))

-- ---- the numbers of protocols and verdicts

-- the number of a protocol
abbrev pub proto_number : Proto → ℕ
proto_number Udp = numbers.protocol_udp
proto_number Tcp = numbers.protocol_tcp
proto_number Icmpv4 = numbers.protocol_icmpv4
proto_number Icmpv6 = numbers.protocol_icmpv6

-- the number of the protocol of this transport, or 0 if there is no transport
abbrev pub header_protocol : Option TransportSlice → ℕ
header_protocol None = 0
header_protocol (Some transport) = proto_number (proto_of transport)

-- the number of a verdict
abbrev pub verdict_number : ChecksumVerdict → ℕ
verdict_number Right = numbers.verdict_right
verdict_number Absent = numbers.verdict_absent
verdict_number (Wrong expected) = numbers.verdict_wrong
verdict_number (Partial expected) = numbers.verdict_partial
verdict_number (Untested why) = untested_number why

-- the right checksum if the verdict contains it, and 0 otherwise
abbrev pub expected_checksum : ChecksumVerdict → ℕ
expected_checksum Right = 0
expected_checksum Absent = 0
expected_checksum (Wrong expected) = expected
expected_checksum (Partial expected) = expected
expected_checksum (Untested why) = 0

-- ---- the packet

-- the result for a packet with these headers, this transport and this verdict
abbrev pub packet_in : Bool → List ℕ → Headers → Option TransportSlice → ChecksumVerdict → EtherparseIpPacket
packet_in is_length_missing packet headers transport verdict = record {
  transport = transport_in is_length_missing packet headers;
  header_protocol = header_protocol transport;
  verdict = verdict_number verdict;
  expected_checksum = expected_checksum verdict;
}

-- `told` contains the transport that the packet carries, and the verdict on its checksum
pub record IsJudged (is_length_missing : Bool) (packet : List ℕ) (told : EtherparseIpPacket) : Type 0 where
  pub carried : TransportInIp
  pub carries : Carries packet carried
  pub length : carried.is_length_missing ≡ is_length_missing
  pub verdict : ChecksumVerdict
  pub judges : JudgesFound carried verdict
  pub tells : told ≡ packet_in is_length_missing packet carries.headers (kept carried) verdict
  pub payload : HasPayload is_length_missing packet told.transport

-- if the packet is accepted, `told` is the result of the call; if the packet is refused, `told` is unchanged
abbrev pub Judges : Option EtherparseError → Bool → List ℕ → EtherparseIpPacket → EtherparseIpPacket → Type 0
Judges None is_length_missing packet told before = IsJudged is_length_missing packet told
Judges (Some error) is_length_missing packet told before = told ≡ before
