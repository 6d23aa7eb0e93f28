-- The formats of the four transport protocols in one place.
use Rattle.std.specs.Prelude.{◌≡◌, ℕ, List, ◌++◌, Option, None}
use Rattle.std.specs.Option.{option_map}
use Rattle.ip_part.specs.declared.proto.Proto.{Proto}
use Rattle.ip_part.specs.declared.proto.Proto.TheVariants.{Udp, Tcp, Icmpv4, Icmpv6}
use Rattle.net_base.specs.Refusals as refusals
use Rattle.net_base.specs.declared.err.layer.Layer.{Layer}
use Rattle.net_base.specs.declared.err.layer.Layer.TheVariants as layers
use Rattle.net_base.specs.declared.err.len_error.LenError.{LenError}
use Rattle.net_base.specs.declared.err.tcp.header_slice_error.HeaderSliceError.{HeaderSliceError}
use Rattle.net_base.specs.declared.err.tcp.header_slice_error.HeaderSliceError.TheVariants.{Len}
use Rattle.udp_part.specs.UdpFormat as udp
use Rattle.tcp_part.specs.TcpFormat as tcp
use Rattle.icmp_part.specs.Icmpv4Format as icmpv4
use Rattle.icmp_part.specs.Icmpv4ReadsBack as icmpv4_back
use Rattle.icmp_part.specs.Icmpv6Format as icmpv6
use Rattle.icmp_part.specs.Icmpv6ReadsBack as icmpv6_back
use Rattle.etherparse_transport.specs.declared.transport_header.TransportHeader.{TransportHeader}
use Rattle.etherparse_transport.specs.declared.transport_header.TransportHeader.TheVariants as headers

-- the protocol of a header
abbrev pub proto_of : TransportHeader → Proto
proto_of (headers.Udp header) = Udp
proto_of (headers.Tcp header) = Tcp
proto_of (headers.Icmpv4 header) = Icmpv4
proto_of (headers.Icmpv6 header) = Icmpv6

-- the length of the longest header of the four protocols, in bytes: a TCP header, whose data offset counts at most 15 words of four bytes
abbrev pub max_header_len : ℕ
max_header_len = tcp.max_header_len

-- the error if the bytes do not begin with a header of this protocol
abbrev pub refusal : Proto → List ℕ → Option HeaderSliceError
refusal Udp bytes = option_map Len (udp.refusal bytes)
refusal Tcp bytes = tcp.refusal bytes
refusal Icmpv4 bytes = option_map Len (icmpv4.refusal bytes)
refusal Icmpv6 bytes = option_map Len (icmpv6.refusal bytes)

-- the bytes are accepted, and read as this header and the rest of the bytes
abbrev pub DecodesAs : List ℕ → TransportHeader → List ℕ → Type 0
DecodesAs bytes (headers.Udp header) rest = udp.DecodesAs bytes header rest
DecodesAs bytes (headers.Tcp header) rest = tcp.DecodesAs bytes header rest
DecodesAs bytes (headers.Icmpv4 header) rest = icmpv4.DecodesAs bytes header rest
DecodesAs bytes (headers.Icmpv6 header) rest = icmpv6.DecodesAs bytes header rest

-- accepted bytes with all meaningless bits of the header cleared; the bytes after the header are kept
abbrev pub canonical : Proto → List ℕ → List ℕ
canonical Udp bytes = udp.canonical bytes
canonical Tcp bytes = tcp.canonical bytes
canonical Icmpv4 bytes = icmpv4.canonical bytes
canonical Icmpv6 bytes = icmpv6.canonical bytes

-- the bytes of a header
abbrev pub wire : TransportHeader → List ℕ
wire (headers.Udp header) = udp.wire header
wire (headers.Tcp header) = tcp.wire header
wire (headers.Icmpv4 header) = icmpv4.wire header
wire (headers.Icmpv6 header) = icmpv6.wire header

-- The bytes of a header, with a payload after them, are read as this header and this payload. `Icmpv4ReadsBack` and `Icmpv6ReadsBack` state
-- how unknown ICMP messages and timestamp messages are read.
abbrev pub IsReadBack : TransportHeader → List ℕ → Type 0
IsReadBack (headers.Udp header) payload = udp.DecodesAs (udp.wire header ++ payload) header payload
IsReadBack (headers.Tcp header) payload = tcp.DecodesAs (tcp.wire header ++ payload) header payload
IsReadBack (headers.Icmpv4 header) payload =
    icmpv4_back.IsReadAs (icmpv4.wire header ++ payload) (icmpv4_back.reads_back header.icmp_type header.checksum payload)
IsReadBack (headers.Icmpv6 header) payload =
    icmpv6_back.IsReadAs (icmpv6.wire header ++ payload) (icmpv6_back.reads_back header.icmp_type header.checksum payload)

-- the layer of a header
abbrev pub layer_of : TransportHeader → Layer
layer_of (headers.Udp header) = layers.UdpHeader
layer_of (headers.Tcp header) = layers.TcpHeader
layer_of (headers.Icmpv4 header) = layers.Icmpv4
layer_of (headers.Icmpv6 header) = layers.Icmpv6

-- the error if a slice of this length is too short for the header
abbrev pub no_room : TransportHeader → ℕ → Option LenError
no_room header len = refusals.no_room (layer_of header) (wire header) len

-- the bytes are accepted, and all their meaningless bits are 0
pub record IsCanonical (protocol : Proto) (bytes : List ℕ) : Type 0 where
  pub accepted : refusal protocol bytes ≡ None
  pub unchanged : canonical protocol bytes ≡ bytes

-- the bytes are read as a header of this protocol and `rest`, and this header is written as `header_bytes`
pub record WritesDecoded (protocol : Proto) (bytes header_bytes rest : List ℕ) : Type 0 where
  pub header : TransportHeader
  pub protocol_of_header : proto_of header ≡ protocol
  pub decodes : DecodesAs bytes header rest
  pub written : header_bytes ≡ wire header
