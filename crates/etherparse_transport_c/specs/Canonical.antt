-- The canonical header in the interface to C.
use Rattle.std.specs.Prelude.{ℕ, ◌==◌, if◌then◌else◌, List, [], length, take, Option, Some, None}
use Rattle.std.specs.Option.{option_map}
use Rattle.ip_part.specs.declared.proto.Proto.{Proto}
use Rattle.ip_part.specs.declared.proto.Proto.TheVariants.{Udp, Tcp, Icmpv4, Icmpv6}
use Rattle.etherparse_transport.specs.Formats as formats
use Rattle.etherparse_transport.specs.Layouts.{layout_of}
use Rattle.etherparse_transport_c.specs.Errors.{first_refusal, no_room, of_header_slice, of_protocol}
use Rattle.etherparse_transport_c.specs.Numbers as numbers
use Rattle.etherparse_transport_c.specs.declared.error.EtherparseError.{EtherparseError}

-- the protocol with this number in IP headers, or `None` if it is not UDP, TCP, ICMPv4 or ICMPv6
abbrev pub protocol_of : ℕ → Option Proto
protocol_of number =
    if number == numbers.protocol_icmpv4 then Some Icmpv4
    else if number == numbers.protocol_tcp then Some Tcp
    else if number == numbers.protocol_udp then Some Udp
    else if number == numbers.protocol_icmpv6 then Some Icmpv6
    else None

-- the canonical header of accepted bytes of this protocol, or no bytes if the protocol is unknown
abbrev pub canonical_bytes : Option Proto → List ℕ → List ℕ
canonical_bytes None bytes = []
canonical_bytes (Some protocol) bytes = take ((layout_of protocol bytes).header_len) (formats.canonical protocol bytes)

-- the first refusal that applies: the protocol is unknown, the header is refused, or the buffer is too small
abbrev pub refusal : ℕ → Option Proto → List ℕ → ℕ → Option EtherparseError
refusal number None bytes room = Some (of_protocol number)
refusal number (Some protocol) bytes room =
    first_refusal (option_map of_header_slice (formats.refusal protocol bytes))
    (no_room (length (canonical_bytes (Some protocol) bytes)) room)
