-- How an ICMPv6 header is read back if a payload follows it.
use Rattle.std.specs.Prelude.{◌≡◌, ◌<◌, ◌^◌, ℕ, ◌+◌, nat_lt, if◌then◌else◌, List, ◌∷◌, length, Option, Some, Result}
use Rattle.std.specs.Option.{unwrap_or}
use Rattle.std.specs.declared.result.Result.TheVariants.{Ok, Err}
use Rattle.net_base.specs.Refusals.{wrong_length}
use Rattle.net_base.specs.declared.err.layer.Layer.TheVariants as layers
use Rattle.net_base.specs.declared.err.len_error.LenError.{LenError}
use Rattle.icmp_part.specs.IcmpEcho.{EchoFits}
use Rattle.icmp_part.specs.Icmpv6Format.{DecodesAs, formats, header_len, max_packet_len, max_payload_len, refusal}
use Rattle.icmp_part.specs.MessageFormat.{codes_of, listed}
use Rattle.icmp_part.specs.declared.icmpv6_header.Icmpv6Header.{Icmpv6Header}
use Rattle.icmp_part.specs.declared.icmpv6_type.Icmpv6Type.{Icmpv6Type}
use Rattle.icmp_part.specs.declared.icmpv6_type.Icmpv6Type.TheVariants.{Unknown, DestinationUnreachable, PacketTooBig, TimeExceeded, ParameterProblem, EchoRequest, EchoReply, RouterSolicitation, RouterAdvertisement, NeighborSolicitation, NeighborAdvertisement, Redirect}

-- reading these bytes returns this error, or this header and this rest
abbrev pub IsReadAs : List ℕ → Result (Icmpv6Header × List ℕ) LenError → Type 0
IsReadAs bytes (Ok found) = DecodesAs bytes found.0 found.1
IsReadAs bytes (Err error) = refusal bytes ≡ Some error

-- the header of this message with this checksum
abbrev pub icmpv6_header : Icmpv6Type → ℕ → Icmpv6Header
icmpv6_header message checksum = record { icmp_type = message; checksum = checksum }

-- The listed message with this type and code, with its fields from these four bytes. `None` if the type and code are not listed.
abbrev pub listed_kind : ℕ → ℕ → List ℕ → Option Icmpv6Type
listed_kind type code bytes5to8 = listed (codes_of formats type) code (type ∷ code ∷ 0 ∷ 0 ∷ bytes5to8)

-- An `Unknown` message with a listed type and code is read back as the listed message. Any other message is read back unchanged.
abbrev pub message_reads_back : Icmpv6Type → Icmpv6Type
message_reads_back (Unknown type code bytes5to8) = unwrap_or (listed_kind type code bytes5to8) (Unknown type code bytes5to8)
message_reads_back other = other

-- The result of reading a written header and this payload. If the payload is too long, the packet is refused.
abbrev pub reads_back : Icmpv6Type → ℕ → List ℕ → Result (Icmpv6Header × List ℕ) LenError
reads_back message checksum payload =
    if nat_lt max_payload_len (length payload)
    then Err (wrong_length layers.Icmpv6 max_packet_len (header_len + length payload))
    else Ok (icmpv6_header (message_reads_back message) checksum, payload)

-- the numbers of a message are in the ranges of their types, and arrays have their lengths
abbrev pub FieldsFit : Icmpv6Type → Type 0
FieldsFit (Unknown type code bytes5to8) = length bytes5to8 ≡ 4
FieldsFit (DestinationUnreachable code) = Unit {0}
FieldsFit (PacketTooBig mtu) = mtu < 2 ^ 32
FieldsFit (TimeExceeded code) = Unit {0}
FieldsFit (ParameterProblem header) = header.pointer < 2 ^ 32
FieldsFit (EchoRequest echo) = EchoFits echo
FieldsFit (EchoReply echo) = EchoFits echo
FieldsFit RouterSolicitation = Unit {0}
FieldsFit (RouterAdvertisement header) = header.router_lifetime < 2 ^ 16
FieldsFit NeighborSolicitation = Unit {0}
FieldsFit (NeighborAdvertisement header) = Unit {0}
FieldsFit Redirect = Unit {0}
