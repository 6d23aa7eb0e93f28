-- How an ICMPv4 header is read back if a payload follows it.
use Rattle.std.specs.Prelude.{◌≡◌, ◌<◌, ◌^◌, ℕ, ◌+◌, ◌==◌, ◌&&◌, if◌then◌else◌, List, [], ◌∷◌, ◌++◌, length, Option, Some, Result}
use Rattle.std.specs.Option.{unwrap_or}
use Rattle.std.specs.declared.result.Result.TheVariants.{Ok, Err}
use Rattle.net_base.specs.Refusals.{wrong_length}
use Rattle.net_base.specs.declared.err.layer.Layer.{Layer}
use Rattle.net_base.specs.declared.err.layer.Layer.TheVariants as layers
use Rattle.net_base.specs.declared.err.len_error.LenError.{LenError}
use Rattle.icmp_part.specs.IcmpEcho.{EchoFits}
use Rattle.icmp_part.specs.Icmpv4Format.{DecodesAs, formats, next_hop_mtu, refusal, timestamp_of}
use Rattle.icmp_part.specs.MessageFormat.{codes_of, listed}
use Rattle.icmp_part.specs.declared.icmpv4.timestamp_message.TimestampMessage.{TimestampMessage}
use Rattle.icmp_part.specs.declared.icmpv4_header.Icmpv4Header.{Icmpv4Header}
use Rattle.icmp_part.specs.declared.icmpv4_type.Icmpv4Type.{Icmpv4Type}
use Rattle.icmp_part.specs.declared.icmpv4_type.Icmpv4Type.TheVariants.{Unknown, EchoReply, DestinationUnreachable, Redirect, EchoRequest, TimeExceeded, ParameterProblem, TimestampRequest, TimestampReply}

-- reading these bytes returns this error, or this header and this rest
abbrev pub IsReadAs : List ℕ → Result (Icmpv4Header × List ℕ) LenError → Type 0
IsReadAs bytes (Ok found) = DecodesAs bytes found.0 found.1
IsReadAs bytes (Err error) = refusal bytes ≡ Some error

-- the header of this message with this checksum
abbrev pub icmpv4_header : Icmpv4Type → ℕ → Icmpv4Header
icmpv4_header message checksum = record { icmp_type = message; checksum = checksum }

-- A timestamp message is read back only without a payload, since it is the whole packet. With a payload it is refused.
abbrev pub timestamp_reads_back : Icmpv4Type → Layer → ℕ → List ℕ → Result (Icmpv4Header × List ℕ) LenError
timestamp_reads_back message layer checksum payload =
    if length payload == 0 then Ok (icmpv4_header message checksum, [])
    else Err (wrong_length layer 20 (20 + length payload))

-- An `Unknown` message may have the type and code of a timestamp message. It is read back as a timestamp message if exactly twelve bytes
-- follow its header. These bytes are the three times. If any other number of bytes follows, the packet is refused.
abbrev pub raw_timestamp_reads_back : (TimestampMessage → Icmpv4Type) → Layer → List ℕ → ℕ → List ℕ
    → Result (Icmpv4Header × List ℕ) LenError
raw_timestamp_reads_back variant layer bytes5to8 checksum payload =
    if length payload == 12 then Ok (icmpv4_header (variant (timestamp_of (bytes5to8 ++ payload) 0)) checksum, [])
    else Err (wrong_length layer 20 (8 + length payload))

-- The listed message with this type and code, with its fields from these four bytes. `None` if the type and code are not listed.
abbrev pub listed_kind : ℕ → ℕ → List ℕ → Option Icmpv4Type
listed_kind type code bytes5to8 = listed (codes_of formats type) code (type ∷ code ∷ 0 ∷ 0 ∷ bytes5to8)

-- The result of reading a written header and this payload. For timestamp messages and replies the rules above apply. An `Unknown` message
-- with a listed type and code is read as the listed message. Any other message is read unchanged.
abbrev pub reads_back : Icmpv4Type → ℕ → List ℕ → Result (Icmpv4Header × List ℕ) LenError
reads_back (TimestampRequest message) checksum payload =
    timestamp_reads_back (TimestampRequest message) layers.Icmpv4Timestamp checksum payload
reads_back (TimestampReply message) checksum payload =
    timestamp_reads_back (TimestampReply message) layers.Icmpv4TimestampReply checksum payload
reads_back (Unknown type code bytes5to8) checksum payload =
    if (type == 13) && (code == 0) then raw_timestamp_reads_back TimestampRequest layers.Icmpv4Timestamp bytes5to8 checksum payload
    else if (type == 14) && (code == 0) then raw_timestamp_reads_back TimestampReply layers.Icmpv4TimestampReply bytes5to8 checksum payload
    else Ok (icmpv4_header (unwrap_or (listed_kind type code bytes5to8) (Unknown type code bytes5to8)) checksum, payload)
reads_back other checksum payload = Ok (icmpv4_header other checksum, payload)

-- ---- the ranges of fields

-- the identifier and the sequence number fit in 16 bits, and each time fits in 32 bits
abbrev pub TimestampFits : TimestampMessage → Type 0
TimestampFits message = (message.id < 2 ^ 16) × (message.seq < 2 ^ 16)
    × (message.originate_timestamp < 2 ^ 32) × (message.receive_timestamp < 2 ^ 32) × (message.transmit_timestamp < 2 ^ 32)

-- the numbers of a message are in the ranges of their types, and arrays have their lengths
abbrev pub FieldsFit : Icmpv4Type → Type 0
FieldsFit (Unknown type code bytes5to8) = length bytes5to8 ≡ 4
FieldsFit (EchoReply echo) = EchoFits echo
FieldsFit (DestinationUnreachable header) = next_hop_mtu header < 2 ^ 16
FieldsFit (Redirect header) = length header.gateway_internet_address ≡ 4
FieldsFit (EchoRequest echo) = EchoFits echo
FieldsFit (TimeExceeded code) = Unit {0}
FieldsFit (ParameterProblem header) = Unit {0}
FieldsFit (TimestampRequest message) = TimestampFits message
FieldsFit (TimestampReply message) = TimestampFits message
