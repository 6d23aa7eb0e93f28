-- The reasons why a packet stays as it is.
use Rattle.std.specs.Prelude.{ℕ, ◌==◌, ◌&&◌, Bool, is_none, not, if◌then◌else◌, List, [], ◌∷◌, Option, Some, None}
use Rattle.std.specs.Cmp.Lexicographic.{pointwise}
use Rattle.std.specs.Option.{option_eq, option_map}
use Rattle.etherparse_transport.specs.Ipv4Translations.{ipv4_refusal}
use Rattle.etherparse_transport.specs.Ipv6Translations.{ipv6_refusal}
use Rattle.etherparse_transport.specs.declared.err.packet.translate_error.TranslateError.{TranslateError}
use Rattle.etherparse_transport.specs.declared.err.packet.translate_error.TranslateError.TheVariants as errors
use Rattle.etherparse_transport.specs.declared.ip.ipv4_translation.Ipv4Translation.{Ipv4Translation}
use Rattle.etherparse_transport.specs.declared.ip.ipv6_translation.Ipv6Translation.{Ipv6Translation}
use Rattle.ip_part.specs.Ip.{lax_refusal}
use Rattle.net_base.specs.IpHeaders.{version}
use Rattle.net_base.specs.Refusals.{first_of, refused_if}
use Rattle.translator.specs.Given.{ipv4_by, ipv4_by_quoted, ipv4_given, ipv6_by, ipv6_by_quoted, ipv6_given, quoted_of}
use Rattle.translator.specs.declared.reason.Reason.{Reason}
use Rattle.translator.specs.declared.reason.Reason.TheVariants as reasons
use Rattle.translator.specs.declared.table.Table.{Table}

-- the reason that corresponds to an error of the library
abbrev pub of_error : TranslateError → Reason
of_error (errors.Ip error) = reasons.IpHeaders error
of_error errors.OtherVersion = reasons.OtherVersion
of_error errors.SourceRoute = reasons.SourceRoute
of_error (errors.Protocol protocol) = reasons.Protocol protocol
of_error (errors.HeaderCutOff required_len len) = reasons.TransportHeader
of_error errors.IcmpMessage = reasons.IcmpMessage
of_error errors.QuotedPacket = reasons.QuotedPacket

-- `transport_in_ip_lax` accepts the packet, and the packet has this IP version
abbrev pub is_read : ℕ → List ℕ → Bool
is_read expected packet = is_none (lax_refusal packet) && version packet == expected

-- the two new addresses are equal, or both are missing
abbrev pub is_same : Option (List ℕ) → Option (List ℕ) → Bool
is_same address other = option_eq (pointwise ◌==◌) address other

-- ---- rules in their order

-- The reason why an ICMP error that quotes this packet is not translated. The headers of the quoted packet are refused or have the other IP
-- version, or the table gives different addresses for the error and for the quoted packet (RFC 5508, section 4).
abbrev pub quoted_reason : ℕ → List ℕ → Bool → Option Reason
quoted_reason expected quoted are_same = first_of (
    refused_if (not (is_read expected quoted)) reasons.QuotedPacket
    ∷ refused_if (not are_same) reasons.QuotedAddresses
    ∷ [])

-- the reason why it is not known what to replace in a packet: its headers are refused with this error of the library, or have the other IP
-- version, or the packet that it quotes is the reason
abbrev pub unknown_reason : ℕ → List ℕ → Option Reason → Option Reason
unknown_reason expected packet quoting = first_of (
    option_map reasons.IpHeaders (lax_refusal packet)
    ∷ refused_if (not (version packet == expected)) reasons.OtherVersion
    ∷ quoting
    ∷ [])

-- The reason why a packet stays as it is. It is not known what to replace, or the library refuses the packet. If nothing is replaced, a
-- refusal by the library does not count.
abbrev pub reason_by : Option Reason → Bool → Option TranslateError → Option Reason
reason_by unknown is_nothing refusal = first_of (
    unknown
    ∷ (if is_nothing then None else option_map of_error refusal)
    ∷ [])

-- ---- IPv4

-- the two translations have the same new addresses
abbrev pub is_same_ipv4 : Ipv4Translation → Ipv4Translation → Bool
is_same_ipv4 new other = is_same new.source other.source && is_same new.destination other.destination

-- the translation replaces nothing
abbrev pub is_ipv4_nothing : Ipv4Translation → Bool
is_ipv4_nothing new = is_none new.source && (is_none new.destination && (is_none new.source_port && is_none new.destination_port))

-- why the packet that an ICMP error quotes prevents the translation of the error; `own` is what the table gives for the error itself
abbrev pub ipv4_quoting_reason : Table → Ipv4Translation → Option (List ℕ) → Option Reason
ipv4_quoting_reason table own None = None
ipv4_quoting_reason table own (Some quoted) = quoted_reason 4 quoted (is_same_ipv4 own (ipv4_by_quoted table quoted))

-- the reason why it is not known what to replace in an IPv4 packet
abbrev pub ipv4_unknown_reason : Table → List ℕ → Option Reason
ipv4_unknown_reason table packet = unknown_reason 4 packet (ipv4_quoting_reason table (ipv4_by table packet) (quoted_of packet))

-- the reason why an IPv4 packet stays as it is
abbrev pub ipv4_reason : Table → List ℕ → Option Reason
ipv4_reason table packet =
    reason_by (ipv4_unknown_reason table packet) (is_ipv4_nothing (ipv4_given table packet)) (ipv4_refusal (ipv4_given table packet) packet)

-- ---- IPv6

-- the two translations have the same new addresses
abbrev pub is_same_ipv6 : Ipv6Translation → Ipv6Translation → Bool
is_same_ipv6 new other = is_same new.source other.source && is_same new.destination other.destination

-- the translation replaces nothing
abbrev pub is_ipv6_nothing : Ipv6Translation → Bool
is_ipv6_nothing new = is_none new.source && (is_none new.destination && (is_none new.source_port && is_none new.destination_port))

-- why the packet that an ICMP error quotes prevents the translation of the error; `own` is what the table gives for the error itself
abbrev pub ipv6_quoting_reason : Table → Ipv6Translation → Option (List ℕ) → Option Reason
ipv6_quoting_reason table own None = None
ipv6_quoting_reason table own (Some quoted) = quoted_reason 6 quoted (is_same_ipv6 own (ipv6_by_quoted table quoted))

-- the reason why it is not known what to replace in an IPv6 packet
abbrev pub ipv6_unknown_reason : Table → List ℕ → Option Reason
ipv6_unknown_reason table packet = unknown_reason 6 packet (ipv6_quoting_reason table (ipv6_by table packet) (quoted_of packet))

-- the reason why an IPv6 packet stays as it is
abbrev pub ipv6_reason : Table → List ℕ → Option Reason
ipv6_reason table packet =
    reason_by (ipv6_unknown_reason table packet) (is_ipv6_nothing (ipv6_given table packet)) (ipv6_refusal (ipv6_given table packet) packet)

-- ---- either version

-- the reason why an IP packet stays as it is, if there is one
abbrev pub reason_of : Table → List ℕ → Option Reason
reason_of table packet = if version packet == 6 then ipv6_reason table packet else ipv4_reason table packet
