-- How an address translator translates the message in an IP packet (RFC 3022; RFC 5508 for ICMP). It replaces ports or an identifier, and
-- updates the checksum from the replaced words (RFC 1624).
use Rattle.std.specs.Prelude.{◌≡◌, ◌≢◌, ◌≤◌, ◌↔◌, ◌⊎◌, ◌%◌, true, false, ℕ, ◌+◌, ◌==◌, ◌&&◌, ◌||◌, Bool, is_none, is_some, nat_le, nat_lt, not, if◌then◌else◌, List, [], ◌∷◌, ◌++◌, drop, length, slice_index, take, Option, Some, None, unwrap_or}
use Rattle.std.specs.Int.{to_be_bytes, w16}
use Rattle.icmp_part.specs.Icmpv4Format as icmpv4
use Rattle.icmp_part.specs.Icmpv6Format as icmpv6
use Rattle.icmp_part.specs.QuotedPackets.{quoted_by_icmpv4, quoted_by_icmpv6}
use Rattle.ip_part.specs.Addresses.{Addresses, by_value}
use Rattle.ip_part.specs.Ip as ip
use Rattle.ip_part.specs.declared.proto.Proto.{Proto}
use Rattle.ip_part.specs.declared.proto.Proto.TheVariants as protos
use Rattle.ip_part.specs.declared.transport.TransportInIp.{TransportInIp}
use Rattle.net_base.specs.Bytes.{be_number}
use Rattle.net_base.specs.Refusals.{first_of, refused_if}
use Rattle.net_base.specs.StoredChecksum.{icmp_checksum_place, tcp_checksum_place, udp_checksum_place, with_checksum}
use Rattle.word_sum.specs.Checksum.{IsAllOnes, Verifies, all_ones, folded, total, zero_as_all_ones}
use Rattle.word_sum.specs.UpdatedChecksum.{TurnsIntoBy, updated_checksum_of, updated_udp_checksum_of}
use Rattle.etherparse_transport.specs.declared.err.packet.translate_error.TranslateError.{TranslateError}
use Rattle.etherparse_transport.specs.declared.err.packet.translate_error.TranslateError.TheVariants.{HeaderCutOff, IcmpMessage}

-- ---- words

-- the number in the two bytes at this place, or 0 if the bytes end before the second byte
abbrev pub number : ℕ → List ℕ → ℕ
number place bytes = if nat_le (place + 2) (length bytes) then be_number bytes place 2 else 0

-- the bytes with this number in the two bytes at this place; unchanged if the bytes end before the second byte
abbrev pub with_number : ℕ → ℕ → List ℕ → List ℕ
with_number place value bytes = if nat_le (place + 2) (length bytes) then with_checksum place bytes value else bytes

-- the sum of replaced words after another word is added
abbrev pub and_word : ℕ → ℕ → ℕ
and_word sum word = folded (sum + total (to_be_bytes w16 word))

-- Two changes, given by the sums of their removed and added words. The sum of the added words minus the sum of the removed words is the
-- same for both changes, modulo 65535. For example, one change also replaces some words by themselves. In each change, some added word is
-- not 0, and the sum of the removed words has 16 bits.
pub record IsSameChange (removed added removed_too added_too : ℕ) : Type 0 where
  pub difference : (removed + added_too) % all_ones ≡ (removed_too + added) % all_ones
  pub some : added ≢ 0
  pub some_too : added_too ≢ 0
  pub small : removed ≤ all_ones
  pub small_too : removed_too ≤ all_ones

-- two changes update each checksum to the same value: their sums are equal, or `IsSameChange` holds
abbrev pub AreUpdatedAlike : ℕ → ℕ → ℕ → ℕ → Type 0
AreUpdatedAlike removed added removed_too added_too =
    ((removed ≡ removed_too) × (added ≡ added_too)) ⊎ IsSameChange removed added removed_too added_too

-- ---- UDP and TCP

-- the place of the source port (RFC 768; RFC 9293, section 3.1)
abbrev pub source_port_place : ℕ
source_port_place = 0

-- the place of the destination port
abbrev pub destination_port_place : ℕ
destination_port_place = 2

-- the new port, or the old port at this place if there is no new port
abbrev pub port_or : Option ℕ → ℕ → List ℕ → ℕ
port_or port place message = unwrap_or port (number place message)

-- the message with the new ports; it keeps an old port for which there is no new port
abbrev pub with_ports : Option ℕ → Option ℕ → List ℕ → List ℕ
with_ports source destination message =
    with_number destination_port_place (port_or destination destination_port_place message)
    (with_number source_port_place (port_or source source_port_place message) message)

-- the sum of the removed words: the old ports, and the old addresses in the pseudo header, whose sum is `addresses`
abbrev pub removed_ports : ℕ → List ℕ → ℕ
removed_ports addresses message = and_word (and_word addresses (number source_port_place message)) (number destination_port_place message)

-- the sum of the added words: the new ports, and the new addresses in the pseudo header, whose sum is `addresses`
abbrev pub added_ports : ℕ → Option ℕ → Option ℕ → List ℕ → ℕ
added_ports addresses source destination message =
    and_word (and_word addresses (port_or source source_port_place message)) (port_or destination destination_port_place message)

-- a UDP packet with the new ports, and with its checksum updated by addresses and ports; a checksum of 0 is unchanged (RFC 768)
abbrev pub translated_udp : ℕ → ℕ → Option ℕ → Option ℕ → List ℕ → List ℕ
translated_udp old new source destination packet =
    with_number udp_checksum_place (updated_udp_checksum_of (number udp_checksum_place packet)
    (removed_ports old packet) (added_ports new source destination packet))
    (with_ports source destination packet)

-- a TCP segment with the new ports, and with its checksum updated by addresses and ports
abbrev pub translated_tcp : ℕ → ℕ → Option ℕ → Option ℕ → List ℕ → List ℕ
translated_tcp old new source destination segment =
    with_number tcp_checksum_place (updated_checksum_of (number tcp_checksum_place segment)
    (removed_ports old segment) (added_ports new source destination segment))
    (with_ports source destination segment)

-- ---- ICMP queries

-- this is the type of a request with an identifier: echo, timestamp or information (RFC 792), address mask (RFC 950), or echo over IPv6
-- (RFC 4443, section 4.1)
abbrev pub is_request : Proto → ℕ → Bool
is_request protos.Udp type = false
is_request protos.Tcp type = false
is_request protos.Icmpv4 type = type == 8 || (type == 13 || (type == 15 || type == 17))
is_request protos.Icmpv6 type = type == 128

-- this is the type of a reply with an identifier: the reply to a request that `is_request` lists
abbrev pub is_reply : Proto → ℕ → Bool
is_reply protos.Udp type = false
is_reply protos.Tcp type = false
is_reply protos.Icmpv4 type = type == 0 || (type == 14 || (type == 16 || type == 18))
is_reply protos.Icmpv6 type = type == 129

-- the place of the identifier of a query (RFC 792; RFC 950; RFC 4443, section 4)
abbrev pub identifier_place : ℕ
identifier_place = 4

-- the sum of the words of an ICMP message, without its checksum
abbrev pub rest_of_message : List ℕ → ℕ
rest_of_message message = total (with_number icmp_checksum_place 0 message)

-- The checksum to store in a query, given the updated checksum. If all other bytes of an ICMPv4 echo reply are 0, its checksum is 65535,
-- but the update gives 0 (RFC 1624).
abbrev pub updated_query_checksum : List ℕ → ℕ → ℕ
updated_query_checksum message checksum = if rest_of_message message == 0 then zero_as_all_ones checksum else checksum

-- a query with the new identifier
abbrev pub with_identifier : Option ℕ → List ℕ → List ℕ
with_identifier identifier message = with_number identifier_place (port_or identifier identifier_place message) message

-- a query with the new identifier, and with its checksum updated by the addresses and the identifier
abbrev pub translated_query : ℕ → ℕ → Option ℕ → List ℕ → List ℕ
translated_query old new identifier message =
    with_number icmp_checksum_place (updated_query_checksum (with_identifier identifier message)
    (updated_checksum_of (number icmp_checksum_place message)
    (and_word old (number identifier_place message)) (and_word new (port_or identifier identifier_place message))))
    (with_identifier identifier message)

-- the message is a request or a reply with an identifier, and contains its whole identifier; it may have any code
abbrev pub is_query : Proto → List ℕ → Bool
is_query proto message = nat_le 6 (length message) && (is_request proto (slice_index message 0) || is_reply proto (slice_index message 0))

-- The new identifier of a query. The identifier of a request belongs to the source, and the identifier of a reply to the destination (RFC
-- 5508, section 3.1).
abbrev pub new_identifier : Proto → Option ℕ → Option ℕ → List ℕ → Option ℕ
new_identifier proto source destination message = if is_request proto (slice_index message 0) then source else destination

-- an ICMP message with its checksum updated by the sums of the removed and the added words
abbrev pub with_updated_checksum : ℕ → ℕ → List ℕ → List ℕ
with_updated_checksum removed added message =
    with_number icmp_checksum_place (updated_checksum_of (number icmp_checksum_place message) removed added) message

-- ---- the message of a packet

-- The translated message of a protocol. An ICMPv4 message other than a query is unchanged, since ICMPv4 has no pseudo header. In an ICMPv6
-- message other than a query, only the checksum is updated. A quoted packet may contain such a message.
abbrev pub translated_message : Proto → ℕ → ℕ → Option ℕ → Option ℕ → List ℕ → List ℕ
translated_message protos.Udp old new source destination message = translated_udp old new source destination message
translated_message protos.Tcp old new source destination message = translated_tcp old new source destination message
translated_message protos.Icmpv4 old new source destination message =
    if is_query protos.Icmpv4 message then translated_query 0 0 (new_identifier protos.Icmpv4 source destination message) message
    else message
translated_message protos.Icmpv6 old new source destination message =
    if is_query protos.Icmpv6 message then translated_query old new (new_identifier protos.Icmpv6 source destination message) message
    else with_updated_checksum old new message

-- ---- the addresses

-- these bytes, in which `new` replaces the bytes at this place
abbrev pub with_bytes : ℕ → List ℕ → List ℕ → List ℕ
with_bytes place new bytes = take place bytes ++ (new ++ drop (place + length new) bytes)

-- ---- the message in its packet

-- The message after headers of this length. It consists of the bytes after the headers that the IP header counts. If the IP header states
-- no length, or if `is_quoted` is true, it consists of all bytes after the headers. `is_quoted` is true for an IPv4 packet that an ICMP
-- error quotes.
abbrev pub counted_after : Bool → ℕ → List ℕ → List ℕ
counted_after is_quoted len packet = drop len (ip.counted (is_quoted || ip.lacks_len packet) packet)

-- A message with new ports, or unchanged if its protocol is not known. A later fragment is unchanged, since its first bytes are not a
-- transport header.
abbrev pub translated_in : Bool → Option Proto → ℕ → ℕ → Option ℕ → Option ℕ → List ℕ → List ℕ
translated_in is_later_fragment None old new source destination message = message
translated_in is_later_fragment (Some proto) old new source destination message =
    if is_later_fragment then message else translated_message proto old new source destination message

-- ---- an ICMP error

-- An ICMP error with an updated checksum, in which the translated packet replaces the quoted packet. The quoted packet follows the ICMP
-- header of eight bytes. `old` and `new` are the sums of the old and the new addresses in the pseudo header.
abbrev pub with_quote : ℕ → ℕ → List ℕ → List ℕ → List ℕ → List ℕ
with_quote old new quoted translated message =
    with_updated_checksum (folded (old + total quoted)) (folded (new + total translated)) (with_bytes 8 translated message)

-- the packet that a message of this protocol quotes
abbrev pub quoted_by : Proto → List ℕ → Option (List ℕ)
quoted_by protos.Udp message = None
quoted_by protos.Tcp message = None
quoted_by protos.Icmpv4 message = quoted_by_icmpv4 message
quoted_by protos.Icmpv6 message = quoted_by_icmpv6 message

-- the packet that a message of this protocol quotes; a later fragment quotes no packet
abbrev pub quoted_in : Bool → Option Proto → List ℕ → Option (List ℕ)
quoted_in is_later_fragment None message = None
quoted_in is_later_fragment (Some proto) message = if is_later_fragment then None else quoted_by proto message

-- ---- errors

-- a translation with these ports replaces a port or an identifier
abbrev pub has_port : Option ℕ → Option ℕ → Bool
has_port source destination = is_some source || is_some destination

-- The number of bytes of a transport header that a translation needs. An ICMP error quotes at least these bytes (RFC 792: 64 bits of data).
-- They contain the ports or the identifier, and any checksum except that of TCP. The checksum of TCP is updated if it is present.
abbrev pub needed_len : ℕ
needed_len = 8

-- the message is a redirect; its bytes 4 to 7 contain the address of a router in the network of its receiver (RFC 792)
abbrev pub is_redirect : List ℕ → Bool
is_redirect message = slice_index message 0 == 5

-- The error for an ICMP message that is not a query: its typed slice refuses it, it is an ICMPv4 redirect, or it is no ICMP error.
abbrev pub icmp_refusal : Proto → List ℕ → Option TranslateError
icmp_refusal protos.Udp message = None
icmp_refusal protos.Tcp message = None
icmp_refusal protos.Icmpv4 message =
    refused_if (not (is_query protos.Icmpv4 message)
    && (is_some (icmpv4.refusal message) || (is_redirect message || is_none (quoted_by_icmpv4 message)))) IcmpMessage
icmp_refusal protos.Icmpv6 message =
    refused_if (not (is_query protos.Icmpv6 message) && (is_some (icmpv6.refusal message) || is_none (quoted_by_icmpv6 message)))
    IcmpMessage

-- The error for a message: its first 8 bytes are not all present, or its ICMP message can't be translated. There is no error for a later
-- fragment, which contains no header, or for an unknown protocol.
abbrev pub message_refusal : Bool → Option Proto → List ℕ → Option TranslateError
message_refusal is_later_fragment None message = None
message_refusal is_later_fragment (Some proto) message =
    if is_later_fragment then None
    else first_of (
    refused_if (nat_lt (length message) needed_len) (HeaderCutOff needed_len (length message))
    ∷ icmp_refusal proto message
    ∷ [])

-- ---- the reading

-- `found` is the transport in a translated packet. It is equal to `was`, the transport in the old packet, except that it has these
-- addresses and this message.
pub record IsTransportWith (between : Addresses) (message : List ℕ) (was found : TransportInIp) : Type 0 where
  pub addresses : by_value found.addresses ≡ between
  pub protocol : found.protocol ≡ was.protocol
  pub payload : found.payload.now ≡ message
  pub payload_offset : found.payload_offset ≡ was.payload_offset
  pub is_fragment : found.is_fragment ≡ was.is_fragment
  pub is_later_fragment : found.is_later_fragment ≡ was.is_later_fragment
  pub is_cut_off : found.is_cut_off ≡ was.is_cut_off
  pub is_length_missing : found.is_length_missing ≡ was.is_length_missing

-- `transport_in_ip_lax` accepts the translated packet, and finds the transport with these addresses and this message
pub record IsReadWith (packet translated : List ℕ) (between : Addresses) (message : List ℕ) : Type 0 where
  pub accepted : ip.lax_refusal translated ≡ None
  pub found : (was found : TransportInIp)
      → ip.Carries packet was → was.is_length_missing ≡ ip.lacks_len packet
      → ip.Carries translated found → found.is_length_missing ≡ ip.lacks_len translated
      → IsTransportWith between message was found

-- ---- a receiver's check

-- `before` is the sum that a receiver adds to the old message, and `after` is the sum that it adds to the new message. Each is the sum of
-- the pseudo header, and of bytes that do not change. For ICMPv4, which has no pseudo header, `before` and `after` are equal. For the other
-- protocols neither is 0, and a change with the sums `removed` and `added` turns `before` into `after`.
abbrev pub HaveSums : Proto → ℕ → ℕ → ℕ → ℕ → Type 0
HaveSums protos.Udp removed added before after = TurnsIntoBy removed added before after × (before ≢ 0) × (after ≢ 0)
HaveSums protos.Tcp removed added before after = TurnsIntoBy removed added before after × (before ≢ 0) × (after ≢ 0)
HaveSums protos.Icmpv4 removed added before after = before ≡ after
HaveSums protos.Icmpv6 removed added before after = TurnsIntoBy removed added before after × (before ≢ 0) × (after ≢ 0)

-- The checksum of a message is updated. The message contains its checksum and its ports or identifier, up to byte 7 in UDP, 17 in TCP, and
-- 5 in ICMP. A UDP packet has a checksum, and an ICMP message is a query. The message is not an ICMPv4 echo reply that consists of zeros,
-- checksum included. The update of RFC 1624 can't tell the checksums 0 and 65535 of such a reply apart.
abbrev pub IsUpdated : Proto → List ℕ → Type 0
IsUpdated protos.Udp packet = (8 ≤ length packet) × (number udp_checksum_place packet ≢ 0)
IsUpdated protos.Tcp segment = 18 ≤ length segment
IsUpdated protos.Icmpv4 message = (6 ≤ length message) × (is_query protos.Icmpv4 message ≡ true) × (total message ≢ 0)
IsUpdated protos.Icmpv6 message = (6 ≤ length message) × (is_query protos.Icmpv6 message ≡ true)

-- if the pseudo headers have these sums, a receiver accepts the translated message exactly if it accepts the message
abbrev pub IsAcceptedAlike : ℕ → ℕ → List ℕ → List ℕ → Type 0
IsAcceptedAlike before after message translated = (IsAllOnes (after + total translated)) ↔ (IsAllOnes (before + total message))

-- The least number of bytes of a message that a receiver sums, if the IP header counts `len` bytes. Only a UDP packet may be shorter, since
-- its own length field states where it ends (RFC 768).
abbrev pub least_summed : Proto → ℕ → ℕ
least_summed protos.Udp len = 8
least_summed protos.Tcp len = len
least_summed protos.Icmpv4 len = len
least_summed protos.Icmpv6 len = len

-- A receiver accepts the translated message exactly if it accepts the message. `new` and `old` return the pseudo header for a length.
-- `whole` is about a whole message. `received` is about a message of which the receiver sums the first `count` bytes, at least `least`, and
-- then bytes that are missing here. The missing bytes are in other fragments, or were cut off.
pub record IsVerifiedAlike (least : ℕ) (old new : ℕ → List ℕ) (message translated : List ℕ) : Type 0 where
  pub whole : (Verifies (new (length message)) translated) ↔ (Verifies (old (length message)) message)
  pub received : (len count : ℕ) (missing : List ℕ) → least ≤ count
      → (Verifies (new len) (take count translated ++ missing)) ↔ (Verifies (old len) (take count message ++ missing))
