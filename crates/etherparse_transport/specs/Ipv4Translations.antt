-- How an address translator translates an IPv4 packet (RFC 3022; RFC 5508 for ICMP): new addresses, a checksum of the header that is
-- updated from the addresses (RFC 1624), and the translated message.
use Rattle.std.specs.Prelude.{◌≡◌, ◌≤◌, ◌↔◌, ℕ, ◌+◌, ◌==◌, ◌&&◌, ◌||◌, Bool, false, true, is_none, not, List, [], ◌∷◌, drop, length, slice_index, slice_range, take, Option, Some, None, unwrap_or}
use Rattle.std.specs.Borrow.{Bor}
use Rattle.std.specs.Option.{option_map}
use Rattle.ip_part.specs.Addresses.{Addresses, Ipv4}
use Rattle.ip_part.specs.ExtensionHeaders.{authentication, host_identity}
use Rattle.ip_part.specs.Ip as ip
use Rattle.ip_part.specs.Protocols.{proto_over}
use Rattle.ip_part.specs.declared.ip_error.IpError.{IpError}
use Rattle.ip_part.specs.declared.proto.Proto.{Proto}
use Rattle.net_base.specs.IpHeaders.{ipv4_fragment_offset, ipv4_header_len, ipv4_header_of, version}
use Rattle.net_base.specs.IpNumbers.{icmpv6_number}
use Rattle.net_base.specs.PseudoHeader.{ipv4_pseudo_header}
use Rattle.net_base.specs.Refusals.{first_of, refused_if}
use Rattle.net_base.specs.declared.ipv4_header.Ipv4Header.{Ipv4Header}
use Rattle.word_sum.specs.Checksum.{Verifies, total}
use Rattle.etherparse_transport.specs.SourceRoutes.{contain_source_route}
use Rattle.etherparse_transport.specs.Families.{IsAcceptedBy, AddressPair, AreAddresses, Family, Translation, flow_message, message_by, message_in, message_of_both, opposite, quoted_packet, quoted_refusal, refusal_with, sum_of, translated_flow, translated_with, with_addresses, with_message}
use Rattle.etherparse_transport.specs.Translations.{IsVerifiedAlike, has_port, number}
use Rattle.etherparse_transport.specs.declared.ip.ipv4_translation.Ipv4Translation.{Ipv4Translation}
use Rattle.etherparse_transport.specs.declared.ip.message_place.Place.{Place}
use Rattle.etherparse_transport.specs.declared.err.packet.translate_error.TranslateError.{TranslateError}
use Rattle.etherparse_transport.specs.declared.err.packet.translate_error.TranslateError.TheVariants.{Ip, OtherVersion, Protocol, SourceRoute}

-- ---- the protocol

-- the protocol of an IPv4 packet, by the number in its header
abbrev pub ipv4_proto : List ℕ → Option Proto
ipv4_proto packet = proto_over (Ipv4 (ipv4_header_of packet).source (ipv4_header_of packet).destination) (slice_index packet 9)

-- the packet is a later fragment: its fragment offset is above 0
abbrev pub ipv4_is_later_fragment : List ℕ → Bool
ipv4_is_later_fragment packet = not (ipv4_fragment_offset packet == 0)

-- ---- errors

-- the options, which follow the first 20 bytes of the header, contain a loose or strict source route (RFC 791, section 3.1)
abbrev pub has_source_route : List ℕ → Bool
has_source_route packet = contain_source_route (drop 20 (ip.ipv4_header packet))

-- This protocol, other than UDP and TCP, has a checksum or an authentication that covers IPv4 addresses: DCCP (33; RFC 4340, section 9.1),
-- AH (51; RFC 4302, section 3.3.3), VRRP (112; RFC 5798, section 5.2.8), UDP-Lite (136; RFC 3828, section 3.1) and HIP (139; RFC 7401,
-- section 5.1.1). ICMPv6 (58) is included too. It has a pseudo header of IPv6 (RFC 4443, section 2.3), so it has no meaning over IPv4.
abbrev pub covers_ipv4_addresses : ℕ → Bool
covers_ipv4_addresses number =
    number == authentication
    || (number == icmpv6_number || (number == 33 || (number == 112 || (number == 136 || number == host_identity))))

-- The error of the headers: the error of `transport_in_ip_lax`. For a quoted packet it is only the error of the IPv4 header, whose total
-- length is ignored.
abbrev pub ipv4_headers_refusal : Bool → List ℕ → Option IpError
ipv4_headers_refusal false packet = ip.lax_refusal packet
ipv4_headers_refusal true packet = ip.ipv4_header_refusal packet

-- The first of these errors that applies: the error of the headers; another version; a source route, which contains other addresses; a
-- protocol that is not translated. A protocol other than UDP, TCP and ICMPv4 is not translated if a port is replaced, or if the protocol
-- covers addresses.
abbrev pub ipv4_place_refusal : Bool → Bool → List ℕ → Option TranslateError
ipv4_place_refusal is_quoted has_port packet = first_of (
    option_map Ip (ipv4_headers_refusal is_quoted packet)
    ∷ refused_if (not (version packet == 4)) OtherVersion
    ∷ refused_if (has_source_route packet) SourceRoute
    ∷ refused_if (is_none (ipv4_proto packet) && (has_port || covers_ipv4_addresses (slice_index packet 9)))
    (Protocol (record { 0 = slice_index packet 9 }))
    ∷ [])

-- ---- the family

-- the place of the checksum in an IPv4 header (RFC 791, section 3.1)
abbrev pub header_checksum_place : ℕ
header_checksum_place = 10

-- the family of IPv4 (RFC 791, section 3.1)
abbrev pub ipv4 : Family
ipv4 = record {
  address_len = 4;
  source_place = 12;
  destination_place = 16;
  header_checksum = Some header_checksum_place;
  covers_addresses = false;
  ignores_len = true;
  pseudo_header = λ addresses. ipv4_pseudo_header addresses.source addresses.destination;
  start = ipv4_header_len;
  proto = ipv4_proto;
  is_later_fragment = ipv4_is_later_fragment;
  place_refusal = ipv4_place_refusal;
}

-- what is replaced in an IPv4 packet
abbrev pub of_ipv4 : Ipv4Translation → Translation
of_ipv4 new =
    record { source = new.source; destination = new.destination; source_port = new.source_port; destination_port = new.destination_port }

-- the translation of an IPv4 packet that replaces this
abbrev pub to_ipv4 : Translation → Ipv4Translation
to_ipv4 new =
    record { source = new.source; destination = new.destination; source_port = new.source_port; destination_port = new.destination_port }

-- source and destination of an IPv4 packet
abbrev pub pair_of_ipv4 : Ipv4Header → AddressPair
pair_of_ipv4 addresses = record { source = addresses.source; destination = addresses.destination }

-- both addresses have four bytes
abbrev pub AreIpv4Addresses : Ipv4Header → Type 0
AreIpv4Addresses addresses = AreAddresses ipv4 (pair_of_ipv4 addresses)

-- ---- the addresses

-- the sum of source and destination
abbrev pub sum_of_ipv4 : Ipv4Header → ℕ
sum_of_ipv4 addresses = sum_of (pair_of_ipv4 addresses)

-- the sum of source and destination without the end-around carry
abbrev pub total_of_ipv4 : Ipv4Header → ℕ
total_of_ipv4 addresses = total addresses.source + total addresses.destination

-- an IPv4 packet with these addresses, and with the checksum of its header updated
abbrev pub with_ipv4_addresses : Ipv4Header → List ℕ → List ℕ
with_ipv4_addresses new packet = with_addresses ipv4 (pair_of_ipv4 new) packet

-- the addresses of an IPv4 packet after the translation
abbrev pub ipv4_addresses : Ipv4Translation → List ℕ → Ipv4Header
ipv4_addresses new packet = record {
  source = unwrap_or new.source (ipv4_header_of packet).source;
  destination = unwrap_or new.destination (ipv4_header_of packet).destination;
}

-- the addresses after the translation, as a value of `Addresses`
abbrev pub ipv4_between : Ipv4Translation → List ℕ → Addresses
ipv4_between new packet = Ipv4 (ipv4_addresses new packet).source (ipv4_addresses new packet).destination

-- ---- the message

-- the message of an IPv4 packet, which begins after the header and its options
abbrev pub message_in_ipv4 : Bool → List ℕ → List ℕ
message_in_ipv4 is_quoted packet = message_in ipv4 is_quoted packet

-- this message of an IPv4 packet, with new ports
abbrev pub ipv4_flow_message : Ipv4Translation → List ℕ → List ℕ → List ℕ
ipv4_flow_message new message packet = flow_message ipv4 (of_ipv4 new) message packet

-- an IPv4 packet with new addresses and this message
abbrev pub ipv4_with_message : Ipv4Translation → List ℕ → List ℕ → List ℕ
ipv4_with_message new message packet = with_message ipv4 (of_ipv4 new) message packet

-- an IPv4 packet with new addresses, and with new ports in this message
abbrev pub ipv4_translated_flow : Ipv4Translation → List ℕ → List ℕ → List ℕ
ipv4_translated_flow new message packet = translated_flow ipv4 (of_ipv4 new) message packet

-- `place` states where these bytes, the message of an IPv4 packet, begin and end, and which protocol they have
pub record IsIpv4Place (bytes packet : List ℕ) (place : Place) : Type 0 where
  pub is_ipv4 : version packet ≡ 4
  pub start : place.start ≡ ipv4_header_len packet
  pub message : slice_range packet place.start place.end ≡ bytes
  pub header : 20 ≤ place.start
  pub ordered : place.start ≤ place.end
  pub there : place.end ≤ length packet
  pub proto : place.proto ≡ ipv4_proto packet
  pub later : place.is_later_fragment ≡ ipv4_is_later_fragment packet

-- ---- an ICMP error

-- the opposite of a translation, as `opposite` states
abbrev pub ipv4_opposite : Ipv4Translation → Ipv4Translation
ipv4_opposite new = to_ipv4 (opposite (of_ipv4 new))

-- the translation of the quoted packet: the passed translation, or else the opposite of the translation of the packet
abbrev pub ipv4_of_quoted : Ipv4Translation → Option (Bor Ipv4Translation) → Ipv4Translation
ipv4_of_quoted new None = ipv4_opposite new
ipv4_of_quoted new (Some passed) = passed.now

-- the packet that an IPv4 packet quotes
abbrev pub ipv4_quoted : List ℕ → Option (List ℕ)
ipv4_quoted packet = quoted_packet ipv4 packet

-- ---- the errors of a translation

-- the error if a packet quotes a packet that can't be translated
abbrev pub ipv4_quoted_refusal : Bool → Option (List ℕ) → Option TranslateError
ipv4_quoted_refusal has_port quoted = quoted_refusal ipv4 has_port quoted

-- the error for a translation of the packet, and another translation of the quoted packet
abbrev pub ipv4_refusal_with : Ipv4Translation → Ipv4Translation → List ℕ → Option TranslateError
ipv4_refusal_with new of_quoted packet = refusal_with ipv4 (of_ipv4 new) (of_ipv4 of_quoted) packet

-- the error for this translation; the opposite translation applies to the quoted packet
abbrev pub ipv4_refusal : Ipv4Translation → List ℕ → Option TranslateError
ipv4_refusal new packet = ipv4_refusal_with new (ipv4_opposite new) packet

-- ---- the translated packet

-- the translated message of an IPv4 packet; `quoted` is the quoted packet, if there is one, and `of_quoted` is its translation
abbrev pub ipv4_message_by : Option (List ℕ) → Ipv4Translation → Ipv4Translation → List ℕ → List ℕ
ipv4_message_by quoted new of_quoted packet = message_by ipv4 quoted (of_ipv4 new) (of_ipv4 of_quoted) packet

-- the translated message; the translation `of_quoted` applies to the packet that an ICMP error quotes
abbrev pub ipv4_message_of_both : Ipv4Translation → Ipv4Translation → List ℕ → List ℕ
ipv4_message_of_both new of_quoted packet = message_of_both ipv4 (of_ipv4 new) (of_ipv4 of_quoted) packet

-- the translated packet; the translation `of_quoted` applies to the packet that an ICMP error quotes
abbrev pub ipv4_translated_with : Ipv4Translation → Ipv4Translation → List ℕ → List ℕ
ipv4_translated_with new of_quoted packet = translated_with ipv4 (of_ipv4 new) (of_ipv4 of_quoted) packet

-- the translated message of an IPv4 packet; the opposite translation applies to the quoted packet
abbrev pub ipv4_translated_message : Ipv4Translation → List ℕ → List ℕ
ipv4_translated_message new packet = ipv4_message_of_both new (ipv4_opposite new) packet

-- the translated packet; it is the old packet except for the checksum of the header, the addresses and the message
abbrev pub ipv4_translated : Ipv4Translation → List ℕ → List ℕ
ipv4_translated new packet = ipv4_translated_with new (ipv4_opposite new) packet

-- ---- a receiver's check

-- a receiver accepts the translated message of a packet exactly if it accepts this message, as `IsAcceptedBy` states
abbrev pub IsAcceptedByIpv4 : Ipv4Translation → List ℕ → List ℕ → List ℕ → Type 0
IsAcceptedByIpv4 new message packet translated = IsAcceptedBy ipv4 (of_ipv4 new) message packet translated

-- a receiver accepts this translated message of the packet exactly if it accepts the message, as `IsAcceptedByIpv4` states
abbrev pub IsIpv4Accepted : Ipv4Translation → List ℕ → List ℕ → Type 0
IsIpv4Accepted new packet translated = IsAcceptedByIpv4 new (message_in_ipv4 false packet) packet translated

-- If the packet is an ICMP error, a receiver accepts the translated error exactly if it accepts the error. The checksum of the error covers
-- the packet that it quotes. The statement also holds if some bytes of the error are in other fragments or are cut off.
abbrev pub IsIpv4ErrorAccepted : List ℕ → List ℕ → Type 0
IsIpv4ErrorAccepted packet translated = (quoted : List ℕ) → ipv4_quoted packet ≡ Some quoted
    → IsVerifiedAlike (length (message_in_ipv4 false packet)) (λ len. []) (λ len. []) (message_in_ipv4 false packet) translated

-- a router accepts the new header exactly if it accepts the old header (RFC 791, section 3.1)
abbrev pub IsHeaderAccepted : List ℕ → List ℕ → Type 0
IsHeaderAccepted packet translated =
    (Verifies [] (take (ipv4_header_len packet) translated)) ↔ (Verifies [] (take (ipv4_header_len packet) packet))
