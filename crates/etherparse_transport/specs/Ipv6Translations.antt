-- How an address translator translates an IPv6 packet (RFC 3022; RFC 5508 for ICMP): new addresses and the translated message. An IPv6
-- header has no checksum.
use Rattle.std.specs.Prelude.{◌≡◌, ◌≤◌, ◌%◌, ℕ, ◌+◌, ◌==◌, ◌&&◌, ◌||◌, Bool, false, true, is_none, not, List, [], ◌∷◌, length, slice_range, Option, Some, None, unwrap_or}
use Rattle.std.specs.Borrow.{Bor}
use Rattle.std.specs.Option.{option_map}
use Rattle.ip_part.specs.Addresses.{Addresses, Ipv6}
use Rattle.ip_part.specs.ExtensionHeaders.{is_extension}
use Rattle.ip_part.specs.Ip as ip
use Rattle.ip_part.specs.Protocols.{proto_over}
use Rattle.ip_part.specs.declared.proto.Proto.{Proto}
use Rattle.ip_part.specs.declared.proto.Proto.TheVariants as protos
use Rattle.net_base.specs.IpHeaders.{ipv6_header_of, version}
use Rattle.net_base.specs.IpNumbers.{icmpv4_number}
use Rattle.net_base.specs.PseudoHeader.{ipv6_pseudo_header}
use Rattle.net_base.specs.Refusals.{first_of, refused_if}
use Rattle.net_base.specs.declared.ipv6_header.Ipv6Header.{Ipv6Header}
use Rattle.word_sum.specs.Checksum.{total}
use Rattle.etherparse_transport.specs.SkippedHeaders.{skipped_headers}
use Rattle.etherparse_transport.specs.Families.{IsAcceptedBy, addresses_of, new_addresses, pseudo_header_of, AddressPair, AreAddresses, Family, Translation, flow_message, message_by, message_in, message_of_both, opposite, quoted_packet, quoted_refusal, refusal_with, sum_of, translated_flow, translated_with, with_addresses, with_message}
use Rattle.etherparse_transport.specs.Translations.{IsVerifiedAlike, has_port}
use Rattle.etherparse_transport.specs.declared.ip.ipv6_translation.Ipv6Translation.{Ipv6Translation}
use Rattle.etherparse_transport.specs.declared.ip.message_place.Place.{Place}
use Rattle.etherparse_transport.specs.declared.err.packet.translate_error.TranslateError.{TranslateError}
use Rattle.etherparse_transport.specs.declared.err.packet.translate_error.TranslateError.TheVariants.{Ip, OtherVersion, Protocol}

-- ---- the protocol

-- the start of the message: after the IPv6 header and the extension headers that are skipped
abbrev pub ipv6_start : List ℕ → ℕ
ipv6_start packet = (skipped_headers packet).len

-- the number of the protocol after the skipped headers
abbrev pub ipv6_protocol : List ℕ → ℕ
ipv6_protocol packet = (skipped_headers packet).protocol.0

-- the protocol of an IPv6 packet, by its number
abbrev pub ipv6_proto : List ℕ → Option Proto
ipv6_proto packet = proto_over (Ipv6 (ipv6_header_of packet).source (Some (ipv6_header_of packet).destination)) (ipv6_protocol packet)

-- the last skipped header is the fragment header of a later fragment
abbrev pub ipv6_is_later_fragment : List ℕ → Bool
ipv6_is_later_fragment packet = (skipped_headers packet).is_later_fragment

-- ---- errors

-- This is the number of an extension header, of ICMPv4, or of a protocol whose checksum covers addresses and is not updated. An extension
-- header is not skipped if it contains another address, precedes a message that covers addresses, or is not whole. ICMPv4 (1) has no
-- meaning over IPv6. The protocols are DCCP (33; RFC 4340, section 9.1), OSPF (89; RFC 5340, section A.3.1), PIM (103; RFC 7761, section
-- 4.9), VRRP (112; RFC 5798, section 5.2.8) and UDP-Lite (136; RFC 3828, section 3.1).
abbrev pub covers_ipv6_addresses : ℕ → Bool
covers_ipv6_addresses number =
    is_extension number
    || (number == icmpv4_number || (number == 33 || (number == 89 || (number == 103 || (number == 112 || number == 136)))))

-- The first of these errors that applies: the error of `transport_in_ip_lax`; another version; a protocol that is not translated. A
-- protocol after the skipped headers, other than UDP, TCP and ICMPv6, is not translated if a port is replaced, or if the protocol covers
-- addresses.
abbrev pub ipv6_place_refusal : Bool → List ℕ → Option TranslateError
ipv6_place_refusal has_port packet = first_of (
    option_map Ip (ip.lax_refusal packet)
    ∷ refused_if (not (version packet == 6)) OtherVersion
    ∷ refused_if (is_none (ipv6_proto packet) && (has_port || covers_ipv6_addresses (ipv6_protocol packet)))
    (Protocol (record { 0 = ipv6_protocol packet }))
    ∷ [])

-- ---- the family

-- the family of IPv6 (RFC 8200, section 3)
abbrev pub ipv6 : Family
ipv6 = record {
  address_len = 16;
  source_place = 8;
  destination_place = 24;
  header_checksum = None;
  covers_addresses = true;
  ignores_len = false;
  pseudo_header = λ addresses. ipv6_pseudo_header addresses.source addresses.destination;
  start = ipv6_start;
  proto = ipv6_proto;
  is_later_fragment = ipv6_is_later_fragment;
  place_refusal = λ is_quoted. ipv6_place_refusal;
}

-- what is replaced in an IPv6 packet
abbrev pub of_ipv6 : Ipv6Translation → Translation
of_ipv6 new =
    record { source = new.source; destination = new.destination; source_port = new.source_port; destination_port = new.destination_port }

-- the translation of an IPv6 packet that replaces this
abbrev pub to_ipv6 : Translation → Ipv6Translation
to_ipv6 new =
    record { source = new.source; destination = new.destination; source_port = new.source_port; destination_port = new.destination_port }

-- source and destination of an IPv6 packet
abbrev pub pair_of_ipv6 : Ipv6Header → AddressPair
pair_of_ipv6 addresses = record { source = addresses.source; destination = addresses.destination }

-- both addresses have 16 bytes
abbrev pub AreIpv6Addresses : Ipv6Header → Type 0
AreIpv6Addresses addresses = AreAddresses ipv6 (pair_of_ipv6 addresses)

-- ---- the addresses

-- the sum of source and destination
abbrev pub sum_of_ipv6 : Ipv6Header → ℕ
sum_of_ipv6 addresses = sum_of (pair_of_ipv6 addresses)

-- the sum of source and destination without the end-around carry
abbrev pub total_of_ipv6 : Ipv6Header → ℕ
total_of_ipv6 addresses = total addresses.source + total addresses.destination

-- an IPv6 packet with these addresses
abbrev pub with_ipv6_addresses : Ipv6Header → List ℕ → List ℕ
with_ipv6_addresses new packet = with_addresses ipv6 (pair_of_ipv6 new) packet

-- the addresses of an IPv6 packet after the translation
abbrev pub ipv6_addresses : Ipv6Translation → List ℕ → Ipv6Header
ipv6_addresses new packet = record {
  source = unwrap_or new.source (ipv6_header_of packet).source;
  destination = unwrap_or new.destination (ipv6_header_of packet).destination;
}

-- the addresses after the translation, as a value of `Addresses`
abbrev pub ipv6_between : Ipv6Translation → List ℕ → Addresses
ipv6_between new packet = Ipv6 (ipv6_addresses new packet).source (Some (ipv6_addresses new packet).destination)

-- ---- the message

-- the message of an IPv6 packet
abbrev pub message_in_ipv6 : List ℕ → List ℕ
message_in_ipv6 packet = message_in ipv6 false packet

-- the message of an IPv6 packet with new ports
abbrev pub ipv6_flow_message : Ipv6Translation → List ℕ → List ℕ
ipv6_flow_message new packet = flow_message ipv6 (of_ipv6 new) (message_in_ipv6 packet) packet

-- an IPv6 packet with new addresses and this message
abbrev pub ipv6_with_message : Ipv6Translation → List ℕ → List ℕ → List ℕ
ipv6_with_message new message packet = with_message ipv6 (of_ipv6 new) message packet

-- an IPv6 packet with new addresses and ports
abbrev pub ipv6_translated_flow : Ipv6Translation → List ℕ → List ℕ
ipv6_translated_flow new packet = translated_flow ipv6 (of_ipv6 new) (message_in_ipv6 packet) packet

-- `place` states where the message of an IPv6 packet begins and ends, and which protocol it has
pub record IsIpv6Place (packet : List ℕ) (place : Place) : Type 0 where
  pub is_ipv6 : version packet ≡ 6
  pub start : place.start ≡ ipv6_start packet
  pub message : slice_range packet place.start place.end ≡ message_in_ipv6 packet
  pub header : 40 ≤ place.start
  pub even : place.start % 2 ≡ 0
  pub ordered : place.start ≤ place.end
  pub there : place.end ≤ length packet
  pub proto : place.proto ≡ ipv6_proto packet
  pub later : place.is_later_fragment ≡ ipv6_is_later_fragment packet

-- ---- an ICMP error

-- the opposite of a translation, as `opposite` states
abbrev pub ipv6_opposite : Ipv6Translation → Ipv6Translation
ipv6_opposite new = to_ipv6 (opposite (of_ipv6 new))

-- the translation of the quoted packet: the passed translation, or else the opposite of the translation of the packet
abbrev pub ipv6_of_quoted : Ipv6Translation → Option (Bor Ipv6Translation) → Ipv6Translation
ipv6_of_quoted new None = ipv6_opposite new
ipv6_of_quoted new (Some passed) = passed.now

-- the packet that an IPv6 packet quotes
abbrev pub ipv6_quoted : List ℕ → Option (List ℕ)
ipv6_quoted packet = quoted_packet ipv6 packet

-- ---- the errors of a translation

-- the error if a packet quotes a packet that can't be translated
abbrev pub ipv6_quoted_refusal : Bool → Option (List ℕ) → Option TranslateError
ipv6_quoted_refusal has_port quoted = quoted_refusal ipv6 has_port quoted

-- the error for a translation of the packet, and another translation of the quoted packet
abbrev pub ipv6_refusal_with : Ipv6Translation → Ipv6Translation → List ℕ → Option TranslateError
ipv6_refusal_with new of_quoted packet = refusal_with ipv6 (of_ipv6 new) (of_ipv6 of_quoted) packet

-- the error for this translation; the opposite translation applies to the quoted packet
abbrev pub ipv6_refusal : Ipv6Translation → List ℕ → Option TranslateError
ipv6_refusal new packet = ipv6_refusal_with new (ipv6_opposite new) packet

-- ---- the translated packet

-- the translated message of an IPv6 packet; `quoted` is the quoted packet, if there is one, and `of_quoted` is its translation
abbrev pub ipv6_message_by : Option (List ℕ) → Ipv6Translation → Ipv6Translation → List ℕ → List ℕ
ipv6_message_by quoted new of_quoted packet = message_by ipv6 quoted (of_ipv6 new) (of_ipv6 of_quoted) packet

-- the translated message; the translation `of_quoted` applies to the packet that an ICMP error quotes
abbrev pub ipv6_message_of_both : Ipv6Translation → Ipv6Translation → List ℕ → List ℕ
ipv6_message_of_both new of_quoted packet = message_of_both ipv6 (of_ipv6 new) (of_ipv6 of_quoted) packet

-- the translated packet; the translation `of_quoted` applies to the packet that an ICMP error quotes
abbrev pub ipv6_translated_with : Ipv6Translation → Ipv6Translation → List ℕ → List ℕ
ipv6_translated_with new of_quoted packet = translated_with ipv6 (of_ipv6 new) (of_ipv6 of_quoted) packet

-- the translated message of an IPv6 packet; the opposite translation applies to the quoted packet
abbrev pub ipv6_translated_message : Ipv6Translation → List ℕ → List ℕ
ipv6_translated_message new packet = ipv6_message_of_both new (ipv6_opposite new) packet

-- the translated packet; it is the old packet except for the addresses and the message
abbrev pub ipv6_translated : Ipv6Translation → List ℕ → List ℕ
ipv6_translated new packet = ipv6_translated_with new (ipv6_opposite new) packet

-- ---- a receiver's check

-- a receiver accepts this translated message of the packet exactly if it accepts the message, as `IsAcceptedBy` states
abbrev pub IsIpv6Accepted : Ipv6Translation → List ℕ → List ℕ → Type 0
IsIpv6Accepted new packet translated = IsAcceptedBy ipv6 (of_ipv6 new) (message_in_ipv6 packet) packet translated

-- If the packet is an ICMP error, a receiver accepts the translated error exactly if it accepts the error. The checksum of the error covers
-- the packet that it quotes. The statement also holds if some bytes of the error are in other fragments or are cut off.
abbrev pub IsIpv6ErrorAccepted : Ipv6Translation → List ℕ → List ℕ → Type 0
IsIpv6ErrorAccepted new packet translated = (quoted : List ℕ) → ipv6_quoted packet ≡ Some quoted
    → IsVerifiedAlike (length (message_in_ipv6 packet))
    (pseudo_header_of ipv6 protos.Icmpv6 (addresses_of ipv6 packet))
    (pseudo_header_of ipv6 protos.Icmpv6 (new_addresses ipv6 (of_ipv6 new) packet))
    (message_in_ipv6 packet) translated
