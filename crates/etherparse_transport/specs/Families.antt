-- How an address translator translates a packet of either family of addresses, IPv4 or IPv6 (RFC 3022; RFC 5508 for ICMP). The families
-- differ in what `Family` lists. Everything else is defined here for both.
use Rattle.std.specs.Prelude.{◌≡◌, ℕ, ◌+◌, ◌&&◌, Bool, false, true, if◌then◌else◌, List, [], ◌∷◌, length, slice_range, Option, Some, None, unwrap_or}
use Rattle.std.specs.Int.{to_be_bytes, w16}
use Rattle.std.specs.Option.{option_map}
use Rattle.ip_part.specs.declared.proto.Proto.{Proto}
use Rattle.ip_part.specs.declared.proto.Proto.TheVariants as protos
use Rattle.net_base.specs.IpNumbers.{icmpv6_number, tcp_number, udp_number}
use Rattle.net_base.specs.Refusals.{first_of}
use Rattle.word_sum.specs.Checksum.{sum_of_pieces}
use Rattle.word_sum.specs.UpdatedChecksum.{updated_checksum_of}
use Rattle.etherparse_transport.specs.Translations.{IsUpdated, IsVerifiedAlike, counted_after, has_port, least_summed, message_refusal, number, quoted_in, translated_in, with_bytes, with_quote}
use Rattle.etherparse_transport.specs.declared.err.packet.translate_error.TranslateError.{TranslateError}
use Rattle.etherparse_transport.specs.declared.err.packet.translate_error.TranslateError.TheVariants.{QuotedPacket}

-- ---- a family of addresses

-- source and destination
pub record AddressPair : Type 0 where
  pub source : List ℕ
  pub destination : List ℕ

-- what the packets of a family differ in
pub record Family : Type 0 where
  -- the number of bytes of an address
  pub address_len : ℕ
  -- the place of the source in the header
  pub source_place : ℕ
  -- the place of the destination in the header
  pub destination_place : ℕ
  -- the place of the checksum of the header; an IPv6 header has no checksum
  pub header_checksum : Option ℕ
  -- the pseudo header of an ICMP error contains the addresses (RFC 4443, section 2.3); ICMPv4 has no pseudo header
  pub covers_addresses : Bool
  -- the message of a quoted packet extends to the end of the quote, and the length in the header is ignored
  pub ignores_len : Bool
  -- the pseudo header between these addresses, for a protocol number and a length (RFC 768; RFC 8200, section 8.1)
  pub pseudo_header : AddressPair → ℕ → ℕ → List ℕ
  -- the start of the message: after the header and the headers that are skipped
  pub start : List ℕ → ℕ
  -- the protocol of a packet
  pub proto : List ℕ → Option Proto
  -- the packet is a later fragment
  pub is_later_fragment : List ℕ → Bool
  -- the error of the headers and of the protocol, by whether the packet is quoted, and whether a port is replaced
  pub place_refusal : Bool → Bool → List ℕ → Option TranslateError

-- what is replaced in a packet; `None` keeps the value of the packet
pub record Translation : Type 0 where
  pub source : Option (List ℕ)
  pub destination : Option (List ℕ)
  pub source_port : Option ℕ
  pub destination_port : Option ℕ

-- both addresses have the length of the family
pub record AreAddresses (family : Family) (addresses : AddressPair) : Type 0 where
  pub source : length addresses.source ≡ family.address_len
  pub destination : length addresses.destination ≡ family.address_len

-- ---- the addresses

-- the addresses of a packet
abbrev pub addresses_of : Family → List ℕ → AddressPair
addresses_of family packet = record {
  source = slice_range packet family.source_place (family.source_place + family.address_len);
  destination = slice_range packet family.destination_place (family.destination_place + family.address_len);
}

-- the sum of source and destination
abbrev pub sum_of : AddressPair → ℕ
sum_of addresses = sum_of_pieces 0 (addresses.source ∷ addresses.destination ∷ [])

-- the addresses of a packet after the translation
abbrev pub new_addresses : Family → Translation → List ℕ → AddressPair
new_addresses family new packet = record {
  source = unwrap_or new.source (addresses_of family packet).source;
  destination = unwrap_or new.destination (addresses_of family packet).destination;
}

-- a packet with the checksum of its header, if it has one, updated from the sums of the old and the new addresses (RFC 1624)
abbrev pub with_header_checksum : Option ℕ → ℕ → ℕ → List ℕ → List ℕ
with_header_checksum None old new packet = packet
with_header_checksum (Some place) old new packet =
    with_bytes place (to_be_bytes w16 (updated_checksum_of (number place packet) old new)) packet

-- a packet with these addresses, and with the checksum of its header updated
abbrev pub with_addresses : Family → AddressPair → List ℕ → List ℕ
with_addresses family new packet =
    with_bytes family.destination_place new.destination (with_bytes family.source_place new.source
    (with_header_checksum family.header_checksum (sum_of (addresses_of family packet)) (sum_of new) packet))

-- ---- a packet of a flow

-- The message of a packet. If an ICMP error quotes an IPv4 packet, its message extends to the end of the quote. The total length is then
-- ignored, since some hosts quote a packet with a total length that leaves out the header.
abbrev pub message_in : Family → Bool → List ℕ → List ℕ
message_in family is_quoted packet = counted_after (family.ignores_len && is_quoted) (family.start packet) packet

-- this message of a packet, with new ports
abbrev pub flow_message : Family → Translation → List ℕ → List ℕ → List ℕ
flow_message family new message packet =
    translated_in (family.is_later_fragment packet) (family.proto packet) (sum_of (addresses_of family packet))
    (sum_of (new_addresses family new packet))
    new.source_port new.destination_port message

-- a packet with new addresses and this message
abbrev pub with_message : Family → Translation → List ℕ → List ℕ → List ℕ
with_message family new message packet =
    with_addresses family (new_addresses family new packet) (with_bytes (family.start packet) message packet)

-- a packet with new addresses, and with new ports in this message
abbrev pub translated_flow : Family → Translation → List ℕ → List ℕ → List ℕ
translated_flow family new message packet = with_message family new (flow_message family new message packet) packet

-- ---- an ICMP error

-- The translation of the packet that an ICMP error quotes. Source and destination are exchanged, since the quoted packet went in the other
-- direction (RFC 5508, section 4).
abbrev pub opposite : Translation → Translation
opposite new = record {
  source = new.destination;
  destination = new.source;
  source_port = new.destination_port;
  destination_port = new.source_port;
}

-- the packet that a packet quotes
abbrev pub quoted_packet : Family → List ℕ → Option (List ℕ)
quoted_packet family packet = quoted_in (family.is_later_fragment packet) (family.proto packet) (message_in family false packet)

-- the sum of the addresses in the pseudo header of an ICMP error
abbrev pub error_sum : Family → AddressPair → ℕ
error_sum family addresses = if family.covers_addresses then sum_of addresses else 0

-- ---- errors

-- the error for the message of a packet
abbrev pub refusal_of_message : Family → List ℕ → Option TranslateError
refusal_of_message family packet =
    message_refusal (family.is_later_fragment packet) (family.proto packet) (message_in family false packet)

-- the error if a packet quotes a packet that can't be translated
abbrev pub quoted_refusal : Family → Bool → Option (List ℕ) → Option TranslateError
quoted_refusal family has_port None = None
quoted_refusal family has_port (Some quoted) = option_map (λ _. QuotedPacket) (family.place_refusal true has_port quoted)

-- the first error that applies: for the packet, for its message, for the packet that it quotes
abbrev pub refusal_by : Family → Bool → Bool → List ℕ → Option TranslateError
refusal_by family has_port has_quoted_port packet = first_of (
    family.place_refusal false has_port packet
    ∷ refusal_of_message family packet
    ∷ quoted_refusal family has_quoted_port (quoted_packet family packet)
    ∷ [])

-- the error for a translation of the packet, and another translation of the quoted packet
abbrev pub refusal_with : Family → Translation → Translation → List ℕ → Option TranslateError
refusal_with family new of_quoted packet =
    refusal_by family (has_port new.source_port new.destination_port) (has_port of_quoted.source_port of_quoted.destination_port) packet

-- ---- the translated packet

-- the translated message of a packet; `quoted` is the quoted packet, if there is one, and `of_quoted` is its translation
abbrev pub message_by : Family → Option (List ℕ) → Translation → Translation → List ℕ → List ℕ
message_by family None new of_quoted packet = flow_message family new (message_in family false packet) packet
message_by family (Some quoted) new of_quoted packet =
    with_quote (error_sum family (addresses_of family packet)) (error_sum family (new_addresses family new packet))
    quoted (translated_flow family of_quoted (message_in family true quoted) quoted) (message_in family false packet)

-- the translated message; the translation `of_quoted` applies to the packet that an ICMP error quotes
abbrev pub message_of_both : Family → Translation → Translation → List ℕ → List ℕ
message_of_both family new of_quoted packet = message_by family (quoted_packet family packet) new of_quoted packet

-- the translated packet; it is the old packet except for the checksum of the header, the addresses and the message
abbrev pub translated_with : Family → Translation → Translation → List ℕ → List ℕ
translated_with family new of_quoted packet = with_message family new (message_of_both family new of_quoted packet) packet

-- ---- a receiver's check

-- the pseudo header of a message of this protocol and this length between these addresses; ICMPv4 has no pseudo header
abbrev pub pseudo_header_of : Family → Proto → AddressPair → ℕ → List ℕ
pseudo_header_of family protos.Udp addresses len = family.pseudo_header addresses udp_number len
pseudo_header_of family protos.Tcp addresses len = family.pseudo_header addresses tcp_number len
pseudo_header_of family protos.Icmpv4 addresses len = []
pseudo_header_of family protos.Icmpv6 addresses len = family.pseudo_header addresses icmpv6_number len

-- Assume that the packet is not a later fragment, and that the checksum of its message is updated. Then a receiver accepts the translated
-- message between the new addresses exactly if it accepts the message between the old addresses. The message may be only a part of a
-- message.
abbrev pub IsAcceptedBy : Family → Translation → List ℕ → List ℕ → List ℕ → Type 0
IsAcceptedBy family new message packet translated = (proto : Proto) → family.proto packet ≡ Some proto
    → (family.is_later_fragment packet ≡ false) → IsUpdated proto message
    → IsVerifiedAlike (least_summed proto (length message))
    (pseudo_header_of family proto (addresses_of family packet)) (pseudo_header_of family proto (new_addresses family new packet))
    message translated
