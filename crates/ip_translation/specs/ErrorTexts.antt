-- The text of each error.
use Rattle.std.specs.Prelude.{ℕ, List, [], ◌∷◌, codes}
use Rattle.std.specs.Fmt.{decimal}
use Rattle.std.specs.List.{concat}
use Rattle.ip_translation.specs.declared.address_error.AddressError.{AddressError}
use Rattle.ip_translation.specs.declared.address_error.AddressError.TheVariants.{NotEmbedded, NotGlobal}
use Rattle.ip_translation.specs.declared.address_mapping_error.AddressMappingError.{AddressMappingError}
use Rattle.ip_translation.specs.declared.address_mapping_error.AddressMappingError.TheVariants.{Ipv4Bits, Ipv4Len, Ipv6Bits, Ipv6Len, Suffix}
use Rattle.ip_translation.specs.declared.packet_translation_error.PacketTranslationError.{PacketTranslationError}
use Rattle.ip_translation.specs.declared.packet_translation_error.PacketTranslationError.TheVariants.{CutOff, ExtensionHeaderCutOff, FragmentChecksum, Header, IcmpExtension, IcmpFragment, IcmpMessage, IcmpPointer, NoIpv4Header, NoIpv6Header, NoQuotedHeader, NoUdpChecksum, QuotedHeader, QuotedIcmp, SegmentsLeft, Space, TransportHeader, UdpLength}
use Rattle.ip_translation.specs.declared.prefix64_error.Prefix64Error.{Prefix64Error}
use Rattle.ip_translation.specs.declared.prefix64_error.Prefix64Error.TheVariants.{Len, ReservedOctet, SuffixBits}
use Rattle.ip_translation.specs.declared.translation_error.TranslationError.{TranslationError}
use Rattle.ip_translation.specs.declared.translation_error.TranslationError.TheVariants.{Destination, ExtensionHeader, Fragment, HeaderChecksum, IllegalDestination, IllegalSource, PayloadLength, Source, SourceRoute, TimeExceeded, TotalLength}

-- the text for an address that has no translation
abbrev pub address_text : AddressError → List ℕ
address_text NotEmbedded = codes "Address Error: the IPv6 address contains no IPv4 address."
address_text NotGlobal = codes "Address Error: the well-known prefix allows only global IPv4 addresses."

-- the text for two prefixes that do not define an explicit mapping
abbrev pub mapping_text : AddressMappingError → List ℕ
mapping_text (Ipv4Len len) = concat (
    codes "Mapping Error: the length of the IPv4 prefix is " ∷ decimal len ∷ codes " bits, and at most 32 are allowed." ∷ [])
mapping_text (Ipv6Len len) = concat (
    codes "Mapping Error: the length of the IPv6 prefix is " ∷ decimal len ∷ codes " bits, and at most 128 are allowed." ∷ [])
mapping_text Suffix = codes "Mapping Error: the IPv6 prefix leaves fewer bits than the IPv4 prefix."
mapping_text Ipv4Bits = codes "Mapping Error: a bit after the IPv4 prefix is not 0."
mapping_text Ipv6Bits = codes "Mapping Error: a bit after the IPv6 prefix is not 0."

-- the text for an address and a length that do not define a prefix
abbrev pub prefix_text : Prefix64Error → List ℕ
prefix_text (Len len) = concat (
    codes "Prefix Error: the length is " ∷ decimal len ∷ codes " bits, and only 32, 40, 48, 56, 64 and 96 are allowed." ∷ [])
prefix_text ReservedOctet = codes "Prefix Error: bits 64 to 71 are not 0."
prefix_text SuffixBits = codes "Prefix Error: a bit after the prefix is not 0."

-- the text for a header that is not translated
abbrev pub translation_text : TranslationError → List ℕ
translation_text (TotalLength total_len header_len) = concat (
    codes "Translation Error: the total length " ∷ decimal total_len ∷ codes " is below the header length " ∷ decimal header_len ∷ codes "."
    ∷ [])
translation_text HeaderChecksum = codes "Translation Error: the checksum of the IPv4 header is wrong."
translation_text Fragment = codes "Translation Error: the packet is a fragment."
translation_text SourceRoute = codes "Translation Error: the IPv4 options contain a source route."
translation_text (ExtensionHeader number) = concat (
    codes "Translation Error: the IPv6 extension header " ∷ decimal number ∷ codes " is not translated." ∷ [])
translation_text (PayloadLength payload_len) = concat (
    codes "Translation Error: the payload length " ∷ decimal payload_len ∷ codes " is above 65515." ∷ [])
translation_text TimeExceeded = codes "Translation Error: the time to live is exceeded."
translation_text IllegalSource = codes "Translation Error: the source is no address of a host."
translation_text IllegalDestination = codes "Translation Error: the destination is no address of a host."
translation_text (Source error) = address_text error
translation_text (Destination error) = address_text error

-- the text for a packet that is not translated
abbrev pub packet_text : PacketTranslationError → List ℕ
packet_text NoIpv4Header = codes "Translation Error: the bytes do not begin with an IPv4 header."
packet_text NoIpv6Header = codes "Translation Error: the bytes do not begin with an IPv6 header."
packet_text (Header error) = translation_text error
packet_text (CutOff total_len len) = concat (
    codes "Translation Error: the total length is " ∷ decimal total_len ∷ codes ", and there are " ∷ decimal len ∷ codes " bytes." ∷ [])
packet_text (IcmpMessage type code) = concat (
    codes "Translation Error: an ICMP message of type " ∷ decimal type ∷ codes " and code " ∷ decimal code ∷ codes " is not translated."
    ∷ [])
packet_text (IcmpExtension length) = concat (
    codes "Translation Error: the length field " ∷ decimal length ∷ codes " of an ICMP error with an extension is wrong." ∷ [])
packet_text (IcmpPointer pointer) = concat (
    codes "Translation Error: the pointer " ∷ decimal pointer ∷ codes " has no translation." ∷ [])
packet_text NoQuotedHeader = codes "Translation Error: an ICMP error does not quote an IP header."
packet_text (QuotedHeader error) = translation_text error
packet_text (QuotedIcmp type code) = concat (
    codes "Translation Error: an ICMP error quotes an ICMP message of type " ∷ decimal type ∷ codes " and code " ∷ decimal code ∷ codes "."
    ∷ [])
packet_text (TransportHeader required_len len) = concat (
    codes "Translation Error: the transport header has " ∷ decimal required_len ∷ codes " bytes, and there are " ∷ decimal len ∷ codes "."
    ∷ [])
packet_text (UdpLength length len) = concat (
    codes "Translation Error: a UDP packet of " ∷ decimal len ∷ codes " bytes without a checksum has the length field " ∷ decimal length
    ∷ codes "." ∷ [])
packet_text NoUdpChecksum = codes "Translation Error: a UDP packet over IPv6 has no checksum."
packet_text (Space required_len len) = concat (
    codes "Space Error: " ∷ decimal required_len ∷ codes " bytes are needed, and there is room for " ∷ decimal len ∷ codes "." ∷ [])
packet_text (ExtensionHeaderCutOff number required_len len) = concat (
    codes "Translation Error: the IPv6 extension header " ∷ decimal number ∷ codes " has " ∷ decimal required_len
    ∷ codes " bytes, and there are " ∷ decimal len ∷ codes "." ∷ [])
packet_text (SegmentsLeft pointer) = concat (
    codes "Translation Error: a routing header has segments left at byte " ∷ decimal pointer ∷ codes "." ∷ [])
packet_text IcmpFragment = codes "Translation Error: a fragment of an ICMP message is not translated."
packet_text FragmentChecksum = codes "Translation Error: a fragment of a UDP packet has no checksum."
