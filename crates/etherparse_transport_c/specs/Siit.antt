-- Packets between IPv4 and IPv6 (RFC 7915), in the interface to C: prefixes, errors, and what the calls return and write.
use Rattle.std.specs.Prelude.{◌≡◌, ℕ, ◌+◌, ◌*◌, List, [], ◌++◌, drop, Option, unwrap_or}
use Rattle.std.specs.Option.{option_map}
use Rattle.ip_part.specs.Ip.{ipv4_header}
use Rattle.ip_part.specs.declared.ip_error.IpError.TheVariants as ip
use Rattle.ip_translation.specs.FragmentsToIpv6 as to_ipv6
use Rattle.ip_translation.specs.Ipv4Packets.{message_of}
use Rattle.ip_translation.specs.PacketsToIpv4 as to_ipv4
use Rattle.ip_translation.specs.Prefixes as prefixes
use Rattle.ip_translation.specs.declared.address_error.AddressError.{AddressError}
use Rattle.ip_translation.specs.declared.address_error.AddressError.TheVariants.{NotEmbedded, NotGlobal}
use Rattle.ip_translation.specs.declared.packet_translation_error.PacketTranslationError.{PacketTranslationError}
use Rattle.ip_translation.specs.declared.packet_translation_error.PacketTranslationError.TheVariants.{CutOff, ExtensionHeaderCutOff, FragmentChecksum, Header, IcmpExtension, IcmpFragment, IcmpMessage, IcmpPointer, NoIpv4Header, NoIpv6Header, NoQuotedHeader, NoUdpChecksum, QuotedHeader, QuotedIcmp, SegmentsLeft, Space, TransportHeader, UdpLength}
use Rattle.ip_translation.specs.declared.prefix64.Prefix64.{Prefix64}
use Rattle.ip_translation.specs.declared.prefix64_error.Prefix64Error.{Prefix64Error}
use Rattle.ip_translation.specs.declared.prefix64_error.Prefix64Error.TheVariants.{Len, ReservedOctet, SuffixBits}
use Rattle.ip_translation.specs.declared.prefixes.Prefixes.{Prefixes}
use Rattle.ip_translation.specs.declared.translation_error.TranslationError.{TranslationError}
use Rattle.ip_translation.specs.declared.translation_error.TranslationError.TheVariants.{Destination, ExtensionHeader, Fragment, HeaderChecksum, IllegalDestination, IllegalSource, PayloadLength, Source, SourceRoute, TimeExceeded, TotalLength}
use Rattle.etherparse_transport_c.specs.Errors.{first_refusal, nothing, of_buffer, of_ip, of_status, status_of, unless_refused}
use Rattle.etherparse_transport_c.specs.Numbers as numbers
use Rattle.etherparse_transport_c.specs.declared.answer.Answer.{Answer}
use Rattle.etherparse_transport_c.specs.declared.error.EtherparseError.{EtherparseError}
use Rattle.etherparse_transport_c.specs.declared.siit.EtherparsePrefix64.{EtherparsePrefix64}

-- ---- errors

-- an error that consists of a status and a refused value
abbrev pub of_number : ℕ → ℕ → EtherparseError
of_number status actual = record nothing { status = status; actual = actual }

-- the error for a refused prefix
abbrev pub of_prefix : Prefix64Error → EtherparseError
of_prefix (Len len) = of_number numbers.status_prefix_length len
of_prefix ReservedOctet = of_status numbers.status_prefix_reserved_octet
of_prefix SuffixBits = of_status numbers.status_prefix_suffix

-- the error for an address that has no translation; `place` is 0 for the source, and 1 for the destination
abbrev pub of_address : ℕ → AddressError → EtherparseError
of_address place NotEmbedded = of_number numbers.status_siit_not_embedded place
of_address place NotGlobal = of_number numbers.status_siit_not_global place

-- the error for a header that is not translated; no call returns `Fragment`, since the calls translate fragments
abbrev pub of_header : TranslationError → EtherparseError
of_header (TotalLength total_len header_len) = of_ip (ip.TotalLength total_len header_len)
of_header HeaderChecksum = of_status numbers.status_siit_header_checksum
of_header Fragment = of_status numbers.status_siit_fragment_checksum
of_header SourceRoute = of_status numbers.status_translate_source_route
of_header (ExtensionHeader number) = of_number numbers.status_siit_extension_header number
of_header (PayloadLength payload_len) = of_number numbers.status_siit_payload_length payload_len
of_header TimeExceeded = of_status numbers.status_siit_time_exceeded
of_header IllegalSource = of_status numbers.status_siit_source
of_header IllegalDestination = of_status numbers.status_siit_destination
of_header (Source error) = of_address 0 error
of_header (Destination error) = of_address 1 error

-- the error for an ICMP message with this type and code; the value is the first word of the message
abbrev pub of_icmp_message : ℕ → ℕ → EtherparseError
of_icmp_message type code = of_number numbers.status_siit_icmp_message (type * 256 + code)

-- the error for a packet that is not translated
abbrev pub of_siit : PacketTranslationError → EtherparseError
of_siit NoIpv4Header = of_number numbers.status_siit_no_header 4
of_siit NoIpv6Header = of_number numbers.status_siit_no_header 6
of_siit (Header error) = of_header error
of_siit (CutOff total_len len) = of_ip (ip.PacketCutOff total_len len)
of_siit (IcmpMessage type code) = of_icmp_message type code
of_siit (IcmpExtension length) = of_number numbers.status_siit_icmp_extension length
of_siit (IcmpPointer pointer) = of_number numbers.status_siit_icmp_pointer pointer
of_siit NoQuotedHeader = of_status numbers.status_siit_quoted_packet
of_siit (QuotedHeader error) = of_status numbers.status_siit_quoted_packet
of_siit (QuotedIcmp type code) = of_status numbers.status_siit_quoted_packet
of_siit (TransportHeader required_len len) =
    record nothing { status = numbers.status_siit_transport_header; required_len = required_len; len = len }
of_siit (UdpLength length len) = record (of_number numbers.status_siit_udp_length length) { len = len }
of_siit NoUdpChecksum = of_status numbers.status_siit_no_udp_checksum
of_siit (Space required_len len) = of_buffer required_len len
of_siit (ExtensionHeaderCutOff number required_len len) =
    record (of_number numbers.status_siit_extension_header_cut_off number) { required_len = required_len; len = len }
of_siit (SegmentsLeft pointer) = of_number numbers.status_siit_segments_left pointer
of_siit IcmpFragment = of_status numbers.status_siit_icmp_fragment
of_siit FragmentChecksum = of_status numbers.status_siit_fragment_checksum

-- ---- prefixes

-- the prefix has the address and the length that the caller passes; no other prefix has them
pub record IsPrefix (passed : EtherparsePrefix64) (prefix : Prefix64) : Type 0 where
  pub address : prefixes.prefix_address prefix ≡ passed.address
  pub len : prefixes.prefix_len prefix ≡ passed.len

-- these are the two prefixes, without explicit mappings
pub record ArePrefixes (source destination : EtherparsePrefix64) (found : Prefixes) : Type 0 where
  pub source_is : IsPrefix source found.source.prefix
  pub no_source_mappings : found.source.mappings.now ≡ []
  pub destination_is : IsPrefix destination found.destination.prefix
  pub no_destination_mappings : found.destination.mappings.now ≡ []

-- the refusal of a prefix
abbrev pub prefix_refusal : EtherparsePrefix64 → Option EtherparseError
prefix_refusal passed = option_map of_prefix (prefixes.prefix_refusal passed.address passed.len)

-- the refusal of two prefixes; the source is checked first
abbrev pub prefixes_refusal : EtherparsePrefix64 → EtherparsePrefix64 → Option EtherparseError
prefixes_refusal source destination = first_refusal (prefix_refusal source) (prefix_refusal destination)

-- ---- the calls

-- the refusal to translate an IPv4 packet; `room` is the length of the buffer
abbrev pub ipv4_refusal : Prefixes → List ℕ → ℕ → Option EtherparseError
ipv4_refusal prefixes packet room = option_map of_siit (to_ipv6.packet_refusal prefixes packet room)

-- the refusal to translate an IPv6 packet; `room` is the length of the buffer
abbrev pub ipv6_refusal : Prefixes → List ℕ → ℕ → Option EtherparseError
ipv6_refusal prefixes packet room = option_map of_siit (to_ipv4.packet_refusal prefixes packet room)

-- the length of the IPv6 packet for an IPv4 packet
abbrev pub ipv6_len : Prefixes → List ℕ → ℕ
ipv6_len prefixes packet = to_ipv6.len_with (ipv4_header packet) prefixes (message_of packet)

-- the length of the IPv4 packet with this identification for an IPv6 packet
abbrev pub ipv4_len : Prefixes → ℕ → List ℕ → ℕ
ipv4_len prefixes identification packet = to_ipv4.direct_len (to_ipv4.direct_header packet) prefixes
    (to_ipv4.fields_of identification packet).flags_and_offset (to_ipv4.message_of packet)

-- What a call returns and writes: the status and the error of a refusal, or the translated packet of `len` bytes at the front of the
-- buffer, and this length. After a refusal the buffer and the length are unchanged.
pub record IsAnswer (refusal : Option EtherparseError) (translated : List ℕ) (len : ℕ) (before : EtherparseError) (answer : Answer)
    (written_before written : ℕ) (buffer_before buffer : List ℕ) : Type 0 where
  pub status : answer.status ≡ status_of refusal
  pub error : answer.error ≡ unwrap_or refusal before
  pub len_is : written ≡ unless_refused refusal len written_before
  pub bytes : buffer ≡ unless_refused refusal (translated ++ drop len buffer_before) buffer_before
