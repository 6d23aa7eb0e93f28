-- The name and the meaning of each status of a call that translates a packet between IPv4 and IPv6.
use Rattle.std.specs.Prelude.{ℕ, ◌==◌, if◌then◌else◌, List, codes}
use Rattle.etherparse_transport_c.specs.Numbers as numbers
use Rattle.etherparse_transport_c.specs.ReassemblyWords.{joining_status_name, joining_status_text}

-- the name of a status that begins with PREFIX or SIIT, or of a status of a call that puts a packet together
unfoldable pub siit_status_name : ℕ → List ℕ
siit_status_name status =
    if status == numbers.status_prefix_length then codes "ETHERPARSE_STATUS_PREFIX_LENGTH"
    else if status == numbers.status_prefix_reserved_octet then codes "ETHERPARSE_STATUS_PREFIX_RESERVED_OCTET"
    else if status == numbers.status_prefix_suffix then codes "ETHERPARSE_STATUS_PREFIX_SUFFIX"
    else if status == numbers.status_siit_no_header then codes "ETHERPARSE_STATUS_SIIT_NO_HEADER"
    else if status == numbers.status_siit_header_checksum then codes "ETHERPARSE_STATUS_SIIT_HEADER_CHECKSUM"
    else if status == numbers.status_siit_fragment_checksum then codes "ETHERPARSE_STATUS_SIIT_FRAGMENT_CHECKSUM"
    else if status == numbers.status_siit_extension_header then codes "ETHERPARSE_STATUS_SIIT_EXTENSION_HEADER"
    else if status == numbers.status_siit_payload_length then codes "ETHERPARSE_STATUS_SIIT_PAYLOAD_LENGTH"
    else if status == numbers.status_siit_time_exceeded then codes "ETHERPARSE_STATUS_SIIT_TIME_EXCEEDED"
    else if status == numbers.status_siit_source then codes "ETHERPARSE_STATUS_SIIT_SOURCE"
    else if status == numbers.status_siit_destination then codes "ETHERPARSE_STATUS_SIIT_DESTINATION"
    else if status == numbers.status_siit_not_embedded then codes "ETHERPARSE_STATUS_SIIT_NOT_EMBEDDED"
    else if status == numbers.status_siit_not_global then codes "ETHERPARSE_STATUS_SIIT_NOT_GLOBAL"
    else if status == numbers.status_siit_icmp_extension then codes "ETHERPARSE_STATUS_SIIT_ICMP_EXTENSION"
    else if status == numbers.status_siit_icmp_pointer then codes "ETHERPARSE_STATUS_SIIT_ICMP_POINTER"
    else if status == numbers.status_siit_transport_header then codes "ETHERPARSE_STATUS_SIIT_TRANSPORT_HEADER"
    else if status == numbers.status_siit_udp_length then codes "ETHERPARSE_STATUS_SIIT_UDP_LENGTH"
    else if status == numbers.status_siit_no_udp_checksum then codes "ETHERPARSE_STATUS_SIIT_NO_UDP_CHECKSUM"
    else if status == numbers.status_siit_icmp_message then codes "ETHERPARSE_STATUS_SIIT_ICMP_MESSAGE"
    else if status == numbers.status_siit_quoted_packet then codes "ETHERPARSE_STATUS_SIIT_QUOTED_PACKET"
    else if status == numbers.status_siit_extension_header_cut_off then codes "ETHERPARSE_STATUS_SIIT_EXTENSION_HEADER_CUT_OFF"
    else if status == numbers.status_siit_segments_left then codes "ETHERPARSE_STATUS_SIIT_SEGMENTS_LEFT"
    else if status == numbers.status_siit_icmp_fragment then codes "ETHERPARSE_STATUS_SIIT_ICMP_FRAGMENT"
    else joining_status_name status

-- what such a status means
unfoldable pub siit_status_text : ℕ → List ℕ
siit_status_text status =
    if status == numbers.status_prefix_length then codes "the length of the prefix is not allowed"
    else if status == numbers.status_prefix_reserved_octet then codes "bits 64 to 71 of the prefix are not 0"
    else if status == numbers.status_prefix_suffix then codes "a bit after the prefix is not 0"
    else if status == numbers.status_siit_no_header then codes "the packet does not begin with a whole IP header"
    else if status == numbers.status_siit_header_checksum then codes "the packet has a wrong header checksum, and is not translated"
    else if status == numbers.status_siit_fragment_checksum then codes "a fragment of a UDP packet has no checksum"
    else if status == numbers.status_siit_extension_header then codes "an extension header follows the fragment header"
    else if status == numbers.status_siit_payload_length then codes "the payload length is too great for IPv4"
    else if status == numbers.status_siit_time_exceeded then codes "the time to live or the hop limit is 0 or 1"
    else if status == numbers.status_siit_source then codes "the source is not the address of a host"
    else if status == numbers.status_siit_destination then codes "the destination is not the address of a host"
    else if status == numbers.status_siit_not_embedded then codes "an IPv6 address contains no IPv4 address"
    else if status == numbers.status_siit_not_global then codes "the well-known prefix allows only global addresses"
    else if status == numbers.status_siit_icmp_extension then codes "the length field of the ICMP error is wrong"
    else if status == numbers.status_siit_icmp_pointer then codes "the pointer of the ICMP error has no translation"
    else if status == numbers.status_siit_transport_header then codes "the packet ends within its transport header"
    else if status == numbers.status_siit_udp_length then codes "the packet has no UDP checksum and a wrong length"
    else if status == numbers.status_siit_no_udp_checksum then codes "the UDP packet over IPv6 has no checksum"
    else if status == numbers.status_siit_icmp_message then codes "the ICMP message is not translated"
    else if status == numbers.status_siit_quoted_packet then codes "the quoted packet can't be translated"
    else if status == numbers.status_siit_extension_header_cut_off then codes "an extension header ends after the packet"
    else if status == numbers.status_siit_segments_left then codes "a routing header has segments left"
    else if status == numbers.status_siit_icmp_fragment then codes "a fragment of an ICMP message is not translated"
    else joining_status_text status
