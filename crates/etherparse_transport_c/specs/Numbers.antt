-- The numbers of the interface to C. Each number is defined only here. The meaning of a number never changes, and later versions may add
-- numbers. A name in C has the prefix `ETHERPARSE_`. The name of `status_ok` is `ETHERPARSE_OK`, without `STATUS_`.
use Rattle.std.specs.Prelude.{ℕ}

-- ---- statuses, which calls return; 25 to 30 are reserved for IP headers

abbrev pub status_ok : ℕ
status_ok = 0

abbrev pub status_length : ℕ
status_length = 1

abbrev pub status_data_offset : ℕ
status_data_offset = 2

abbrev pub status_value_too_big : ℕ
status_value_too_big = 3

abbrev pub status_buffer_too_small : ℕ
status_buffer_too_small = 4

abbrev pub status_checksum_wrong : ℕ
status_checksum_wrong = 5

abbrev pub status_checksum_absent : ℕ
status_checksum_absent = 6

abbrev pub status_options_too_long : ℕ
status_options_too_long = 7

abbrev pub status_flags_unknown : ℕ
status_flags_unknown = 8

abbrev pub status_protocol_unknown : ℕ
status_protocol_unknown = 9

abbrev pub status_options_end : ℕ
status_options_end = 10

abbrev pub status_option_cut_off : ℕ
status_option_cut_off = 11

abbrev pub status_option_size : ℕ
status_option_size = 12

abbrev pub status_option_unknown : ℕ
status_option_unknown = 13

abbrev pub status_message_unknown : ℕ
status_message_unknown = 14

abbrev pub status_ip_header_cut_off : ℕ
status_ip_header_cut_off = 15

abbrev pub status_ip_version : ℕ
status_ip_version = 16

abbrev pub status_ip_header_length : ℕ
status_ip_header_length = 17

abbrev pub status_ip_total_length : ℕ
status_ip_total_length = 18

abbrev pub status_ip_packet_cut_off : ℕ
status_ip_packet_cut_off = 19

abbrev pub status_ip_extension_cut_off : ℕ
status_ip_extension_cut_off = 20

abbrev pub status_ip_jumbo_payload_missing : ℕ
status_ip_jumbo_payload_missing = 21

abbrev pub status_ip_jumbo_payload_length : ℕ
status_ip_jumbo_payload_length = 22

abbrev pub status_ip_jumbo_payload_unexpected : ℕ
status_ip_jumbo_payload_unexpected = 23

abbrev pub status_ip_jumbo_payload_fragment : ℕ
status_ip_jumbo_payload_fragment = 24

abbrev pub status_option_values : ℕ
status_option_values = 31

-- the packet is a fragment, and is not answered
abbrev pub status_echo_fragment : ℕ
status_echo_fragment = 32

-- the packet is not an echo request, or the call does not accept its IP version
abbrev pub status_echo_no_request : ℕ
status_echo_no_request = 33

-- IPv4 options of another kind than 0 and 1, an authentication header or IPv6 extension headers precede the message
abbrev pub status_echo_has_options : ℕ
status_echo_has_options = 34

-- the checksum of the IPv4 header is wrong
abbrev pub status_echo_header_checksum_wrong : ℕ
status_echo_header_checksum_wrong = 35

-- the source of the request is not the address of one host
abbrev pub status_echo_request_source : ℕ
status_echo_request_source = 36

-- the source of the reply is not the address of one host
abbrev pub status_echo_reply_source : ℕ
status_echo_reply_source = 37

-- the ICMP message is not an error, or it is not an error that a call can write
abbrev pub status_no_icmp_error : ℕ
status_no_icmp_error = 38

-- reserved for translating a packet with IPv4 options; no call returns it
abbrev pub status_translate_has_options : ℕ
status_translate_has_options = 39

-- The packet is not translated: its protocol is not UDP, TCP, or the ICMP of its IP version. In addition, a port is replaced, or the
-- protocol covers the addresses.
abbrev pub status_translate_protocol : ℕ
status_translate_protocol = 40

-- not translated: the packet ends within the first 8 bytes of its transport header
abbrev pub status_translate_header_cut_off : ℕ
status_translate_header_cut_off = 41

-- not translated: the ICMP message is a redirect, or it is neither a query nor an error
abbrev pub status_translate_icmp_message : ℕ
status_translate_icmp_message = 42

-- not translated: the packet that an ICMP error quotes can't be translated
abbrev pub status_translate_quoted_packet : ℕ
status_translate_quoted_packet = 43

-- the packet is not the reply to an echo request
abbrev pub status_echo_no_reply : ℕ
status_echo_no_reply = 44

-- not translated: the IPv4 options contain a source route
abbrev pub status_translate_source_route : ℕ
status_translate_source_route = 45

-- the checksum of the packet is not tested, so no checksum is stored in it
abbrev pub status_checksum_untested : ℕ
status_checksum_untested = 46

-- the hop limit of the packet is 0 or 1, so it is not lowered
abbrev pub status_hop_limit_expired : ℕ
status_hop_limit_expired = 47

-- the packet is a later fragment, so no ICMP error is written about it
abbrev pub status_icmp_error_later_fragment : ℕ
status_icmp_error_later_fragment = 48

-- the packet is an ICMP error, an ICMPv6 redirect, or an ICMP message whose type is cut off, so no ICMP error is written about it
abbrev pub status_icmp_error_about_error : ℕ
status_icmp_error_about_error = 49

-- the destination of the packet is an address of several hosts, so no ICMP error is written about it
abbrev pub status_icmp_error_about_group : ℕ
status_icmp_error_about_group = 50

-- the source of the packet is not the address of one host, so no ICMP error is written about it
abbrev pub status_icmp_error_packet_source : ℕ
status_icmp_error_packet_source = 51

-- the source of the ICMP error is not the address of one host
abbrev pub status_icmp_error_source : ℕ
status_icmp_error_source = 52

-- the packet is a later fragment, so it contains no maximum segment size
abbrev pub status_segment_size_later_fragment : ℕ
status_segment_size_later_fragment = 53

-- the segment is not a SYN, so it contains no maximum segment size
abbrev pub status_segment_size_no_syn : ℕ
status_segment_size_no_syn = 54

-- the options of the segment contain no maximum segment size
abbrev pub status_segment_size_no_option : ℕ
status_segment_size_no_option = 55

-- the length of a prefix is not allowed
abbrev pub status_prefix_length : ℕ
status_prefix_length = 56

-- bits 64 to 71 of a prefix are not 0
abbrev pub status_prefix_reserved_octet : ℕ
status_prefix_reserved_octet = 57

-- a bit after a prefix is not 0
abbrev pub status_prefix_suffix : ℕ
status_prefix_suffix = 58

-- a packet does not begin with a whole header of the IP version that the call reads
abbrev pub status_siit_no_header : ℕ
status_siit_no_header = 59

-- the checksum of the IPv4 header is wrong
abbrev pub status_siit_header_checksum : ℕ
status_siit_header_checksum = 60

-- a fragment of a UDP packet has no checksum
abbrev pub status_siit_fragment_checksum : ℕ
status_siit_fragment_checksum = 61

-- an extension header follows the fragment header
abbrev pub status_siit_extension_header : ℕ
status_siit_extension_header = 62

-- the payload length is too great for IPv4
abbrev pub status_siit_payload_length : ℕ
status_siit_payload_length = 63

-- the time to live or the hop limit is 0 or 1
abbrev pub status_siit_time_exceeded : ℕ
status_siit_time_exceeded = 64

-- the source is not the address of a host
abbrev pub status_siit_source : ℕ
status_siit_source = 65

-- the destination is not the address of a host
abbrev pub status_siit_destination : ℕ
status_siit_destination = 66

-- an IPv6 address contains no IPv4 address
abbrev pub status_siit_not_embedded : ℕ
status_siit_not_embedded = 67

-- an address with the well-known prefix is not global
abbrev pub status_siit_not_global : ℕ
status_siit_not_global = 68

-- the length field of an ICMP error with an extension is wrong
abbrev pub status_siit_icmp_extension : ℕ
status_siit_icmp_extension = 69

-- the pointer of an ICMP parameter problem has no translation
abbrev pub status_siit_icmp_pointer : ℕ
status_siit_icmp_pointer = 70

-- a transport header is cut off
abbrev pub status_siit_transport_header : ℕ
status_siit_transport_header = 71

-- a UDP packet has no checksum and a wrong length
abbrev pub status_siit_udp_length : ℕ
status_siit_udp_length = 72

-- a UDP packet over IPv6 has no checksum
abbrev pub status_siit_no_udp_checksum : ℕ
status_siit_no_udp_checksum = 73

-- an ICMP message is not translated
abbrev pub status_siit_icmp_message : ℕ
status_siit_icmp_message = 74

-- the packet that an ICMP error quotes can't be translated
abbrev pub status_siit_quoted_packet : ℕ
status_siit_quoted_packet = 75

-- the packet is whole, so it is not a fragment
abbrev pub status_reassembly_no_fragment : ℕ
status_reassembly_no_fragment = 76

-- the first fragment of an IPv6 packet ends within its transport header (RFC 7112)
abbrev pub status_reassembly_header_chain_cut_off : ℕ
status_reassembly_header_chain_cut_off = 77

-- the fragment belongs to another packet than the first of the fragments
abbrev pub status_reassembly_other_key : ℕ
status_reassembly_other_key = 78

-- the fragment has no payload
abbrev pub status_reassembly_empty : ℕ
status_reassembly_empty = 79

-- more fragments follow, and the length of the fragment is not a multiple of 8
abbrev pub status_reassembly_fragment_length : ℕ
status_reassembly_fragment_length = 80

-- the fragment ends beyond 65,535 bytes, the longest payload
abbrev pub status_reassembly_too_long : ℕ
status_reassembly_too_long = 81

-- the fragment ends beyond the room for the payload
abbrev pub status_reassembly_room : ℕ
status_reassembly_room = 82

-- two last fragments end at different places
abbrev pub status_reassembly_other_end : ℕ
status_reassembly_other_end = 83

-- a fragment that is not the last does not end before the last fragment
abbrev pub status_reassembly_behind_end : ℕ
status_reassembly_behind_end = 84

-- the fragment overlaps another fragment, but does not repeat it (RFC 5722)
abbrev pub status_reassembly_overlap : ℕ
status_reassembly_overlap = 85

-- the packet has more than 128 fragments
abbrev pub status_reassembly_too_many_fragments : ℕ
status_reassembly_too_many_fragments = 86

-- bytes of the payload are missing, or the last fragment is missing
abbrev pub status_reassembly_incomplete : ℕ
status_reassembly_incomplete = 87

-- the payload is complete, but the headers of the whole packet can't be written
abbrev pub status_reassembly_header : ℕ
status_reassembly_header = 88

-- the lengths of the packets count more bytes than there are
abbrev pub status_reassembly_lengths : ℕ
status_reassembly_lengths = 89

-- an extension header is cut off
abbrev pub status_siit_extension_header_cut_off : ℕ
status_siit_extension_header_cut_off = 90

-- a routing header has segments left
abbrev pub status_siit_segments_left : ℕ
status_siit_segments_left = 91

-- a fragment of an ICMP message is not translated
abbrev pub status_siit_icmp_fragment : ℕ
status_siit_icmp_fragment = 92

-- ---- layers whose length can be wrong; 8 and above are reserved for IP headers

abbrev pub layer_udp_header : ℕ
layer_udp_header = 1

abbrev pub layer_udp_payload : ℕ
layer_udp_payload = 2

abbrev pub layer_tcp_header : ℕ
layer_tcp_header = 3

abbrev pub layer_icmpv4 : ℕ
layer_icmpv4 = 4

abbrev pub layer_icmpv4_timestamp : ℕ
layer_icmpv4_timestamp = 5

abbrev pub layer_icmpv4_timestamp_reply : ℕ
layer_icmpv4_timestamp_reply = 6

abbrev pub layer_icmpv6 : ℕ
layer_icmpv6 = 7

-- ---- sources of a length

abbrev pub len_source_slice : ℕ
len_source_slice = 1

abbrev pub len_source_udp_header_len : ℕ
len_source_udp_header_len = 2

-- ---- kinds of values that can be too big

abbrev pub value_udp_payload_length_ipv4 : ℕ
value_udp_payload_length_ipv4 = 1

abbrev pub value_udp_payload_length_ipv6 : ℕ
value_udp_payload_length_ipv6 = 2

abbrev pub value_tcp_payload_length_ipv4 : ℕ
value_tcp_payload_length_ipv4 = 3

abbrev pub value_tcp_payload_length_ipv6 : ℕ
value_tcp_payload_length_ipv6 = 4

abbrev pub value_icmpv6_payload_length : ℕ
value_icmpv6_payload_length = 5

-- the payload after a transport header in a packet that is written
abbrev pub value_ip_payload_length : ℕ
value_ip_payload_length = 6

-- ---- flags of a TCP header (RFC 9293, section 3.1; RFC 3168, section 6.1; RFC 3540, section 9): NS has bit 0x100. The other eight flags
-- have the same bits as in byte 13 of the header.

abbrev pub tcp_fin : ℕ
tcp_fin = 0x001

abbrev pub tcp_syn : ℕ
tcp_syn = 0x002

abbrev pub tcp_rst : ℕ
tcp_rst = 0x004

abbrev pub tcp_psh : ℕ
tcp_psh = 0x008

abbrev pub tcp_ack : ℕ
tcp_ack = 0x010

abbrev pub tcp_urg : ℕ
tcp_urg = 0x020

abbrev pub tcp_ece : ℕ
tcp_ece = 0x040

abbrev pub tcp_cwr : ℕ
tcp_cwr = 0x080

abbrev pub tcp_ns : ℕ
tcp_ns = 0x100

-- all nine flags
abbrev pub tcp_flags : ℕ
tcp_flags = 0x1ff

-- ---- kinds of TCP options, as IANA registers them (RFC 9293, section 3.1; RFC 7323, sections 2.2 and 3.2; RFC 2018, sections 2 and 3)

abbrev pub tcp_option_noop : ℕ
tcp_option_noop = 1

abbrev pub tcp_option_maximum_segment_size : ℕ
tcp_option_maximum_segment_size = 2

abbrev pub tcp_option_window_scale : ℕ
tcp_option_window_scale = 3

abbrev pub tcp_option_sack_permitted : ℕ
tcp_option_sack_permitted = 4

abbrev pub tcp_option_sack : ℕ
tcp_option_sack = 5

abbrev pub tcp_option_timestamp : ℕ
tcp_option_timestamp = 8

-- ---- kinds of ICMPv4 messages (RFC 792); 0 is any other type and code

abbrev pub icmpv4_kind_unknown : ℕ
icmpv4_kind_unknown = 0

abbrev pub icmpv4_kind_echo_reply : ℕ
icmpv4_kind_echo_reply = 1

abbrev pub icmpv4_kind_destination_unreachable : ℕ
icmpv4_kind_destination_unreachable = 2

abbrev pub icmpv4_kind_redirect : ℕ
icmpv4_kind_redirect = 3

abbrev pub icmpv4_kind_echo_request : ℕ
icmpv4_kind_echo_request = 4

abbrev pub icmpv4_kind_time_exceeded : ℕ
icmpv4_kind_time_exceeded = 5

abbrev pub icmpv4_kind_parameter_problem : ℕ
icmpv4_kind_parameter_problem = 6

abbrev pub icmpv4_kind_timestamp_request : ℕ
icmpv4_kind_timestamp_request = 7

abbrev pub icmpv4_kind_timestamp_reply : ℕ
icmpv4_kind_timestamp_reply = 8

-- ---- kinds of ICMPv6 messages (RFC 4443; RFC 4861); 0 is any other type and code

abbrev pub icmpv6_kind_unknown : ℕ
icmpv6_kind_unknown = 0

abbrev pub icmpv6_kind_destination_unreachable : ℕ
icmpv6_kind_destination_unreachable = 1

abbrev pub icmpv6_kind_packet_too_big : ℕ
icmpv6_kind_packet_too_big = 2

abbrev pub icmpv6_kind_time_exceeded : ℕ
icmpv6_kind_time_exceeded = 3

abbrev pub icmpv6_kind_parameter_problem : ℕ
icmpv6_kind_parameter_problem = 4

abbrev pub icmpv6_kind_echo_request : ℕ
icmpv6_kind_echo_request = 5

abbrev pub icmpv6_kind_echo_reply : ℕ
icmpv6_kind_echo_reply = 6

abbrev pub icmpv6_kind_router_solicitation : ℕ
icmpv6_kind_router_solicitation = 7

abbrev pub icmpv6_kind_router_advertisement : ℕ
icmpv6_kind_router_advertisement = 8

abbrev pub icmpv6_kind_neighbor_solicitation : ℕ
icmpv6_kind_neighbor_solicitation = 9

abbrev pub icmpv6_kind_neighbor_advertisement : ℕ
icmpv6_kind_neighbor_advertisement = 10

abbrev pub icmpv6_kind_redirect : ℕ
icmpv6_kind_redirect = 11

-- ---- flags of ICMPv6 advertisements, at their bits in the packet (RFC 4861, sections 4.2 and 4.4)

abbrev pub icmpv6_router_managed : ℕ
icmpv6_router_managed = 0x80

abbrev pub icmpv6_router_other_config : ℕ
icmpv6_router_other_config = 0x40

abbrev pub icmpv6_neighbor_router : ℕ
icmpv6_neighbor_router = 0x80

abbrev pub icmpv6_neighbor_solicited : ℕ
icmpv6_neighbor_solicited = 0x40

abbrev pub icmpv6_neighbor_override : ℕ
icmpv6_neighbor_override = 0x20

-- ---- protocols, with their numbers in IP headers

abbrev pub protocol_icmpv4 : ℕ
protocol_icmpv4 = 1

abbrev pub protocol_tcp : ℕ
protocol_tcp = 6

abbrev pub protocol_udp : ℕ
protocol_udp = 17

abbrev pub protocol_icmpv6 : ℕ
protocol_icmpv6 = 58

-- ---- verdicts on the checksum of an IP packet; a verdict of 16 or more is a reason why the checksum is not tested

abbrev pub verdict_right : ℕ
verdict_right = 1

abbrev pub verdict_absent : ℕ
verdict_absent = 2

abbrev pub verdict_wrong : ℕ
verdict_wrong = 3

abbrev pub verdict_partial : ℕ
verdict_partial = 4

abbrev pub verdict_untested_fragment : ℕ
verdict_untested_fragment = 16

abbrev pub verdict_untested_cut_off : ℕ
verdict_untested_cut_off = 17

abbrev pub verdict_untested_unknown_destination : ℕ
verdict_untested_unknown_destination = 18

abbrev pub verdict_untested_other_protocol : ℕ
verdict_untested_other_protocol = 19

abbrev pub verdict_untested_zero_length : ℕ
verdict_untested_zero_length = 20

abbrev pub verdict_untested_too_long : ℕ
verdict_untested_too_long = 21

-- ---- the version of the interface

abbrev pub version_major : ℕ
version_major = 0

abbrev pub version_minor : ℕ
version_minor = 5

abbrev pub version_patch : ℕ
version_patch = 0
