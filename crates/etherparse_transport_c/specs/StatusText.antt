-- The meanings of statuses, in a few words.
use Rattle.std.specs.Prelude.{ℕ, ◌==◌, if◌then◌else◌, List, codes}
use Rattle.etherparse_transport_c.specs.Numbers as numbers
use Rattle.etherparse_transport_c.specs.SiitWords.{siit_status_text}

-- the maximum length of a text, in bytes; texts that later versions add are not longer
abbrev pub max_status_text_len : ℕ
max_status_text_len = 127

-- the meaning of a status in a few words
abbrev pub status_text : ℕ → List ℕ
status_text status =
    if status == numbers.status_ok then codes "no error"
    else if status == numbers.status_length then codes "a length is too short or too long"
    else if status == numbers.status_data_offset then codes "the data offset of a TCP header is below 5"
    else if status == numbers.status_value_too_big then codes "a value is above its limit"
    else if status == numbers.status_buffer_too_small then codes "the buffer is too small"
    else if status == numbers.status_checksum_wrong then codes "the checksum is wrong"
    else if status == numbers.status_checksum_absent then codes "the UDP packet has no checksum"
    else if status == numbers.status_options_too_long then codes "more than 40 bytes of TCP options"
    else if status == numbers.status_flags_unknown then codes "the TCP flags are above 0x1ff"
    else if status == numbers.status_protocol_unknown then codes "the call does not accept the protocol"
    else if status == numbers.status_options_end then codes "no TCP option is left"
    else if status == numbers.status_option_cut_off then codes "the bytes end within a TCP option"
    else if status == numbers.status_option_size then codes "the length byte of a TCP option is wrong"
    else if status == numbers.status_option_unknown then codes "the kind of a TCP option is unknown"
    else if status == numbers.status_message_unknown then codes "the kind or the code of an ICMP message is unknown"
    else if status == numbers.status_ip_header_cut_off then codes "the bytes end within the IP header"
    else if status == numbers.status_ip_version then codes "the call does not accept this version of IP"
    else if status == numbers.status_ip_header_length then codes "the header length of an IPv4 packet is below 20 bytes"
    else if status == numbers.status_ip_total_length then codes "the total length of an IPv4 packet is below its header length"
    else if status == numbers.status_ip_packet_cut_off then codes "the IP header counts more bytes than there are"
    else if status == numbers.status_ip_extension_cut_off then codes "the packet ends within an extension header"
    else if status == numbers.status_ip_jumbo_payload_missing then codes "an IPv6 packet has payload length 0 and no jumbo payload option"
    else if status == numbers.status_ip_jumbo_payload_length then codes "the jumbo payload length is not above 65535"
    else if status == numbers.status_ip_jumbo_payload_unexpected
    then codes "an IPv6 packet has a jumbo payload option and a payload length above 0"
    else if status == numbers.status_ip_jumbo_payload_fragment then codes "an IPv6 packet has a jumbo payload option and a fragment header"
    else if status == numbers.status_option_values then codes "a TCP option of this kind cannot have these values"
    else if status == numbers.status_echo_fragment then codes "the packet is a fragment, which is not answered"
    else if status == numbers.status_echo_no_request then codes "the packet is no echo request, or has another IP version"
    else if status == numbers.status_echo_has_options
    then codes "the packet has IPv4 options, an authentication header or extension headers"
    else if status == numbers.status_echo_header_checksum_wrong then codes "the checksum of the IPv4 header is wrong"
    else if status == numbers.status_echo_request_source then codes "the source of the request is not the address of one host"
    else if status == numbers.status_echo_reply_source then codes "the source of the reply is not the address of one host"
    else if status == numbers.status_no_icmp_error then codes "the ICMP message is not an error"
    else if status == numbers.status_translate_has_options then codes "the packet has IPv4 options, and is not translated"
    else if status == numbers.status_translate_protocol then codes "the protocol is not translated"
    else if status == numbers.status_translate_header_cut_off
    then codes "the packet ends within a transport header that would be translated"
    else if status == numbers.status_translate_icmp_message
    then codes "the ICMP message is no query and no error, or a redirect, and is not translated"
    else if status == numbers.status_translate_quoted_packet then codes "the packet that the ICMP error is about cannot be translated"
    else if status == numbers.status_echo_no_reply then codes "the packet is not the reply to the echo request"
    else if status == numbers.status_translate_source_route then codes "the packet has a source route, and is not translated"
    else if status == numbers.status_checksum_untested then codes "the checksum of the packet is not tested"
    else if status == numbers.status_hop_limit_expired then codes "the hop limit of the packet is 0 or 1"
    else if status == numbers.status_icmp_error_later_fragment
    then codes "the packet is a later fragment, about which there is no ICMP error"
    else if status == numbers.status_icmp_error_about_error then codes "the packet may be an ICMP error, about which there is none"
    else if status == numbers.status_icmp_error_about_group then codes "the destination of the packet is an address of several hosts"
    else if status == numbers.status_icmp_error_packet_source then codes "the source of the packet is not the address of one host"
    else if status == numbers.status_icmp_error_source then codes "the source of the ICMP error is not the address of one host"
    else if status == numbers.status_segment_size_later_fragment then codes "a later fragment has no maximum segment size"
    else if status == numbers.status_segment_size_no_syn then codes "the segment is not a SYN"
    else if status == numbers.status_segment_size_no_option then codes "the segment contains no maximum segment size"
    else siit_status_text status
