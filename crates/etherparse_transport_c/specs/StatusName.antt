-- The names of statuses, as the C header spells them.
use Rattle.std.specs.Prelude.{ℕ, ◌==◌, if◌then◌else◌, List, codes}
use Rattle.etherparse_transport_c.specs.Numbers as numbers
use Rattle.etherparse_transport_c.specs.SiitWords.{siit_status_name}

-- the maximum length of a name, in bytes; names that later versions add are not longer
abbrev pub max_status_name_len : ℕ
max_status_name_len = 63

-- the name of a status
abbrev pub status_name : ℕ → List ℕ
status_name status =
    if status == numbers.status_ok then codes "ETHERPARSE_OK"
    else if status == numbers.status_length then codes "ETHERPARSE_STATUS_LENGTH"
    else if status == numbers.status_data_offset then codes "ETHERPARSE_STATUS_DATA_OFFSET"
    else if status == numbers.status_value_too_big then codes "ETHERPARSE_STATUS_VALUE_TOO_BIG"
    else if status == numbers.status_buffer_too_small then codes "ETHERPARSE_STATUS_BUFFER_TOO_SMALL"
    else if status == numbers.status_checksum_wrong then codes "ETHERPARSE_STATUS_CHECKSUM_WRONG"
    else if status == numbers.status_checksum_absent then codes "ETHERPARSE_STATUS_CHECKSUM_ABSENT"
    else if status == numbers.status_options_too_long then codes "ETHERPARSE_STATUS_OPTIONS_TOO_LONG"
    else if status == numbers.status_flags_unknown then codes "ETHERPARSE_STATUS_FLAGS_UNKNOWN"
    else if status == numbers.status_protocol_unknown then codes "ETHERPARSE_STATUS_PROTOCOL_UNKNOWN"
    else if status == numbers.status_options_end then codes "ETHERPARSE_STATUS_OPTIONS_END"
    else if status == numbers.status_option_cut_off then codes "ETHERPARSE_STATUS_OPTION_CUT_OFF"
    else if status == numbers.status_option_size then codes "ETHERPARSE_STATUS_OPTION_SIZE"
    else if status == numbers.status_option_unknown then codes "ETHERPARSE_STATUS_OPTION_UNKNOWN"
    else if status == numbers.status_message_unknown then codes "ETHERPARSE_STATUS_MESSAGE_UNKNOWN"
    else if status == numbers.status_ip_header_cut_off then codes "ETHERPARSE_STATUS_IP_HEADER_CUT_OFF"
    else if status == numbers.status_ip_version then codes "ETHERPARSE_STATUS_IP_VERSION"
    else if status == numbers.status_ip_header_length then codes "ETHERPARSE_STATUS_IP_HEADER_LENGTH"
    else if status == numbers.status_ip_total_length then codes "ETHERPARSE_STATUS_IP_TOTAL_LENGTH"
    else if status == numbers.status_ip_packet_cut_off then codes "ETHERPARSE_STATUS_IP_PACKET_CUT_OFF"
    else if status == numbers.status_ip_extension_cut_off then codes "ETHERPARSE_STATUS_IP_EXTENSION_CUT_OFF"
    else if status == numbers.status_ip_jumbo_payload_missing then codes "ETHERPARSE_STATUS_IP_JUMBO_PAYLOAD_MISSING"
    else if status == numbers.status_ip_jumbo_payload_length then codes "ETHERPARSE_STATUS_IP_JUMBO_PAYLOAD_LENGTH"
    else if status == numbers.status_ip_jumbo_payload_unexpected then codes "ETHERPARSE_STATUS_IP_JUMBO_PAYLOAD_UNEXPECTED"
    else if status == numbers.status_ip_jumbo_payload_fragment then codes "ETHERPARSE_STATUS_IP_JUMBO_PAYLOAD_FRAGMENT"
    else if status == numbers.status_option_values then codes "ETHERPARSE_STATUS_OPTION_VALUES"
    else if status == numbers.status_echo_fragment then codes "ETHERPARSE_STATUS_ECHO_FRAGMENT"
    else if status == numbers.status_echo_no_request then codes "ETHERPARSE_STATUS_ECHO_NO_REQUEST"
    else if status == numbers.status_echo_has_options then codes "ETHERPARSE_STATUS_ECHO_HAS_OPTIONS"
    else if status == numbers.status_echo_header_checksum_wrong then codes "ETHERPARSE_STATUS_ECHO_HEADER_CHECKSUM_WRONG"
    else if status == numbers.status_echo_request_source then codes "ETHERPARSE_STATUS_ECHO_REQUEST_SOURCE"
    else if status == numbers.status_echo_reply_source then codes "ETHERPARSE_STATUS_ECHO_REPLY_SOURCE"
    else if status == numbers.status_no_icmp_error then codes "ETHERPARSE_STATUS_NO_ICMP_ERROR"
    else if status == numbers.status_translate_has_options then codes "ETHERPARSE_STATUS_TRANSLATE_HAS_OPTIONS"
    else if status == numbers.status_translate_protocol then codes "ETHERPARSE_STATUS_TRANSLATE_PROTOCOL"
    else if status == numbers.status_translate_header_cut_off then codes "ETHERPARSE_STATUS_TRANSLATE_HEADER_CUT_OFF"
    else if status == numbers.status_translate_icmp_message then codes "ETHERPARSE_STATUS_TRANSLATE_ICMP_MESSAGE"
    else if status == numbers.status_translate_quoted_packet then codes "ETHERPARSE_STATUS_TRANSLATE_QUOTED_PACKET"
    else if status == numbers.status_echo_no_reply then codes "ETHERPARSE_STATUS_ECHO_NO_REPLY"
    else if status == numbers.status_translate_source_route then codes "ETHERPARSE_STATUS_TRANSLATE_SOURCE_ROUTE"
    else if status == numbers.status_checksum_untested then codes "ETHERPARSE_STATUS_CHECKSUM_UNTESTED"
    else if status == numbers.status_hop_limit_expired then codes "ETHERPARSE_STATUS_HOP_LIMIT_EXPIRED"
    else if status == numbers.status_icmp_error_later_fragment then codes "ETHERPARSE_STATUS_ICMP_ERROR_LATER_FRAGMENT"
    else if status == numbers.status_icmp_error_about_error then codes "ETHERPARSE_STATUS_ICMP_ERROR_ABOUT_ERROR"
    else if status == numbers.status_icmp_error_about_group then codes "ETHERPARSE_STATUS_ICMP_ERROR_ABOUT_GROUP"
    else if status == numbers.status_icmp_error_packet_source then codes "ETHERPARSE_STATUS_ICMP_ERROR_PACKET_SOURCE"
    else if status == numbers.status_icmp_error_source then codes "ETHERPARSE_STATUS_ICMP_ERROR_SOURCE"
    else if status == numbers.status_segment_size_later_fragment then codes "ETHERPARSE_STATUS_SEGMENT_SIZE_LATER_FRAGMENT"
    else if status == numbers.status_segment_size_no_syn then codes "ETHERPARSE_STATUS_SEGMENT_SIZE_NO_SYN"
    else if status == numbers.status_segment_size_no_option then codes "ETHERPARSE_STATUS_SEGMENT_SIZE_NO_OPTION"
    else siit_status_name status
