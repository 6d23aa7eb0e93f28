-- ICMP errors about packets, in the interface to C: the errors of the calls, their texts, and what they write.
use Rattle.std.specs.Prelude.{ℕ, ◌+◌, List, ◌++◌, length, drop, Option, Some, None}
use Rattle.std.specs.Option.{option_map}
use Rattle.icmp_part.specs.declared.icmpv4_type.Icmpv4Type.{Icmpv4Type}
use Rattle.icmp_part.specs.declared.icmpv6_type.Icmpv6Type.{Icmpv6Type}
use Rattle.ip_part.specs.ErrorTexts.{ip_text}
use Rattle.ip_part.specs.declared.ip_error.IpError.TheVariants as ip
use Rattle.etherparse_transport.specs.ErrorTexts.{error_about_text}
use Rattle.etherparse_transport.specs.IcmpErrors as errors
use Rattle.etherparse_transport.specs.declared.err.packet.error_about_error.ErrorAboutError.{ErrorAboutError}
use Rattle.etherparse_transport.specs.declared.err.packet.error_about_error.ErrorAboutError.TheVariants.{ErrorSource, GroupDestination, IcmpError, Ip, LaterFragment, NoErrorType, OtherVersion, PacketSource, Space}
use Rattle.etherparse_transport_c.specs.ErrorText.{own_text}
use Rattle.etherparse_transport_c.specs.Errors.{of_buffer, of_ip, of_status}
use Rattle.etherparse_transport_c.specs.Numbers as numbers
use Rattle.etherparse_transport_c.specs.declared.error.EtherparseError.{EtherparseError}

-- the error of a call that writes no ICMP error; `other_version` is the IP version that the call does not accept
abbrev pub of_error_about : ℕ → ErrorAboutError → EtherparseError
of_error_about other_version NoErrorType = of_status numbers.status_no_icmp_error
of_error_about other_version (Ip error) = of_ip error
of_error_about other_version OtherVersion = of_ip (ip.Version other_version)
of_error_about other_version LaterFragment = of_status numbers.status_icmp_error_later_fragment
of_error_about other_version IcmpError = of_status numbers.status_icmp_error_about_error
of_error_about other_version GroupDestination = of_status numbers.status_icmp_error_about_group
of_error_about other_version PacketSource = of_status numbers.status_icmp_error_packet_source
of_error_about other_version ErrorSource = of_status numbers.status_icmp_error_source
of_error_about other_version (Space required_len len) = of_buffer required_len len

-- the text of this error; the other IP version has one text in all calls, and so has a buffer that is too small
abbrev pub error_about_text_in_c : ℕ → ErrorAboutError → List ℕ
error_about_text_in_c other_version OtherVersion = ip_text (ip.Version other_version)
error_about_text_in_c other_version (Space required_len len) = own_text (of_buffer required_len len)
error_about_text_in_c other_version error = error_about_text error

-- the refusal of the call for IPv4: no message has these fields, or the library in Rattle refuses to write the error
abbrev pub icmpv4_refusal : Option Icmpv4Type → List ℕ → List ℕ → ℕ → Option EtherparseError
icmpv4_refusal None source packet room = Some (of_status numbers.status_message_unknown)
icmpv4_refusal (Some message) source packet room = option_map (of_error_about 6) (errors.icmpv4_refusal message source packet room)

-- the refusal of the call for IPv6: no message has these fields, or the library in Rattle refuses to write the error
abbrev pub icmpv6_refusal : Option Icmpv6Type → List ℕ → List ℕ → ℕ → Option EtherparseError
icmpv6_refusal None source packet room = Some (of_status numbers.status_message_unknown)
icmpv6_refusal (Some message) source packet room = option_map (of_error_about 4) (errors.icmpv6_refusal message source packet room)

-- the buffer with the ICMPv4 error at its front; if no message has these fields, the buffer is unchanged
abbrev pub with_icmpv4_error : Option Icmpv4Type → List ℕ → ℕ → List ℕ → List ℕ → List ℕ
with_icmpv4_error None source time_to_live packet buffer = buffer
with_icmpv4_error (Some message) source time_to_live packet buffer =
    errors.icmpv4_error message source time_to_live packet ++ drop (errors.ipv4_front_len + length (errors.ipv4_quote packet)) buffer

-- the buffer with the ICMPv6 error at its front; if no message has these fields, the buffer is unchanged
abbrev pub with_icmpv6_error : Option Icmpv6Type → List ℕ → ℕ → List ℕ → List ℕ → List ℕ
with_icmpv6_error None source hop_limit packet buffer = buffer
with_icmpv6_error (Some message) source hop_limit packet buffer =
    errors.icmpv6_error message source hop_limit packet ++ drop (errors.ipv6_front_len + length (errors.ipv6_quote packet)) buffer
