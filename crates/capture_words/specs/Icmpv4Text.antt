-- The text of an ICMPv4 message in a line (RFC 792).
use Rattle.std.specs.Prelude.{ℕ, List, ◌++◌, codes, decimal, Option, None, Some}
use Rattle.std.specs.Net.Text.{ipv4_text}
use Rattle.icmp_part.specs.Icmpv4Format.{dest_unreachable_code, parameter_problem_code, redirect_code, time_exceeded_code}
use Rattle.icmp_part.specs.declared.icmpv4.dest_unreachable_header.DestUnreachableHeader.{DestUnreachableHeader}
use Rattle.icmp_part.specs.declared.icmpv4.dest_unreachable_header.DestUnreachableHeader.TheVariants.{Network, Host, Protocol, Port, FragmentationNeeded, SourceRouteFailed, NetworkUnknown, HostUnknown, Isolated, NetworkProhibited, HostProhibited, TosNetwork, TosHost, FilterProhibited, HostPrecedenceViolation, PrecedenceCutoff}
use Rattle.icmp_part.specs.declared.icmpv4.parameter_problem_header.ParameterProblemHeader.{ParameterProblemHeader}
use Rattle.icmp_part.specs.declared.icmpv4.parameter_problem_header.ParameterProblemHeader.TheVariants.{PointerIndicatesError, MissingRequiredOption, BadLength}
use Rattle.icmp_part.specs.declared.icmpv4.redirect_code.RedirectCode.{RedirectCode}
use Rattle.icmp_part.specs.declared.icmpv4.redirect_code.RedirectCode.TheVariants.{RedirectForNetwork, RedirectForHost, RedirectForTypeOfServiceAndNetwork, RedirectForTypeOfServiceAndHost}
use Rattle.icmp_part.specs.declared.icmpv4.time_exceeded_code.TimeExceededCode.{TimeExceededCode}
use Rattle.icmp_part.specs.declared.icmpv4.time_exceeded_code.TimeExceededCode.TheVariants.{TtlExceededInTransit, FragmentReassemblyTimeExceeded}
use Rattle.icmp_part.specs.declared.icmpv4.timestamp_message.TimestampMessage.{TimestampMessage}
use Rattle.icmp_part.specs.declared.icmpv4_type.Icmpv4Type.{Icmpv4Type}
use Rattle.icmp_part.specs.declared.icmpv4_type.Icmpv4Type.TheVariants.{Unknown, EchoReply, DestinationUnreachable, Redirect, EchoRequest, TimeExceeded, ParameterProblem, TimestampRequest, TimestampReply}
use Rattle.capture_words.specs.IcmpText.{echo_text, named_message, optional_field, unknown_text}

-- what is unreachable, or why a datagram could not be delivered
abbrev pub unreachable_reason : DestUnreachableHeader → List ℕ
unreachable_reason Network = codes "network"
unreachable_reason Host = codes "host"
unreachable_reason Protocol = codes "protocol"
unreachable_reason Port = codes "port"
unreachable_reason (FragmentationNeeded next_hop_mtu) = codes "fragmentation needed"
unreachable_reason SourceRouteFailed = codes "source route failed"
unreachable_reason NetworkUnknown = codes "network unknown"
unreachable_reason HostUnknown = codes "host unknown"
unreachable_reason Isolated = codes "source host isolated"
unreachable_reason NetworkProhibited = codes "network prohibited"
unreachable_reason HostProhibited = codes "host prohibited"
unreachable_reason TosNetwork = codes "network for the type of service"
unreachable_reason TosHost = codes "host for the type of service"
unreachable_reason FilterProhibited = codes "prohibited by filtering"
unreachable_reason HostPrecedenceViolation = codes "precedence not permitted"
unreachable_reason PrecedenceCutoff = codes "precedence below the minimum"

-- the MTU of the next hop, or `None` if the message does not report that fragmentation is needed
abbrev pub mtu_of : DestUnreachableHeader → Option ℕ
mtu_of (FragmentationNeeded next_hop_mtu) = Some next_hop_mtu
mtu_of other = None

-- which datagrams are redirected: the datagrams for a network or a host, for every type of service or for one type
abbrev pub redirected_datagrams : RedirectCode → List ℕ
redirected_datagrams RedirectForNetwork = codes "network"
redirected_datagrams RedirectForHost = codes "host"
redirected_datagrams RedirectForTypeOfServiceAndNetwork = codes "type of service and network"
redirected_datagrams RedirectForTypeOfServiceAndHost = codes "type of service and host"

-- which time was exceeded
abbrev pub exceeded_time : TimeExceededCode → List ℕ
exceeded_time TtlExceededInTransit = codes "time to live"
exceeded_time FragmentReassemblyTimeExceeded = codes "fragment reassembly"

-- what is wrong with the parameters
abbrev pub problem_name : ParameterProblemHeader → List ℕ
problem_name (PointerIndicatesError pointer) = codes "pointer indicates the error"
problem_name MissingRequiredOption = codes "required option missing"
problem_name BadLength = codes "bad length"

-- the pointer, or `None` if the message contains no pointer to the error
abbrev pub pointer_of : ParameterProblemHeader → Option ℕ
pointer_of (PointerIndicatesError pointer) = Some pointer
pointer_of other = None

-- a timestamp request or a timestamp reply; its three times are milliseconds since midnight UT
abbrev pub timestamp_text : List ℕ → TimestampMessage → List ℕ
timestamp_text name message =
    name ++ (codes ", code 0, identifier " ++ (decimal message.id ++ (codes ", sequence number " ++ (decimal message.seq
    ++ (codes ", originate " ++ (decimal message.originate_timestamp ++ (codes ", receive " ++ (decimal message.receive_timestamp
    ++ (codes ", transmit " ++ decimal message.transmit_timestamp)))))))))

-- the name of a message, its code, and its fields
abbrev pub message_text : Icmpv4Type → List ℕ
message_text (Unknown type code bytes) = unknown_text type code bytes
message_text (EchoReply echo) = echo_text (codes "echo reply") echo
message_text (DestinationUnreachable header) =
    named_message (codes "destination unreachable") (dest_unreachable_code header) (unreachable_reason header)
    ++ optional_field (codes "next-hop MTU") (mtu_of header)
message_text (Redirect header) =
    named_message (codes "redirect") (redirect_code header.code) (redirected_datagrams header.code)
    ++ (codes ", gateway " ++ ipv4_text header.gateway_internet_address)
message_text (EchoRequest echo) = echo_text (codes "echo request") echo
message_text (TimeExceeded code) = named_message (codes "time exceeded") (time_exceeded_code code) (exceeded_time code)
message_text (ParameterProblem header) =
    named_message (codes "parameter problem") (parameter_problem_code header) (problem_name header)
    ++ optional_field (codes "pointer") (pointer_of header)
message_text (TimestampRequest times) = timestamp_text (codes "timestamp") times
message_text (TimestampReply times) = timestamp_text (codes "timestamp reply") times
