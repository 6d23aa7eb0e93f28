-- Worked examples of the tables of ICMP errors (RFC 7915, sections 4.2 and 5.2).
use Rattle.std.proofs.Common.{◌≡◌, Some, None, refl}
use Rattle.ip_translation.specs.IcmpErrors.{error_in, errors_to_ipv4, errors_to_ipv6, mtu_to_ipv4, mtu_to_ipv6, pointer_in, pointers_to_ipv4, pointers_to_ipv6}

-- "host precedence violation" is dropped
host_precedence : error_in (errors_to_ipv6 14) 3 14 ≡ None
host_precedence = refl

-- "protocol unreachable" becomes a parameter problem
protocol_unreachable : error_in (errors_to_ipv6 2) 3 2 ≡ Some (4, 1)
protocol_unreachable = refl

-- "time exceeded" keeps any code
time_exceeded : error_in (errors_to_ipv6 7) 11 7 ≡ Some (3, 7)
time_exceeded = refl

-- an echo request is not an error
echo_request : error_in (errors_to_ipv6 0) 8 0 ≡ None
echo_request = refl

-- "packet too big", and an unrecognized option, which is dropped
packet_too_big : error_in (errors_to_ipv4 0) 2 0 ≡ Some (3, 4)
packet_too_big = refl

unrecognized_option : error_in (errors_to_ipv4 2) 4 2 ≡ None
unrecognized_option = refl

-- the time to live becomes the hop limit, and the checksum has no place
hop_limit : pointer_in pointers_to_ipv6 8 ≡ Some 7
hop_limit = refl

header_checksum : pointer_in pointers_to_ipv6 11 ≡ None
header_checksum = refl

-- the last byte of the destination
destination : pointer_in pointers_to_ipv4 39 ≡ Some 16
destination = refl

behind_header : pointer_in pointers_to_ipv4 40 ≡ None
behind_header = refl

-- an Ethernet behind a tunnel, and a router that reports no MTU for a packet of 1500 bytes
tunnel : mtu_to_ipv6 1480 1500 ≡ 1500
tunnel = refl

no_mtu : mtu_to_ipv6 0 1500 ≡ 1512
no_mtu = refl

-- the least MTU of IPv6
least_mtu : mtu_to_ipv6 576 1500 ≡ 1280
least_mtu = refl

least_mtu_back : mtu_to_ipv4 1280 ≡ 1260
least_mtu_back = refl
