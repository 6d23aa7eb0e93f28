-- Laws of the text of an address with its port: it is the text of a socket with this address and this port.
use Rattle.std.specs.Prelude.{ℕ, List, ◌++◌, codes, decimal, Some, None}
use Rattle.std.proofs.Common.{◌≡◌, ap, ap₂, append-nil, arith}
use Rattle.std.specs.Net.Socket.{IsPlainSocket, socket_ip}
use Rattle.std.specs.Net.Text.{ipv4_text, ipv6_text, scope_text, socket_text}
use Rattle.std.specs.declared.net.socket_addr.SocketAddr.{SocketAddr}
use Rattle.std.specs.declared.net.socket_addr.SocketAddr.TheVariants as Socket
use Rattle.ip_part.specs.Addresses.{Addresses, Ipv4, Ipv6}
use Rattle.capture_packet.specs.Addresses.{IsDestination, IsSource}
use Rattle.capture_text.specs.AddressText.{destination_endpoint, source_endpoint}

-- an IPv6 address without a scope, and its port
of_ipv6 : (segments others : List ℕ) (scope number port : ℕ) → segments ≡ others → scope ≡ 0 → number ≡ port
    → codes "[" ++ ipv6_text segments ++ scope_text scope ++ codes "]:" ++ decimal number
    ≡ codes "[" ++ ipv6_text others ++ codes "]:" ++ decimal port
of_ipv6 segments others scope number port same none is =
    simp (same, none, is) (ap (λ front. front ++ codes "]:" ++ decimal port) (append-nil (codes "[" ++ ipv6_text others)))

pub source_shown : (addresses : Addresses) (socket : SocketAddr) (port : ℕ) → IsSource addresses (socket_ip socket)
    → IsPlainSocket socket port → socket_text socket ≡ source_endpoint addresses port
source_shown (Ipv4 source destination) (Socket.V4 a) port is plain =
    ap₂ (λ octets number. ipv4_text octets ++ codes ":" ++ decimal number) is plain.0
source_shown (Ipv4 source destination) (Socket.V6 a) port is plain = absurd is
source_shown (Ipv6 source destination) (Socket.V4 a) port is plain = absurd is
source_shown (Ipv6 source destination) (Socket.V6 a) port is plain = of_ipv6 _ _ _ _ port is plain.2 plain.0

pub destination_shown : (addresses : Addresses) (socket : SocketAddr) (port : ℕ) → IsDestination addresses (Some (socket_ip socket))
    → IsPlainSocket socket port → socket_text socket ≡ destination_endpoint addresses port
destination_shown (Ipv4 source destination) (Socket.V4 a) port is plain =
    ap₂ (λ octets number. ipv4_text octets ++ codes ":" ++ decimal number) is plain.0
destination_shown (Ipv4 source destination) (Socket.V6 a) port is plain = absurd is
destination_shown (Ipv6 source (Some destination)) (Socket.V4 a) port is plain = absurd is
destination_shown (Ipv6 source (Some destination)) (Socket.V6 a) port is plain = of_ipv6 _ _ _ _ port is plain.2 plain.0
destination_shown (Ipv6 source None) socket port is plain = absurd (grind arith)
