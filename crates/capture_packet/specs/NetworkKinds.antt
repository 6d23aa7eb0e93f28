-- The names of tunnels in UDP, and the protocol around them.
use Rattle.std.specs.Prelude.{ℕ, List, None, Option, Some, codes}
use Rattle.ip_part.specs.declared.proto.Proto.{Proto}
use Rattle.ip_part.specs.declared.proto.Proto.TheVariants.{Udp}
use Rattle.capture_packet.specs.declared.virtual_network.NetworkKind.{NetworkKind}
use Rattle.capture_packet.specs.declared.virtual_network.NetworkKind.TheVariants.{Geneve, Vxlan}
use Rattle.capture_packet.specs.declared.virtual_network.VirtualNetwork.{VirtualNetwork}

-- the name of a kind of tunnel in UDP
abbrev pub kind_name : NetworkKind → List ℕ
kind_name Vxlan = codes "VXLAN"
kind_name Geneve = codes "Geneve"

-- the transport of the outer packet of a tunnel with this network, if there is one; it is UDP if the tunnel has a network
abbrev pub proto_around : Option VirtualNetwork → Option Proto
proto_around None = None
proto_around (Some network) = Some Udp
