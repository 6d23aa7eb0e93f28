use Rattle.std.proofs.Common.{◌-◌, ◌≤◌, [], length, map}
use Rattle.capture_packet.specs.Frames.{IsReadIn}
use Rattle.capture_packet.specs.Tunnels.{by_value, max_tunnels}
use Rattle.capture_packet.specs.declared.packet.Packet.{Packet}
use Rattle.capture_packet.proofs.read.read_ip_packet.Given as goal

-- what is read from the rest, in the tunnels that were opened, is read from the whole packet
abbrev pub invariant-loop-found : goal.invariant-loop-found
invariant-loop-found l =
    (length l.tunnels.items ≤ max_tunnels)
    × ((read : Packet)
    → IsReadIn (max_tunnels - length l.tunnels.items) l.fn.udp_tunnels l.fn.order
    (map by_value l.tunnels.items) l.rest.is_cut l.rest.bytes.now read
    → IsReadIn max_tunnels l.fn.udp_tunnels l.fn.order [] l.fn.packet.is_cut l.fn.packet.bytes.now read)

abbrev pub decreases-loop-found : goal.decreases-loop-found
decreases-loop-found l = max_tunnels - length l.tunnels.items
