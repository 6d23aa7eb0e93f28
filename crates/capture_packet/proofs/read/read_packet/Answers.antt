use Rattle.std.proofs.Common.{[]}
use Rattle.capture_packet.specs.Frames.{IsReadIn}
use Rattle.capture_packet.specs.Tunnels.{max_tunnels}
use Rattle.capture_packet.proofs.FrameLemmas.{ip_packet_read}
use Rattle.capture_packet.proofs.read.read_packet.Goals as goal

pub returns-in-Ok : goal.returns-in-Ok
returns-in-Ok c =
    ip_packet_read (IsReadIn max_tunnels c.args.udp_tunnels c.args.order []) [] c.args.link_type c.args.order c.args.frame.now c.args.is_cut
    c.in-Ok.packet c.read_ip_packet.result c.in-Ok.ensures.found c.read_ip_packet.ensures
