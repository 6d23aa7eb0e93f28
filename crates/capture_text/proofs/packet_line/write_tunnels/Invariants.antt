use Rattle.std.proofs.Common.{take}
use Rattle.std.specs.Io.KnownBytes.{Appends}
use Rattle.std.specs.List.{flat_map}
use Rattle.capture_text.specs.PacketLine.{tunnel_text}
use Rattle.capture_text.proofs.packet_line.write_tunnels.Given as goal

-- the tunnels so far were written
abbrev pub invariant-loop-tunnel : goal.invariant-loop-tunnel
invariant-loop-tunnel g l =
    Appends (g.W.Write.contents l.initial.output) (g.W.Write.contents l.output) (flat_map tunnel_text (take l.tunnel-index l.tunnels))
