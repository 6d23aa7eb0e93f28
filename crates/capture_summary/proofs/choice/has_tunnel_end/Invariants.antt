use Rattle.std.proofs.Common.{◌↔◌, length}
use Rattle.capture_summary.specs.Choice.{HasTunnelEnd}
use Rattle.capture_summary.proofs.choice.has_tunnel_end.Given as goal

-- if one of the tunnels matches, one of the tunnels that are left matches
abbrev pub invariant-loop-left : goal.invariant-loop-left
invariant-loop-left l = HasTunnelEnd l.fn.tunnels l.host ↔ HasTunnelEnd l.left l.host

abbrev pub decreases-loop-left : goal.decreases-loop-left
decreases-loop-left l = length l.left
