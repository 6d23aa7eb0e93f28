use Rattle.std.proofs.Common.{◌≡◌, map, take}
use Rattle.capture_json.specs.JsonPacket.{tunnel_data}
use Rattle.capture_json.specs.Tokens.{tokens_in, with_items}
use Rattle.capture_json.proofs.tunnels.push_tunnels.Given as goal

-- the tunnels so far were written
abbrev pub invariant-loop-tunnel : goal.invariant-loop-tunnel
invariant-loop-tunnel l = tokens_in l.line ≡ with_items (map tunnel_data (take l.tunnel-index l.tunnels)) (tokens_in l.initial.line)
