use Rattle.std.proofs.Common.{rules}
use Rattle.capture_words.proofs.WrittenLemmas.{each_more}
use Rattle.capture_text.proofs.packet_line.write_tunnels.Goals as goal

-- the invariant holds after another tunnel
pub loop-tunnel-preserved : goal.loop-tunnel-preserved
loop-tunnel-preserved g c =
    each_more c.args.tunnels.now _ _ _ _ _ _ c.loop-tunnel.invariant c.in_ok-write_tunnel.ensures (search rules)
