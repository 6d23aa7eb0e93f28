use Rattle.std.proofs.Common.{◌≡◌, ◌<◌, ◌+◌, ◌∙◌, ℕ, List, ap, get_or, length, map, rules, sym, take}
use Rattle.std.proofs.lemmas.List.{map_more}
use Rattle.capture_packet.specs.declared.tunnel.Tunnel.{Tunnel}
use Rattle.json.specs.Token.{Token}
use Rattle.capture_json.specs.JsonPacket.{tunnel_data}
use Rattle.capture_json.specs.Tokens.{push, with_items}
use Rattle.capture_json.proofs.JsonLemmas.{one_more_item}
use Rattle.capture_json.proofs.tunnels.push_tunnels.Goals as goal

-- the tunnels after another tunnel is written
one_more : (tunnels : List Tunnel) (i : ℕ) (d : Tunnel) (before between after : List Token) → i < length tunnels
    → between ≡ with_items (map tunnel_data (take i tunnels)) before → after ≡ push (tunnel_data (get_or tunnels i d)) between
    → after ≡ with_items (map tunnel_data (take (i + 1) tunnels)) before
one_more tunnels i d before between after below is_first is_second =
    one_more_item (map tunnel_data (take i tunnels)) (tunnel_data (get_or tunnels i d)) before between after is_first is_second
    ∙ sym (ap (λ items. with_items items before) (map_more tunnel_data tunnels i d below))

pub loop-tunnel-preserved : goal.loop-tunnel-preserved
loop-tunnel-preserved c =
    one_more c.args.tunnels.now c.loop-tunnel.tunnel-index _ _ _ _ (search rules) c.loop-tunnel.invariant c.in_ok-push_tunnel.ensures
