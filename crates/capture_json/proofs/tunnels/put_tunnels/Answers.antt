use Rattle.std.specs.Prelude.{codes}
use Rattle.std.proofs.Common.{◌≡◌, ◌≤◌, ◌∙◌, ◌∷◌, [], List, ap, arith, length, map, refl, rules, sym}
use Rattle.capture_packet.specs.declared.tunnel.Tunnel.{Tunnel}
use Rattle.capture_json.specs.JsonPacket.{tunnel_data, tunnel_members}
use Rattle.capture_json.specs.Members.{array_of}
use Rattle.capture_json.specs.Tokens.{array_ended, tokens_in, with_items, with_members}
use Rattle.capture_json.proofs.TokensLemmas.{listed}
use Rattle.capture_json.proofs.tunnels.put_tunnels.Goals as goal

-- the member with the tunnels, if there are tunnels
some_tunnels : (tunnels : List Tunnel) → 1 ≤ length tunnels
    → tunnel_members tunnels ≡ (codes "tunnels", array_of (map tunnel_data tunnels)) ∷ []
some_tunnels [] some = absurd (omega (arith, some))
some_tunnels (tunnel ∷ tunnels) some = refl

pub returns : goal.returns
returns c =
    let tunnels = c.args.tunnels.now in
    let items = map tunnel_data tunnels in
    let before = tokens_in c.args.line.now in
    c.in_ok-end_array.ensures
    ∙ ap array_ended (c.in_ok-push_tunnels.ensures ∙ ap (with_items items) c.in_ok-begin_array.ensures)
    ∙ listed (codes "tunnels") items before
    ∙ sym (ap (λ members. with_members members before) (some_tunnels tunnels (search rules)))
