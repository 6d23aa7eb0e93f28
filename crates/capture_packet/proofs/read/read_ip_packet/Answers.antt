use Rattle.std.proofs.Common.{◌≡◌, ◌<◌, ◌-◌, ◌∙◌, length, map, ap, arith, None, Some, refl, sym}
use Rattle.ip_part.specs.Ip.{lax_refusal}
use Rattle.capture_packet.specs.OpenedTunnels.{tunnel_by_value}
use Rattle.capture_packet.specs.Tunnels.{by_value, max_tunnels, opened}
use Rattle.capture_packet.proofs.FrameLemmas.{ip_packet_read, without_ip}
use Rattle.capture_packet.proofs.TunnelLemmas.{continues, opened_is, refused_is_closed, stops}
use Rattle.capture_packet.proofs.read.read_ip_packet.Goals as goal

-- a packet with refused headers
pub returns-in-Err : goal.returns-in-Err
returns-in-Err c =
    let refused : lax_refusal c.loop-found.rest.bytes.now ≡ Some c.in-Err.error = c.in-Err.ensures.refused in
    c.loop-found.invariant.1 c.unread.result
    (stops _ c.args.udp_tunnels c.args.order _ c.loop-found.rest.is_cut c.loop-found.rest.bytes.now c.unread.result
    (λ left. refused_is_closed c.args.udp_tunnels c.loop-found.rest.is_cut c.loop-found.rest.bytes.now c.in-Err.error refused) (
      ap (λ tunnels. map by_value tunnels.items) c.unread.ensures.tunnels,
      (c.unread.ensures.hop_limit, c.unread.ensures.arp, rw refused (rw c.is_cut_off.ensures at c.unread.ensures.is)),
    ))

-- a packet with a transport, which contains no other packet, or is in as many tunnels as are read
pub returns-in_default : goal.returns-in_default
returns-in_default c =
    let rest = c.loop-found.rest in
    let accepted : lax_refusal rest.bytes.now ≡ None = c.in-Ok.ensures.refused in
    let closed : 0 < max_tunnels - length c.loop-found.tunnels.items → opened c.args.udp_tunnels rest.is_cut rest.bytes.now ≡ None =
    λ left. opened_is c.args.udp_tunnels rest.is_cut rest.bytes.now c.in-Ok.found accepted c.in-Ok.ensures.found c.in-Ok.ensures.stated
    ∙ sym (rw c.in_default.is at (c.next_tunnel.ensures.room (omega arith))) in
    c.loop-found.invariant.1 c.carried.result
    (stops _ c.args.udp_tunnels c.args.order _ rest.is_cut rest.bytes.now c.carried.result closed (
      ap (λ tunnels. map by_value tunnels.items) c.carried.ensures.tunnels,
      (
        c.carried.ensures.hop_limit,
        c.carried.ensures.arp,
        rw accepted (record {
          found = c.in-Ok.found;
          carries = c.in-Ok.ensures.found;
          stated = c.in-Ok.ensures.stated;
          after = c.in-Ok.ensures.parts;
          is_in = c.carried.ensures.is;
        }),
      ),
    ))

-- a tunnel that contains no IP packet
pub returns-in-Err-ip_packet_in : goal.returns-in-Err-ip_packet_in
returns-in-Err-ip_packet_in c =
    let before = c.loop-found.tunnels.items in
    let rest = c.loop-found.rest in
    let opened = c.in-Some.opened in
    let not_full : length before ≡ max_tunnels → ⊥ = λ full. cc (c.next_tunnel.ensures.full full, c.in-Some.is) in
    let room : length before < max_tunnels = omega (arith, not_full) in
    let accepted : lax_refusal rest.bytes.now ≡ None = c.in-Ok.ensures.refused in
    c.loop-found.invariant.1 c.within.result
    (continues c.args.udp_tunnels c.args.order before _ opened.tunnel rest.is_cut rest.bytes.now
    (tunnel_by_value opened) c.within.result room
    c.push.ensures.items refl
    (opened_is c.args.udp_tunnels rest.is_cut rest.bytes.now c.in-Ok.found accepted c.in-Ok.ensures.found c.in-Ok.ensures.stated
    ∙ sym (rw c.in-Some.is at (c.next_tunnel.ensures.room room)))
    (without_ip _ _ opened.link_type c.args.order opened.bytes.now opened.is_cut c.in-Err-ip_packet_in.other c.within.result
    c.in-Err-ip_packet_in.ensures.other (ap (λ packet. map by_value packet.tunnels.items) c.within.ensures) (rw c.within.ensures refl)))

-- a packet that contains another packet
pub loop-found-preserved : goal.loop-found-preserved
loop-found-preserved c =
    let before = c.loop-found.tunnels.items in
    let rest = c.loop-found.rest in
    let opened = c.in-Some.opened in
    let not_full : length before ≡ max_tunnels → ⊥ = λ full. cc (c.next_tunnel.ensures.full full, c.in-Some.is) in
    let room : length before < max_tunnels = omega (arith, not_full) in
    let accepted : lax_refusal rest.bytes.now ≡ None = c.in-Ok.ensures.refused in (
      omega (arith, c.push.ensures.len),
      λ read reads. c.loop-found.invariant.1 read
          (continues c.args.udp_tunnels c.args.order before _ opened.tunnel rest.is_cut rest.bytes.now (tunnel_by_value opened) read room
          c.push.ensures.items refl
          (opened_is c.args.udp_tunnels rest.is_cut rest.bytes.now c.in-Ok.found accepted c.in-Ok.ensures.found c.in-Ok.ensures.stated
          ∙ sym (rw c.in-Some.is at (c.next_tunnel.ensures.room room)))
          (ip_packet_read _ _ opened.link_type c.args.order opened.bytes.now opened.is_cut c.in-Ok-ip_packet_in.inner read
          c.in-Ok-ip_packet_in.ensures.found reads)),
    )
