use Rattle.std.proofs.Common.{◌∙◌, ◌++◌, ◌∷◌, [], ap, sym}
use Rattle.ip_part.specs.Addresses.{by_value}
use Rattle.json.specs.Token as token
use Rattle.capture_packet.specs.NetworkKinds.{proto_around}
use Rattle.capture_json.specs.JsonPacket.{address_members, ip_protocol_members, virtual_network_members}
use Rattle.capture_json.specs.Tokens.{object_ended, tokens_in, with_members}
use Rattle.capture_json.proofs.TokensLemmas.{pushed, with_append}
use Rattle.capture_json.proofs.tunnels.push_tunnel.Goals as goal

-- the object of the outer packet
pub returns : goal.returns
returns c =
    let tunnel = c.args.tunnel.now in
    let addresses = address_members (by_value tunnel.addresses) in
    let protocol = ip_protocol_members tunnel.protocol.0 (proto_around tunnel.network) in
    let network = virtual_network_members tunnel.network in
    let before = tokens_in c.args.line.now in
    let begun = before ++ token.begin_object ∷ [] in
    c.in_ok-end_object.ensures
    ∙ ap object_ended
    (c.in_ok-put_network.ensures
    ∙ ap (with_members network) (c.in_ok-put_ip_protocol.ensures
    ∙ ap (with_members (ip_protocol_members tunnel.protocol.0 c.proto.result))
    (c.in_ok-put_addresses.ensures ∙ ap (with_members addresses) c.in_ok-begin_item.ensures)
    ∙ ap (λ proto. with_members (ip_protocol_members tunnel.protocol.0 proto) (with_members addresses begun)) c.proto.ensures)
    ∙ sym (with_append protocol network (with_members addresses begun))
    ∙ sym (with_append addresses (protocol ++ network) begun))
    ∙ pushed (addresses ++ (protocol ++ network)) before
