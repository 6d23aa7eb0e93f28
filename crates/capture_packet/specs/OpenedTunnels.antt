-- A tunnel that was found, as a value.
use Rattle.capture_packet.specs.Tunnels.{Opened, by_value}
use Rattle.capture_packet.specs.declared.tunnel.OpenedTunnel.{OpenedTunnel}

-- the value of a tunnel; where its addresses and its bytes are stored does not matter
abbrev pub tunnel_by_value : OpenedTunnel → Opened
tunnel_by_value opened = record {
  outer = by_value opened.tunnel;
  link_type = opened.link_type;
  bytes = opened.bytes.now;
  is_cut = opened.is_cut;
}
