-- A captured packet outside a tunnel.
use Rattle.std.specs.Prelude.{[], None}
use Rattle.capture_packet.specs.declared.content.Content.{Content}
use Rattle.capture_packet.specs.declared.packet.Packet.{Packet}
use Rattle.capture_packet.specs.declared.verdict.Verdict.{Verdict}

-- a packet with this content and this verdict, without tunnels and without a hop limit, which is neither a fragment nor an ARP packet
abbrev pub in_no_tunnel : Content → Verdict → Packet
in_no_tunnel content verdict = record {
  tunnels = record { items = [] };
  content = content;
  verdict = verdict;
  hop_limit = None;
  fragment = None;
  arp = None;
}
