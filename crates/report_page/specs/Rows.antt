-- The row of a packet: what the page keeps of it as numbers.
use Rattle.std.specs.Prelude.{◌≡◌, ℕ, List, [], ◌∷◌, ◌++◌, replicate, Option, Some, None}
use Rattle.std.specs.Net.Socket.{socket_port}
use Rattle.ip_part.specs.Addresses.{Addresses, Ipv4, Ipv6, by_value}
use Rattle.capture_packet.specs.declared.content.Content.{Content}
use Rattle.capture_packet.specs.declared.content.Content.TheVariants as contents
use Rattle.capture_packet.specs.declared.packet.Packet.{Packet}
use Rattle.capture_packet.specs.declared.tunnel.Tunnel.{Tunnel}
use Rattle.capture_summary.specs.Events.{event_of}
use Rattle.capture_summary.specs.FlowOf.{IsFlowOf}
use Rattle.capture_summary.specs.Kinds.{verdict_kind, verdict_place}
use Rattle.capture_summary.specs.Protocols.{content_protocol, protocol_place}
use Rattle.capture_summary.specs.declared.capture_info.CaptureInfo.{CaptureInfo}
use Rattle.capture_summary.specs.declared.flow.Flow.{Flow}
use Rattle.report_page.specs.Events.{event_in, no_event}
use Rattle.report_page.specs.Times.{page_time, unknown}
use Rattle.report_page.specs.declared.event.PageEvent.{PageEvent}
use Rattle.report_page.specs.declared.row.PageRow.{PageRow}

-- a row before anything is known about the packet
abbrev pub empty_row : PageRow
empty_row = record {
  end = 0;
  time = unknown;
  event = no_event;
  verdict = 0;
  protocol = 0;
  version = 0;
  has_destination = 0;
  has_flow = 0;
  source_port = 0;
  destination_port = 0;
  source = replicate 16 0;
  destination = replicate 16 0;
  in_tunnel = 0;
}

-- an IPv4 address in 16 bytes
abbrev pub ipv4_address : List ℕ → List ℕ
ipv4_address address = address ++ replicate 12 0

-- a row with these addresses
abbrev pub with_addresses : PageRow → Addresses → PageRow
with_addresses row (Ipv4 source destination) =
    record row { version = 4; has_destination = 1; source = ipv4_address source; destination = ipv4_address destination }
with_addresses row (Ipv6 source (Some destination)) =
    record row { version = 6; has_destination = 1; source = source; destination = destination }
with_addresses row (Ipv6 source None) = record row { version = 6; source = source }

-- a row with the addresses of a packet, if it has addresses
abbrev pub with_ends : PageRow → Content → PageRow
with_ends row contents.Unread = row
with_ends row (contents.IpHeader addresses) = with_addresses row (by_value addresses)
with_ends row (contents.NotIp protocol) = row
with_ends row (contents.Ip addresses protocol proto transport payload_len) = with_addresses row (by_value addresses)

-- a row with the ports of a flow, if there is a flow
abbrev pub with_ports : PageRow → Option Flow → PageRow
with_ports row None = row
with_ports row (Some flow) =
    record row { has_flow = 1; source_port = socket_port flow.source; destination_port = socket_port flow.destination }

-- `after` is the row `before` with the ports of the packet with this content, if the packet belongs to a flow
abbrev pub AddsFlow : PageRow → Content → PageRow → Type 0
AddsFlow before content after = (flow : Option Flow) × IsFlowOf content flow × (after ≡ with_ports before flow)

-- 1 if there are tunnels around a packet, and 0 if there are none
abbrev pub in_tunnel : List Tunnel → ℕ
in_tunnel [] = 0
in_tunnel (tunnel ∷ tunnels) = 1

-- a row before the addresses and ports of the packet are added
abbrev pub counted_row : ℕ → CaptureInfo → Packet → PageEvent → PageRow
counted_row end info packet event = record empty_row {
  end = end;
  time = page_time info.time;
  event = event;
  verdict = verdict_place (verdict_kind packet.verdict);
  protocol = protocol_place (content_protocol packet.content);
  in_tunnel = in_tunnel packet.tunnels.items;
}

-- This is the row of a packet. Its record or block ends at `end`, and `info` is what the capture states about it. The numbers of the event
-- state the packet as the timeline of the summary counts it.
pub record IsRowOf (end : ℕ) (info : CaptureInfo) (packet : Packet) (row : PageRow) : Type 0 where
  pub event : PageEvent
  pub is_event : event_in event ≡ event_of (content_protocol packet.content) (verdict_kind packet.verdict) info
  pub is_row : AddsFlow (with_ends (counted_row end info packet event) packet.content) packet.content row
