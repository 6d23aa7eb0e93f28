use Rattle.std.proofs.Common.{◌∙◌, ap, refl}
use Rattle.capture_packet.specs.Packets.{in_no_tunnel}
use Rattle.capture_packet.specs.declared.content.Content.TheVariants.{Unread}
use Rattle.capture_packet.proofs.FrameLemmas.{header_cut_off, other_read}
use Rattle.capture_packet.proofs.read.ip_packet_in.Goals as goal

-- a frame with an IP packet
pub returns-in-Ok-Ip-clause-found : goal.returns-in-Ok-Ip-clause-found
returns-in-Ok-Ip-clause-found c = record {
  found = c.in-Ok-Ip.found;
  after_header = rw c.in-Ok-Ip.field-0-is at c.in-Ok-Ip.ensures.found;
  bytes = refl;
  are_cut = c.are_bytes_cut.ensures;
}

-- a frame of another protocol
pub returns-in-Ok-Other-clause-other : goal.returns-in-Ok-Other-clause-other
returns-in-Ok-Other-clause-other c =
    other_read c.args.link_type c.args.order c.args.frame.now c.args.is_cut c.in-Ok-Other.protocol c.in-Ok-Other.found c.other_packet.result
    (rw c.in-Ok-Other.field-0-is at c.in-Ok-Other.ensures.found) c.other_packet.ensures

-- a frame that ends within its link header
pub returns-in-Err-clause-other : goal.returns-in-Err-clause-other
returns-in-Err-clause-other c =
    header_cut_off c.args.link_type c.args.order c.args.frame.now c.args.is_cut c.in-Err.error c.in_no_tunnel.result
    c.in-Err.ensures.refused
    c.in-Err.ensures.len (c.in_no_tunnel.ensures ∙ ap (in_no_tunnel Unread) c.link_verdict.ensures)
