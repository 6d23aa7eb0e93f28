-- The packet in a frame.
use Rattle.std.proofs.Common.{◌≡◌, ◌∙◌, ℕ, Bool, List, [], length, map, ap, inl, inr, refl, subst, sym}
use Rattle.capture_numbers.specs.declared.byte_order.ByteOrder.{ByteOrder}
use Rattle.capture_numbers.specs.declared.link_type.LinkType.{LinkType}
use Rattle.capture_packet.specs.Link.{HasLinkHeader, IsFoundAfter, NeedsLinkHeader}
use Rattle.capture_packet.specs.declared.link.Frame.{Frame}
use Rattle.capture_packet.specs.declared.link.Frame.TheVariants.{Ip, Other}
use Rattle.capture_packet.specs.declared.link.LinkHeaderCutOff.{LinkHeaderCutOff}
use Rattle.capture_packet.specs.declared.link.NetworkBytes.{NetworkBytes}
use Rattle.capture_packet.specs.declared.network_protocol.NetworkProtocol.{NetworkProtocol}
use Rattle.capture_packet.specs.Frames.{IsInFrame, IsReadFrom, IsWithin, IsWithoutIp, link_verdict, other_packet}
use Rattle.capture_packet.specs.IpFrames.{HasIpPacket}
use Rattle.capture_packet.specs.Packets.{in_no_tunnel}
use Rattle.capture_packet.specs.Tunnels.{Outer, by_value}
use Rattle.capture_packet.specs.declared.content.Content.TheVariants.{Unread}
use Rattle.capture_packet.specs.declared.packet.Packet.{Packet}
use Rattle.capture_packet.specs.declared.read.IpBytes.{IpBytes}

-- the packet in the bytes of an IP packet is the packet in the frame
pub ip_packet_read : (ReadsIp : Bool → List ℕ → Packet → Type 0) (outers : List Outer) (link_type : LinkType) (order : ByteOrder)
    (frame : List ℕ)
    (is_cut : Bool) (ip : IpBytes) (packet : Packet) → HasIpPacket link_type order frame is_cut ip → ReadsIp ip.is_cut ip.bytes.now packet
    → IsReadFrom ReadsIp outers link_type order frame is_cut packet
ip_packet_read ReadsIp outers link_type order frame is_cut ip packet has reads = inl (record {
  found = Ip has.found;
  after_header = has.after_header;
  is_in = subst (λ cut. ReadsIp cut has.found.bytes.now packet) has.are_cut
      (subst (λ bytes. ReadsIp ip.is_cut bytes packet) has.bytes reads);
})

-- a packet in no tunnel is within no tunnels
in_none : (protocol : NetworkProtocol) (bytes : List ℕ) (packet : Packet) → packet ≡ other_packet protocol bytes
    → IsWithin [] (other_packet protocol bytes) packet
in_none protocol bytes packet is = subst (λ each. IsWithin [] (other_packet protocol bytes) each) (sym is) (refl, refl)

-- a frame of another protocol
pub other_read : (link_type : LinkType) (order : ByteOrder) (frame : List ℕ) (is_cut : Bool) (protocol : NetworkProtocol)
    (found : NetworkBytes)
    (packet : Packet) → IsFoundAfter (HasLinkHeader link_type order frame) frame (Other protocol found)
    → packet ≡ other_packet protocol found.bytes.now → IsWithoutIp link_type order frame is_cut packet
other_read link_type order frame is_cut protocol found packet after is =
    inl (record { found = Other protocol found; after_header = after; is_in = in_none protocol found.bytes.now packet is })

-- a frame that ends within its link header
pub header_cut_off : (link_type : LinkType) (order : ByteOrder) (frame : List ℕ) (is_cut : Bool) (error : LinkHeaderCutOff)
    (packet : Packet)
    → NeedsLinkHeader link_type order frame error.required_len → error.len ≡ length frame
    → packet ≡ in_no_tunnel Unread (link_verdict is_cut error) → IsWithoutIp link_type order frame is_cut packet
header_cut_off link_type order frame is_cut error packet needs len is = inr (record {
  error = error;
  needs = needs;
  len = len;
  is = subst (λ each. IsWithin [] (in_no_tunnel Unread (link_verdict is_cut error)) each) (sym is) (refl, refl);
})

-- a packet in no tunnel, within tunnels
moved : (outers : List Outer) (alone other packet : Packet) → IsWithin [] alone other → map by_value packet.tunnels.items ≡ outers
    → packet ≡ record other { tunnels = packet.tunnels } → IsWithin outers alone packet
moved outers alone other packet within tunnels is =
    let put : Packet → Packet = λ each. record each { tunnels = packet.tunnels } in (tunnels, is ∙ ap put within.1)

-- the packet in a frame without an IP packet, within tunnels
moved_in : (ReadsIp : Bool → List ℕ → Packet → Type 0) (outers : List Outer) (is_cut : Bool) (found : Frame) (other packet : Packet)
    → IsInFrame (λ is_bytes_cut bytes each. ⊥) [] is_cut found other → map by_value packet.tunnels.items ≡ outers
    → packet ≡ record other { tunnels = packet.tunnels } → IsInFrame ReadsIp outers is_cut found packet
moved_in ReadsIp outers is_cut (Ip found) other packet none tunnels is = absurd none
moved_in ReadsIp outers is_cut (Other protocol found) other packet within tunnels is =
    moved outers (other_packet protocol found.bytes.now) other packet within tunnels is

-- what is read from a frame without an IP packet, in tunnels
pub without_ip : (ReadsIp : Bool → List ℕ → Packet → Type 0) (outers : List Outer) (link_type : LinkType) (order : ByteOrder)
    (frame : List ℕ)
    (is_cut : Bool) (other packet : Packet) → IsWithoutIp link_type order frame is_cut other → map by_value packet.tunnels.items ≡ outers
    → packet ≡ record other { tunnels = packet.tunnels } → IsReadFrom ReadsIp outers link_type order frame is_cut packet
without_ip ReadsIp outers link_type order frame is_cut other packet (inl after) tunnels is = inl (record {
  found = after.found;
  after_header = after.after_header;
  is_in = moved_in ReadsIp outers is_cut after.found other packet after.is_in tunnels is;
})
without_ip ReadsIp outers link_type order frame is_cut other packet (inr cut) tunnels is = inr (record {
  error = cut.error;
  needs = cut.needs;
  len = cut.len;
  is = moved outers (in_no_tunnel Unread (link_verdict is_cut cut.error)) other packet cut.is tunnels is;
})
