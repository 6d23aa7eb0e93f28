-- The IP packet in a frame.
use Rattle.std.specs.Prelude.{◌≡◌, ℕ, Bool, List}
use Rattle.capture_numbers.specs.declared.byte_order.ByteOrder.{ByteOrder}
use Rattle.capture_numbers.specs.declared.link_type.LinkType.{LinkType}
use Rattle.capture_packet.specs.Link.{HasLinkHeader, IsFoundAfter}
use Rattle.capture_packet.specs.declared.link.Frame.TheVariants.{Ip}
use Rattle.capture_packet.specs.declared.link.NetworkBytes.{NetworkBytes}
use Rattle.capture_packet.specs.Frames.{are_bytes_cut}
use Rattle.capture_packet.specs.declared.read.IpBytes.{IpBytes}

-- the frame contains an IP packet at the front of these bytes; `is_cut` states whether only the first bytes of the frame are present
pub record HasIpPacket (link_type : LinkType) (order : ByteOrder) (frame : List ℕ) (is_cut : Bool) (packet : IpBytes) : Type 0 where
  pub found : NetworkBytes
  pub after_header : IsFoundAfter (HasLinkHeader link_type order frame) frame (Ip found)
  pub bytes : packet.bytes.now ≡ found.bytes.now
  pub are_cut : packet.is_cut ≡ are_bytes_cut is_cut found.is_end_stated
