-- The texts of a packet: its interface and its comments (draft-ietf-opsawg-pcapng, sections 3.5, 4.2 and 4.3).
use Rattle.std.specs.Prelude.{◌≡◌, ℕ, ◌-◌, ◌==◌, if◌then◌else◌, List, [], slice_range, Option, None}
use Rattle.capture_numbers.specs.Blocks.{body_at, simple_packet_type, trailer_len}
use Rattle.capture_numbers.specs.declared.byte_order.ByteOrder.{ByteOrder}
use Rattle.capture_file.specs.Interfaces.{interface_of}
use Rattle.capture_file.specs.Packets.{packet_of_block}
use Rattle.capture_file.specs.PcapngBody.{IsBody}
use Rattle.capture_file.specs.PcapngReading.{ReadsNextBlock}
use Rattle.capture_file.specs.PcapngSteps.{ReadsBlockPacket}
use Rattle.capture_file.specs.Texts.{comments_in, kept_comments, no_comments, packet_options}
use Rattle.capture_file.specs.declared.packet_comments.PacketComments.{PacketComments}
use Rattle.capture_file.specs.declared.pcapng.block.BlockHeader.{BlockHeader}
use Rattle.capture_file.specs.declared.pcapng.block_body.BlockBody.TheVariants as bodies
use Rattle.capture_file.specs.declared.pcapng.block_body.PacketBlock.{PacketBlock}
use Rattle.capture_file.specs.declared.pcapng.interface_description.InterfaceDescription.{InterfaceDescription}
use Rattle.capture_file.specs.declared.pcapng.read.NextBlock.TheVariants.{Whole}
use Rattle.capture_file.specs.declared.reader.capture_reader.CaptureReader.{CaptureReader}
use Rattle.capture_file.specs.declared.reader.capture_reader.CaptureReader.TheVariants.{Classic, Pcapng}
use Rattle.capture_file.specs.declared.reader.captured_packet.CapturedPacket.{CapturedPacket}
use Rattle.capture_file.specs.declared.reader.next_packet.NextPacket.TheVariants as packets
use Rattle.capture_file.specs.declared.reader.packet_texts.PacketTexts.{PacketTexts}
use Rattle.capture_file.specs.declared.reader.pcapng_reader.PcapngReader.{PcapngReader}

-- the comments of the packet that was read last; a packet of a classic capture has no comment
abbrev pub comments_of : CaptureReader → PacketComments
comments_of (Classic reader) = no_comments
comments_of (Pcapng reader) = reader.texts.packet_comments

-- the texts of the packet that was read last, given the number of its interface
abbrev pub texts_of : CaptureReader → Option ℕ → PacketTexts
texts_of reader number = record { interface = interface_of reader number; comments = comments_of reader }

-- the texts of a packet that has no texts
abbrev pub no_packet_texts : PacketTexts
no_packet_texts = record { interface = None; comments = no_comments }

-- ---- the law

-- the comments in a packet block with this type and body; a simple packet block has no options (section 4.4)
abbrev pub block_comments : ByteOrder → ℕ → List ℕ → List (List ℕ)
block_comments order type body = if type == simple_packet_type then [] else comments_in order (packet_options order body)

-- The last block that was read is at the front of the buffer. It contains the packet, and these are its comments.
pub record AreFromBlock (left still_left : Option (List ℕ)) (buffer : List ℕ) (packet : CapturedPacket)
    (comments : PacketComments) : Type 0 where
  pub order : ByteOrder
  pub header : BlockHeader
  pub interfaces : List InterfaceDescription
  pub interface : InterfaceDescription
  pub said : PacketBlock
  pub reads : ReadsNextBlock order left still_left buffer (Whole header)
  pub is_body : IsBody header interfaces (slice_range buffer body_at (header.total_len - trailer_len)) (bodies.Packet said)
  pub is_packet : packet ≡ packet_of_block header interface said
  pub are : comments ≡ kept_comments
      (block_comments header.byte_order header.block_type (slice_range buffer body_at (header.total_len - trailer_len)))

-- After each packet of a pcapng file the reader keeps the comments of exactly the block that contains the packet.
abbrev pub KeepsOwnComments : Type 0
KeepsOwnComments = (before after : PcapngReader) (left still_left : Option (List ℕ)) (buffer : List ℕ) (packet : CapturedPacket)
    → ReadsBlockPacket before left still_left after buffer (packets.Whole packet)
    → (middle : Option (List ℕ)) × AreFromBlock middle still_left buffer packet after.texts.packet_comments
