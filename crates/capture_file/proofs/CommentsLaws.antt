-- The comments that a reader keeps are the comments of the block that contains the last packet.
use Rattle.std.proofs.lemmas.Bool.Decides.{nat_tests}
use Rattle.std.proofs.Common.{◌≡◌, ◌∙◌, ℕ, List, Err, None, Ok, Option, Result, Some, ap, arith, inl, inr, refl, subst, sym}
use Rattle.std.specs.Prelude.{◌-◌, slice_range}
use Rattle.capture_numbers.specs.Blocks.{enhanced_packet_type, obsolete_packet_type, simple_packet_type}
use Rattle.capture_numbers.specs.declared.byte_order.ByteOrder.{ByteOrder}
use Rattle.capture_file.specs.BlockTexts.{noted, texts_with}
use Rattle.capture_file.specs.PacketTexts.{AreFromBlock, KeepsOwnComments, block_comments}
use Rattle.capture_file.specs.PcapngBody.{IsBody, body_refusal}
use Rattle.capture_file.specs.PcapngReading.{ReadsNextBlock}
use Rattle.capture_file.specs.PcapngSteps.{IsStep, next_by_taken}
use Rattle.capture_file.specs.Sections.{TakesBody, TakesUnless}
use Rattle.capture_file.specs.Texts.{kept_comments, texts_after}
use Rattle.capture_file.specs.declared.file_texts.FileTexts.{FileTexts}
use Rattle.capture_file.specs.declared.pcapng.block.BlockHeader.{BlockHeader}
use Rattle.capture_file.specs.declared.pcapng.block_body.BlockBody.{BlockBody}
use Rattle.capture_file.specs.declared.pcapng.block_body.BlockBody.TheVariants as bodies
use Rattle.capture_file.specs.declared.pcapng.errors.BlockError.{BlockError}
use Rattle.capture_file.specs.declared.pcapng.errors.BlockError.TheVariants as faults
use Rattle.capture_file.specs.declared.pcapng.errors.BodyError.{BodyError}
use Rattle.capture_file.specs.declared.pcapng.read.NextBlock.{NextBlock}
use Rattle.capture_file.specs.declared.pcapng.read.NextBlock.TheVariants.{End, Refused, TooLong, Whole}
use Rattle.capture_file.specs.declared.reader.captured_packet.CapturedPacket.{CapturedPacket}
use Rattle.capture_file.specs.declared.reader.next_packet.NextPacket.TheVariants as packets
use Rattle.capture_file.specs.declared.reader.packet_error.PacketError.{PacketError}
use Rattle.capture_file.specs.declared.reader.pcapng_reader.PcapngReader.{PcapngReader}

abbrev Given : Type 0
Given = Result (Option CapturedPacket) PacketError

-- the comments after a packet block of this type
after_type : (order : ByteOrder) (type number : ℕ) (body : List ℕ) (before : FileTexts)
    → (texts_after order number body before).packet_comments ≡ kept_comments (block_comments order number body) → type ≡ number
    → (texts_after order type body before).packet_comments ≡ kept_comments (block_comments order type body)
after_type order type number body before are is =
    subst (λ t. (texts_after order t body before).packet_comments ≡ kept_comments (block_comments order t body)) (sym is) are

module _ (before after : PcapngReader) (left still_left : Option (List ℕ)) (buffer : List ℕ) (packet : CapturedPacket) where
  abbrev Own : Type 0
  Own = AreFromBlock left still_left buffer packet after.texts.packet_comments

  abbrev body_in : BlockHeader → List ℕ
  body_in header = slice_range buffer 8 (header.total_len - 4)

  -- the comments of a packet block
  comments_after : (header : BlockHeader) (said : _) → IsBody header before.section.interfaces.items (body_in header) (bodies.Packet said)
      → (texts_with header (body_in header) before.texts).packet_comments
      ≡ kept_comments (block_comments header.byte_order header.block_type (body_in header))
  comments_after header said (inl enhanced) =
      after_type header.byte_order header.block_type enhanced_packet_type (body_in header) before.texts refl enhanced.0
  comments_after header said (inr (inl obsolete)) =
      after_type header.byte_order header.block_type obsolete_packet_type (body_in header) before.texts refl obsolete.0
  comments_after header said (inr (inr simple)) =
      after_type header.byte_order header.block_type simple_packet_type (body_in header) before.texts refl simple.0

  -- a block with an accepted body
  accepted : (header : BlockHeader) (said : BlockBody) → ReadsNextBlock before.section.byte_order left still_left buffer (Whole header)
      → IsBody header before.section.interfaces.items (body_in header) said
      → TakesBody before.section header said after.section (Ok (Some packet))
      → after.texts ≡ texts_with header (body_in header) before.texts → Own
  accepted header (bodies.SectionHeader said) reads is takes texts = absurd (cc takes.0)
  accepted header (bodies.InterfaceDescription said) reads is takes texts = absurd (cc takes.0)
  accepted header bodies.Other reads is takes texts = absurd (cc takes.0)
  accepted header (bodies.Packet said) reads is takes texts = record {
    order = before.section.byte_order;
    header = header;
    interfaces = before.section.interfaces.items;
    interface = takes.0;
    said = said;
    reads = reads;
    is_body = is;
    is_packet = cc takes.2;
    are = ap (λ t. t.packet_comments) texts ∙ comments_after header said is;
  }

  -- a block with any body
  taken : (header : BlockHeader) (refusal : Option BodyError) → ReadsNextBlock before.section.byte_order left still_left buffer (Whole header)
      → TakesUnless refusal before.section header (body_in header) after.section (Ok (Some packet))
      → after.texts ≡ texts_with header (body_in header) before.texts → Own
  taken header (Some error) reads takes texts = absurd (cc takes.0)
  taken header None reads takes texts = accepted header takes.0 reads takes.1 takes.2 texts

  -- a whole block
  whole : (header : BlockHeader) (given : Given) → ReadsNextBlock before.section.byte_order left still_left buffer (Whole header)
      → TakesUnless (body_refusal header before.section.interfaces.items (body_in header)) before.section header (body_in header)
      after.section given
      → Some (packets.Whole packet) ≡ next_by_taken before.offset given
      → after.texts ≡ texts_with header (body_in header) before.texts → Own
  whole header (Ok None) reads takes is texts = absurd (cc is)
  whole header (Err error) reads takes is texts = absurd (cc is)
  whole header (Ok (Some found)) reads takes is texts =
      let same : found ≡ packet = cc is in
      taken header (body_refusal header before.section.interfaces.items (body_in header)) reads
      (subst (λ p. TakesUnless (body_refusal header before.section.interfaces.items (body_in header)) before.section header
      (body_in header) after.section (Ok (Some p))) same takes) texts

  -- any block
  pub block_read : (block : NextBlock) → ReadsNextBlock before.section.byte_order left still_left buffer block
      → IsStep before buffer block after (Some (packets.Whole packet))
      → after.texts ≡ noted block buffer (Some (packets.Whole packet)) before.texts → Own
  block_read (Whole header) reads step texts = whole header step.1.0 reads step.1.1 step.1.2 texts
  block_read (TooLong header) reads step texts = absurd (grind (arith, nat_tests, step.2))
  block_read End reads step texts = absurd (cc step.1)
  block_read (Refused (faults.CutOff required len)) reads step texts = absurd (cc step.1)
  block_read (Refused error) reads step texts = absurd (grind (arith, step.1))

pub keeps_own_comments : KeepsOwnComments
keeps_own_comments before after left still_left buffer packet read = (
  read.middle,
  block_read read.reader after read.middle still_left buffer packet read.step.block read.step.reads read.step.is_step read.step.texts,
)
