-- The offset of a reader is its place in the file.
use Rattle.std.proofs.lemmas.Bool.Decides.{nat_tests}
use Rattle.std.proofs.Common.{◌≡◌, ℕ, zero, suc, ◌+◌, ◌-◌, ◌^◌, ◌≤◌, ◌<◌, List, [], ◌∷◌, ◌++◌, Option, Some, None, arith, length, take, drop, refl, sym, ap, ◌∙◌, subst, length-append, length-drop}
use Rattle.std.proofs.lemmas.List.{drop-drop, drop_at, length-take}
use Rattle.std.specs.Io.KnownBytes.{Consumes}
use Rattle.std.specs.Prelude.{min}
use Rattle.capture_file.proofs.PacketsOfBlocksLaws.{FirstBlock, first_block}
use Rattle.capture_file.proofs.StepLaws.{GoesOn, said_by, said_of, said_refused}
use Rattle.capture_file.specs.CapturePackets.{Begins, FilePacket, ReadsOne, ReadsPackets, offset_of, packet_in}
use Rattle.capture_file.specs.Classic.{header_refusal}
use Rattle.capture_file.specs.Packets.{next_by_record, offset_by_record}
use Rattle.capture_file.specs.PcapngReading.{ReadsNextBlock}
use Rattle.capture_file.specs.PcapngSteps.{IsStep, PassesBlocks, ReadsStep}
use Rattle.capture_file.specs.Places.{IsPlace, OffsetsArePlaces}
use Rattle.capture_file.specs.Reading.{ReadsNext}
use Rattle.capture_file.specs.declared.pcapng.read.NextBlock.{NextBlock}
use Rattle.capture_file.specs.declared.pcapng.read.NextBlock.TheVariants.{End, Refused, TooLong, Whole}
use Rattle.capture_file.specs.declared.classic.capture_header.CaptureHeader.{CaptureHeader}
use Rattle.capture_file.specs.declared.classic.read.NextRecord.{NextRecord}
use Rattle.capture_file.specs.declared.classic.read.NextRecord.TheVariants as records
use Rattle.capture_file.specs.declared.reader.capture_reader.CaptureReader.{CaptureReader}
use Rattle.capture_file.specs.declared.reader.capture_reader.CaptureReader.TheVariants.{Classic, Pcapng}
use Rattle.capture_file.specs.declared.reader.next_packet.NextPacket.{NextPacket}
use Rattle.capture_file.specs.declared.reader.pcapng_reader.PcapngReader.{PcapngReader}

-- the place of a reader after these bytes were read
place_after : (file : List ℕ) (place after : ℕ) (left still_left : Option (List ℕ)) (bytes : List ℕ) → length file < 2 ^ 64
    → IsPlace file place left → Consumes left still_left bytes → after ≡ min (place + length bytes) (2 ^ 64 - 1)
    → IsPlace file after still_left
place_after file place after None still_left bytes short at consumed is = absurd (cc at.1)
place_after file place after (Some all) None bytes short at consumed is = absurd consumed
place_after file place after (Some all) (Some rest) bytes short at consumed is =
    let dropped : drop place file ≡ bytes ++ rest = cc (at.1, consumed) in
    let counts : length file - place ≡ length bytes + length rest =
    sym (length-drop place file) ∙ ap length dropped ∙ length-append bytes rest in
    let place_is : after ≡ place + length bytes = omega (arith, is, short, counts, at.0) in
    let rest_is : drop (place + length bytes) file ≡ rest =
    sym (drop-drop (length bytes) place file) ∙ ap (drop (length bytes)) dropped ∙ drop_at bytes rest (length bytes) refl in
    (omega (arith, place_is, counts, at.0), ap Some (sym rest_is ∙ ap (λ n. drop n file) (sym place_is)))

-- ---- a pcapng file

-- the place of a reader after a block was read
block_after : (file : List ℕ) (before after : PcapngReader) (left still_left : Option (List ℕ)) (buffer : List ℕ) (next : Option NextPacket)
    (block : NextBlock) → length file < 2 ^ 64 → IsPlace file before.offset left
    → ReadsNextBlock before.section.byte_order left still_left buffer block → IsStep before buffer block after next
    → GoesOn (said_of buffer next) → IsPlace file after.offset still_left
block_after file before after left still_left buffer next (Whole header) short at reads step goes =
    let len : header.total_len ≡ length reads.bytes = ap (λ h. h.total_len) reads.is_next.1 ∙ reads.is_next.0.begins in
    place_after file before.offset after.offset left still_left reads.bytes short at reads.consumed
    (step.0 ∙ ap (λ n. min (before.offset + n) (2 ^ 64 - 1)) len)
block_after file before after left still_left buffer next (TooLong header) short at reads step goes =
    let len : header.total_len ≡ length reads.bytes = ap (λ h. h.total_len) reads.is_next.1 ∙ reads.is_next.0.begins in
    place_after file before.offset after.offset left still_left reads.bytes short at reads.consumed
    (step.0 ∙ ap (λ n. min (before.offset + n) (2 ^ 64 - 1)) len)
block_after file before after left still_left buffer next End short at reads step goes =
    absurd (subst (λ n. GoesOn (said_of buffer n)) step.1 goes)
block_after file before after left still_left buffer next (Refused error) short at reads step goes =
    absurd (subst GoesOn (said_refused before.offset buffer error) (subst (λ n. GoesOn (said_of buffer n)) step.1 goes))

step_after : (file : List ℕ) (before after : PcapngReader) (left still_left : Option (List ℕ)) (buffer : List ℕ) (next : Option NextPacket)
    → length file < 2 ^ 64 → IsPlace file before.offset left → ReadsStep before left still_left after buffer next
    → GoesOn (said_of buffer next) → IsPlace file after.offset still_left
step_after file before after left still_left buffer next short at step goes =
    block_after file before after left still_left buffer next step.block short at step.reads step.is_step goes

-- the place of a reader after blocks were skipped
blocks_after : (file : List ℕ) (room count : ℕ) (before after : PcapngReader) (left still_left : Option (List ℕ)) → length file < 2 ^ 64
    → IsPlace file before.offset left → PassesBlocks room count before left still_left after → IsPlace file after.offset still_left
blocks_after file room zero before after left still_left short at passes =
    subst (λ reader. IsPlace file reader.offset still_left) (sym passes.0) (subst (IsPlace file before.offset) (sym passes.1) at)
blocks_after file room (suc count) before after left still_left short at passes =
    let (reader, middle, buffer, has_room, others, step) = passes in
    step_after file reader after middle still_left buffer None short
    (blocks_after file room count before reader left middle short at others) step tt

-- ---- packets

-- the place of a reader after a record with a packet was read
record_after : (file : List ℕ) (capture : CaptureHeader) (place after : ℕ) (left still_left : Option (List ℕ)) (buffer : List ℕ)
    (next : NextRecord) (packet : FilePacket) → length file < 2 ^ 64 → IsPlace file place left
    → ReadsNext capture.byte_order left still_left buffer next → packet_in buffer (next_by_record capture next) ≡ Some packet
    → after ≡ offset_by_record place next → IsPlace file after still_left
record_after file capture place after left still_left buffer (records.Whole header) packet short at reads gives is =
    let len : 16 + header.captured_len ≡ length reads.bytes = ap (λ h. 16 + h.captured_len) reads.is_next.1 ∙ sym reads.is_next.0 in
    place_after file place after left still_left reads.bytes short at reads.consumed (is ∙ ap (λ n. min (place + n) (2 ^ 64 - 1)) len)
record_after file capture place after left still_left buffer (records.TooLong header) packet short at reads gives is =
    let len : 16 + header.captured_len ≡ length reads.bytes = ap (λ h. 16 + h.captured_len) reads.is_next.1 ∙ sym reads.is_next.0 in
    place_after file place after left still_left reads.bytes short at reads.consumed (is ∙ ap (λ n. min (place + n) (2 ^ 64 - 1)) len)
record_after file capture place after left still_left buffer records.End packet short at reads gives is = absurd (cc gives)
record_after file capture place after left still_left buffer (records.CutOff required len) packet short at reads gives is =
    absurd (cc gives)

-- the place of a reader after a packet was read
packet_after : (file : List ℕ) (room : ℕ) (before after : CaptureReader) (left still_left : Option (List ℕ)) (packet : FilePacket)
    → length file < 2 ^ 64 → IsPlace file (offset_of before) left → ReadsOne room before left still_left after packet
    → IsPlace file (offset_of after) still_left
packet_after file room (Classic before) after left still_left packet short at one =
    let (reader, is, by_record) = one.reads in
    subst (λ r. IsPlace file (offset_of r) still_left) (sym is)
    (record_after file before.header before.offset reader.offset left still_left one.buffer by_record.next_record packet short at
    by_record.reads (subst (λ n. packet_in one.buffer n ≡ Some packet) by_record.is one.gives) by_record.offset)
packet_after file room (Pcapng before) after left still_left packet short at one =
    let (reader, is, blocks) = one.reads in
    let passed = blocks_after file (length one.buffer) blocks.count before blocks.reader left blocks.middle short at blocks.passed in
    subst (λ r. IsPlace file (offset_of r) still_left) (sym is)
    (step_after file blocks.reader reader blocks.middle still_left one.buffer (Some one.next) short passed blocks.step
    (subst (λ found. GoesOn (said_by found one.next)) (sym one.gives) tt))

packets_after : (file : List ℕ) (room : ℕ) (before after : CaptureReader) (left still_left : Option (List ℕ)) (packets : List FilePacket)
    → length file < 2 ^ 64 → IsPlace file (offset_of before) left → ReadsPackets room before left still_left after packets
    → IsPlace file (offset_of after) still_left
packets_after file room before after left still_left [] short at read =
    subst (λ reader. IsPlace file (offset_of reader) still_left) (sym read.0) (subst (IsPlace file (offset_of before)) (sym read.1) at)
packets_after file room before after left still_left (packet ∷ packets) short at read =
    let (reader, middle, one, others) = read in
    packets_after file room reader after middle still_left packets short
    (packet_after file room before reader left middle packet short at one) others

-- ---- the beginning of a file

-- an accepted header has 24 bytes
header_len : (bytes : List ℕ) → header_refusal bytes ≡ None → 24 ≤ length bytes
header_len bytes accepted = grind (arith, nat_tests)

begins_at : (file : List ℕ) (room : ℕ) (reader : CaptureReader) (rest : List ℕ) → Begins room reader file rest
    → IsPlace file (offset_of reader) (Some rest)
begins_at file room (Classic reader) rest begins =
    let place : reader.offset ≡ 24 = ap (λ r. r.offset) begins.1 in
    let long : 24 ≤ length (take 24 file) = header_len (take 24 file) begins.0.accepted in
    (omega (arith, place, long, length-take 24 file), ap Some (begins.2 ∙ ap (λ n. drop n file) (sym place)))
begins_at file room (Pcapng reader) rest begins =
    let (buffer, has_room, opens) = begins in
    let first : FirstBlock room reader file rest =
    first_block room reader file rest buffer opens.block has_room opens.reads opens.begins opens.is_first in
    let place : reader.offset ≡ length first.block = first.begins.offset ∙ first.is_block.begins in
    let rest_is : drop (length first.block) file ≡ rest =
    ap (drop (length first.block)) first.whole ∙ drop_at first.block rest (length first.block) refl in (
      omega (arith, place, ap length first.whole, length-append first.block rest),
      ap Some (sym rest_is ∙ ap (λ n. drop n file) (sym place)),
    )

pub offsets_are_places : (room : ℕ) (file : List ℕ) → length file < 2 ^ 64 → OffsetsArePlaces room file
offsets_are_places room file short = record {
  begins = begins_at file room;
  packets = λ reader after left still_left packets at read. packets_after file room reader after left still_left packets short at read;
  blocks = λ reader after left still_left count at passes. blocks_after file room count reader after left still_left short at passes;
}
