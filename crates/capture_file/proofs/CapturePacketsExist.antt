-- The laws of the packets of a file: any bytes consist of packets, and then an end.
use Rattle.std.proofs.lemmas.Bool.Decides.{nat_tests}
use Rattle.std.proofs.Common.{◌≡◌, ◌≢◌, ℕ, zero, suc, ◌-◌, ◌≤◌, ◌<◌, List, [], ◌∷◌, ◌++◌, map, Option, Some, None, arith, length, take, drop, refl, sym, ap, ◌∙◌, subst, append-nil, length-append, take-append-drop, ⊎_elim}
use Rattle.std.proofs.Math.ListN.{replicate}
use Rattle.std.proofs.lemmas.Bool.{cases_lt}
use Rattle.std.proofs.lemmas.List.{length-replicate, take_at}
use Rattle.std.specs.Prelude.{slice_range}
use Rattle.capture_file.proofs.PcapngLemmas.{Begins, begins_with}
use Rattle.capture_file.proofs.PcapngReadingLemmas.{last_by}
use Rattle.capture_file.proofs.ReadingLaws.{there_is_a_reading}
use Rattle.capture_file.proofs.SectionLaws.{there_is_taken}
use Rattle.capture_file.proofs.StepLaws.{reader_of}
use Rattle.capture_file.specs.BlockTexts.{noted}
use Rattle.capture_file.specs.CapturePackets.{EndsWith, ReadsOne, HasPackets, FilePacket, next_after, packet_in, record_packet}
use Rattle.capture_file.specs.Laws.{Exist}
use Rattle.capture_file.specs.Pcapng.{IsBlock, block_header, block_len, block_refusal}
use Rattle.capture_file.specs.PcapngReading.{IsLastBlock, ReadsNextBlock}
use Rattle.capture_file.specs.PcapngSteps.{PassesBlocks, ReadsBlockPacket, ReadsPacket, ReadsStep, next_by_refusal, next_by_taken, next_by_too_long, offset_after}
use Rattle.capture_file.specs.declared.pcapng.errors.BlockError.{BlockError}
use Rattle.capture_file.specs.declared.pcapng.block.BlockHeader.{BlockHeader}
use Rattle.capture_file.specs.declared.pcapng.read.NextBlock.TheVariants.{End, Refused, TooLong, Whole}
use Rattle.capture_file.specs.declared.reader.capture_reader.CaptureReader.{CaptureReader}
use Rattle.capture_file.specs.declared.reader.capture_reader.CaptureReader.TheVariants.{Classic, Pcapng}
use Rattle.capture_file.specs.declared.reader.next_packet.NextPacket.{NextPacket}
use Rattle.capture_file.specs.declared.reader.next_packet.NextPacket.TheVariants as packets
use Rattle.capture_file.specs.declared.reader.pcapng_reader.PcapngReader.{PcapngReader}

-- ---- the next block

-- a buffer of this length
abbrev pub blank : ℕ → List ℕ
blank len = replicate len 0

pub blank_len : (len : ℕ) → length (blank len) ≡ len
blank_len len = length-replicate len 0

-- a step can be made from these bytes; fewer bytes are left after the step
record Step (room : ℕ) (before : PcapngReader) (all : List ℕ) : Type 0 where
  after : PcapngReader
  rest : List ℕ
  buffer : List ℕ
  has_room : length buffer ≡ room
  next : Option NextPacket
  step : ReadsStep before (Some all) (Some rest) after buffer next
  fewer : length rest < length all

-- a step can be made over a block with room in the buffer
whole_step : (room : ℕ) (before : PcapngReader) (all block rest : List ℕ) → all ≡ block ++ rest → IsBlock before.section.byte_order block
    → length block ≤ room → Step room before all
whole_step room before all block rest whole is within =
    let header : BlockHeader = block_header before.section.byte_order block in
    let more : List ℕ = blank (room - length block) in
    let buffer : List ℕ = block ++ more in
    let has_room : length buffer ≡ room = omega (arith, length-append block more, blank_len (room - length block), within) in
    let (section, taken, takes) = there_is_taken before.section header (slice_range buffer 8 (header.total_len - 4)) in
    record {
      after = reader_of section (offset_after before.offset header)
          (noted (Whole header) buffer (next_by_taken before.offset taken) before.texts);
      rest = rest;
      buffer = buffer;
      has_room = has_room;
      next = next_by_taken before.offset taken;
      step = record {
        block = Whole header;
        reads = record {
          bytes = block;
          consumed = whole;
          is_next = (is, refl, omega (arith, is.begins, has_room, within), take_at block more header.total_len (sym is.begins));
          is_last = tt;
        };
        is_step = (refl, (taken, takes, refl));
        texts = refl;
      };
      fewer = omega (arith, ap length whole, length-append block rest, is.shortest);
    }

-- a step can be made over a block without room in the buffer
too_long_step : (room : ℕ) (before : PcapngReader) (all block rest : List ℕ) → all ≡ block ++ rest → IsBlock before.section.byte_order block
    → room < length block → Step room before all
too_long_step room before all block rest whole is above = record {
  after = reader_of before.section (offset_after before.offset (block_header before.section.byte_order block)) before.texts;
  rest = rest;
  buffer = blank room;
  has_room = blank_len room;
  next = next_by_too_long before.offset (block_header before.section.byte_order block);
  step = record {
    block = TooLong (block_header before.section.byte_order block);
    reads = record { bytes = block; consumed = whole; is_next = (is, refl, omega (arith, is.begins, blank_len room, above)); is_last = tt };
    is_step = (refl, refl, refl);
    texts = refl;
  };
  fewer = omega (arith, ap length whole, length-append block rest, is.shortest);
}

-- a step can be made over the block with which accepted bytes begin
next_step : (room : ℕ) (before : PcapngReader) (all : List ℕ) → block_refusal before.section.byte_order all ≡ None → Step room before all
next_step room before all none =
    let section = before.section.byte_order in
    let len : ℕ = block_len section all in
    let found : Begins section all = begins_with section all none in
    let parts : all ≡ take len all ++ drop len all = sym (take-append-drop len all) in
    ⊎_elim
    (λ above. too_long_step room before all (take len all) (drop len all) parts found.is_block above)
    (λ within. whole_step room before all (take len all) (drop len all) parts found.is_block within)
    (cases_lt room (length (take len all)))

-- ---- the end

-- a step that determines the next item is the first step
pub first_step : (before : PcapngReader) (left still_left : Option (List ℕ)) (after : PcapngReader) (buffer : List ℕ) (next : NextPacket)
    → ReadsStep before left still_left after buffer (Some next) → ReadsBlockPacket before left still_left after buffer next
first_step before left still_left after buffer next step =
    record { count = 0; reader = before; middle = left; passed = (refl, refl); step = step }

-- a step with a next item but without a packet ends the packets
pub step_ends : (room : ℕ) (before after : PcapngReader) (left still_left : Option (List ℕ)) (buffer : List ℕ) (next : NextPacket)
    → length buffer ≡ room → ReadsStep before left still_left after buffer (Some next) → packet_in buffer next ≡ None
    → EndsWith room (Pcapng before) left next
step_ends room before after left still_left buffer next has_room step none = record {
  still_left = still_left;
  after = Pcapng after;
  buffer = buffer;
  has_room = has_room;
  reads = (after, refl, first_step before left still_left after buffer next step);
  no_packet = none;
}

-- without bytes, the packets end
pub no_byte_ends : (room : ℕ) (before : PcapngReader) → EndsWith room (Pcapng before) (Some []) packets.End
no_byte_ends room before =
    step_ends room before before (Some []) (Some []) (blank room) packets.End (blank_len room)
    (record {
      block = End;
      reads = record { bytes = []; consumed = refl; is_next = refl; is_last = refl };
      is_step = (refl, refl);
      texts = refl;
    }) refl

-- with refused bytes, the packets end
pub refusal_ends : (room : ℕ) (before : PcapngReader) (all : List ℕ) (error : BlockError) → all ≢ []
    → block_refusal before.section.byte_order all ≡ Some error
    → EndsWith room (Pcapng before) (Some all) (next_by_refusal before.offset error)
refusal_ends room before all error some refused =
    let at_end : IsLastBlock (Refused error) (Some []) = last_by (Some []) error (λ required len is. refl) in
    let reads : ReadsNextBlock before.section.byte_order (Some all) (Some []) (blank room) (Refused error) =
    record { bytes = all; consumed = sym (append-nil all); is_next = (some, refused); is_last = at_end } in
    step_ends room before before (Some all) (Some []) (blank room) (next_by_refusal before.offset error) (blank_len room)
    (record { block = Refused error; reads = reads; is_step = (refl, refl); texts = refl }) (grind arith)

-- ---- a step before others

-- blocks without a next item, after another block without a next item
passes_first : (room count : ℕ) (before reader after : PcapngReader) (left middle still_left : Option (List ℕ)) (passed : List ℕ)
    → length passed ≡ room → ReadsStep before left middle reader passed None → PassesBlocks room count reader middle still_left after
    → PassesBlocks room (suc count) before left still_left after
passes_first room zero before reader after left middle still_left passed has_room step passes = grind (arith, nat_tests)
passes_first room (suc count) before reader after left middle still_left passed has_room step passes =
    let (last, last_left, buffer, last_room, others, last_step) = passes in (
      last,
      last_left,
      buffer,
      last_room,
      passes_first room count before reader last left middle last_left passed has_room step others,
      last_step,
    )

-- the blocks up to the next packet, after a block without a next item
step_before : (room : ℕ) (before reader : PcapngReader) (after : CaptureReader) (left middle still_left : Option (List ℕ))
    (passed buffer : List ℕ) (next : NextPacket) → length passed ≡ room → length buffer ≡ room
    → ReadsStep before left middle reader passed None → ReadsPacket (Pcapng reader) middle still_left after buffer next
    → ReadsPacket (Pcapng before) left still_left after buffer next
step_before room before reader after left middle still_left passed buffer next has_room is_room step reads =
    let (last, is, blocks) = reads in
    let passes = passes_first (length buffer) blocks.count before reader blocks.reader left middle blocks.middle passed
    (has_room ∙ sym is_room) step blocks.passed in
    (last, is, record { count = suc blocks.count; reader = blocks.reader; middle = blocks.middle; passed = passes; step = blocks.step })

-- the packets of these bytes exist
abbrev Have : ℕ → PcapngReader → List ℕ → Type 0
Have room reader all = (packets : List FilePacket) × (next : NextPacket) × HasPackets room (Pcapng reader) all packets next

-- if the packets end here, the list of packets is empty
have_none : (room : ℕ) (reader : PcapngReader) (all : List ℕ) (next : NextPacket) → EndsWith room (Pcapng reader) (Some all) next
    → Have room reader all
have_none room reader all next ends = ([], next, (Some all, Pcapng reader, (refl, refl), ends))

-- the packets of all bytes are the packets after a block without a next item
pub pass_on : (room : ℕ) (before after : PcapngReader) (all rest buffer : List ℕ) (packets : List FilePacket) (next : NextPacket)
    → length buffer ≡ room → ReadsStep before (Some all) (Some rest) after buffer None → HasPackets room (Pcapng after) rest packets next
    → HasPackets room (Pcapng before) all packets next
pass_on room before after all rest buffer [] next has_room step has =
    let (left, last, read, ends) = has in
    let here : EndsWith room (Pcapng after) (Some rest) next =
    subst (λ r. EndsWith room r (Some rest) next) read.0 (subst (λ l. EndsWith room last l next) read.1 ends) in
    let before_here : EndsWith room (Pcapng before) (Some all) next = record {
      still_left = here.still_left;
      after = here.after;
      buffer = here.buffer;
      has_room = here.has_room;
      reads = step_before room before after here.after (Some all) (Some rest) here.still_left buffer here.buffer next has_room here.has_room
          step here.reads;
      no_packet = here.no_packet;
    } in
    (Some all, Pcapng before, (refl, refl), before_here)
pass_on room before after all rest buffer (packet ∷ packets) next has_room step has =
    let (left, last, read, ends) = has in
    let (mid, middle, one, others) = read in
    let before_one : ReadsOne room (Pcapng before) (Some all) middle mid packet = record {
      buffer = one.buffer;
      has_room = one.has_room;
      next = one.next;
      reads = step_before room before after mid (Some all)
          (Some rest) middle buffer one.buffer one.next has_room one.has_room step one.reads;
      gives = one.gives;
    } in
    (left, last, (mid, middle, before_one, others), ends)

-- the packets of all bytes, given a block with a next item
have_by_packet : (given : Option FilePacket) (room : ℕ) (before after : PcapngReader) (all rest buffer : List ℕ) (next : NextPacket)
    → packet_in buffer next ≡ given → length buffer ≡ room → ReadsStep before (Some all) (Some rest) after buffer (Some next)
    → Have room after rest → Have room before all
have_by_packet None room before after all rest buffer next is has_room step have =
    have_none room before all next (step_ends room before after (Some all) (Some rest) buffer next has_room step is)
have_by_packet (Some packet) room before after all rest buffer next is has_room step have =
    let (packets, end, has) = have in
    let (left, last, read, ends) = has in
    let first : ReadsPacket (Pcapng before) (Some all) (Some rest) (Pcapng after) buffer next =
    (after, refl, first_step before (Some all) (Some rest) after buffer next step) in
    let one : ReadsOne room (Pcapng before) (Some all) (Some rest) (Pcapng after) packet =
    record { buffer = buffer; has_room = has_room; next = next; reads = first; gives = is } in
    (packet ∷ packets, end, (left, last, (Pcapng after, Some rest, one, read), ends))

-- the packets after a step, and the item of the step, are packets of all bytes
have_by_step : (next : Option NextPacket) (room : ℕ) (before after : PcapngReader) (all rest buffer : List ℕ) → length buffer ≡ room
    → ReadsStep before (Some all) (Some rest) after buffer next → Have room after rest → Have room before all
have_by_step None room before after all rest buffer has_room step have =
    let (packets, next, has) = have in
    (packets, next, pass_on room before after all rest buffer packets next has_room step has)
have_by_step (Some next) room before after all rest buffer has_room step have =
    have_by_packet (packet_in buffer next) room before after all rest buffer next refl has_room step have

-- ---- any bytes

-- the packets of all bytes exist if the packets after the first block exist
have_by_refusal : (refusal : Option BlockError) (room : ℕ) (before : PcapngReader) (all : List ℕ)
    → block_refusal before.section.byte_order all ≡ refusal
    → ((after : PcapngReader) (rest : List ℕ) → length rest < length all → Have room after rest) → Have room before all
have_by_refusal (Some error) room before [] is others = have_none room before [] packets.End (no_byte_ends room before)
have_by_refusal (Some error) room before (byte ∷ bytes) is others =
    have_none room before (byte ∷ bytes) (next_by_refusal before.offset error)
    (refusal_ends room before (byte ∷ bytes) error (λ none. cc none) is)
have_by_refusal None room before all is others =
    let step : Step room before all = next_step room before all is in
    have_by_step step.next room before step.after all step.rest step.buffer step.has_room step.step (others step.after step.rest step.fewer)

-- the packets of bytes exist if there are fewer bytes than this number
have_below : (most room : ℕ) (before : PcapngReader) (all : List ℕ) → length all < most → Have room before all
have_below zero room before all short = absurd (omega (arith, short))
have_below (suc most) room before all short =
    have_by_refusal (block_refusal before.section.byte_order all) room before all refl
    (λ after rest fewer. have_below most room after rest (omega (arith, short, fewer)))

pub there_are_packets : (room : ℕ) (reader : CaptureReader) (bytes : List ℕ) → Exist (HasPackets room reader bytes)
there_are_packets room (Classic reader) bytes =
    let order = reader.header.byte_order in
    let (records, rest, reading) = there_is_a_reading order bytes in
    (map (record_packet room reader.header) records, next_after order rest, (records, rest, reading, refl, refl))
there_are_packets room (Pcapng reader) bytes = have_below (suc (length bytes)) room reader bytes (omega arith)
