-- The packets of a pcapng file are the packets of the fold over its blocks.
use Rattle.std.proofs.lemmas.Bool.Decides.{nat_tests}
use Rattle.std.proofs.Common.{◌≡◌, ◌≢◌, ℕ, ◌-◌, ◌<◌, ◌≤◌, nat_lt, Bool, true, false, if◌then◌else◌, List, [], ◌∷◌, ◌++◌, Option, Some, None, Ok, Err, Result, arith, length, take, refl, sym, ap, ◌∙◌, subst, append_assoc, length-append, ⊎_elim}
use Rattle.std.proofs.lemmas.Bool.{cases_lt}
use Rattle.std.proofs.lemmas.List.{take_at}
use Rattle.std.specs.List.{concat}
use Rattle.std.specs.Prelude.{slice_range}
use Rattle.net_base.specs.Bytes.{IsBytes}
use Rattle.net_base.specs.Refusals.{refused_if}
use Rattle.capture_file.proofs.CapturePacketsExist.{blank, blank_len, first_step, no_byte_ends, pass_on, refusal_ends, step_ends}
use Rattle.capture_file.proofs.CapturePacketsLaws.{there_is_one_list}
use Rattle.capture_file.proofs.PacketsOfBlocksLemmas.{IsTaken, both_orders, bytes_after, bytes_front, is_taken, number_below, part_of_body, same_order, section_accepted, section_clears, section_number, section_result}
use Rattle.capture_file.proofs.PcapngLaws.{there_is_a_reading, there_is_one_reading}
use Rattle.capture_file.proofs.SectionLaws.{Given, same_section, section_of, there_is_taken}
use Rattle.capture_file.proofs.StepLaws.{in_front, reader_of}
use Rattle.capture_file.specs.BlockTexts.{texts_with, unless_refused}
use Rattle.capture_file.specs.CapturePackets.{FilePacket, HasPackets, ReadsOne, packet_in, too_long}
use Rattle.capture_file.specs.Opening.{BeginsFile, BeginsUnless, IsFirstBlock}
use Rattle.capture_file.specs.Packets.{long_block}
use Rattle.capture_file.specs.PacketsOfBlocks.{Contents, FilesHavePacketsOfBlocks, ReadPacketsOfBlocks, before_others, block_result, body_of, interfaces_after, item_after, long_result, packets_of_blocks, result_by, whole_result}
use Rattle.capture_file.specs.Pcapng.{AreBlocks, IsBlock, IsBlockReading, block_header, block_refusal, is_section_header, order_after, order_of}
use Rattle.capture_file.specs.PcapngBodies.{section_header_refusal}
use Rattle.capture_file.specs.PcapngBody.{body_refusal}
use Rattle.capture_numbers.specs.Blocks.{section_header_type}
use Rattle.capture_file.specs.PcapngReading.{ReadsNextBlock}
use Rattle.capture_file.specs.PcapngSteps.{ReadsPacket, ReadsStep, is_description, is_packet, next_by_taken, next_by_too_long, offset_after, refused_at}
use Rattle.capture_numbers.specs.declared.byte_order.ByteOrder.{ByteOrder}
use Rattle.capture_numbers.specs.declared.byte_order.ByteOrder.TheVariants.{BigEndian}
use Rattle.capture_file.specs.declared.pcapng.block.BlockHeader.{BlockHeader}
use Rattle.capture_file.specs.declared.pcapng.errors.BlockError.{BlockError}
use Rattle.capture_file.specs.declared.pcapng.errors.BodyError.{BodyError}
use Rattle.capture_file.specs.declared.pcapng.interface_description.InterfaceDescription.{InterfaceDescription}
use Rattle.capture_file.specs.declared.pcapng.read.NextBlock.{NextBlock}
use Rattle.capture_file.specs.declared.pcapng.read.NextBlock.TheVariants.{End, Refused, TooLong, Whole}
use Rattle.capture_file.specs.declared.reader.capture_reader.CaptureReader.TheVariants.{Pcapng}
use Rattle.capture_file.specs.declared.reader.next_packet.NextPacket.{NextPacket}
use Rattle.capture_file.specs.declared.reader.next_packet.NextPacket.TheVariants as packets
use Rattle.capture_file.specs.declared.reader.packet_error.PacketError.{PacketError}
use Rattle.capture_file.specs.declared.reader.packet_error.PacketError.TheVariants as errors
use Rattle.capture_file.specs.declared.reader.pcapng_reader.PcapngReader.{PcapngReader}
use Rattle.capture_file.specs.declared.reader.pcapng_reader.Section.{Section}
use Rattle.capture_file.specs.declared.file_texts.FileTexts.{FileTexts}

-- ---- one block

-- the reader after a block as the fold states it, with these texts
abbrev reader_with : PcapngReader → List ℕ → FileTexts → PcapngReader
reader_with before block texts =
    let header = block_header before.section.byte_order block in
    let interfaces = interfaces_after header before.section.interfaces.items (body_of block) in
    reader_of (section_of header.byte_order interfaces) (offset_after before.offset header) texts

-- the texts after a block for which the buffer has room
abbrev whole_texts : PcapngReader → List ℕ → FileTexts
whole_texts before block = texts_with (block_header before.section.byte_order block) (body_of block) before.texts

-- the texts after a block
abbrev texts_of : ℕ → PcapngReader → List ℕ → FileTexts
texts_of room before block = if nat_lt room (length block) then before.texts else whole_texts before block

-- the reader after a block as the fold states it
abbrev reader_after : ℕ → PcapngReader → List ℕ → PcapngReader
reader_after room before block = reader_with before block (texts_of room before block)

-- the item of a block is this result of the fold; unless the result is an error, the reader after the block is as expected
abbrev IsResult : ℕ → List ℕ → Option NextPacket → PcapngReader → PcapngReader → Result (Option FilePacket) PacketError → Type 0
IsResult offset buffer next after expected (Err error) = next ≡ Some (refused_at offset error)
IsResult offset buffer next after expected (Ok None) = (next ≡ None) × (after ≡ expected)
IsResult offset buffer next after expected (Ok (Some packet)) =
    (item : NextPacket) × (next ≡ Some item) × (packet_in buffer item ≡ Some packet) × (after ≡ expected)

-- a block is read, with this result
record BlockStep (room : ℕ) (before : PcapngReader) (all rest : List ℕ) (expected : PcapngReader)
    (result : Result (Option FilePacket) PacketError) : Type 0 where
  after : PcapngReader
  buffer : List ℕ
  has_room : length buffer ≡ room
  next : Option NextPacket
  step : ReadsStep before (Some all) (Some rest) after buffer next
  is_result : IsResult before.offset buffer next after expected result

-- the result of a block that the reader takes
taken_result : (result : Result (Option FilePacket) PacketError) (offset place : ℕ) (header : BlockHeader)
    (interfaces : List InterfaceDescription) (body buffer : List ℕ) (given : Given) (section : Section) (old new : FileTexts)
    → IsTaken header interfaces body buffer given section result
    → IsResult offset buffer (next_by_taken offset given)
    (reader_of section place (unless_refused (next_by_taken offset given) old new))
    (reader_of (section_of header.byte_order (interfaces_after header interfaces body)) place new) result
taken_result (Err error) offset place header interfaces body buffer given section old new is = ap (next_by_taken offset) is
taken_result (Ok None) offset place header interfaces body buffer given section old new is = (
  ap (next_by_taken offset) is.0,
  ap (λ g. reader_of section place (unless_refused (next_by_taken offset g) old new)) is.0
      ∙ ap (λ s. reader_of s place new)
      (same_section section (section_of header.byte_order (interfaces_after header interfaces body)) is.1.0 is.1.1),
)
taken_result (Ok (Some packet)) offset place header interfaces body buffer given section old new is = (
  packets.Whole is.0,
  ap (next_by_taken offset) is.1,
  is.2,
  ap (λ g. reader_of section place (unless_refused (next_by_taken offset g) old new)) is.1
      ∙ ap (λ s. reader_of s place new)
      (same_section section (section_of header.byte_order (interfaces_after header interfaces body)) is.3.0 is.3.1),
)

-- the body of a block that is in front of the buffer
body_in_front : (block buffer : List ℕ) (len : ℕ) → len ≡ length block → take len buffer ≡ block
    → slice_range buffer 8 (len - 4) ≡ body_of block
body_in_front block buffer len is front =
    in_front len 8 (len - 4) buffer (omega arith) ∙ ap (λ bytes. slice_range bytes 8 (len - 4)) front
    ∙ ap (λ n. slice_range block 8 (n - 4)) is

-- a block with room in the buffer is read with the result of the fold
whole_step : (room : ℕ) (before : PcapngReader) (block rest : List ℕ) → IsBlock before.section.byte_order block → IsBytes block
    → length block ≤ room
    → BlockStep room before (block ++ rest) rest (reader_with before block (whole_texts before block))
    (whole_result (block_header before.section.byte_order block) before.section.interfaces.items (body_of block))
whole_step room before block rest is fits within =
    let header : BlockHeader = block_header before.section.byte_order block in
    let items : List InterfaceDescription = before.section.interfaces.items in
    let more : List ℕ = blank (room - length block) in
    let buffer : List ℕ = block ++ more in
    let has_room : length buffer ≡ room = omega (arith, length-append block more, blank_len (room - length block), within) in
    let front : take header.total_len buffer ≡ block = take_at block more header.total_len (sym is.begins) in
    let body : List ℕ = slice_range buffer 8 (header.total_len - 4) in
    let is_body : body ≡ body_of block = body_in_front block buffer header.total_len is.begins front in
    let (section, taken, takes) = there_is_taken before.section header body in
    let taken_is : IsTaken header items body buffer taken section (whole_result header items body) =
    is_taken before.section header body buffer (same_order before.section.byte_order block fits)
    (part_of_body buffer 8 (header.total_len - 4)) section taken takes in
    let taken_so : IsTaken header items (body_of block) buffer taken section (whole_result header items (body_of block)) =
    subst (λ bytes. IsTaken header items bytes buffer taken section (whole_result header items bytes)) is_body taken_is in
    record {
      after = reader_of section (offset_after before.offset header)
          (unless_refused (next_by_taken before.offset taken) before.texts (whole_texts before block));
      buffer = buffer;
      has_room = has_room;
      next = next_by_taken before.offset taken;
      step = record {
        block = Whole header;
        reads = record {
          bytes = block;
          consumed = refl;
          is_next = (is, refl, omega (arith, is.begins, has_room, within), front);
          is_last = tt;
        };
        is_step = (refl, (taken, takes, refl));
        texts = sym (ap (λ b. unless_refused (next_by_taken before.offset taken) before.texts (texts_with header b before.texts)) is_body);
      };
      is_result = taken_result (whole_result header items (body_of block)) before.offset (offset_after before.offset header) header items
          (body_of block) buffer taken section before.texts (whole_texts before block) taken_so;
    }

-- the result of a block without room in the buffer, given the type of the block
long_by : (description packet : Bool) (header : BlockHeader) (offset : ℕ) (buffer : List ℕ) (after expected : PcapngReader)
    → (description ≡ false → after ≡ expected)
    → IsResult offset buffer
    (if description then Some (refused_at offset (errors.TooLong header.block_type header.total_len))
    else if packet then Some (packets.TooLong (long_block header)) else None)
    after expected
    (result_by (refused_if description (errors.TooLong header.block_type header.total_len))
    (if packet then Some (too_long (long_block header)) else None))
long_by true packet header offset buffer after expected same = refl
long_by false true header offset buffer after expected same = (packets.TooLong (long_block header), refl, refl, same refl)
long_by false false header offset buffer after expected same = (refl, same refl)

-- a block that is no section header and no interface description leaves the section unchanged
unchanged : (before : PcapngReader) (block : List ℕ) → IsBytes block
    → is_description (block_header before.section.byte_order block).block_type ≡ false
    → reader_of before.section (offset_after before.offset (block_header before.section.byte_order block)) before.texts
    ≡ reader_with before block before.texts
unchanged before block fits other =
    let header : BlockHeader = block_header before.section.byte_order block in
    let items : List InterfaceDescription = before.section.interfaces.items in
    let no_section : header.block_type ≢ section_header_type = λ section. grind (arith, nat_tests) in
    let none_added : items ≡ interfaces_after header items (body_of block) = grind (arith, nat_tests) in
    let order : before.section.byte_order ≡ header.byte_order = sym (same_order before.section.byte_order block fits no_section) in
    ap (λ s. reader_of s (offset_after before.offset header) before.texts)
    (same_section before.section (section_of header.byte_order (interfaces_after header items (body_of block))) order none_added)

too_long_step : (room : ℕ) (before : PcapngReader) (block rest : List ℕ) → IsBlock before.section.byte_order block → IsBytes block
    → room < length block
    → BlockStep room before (block ++ rest) rest (reader_with before block before.texts)
    (long_result (block_header before.section.byte_order block))
too_long_step room before block rest is fits above =
    let header : BlockHeader = block_header before.section.byte_order block in
    let after : PcapngReader = reader_of before.section (offset_after before.offset header) before.texts in
    record {
      after = after;
      buffer = blank room;
      has_room = blank_len room;
      next = next_by_too_long before.offset header;
      step = record {
        block = TooLong header;
        reads = record {
          bytes = block;
          consumed = refl;
          is_next = (is, refl, omega (arith, is.begins, blank_len room, above));
          is_last = tt;
        };
        is_step = (refl, refl, refl);
        texts = refl;
      };
      is_result = long_by (is_description header.block_type) (is_packet header.block_type) header before.offset (blank room) after
          (reader_with before block before.texts) (unchanged before block fits);
    }

-- a block is read with the result of the fold
block_step : (room : ℕ) (before : PcapngReader) (block rest : List ℕ) → IsBlock before.section.byte_order block → IsBytes block
    → BlockStep room before (block ++ rest) rest (reader_after room before block)
    (block_result room (block_header before.section.byte_order block) before.section.interfaces.items (body_of block))
block_step room before block rest is fits =
    let header : BlockHeader = block_header before.section.byte_order block in
    let items : List InterfaceDescription = before.section.interfaces.items in
    ⊎_elim
    (λ above.
    let long : block_result room header items (body_of block) ≡ long_result header = grind (arith, nat_tests, above, is.begins) in
    let texts : texts_of room before block ≡ before.texts = grind (arith, nat_tests, above) in
    subst (BlockStep room before (block ++ rest) rest (reader_after room before block)) (sym long)
    (subst (λ t. BlockStep room before (block ++ rest) rest (reader_with before block t) (long_result header)) (sym texts)
    (too_long_step room before block rest is fits above)))
    (λ within.
    let whole : block_result room header items (body_of block) ≡ whole_result header items (body_of block) =
    grind (arith, nat_tests, within, is.begins) in
    let texts : texts_of room before block ≡ whole_texts before block = grind (arith, nat_tests, within) in
    subst (BlockStep room before (block ++ rest) rest (reader_after room before block)) (sym whole)
    (subst (λ t. BlockStep room before (block ++ rest) rest (reader_with before block t) (whole_result header items (body_of block)))
    (sym texts) (whole_step room before block rest is fits within)))
    (cases_lt room (length block))

-- ---- all blocks

-- the contents of a file, given its first block and the contents after it
has_block : (result : Result (Option FilePacket) PacketError) (room : ℕ) (before expected : PcapngReader) (all rest : List ℕ)
    (others : Contents) → BlockStep room before all rest expected result
    → HasPackets room (Pcapng expected) rest others.0 others.1
    → HasPackets room (Pcapng before) all (before_others before.offset result others).0 (before_others before.offset result others).1
has_block (Err error) room before expected all rest others block has =
    let step = subst (ReadsStep before (Some all) (Some rest) block.after block.buffer) block.is_result block.step in (
      Some all,
      Pcapng before,
      (refl, refl),
      step_ends room before block.after (Some all) (Some rest) block.buffer (refused_at before.offset error) block.has_room step refl,
    )
has_block (Ok None) room before expected all rest others block has =
    let step = subst (ReadsStep before (Some all) (Some rest) block.after block.buffer) block.is_result.0 block.step in
    pass_on room before block.after all rest block.buffer others.0 others.1 block.has_room step
    (subst (λ reader. HasPackets room (Pcapng reader) rest others.0 others.1) (sym block.is_result.1) has)
has_block (Ok (Some packet)) room before expected all rest others block has =
    let (item, is_item, is_packet, is_after) = block.is_result in
    let step = subst (ReadsStep before (Some all) (Some rest) block.after block.buffer) is_item block.step in
    let (left, last, read, ends) = subst (λ reader. HasPackets room (Pcapng reader) rest others.0 others.1) (sym is_after) has in
    let first : ReadsPacket (Pcapng before) (Some all) (Some rest) (Pcapng block.after) block.buffer item =
    (block.after, refl, first_step before (Some all) (Some rest) block.after block.buffer item step) in
    let one : ReadsOne room (Pcapng before) (Some all) (Some rest) (Pcapng block.after) packet =
    record { buffer = block.buffer; has_room = block.has_room; next = item; reads = first; gives = is_packet } in
    (left, last, (Pcapng block.after, Some rest, one, read), ends)

-- the contents of a rest that is refused as a block
rest_has : (refusal : Option BlockError) (rest : List ℕ) (room : ℕ) (reader : PcapngReader) → refusal ≢ None
    → block_refusal reader.section.byte_order rest ≡ refusal
    → HasPackets room (Pcapng reader) rest [] (item_after reader.offset rest refusal)
rest_has None rest room reader refused is = absurd (refused refl)
rest_has (Some error) [] room reader refused is = (Some [], Pcapng reader, (refl, refl), no_byte_ends room reader)
rest_has (Some error) (byte ∷ bytes) room reader refused is =
    (Some (byte ∷ bytes), Pcapng reader, (refl, refl), refusal_ends room reader (byte ∷ bytes) error (λ none. cc none) is)

-- the contents of a file as the fold states them
abbrev contents : ℕ → PcapngReader → List (List ℕ) → List ℕ → Contents
contents room reader blocks rest =
    packets_of_blocks room reader.section.byte_order reader.section.interfaces.items reader.offset blocks rest

blocks_have : (blocks : List (List ℕ)) (rest : List ℕ) (room : ℕ) (reader : PcapngReader) → AreBlocks reader.section.byte_order blocks
    → block_refusal (order_after reader.section.byte_order blocks) rest ≢ None → IsBytes (concat blocks ++ rest)
    → HasPackets room (Pcapng reader) (concat blocks ++ rest) (contents room reader blocks rest).0 (contents room reader blocks rest).1
blocks_have [] rest room reader each refused fits =
    rest_has (block_refusal reader.section.byte_order rest) rest room reader refused refl
blocks_have (block ∷ blocks) rest room reader each refused fits =
    let header : BlockHeader = block_header reader.section.byte_order block in
    let items : List InterfaceDescription = reader.section.interfaces.items in
    let result : Result (Option FilePacket) PacketError = block_result room header items (body_of block) in
    let after : PcapngReader = reader_after room reader block in
    let more : List ℕ = concat blocks ++ rest in
    let whole : (block ++ concat blocks) ++ rest ≡ block ++ more = append_assoc block (concat blocks) rest in
    let all_fit : IsBytes (block ++ more) = subst IsBytes whole fits in
    let others = blocks_have blocks rest room after each.1 refused (bytes_after block more all_fit) in
    let have = has_block result room reader after (block ++ more) more (contents room after blocks rest)
    (block_step room reader block more each.0 (bytes_front block more all_fit)) others in
    let found : Contents = contents room reader (block ∷ blocks) rest in
    subst (λ bytes. HasPackets room (Pcapng reader) bytes found.0 found.1) (sym whole) have

pub packets_are : (room : ℕ) → ReadPacketsOfBlocks room
packets_are room reader bytes blocks rest packets next fits reading has =
    let found : Contents = contents room reader blocks rest in
    let have : HasPackets room (Pcapng reader) bytes found.0 found.1 =
    subst (λ l. HasPackets room (Pcapng reader) l found.0 found.1) (sym reading.whole)
    (blocks_have blocks rest room reader reading.each reading.refused (subst IsBytes reading.whole fits)) in
    let (same, same_next) = there_is_one_list room (Pcapng reader) bytes packets found.0 next found.1 has have in
    ap (λ p. (p, next)) same ∙ ap (λ n. (found.0, n)) same_next

-- ---- a whole file

-- the first block of a file, which is an accepted section header block, and the reader after it
pub record FirstBlock (room : ℕ) (reader : PcapngReader) (file bytes : List ℕ) : Type 0 where
  pub block : List ℕ
  pub whole : file ≡ block ++ bytes
  pub is_block : IsBlock BigEndian block
  pub is_section : is_section_header block ≡ true
  pub within : (block_header BigEndian block).total_len ≤ room
  pub accepted : section_header_refusal (order_of BigEndian block) (body_of block) ≡ None
  pub begins : BeginsFile (block_header BigEndian block) (body_of block) reader

first_begins : (refusal : Option BodyError) (header : BlockHeader) (body : List ℕ) (reader : PcapngReader)
    → BeginsUnless refusal header body (Ok reader) → (refusal ≡ None) × BeginsFile header body reader
first_begins (Some error) header body reader begins = absurd (cc begins)
first_begins None header body reader begins =
    let same : begins.0 ≡ reader = cc begins.1 in
    (refl, subst (BeginsFile header body) same begins.2)

pub first_block : (room : ℕ) (reader : PcapngReader) (file bytes buffer : List ℕ) (block : NextBlock) → length buffer ≡ room
    → (reads : ReadsNextBlock BigEndian (Some file) (Some bytes) buffer block) → is_section_header reads.bytes ≡ true
    → IsFirstBlock buffer block (Ok reader) → FirstBlock room reader file bytes
first_block room reader file bytes buffer (Whole header) has_room reads section is_first =
    let (is, is_header, within, front) = reads.is_next in
    let len : header.total_len ≡ length reads.bytes = ap (λ h. h.total_len) is_header ∙ is.begins in
    let (accepted, begins) = first_begins _ header (slice_range buffer 8 (header.total_len - 4)) reader is_first in
    let is_body = body_in_front reads.bytes buffer header.total_len len front in
    record {
      block = reads.bytes;
      whole = reads.consumed;
      is_block = is;
      is_section = section;
      within = omega (arith, within, has_room, ap (λ h. h.total_len) is_header);
      accepted = cc (accepted, ap (section_header_refusal header.byte_order) is_body, is_header);
      begins = subst (λ h. BeginsFile h (body_of reads.bytes) reader) is_header (subst (λ b. BeginsFile header b reader) is_body begins);
    }
first_block room reader file bytes buffer (TooLong header) has_room reads section is_first = absurd (cc is_first)
first_block room reader file bytes buffer End has_room reads section is_first = absurd (cc is_first)
first_block room reader file bytes buffer (Refused error) has_room reads section is_first = absurd (cc is_first)

-- the first block contains no packet, and the reader after it is the reader of the fold
after_first : (room : ℕ) (reader : PcapngReader) (file bytes : List ℕ) (blocks : List (List ℕ)) (rest : List ℕ) → IsBytes file
    → (first : FirstBlock room reader file bytes)
    → packets_of_blocks room BigEndian [] 0 (first.block ∷ blocks) rest ≡ contents room reader blocks rest
after_first room reader file bytes blocks rest fits first =
    let block : List ℕ = first.block in
    let header : BlockHeader = block_header BigEndian block in
    let body : List ℕ = body_of block in
    let block_fits : IsBytes block = bytes_front block bytes (subst IsBytes first.whole fits) in
    let type : header.block_type ≡ section_header_type =
    both_orders block (order_of BigEndian block) block_fits (section_number block first.is_section) in
    let accepted : body_refusal header [] body ≡ None = section_accepted header [] body type first.accepted in
    let whole : block_result room header [] body ≡ whole_result header [] body = grind (arith, nat_tests, first.within) in
    let nothing : block_result room header [] body ≡ Ok None = whole ∙ section_result header [] body type accepted in
    let none_left : interfaces_after header [] body ≡ [] = section_clears header [] body type in
    let place : offset_after 0 header ≡ header.total_len = omega (arith, number_below (order_of BigEndian block) block block_fits) in
    let others = λ (order : ByteOrder) (items : List InterfaceDescription) (offset : ℕ).
    packets_of_blocks room order items offset blocks rest in
    ap (λ result. before_others 0 result (others header.byte_order (interfaces_after header [] body) (offset_after 0 header))) nothing
    ∙ ap (λ order. others order (interfaces_after header [] body) (offset_after 0 header)) (sym first.begins.byte_order)
    ∙ ap (λ items. others reader.section.byte_order items (offset_after 0 header)) (none_left ∙ sym first.begins.interfaces)
    ∙ ap (others reader.section.byte_order reader.section.interfaces.items) (place ∙ sym first.begins.offset)

pub packets_of_file : (room : ℕ) → FilesHavePacketsOfBlocks room
packets_of_file room reader file bytes blocks rest packets next fits reading begins has =
    let (buffer, has_room, opens) = begins in
    let first : FirstBlock room reader file bytes =
    first_block room reader file bytes buffer opens.block has_room opens.reads opens.begins opens.is_first in
    let (others, last, further) = there_is_a_reading reader.section.byte_order bytes in
    let all : IsBlockReading BigEndian file (first.block ∷ others) last = record {
      whole = first.whole ∙ ap (λ l. first.block ++ l) further.whole ∙ sym (append_assoc first.block (concat others) last);
      each = (first.is_block, subst (λ order. AreBlocks order others) first.begins.byte_order further.each);
      refused = subst (λ order. block_refusal (order_after order others) last ≢ None) first.begins.byte_order further.refused;
    } in
    let (same, same_rest) = there_is_one_reading BigEndian file blocks (first.block ∷ others) rest last reading all in
    packets_are room reader bytes others last packets next (bytes_after first.block bytes (subst IsBytes first.whole fits)) further has
    ∙ sym (after_first room reader file bytes others last fits first)
    ∙ sym (ap (λ b. packets_of_blocks room BigEndian [] 0 b last) same)
    ∙ sym (ap (packets_of_blocks room BigEndian [] 0 blocks) same_rest)
