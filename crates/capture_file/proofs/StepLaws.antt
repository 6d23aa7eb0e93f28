-- The laws of one block of a pcapng file that is read packet by packet: it determines the next item, and the item is the same in the file
-- and in the beginning of the file.
use Rattle.std.proofs.lemmas.Bool.Decides.{nat_tests}
use Rattle.std.proofs.Common.{◌≡◌, ◌⊎◌, ℕ, ◌+◌, ◌-◌, ◌≤◌, ◌<◌, List, [], ◌∷◌, ◌++◌, Option, Some, None, Ok, Err, arith, inl, inr, length, take, drop, refl, sym, ap, ◌∙◌, subst, append_assoc, append-nil, length-append, take-append-drop, ⊎_elim}
use Rattle.std.proofs.lemmas.List.{drop-take, length-take, take-append-le, take_at}
use Rattle.std.proofs.Math.Seq.{take-take}
use Rattle.std.proofs.lemmas.Bool.{cases_lt}
use Rattle.std.specs.Io.KnownBytes.{Consumes}
use Rattle.std.specs.Prelude.{slice_range}
use Rattle.capture_file.proofs.PcapngLemmas.{accepted, same_block}
use Rattle.capture_file.proofs.PcapngReadingLemmas.{refused_more}
use Rattle.capture_file.proofs.SectionLaws.{Given, one_taken, packet_within}
use Rattle.capture_file.specs.BlockTexts.{noted, texts_with, unless_refused}
use Rattle.capture_file.specs.CapturePackets.{FilePacket, packet_in}
use Rattle.capture_file.specs.Pcapng.{IsBlock, block_header, block_refusal}
use Rattle.capture_file.specs.PcapngReading.{ReadsNextBlock}
use Rattle.capture_file.specs.PcapngSteps.{IsStep, ReadsStep, next_by_refusal, next_by_taken, next_by_too_long}
use Rattle.capture_file.specs.Sections.{TakesBlock}
use Rattle.capture_numbers.specs.declared.byte_order.ByteOrder.{ByteOrder}
use Rattle.capture_file.specs.declared.pcapng.errors.BlockError.{BlockError}
use Rattle.capture_file.specs.declared.pcapng.errors.BlockError.TheVariants as refusals
use Rattle.capture_file.specs.declared.pcapng.block.BlockHeader.{BlockHeader}
use Rattle.capture_file.specs.declared.pcapng.read.NextBlock.{NextBlock}
use Rattle.capture_file.specs.declared.pcapng.read.NextBlock.TheVariants.{End, Refused, TooLong, Whole}
use Rattle.capture_file.specs.declared.reader.captured_packet.CapturedPacket.{CapturedPacket}
use Rattle.capture_file.specs.declared.reader.next_packet.NextPacket.{NextPacket}
use Rattle.capture_file.specs.declared.reader.next_packet.NextPacket.TheVariants as packets
use Rattle.capture_file.specs.declared.reader.pcapng_reader.PcapngReader.{PcapngReader}
use Rattle.capture_file.specs.declared.reader.pcapng_reader.Section.{Section}
use Rattle.capture_file.specs.declared.file_texts.FileTexts.{FileTexts}

-- ---- the item of a block, whatever is in the buffer after it

-- what is known about the next item: nothing so far, a packet, or an end without a packet
pub data Said : Type 0 where
  nothing : Said
  given : FilePacket → Said
  last : NextPacket → Said

-- the packet in the next item; without a packet, the item is the end
abbrev pub said_by : Option FilePacket → NextPacket → Said
said_by None next = last next
said_by (Some packet) next = given packet

-- what a block states about the next item, given the content of the buffer
abbrev pub said_of : List ℕ → Option NextPacket → Said
said_of buffer None = nothing
said_of buffer (Some next) = said_by (packet_in buffer next) next

-- a range of the buffer that ends within its first bytes is a range of these bytes
pub in_front : (len from to : ℕ) (buffer : List ℕ) → to - from ≤ len - from
    → slice_range buffer from to ≡ slice_range (take len buffer) from to
in_front len from to buffer within =
    let taken = λ (l : List ℕ). take-take (to - from) (len - from) l within in
    let whole : from < len → len ≡ from + (len - from) = λ short. omega (arith, short) in
    grind (arith, taken (drop from buffer), drop-take from (len - from) buffer, whole)

-- a whole block states the same, whatever follows it in the buffer
said_whole : (offset : ℕ) (header : BlockHeader) (buffer other : List ℕ) (taken : Given)
    → ((packet : CapturedPacket) → taken ≡ Ok (Some packet) → packet.captured_len ≤ header.total_len - packet.start)
    → take header.total_len buffer ≡ take header.total_len other
    → said_of buffer (next_by_taken offset taken) ≡ said_of other (next_by_taken offset taken)
said_whole offset header buffer other (Ok None) within same = refl
said_whole offset header buffer other (Ok (Some packet)) within same =
    let end : ℕ = packet.start + packet.captured_len in
    let inside : end - packet.start ≤ header.total_len - packet.start = omega (arith, within packet refl) in
    grind (arith, in_front header.total_len packet.start end buffer inside, in_front header.total_len packet.start end other inside)
said_whole offset header buffer other (Err error) within same = refl

-- a block without room in the buffer states the same, whatever the buffer contains
said_too_long : (offset : ℕ) (header : BlockHeader) (buffer other : List ℕ)
    → said_of buffer (next_by_too_long offset header) ≡ said_of other (next_by_too_long offset header)
said_too_long offset header buffer other = grind (arith, nat_tests)

-- the item of bytes that are not a block is an end without a packet
pub said_refused : (offset : ℕ) (buffer : List ℕ) (error : BlockError)
    → said_of buffer (Some (next_by_refusal offset error)) ≡ last (next_by_refusal offset error)
said_refused offset buffer error = grind arith

-- ---- the block at the front of a file, and at the front of the beginning of the file

-- an error that was read is the error of all bytes
refusal_of_all : (section : ByteOrder) (all : List ℕ) (still_left : Option (List ℕ)) (buffer : List ℕ) (error : BlockError)
    → ReadsNextBlock section (Some all) still_left buffer (Refused error) → block_refusal section all ≡ Some error
refusal_of_all section all None buffer error reads = absurd reads.consumed
refusal_of_all section all (Some rest) buffer (refusals.CutOff required len) reads = grind (arith, append-nil)
refusal_of_all section all (Some rest) buffer error reads =
    cc (reads.consumed, refused_more section reads.bytes rest error (λ required len is. absurd (cc is)) reads.is_next.1)

-- the beginning of a file and the whole file, which is longer by these bytes, make the same step
pub record SameStep (more : List ℕ) (after first_after : PcapngReader) (left first_left : Option (List ℕ))
    (said first_said : Said) : Type 0 where
  pub readers : after ≡ first_after
  pub says : said ≡ first_said
  pub rest : List ℕ
  pub left_is : left ≡ Some (rest ++ more)
  pub first_left_is : first_left ≡ Some rest

-- the file continues after this item
abbrev pub GoesOn : Said → Type 0
GoesOn nothing = Unit {0}
GoesOn (given packet) = Unit {0}
GoesOn (last next) = ⊥

-- the bytes that were read extend into the bytes that only the whole file contains
abbrev pub IsBeyond : List ℕ → Option (List ℕ) → Type 0
IsBeyond more left = (rest : List ℕ) × (left ≡ Some rest) × (length rest < length more)

-- the beginning of a file ends here; the whole file ends here too, or it continues
pub record EndsHere (more : List ℕ) (left : Option (List ℕ)) (said first_said : Said) : Type 0 where
  pub next : NextPacket
  pub first_ends : first_said ≡ last next
  pub ends : more ≡ [] → said ≡ last next
  pub beyond : GoesOn said → IsBeyond more left

-- how a step in the whole file and a step in its beginning compare
abbrev pub Compared : List ℕ → PcapngReader → PcapngReader → Option (List ℕ) → Option (List ℕ) → Said → Said → Type 0
Compared more after first_after left first_left said first_said =
    SameStep more after first_after left first_left said first_said ⊎ EndsHere more left said first_said

-- blocks at the front of the whole file and of its beginning are the same block
same_front : (section : ByteOrder) (first more : List ℕ) (left first_left : Option (List ℕ)) (a b : List ℕ) → IsBlock section a
    → IsBlock section b → Consumes (Some (first ++ more)) left a → Consumes (Some first) first_left b
    → (a ≡ b) × (rest : List ℕ) × (left ≡ Some (rest ++ more)) × (first_left ≡ Some rest)
same_front section first more None first_left a b is is_first consumed first_consumed = absurd consumed
same_front section first more (Some x) None a b is is_first consumed first_consumed = absurd first_consumed
same_front section first more (Some x) (Some y) a b is is_first consumed first_consumed =
    let same = same_block section a b x (y ++ more) is is_first (grind (arith, append_assoc)) in
    (same.0, y, ap Some same.1, refl)

-- the block at the front of a file extends beyond the first bytes of the file if these do not begin with a block
beyond_first : (section : ByteOrder) (first more : List ℕ) (left : Option (List ℕ)) (block : List ℕ) → IsBlock section block
    → (block_refusal section first ≡ None → ⊥) → Consumes (Some (first ++ more)) left block → IsBeyond more left
beyond_first section first more None block is refused consumed = absurd consumed
beyond_first section first more (Some rest) block is refused consumed =
    ⊎_elim
    (λ within. (rest, refl, omega (arith, ap length consumed, length-append first more, length-append block rest, within)))
    (λ long. absurd (refused (grind (
      arith,
      take-append-le (length block) first more long,
      take_at block rest (length block) refl,
      take-append-drop (length block) first,
      accepted section block (drop (length block) first) is,
    ))))
    (cases_lt (length first) (length block))

-- from no bytes no byte is read
none_read : (all : List ℕ) (left : Option (List ℕ)) (bytes : List ℕ) → all ≡ [] → Consumes (Some all) left bytes → bytes ≡ []
none_read all None bytes none consumed = absurd consumed
none_read all (Some rest) [] none consumed = refl
none_read all (Some rest) (byte ∷ bytes) none consumed = absurd (cc (none, consumed))

-- if the end was read, no byte is left
no_byte : (section : ByteOrder) (all : List ℕ) (left : Option (List ℕ)) (buffer : List ℕ)
    → ReadsNextBlock section (Some all) left buffer End → all ≡ []
no_byte section all None buffer reads = absurd reads.consumed
no_byte section all (Some rest) buffer reads = reads.consumed ∙ ap (λ l. l ++ rest) reads.is_next ∙ reads.is_last

-- a block that was read is accepted
read_accepted : (section : ByteOrder) (all : List ℕ) (left : Option (List ℕ)) (block : List ℕ) → IsBlock section block
    → Consumes (Some all) left block → block_refusal section all ≡ None
read_accepted section all None block is consumed = absurd consumed
read_accepted section all (Some rest) block is consumed = ap (block_refusal section) consumed ∙ accepted section block rest is

-- a block that is accepted is also accepted if more bytes follow it
more_accepted : (section : ByteOrder) (first more : List ℕ) (left : Option (List ℕ)) (block : List ℕ) → IsBlock section block
    → Consumes (Some first) left block → block_refusal section (first ++ more) ≡ None
more_accepted section first more None block is consumed = absurd consumed
more_accepted section first more (Some rest) block is consumed = grind (arith, append_assoc, accepted section block (rest ++ more) is)

-- a reader is its section, its place and its texts
abbrev pub reader_of : Section → ℕ → FileTexts → PcapngReader
reader_of section offset texts = record { section = section; offset = offset; texts = texts }

-- two readers with the same section, the same place and the same texts are the same
same_reader : (a b : PcapngReader) → a.section ≡ b.section → a.offset ≡ b.offset → a.texts ≡ b.texts → a ≡ b
same_reader a b section offset texts =
    ap (λ s. reader_of s a.offset a.texts) section ∙ ap (λ o. reader_of b.section o a.texts) offset
    ∙ ap (reader_of b.section b.offset) texts

-- a whole block in two buffers leads to the same reader and the same item
one_whole : (before : PcapngReader) (header : BlockHeader) (buffer other : List ℕ) (after other_after : PcapngReader)
    (next other_next : Option NextPacket) → 12 ≤ header.total_len → take header.total_len buffer ≡ take header.total_len other
    → IsStep before buffer (Whole header) after next → IsStep before other (Whole header) other_after other_next
    → after.texts ≡ noted (Whole header) buffer next before.texts → other_after.texts ≡ noted (Whole header) other other_next before.texts
    → (after ≡ other_after) × (said_of buffer next ≡ said_of other other_next)
one_whole before header buffer other after other_after next other_next shortest same step other_step texts other_texts =
    let end : ℕ = header.total_len - 4 in
    let body : List ℕ = slice_range buffer 8 end in
    let inside : end - 8 ≤ header.total_len - 8 = omega arith in
    let bodies : body ≡ slice_range other 8 end =
    cc (
      in_front header.total_len 8 end buffer inside,
      ap (λ bytes. slice_range bytes 8 end) same,
      in_front header.total_len 8 end other inside,
    ) in
    let (sections, givens) =
    one_taken before.section header body after.section other_after.section step.1.0 other_step.1.0 step.1.1
    (subst (λ bytes. TakesBlock before.section header bytes other_after.section other_step.1.0) (sym bodies) other_step.1.1) in
    let said = said_whole before.offset header buffer other step.1.0
    (λ packet is.
    let takes = subst (TakesBlock before.section header body after.section) is step.1.1 in
    omega (arith, packet_within before.section header body after.section packet takes, shortest, length-take (end - 8) (drop 8 buffer)))
    same in
    let items : next ≡ other_next = step.1.2 ∙ ap (next_by_taken before.offset) givens ∙ sym other_step.1.2 in
    let same_texts : after.texts ≡ other_after.texts =
    texts ∙ ap (λ n. noted (Whole header) buffer n before.texts) items
    ∙ ap (λ b. unless_refused other_next before.texts (texts_with header b before.texts)) bodies ∙ sym other_texts in
    (same_reader after other_after sections (cc (step.0, other_step.0)) same_texts, grind (arith, said, givens, step.1.2, other_step.1.2))

-- the blocks read from the whole file and from its beginning, into buffers of the same length
module _ (before : PcapngReader) (first more : List ℕ) (left first_left : Option (List ℕ)) (after first_after : PcapngReader)
    (buffer first_buffer : List ℕ) (next first_next : Option NextPacket) where
  -- a block that is read from the whole file
  abbrev ReadsWhole : NextBlock → Type 0
  ReadsWhole block = ReadsNextBlock before.section.byte_order (Some (first ++ more)) left buffer block

  -- a block that is read from the beginning of the file
  abbrev ReadsFirst : NextBlock → Type 0
  ReadsFirst block = ReadsNextBlock before.section.byte_order (Some first) first_left first_buffer block

  -- the texts after the block that is read from the whole file, and after the block that is read from its beginning
  abbrev Texts : NextBlock → Type 0
  Texts block = after.texts ≡ noted block buffer next before.texts

  abbrev FirstTexts : NextBlock → Type 0
  FirstTexts block = first_after.texts ≡ noted block first_buffer first_next before.texts

  -- the whole file and its beginning make the same step
  abbrev StepAlike : Type 0
  StepAlike = SameStep more after first_after left first_left (said_of buffer next) (said_of first_buffer first_next)

  -- the whole file and its beginning make the same step if both begin with a block with room in the buffer
  same_whole : (header first_header : BlockHeader) → ReadsWhole (Whole header) → ReadsFirst (Whole first_header)
      → IsStep before buffer (Whole header) after next → IsStep before first_buffer (Whole first_header) first_after first_next
      → Texts (Whole header) → FirstTexts (Whole first_header) → StepAlike
  same_whole header first_header reads first_reads step first_step texts first_texts =
      let (bytes, rest, left_is, first_left_is) = same_front before.section.byte_order first more left first_left reads.bytes
      first_reads.bytes reads.is_next.0 first_reads.is_next.0 reads.consumed first_reads.consumed in
      let same : header ≡ first_header = cc (reads.is_next.1, first_reads.is_next.1, bytes) in
      let (readers, saids) = one_whole before header buffer first_buffer after first_after next first_next (grind arith)
      (cc (reads.is_next.3, first_reads.is_next.3, bytes, same)) step (grind (arith, same, first_step)) texts
      (subst (λ h. first_after.texts ≡ noted (Whole h) first_buffer first_next before.texts) (sym same) first_texts) in
      record { readers = readers; says = saids; rest = rest; left_is = left_is; first_left_is = first_left_is }

  -- the whole file and its beginning make the same step if both begin with a block without room in the buffer
  same_too_long : (header first_header : BlockHeader) → ReadsWhole (TooLong header) → ReadsFirst (TooLong first_header)
      → IsStep before buffer (TooLong header) after next → IsStep before first_buffer (TooLong first_header) first_after first_next
      → Texts (TooLong header) → FirstTexts (TooLong first_header) → StepAlike
  same_too_long header first_header reads first_reads step first_step texts first_texts =
      grind (arith, nat_tests, same_front, same_reader, said_too_long)

  -- the blocks at the front of the whole file and of its beginning have the same length
  one_len : (a b : List ℕ) (header first_header : BlockHeader) → IsBlock before.section.byte_order a
      → IsBlock before.section.byte_order b → header ≡ block_header before.section.byte_order a
      → first_header ≡ block_header before.section.byte_order b → Consumes (Some (first ++ more)) left a
      → Consumes (Some first) first_left b → header.total_len ≡ first_header.total_len
  one_len a b header first_header is first_is says first_says consumed first_consumed = grind (arith, same_front)

  -- a file whose beginning contains a block has no end and no refused bytes at its front
  no_end : (block : List ℕ) → IsBlock before.section.byte_order block → Consumes (Some first) first_left block → ReadsWhole End → ⊥
  no_end block is consumed reads =
      let section = before.section.byte_order in
      let none : first ++ more ≡ [] = no_byte section (first ++ more) left buffer reads in
      cc (ap (block_refusal section) none, more_accepted section first more first_left block is consumed)

  no_refusal : (block : List ℕ) (error : BlockError) → IsBlock before.section.byte_order block → Consumes (Some first) first_left block
      → ReadsWhole (Refused error) → ⊥
  no_refusal block error is consumed reads =
      let none = more_accepted before.section.byte_order first more first_left block is consumed in
      cc (none, refusal_of_all before.section.byte_order (first ++ more) left buffer error reads)

  -- if the beginning contains a block, the block is the block of the whole file
  same_step : (block : NextBlock) (first_header : BlockHeader) → length buffer ≡ length first_buffer → ReadsWhole block
      → ReadsFirst (Whole first_header) → IsStep before buffer block after next
      → IsStep before first_buffer (Whole first_header) first_after first_next → Texts block → FirstTexts (Whole first_header) → StepAlike
  same_step (Whole header) first_header room reads first_reads step first_step texts first_texts =
      same_whole header first_header reads first_reads step first_step texts first_texts
  same_step (TooLong header) first_header room reads first_reads step first_step texts first_texts =
      let len = one_len _ _ header first_header reads.is_next.0 first_reads.is_next.0 reads.is_next.1 first_reads.is_next.1 reads.consumed
      first_reads.consumed in
      absurd (omega (arith, len, room, reads.is_next.2, first_reads.is_next.2))
  same_step End first_header room reads first_reads step first_step texts first_texts =
      absurd (no_end first_reads.bytes first_reads.is_next.0 first_reads.consumed reads)
  same_step (Refused error) first_header room reads first_reads step first_step texts first_texts =
      absurd (no_refusal first_reads.bytes error first_reads.is_next.0 first_reads.consumed reads)

  -- if the beginning contains a block without room in the buffer, the whole file makes the same step
  same_step_too_long : (block : NextBlock) (first_header : BlockHeader) → length buffer ≡ length first_buffer → ReadsWhole block
      → ReadsFirst (TooLong first_header) → IsStep before buffer block after next
      → IsStep before first_buffer (TooLong first_header) first_after first_next → Texts block → FirstTexts (TooLong first_header)
      → StepAlike
  same_step_too_long (Whole header) first_header room reads first_reads step first_step texts first_texts =
      let len = one_len _ _ header first_header reads.is_next.0 first_reads.is_next.0 reads.is_next.1 first_reads.is_next.1 reads.consumed
      first_reads.consumed in
      absurd (omega (arith, len, room, reads.is_next.2, first_reads.is_next.2))
  same_step_too_long (TooLong header) first_header room reads first_reads step first_step texts first_texts =
      same_too_long header first_header reads first_reads step first_step texts first_texts
  same_step_too_long End first_header room reads first_reads step first_step texts first_texts =
      absurd (no_end first_reads.bytes first_reads.is_next.0 first_reads.consumed reads)
  same_step_too_long (Refused error) first_header room reads first_reads step first_step texts first_texts =
      absurd (no_refusal first_reads.bytes error first_reads.is_next.0 first_reads.consumed reads)

  -- if the beginning contains no block, the item of the whole file extends beyond the beginning
  goes_beyond : (block : NextBlock) → (block_refusal before.section.byte_order first ≡ None → ⊥) → ReadsWhole block
      → IsStep before buffer block after next → GoesOn (said_of buffer next) → IsBeyond more left
  goes_beyond (Whole header) refused reads step goes =
      beyond_first before.section.byte_order first more left reads.bytes reads.is_next.0 refused reads.consumed
  goes_beyond (TooLong header) refused reads step goes =
      beyond_first before.section.byte_order first more left reads.bytes reads.is_next.0 refused reads.consumed
  goes_beyond End refused reads step goes = absurd (grind (arith, step.1))
  goes_beyond (Refused error) refused reads step goes = absurd (grind (arith, step.1, said_refused before.offset buffer error))

  -- the item of a whole file without bytes is the end, and the item of a whole file with refused bytes is their error
  same_end : (block : NextBlock) → first ++ more ≡ [] → ReadsWhole block → IsStep before buffer block after next
      → said_of buffer next ≡ last packets.End
  same_end (Whole header) none reads step = grind (arith, none_read)
  same_end (TooLong header) none reads step = grind (arith, none_read)
  same_end End none reads step = ap (said_of buffer) step.1
  same_end (Refused error) none reads step = absurd (reads.is_next.0 (none_read (first ++ more) left reads.bytes none reads.consumed))

  same_refusal : (block : NextBlock) (error : BlockError) → (first ++ more ≡ [] → ⊥)
      → block_refusal before.section.byte_order (first ++ more) ≡ Some error → ReadsWhole block → IsStep before buffer block after next
      → said_of buffer next ≡ last (next_by_refusal before.offset error)
  same_refusal (Whole header) error some refused reads step = grind (arith, read_accepted)
  same_refusal (TooLong header) error some refused reads step = grind (arith, read_accepted)
  same_refusal End error some refused reads step = absurd (some (no_byte before.section.byte_order (first ++ more) left buffer reads))
  same_refusal (Refused other) error some refused reads step =
      grind (
        arith,
        refusal_of_all before.section.byte_order (first ++ more) left buffer other reads,
        said_refused before.offset buffer other,
      )

  -- a block in the whole file and a block in its beginning, compared
  compared_blocks : (block first_block : NextBlock) → length buffer ≡ length first_buffer → ReadsWhole block → ReadsFirst first_block
      → IsStep before buffer block after next → IsStep before first_buffer first_block first_after first_next → Texts block
      → FirstTexts first_block → Compared more after first_after left first_left (said_of buffer next) (said_of first_buffer first_next)
  compared_blocks block (Whole header) room reads first_reads step first_step texts first_texts =
      inl (same_step block header room reads first_reads step first_step texts first_texts)
  compared_blocks block (TooLong header) room reads first_reads step first_step texts first_texts =
      inl (same_step_too_long block header room reads first_reads step first_step texts first_texts)
  compared_blocks block End room reads first_reads step first_step texts first_texts =
      let none : first ≡ [] = no_byte before.section.byte_order first first_left first_buffer first_reads in
      inr (record {
        next = packets.End;
        first_ends = ap (said_of first_buffer) first_step.1;
        ends = λ no_more. same_end block (cc (none, no_more)) reads step;
        beyond = goes_beyond block (λ is_none. cc (ap (block_refusal before.section.byte_order) none, is_none)) reads step;
      })
  compared_blocks block (Refused error) room reads first_reads step first_step texts first_texts =
      let refused : block_refusal before.section.byte_order first ≡ Some error =
      refusal_of_all before.section.byte_order first first_left first_buffer error first_reads in
      inr (record {
        next = next_by_refusal before.offset error;
        first_ends = grind (arith, first_step.1, said_refused before.offset first_buffer error);
        ends = λ no_more. same_refusal block error (grind (arith, none_read, append-nil)) (grind (arith, append-nil)) reads step;
        beyond = goes_beyond block (λ is_none. cc (refused, is_none)) reads step;
      })

  -- a step in the whole file and a step in its beginning, compared
  pub compared_steps : length buffer ≡ length first_buffer → ReadsStep before (Some (first ++ more)) left after buffer next
      → ReadsStep before (Some first) first_left first_after first_buffer first_next
      → Compared more after first_after left first_left (said_of buffer next) (said_of first_buffer first_next)
  compared_steps room step first_step =
      compared_blocks step.block first_step.block room step.reads first_step.reads step.is_step first_step.is_step step.texts
      first_step.texts

  -- no block is read from bytes that end here or are refused here
  no_block : (block : List ℕ) → IsBlock before.section.byte_order block → more ≡ [] → Consumes (Some (first ++ more)) left block
      → (block_refusal before.section.byte_order first ≡ None → ⊥) → ⊥
  no_block block is no_more consumed refused =
      let none = read_accepted before.section.byte_order (first ++ more) left block is consumed in
      refused (ap (block_refusal before.section.byte_order) (sym (append-nil first) ∙ ap (λ l. first ++ l) (sym no_more)) ∙ none)

  -- without bytes, no block is accepted
  none_refused : first ≡ [] → block_refusal before.section.byte_order first ≡ None → ⊥
  none_refused none is_none = cc (ap (block_refusal before.section.byte_order) none, is_none)

  -- if both files have the same bytes, the readers after the step are the same
  one_after : (block first_block : NextBlock) → more ≡ [] → length buffer ≡ length first_buffer → ReadsWhole block → ReadsFirst first_block
      → IsStep before buffer block after next → IsStep before first_buffer first_block first_after first_next → Texts block
      → FirstTexts first_block → after ≡ first_after
  one_after block (Whole header) no_more room reads first_reads step first_step texts first_texts =
      (same_step block header room reads first_reads step first_step texts first_texts).readers
  one_after block (TooLong header) no_more room reads first_reads step first_step texts first_texts =
      (same_step_too_long block header room reads first_reads step first_step texts first_texts).readers
  one_after (Whole header) End no_more room reads first_reads step first_step texts first_texts =
      absurd (no_block reads.bytes reads.is_next.0 no_more reads.consumed
      (none_refused (no_byte before.section.byte_order first first_left first_buffer first_reads)))
  one_after (TooLong header) End no_more room reads first_reads step first_step texts first_texts =
      absurd (no_block reads.bytes reads.is_next.0 no_more reads.consumed
      (none_refused (no_byte before.section.byte_order first first_left first_buffer first_reads)))
  one_after End End no_more room reads first_reads step first_step texts first_texts = step.0 ∙ sym first_step.0
  one_after (Refused error) End no_more room reads first_reads step first_step texts first_texts = step.0 ∙ sym first_step.0
  one_after (Whole header) (Refused error) no_more room reads first_reads step first_step texts first_texts =
      absurd (no_block reads.bytes reads.is_next.0 no_more reads.consumed
      (λ is_none. cc (refusal_of_all before.section.byte_order first first_left first_buffer error first_reads, is_none)))
  one_after (TooLong header) (Refused error) no_more room reads first_reads step first_step texts first_texts =
      absurd (no_block reads.bytes reads.is_next.0 no_more reads.consumed
      (λ is_none. cc (refusal_of_all before.section.byte_order first first_left first_buffer error first_reads, is_none)))
  one_after End (Refused error) no_more room reads first_reads step first_step texts first_texts = step.0 ∙ sym first_step.0
  one_after (Refused other) (Refused error) no_more room reads first_reads step first_step texts first_texts = step.0 ∙ sym first_step.0

  -- two steps in the same bytes lead to the same reader
  pub one_step : more ≡ [] → length buffer ≡ length first_buffer → ReadsStep before (Some (first ++ more)) left after buffer next
      → ReadsStep before (Some first) first_left first_after first_buffer first_next → after ≡ first_after
  one_step no_more room step first_step =
      one_after step.block first_step.block no_more room step.reads first_step.reads step.is_step first_step.is_step step.texts
      first_step.texts
