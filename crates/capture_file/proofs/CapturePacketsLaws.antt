-- The laws of the packets of a file: the list of packets is unique, and the first bytes of a file have the first of its packets.
use Rattle.std.proofs.lemmas.Bool.Decides.{nat_tests}
use Rattle.std.proofs.Common.{◌≡◌, ℕ, zero, suc, ◌+◌, ◌-◌, ◌≤◌, ◌<◌, List, [], ◌∷◌, ◌++◌, map, Option, Some, None, arith, inr, length, take, drop, refl, sym, ap, ◌∙◌, subst, append_assoc, append-nil, length-append, length-drop, take-append-drop, ⊎_elim}
use Rattle.std.proofs.lemmas.List.{length-map, length_push, map-append, take_at}
use Rattle.std.proofs.lemmas.List.Folds.{concat-append}
use Rattle.std.specs.Io.KnownBytes.{Consumes}
use Rattle.std.specs.List.{AllByRecursion, concat, take-map}
use Rattle.capture_file.proofs.CapturePacketsExist.{there_are_packets}
use Rattle.capture_file.proofs.CapturePacketsLemmas.{packets-push, packets_append}
use Rattle.capture_file.proofs.ReadingLaws.{records_before_cut, there_is_a_reading, there_is_one_reading}
use Rattle.capture_file.proofs.ReadingLemmas.{each_append}
use Rattle.capture_file.proofs.StepLaws.{Compared, Said, compared_steps, given, last, nothing, said_by, said_of}
use Rattle.capture_file.specs.Classic.{IsReading, IsRecord}
use Rattle.capture_file.specs.CapturePackets.{ArePacketsBeforeCut, BeginsWithPackets, EndsWith, HasPackets, FilePacket, PacketsEndAt, ReadsOne, ReadsPackets, next_after, packet_in, record_packet}
use Rattle.capture_file.specs.Laws.{AreUnique, RemainAtCut}
use Rattle.capture_file.specs.PcapngSteps.{PassesBlocks, ReadsBlockPacket, ReadsStep}
use Rattle.capture_numbers.specs.declared.byte_order.ByteOrder.{ByteOrder}
use Rattle.capture_file.specs.declared.reader.capture_reader.CaptureReader.{CaptureReader}
use Rattle.capture_file.specs.declared.reader.capture_reader.CaptureReader.TheVariants.{Classic, Pcapng}
use Rattle.capture_file.specs.declared.reader.capture_reader.ClassicReader.{ClassicReader}
use Rattle.capture_file.specs.declared.reader.next_packet.NextPacket.{NextPacket}
use Rattle.capture_file.specs.declared.reader.pcapng_reader.PcapngReader.{PcapngReader}

-- ---- up to the next block with an item

-- this number of blocks without an item were read, and then a block with this item
abbrev pub ReadsUpTo : ℕ → ℕ → PcapngReader → List ℕ → Option (List ℕ) → PcapngReader → List ℕ → NextPacket → Type 0
ReadsUpTo room zero before all still_left after buffer next = ReadsStep before (Some all) still_left after buffer (Some next)
ReadsUpTo room (suc count) before all still_left after buffer next =
    (reader : PcapngReader) × (rest : List ℕ) × (passed : List ℕ) × (length passed ≡ room)
    × ReadsStep before (Some all) (Some rest) reader passed None × ReadsUpTo room count reader rest still_left after buffer next

-- if the bytes of a file are known, the bytes left after some blocks are known
passes_known : (room count : ℕ) (before : PcapngReader) (all : List ℕ) (left : Option (List ℕ)) (after : PcapngReader)
    → PassesBlocks room count before (Some all) left after → (rest : List ℕ) × (left ≡ Some rest)
passes_known room count before all (Some rest) after passes = (rest, refl)
passes_known room zero before all None after passes = absurd (cc passes.1)
passes_known room (suc count) before all None after passes =
    let (reader, middle, buffer, has_room, others, step) = passes in
    absurd (grind (arith, passes_known room count before all middle reader others, step.reads.consumed))

-- blocks that are read one after the other are read in order, beginning with the first block
in_order : (room count further : ℕ) (before reader after : PcapngReader) (all middle : List ℕ) (still_left : Option (List ℕ))
    (buffer : List ℕ) (next : NextPacket) → PassesBlocks room count before (Some all) (Some middle) reader
    → ReadsUpTo room further reader middle still_left after buffer next
    → (total : ℕ) × ReadsUpTo room total before all still_left after buffer next
in_order room zero further before reader after all middle still_left buffer next passes reads = grind (arith, nat_tests)
in_order room (suc count) further before reader after all middle still_left buffer next passes reads =
    let (one, left, passed, has_room, others, step) = passes in
    let (rest, is) = passes_known room count before all left one others in
    in_order room count (suc further) before one after all rest still_left buffer next (grind (arith, is))
    (reader, middle, passed, has_room, grind (arith, is), reads)

-- the blocks up to the next packet are read in order, beginning with the first block
pub up_to : (before after : PcapngReader) (all : List ℕ) (still_left : Option (List ℕ)) (buffer : List ℕ) (next : NextPacket)
    → ReadsBlockPacket before (Some all) still_left after buffer next
    → (count : ℕ) × ReadsUpTo (length buffer) count before all still_left after buffer next
up_to before after all still_left buffer next reads =
    let (middle, is) = passes_known (length buffer) reads.count before all reads.middle reads.reader reads.passed in
    in_order (length buffer) reads.count 0 before reads.reader after all middle still_left buffer next (grind (arith, is))
    (grind (arith, is))

-- the bytes left are known, and not more than all bytes
left_of : (all : List ℕ) (left : Option (List ℕ)) (bytes : List ℕ) → Consumes (Some all) left bytes
    → (rest : List ℕ) × (left ≡ Some rest) × (length rest ≤ length all)
left_of all left bytes consumed = grind (arith, length-append)

-- the bytes left after some blocks are known, and not more than all bytes
left_up_to : (room count : ℕ) (before after : PcapngReader) (all : List ℕ) (left : Option (List ℕ)) (buffer : List ℕ) (next : NextPacket)
    → ReadsUpTo room count before all left after buffer next → (rest : List ℕ) × (left ≡ Some rest) × (length rest ≤ length all)
left_up_to room zero before after all left buffer next reads = left_of all left reads.reads.bytes reads.reads.consumed
left_up_to room (suc count) before after all left buffer next reads =
    let (reader, rest, passed, has_room, step, others) = reads in
    grind (
      arith,
      left_up_to room count reader after rest left buffer next others,
      left_of all (Some rest) step.reads.bytes step.reads.consumed,
    )

-- a next item is a packet or an end
pub says_something : (packet : Option FilePacket) (next : NextPacket) → said_by packet next ≡ nothing → ⊥
says_something None next is = cc is
says_something (Some packet) next is = cc is

-- what is read from the whole file and from its beginning, up to the next block with an item
module _ (room : ℕ) (more : List ℕ) (left first_left : Option (List ℕ)) (after first_after : PcapngReader) (buffer first_buffer : List ℕ)
    (next first_next : NextPacket) (is_room : length buffer ≡ room) (first_is_room : length first_buffer ≡ room) where
  compared_up_to : (count first_count : ℕ) (before : PcapngReader) (first : List ℕ)
      → ReadsUpTo room count before (first ++ more) left after buffer next
      → ReadsUpTo room first_count before first first_left first_after first_buffer first_next
      → Compared more after first_after left first_left (said_of buffer (Some next)) (said_of first_buffer (Some first_next))
  compared_up_to zero zero before first reads first_reads =
      compared_steps before first more left first_left after first_after buffer first_buffer (Some next) (Some first_next)
      (is_room ∙ sym first_is_room) reads first_reads
  compared_up_to zero (suc first_count) before first reads first_reads =
      let (reader, rest, passed, has_room, step, others) = first_reads in
      let compared =
      compared_steps before first more left (Some rest) after reader buffer passed (Some next) None
      (is_room ∙ sym has_room) reads step in
      absurd (⊎_elim (λ same. says_something (packet_in buffer next) next same.says) (λ ends. cc ends.first_ends) compared)
  compared_up_to (suc count) zero before first reads first_reads =
      let (reader, rest, passed, has_room, step, others) = reads in
      let (last_rest, is_left, fewer) = left_up_to room count reader after rest left buffer next others in
      ⊎_elim
      (λ same. absurd (says_something (packet_in first_buffer first_next) first_next (sym same.says)))
      (λ ends. inr (record {
        next = ends.next;
        first_ends = ends.first_ends;
        ends = λ none. absurd (cc (ends.ends none));
        beyond = λ goes. (last_rest, is_left, grind (arith, fewer, ends.beyond tt));
      }))
      (compared_steps before first more (Some rest) first_left reader first_after passed first_buffer None (Some first_next)
      (has_room ∙ sym first_is_room) step first_reads)
  compared_up_to (suc count) (suc first_count) before first reads first_reads =
      let (reader, rest, passed, has_room, step, others) = reads in
      let (first_reader, first_rest, first_passed, first_has_room, first_step, first_others) = first_reads in
      ⊎_elim
      (λ same. compared_up_to count first_count reader same.rest (grind (arith, same.left_is))
      (grind (arith, same.first_left_is, same.readers)))
      (λ ends. absurd (cc ends.first_ends))
      (compared_steps before first more (Some rest) (Some first_rest) reader first_reader passed first_passed None None
      (has_room ∙ sym first_has_room) step first_step)

-- ---- packet by packet

-- this item was read, with the blocks before it
pub record ReadsSaid (room : ℕ) (before : PcapngReader) (left still_left : Option (List ℕ)) (after : PcapngReader)
    (said : Said) : Type 0 where
  pub buffer : List ℕ
  pub has_room : length buffer ≡ room
  pub next : NextPacket
  pub reads : ReadsBlockPacket before left still_left after buffer next
  pub says : said_of buffer (Some next) ≡ said

-- if a packet was read, the item that was read is the packet
pub said_one : (room : ℕ) (before : PcapngReader) (left still_left : Option (List ℕ)) (after : CaptureReader) (packet : FilePacket)
    → ReadsOne room (Pcapng before) left still_left after packet
    → (reader : PcapngReader) × (after ≡ Pcapng reader) × ReadsSaid room before left still_left reader (given packet)
said_one room before left still_left after packet one = (
  one.reads.0,
  one.reads.1,
  record {
    buffer = one.buffer;
    has_room = one.has_room;
    next = one.next;
    reads = one.reads.2;
    says =
        grind arith;
  },
)

-- what the items in the whole file and in its beginning have in common
pub compared_said : (room : ℕ) (before : PcapngReader) (first more : List ℕ) (left first_left : Option (List ℕ))
    (after first_after : PcapngReader) (said first_said : Said) → ReadsSaid room before (Some (first ++ more)) left after said
    → ReadsSaid room before (Some first) first_left first_after first_said → Compared more after first_after left first_left said first_said
compared_said room before first more left first_left after first_after said first_said reads first_reads =
    let (count, up) = up_to before after (first ++ more) left reads.buffer reads.next reads.reads in
    let (first_count, first_up) = up_to before first_after first first_left first_reads.buffer first_reads.next first_reads.reads in
    let compared = compared_up_to room more left first_left after first_after reads.buffer first_reads.buffer reads.next first_reads.next
    reads.has_room first_reads.has_room count first_count before first (grind (arith, reads.has_room))
    (grind (arith, first_reads.has_room)) in
    subst (λ s. Compared more after first_after left first_left s first_said) reads.says
    (subst (λ s. Compared more after first_after left first_left (said_of reads.buffer (Some reads.next)) s) first_reads.says compared)

-- the bytes left after an item are known, and not more than all bytes
known_said : (room : ℕ) (before after : PcapngReader) (all : List ℕ) (left : Option (List ℕ)) (said : Said)
    → ReadsSaid room before (Some all) left after said → (rest : List ℕ) × (left ≡ Some rest) × (length rest ≤ length all)
known_said room before after all left said reads =
    let (count, up) = up_to before after all left reads.buffer reads.next reads.reads in
    left_up_to (length reads.buffer) count before after all left reads.buffer reads.next up

left_said : (room : ℕ) (before after : PcapngReader) (all : List ℕ) (left : Option (List ℕ)) (rest : List ℕ) (said : Said)
    → left ≡ Some rest → ReadsSaid room before (Some all) left after said → length rest ≤ length all
left_said room before after all left rest said is reads = grind (arith, known_said room before after all left said reads)

-- the next packet, if there is one, ends after the beginning of a file; `more` are the bytes after this beginning
abbrev NextBeyond : ℕ → CaptureReader → List ℕ → List ℕ → List FilePacket → Type 0
NextBeyond room after rest more [] = Unit {0}
NextBeyond room after rest more (packet ∷ others) =
    (last_rest : List ℕ) × (last_reader : CaptureReader) × ReadsOne room after (Some rest) (Some last_rest) last_reader packet
    × (length last_rest < length more)

-- the packets of the beginning of a file are the first packets of the whole file
record AreFirst (room : ℕ) (reader : PcapngReader) (first more : List ℕ) (packets first_packets : List FilePacket)
    (next first_next : NextPacket) : Type 0 where
  others : List FilePacket
  whole : packets ≡ first_packets ++ others
  rest : List ℕ
  after : CaptureReader
  read : ReadsPackets room (Pcapng reader) (Some (first ++ more)) (Some rest) after first_packets
  within : length more ≤ length rest
  fewer : length rest ≤ length (first ++ more)
  beyond : NextBeyond room after rest more others
  same : more ≡ [] → (packets ≡ first_packets) × (next ≡ first_next)

-- if no packet is left, the packets of the beginning are the first packets
none_left : (room : ℕ) (reader : PcapngReader) (first more : List ℕ) (next first_next : NextPacket)
    → (more ≡ [] → next ≡ first_next) → AreFirst room reader first more [] [] next first_next
none_left room reader first more next first_next same = record {
  others = [];
  whole = refl;
  rest = first ++ more;
  after = Pcapng reader;
  read = (refl, refl);
  within = omega (arith, length-append first more);
  fewer = omega arith;
  beyond = tt;
  same = λ none. (refl, same none);
}

-- the next item, if no packet was read, is the end of the packets
last_of_none : (room : ℕ) (reader : PcapngReader) (all : List ℕ) (left : Option (List ℕ)) (after : CaptureReader) (next : NextPacket)
    → ReadsPackets room (Pcapng reader) (Some all) left after [] → EndsWith room after left next
    → (still_left : Option (List ℕ)) × (last_reader : PcapngReader) × ReadsSaid room reader (Some all) still_left last_reader (last next)
last_of_none room reader all left after next read ends = grind (arith, nat_tests, said_by)

-- a packet that was read is also read if the states and the packets are equal to these
same_one : (room : ℕ) (before after other : CaptureReader) (left middle still_left : Option (List ℕ)) (packet same : FilePacket)
    → after ≡ other
    → middle ≡ still_left → packet ≡ same → ReadsOne room before left middle after packet → ReadsOne room before left still_left other same
same_one room before after other left middle still_left packet same is is_left is_packet one = grind (arith, nat_tests)

-- the ends after all packets of the whole file and of its beginning
module _ (room : ℕ) (more : List ℕ) (left first_left : Option (List ℕ)) (after first_after : CaptureReader) (next first_next : NextPacket)
    (ends : EndsWith room after left next) (first_ends : EndsWith room first_after first_left first_next) where
  compared_packets : (reader : PcapngReader) (first : List ℕ) (packets first_packets : List FilePacket)
      → ReadsPackets room (Pcapng reader) (Some (first ++ more)) left after packets
      → ReadsPackets room (Pcapng reader) (Some first) first_left first_after first_packets
      → AreFirst room reader first more packets first_packets next first_next
  compared_packets reader first [] [] read first_read =
      let (still, now, said) = last_of_none room reader (first ++ more) left after next read ends in
      let (first_still, first_now, first_said) = last_of_none room reader first first_left first_after first_next first_read first_ends in
      let compared = compared_said room reader first more still first_still now first_now (last next) (last first_next) said first_said in
      none_left room reader first more next first_next
      (λ none. ⊎_elim (λ same. cc same.says) (λ here. cc (here.ends none, here.first_ends)) compared)
  compared_packets reader first [] (q ∷ qs) read first_read =
      let (still, now, said) = last_of_none room reader (first ++ more) left after next read ends in
      let (first_mid, first_middle, first_one, first_others) = first_read in
      let (first_now, first_is, first_said) = said_one room reader (Some first) first_middle first_mid q first_one in
      let compared = compared_said room reader first more still first_middle now first_now (last next) (given q) said first_said in
      absurd (⊎_elim (λ same. cc same.says) (λ here. cc here.first_ends) compared)
  compared_packets reader first (p ∷ ps) [] read first_read =
      let (mid, middle, one, others) = read in
      let (now, is, said) = said_one room reader (Some (first ++ more)) middle mid p one in
      let (first_still, first_now, first_said) = last_of_none room reader first first_left first_after first_next first_read first_ends in
      let compared = compared_said room reader first more middle first_still now first_now (given p) (last first_next) said first_said in
      ⊎_elim
      (λ same. absurd (cc same.says))
      (λ here.
      let (rest, is_rest, fewer) = here.beyond tt in
      record {
        others = p ∷ ps;
        whole = refl;
        rest = first ++ more;
        after = Pcapng reader;
        read = (refl, refl);
        within = omega (arith, length-append first more);
        fewer = omega arith;
        beyond = (rest, mid, subst (λ l. ReadsOne room (Pcapng reader) (Some (first ++ more)) l mid p) is_rest one, fewer);
        same = λ none. absurd (cc (here.ends none));
      }) compared
  compared_packets reader first (p ∷ ps) (q ∷ qs) read first_read =
      let (mid, middle, one, others) = read in
      let (now, is, said) = said_one room reader (Some (first ++ more)) middle mid p one in
      let (first_mid, first_middle, first_one, first_others) = first_read in
      let (first_now, first_is, first_said) = said_one room reader (Some first) first_middle first_mid q first_one in
      let compared = compared_said room reader first more middle first_middle now first_now (given p) (given q) said first_said in
      ⊎_elim
      (λ same.
      let packet : p ≡ q = cc same.says in
      let further = compared_packets now same.rest ps qs (grind (arith, same.left_is)) (grind (arith, same.first_left_is, same.readers)) in
      let fewer = left_said room reader now (first ++ more) middle (same.rest ++ more) (given p) same.left_is said in
      let one_of =
      same_one room (Pcapng reader) mid (Pcapng now) (Some (first ++ more)) middle (Some (same.rest ++ more)) p q is same.left_is
      packet one in
      record {
        others = further.others;
        whole = cc (packet, further.whole);
        rest = further.rest;
        after = further.after;
        read = (Pcapng now, Some (same.rest ++ more), one_of, further.read);
        within = further.within;
        fewer = omega (arith, further.fewer, fewer);
        beyond = further.beyond;
        same = λ none. (cc (packet, (further.same none).0), (further.same none).1);
      })
      (λ here. absurd (cc here.first_ends)) compared

-- ---- there is one list of packets

-- the records, or the blocks, determine the packets and the end
pub there_is_one_list : (room : ℕ) (reader : CaptureReader) (bytes : List ℕ) → AreUnique (HasPackets room reader bytes)
there_is_one_list room (Classic reader) bytes packets other_packets next other_next has other =
    let (records, rest, reading, are, is_next) = has in
    let (other_records, other_rest, other_reading, other_are, other_is_next) = other in
    let (same, same_rest) =
    there_is_one_reading reader.header.byte_order bytes records other_records rest other_rest reading other_reading in
    (cc (same, are, other_are), cc (same_rest, is_next, other_is_next))
there_is_one_list room (Pcapng reader) bytes packets other_packets next other_next has other =
    let (left, after, read, ends) = has in
    let (other_left, other_after, other_read, other_ends) = other in
    (compared_packets room [] left other_left after other_after next other_next ends other_ends reader bytes packets other_packets
    (subst (λ l. ReadsPackets room (Pcapng reader) (Some l) left after packets) (sym (append-nil bytes)) read) other_read).same refl

-- ---- the packets at the start of bytes are the first packets of the bytes

-- after packets of a pcapng file, the bytes left are known, and the reader is a reader of a pcapng file
left_after : (room : ℕ) (reader : PcapngReader) (all : List ℕ) (left : Option (List ℕ)) (after : CaptureReader) (packets : List FilePacket)
    → ReadsPackets room (Pcapng reader) (Some all) left after packets
    → (rest : List ℕ) × (last_reader : PcapngReader) × (left ≡ Some rest) × (after ≡ Pcapng last_reader)
left_after room reader all left after [] read = (all, reader, read.1, read.0)
left_after room reader all left after (packet ∷ packets) read =
    let (mid, middle, one, others) = read in
    let (now, is, said) = said_one room reader (Some all) middle mid packet one in
    let (rest, is_rest, fewer) = known_said room reader now all middle (given packet) said in
    left_after room now rest left after packets (grind (arith, is_rest, is))

-- other packets follow these packets, and together they are the packets of the bytes
pub first_packets : (room : ℕ) (reader : CaptureReader) (bytes : List ℕ) (first packets : List FilePacket) (next : NextPacket)
    → BeginsWithPackets room reader first bytes → HasPackets room reader bytes packets next
    → (others : List FilePacket) × (packets ≡ first ++ others)
first_packets room (Classic reader) bytes first packets next begins has =
    let order = reader.header.byte_order in
    let to_packet : List ℕ → FilePacket = record_packet room reader.header in
    let (records, rest, whole, each, are) = begins in
    let (others, last_rest, reading) = there_is_a_reading order rest in
    let all_read : IsReading order bytes (records ++ others) last_rest = record {
      whole = grind (arith, reading.whole, append_assoc (concat records) (concat others) last_rest, concat-append records others);
      each = each_append order records others each reading.each;
      partial = reading.partial;
    } in
    let same =
    there_is_one_list room (Classic reader) bytes packets (map to_packet (records ++ others)) next (next_after order last_rest) has
    (records ++ others, last_rest, all_read, refl, refl) in
    (map to_packet others, cc (same.0, map-append to_packet records others, are))
first_packets room (Pcapng reader) bytes first packets next begins has =
    let (left, after, read) = begins in
    let (rest, last_reader, is_left, is_after) = left_after room reader bytes left after first read in
    let (others, end, others_have) = there_are_packets room (Pcapng last_reader) rest in
    let (still_left, last_after, others_read, ends) = others_have in
    let first_read : ReadsPackets room (Pcapng reader) (Some bytes) (Some rest) (Pcapng last_reader) first =
    subst (λ r. ReadsPackets room (Pcapng reader) (Some bytes) (Some rest) r first) is_after
    (subst (λ l. ReadsPackets room (Pcapng reader) (Some bytes) l after first) is_left read) in
    let all_read =
    packets_append room (Pcapng reader) (Pcapng last_reader) last_after (Some bytes) (Some rest) still_left first others first_read
    others_read in (
      others,
      (there_is_one_list room (Pcapng reader) bytes packets (first ++ others) next end has
          (still_left, last_after, all_read, ends)).0,
    )

-- ---- a file that was cut

-- the first records of a list of records are records
each_first : (order : ByteOrder) (count : ℕ) (records : List (List ℕ)) → AllByRecursion (IsRecord order) records
    → AllByRecursion (IsRecord order) (take count records)
each_first order zero records each = tt
each_first order (suc count) [] each = tt
each_first order (suc count) (record_bytes ∷ records) each = (each.0, each_first order count records each.1)

-- the packets of the first records end where these records end
first_records : (room : ℕ) (reader : ClassicReader) (bytes : List ℕ) (records : List (List ℕ)) (rest : List ℕ) (count : ℕ)
    → IsReading reader.header.byte_order bytes records rest
    → PacketsEndAt room (Classic reader) (take count (map (record_packet room reader.header) records)) bytes
    (length (concat (take count records)))
first_records room reader bytes records rest count reading =
    let first : List (List ℕ) = take count records in
    let others : List (List ℕ) = drop count records in (
      first,
      concat others ++ rest,
      grind (arith, concat-append first others, take-append-drop count records, append_assoc (concat first) (concat others) rest),
      each_first reader.header.byte_order count records reading.each,
      take-map (record_packet room reader.header) count records,
      refl,
    )

-- the packets before a cut of a classic capture
classic_before_cut : (room : ℕ) (reader : ClassicReader)
    → RemainAtCut (HasPackets room (Classic reader)) (ArePacketsBeforeCut room (Classic reader))
classic_before_cut room reader bytes packets next cut cut_packets cut_next has cut_has =
    let order = reader.header.byte_order in
    let to_packet = record_packet room reader.header in
    let (records, rest, reading, are, is_next) = has in
    let (cut_records, cut_rest, cut_reading, cut_are, cut_is_next) = cut_has in
    let before = records_before_cut order bytes records rest cut cut_records cut_rest reading cut_reading in
    let count : ℕ = before.count in
    let first : cut_packets ≡ take count packets = cc (cut_are, before.first, take-map to_packet count records, are) in
    let ends_at = λ (n : ℕ).
    subst (λ ps. PacketsEndAt room (Classic reader) (take n ps) bytes (length (concat (take n records)))) (sym are)
    (first_records room reader bytes records rest n reading) in
    record {
      count = count;
      first = first;
      within = (
        length (concat (take count records)),
        subst (λ ps. PacketsEndAt room (Classic reader) ps bytes (length (concat (take count records)))) (sym first) (ends_at count),
        omega (arith, ap (λ rs. length (concat rs)) before.first, before.within),
      );
      next = λ inside. (
        length (concat (take (count + 1) records)),
        ends_at (count + 1),
        before.next (omega (arith, inside, ap length are, length-map records to_packet)),
      );
    }

-- the next packet, if there is one, ends after the cut
next_beyond : (room : ℕ) (reader : PcapngReader) (bytes : List ℕ) (cut : ℕ) (packets cut_packets others : List FilePacket) (rest : List ℕ)
    (after : CaptureReader) → packets ≡ cut_packets ++ others
    → ReadsPackets room (Pcapng reader) (Some bytes) (Some rest) after cut_packets → NextBeyond room after rest (drop cut bytes) others
    → length cut_packets < length packets
    → (len : ℕ) × PacketsEndAt room (Pcapng reader) (take (length cut_packets + 1) packets) bytes len × (cut < len)
next_beyond room reader bytes cut packets cut_packets [] rest after whole read beyond inside =
    absurd (omega (arith, inside, ap length whole, length-append cut_packets []))
next_beyond room reader bytes cut packets cut_packets (packet ∷ others) rest after whole read beyond inside =
    let (last_rest, last_reader, one, fewer) = beyond in
    let first : List FilePacket = cut_packets ++ packet ∷ [] in
    let is_first : take (length cut_packets + 1) packets ≡ first = cc (
      ap (take (length cut_packets + 1)) whole,
      append_assoc cut_packets (packet ∷ []) others,
      take_at first others (length cut_packets + 1) (length_push cut_packets packet),
    ) in (
      length bytes - length last_rest,
      (
        last_rest,
        last_reader,
        subst (λ ps. ReadsPackets room (Pcapng reader) (Some bytes) (Some last_rest) last_reader ps) (sym is_first)
            (packets-push room (Pcapng reader) after last_reader (Some bytes) (Some rest) (Some last_rest) cut_packets packet read one),
        omega (arith, fewer, length-drop cut bytes),
      ),
      omega (arith, fewer, length-drop cut bytes),
    )

-- the packets before a cut of a pcapng file
pcapng_before_cut : (room : ℕ) (reader : PcapngReader)
    → RemainAtCut (HasPackets room (Pcapng reader)) (ArePacketsBeforeCut room (Pcapng reader))
pcapng_before_cut room reader bytes packets next cut cut_packets cut_next has cut_has =
    let (left, after, read, ends) = has in
    let (cut_left, cut_after, cut_read, cut_ends) = cut_has in
    let parts : take cut bytes ++ drop cut bytes ≡ bytes = take-append-drop cut bytes in
    let are : AreFirst room reader (take cut bytes) (drop cut bytes) packets cut_packets next cut_next =
    compared_packets room (drop cut bytes) left cut_left after cut_after next cut_next ends cut_ends reader (take cut bytes) packets
    cut_packets (subst (λ l. ReadsPackets room (Pcapng reader) (Some l) left after packets) (sym parts) read) cut_read in
    let first_read : ReadsPackets room (Pcapng reader) (Some bytes) (Some are.rest) are.after cut_packets =
    subst (λ l. ReadsPackets room (Pcapng reader) (Some l) (Some are.rest) are.after cut_packets) parts are.read in
    record {
      count = length cut_packets;
      first = sym (ap (take (length cut_packets)) are.whole ∙ take_at cut_packets are.others (length cut_packets) refl);
      within = (
        length bytes - length are.rest,
        (are.rest, are.after, first_read, omega (arith, are.fewer, ap length parts)),
        omega (arith, are.within, length-drop cut bytes),
      );
      next = next_beyond room reader bytes cut packets cut_packets are.others are.rest are.after are.whole first_read are.beyond;
    }

pub packets_before_cut : (room : ℕ) (reader : CaptureReader) → RemainAtCut (HasPackets room reader) (ArePacketsBeforeCut room reader)
packets_before_cut room (Classic reader) = classic_before_cut room reader
packets_before_cut room (Pcapng reader) = pcapng_before_cut room reader
