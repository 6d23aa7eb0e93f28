-- The law of the reader after packets: the bytes determine it.
use Rattle.std.proofs.Common.{◌≡◌, ℕ, zero, suc, ◌+◌, ◌-◌, ◌^◌, List, [], ◌∷◌, ◌++◌, Option, Some, None, arith, length, refl, sym, ap, ◌∙◌, subst, append-nil, ⊎_elim}
use Rattle.std.specs.Prelude.{min}
use Rattle.capture_file.proofs.CapturePacketsLaws.{ReadsSaid, ReadsUpTo, compared_said, said_one, says_something, up_to}
use Rattle.capture_file.proofs.StepLaws.{compared_steps, given, one_step}
use Rattle.capture_file.specs.CapturePackets.{EndsWith, FilePacket, ReadsOne, ReadsPackets, kept, packet_in, too_long}
use Rattle.capture_file.specs.Packets.{ReadsRecordPacket, next_by_record, offset_by_record}
use Rattle.capture_file.specs.Readers.{LeavesOneReader}
use Rattle.capture_file.specs.declared.classic.capture_header.CaptureHeader.{CaptureHeader}
use Rattle.capture_file.specs.declared.classic.read.NextRecord.{NextRecord}
use Rattle.capture_file.specs.declared.classic.read.NextRecord.TheVariants.{CutOff, End, TooLong, Whole}
use Rattle.capture_file.specs.declared.reader.capture_reader.CaptureReader.{CaptureReader}
use Rattle.capture_file.specs.declared.reader.capture_reader.CaptureReader.TheVariants.{Classic, Pcapng}
use Rattle.capture_file.specs.declared.reader.capture_reader.ClassicReader.{ClassicReader}
use Rattle.capture_file.specs.declared.reader.next_packet.NextPacket.{NextPacket}
use Rattle.capture_file.specs.declared.reader.pcapng_reader.PcapngReader.{PcapngReader}

-- ---- a classic capture: its reader is its header and a place

-- a reader with this header, at this place
abbrev classic_of : CaptureHeader → ℕ → ClassicReader
classic_of header offset = record { header = header; offset = offset }

-- two readers with the same header at the same place are the same
same_classic : (a b : ClassicReader) → a.header ≡ b.header → a.offset ≡ b.offset → a ≡ b
same_classic a b header offset = ap (λ h. classic_of h a.offset) header ∙ ap (classic_of b.header) offset

-- the number of captured bytes of a packet, which were read whether they were kept or not
abbrev captured_len_of : FilePacket → ℕ
captured_len_of (kept packet bytes) = packet.captured_len
captured_len_of (too_long packet) = packet.required_len

-- the place of a classic reader after a packet
offset_by_packet : (capture : CaptureHeader) (offset : ℕ) (buffer : List ℕ) (next : NextRecord) (packet : FilePacket)
    → packet_in buffer (next_by_record capture next) ≡ Some packet
    → offset_by_record offset next ≡ min (offset + (16 + captured_len_of packet)) (2 ^ 64 - 1)
offset_by_packet capture offset buffer (Whole header) packet gives = grind (arith, gives)
offset_by_packet capture offset buffer (TooLong header) packet gives = grind (arith, gives)
offset_by_packet capture offset buffer End packet gives = absurd (cc gives)
offset_by_packet capture offset buffer (CutOff required len) packet gives = absurd (cc gives)

-- the classic reader after a packet
abbrev classic_after : ClassicReader → FilePacket → ClassicReader
classic_after before packet = classic_of before.header (min (before.offset + (16 + captured_len_of packet)) (2 ^ 64 - 1))

-- a packet determines the reader after it
after_classic_one : (room : ℕ) (before : ClassicReader) (left still_left : Option (List ℕ)) (after : CaptureReader) (packet : FilePacket)
    → ReadsOne room (Classic before) left still_left after packet → after ≡ Classic (classic_after before packet)
after_classic_one room before left still_left after packet one =
    let (reader, is, by_record) = one.reads in
    let gives : packet_in one.buffer (next_by_record before.header by_record.next_record) ≡ Some packet =
    subst (λ n. packet_in one.buffer n ≡ Some packet) by_record.is one.gives in
    let offset : reader.offset ≡ (classic_after before packet).offset =
    by_record.offset ∙ offset_by_packet before.header before.offset one.buffer by_record.next_record packet gives in
    is ∙ ap Classic (same_classic reader (classic_after before packet) by_record.header offset)

-- packets determine the reader after them
after_classic : (room : ℕ) (before : ClassicReader) (left still_left other_left other_still : Option (List ℕ)) (after other : CaptureReader)
    (packets : List FilePacket) → ReadsPackets room (Classic before) left still_left after packets
    → ReadsPackets room (Classic before) other_left other_still other packets
    → (reader : ClassicReader) × (after ≡ Classic reader) × (other ≡ Classic reader)
after_classic room before left still_left other_left other_still after other [] read other_read = (before, read.0, other_read.0)
after_classic room before left still_left other_left other_still after other (packet ∷ packets) read other_read =
    let (mid, middle, one, others) = read in
    let (other_mid, other_middle, other_one, other_others) = other_read in
    after_classic room (classic_after before packet) middle still_left other_middle other_still after other packets
    (subst (λ r. ReadsPackets room r middle still_left after packets) (after_classic_one room before left middle mid packet one) others)
    (subst (λ r. ReadsPackets room r other_middle other_still other packets)
    (after_classic_one room before other_left other_middle other_mid packet other_one) other_others)

-- the place of a classic reader after an item that is not a packet
offset_at_end : (capture : CaptureHeader) (offset : ℕ) (buffer : List ℕ) (next : NextRecord)
    → packet_in buffer (next_by_record capture next) ≡ None → offset_by_record offset next ≡ offset
offset_at_end capture offset buffer (Whole header) none = absurd (cc none)
offset_at_end capture offset buffer (TooLong header) none = absurd (cc none)
offset_at_end capture offset buffer End none = refl
offset_at_end capture offset buffer (CutOff required len) none = refl

-- the reader stays at an item that is not a packet
classic_end : (room : ℕ) (before : ClassicReader) (left : Option (List ℕ)) (next : NextPacket)
    (ends : EndsWith room (Classic before) left next)
    → ends.after ≡ Classic before
classic_end room before left next ends =
    let (reader, is, by_record) = ends.reads in
    let none : packet_in ends.buffer (next_by_record before.header by_record.next_record) ≡ None =
    subst (λ n. packet_in ends.buffer n ≡ None) by_record.is ends.no_packet in
    let offset : reader.offset ≡ before.offset =
    by_record.offset ∙ offset_at_end before.header before.offset ends.buffer by_record.next_record none in
    is ∙ ap Classic (same_classic reader before by_record.header offset)

-- ---- a pcapng file: its blocks, read twice from the same bytes

-- the readers after the next block with an item, read twice from the same bytes
module _ (room : ℕ) (left other_left : Option (List ℕ)) (after other : PcapngReader) (buffer other_buffer : List ℕ)
    (next other_next : NextPacket) (is_room : length buffer ≡ room) (other_is_room : length other_buffer ≡ room) where
  one_up_to : (count other_count : ℕ) (before : PcapngReader) (all : List ℕ)
      → ReadsUpTo room count before (all ++ []) left after buffer next
      → ReadsUpTo room other_count before all other_left other other_buffer other_next → after ≡ other
  one_up_to zero zero before all reads other_reads =
      one_step before all [] left other_left after other buffer other_buffer (Some next) (Some other_next) refl
      (is_room ∙ sym other_is_room)
      reads other_reads
  one_up_to zero (suc other_count) before all reads other_reads =
      let (reader, rest, passed, has_room, step, others) = other_reads in
      let compared =
      compared_steps before all [] left (Some rest) after reader buffer passed (Some next) None (is_room ∙ sym has_room) reads step in
      absurd (⊎_elim (λ same. says_something (packet_in buffer next) next same.says) (λ ends. cc ends.first_ends) compared)
  one_up_to (suc count) zero before all reads other_reads =
      let (reader, rest, passed, has_room, step, others) = reads in
      let compared = compared_steps before all [] (Some rest) other_left reader other passed other_buffer None (Some other_next)
      (has_room ∙ sym other_is_room) step other_reads in
      absurd (⊎_elim (λ same. says_something (packet_in other_buffer other_next) other_next (sym same.says))
      (λ ends. cc (ends.ends refl)) compared)
  one_up_to (suc count) (suc other_count) before all reads other_reads =
      let (reader, rest, passed, has_room, step, others) = reads in
      let (other_reader, other_rest, other_passed, other_has_room, other_step, other_others) = other_reads in
      ⊎_elim
      (λ same. one_up_to count other_count reader same.rest (grind (arith, same.left_is)) (grind (arith, same.first_left_is, same.readers)))
      (λ ends. absurd (cc ends.first_ends))
      (compared_steps before all [] (Some rest) (Some other_rest) reader other_reader passed other_passed None None
      (has_room ∙ sym other_has_room) step other_step)

-- one packet read twice leads to the same reader, with the same bytes left
one_said : (room : ℕ) (before after other : PcapngReader) (all : List ℕ) (left other_left : Option (List ℕ)) (packet : FilePacket)
    → ReadsSaid room before (Some all) left after (given packet) → ReadsSaid room before (Some all) other_left other (given packet)
    → (after ≡ other) × (rest : List ℕ) × (left ≡ Some rest) × (other_left ≡ Some rest)
one_said room before after other all left other_left packet reads other_reads =
    let whole = subst (λ l. ReadsSaid room before (Some l) left after (given packet)) (sym (append-nil all)) reads in
    ⊎_elim
    (λ same. (same.readers, same.rest, same.left_is ∙ ap Some (append-nil same.rest), same.first_left_is))
    (λ here. absurd (cc here.first_ends))
    (compared_said room before all [] left other_left after other (given packet) (given packet) whole other_reads)

-- both reads lead to the same reader, with the same bytes left
record IsOneState (after other : CaptureReader) (left other_left : Option (List ℕ)) : Type 0 where
  reader : PcapngReader
  rest : List ℕ
  after_is : after ≡ Pcapng reader
  other_is : other ≡ Pcapng reader
  left_is : left ≡ Some rest
  other_left_is : other_left ≡ Some rest

-- packets read twice lead to the same reader, with the same bytes left
after_pcapng : (room : ℕ) (before : PcapngReader) (all : List ℕ) (left other_left : Option (List ℕ)) (after other : CaptureReader)
    (packets : List FilePacket) → ReadsPackets room (Pcapng before) (Some all) left after packets
    → ReadsPackets room (Pcapng before) (Some all) other_left other packets → IsOneState after other left other_left
after_pcapng room before all left other_left after other [] read other_read = record {
  reader = before;
  rest = all;
  after_is = read.0;
  other_is = other_read.0;
  left_is = read.1;
  other_left_is = other_read.1;
}
after_pcapng room before all left other_left after other (packet ∷ packets) read other_read =
    let (mid, middle, one, others) = read in
    let (other_mid, other_middle, other_one, other_others) = other_read in
    let (now, is, said) = said_one room before (Some all) middle mid packet one in
    let (other_now, other_is, other_said) = said_one room before (Some all) other_middle other_mid packet other_one in
    let (same, rest, left_is, other_left_is) = one_said room before now other_now all middle other_middle packet said other_said in
    after_pcapng room now rest left other_left after other packets
    (subst (λ l. ReadsPackets room (Pcapng now) l left after packets) left_is
    (subst (λ r. ReadsPackets room r middle left after packets) is others))
    (subst (λ l. ReadsPackets room (Pcapng now) l other_left other packets) other_left_is
    (subst (λ r. ReadsPackets room r other_middle other_left other packets) (other_is ∙ ap Pcapng (sym same)) other_others))

-- two ends of the packets lead to the same reader
pcapng_ends : (room : ℕ) (before : PcapngReader) (all : List ℕ) (next : NextPacket)
    (ends other : EndsWith room (Pcapng before) (Some all) next)
    → ends.after ≡ other.after
pcapng_ends room before all next ends other =
    let (reader, is, reads) = ends.reads in
    let (other_reader, other_is, other_reads) = other.reads in
    let (count, up) = up_to before reader all ends.still_left ends.buffer next reads in
    let (other_count, other_up) = up_to before other_reader all other.still_left other.buffer next other_reads in
    let same : reader ≡ other_reader =
    one_up_to room ends.still_left other.still_left reader other_reader ends.buffer other.buffer next next ends.has_room other.has_room
    count
    other_count before all
    (subst (λ l. ReadsUpTo room count before l ends.still_left reader ends.buffer next) (sym (append-nil all))
    (subst (λ n. ReadsUpTo n count before all ends.still_left reader ends.buffer next) ends.has_room up))
    (subst (λ n. ReadsUpTo n other_count before all other.still_left other_reader other.buffer next) other.has_room other_up) in
    is ∙ ap Pcapng same ∙ sym other_is

-- ---- either format

-- two ends of the packets have the same item if the reader and the bytes left are the same
same_ends : (room : ℕ) (reader : PcapngReader) (rest : List ℕ) (next : NextPacket) (after other : CaptureReader)
    (left other_left : Option (List ℕ))
    → after ≡ Pcapng reader → other ≡ Pcapng reader → left ≡ Some rest → other_left ≡ Some rest
    → (ends : EndsWith room after left next) (other_ends : EndsWith room other other_left next) → ends.after ≡ other_ends.after
same_ends room reader rest next after other left other_left after_is other_is left_is other_left_is =
    rw (after_is, other_is, left_is, other_left_is) (pcapng_ends room reader rest next)

-- two ends of the packets of a classic capture have the same item if the reader is the same
same_classic_ends : (room : ℕ) (reader : ClassicReader) (next : NextPacket) (after other : CaptureReader)
    (left other_left : Option (List ℕ))
    → after ≡ Classic reader → other ≡ Classic reader
    → (ends : EndsWith room after left next) (other_ends : EndsWith room other other_left next) → ends.after ≡ other_ends.after
same_classic_ends room reader next after other left other_left after_is other_is =
    rw (after_is, other_is)
    (λ ends other_ends. classic_end room reader left next ends ∙ sym (classic_end room reader other_left next other_ends))

pub leaves_one_reader : (room : ℕ) (reader : CaptureReader) (bytes : List ℕ) → LeavesOneReader room reader bytes
leaves_one_reader room (Classic reader) bytes = record {
  packets = λ packets left other_left after other read other_read.
      let (last, is, other_is) = after_classic room reader (Some bytes) left (Some bytes) other_left after other packets read other_read in
      is ∙ sym other_is;
  ends = λ packets next left other_left after other read other_read.
      let (last, is, other_is) = after_classic room reader (Some bytes) left (Some bytes) other_left after other packets read other_read in
      same_classic_ends room last next after other left other_left is other_is;
}
leaves_one_reader room (Pcapng reader) bytes = record {
  packets = λ packets left other_left after other read other_read.
      let state = after_pcapng room reader bytes left other_left after other packets read other_read in
      state.after_is ∙ sym state.other_is;
  ends = λ packets next left other_left after other read other_read.
      let state = after_pcapng room reader bytes left other_left after other packets read other_read in
      same_ends room state.reader state.rest next after other left other_left state.after_is state.other_is state.left_is
      state.other_left_is;
}
