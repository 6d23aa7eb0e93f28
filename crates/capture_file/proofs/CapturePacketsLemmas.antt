-- Laws of the packets of a capture: the packets read from a stream are the packets of its bytes.
use Rattle.std.proofs.lemmas.Bool.Decides.{nat_tests}
use Rattle.std.proofs.Common.{◌≡◌, ℕ, List, [], ◌∷◌, ◌++◌, map, Option, Some, None, Ok, IfSome, arith, length, drop, refl, sym, ap, ◌∙◌, inr, subst}
use Rattle.std.proofs.KnownBytes.{Consumes-nil, Consumes-trans}
use Rattle.std.proofs.lemmas.List.{drop_at, take_at}
use Rattle.std.specs.List.{concat}
use Rattle.capture_file.proofs.ReadingLemmas.{reading_at_last}
use Rattle.capture_file.specs.Classic.{IsHeaderOf, IsReading, IsRecord}
use Rattle.capture_file.specs.CapturePackets.{BeginsInput, BeginsWith, BeginsWithPackets, EndsWith, HasPackets, FilePacket, ReadsOne, ReadsPackets, next_after, packet_in, record_packet}
use Rattle.capture_file.specs.Opening.{ReadsBeginning}
use Rattle.capture_file.specs.Packets.{next_by_record}
use Rattle.capture_file.specs.Reading.{GivesHeader, ReadsNext, ReadsRecords}
use Rattle.capture_file.specs.declared.classic.capture_header.CaptureHeader.{CaptureHeader}
use Rattle.capture_file.specs.declared.classic.read.NextRecord.{NextRecord}
use Rattle.capture_file.specs.declared.classic.read.NextRecord.TheVariants.{CutOff, End, TooLong, Whole}
use Rattle.capture_file.specs.declared.reader.capture_reader.CaptureReader.{CaptureReader}
use Rattle.capture_file.specs.declared.reader.capture_reader.CaptureReader.TheVariants.{Classic, Pcapng}
use Rattle.capture_file.specs.declared.reader.capture_reader.ClassicReader.{ClassicReader}
use Rattle.capture_file.specs.declared.reader.next_packet.NextPacket.{NextPacket}

-- packets that are read after other packets
pub packets_append : (room : ℕ) (a b c : CaptureReader) (left middle still_left : Option (List ℕ)) (packets others : List FilePacket)
    → ReadsPackets room a left middle b packets → ReadsPackets room b middle still_left c others
    → ReadsPackets room a left still_left c (packets ++ others)
packets_append room a b c left middle still_left [] others read more =
    subst (λ r. ReadsPackets room r left still_left c others) read.0 (subst (λ l. ReadsPackets room b l still_left c others) read.1 more)
packets_append room a b c left middle still_left (p ∷ ps) others read more =
    (read.0, read.1, read.2, packets_append room read.0 b c read.1 middle still_left ps others read.3 more)

-- a packet that is read after other packets
pub packets-push : (room : ℕ) (a b c : CaptureReader) (left middle still_left : Option (List ℕ)) (packets : List FilePacket)
    (packet : FilePacket)
    → ReadsPackets room a left middle b packets → ReadsOne room b middle still_left c packet
    → ReadsPackets room a left still_left c (packets ++ packet ∷ [])
packets-push room a b c left middle still_left packets packet read one =
    packets_append room a b c left middle still_left packets (packet ∷ []) read (c, still_left, one, (refl, refl))

-- ---- a classic capture

-- a record that was read is its packet
record_read : (room : ℕ) (capture : CaptureHeader) (left still_left : Option (List ℕ)) (buffer : List ℕ) (next : NextRecord)
    (packet : FilePacket)
    → length buffer ≡ room → (reads : ReadsNext capture.byte_order left still_left buffer next)
    → packet_in buffer (next_by_record capture next) ≡ Some packet
    → IsRecord capture.byte_order reads.bytes × (packet ≡ record_packet room capture reads.bytes)
record_read room capture left still_left buffer (Whole header) packet has_room reads gives = grind (arith, nat_tests)
record_read room capture left still_left buffer (TooLong header) packet has_room reads gives = grind (arith, nat_tests)
record_read room capture left still_left buffer End packet has_room reads gives = absurd (cc gives)
record_read room capture left still_left buffer (CutOff required len) packet has_room reads gives = absurd (cc gives)

-- these packets were read from these records
record ReadsClassic (room : ℕ) (reader : ClassicReader) (left still_left : Option (List ℕ)) (after : CaptureReader)
    (packets : List FilePacket) : Type 0 where
  records : List (List ℕ)
  read : ReadsRecords reader.header.byte_order left still_left records
  are_packets : packets ≡ map (record_packet room reader.header) records
  last : ClassicReader
  is_last : after ≡ Classic last
  same : last.header ≡ reader.header

classic_packets : (room : ℕ) (reader : ClassicReader) (left still_left : Option (List ℕ)) (after : CaptureReader)
    (packets : List FilePacket)
    → ReadsPackets room (Classic reader) left still_left after packets → ReadsClassic room reader left still_left after packets
classic_packets room reader left still_left after [] read = record {
  records = [];
  read = subst (λ l. ReadsRecords reader.header.byte_order left l []) (sym read.1) (record { each = tt; consumed = Consumes-nil left });
  are_packets = refl;
  last = reader;
  is_last = read.0;
  same = refl;
}
classic_packets room reader left still_left after (packet ∷ packets) read =
    let (middle_reader, middle, one, others) = read in
    let (now, is_now, by_record) = one.reads in
    let bytes : List ℕ = by_record.reads.bytes in
    let (is, is_packet) =
    record_read room reader.header left middle one.buffer by_record.next_record packet one.has_room by_record.reads
    (subst (λ n. packet_in one.buffer n ≡ Some packet) by_record.is one.gives) in
    let more =
    classic_packets room now middle still_left after packets
    (subst (λ r. ReadsPackets room r middle still_left after packets) is_now others) in
    let rest = subst (λ h. ReadsRecords h.byte_order middle still_left more.records) by_record.header more.read in
    let all = Consumes-trans left middle still_left bytes (concat more.records) by_record.reads.consumed rest.consumed in
    let are : packets ≡ map (record_packet room reader.header) more.records =
    more.are_packets ∙ ap (λ h. map (record_packet room h) more.records) by_record.header in
    record {
      records = bytes ∷ more.records;
      read = record { each = (is, rest.each); consumed = all };
      are_packets = cc (is_packet, are);
      last = more.last;
      is_last = more.is_last;
      same = more.same ∙ by_record.header;
    }

-- the next item after the last record ends the packets
record_ends : (room : ℕ) (capture : CaptureHeader) (left middle still_left : Option (List ℕ)) (buffer : List ℕ) (next : NextRecord)
    (records : List (List ℕ)) → ReadsRecords capture.byte_order left middle records
    → (reads : ReadsNext capture.byte_order middle still_left buffer next) → packet_in buffer (next_by_record capture next) ≡ None
    → IfSome left (λ bytes. IsReading capture.byte_order bytes records reads.bytes)
    × (next_by_record capture next ≡ next_after capture.byte_order reads.bytes)
record_ends room capture left middle still_left buffer (Whole header) records read reads none = absurd (cc none)
record_ends room capture left middle still_left buffer (TooLong header) records read reads none = absurd (cc none)
record_ends room capture left middle still_left buffer End records read reads none = grind (arith, nat_tests, reading_at_last)
record_ends room capture left middle still_left buffer (CutOff required len) records read reads none = (
  reading_at_last capture.byte_order left middle still_left records buffer (CutOff required len) (inr (required, len, refl)) read reads,
  grind (arith, reads.is_next.0, reads.is_next.2, reads.is_next.3),
)

classic_ends : (room : ℕ) (reader last : ClassicReader) (left middle : Option (List ℕ)) (records : List (List ℕ))
    (packets : List FilePacket)
    (next : NextPacket) → last.header ≡ reader.header → ReadsRecords reader.header.byte_order left middle records
    → packets ≡ map (record_packet room reader.header) records → EndsWith room (Classic last) middle next
    → IfSome left (λ bytes. HasPackets room (Classic reader) bytes packets next)
classic_ends room reader last None middle records packets next same read are ends = tt
classic_ends room reader last (Some all) middle records packets next same read are ends =
    let (now, is_now, by_record) = ends.reads in
    let (reading, is_next) =
    record_ends room last.header (Some all) middle ends.still_left ends.buffer by_record.next_record records
    (subst (λ h. ReadsRecords h.byte_order (Some all) middle records) (sym same) read) by_record.reads
    (subst (λ n. packet_in ends.buffer n ≡ None) by_record.is ends.no_packet) in (
      records,
      by_record.reads.bytes,
      subst (λ h. IsReading h.byte_order all records by_record.reads.bytes) same reading,
      are,
      cc
          (by_record.is, is_next, same),
    )

-- ---- either format

-- the packets that were read up to the end are the packets of the bytes
pub has_packets : (room : ℕ) (reader after : CaptureReader) (left middle : Option (List ℕ)) (packets : List FilePacket) (next : NextPacket)
    → ReadsPackets room reader left middle after packets → EndsWith room after middle next
    → IfSome left (λ bytes. HasPackets room reader bytes packets next)
has_packets room (Classic reader) after left middle packets next read ends =
    let by_records = classic_packets room reader left middle after packets read in
    classic_ends room reader by_records.last left middle by_records.records packets next by_records.same by_records.read
    by_records.are_packets
    (subst (λ r. EndsWith room r middle next) by_records.is_last ends)
has_packets room (Pcapng reader) after None middle packets next read ends = tt
has_packets room (Pcapng reader) after (Some all) middle packets next read ends = (middle, after, read, ends)

-- the bytes begin with the packets that were read
pub begins_with_packets : (room : ℕ) (reader after : CaptureReader) (left still_left : Option (List ℕ)) (packets : List FilePacket)
    → ReadsPackets room reader left still_left after packets → IfSome left (BeginsWithPackets room reader packets)
begins_with_packets room reader after None still_left packets read = tt
begins_with_packets room (Pcapng reader) after (Some all) still_left packets read = (still_left, after, read)
begins_with_packets room (Classic reader) after (Some all) None packets read =
    absurd (classic_packets room reader (Some all) None after packets read).read.consumed
begins_with_packets room (Classic reader) after (Some all) (Some rest) packets read =
    let by_records = classic_packets room reader (Some all) (Some rest) after packets read in
    (by_records.records, rest, by_records.read.consumed, by_records.read.each, by_records.are_packets)

-- ---- the beginning of a file

-- the header that was read is the header of the capture, and the other bytes follow the header
begins_with : (all more : List ℕ) (header : CaptureHeader) → GivesHeader (Some all) (Some more) header
    → BeginsWith header all × (more ≡ drop 24 all)
begins_with all more header gives = (
  record {
    accepted = grind (arith, take_at gives.bytes more 24 gives.has_len);
    is_header = subst (λ bytes. IsHeaderOf bytes header) (cc (gives.consumed, take_at gives.bytes more 24 gives.has_len)) gives.is_header;
  },
  grind (arith, drop_at gives.bytes more 24 gives.has_len),
)

-- the packets are read from the bytes after the header
pub begins_input : (room : ℕ) (reader : CaptureReader) (left still_left : Option (List ℕ)) (buffer : List ℕ) → length buffer ≡ room
    → ReadsBeginning left still_left buffer (Ok reader) → BeginsInput room reader left still_left
begins_input room reader None still_left buffer has_room begins = tt
begins_input room (Classic reader) (Some all) None buffer has_room begins = absurd begins.0.consumed
begins_input room (Classic reader) (Some all) (Some rest) buffer has_room begins =
    let (is, after) = begins_with all rest reader.header begins.0 in
    (is, begins.1, after)
begins_input room (Pcapng reader) (Some all) None buffer has_room begins = absurd begins.reads.consumed
begins_input room (Pcapng reader) (Some all) (Some rest) buffer has_room begins = (buffer, has_room, begins)
