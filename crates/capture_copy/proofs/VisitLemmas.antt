-- The records of a classic capture whose packets are visited.
use Rattle.std.proofs.Common.{◌≡◌, ◌≤◌, ◌<◌, ◌++◌, ◌∙◌, ◌⊎◌, ℕ, List, Bool, true, false, Option, Result, Some, None, Ok, Err, ap, arith, inl, inr, length, length-append, refl, subst, sym, ⊎_elim}
use Rattle.std.proofs.KnownBytes.{Consumes-trans}
use Rattle.std.proofs.lemmas.List.{drop_at, take_at}
use Rattle.std.specs.Io.KnownBytes.{Appends, Consumes, IsAtEnd}
use Rattle.capture_file.proofs.RecordLemmas.{number_at_front, record_header_front, record_len_front}
use Rattle.capture_file.specs.Classic.{record_header}
use Rattle.capture_file.specs.Packets.{classic_time, packet_of_record}
use Rattle.capture_file.specs.declared.classic.capture_header.CaptureHeader.{CaptureHeader}
use Rattle.capture_file.specs.declared.classic.record_header.RecordHeader.{RecordHeader}
use Rattle.capture_file.specs.declared.reader.packet_error.PlacedPacketError.{PlacedPacketError}
use Rattle.capture_numbers.specs.Numbers.{number_at}
use Rattle.capture_numbers.specs.declared.byte_order.ByteOrder.{ByteOrder}
use Rattle.capture_copy.proofs.PartLemmas.{front_if_long, leaves_at_read}
use Rattle.capture_copy.proofs.PassingLemmas.{given_error, next_to_error, next_to_write_error}
use Rattle.capture_copy.proofs.RecordLemmas.{is_record}
use Rattle.capture_copy.specs.Parts.{IsReadError, IsWriteError, PassesLong, WritesFront, format_of}
use Rattle.capture_copy.specs.Passing.{Format, Part, PassesAny, PassesNext, PassesTo, StopsBy, counted_if, counts_after}
use Rattle.capture_copy.specs.Records.{EndsRecord, IsCutRecord, IsLongRecord, IsRecordEnd, IsRecordFront, IsRecordPart, passed, record_time, records_after, records_of}
use Rattle.capture_copy.specs.Visits.{EndsWithEnough, Visits, written_if}
use Rattle.capture_copy.specs.declared.copier.TheConstants.{BUFFER_LEN}
use Rattle.capture_copy.specs.declared.extent.Extent.{Extent}
use Rattle.capture_copy.specs.declared.part_error.PartError.{PartError}
use Rattle.capture_copy.specs.declared.part_error.PartError.TheVariants.{CutOff, Read, Refused, TooManyParts, Write}
use Rattle.capture_copy.specs.declared.records.Records.{Records}

-- ---- whole records

-- the part for a record with this outcome
abbrev pub part_with : {Outcome Counts : Type 0} → Visits Outcome Counts → List ℕ → List ℕ → Outcome → Part Outcome
part_with visits bytes copy outcome = record {
  read = bytes;
  written = written_if (visits.is_written outcome) copy;
  outcome = Some outcome;
}

-- the packet of a record was visited
pub record_visited : {Outcome Counts : Type 0} (visits : Visits Outcome Counts) (capture : CaptureHeader) (first captured after : List ℕ)
    (outcome : Outcome)
    → length first ≡ 16 → length captured ≡ number_at capture.byte_order first 8 → number_at capture.byte_order first 8 ≤ BUFFER_LEN
    → visits.visits (packet_of_record capture (record_header capture.byte_order first)) captured after outcome
    → IsRecordPart visits capture (part_with visits (first ++ captured) (first ++ after) outcome)
record_visited visits capture first captured after outcome has_len counted within visited = record {
  is_record = is_record capture.byte_order first captured has_len counted;
  visited = inl (
    subst (λ n. n ≤ BUFFER_LEN) (sym (number_at_front capture.byte_order first captured 8 (omega (arith, has_len)))) within,
    record {
      after = after;
      outcome = outcome;
      visited = subst (λ frame. visits.visits
          (packet_of_record capture (record_header capture.byte_order (first ++ captured))) frame after outcome)
          (sym (drop_at first captured 16 has_len))
          (subst (λ header. visits.visits (packet_of_record capture header) captured after outcome)
          (sym (record_header_front capture.byte_order first captured (omega (arith, has_len)))) visited);
      is_written = ap (λ front. written_if (visits.is_written outcome) (front ++ after)) (sym (take_at first captured 16 has_len));
      has_outcome = refl;
    },
  );
}

-- the captured length is in the header of a record
pub long_record_front : (capture : CaptureHeader) (first captured : List ℕ) → length first ≡ 16
    → BUFFER_LEN < number_at capture.byte_order first 8 → IsLongRecord capture (first ++ captured)
long_record_front capture first captured has_len beyond =
    subst (λ n. BUFFER_LEN < n) (sym (number_at_front capture.byte_order first captured 8 (omega (arith, has_len)))) beyond

-- the packet of a record does not fit in the buffer
pub long_record_visited : {Outcome Counts : Type 0} (visits : Visits Outcome Counts) (capture : CaptureHeader) (first captured : List ℕ)
    (outcome : Outcome)
    → length first ≡ 16 → length captured ≡ number_at capture.byte_order first 8 → BUFFER_LEN < number_at capture.byte_order first 8
    → visits.visits_long (number_at capture.byte_order first 8) (Some (record_time capture first)) outcome
    → IsRecordPart visits capture (part_with visits (first ++ captured) (first ++ captured) outcome)
long_record_visited visits capture first captured outcome has_len counted beyond visited = record {
  is_record = is_record capture.byte_order first captured has_len counted;
  visited = inr (
    long_record_front capture first captured has_len beyond,
    record {
      outcome = outcome;
      visited = subst (λ header. visits.visits_long header.captured_len (Some (classic_time capture.resolution header.time)) outcome)
          (sym (record_header_front capture.byte_order first captured (omega (arith, has_len)))) visited;
      is_written = refl;
      has_outcome = refl;
    },
  );
}

-- the state after a record
pub after_record : (records after : Records) (header : RecordHeader) (first captured : List ℕ) → length first ≡ 16
    → header ≡ record_header records.header.byte_order first → after ≡ passed records header
    → after ≡ records_after records (first ++ captured)
after_record records after header first captured has_len is_header is =
    is ∙ ap (passed records) (is_header ∙ sym (record_header_front records.header.byte_order first captured (omega (arith, has_len))))

-- ---- ends within a record

-- the bytes of a header and some of the bytes that it counts are a record or its first bytes
pub front_captured : (order : ByteOrder) (first captured : List ℕ) → length first ≡ 16 → length captured ≤ number_at order first 8
    → IsRecordFront order (first ++ captured)
front_captured order first captured has_len within =
    inr (omega (arith, length-append first captured, record_len_front order first captured (omega (arith, has_len)), has_len, within))

-- these bytes were read and written for a part that was not counted
abbrev pub ended : {Outcome : Type 0} → List ℕ → List ℕ → Part Outcome
ended bytes written = record { read = bytes; written = written; outcome = None }

-- the capture ends within a record
pub ends_cut : {Outcome Counts : Type 0} (visits : Visits Outcome Counts) (error : PartError) (records : Records)
    (left still_left held now_held : Option (List ℕ)) (counts : Counts) (bytes written : List ℕ) (required len : ℕ)
    → error ≡ CutOff records.place required len → Consumes left still_left bytes → Appends held now_held written
    → WritesFront visits.writes_all (IsLongRecord records.header bytes) bytes written
    → IsCutRecord records.header.byte_order bytes required len → IsAtEnd still_left
    → IsWriteError error ⊎ StopsBy (records_of visits) error records left still_left held now_held counts counts
ends_cut visits error records left still_left held now_held counts bytes written required len is consumed appended front cut at_end =
    subst (λ given. IsWriteError given ⊎ StopsBy (records_of visits) given records left still_left held now_held counts counts) (sym is)
    (inr (record {
      then_left = still_left;
      front = ended bytes written;
      is_end = (refl, (refl, front), cut);
      consumed = consumed;
      appended = appended;
      counted = refl;
      leaves = (refl, at_end);
    }))

read_end : {Outcome Counts : Type 0} (visits : Visits Outcome Counts) (records : Records) (part : Part Outcome) (error : PartError)
    → IsReadError records.place error → EndsRecord visits records.header part → IsRecordFront records.header.byte_order part.read
    → IsRecordEnd visits records part error
read_end visits records part (CutOff at required len) is ends front = absurd is
read_end visits records part (Refused error) is ends front = absurd is
read_end visits records part (Read at error) is ends front = (is, ends, front)
read_end visits records part TooManyParts is ends front = absurd is
read_end visits records part (Write error) is ends front = absurd is

-- the result if reading failed after these bytes of a record
pub next_to_read_error : {A Outcome Counts : Type 0} (visits : Visits Outcome Counts) (result : Result A PartError) (error : PartError)
    (records after : Records) (left then_left still_left held now_held : Option (List ℕ)) (counts : Counts) (bytes written : List ℕ)
    → IsReadError records.place error → Consumes left then_left bytes → Appends held now_held written
    → WritesFront visits.writes_all (IsLongRecord records.header bytes) bytes written → IsRecordFront records.header.byte_order bytes
    → result ≡ Err error
    → PassesNext (records_of visits) result records after left still_left held now_held counts counts
next_to_read_error visits result error records after left then_left still_left held now_held counts bytes written is consumed appended
    front begins fails =
    next_to_error (records_of visits) result error records after left then_left still_left held now_held counts counts (ended bytes written)
    (read_end visits records (ended bytes written) error is (refl, front) begins) consumed appended refl
    (leaves_at_read records.place error then_left still_left is) fails

-- the result if copying the captured bytes of a long record failed
pub next_long_to_error : {Outcome Counts : Type 0} (visits : Visits Outcome Counts) (result : Result (Option Outcome) PartError)
    (error : PartError) (records after : Records) (left middle still_left held now_held : Option (List ℕ)) (counts : Counts)
    (first : List ℕ) (count : ℕ) (is_written : Bool)
    → length first ≡ 16 → count ≡ number_at records.header.byte_order first 8 → BUFFER_LEN < count
    → (visits.writes_all ≡ true → is_written ≡ true) → Consumes left middle first
    → PassesLong records.place count is_written (Err error) first middle still_left held now_held → result ≡ Err error
    → PassesNext (records_of visits) result records after left still_left held now_held counts
    (counts_after (records_of visits) counts result)
next_long_to_error visits result error records after left middle still_left held now_held counts first count is_written has_len is_count
    beyond all consumed (inl failed) fails =
    given_error (records_of visits) result error records after left still_left held now_held counts
    (next_to_write_error (records_of visits) result error records after left still_left held now_held counts counts failed fails) fails
next_long_to_error visits result error records after left middle still_left held now_held counts first count is_written has_len is_count
    beyond all consumed (inr (is, len, within, then_left, rest)) fails =
    let bytes = first ++ rest.bytes in
    given_error (records_of visits) result error records after left still_left held now_held counts
    (next_to_read_error visits result error records after left then_left still_left held now_held counts bytes
    (written_if is_written bytes) is
    (Consumes-trans left middle then_left first rest.bytes consumed rest.consumed) rest.appended
    (front_if_long visits.writes_all is_written (IsLongRecord records.header bytes) bytes
    (long_record_front records.header first rest.bytes has_len (omega (arith, is_count, beyond))) all)
    (front_captured records.header.byte_order first rest.bytes has_len (omega (arith, rest.has_len, within, is_count))) fails) fails

-- ---- enough packets

-- if nothing is counted once enough packets were read, they are still enough
pub still_enough : {Counts : Type 0} (is_enough : Counts → Bool) (first counts : Counts) → (is_enough first ≡ true → counts ≡ first)
    → is_enough counts ≡ false → is_enough first ≡ true → ⊥
still_enough is_enough first counts same below enough =
    let still : is_enough counts ≡ true = subst (λ given. is_enough given ≡ true) (sym (same enough)) enough in
    cc (sym still ∙ below)

-- no packet is counted up to an error
same_below : {Counts : Type 0} (is_enough : Counts → Bool) (counts now_counts : Counts) → is_enough counts ≡ false → now_counts ≡ counts
    → is_enough now_counts ≡ false
same_below is_enough counts now_counts below same = subst (λ given. is_enough given ≡ false) (sym same) below

-- the error of a format whose ends are not counted ended the copy before enough packets were read
pub error_below : {Outcome Counts : Type 0} (visits : Visits Outcome Counts) (State : Type 0)
    (IsPart : State → Part Outcome → State → Type 0)
    (IsEnd : State → Part Outcome → PartError → Type 0) (is_enough : Counts → Bool) (error : PartError) (state : State)
    (left still_left held now_held : Option (List ℕ)) (counts now_counts : Counts)
    → ((part : Part Outcome) → IsEnd state part error → part.outcome ≡ None) → is_enough counts ≡ false
    → (IsWriteError error
    ⊎ StopsBy (format_of visits State IsPart IsEnd) error state left still_left held now_held counts now_counts)
    → EndsWithEnough (is_enough now_counts) (Err error)
error_below visits State IsPart IsEnd is_enough (CutOff place required len) state left still_left held now_held counts now_counts uncounted
    below (inl failed) = absurd failed
error_below visits State IsPart IsEnd is_enough (CutOff place required len) state left still_left held now_held counts now_counts uncounted
    below (inr stops) =
    same_below is_enough counts now_counts below
    (stops.counted ∙ ap (counted_if (format_of visits State IsPart IsEnd) counts) (uncounted stops.front stops.is_end))
error_below visits State IsPart IsEnd is_enough (Refused error) state left still_left held now_held counts now_counts uncounted below
    (inl failed) = absurd failed
error_below visits State IsPart IsEnd is_enough (Refused error) state left still_left held now_held counts now_counts uncounted below
    (inr stops) =
    same_below is_enough counts now_counts below
    (stops.counted ∙ ap (counted_if (format_of visits State IsPart IsEnd) counts) (uncounted stops.front stops.is_end))
error_below visits State IsPart IsEnd is_enough (Read place error) state left still_left held now_held counts now_counts uncounted below
    (inl failed) = absurd failed
error_below visits State IsPart IsEnd is_enough (Read place error) state left still_left held now_held counts now_counts uncounted below
    (inr stops) =
    same_below is_enough counts now_counts below
    (stops.counted ∙ ap (counted_if (format_of visits State IsPart IsEnd) counts) (uncounted stops.front stops.is_end))
error_below visits State IsPart IsEnd is_enough TooManyParts state left still_left held now_held counts now_counts uncounted below ends = tt
error_below visits State IsPart IsEnd is_enough (Write error) state left still_left held now_held counts now_counts uncounted below
    ends = tt

-- no packet is counted for the first bytes of a record
uncounted : {Outcome Counts : Type 0} (visits : Visits Outcome Counts) (records : Records) (error : PartError) (part : Part Outcome)
    → IsRecordEnd visits records part error → part.outcome ≡ None
uncounted visits records (CutOff place required len) part is = is.1.0
uncounted visits records (Refused error) part is = absurd is
uncounted visits records (Read place error) part is = is.1.0
uncounted visits records TooManyParts part is = absurd is
uncounted visits records (Write error) part is = absurd is

-- an error ended the copy before enough packets were read
pub ends_below : {Outcome Counts : Type 0} (visits : Visits Outcome Counts) (is_enough : Counts → Bool) (result : Result Extent PartError)
    (error : PartError) (state : Records) (left still_left held now_held : Option (List ℕ)) (counts now_counts : Counts)
    → is_enough counts ≡ false
    → (IsWriteError error ⊎ StopsBy (records_of visits) error state left still_left held now_held counts now_counts)
    → result ≡ Err error → EndsWithEnough (is_enough now_counts) result
ends_below visits is_enough result error state left still_left held now_held counts now_counts below ends fails =
    subst (EndsWithEnough (is_enough now_counts)) (sym fails)
    (error_below visits Records (records_of visits).IsPart (records_of visits).IsEnd is_enough error state left still_left held now_held
    counts now_counts (uncounted visits state error) below ends)

-- there is no part after the last, and enough packets were not read
pub none_below : (format : Format) (is_enough : format.Counts → Bool) (is_any : Bool)
    (before after : format.State) (left still_left held now_held : Option (List ℕ)) (counts now_counts : format.Counts)
    → is_enough counts ≡ false
    → PassesAny format (Ok is_any) before after left still_left held now_held counts now_counts → is_any ≡ false
    → is_enough now_counts ≡ false
none_below format is_enough true before after left still_left held now_held counts now_counts below one is = absurd (cc is)
none_below format is_enough false before after left still_left held now_held counts now_counts below none is =
    same_below is_enough counts now_counts below none.3

-- ---- whole captures

-- the same copy of records, from an equal state
pub passes_from : {Outcome Counts : Type 0} (visits : Visits Outcome Counts) (result : Result Extent PartError)
    (before start after : Records) (left still_left held now_held : Option (List ℕ)) (counts now_counts : Counts)
    → before ≡ start → PassesTo (records_of visits) result before after left still_left held now_held counts now_counts
    → PassesTo (records_of visits) result start after left still_left held now_held counts now_counts
passes_from visits result before start after left still_left held now_held counts now_counts same passes =
    subst (λ given. PassesTo (records_of visits) result given after left still_left held now_held counts now_counts) same passes

-- no block is refused in a classic capture
pub refuses_no_record : {Outcome Counts : Type 0} (visits : Visits Outcome Counts) (error : PlacedPacketError) (before after : Records)
    (left still_left held now_held : Option (List ℕ)) (counts now_counts : Counts)
    → PassesTo {A = Extent} (records_of visits) (Err (Refused error)) before after left still_left held now_held counts now_counts → ⊥
refuses_no_record visits error before after left still_left held now_held counts now_counts (inl none) = none
refuses_no_record visits error before after left still_left held now_held counts now_counts (inr ends) =
    ⊎_elim (λ stops. stops.is_end) (λ number. cc number.is) ends.stops
