-- Laws of loops that read a capture record by record. The bytes read so far are records. At the end, the records are the reading of all
-- bytes that the reader had.
use Rattle.std.proofs.Common.{◌≡◌, ◌⊎◌, ℕ, ◌<◌, ◌≤◌, List, [], ◌∷◌, ◌++◌, None, Some, Option, IfSome, arith, inl, inr, length, take, sym, ap, ◌∙◌, append_assoc, append-nil, length-append, length-take-le}
use Rattle.std.proofs.lemmas.Bool.Decides.{nat_tests}
use Rattle.std.proofs.lemmas.List.{drop_at}
use Rattle.std.proofs.KnownBytes.{Consumes-trans}
use Rattle.std.specs.List.{AllByRecursion, concat}
use Rattle.std.specs.Io.KnownBytes.{Consumes, IsAtEnd}
use Rattle.capture_file.proofs.RecordLemmas.{record_header_front, record_len_front}
use Rattle.capture_file.specs.Classic.{record_header, IsPartial, IsReading, IsRecord}
use Rattle.capture_numbers.specs.Numbers.{number_at}
use Rattle.capture_file.specs.Reading.{FailsInRecord, IsCaptured, IsNext, ReadsCaptured, ReadsNext, ReadsRecords}
use Rattle.streams.specs.Streams.{ReadsFewer}
use Rattle.capture_numbers.specs.declared.byte_order.ByteOrder.{ByteOrder}
use Rattle.capture_file.specs.declared.classic.read.NextRecord.{NextRecord}
use Rattle.capture_file.specs.declared.classic.read.NextRecord.TheVariants.{CutOff, End, TooLong, Whole}
use Rattle.capture_file.specs.declared.classic.record_header.RecordHeader.{RecordHeader}

-- ---- one record: its header, and then its captured bytes

-- a header and the bytes that it counts are a record
is_record : (order : ByteOrder) (first captured : List ℕ) → length first ≡ 16 → length captured ≡ number_at order first 8
    → IsRecord order (first ++ captured)
is_record order first captured has_len counted =
    omega (arith, length-append first captured, record_len_front order first captured (omega (arith, has_len)), has_len, counted)

-- the next item, given a header and the captured bytes after it
is_next : (order : ByteOrder) (first captured buffer : List ℕ) (next : NextRecord) → length first ≡ 16
    → IsCaptured (record_header order first) captured buffer next → IsNext order (first ++ captured) buffer next
is_next order first captured buffer (Whole header) has_len is =
    let same = record_header_front order first captured (omega (arith, has_len)) in
    let len = ap (λ h. h.captured_len) is.0 in (
      is_record order first captured has_len is.1,
      is.0 ∙ sym same,
      omega (arith, len, is.2),
      ap (λ n. take n buffer) len ∙ is.3 ∙ sym (drop_at first captured 16 has_len),
    )
is_next order first captured buffer (TooLong header) has_len is = grind (arith, nat_tests, record_header_front, is_record)
is_next order first captured buffer End has_len is = absurd is
is_next order first captured buffer (CutOff required len) has_len is =
    let total = length-append first captured in
    let record_len_is = record_len_front order first captured (omega (arith, has_len)) in (
      λ none. omega (arith, ap length none, total, has_len),
      inr (omega (arith, total, record_len_is, has_len, is.0)),
      grind (arith, nat_tests, total, record_len_is, is.1),
      omega (arith, total, has_len, is.2),
    )

pub next_after_header : (order : ByteOrder) (left middle still_left : Option (List ℕ)) (first buffer : List ℕ) (next : NextRecord)
    → length first ≡ 16 → Consumes left middle first → ReadsCaptured (record_header order first) middle still_left buffer next
    → ReadsNext order left still_left buffer next
next_after_header order left middle still_left first buffer next has_len consumed captured = record {
  bytes = first ++ captured.bytes;
  consumed = Consumes-trans left middle still_left first captured.bytes consumed captured.consumed;
  is_next = is_next order first captured.bytes buffer next has_len captured.is_captured;
  is_last = captured.is_last;
}

-- the input ends within the header of a record
pub cut_off_in_header : (order : ByteOrder) (left still_left : Option (List ℕ)) (first buffer : List ℕ) (len : ℕ) → len ≤ length first
    → 1 ≤ len
    → len < 16 → Consumes left still_left (take len first) → IsAtEnd still_left → ReadsNext order left still_left buffer (CutOff 16 len)
cut_off_in_header order left still_left first buffer len within some short consumed end =
    let has_len = length-take-le len first within in
    record {
      bytes = take len first;
      consumed = consumed;
      is_next = (
        λ none. omega (arith, ap length none, has_len, some),
        inl (omega (arith, has_len, short)),
        grind (arith, nat_tests, has_len, short),
        omega (arith, has_len),
      );
      is_last = end;
    }

-- reading failed within the captured bytes of a record
pub fails_after_header : (order : ByteOrder) (left middle still_left : Option (List ℕ)) (first : List ℕ) (header : RecordHeader)
    → length first ≡ 16 → Consumes left middle first → header ≡ record_header order first → ReadsFewer middle still_left header.captured_len
    → FailsInRecord order left still_left
fails_after_header order left middle still_left first header has_len consumed is fails =
    let total = length-append first fails.bytes in
    let record_len_is = record_len_front order first fails.bytes (omega (arith, has_len)) in
    record {
      bytes = first ++ fails.bytes;
      consumed = Consumes-trans left middle still_left first fails.bytes consumed fails.consumed;
      partial = inr (omega (arith, total, record_len_is, has_len, fails.fewer, ap (λ h. h.captured_len) is));
    }

-- ---- a loop over records

-- records and other records after them are records
pub each_append : (order : ByteOrder) (records others : List (List ℕ)) → AllByRecursion (IsRecord order) records
    → AllByRecursion (IsRecord order) others → AllByRecursion (IsRecord order) (records ++ others)
each_append order [] others each each_other = each_other
each_append order (r ∷ rs) others each each_other = (each.0, each_append order rs others each.1 each_other)

concat-push : (records : List (List ℕ)) (bytes : List ℕ) → concat (records ++ bytes ∷ []) ≡ concat records ++ bytes
concat-push [] bytes = append-nil bytes
concat-push (r ∷ rs) bytes = ap (λ l. r ++ l) (concat-push rs bytes) ∙ sym (append_assoc r (concat rs) bytes)

pub one_more : (order : ByteOrder) (left middle still_left : Option (List ℕ)) (records : List (List ℕ)) (bytes : List ℕ)
    → ReadsRecords order left middle records → IsRecord order bytes → Consumes middle still_left bytes
    → ReadsRecords order left still_left (records ++ bytes ∷ [])
one_more order left middle still_left records bytes read is consumed = grind (arith, nat_tests, each_append, concat-push, Consumes-trans)

-- the records after another record, which has room in the buffer or not
pub after_record : (order : ByteOrder) (left middle still_left : Option (List ℕ)) (records : List (List ℕ)) (buffer : List ℕ)
    (next : NextRecord) → (((header : RecordHeader) × (next ≡ Whole header)) ⊎ ((header : RecordHeader) × (next ≡ TooLong header)))
    → ReadsRecords order left middle records → (reads : ReadsNext order middle still_left buffer next)
    → ReadsRecords order left still_left (records ++ reads.bytes ∷ [])
after_record order left middle still_left records buffer (Whole header) is read reads =
    one_more order left middle still_left records reads.bytes read reads.is_next.0 reads.consumed
after_record order left middle still_left records buffer (TooLong header) is read reads =
    one_more order left middle still_left records reads.bytes read reads.is_next.0 reads.consumed
after_record order left middle still_left records buffer End is read reads = absurd (grind (arith, is))
after_record order left middle still_left records buffer (CutOff required len) is read reads = absurd (grind (arith, is))

-- all bytes that the reader had are these records and then this rest
pub reading : (order : ByteOrder) (left middle still_left : Option (List ℕ)) (records : List (List ℕ)) (rest : List ℕ)
    → ReadsRecords order left middle records → Consumes middle still_left rest → IsAtEnd still_left → IsPartial order rest
    → IfSome left (λ all. IsReading order all records rest)
reading order None middle still_left records rest read consumed end partial = tt
reading order (Some all) None still_left records rest read consumed end partial = absurd read.consumed
reading order (Some all) (Some more) None records rest read consumed end partial = absurd consumed
reading order (Some all) (Some more) (Some none) records rest read consumed end partial = grind (arith, nat_tests, append-nil)

-- the reading at the last item, which is the end or a record that is cut off
pub reading_at_last : (order : ByteOrder) (left middle still_left : Option (List ℕ)) (records : List (List ℕ)) (buffer : List ℕ)
    (next : NextRecord) → ((next ≡ End) ⊎ ((required len : ℕ) × (next ≡ CutOff required len)))
    → ReadsRecords order left middle records → (reads : ReadsNext order middle still_left buffer next)
    → IfSome left (λ all. IsReading order all records reads.bytes)
reading_at_last order left middle still_left records buffer End is read reads =
    reading order left middle still_left records reads.bytes read reads.consumed reads.is_last
    (inl (omega (arith, ap length reads.is_next)))
reading_at_last order left middle still_left records buffer (CutOff required len) is read reads =
    reading order left middle still_left records reads.bytes read reads.consumed reads.is_last reads.is_next.1
reading_at_last order left middle still_left records buffer (Whole header) is read reads = absurd (grind (arith, is))
reading_at_last order left middle still_left records buffer (TooLong header) is read reads = absurd (grind (arith, is))
