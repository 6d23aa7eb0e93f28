-- The laws of the reading of a capture: a reading exists and is unique, and the reading of a truncated capture contains the records before
-- the cut.
use Rattle.std.proofs.Common.{◌≡◌, ℕ, ◌≤◌, List, arith, inl, inr, length, take, drop, sym, ap, ◌∙◌, length-take-le, take-append-drop, ⊎_elim}
use Rattle.std.proofs.lemmas.Bool.{cases_lt}
use Rattle.std.specs.List.{AllByRecursion}
use Rattle.capture_file.proofs.PieceLaws.{Form, before_cut, exists, unique}
use Rattle.capture_file.proofs.RecordLemmas.{not_partial, record_len_front, same_record}
use Rattle.capture_file.specs.Classic.{record_len, AreBeforeCut, IsPartial, IsReading, IsRecord}
use Rattle.capture_file.specs.Laws.{AreUnique, Exist, RemainAtCut}
use Rattle.capture_numbers.specs.declared.byte_order.ByteOrder.{ByteOrder}

-- the first bytes, up to the stated length, are a record
first_record : (order : ByteOrder) (bytes : List ℕ) → record_len order bytes ≤ length bytes
    → IsRecord order (take (record_len order bytes) bytes)
first_record order bytes long =
    let len = record_len order bytes in
    let has_len : length (take len bytes) ≡ len = length-take-le len bytes long in
    has_len ∙ ap (record_len order) (sym (take-append-drop len bytes))
    ∙ record_len_front order (take len bytes) (drop len bytes) (omega (arith, has_len))

-- the form of records; its numbers are in this byte order
abbrev records : Form
records = record {
  State = ByteOrder;
  after = λ order bytes. order;
  IsPiece = IsRecord;
  Are = λ order records rest. AllByRecursion (IsRecord order) records × IsPartial order rest;
  one_more = λ order bytes records rest is are. ((is, are.0), are.1);
  first_of = λ order bytes records rest are. (are.0.0, (are.0.1, are.1));
  piece_or_none = λ order bytes.
      ⊎_elim
      (λ short. inl (tt, inr short))
      (λ long. inr (record_len order bytes, omega arith, long, first_record order bytes long))
      (cases_lt (length bytes) (record_len order bytes));
  no_piece = λ order bytes more is are. not_partial order bytes more is are.1;
  same_piece = same_record;
}

pub there_is_a_reading : (order : ByteOrder) (bytes : List ℕ) → Exist (IsReading order bytes)
there_is_a_reading order bytes =
    let (pieces, rest, whole, are) = exists records order bytes in
    (pieces, rest, record { whole = whole; each = are.0; partial = are.1 })

pub there_is_one_reading : (order : ByteOrder) (bytes : List ℕ) → AreUnique (IsReading order bytes)
there_is_one_reading order bytes a b x y one other =
    unique records order a b x y (one.each, one.partial) (other.each, other.partial) (sym one.whole ∙ other.whole)

pub records_before_cut : (order : ByteOrder) → RemainAtCut (IsReading order) (λ _. AreBeforeCut)
records_before_cut order bytes all rest cut cut_records cut_rest reading cut_reading =
    before_cut records order cut all cut_records rest cut_rest (reading.each, reading.partial) (cut_reading.each, cut_reading.partial)
    (ap (take cut) (sym reading.whole) ∙ cut_reading.whole)
