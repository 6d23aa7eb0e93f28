-- The records of a classic capture, from their header and the bytes after it.
use Rattle.std.proofs.Common.{◌≡◌, ◌<◌, ◌+◌, ◌++◌, ℕ, List, ap, arith, inl, inr, length, length-append, length-take-le, take}
use Rattle.std.proofs.lemmas.Bool.Decides.{nat_tests}
use Rattle.capture_file.proofs.RecordLemmas.{record_len_front}
use Rattle.capture_file.specs.Classic.{IsRecord}
use Rattle.capture_numbers.specs.Numbers.{number_at}
use Rattle.capture_numbers.specs.declared.byte_order.ByteOrder.{ByteOrder}
use Rattle.capture_copy.specs.Records.{IsCutRecord}

-- a header and the bytes that it counts are a record
pub is_record : (order : ByteOrder) (first captured : List ℕ) → length first ≡ 16 → length captured ≡ number_at order first 8
    → IsRecord order (first ++ captured)
is_record order first captured has_len counted =
    omega (arith, length-append first captured, record_len_front order first captured (omega (arith, has_len)), has_len, counted)

-- a capture ends within the header of a record
pub cut_header : (order : ByteOrder) (first : List ℕ) (len : ℕ) → length first ≡ 16 → (len ≡ 0 → ⊥) → len < 16
    → IsCutRecord order (take len first) 16 len
cut_header order first len has_len some within =
    let taken = length-take-le len first (omega (arith, has_len, within)) in (
      λ none. some (omega (arith, taken, ap length none)),
      inl (omega (arith, taken, within)),
      grind (arith, nat_tests, taken),
      omega (arith, taken),
    )

-- a capture ends within the captured bytes of a record
pub cut_captured : (order : ByteOrder) (first captured : List ℕ) (required len : ℕ) → length first ≡ 16
    → length captured < number_at order first 8 → required ≡ 16 + number_at order first 8 → len ≡ 16 + length captured
    → IsCutRecord order (first ++ captured) required len
cut_captured order first captured required len has_len within is_required is_len =
    let total = length-append first captured in
    let record_len_is = record_len_front order first captured (omega (arith, has_len)) in (
      λ none. omega (arith, ap length none, total, has_len),
      inr (omega (arith, total, record_len_is, has_len, within)),
      grind (arith, nat_tests, total, record_len_is, within, has_len, is_required),
      omega (arith, total, has_len, is_len),
    )
