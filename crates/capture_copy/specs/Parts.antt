-- The parts of a capture whose packets a visitor visits. A part is a record of a classic capture or a block of a pcapng file.
use Rattle.std.specs.Prelude.{◌≡◌, ◌≤◌, ◌++◌, ◌⊎◌, ℕ, Bool, true, false, List, [], length, ⊤, Option, Result, Ok, Err}
use Rattle.std.specs.Io.KnownBytes.{Appends, Consumes, IsAtEnd}
use Rattle.capture_copy.specs.Passing.{Format, Part}
use Rattle.capture_copy.specs.Visits.{Visits, written_if}
use Rattle.capture_copy.specs.declared.part_error.PartError.{PartError}
use Rattle.capture_copy.specs.declared.part_error.PartError.TheVariants.{CutOff, Read, Refused, TooManyParts, Write}
use Rattle.capture_copy.specs.declared.place.Place.{Place}

-- ---- errors

-- reading failed at this place
abbrev pub IsReadError : Place → PartError → Type 0
IsReadError place (CutOff at required len) = ⊥
IsReadError place (Refused error) = ⊥
IsReadError place (Read at error) = at ≡ place
IsReadError place TooManyParts = ⊥
IsReadError place (Write error) = ⊥

-- writing failed
abbrev pub IsWriteError : PartError → Type 0
IsWriteError (CutOff place required len) = ⊥
IsWriteError (Refused error) = ⊥
IsWriteError (Read place error) = ⊥
IsWriteError TooManyParts = ⊥
IsWriteError (Write error) = ⊤

-- `then_left` is what the input had left after the bytes of the part, and `still_left` is what it has left after this error. They are equal
-- if a part is refused or cut off. A part is cut off only at the end of the input. Nothing is stated for other errors.
abbrev pub LeavesAt : PartError → Option (List ℕ) → Option (List ℕ) → Type 0
LeavesAt (CutOff place required len) then_left still_left = (then_left ≡ still_left) × IsAtEnd still_left
LeavesAt (Refused error) then_left still_left = then_left ≡ still_left
LeavesAt (Read place error) then_left still_left = ⊤
LeavesAt TooManyParts then_left still_left = ⊤
LeavesAt (Write error) then_left still_left = ⊤

-- ---- parts

-- `bytes` begins with `front`
abbrev pub IsFront : List ℕ → List ℕ → Type 0
IsFront front bytes = (more : List ℕ) × (bytes ≡ front ++ more)

-- What is written for the first bytes of a part, if the copy ends within the part. If every packet is written, all these bytes are written.
-- Otherwise nothing is written, or, if the part is long, possibly some of the bytes.
abbrev pub WritesFront : Bool → Type 0 → List ℕ → List ℕ → Type 0
WritesFront true Long bytes written = written ≡ bytes
WritesFront false Long bytes written = (written ≡ []) ⊎ (Long × IsFront written bytes)

-- the format of captures whose packets are visited, whose parts are described by `IsPart`, and whose errors are described by `IsEnd`
abbrev pub format_of : {Outcome Counts : Type 0} → Visits Outcome Counts → (State : Type 0) → (State → Part Outcome → State → Type 0)
    → (State → Part Outcome → PartError → Type 0) → Format
format_of {Outcome} {Counts} visits State IsPart IsEnd = record {
  State = State;
  Outcome = Outcome;
  Counts = Counts;
  Error = PartError;
  counted = visits.counted;
  IsPart = IsPart;
  IsEnd = IsEnd;
  LeavesAt = LeavesAt;
  IsWriteError = IsWriteError;
  too_many = TooManyParts;
  max_parts = visits.max_parts;
}

-- ---- bytes that are copied by pieces

-- The first bytes of a part were already read, and then `len` more bytes were read. All these bytes were written if the packet is written.
pub record PassesRest (is_written : Bool) (first : List ℕ) (left still_left held now_held : Option (List ℕ)) (len : ℕ) : Type 0 where
  pub bytes : List ℕ
  pub has_len : length bytes ≡ len
  pub consumed : Consumes left still_left bytes
  pub appended : Appends held now_held (written_if is_written (first ++ bytes))

-- The result is the number of bytes that were read after the first bytes of a part. If reading failed in the part at this place, at most
-- `count` bytes were read and written before. If writing failed, nothing is stated.
abbrev pub PassesLong : Place → ℕ → Bool → Result ℕ PartError → List ℕ → Option (List ℕ) → Option (List ℕ) → Option (List ℕ)
    → Option (List ℕ) → Type 0
PassesLong place count is_written (Ok len) first left still_left held now_held =
    PassesRest is_written first left still_left held now_held len
PassesLong place count is_written (Err error) first left still_left held now_held =
    IsWriteError error ⊎ (IsReadError place error × (len : ℕ) × (len ≤ count) × (then_left : Option (List ℕ))
    × PassesRest is_written first left then_left held now_held len)
