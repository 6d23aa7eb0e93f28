-- The parts of a capture whose packets are visited.
use Rattle.std.proofs.Common.{◌≡◌, ◌++◌, ℕ, List, Bool, true, false, Option, [], inl, inr, length, refl, subst, sym, append-nil}
use Rattle.std.proofs.KnownBytes.{Appends-nil}
use Rattle.std.specs.Io.KnownBytes.{Appends, Consumes}
use Rattle.capture_copy.specs.Parts.{IsReadError, LeavesAt, PassesRest, WritesFront}
use Rattle.capture_copy.specs.Visits.{written_if}
use Rattle.capture_copy.specs.declared.part_error.PartError.{PartError}
use Rattle.capture_copy.specs.declared.part_error.PartError.TheVariants.{CutOff, Read, Refused, TooManyParts, Write}
use Rattle.capture_copy.specs.declared.place.Place.{Place}

-- nothing is stated about the input that is left after a read error
pub leaves_at_read : (place : Place) (error : PartError) (then_left still_left : Option (List ℕ)) → IsReadError place error
    → LeavesAt error then_left still_left
leaves_at_read place (CutOff at required len) then_left still_left is = absurd is
leaves_at_read place (Refused error) then_left still_left is = absurd is
leaves_at_read place (Read at error) then_left still_left is = tt
leaves_at_read place TooManyParts then_left still_left is = absurd is
leaves_at_read place (Write error) then_left still_left is = absurd is

-- ---- the first bytes of a part

-- no bytes are the first bytes of a part
pub front_none : (writes_all : Bool) (Long : Type 0) → WritesFront writes_all Long [] []
front_none true Long = refl
front_none false Long = inl refl

-- the first bytes of a part are written if every packet is written
pub front_if_all : (writes_all is_written : Bool) (Long : Type 0) (bytes : List ℕ) → is_written ≡ writes_all
    → WritesFront writes_all Long bytes (written_if is_written bytes)
front_if_all true true Long bytes is = refl
front_if_all true false Long bytes is = absurd (cc is)
front_if_all false true Long bytes is = absurd (cc is)
front_if_all false false Long bytes is = inl refl

-- the same of bytes that are all first bytes
pub front_alone : (writes_all is_written : Bool) (Long : Type 0) (bytes : List ℕ) → is_written ≡ writes_all
    → WritesFront writes_all Long bytes (written_if is_written (bytes ++ []))
front_alone writes_all is_written Long bytes is =
    subst (λ all. WritesFront writes_all Long bytes (written_if is_written all)) (sym (append-nil bytes))
    (front_if_all writes_all is_written Long bytes is)

-- the first bytes of a long part are written if its packet is written
pub front_if_long : (writes_all is_written : Bool) (Long : Type 0) (bytes : List ℕ) → Long → (writes_all ≡ true → is_written ≡ true)
    → WritesFront writes_all Long bytes (written_if is_written bytes)
front_if_long true true Long bytes long all = refl
front_if_long true false Long bytes long all = absurd (cc (all refl))
front_if_long false true Long bytes long all = inr (long, ([], sym (append-nil bytes)))
front_if_long false false Long bytes long all = inl refl

-- ---- parts for which the buffer has no room

-- nothing is written if a packet is not written
pub written_false : (is_written : Bool) (bytes : List ℕ) → is_written ≡ false → [] ≡ written_if is_written bytes
written_false true bytes is = absurd (cc is)
written_false false bytes is = refl

-- bytes were read, and nothing was written for them
pub rest_skipped : (is_written : Bool) (first bytes : List ℕ) (left still_left held : Option (List ℕ)) (len : ℕ) → is_written ≡ false
    → length bytes ≡ len → Consumes left still_left bytes → PassesRest is_written first left still_left held held len
rest_skipped is_written first bytes left still_left held len none has_len consumed = record {
  bytes = bytes;
  has_len = has_len;
  consumed = consumed;
  appended = subst (Appends held held) (written_false is_written (first ++ bytes) none) (Appends-nil held);
}
