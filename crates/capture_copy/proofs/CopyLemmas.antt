-- Bytes that are copied by pieces.
use Rattle.std.proofs.Common.{◌≡◌, ◌≤◌, ◌+◌, ◌++◌, ℕ, List, Option, [], arith, length, length-append, length-take-le, append-nil, refl, subst, take}
use Rattle.std.proofs.KnownBytes.{Appends-nil, Appends-trans, Consumes-nil, Consumes-trans}
use Rattle.std.specs.Io.KnownBytes.{Appends, Consumes}
use Rattle.capture_copy.specs.Copies.{Copies}

pub copies_nothing : (left held : Option (List ℕ)) → Copies left left held held 0
copies_nothing left held = record { bytes = []; has_len = refl; consumed = Consumes-nil left; appended = Appends-nil held }

-- a copy and then the copy of bytes at the front of a buffer are one copy
pub copies_more : (left middle still_left held now_held then_held : Option (List ℕ)) (len count : ℕ) (buffer : List ℕ)
    → Copies left middle held now_held len → Consumes middle still_left (take count buffer) → Appends now_held then_held (take count buffer)
    → count ≤ length buffer → Copies left still_left held then_held (len + count)
copies_more left middle still_left held now_held then_held len count buffer copies consumed appended within = record {
  bytes = copies.bytes ++ take count buffer;
  has_len = omega (arith, length-append copies.bytes (take count buffer), copies.has_len, length-take-le count buffer within);
  consumed = Consumes-trans left middle still_left copies.bytes (take count buffer) copies.consumed consumed;
  appended = Appends-trans held now_held then_held copies.bytes (take count buffer) copies.appended appended;
}

-- a copy and then a read at the end of input are one copy
pub copies_end : (left middle still_left held now_held : Option (List ℕ)) (len count : ℕ) (buffer : List ℕ)
    → Copies left middle held now_held len → Consumes middle still_left (take count buffer) → count ≡ 0
    → Copies left still_left held now_held len
copies_end left middle still_left held now_held len count buffer copies consumed none = record {
  bytes = copies.bytes;
  has_len = copies.has_len;
  consumed = subst (Consumes left still_left) (append-nil copies.bytes)
      (Consumes-trans left middle still_left copies.bytes [] copies.consumed
      (subst (λ n. Consumes middle still_left (take n buffer)) none consumed));
  appended = copies.appended;
}
