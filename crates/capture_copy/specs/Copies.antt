-- Bytes that are copied in pieces.
use Rattle.std.specs.Prelude.{◌≡◌, ◌<◌, ℕ, List, length, ⊤, Option, Result, Ok, Err}
use Rattle.std.specs.Io.KnownBytes.{Appends, Consumes}
use Rattle.capture_copy.specs.declared.copier.CopyError.{CopyError}
use Rattle.capture_copy.specs.declared.copier.CopyError.TheVariants.{Read, Write}

-- `len` bytes were read, and the same bytes were written
pub record Copies (left still_left held now_held : Option (List ℕ)) (len : ℕ) : Type 0 where
  pub bytes : List ℕ
  pub has_len : length bytes ≡ len
  pub consumed : Consumes left still_left bytes
  pub appended : Appends held now_held bytes

-- fewer than `count` bytes were copied before reading failed; the reader may also have lost bytes that were not copied
pub record CopiesFront (count : ℕ) (left held now_held : Option (List ℕ)) : Type 0 where
  pub len : ℕ
  pub within : len < count
  pub then_left : Option (List ℕ)
  pub copies : Copies left then_left held now_held len

-- What a call with this result copied. If it succeeded, the result is the number of copied bytes. If reading failed, fewer than `count`
-- bytes were copied. If writing failed, nothing is stated.
abbrev pub CopiesUpTo : ℕ → Result ℕ CopyError → Option (List ℕ) → Option (List ℕ) → Option (List ℕ) → Option (List ℕ) → Type 0
CopiesUpTo count (Ok len) left still_left held now_held = Copies left still_left held now_held len
CopiesUpTo count (Err (Read error)) left still_left held now_held = CopiesFront count left held now_held
CopiesUpTo count (Err (Write error)) left still_left held now_held = ⊤
