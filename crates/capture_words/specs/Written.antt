-- The output of a call, if the bytes of its writer are known.
use Rattle.std.specs.Prelude.{ℕ, List, Option}
use Rattle.std.specs.Io.KnownBytes.{Appends}

-- a text for which `IsText` holds was written
abbrev pub AppendsOne : Option (List ℕ) → Option (List ℕ) → (List ℕ → Type 0) → Type 0
AppendsOne before after IsText = (text : List ℕ) × IsText text × Appends before after text
