-- Laws of the packets of a capture, whatever the format of its file.
use Rattle.std.proofs.Common.{ℕ, ◌<◌, ◌≤◌, List, Option, Result, Ok, Err, IfErr, arith, length, subst, take}
use Rattle.std.proofs.Math.Nat.{one-le-pow}
use Rattle.std.proofs.lemmas.List.{take_all}
use Rattle.std.specs.Io.KnownBytes.{Consumes}
use Rattle.capture_file.specs.PcapngBodies.{units_per_second}
use Rattle.streams.specs.Streams.{FillsAfter}
use Rattle.capture_file.specs.declared.pcapng.time_resolution.TimeResolution.{TimeResolution}
use Rattle.capture_file.specs.declared.pcapng.time_resolution.TimeResolution.TheVariants.{PowerOfTen, PowerOfTwo}

-- a statement that is true holds at each error
pub at_error : {A E P : Type 0} → (result : Result A E) → P → IfErr result (λ error. P)
at_error (Ok value) is = tt
at_error (Err error) is = is

-- a second has at least one unit
pub units_positive : (resolution : TimeResolution) → 0 < units_per_second resolution
units_positive (PowerOfTen exponent) = one-le-pow exponent 10 (omega arith)
units_positive (PowerOfTwo exponent) = one-le-pow exponent 2 (omega arith)

-- a full buffer contains all bytes that were read into it
pub full : (left still_left : Option (List ℕ)) (buffer : List ℕ) (len : ℕ) → length buffer ≤ len
    → Consumes left still_left (take len buffer)
    → Consumes left still_left buffer
full left still_left buffer len within consumed = subst (Consumes left still_left) (take_all len buffer within) consumed

-- first bytes that fit in the buffer are in it as a whole
pub fills_whole : (room : ℕ) (first : List ℕ) (left still_left : Option (List ℕ)) (buffer : List ℕ) (len : ℕ) → length first ≤ room
    → FillsAfter (take room first) left still_left buffer len → FillsAfter first left still_left buffer len
fills_whole room first left still_left buffer len fits fills =
    subst (λ whole. FillsAfter whole left still_left buffer len) (take_all room first fits) fills
