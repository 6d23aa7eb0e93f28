-- Worked examples of the copy of a block in which the section length is not specified, so that a wrong definition fails before any code
-- does.
use Rattle.std.proofs.Common.{◌≡◌, ◌++◌, ℕ, List, [], ◌∷◌, false, refl, true}
use Rattle.capture_copy.specs.Blocks.{copy_of}

-- a section header block of 28 bytes in each byte order, with this section length
abbrev big_endian : List ℕ → List ℕ
big_endian len = 0x0A ∷ 0x0D ∷ 0x0D ∷ 0x0A ∷ 0 ∷ 0 ∷ 0 ∷ 28 ∷ 0x1A ∷ 0x2B ∷ 0x3C ∷ 0x4D ∷ 0 ∷ 1 ∷ 0 ∷ 0 ∷ (len ++ 0 ∷ 0 ∷ 0 ∷ 28 ∷ [])

abbrev little_endian : List ℕ → List ℕ
little_endian len = 0x0A ∷ 0x0D ∷ 0x0D ∷ 0x0A ∷ 28 ∷ 0 ∷ 0 ∷ 0 ∷ 0x4D ∷ 0x3C ∷ 0x2B ∷ 0x1A ∷ 1 ∷ 0 ∷ 0 ∷ 0 ∷ (len ++ 28 ∷ 0 ∷ 0 ∷ 0 ∷ [])

-- the section length -1, which is not specified
abbrev not_specified : List ℕ
not_specified = 255 ∷ 255 ∷ 255 ∷ 255 ∷ 255 ∷ 255 ∷ 255 ∷ 255 ∷ []

pub big_endian_section : copy_of false (big_endian (0 ∷ 0 ∷ 0 ∷ 0 ∷ 0 ∷ 0 ∷ 0 ∷ 20 ∷ [])) ≡ big_endian not_specified
big_endian_section = refl

pub little_endian_section : copy_of false (little_endian (20 ∷ 0 ∷ 0 ∷ 0 ∷ 0 ∷ 0 ∷ 0 ∷ 0 ∷ [])) ≡ little_endian not_specified
little_endian_section = refl

-- an interface description block of 20 bytes keeps bytes 16 to 19
abbrev interface : List ℕ
interface = 1 ∷ 0 ∷ 0 ∷ 0 ∷ 20 ∷ 0 ∷ 0 ∷ 0 ∷ 101 ∷ 0 ∷ 0 ∷ 0 ∷ 0 ∷ 0 ∷ 0 ∷ 0 ∷ 20 ∷ 0 ∷ 0 ∷ 0 ∷ []

pub interface_copy : copy_of false interface ≡ interface
interface_copy = refl

-- if every packet is written, a section header block keeps the length of its section
pub kept_section : copy_of true (big_endian (0 ∷ 0 ∷ 0 ∷ 0 ∷ 0 ∷ 0 ∷ 0 ∷ 20 ∷ [])) ≡ big_endian (0 ∷ 0 ∷ 0 ∷ 0 ∷ 0 ∷ 0 ∷ 0 ∷ 20 ∷ [])
kept_section = refl
