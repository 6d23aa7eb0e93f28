-- Laws about the division of bytes into parts and an end. For example, the parts are the records of a capture.
use Rattle.std.specs.Prelude.{◌≡◌, ℕ, List, take}

-- the relation holds for at least one list of parts and one end
abbrev pub Exist : {Parts End : Type 0} → (Parts → End → Type 0) → Type 0
Exist {Parts} {End} Are = (parts : Parts) × (end : End) × Are parts end

-- the relation holds for at most one list of parts and one end
abbrev pub AreUnique : {Parts End : Type 0} → (Parts → End → Type 0) → Type 0
AreUnique {Parts} {End} Are =
    (parts other_parts : Parts) (end other_end : End) → Are parts end → Are other_parts other_end
    → (parts ≡ other_parts) × (end ≡ other_end)

-- if only the first bytes are left after a cut, they contain exactly the parts that end at or before the cut
abbrev pub RemainAtCut : {Part End : Type 0} → (List ℕ → List Part → End → Type 0) → (List ℕ → ℕ → List Part → List Part → Type 0) → Type 0
RemainAtCut {Part} {End} Are AreBefore =
    (bytes : List ℕ) (parts : List Part) (end : End) (cut : ℕ) (cut_parts : List Part) (cut_end : End)
    → Are bytes parts end → Are (take cut bytes) cut_parts cut_end → AreBefore bytes cut parts cut_parts
