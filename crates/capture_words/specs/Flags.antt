-- Flags by their names.
use Rattle.std.specs.Prelude.{ℕ, Bool, not, if◌then◌else◌, List, [], ◌++◌, codes}
use Rattle.std.specs.List.{flat_map, list_any}

-- a flag: whether it is set, and its name
abbrev pub NamedFlag : Type 0
NamedFlag = Bool × List ℕ

-- the name of a flag after a space, if the flag is set
abbrev pub flag_text : NamedFlag → List ℕ
flag_text flag = if flag.0 then codes " " ++ flag.1 else []

-- The word `flags` and the names of the set flags, in their order. If no flag is set, `none` replaces the names. `named` maps an item of
-- the list to its flag.
abbrev pub flags_text : {X : Type 0} → (X → NamedFlag) → List X → List ℕ
flags_text named flags =
    codes "flags" ++ (flat_map (λ flag. flag_text (named flag)) flags
    ++ flag_text (not (list_any (λ flag. (named flag).0) flags), codes "none"))
