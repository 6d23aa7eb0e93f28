-- Laws of flags by their names, where a function maps elements to flags.
use Rattle.std.proofs.Common.{◌≡◌, List, [], ◌∷◌, map, refl}
use Rattle.std.proofs.lemmas.List.Folds.{flat_map-map}
use Rattle.std.specs.List.{list_any}
use Rattle.capture_words.specs.Flags.{NamedFlag, flag_text, flags_text}

any_mapped : {X : Type 0} (named : X → NamedFlag) (flags : List X)
    → list_any (λ flag. (named flag).0) flags ≡ list_any (λ flag. flag.0) (map named flags)
any_mapped named [] = refl
any_mapped named (flag ∷ flags) = simp (any_mapped named flags)

pub flags_mapped : {X : Type 0} (named : X → NamedFlag) (flags : List X)
    → flags_text named flags ≡ flags_text (λ flag. flag) (map named flags)
flags_mapped named flags = simp (flat_map-map flag_text named flags, any_mapped named flags)
