-- Laws of the place of a flow, which depends on the rows.
use mathlib.Core.Path.{fun_ext}
use Rattle.std.proofs.Common.{◌≡◌, ℕ, ◌+◌, ◌≤◌, Bool, cond, eqb, not, List, [], ◌∷◌, ◌++◌, length, set, get_or, ap, arith, length-append, length-set, nat_lt}
use Rattle.std.proofs.lemmas.Bool.Decides.{nat_tests}
use Rattle.std.proofs.lemmas.List.Folds.{position_or_len-set, position_or_len_push}
use Rattle.std.proofs.lemmas.List.Sums.{prefix_len-le-length}
use Rattle.std.specs.List.{position}
use Rattle.std.specs.Option.{option_or}
use Rattle.std.specs.Prelude.{Some, None}

-- a place before and after another element is added at the end
place_push : (place len next : ℕ) (passes : Bool) → place ≤ len → next ≡ cond (eqb place len) (len + cond passes 0 1) place
    → cond (nat_lt next (len + 1)) (Some next) None ≡ option_or (cond (nat_lt place len) (Some place) None) (cond passes (Some len) None)
place_push place len next passes within is = grind (arith, nat_tests)

module _ {Row : Type 0} where
  -- the first place that passes the test stays after another element is added; if no element passed, it is the place of this element
  pub position_push : (test : Row → Bool) (rows : List Row) (row : Row)
      → position test (rows ++ row ∷ []) ≡ option_or (position test rows) (cond (test row) (Some (length rows)) None)
  position_push test rows row =
      rw (length-append rows (row ∷ []))
      (place_push _ (length rows) _ (test row) (prefix_len-le-length (λ other. not (test other)) rows) (position_or_len_push test rows row))

  -- writing an element does not change the first place if the test has the same answer
  pub position-set : (test : Row → Bool) (rows : List Row) (place : ℕ) (row other : Row)
      → test row ≡ test (get_or rows place other) → position test (set rows place row) ≡ position test rows
  position-set test rows place row other alike = rw (position_or_len-set test rows place row other alike, length-set rows place row)

  -- tests with the same answers find the same place
  pub position-alike : (test same : Row → Bool) → ((row : Row) → test row ≡ same row) → (rows : List Row)
      → position test rows ≡ position same rows
  position-alike test same alike rows = ap (λ each. position each rows) (fun_ext alike)
