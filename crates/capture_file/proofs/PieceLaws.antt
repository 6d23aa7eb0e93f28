-- The laws of a file as pieces, one after the other, and a rest without a piece at its front: such a division exists and is unique, and the
-- division of a truncated file contains the pieces before the cut. The pieces are the records of a classic capture, or the blocks of a
-- pcapng file.
use Rattle.std.proofs.lemmas.Bool.Decides.{nat_tests}
use Rattle.std.proofs.Common.{◌≡◌, ◌⊎◌, ℕ, zero, suc, ◌+◌, ◌-◌, ◌≤◌, ◌<◌, List, [], ◌∷◌, ◌++◌, arith, length, take, drop, refl, sym, ap, ◌∙◌, subst, append_assoc, append-nil, length-append, length-drop, take-append-drop, ⊎_elim}
use Rattle.std.proofs.Math.Seq.{take-append-add}
use Rattle.std.proofs.lemmas.List.{append_cancel_left, length-take}
use Rattle.std.specs.List.{concat}
use Rattle.capture_file.specs.Classic.{AreBeforeCut}

-- the bytes before a cut that is after the first bytes
take_beyond : (cut : ℕ) (first more : List ℕ) → length first ≤ cut → take cut (first ++ more) ≡ first ++ take (cut - length first) more
take_beyond cut first more beyond = grind (arith, take-append-add first more (cut - length first))

-- the pieces before a cut, with another piece before them
one_more_before : (cut : ℕ) (first : List ℕ) (pieces cut_pieces : List (List ℕ)) → length first ≤ cut
    → AreBeforeCut (cut - length first) pieces cut_pieces → AreBeforeCut cut (first ∷ pieces) (first ∷ cut_pieces)
one_more_before cut first pieces cut_pieces within before = record {
  count = suc before.count;
  first = ap (λ l. first ∷ l) before.first;
  within = omega (arith, length-append first (concat cut_pieces), before.within, within);
  next = λ inside.
      let next = before.next (omega (arith, inside)) in
      let more : suc before.count + 1 ≡ suc (before.count + 1) = omega arith in
      grind (arith, more, next, length-append first (concat (take (before.count + 1) pieces)));
}

-- a form of files: the state in which a piece is read, such as the byte order of a section, and the facts on pieces that the laws need
pub record Form : Type 1 where
  pub State : Type 0
  pub after : State → List ℕ → State
  pub IsPiece : State → List ℕ → Type 0
  -- these are pieces, and this rest follows them
  pub Are : State → List (List ℕ) → List ℕ → Type 0
  pub one_more : (state : State) (piece : List ℕ) (pieces : List (List ℕ)) (rest : List ℕ) → IsPiece state piece
      → Are (after state piece) pieces rest → Are state (piece ∷ pieces) rest
  pub first_of : (state : State) (piece : List ℕ) (pieces : List (List ℕ)) (rest : List ℕ) → Are state (piece ∷ pieces) rest
      → IsPiece state piece × Are (after state piece) pieces rest
  pub piece_or_none : (state : State) (bytes : List ℕ)
      → Are state [] bytes ⊎ ((len : ℕ) × (0 < len) × (len ≤ length bytes) × IsPiece state (take len bytes))
  pub no_piece : (state : State) (piece more : List ℕ) → IsPiece state piece → Are state [] (piece ++ more) → ⊥
  pub same_piece : (state : State) (a b x y : List ℕ) → IsPiece state a → IsPiece state b → a ++ x ≡ b ++ y → (a ≡ b) × (x ≡ y)

module _ (form : Form) where
  -- a division of fewer bytes than this number exists
  exists_within : (most : ℕ) (state : form.State) (bytes : List ℕ) → length bytes < most
      → (pieces : List (List ℕ)) × (rest : List ℕ) × (bytes ≡ concat pieces ++ rest) × form.Are state pieces rest
  exists_within zero state bytes short = absurd (omega (arith, short))
  exists_within (suc most) state bytes short =
      ⊎_elim
      (λ none. ([], bytes, refl, none))
      (λ (found : (len : ℕ) × (0 < len) × (len ≤ length bytes) × form.IsPiece state (take len bytes)).
      let (len, some, within, is) = found in
      let (pieces, rest, whole, are) =
      exists_within most (form.after state (take len bytes)) (drop len bytes)
      (omega (arith, short, some, within, length-drop len bytes)) in (
        take len bytes ∷ pieces,
        rest,
        sym (take-append-drop len bytes) ∙ ap (λ l. take len bytes ++ l) whole ∙ sym (append_assoc (take len bytes) (concat pieces) rest),
        form.one_more state (take len bytes) pieces rest is are,
      ))
      (form.piece_or_none state bytes)

  pub exists : (state : form.State) (bytes : List ℕ)
      → (pieces : List (List ℕ)) × (rest : List ℕ) × (bytes ≡ concat pieces ++ rest) × form.Are state pieces rest
  exists state bytes = exists_within (suc (length bytes)) state bytes (omega arith)

  pub unique : (state : form.State) (a b : List (List ℕ)) (x y : List ℕ) → form.Are state a x → form.Are state b y
      → concat a ++ x ≡ concat b ++ y
      → (a ≡ b) × (x ≡ y)
  unique state [] [] x y p q same = (refl, same)
  unique state [] (b ∷ b_more) x y p q same =
      absurd (form.no_piece state b (concat b_more ++ y) (form.first_of state b b_more y q).0
      (subst (form.Are state []) (same ∙ append_assoc b (concat b_more) y) p))
  unique state (a ∷ a_more) [] x y p q same =
      absurd (form.no_piece state a (concat a_more ++ x) (form.first_of state a a_more x p).0
      (subst (form.Are state []) (sym same ∙ append_assoc a (concat a_more) x) q))
  unique state (a ∷ a_more) (b ∷ b_more) x y p q same =
      let (is, others) = form.first_of state a a_more x p in
      let (is_too, others_too) = form.first_of state b b_more y q in
      let (equal, rest) = form.same_piece state a b (concat a_more ++ x) (concat b_more ++ y) is is_too
      (sym (append_assoc a (concat a_more) x) ∙ same ∙ append_assoc b (concat b_more) y) in
      let (same_others, same_rest) =
      unique (form.after state a) a_more b_more x y others
      (subst (λ piece. form.Are (form.after state piece) b_more y) (sym equal) others_too) rest in
      (cc (equal, same_others), same_rest)

  -- the first piece of the cut bytes is the first piece of all bytes, and ends before the cut
  same_first : (state : form.State) (cut : ℕ) (first more cut_first cut_more : List ℕ) → form.IsPiece state first
      → form.IsPiece state cut_first
      → take cut (first ++ more) ≡ cut_first ++ cut_more
      → (cut_first ≡ first) × (length first ≤ cut) × (take (cut - length first) more ≡ cut_more)
  same_first state cut first more cut_first cut_more is is_cut same =
      let parts : cut_first ++ (cut_more ++ drop cut (first ++ more)) ≡ first ++ more =
      cc (append_assoc cut_first cut_more (drop cut (first ++ more)), same, take-append-drop cut (first ++ more)) in
      let equal : cut_first ≡ first = (form.same_piece state cut_first first _ more is_cut is parts).0 in
      let within : length first ≤ cut =
      omega (arith, ap length equal, ap length same, length-append cut_first cut_more, length-take cut (first ++ more)) in
      (equal, within, append_cancel_left first _ cut_more (cc (take_beyond cut first more within, same, equal)))

  pub before_cut : (state : form.State) (cut : ℕ) (pieces cut_pieces : List (List ℕ)) (rest cut_rest : List ℕ) → form.Are state pieces rest
      → form.Are state cut_pieces cut_rest → take cut (concat pieces ++ rest) ≡ concat cut_pieces ++ cut_rest
      → AreBeforeCut cut pieces cut_pieces
  before_cut state cut [] [] rest cut_rest p q same =
      record { count = 0; first = refl; within = omega arith; next = λ inside. absurd (omega (arith, inside)) }
  before_cut state cut [] (c ∷ cs) rest cut_rest p q same =
      absurd (form.no_piece state c ((concat cs ++ cut_rest) ++ drop cut rest) (form.first_of state c cs cut_rest q).0
      (subst (form.Are state [])
      (sym (take-append-drop cut rest) ∙ ap (λ l. l ++ drop cut rest) (same ∙ append_assoc c (concat cs) cut_rest)
      ∙ append_assoc c (concat cs ++ cut_rest) (drop cut rest)) p))
  before_cut state cut (b ∷ b_more) [] rest cut_rest p q same = grind (arith, nat_tests, append_assoc, take_beyond, append-nil)
  before_cut state cut (b ∷ b_more) (c ∷ cs) rest cut_rest p q same =
      let (is, others) = form.first_of state b b_more rest p in
      let (is_cut, cut_others) = form.first_of state c cs cut_rest q in
      let (equal, within, same_others) =
      same_first state cut b (concat b_more ++ rest) c (concat cs ++ cut_rest) is is_cut
      (ap (take cut) (sym (append_assoc b (concat b_more) rest)) ∙ same ∙ append_assoc c (concat cs) cut_rest) in
      subst (λ first. AreBeforeCut cut (b ∷ b_more) (first ∷ cs)) (sym equal)
      (one_more_before cut b b_more cs within
      (before_cut (form.after state b) (cut - length b) b_more cs rest cut_rest others
      (subst (λ piece. form.Are (form.after state piece) cs cut_rest) equal cut_others) same_others))
