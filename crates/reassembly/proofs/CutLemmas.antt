-- Laws of fragments that are cut from one payload: in any order, and repeatedly, they are accepted, and give the payload back.
use Rattle.std.proofs.Common.{◌≡◌, ℕ, ◌+◌, ◌-◌, ◌%◌, ◌<◌, ◌≤◌, inl, inr, nat_lt, nat_le, ◌==◌, Bool, true, false, not, ◌&&◌, ◌||◌, if◌then◌else◌, List, [], ◌∷◌, ◌++◌, length, length-append, slice_index, Option, Some, None, refl, sym, ◌∙◌, ap, subst, arith}
use Rattle.std.proofs.lemmas.Bool.Decides.{nat_tests}
use Rattle.std.proofs.lemmas.List.{get_or-append_right, get_or_append_left}
use Rattle.std.specs.Bool.{⊤}
use Rattle.std.specs.Cmp.Lexicographic.{pointwise}
use Rattle.std.specs.List.{list_any}
use Rattle.std.specs.Prelude.{nat_eq}
use Rattle.net_base.specs.Refusals.{first_of, refused_if}
use Rattle.reassembly.proofs.PartLemmas.{any_append}
use Rattle.reassembly.specs.Cuts.{AreAccepted, AreFrom, IsCut, IsCutFrom, IsOneOf, after}
use Rattle.reassembly.specs.Fragments.{FragmentValue}
use Rattle.reassembly.specs.Pieces.{Piece, byte_at, covers, end_of, is_among, is_same, overlaps}
use Rattle.reassembly.specs.Reassembly.{IsPayload, State, conflicts, empty, end_of_fragment, end_refusal, is_same_key, own_refusal, piece_of, piece_refusal, reaches, refusal, with_fragment}
use Rattle.reassembly.specs.declared.fragment_key.FragmentKey.{FragmentKey}
use Rattle.reassembly.specs.declared.fragment_key.FragmentKey.TheVariants.{Ipv4, Ipv6}
use Rattle.reassembly.specs.declared.reassembly_error.ReassemblyError.TheVariants.{BehindEnd, BufferTooSmall, Empty, LengthNotMultipleOf8, OtherEnd, OtherKey, Overlap, TooLong, TooManyFragments}

-- ---- equal values are the same

pub same_number : (n : ℕ) → (n == n) ≡ true
same_number n = grind (arith, nat_tests)

pub same_bytes : (bytes : List ℕ) → pointwise nat_eq bytes bytes ≡ true
same_bytes [] = refl
same_bytes (byte ∷ bytes) = ap (λ b. b && pointwise nat_eq bytes bytes) (same_number byte) ∙ same_bytes bytes

same_piece : (piece : Piece) → is_same piece piece ≡ true
same_piece piece = ap (λ b. b && pointwise nat_eq piece.bytes piece.bytes) (same_number piece.offset) ∙ same_bytes piece.bytes

both : (a b : Bool) → a ≡ true → b ≡ true → (a && b) ≡ true
both a b first second = ap (λ a. a && b) first ∙ second

pub same_key : (key : FragmentKey) → is_same_key key key ≡ true
same_key (Ipv4 source destination protocol identification) =
    both _ _ (same_bytes source) (both _ _ (same_bytes destination) (both _ _ (same_number protocol.0) (same_number identification)))
same_key (Ipv6 source destination identification) =
    both _ _ (same_bytes source) (both _ _ (same_bytes destination) (same_number identification))

-- ---- one fragment of a cut

-- the place of a fragment in the payload, and whether it is the last fragment
pub record IsPlaced (key : FragmentKey) (offset : ℕ) (payload : List ℕ) (fragment : FragmentValue) : Type 0 where
  pub key_is : fragment.key ≡ key
  pub start : offset ≤ fragment.offset
  pub some : 0 < length fragment.bytes
  pub end : fragment.offset + length fragment.bytes ≤ offset + length payload
  pub more : fragment.more_fragments ≡ true
      → (fragment.offset + length fragment.bytes < offset + length payload) × (length fragment.bytes % 8 ≡ 0)
  pub last : fragment.more_fragments ≡ false → fragment.offset + length fragment.bytes ≡ offset + length payload

true_is_false : {b : Bool} → b ≡ true → b ≡ false → ⊥
true_is_false is other = absurd (cc (is, other))

-- a cut consists of at least one fragment
cut_some : (key : FragmentKey) (offset : ℕ) (payload : List ℕ) (fragments : List FragmentValue) → IsCutFrom key offset payload fragments
    → 0 < length payload
cut_some key offset payload [] cut = absurd cut
cut_some key offset payload (last ∷ []) cut = omega (arith, ap length cut.1, cut.0.some)
cut_some key offset payload (first ∷ (next ∷ others)) cut =
    omega (arith, ap length cut.2.1, length-append first.bytes cut.2.0, cut.0.some)

pub placed : (key : FragmentKey) (offset : ℕ) (payload : List ℕ) (fragments : List FragmentValue) (fragment : FragmentValue)
    → IsCutFrom key offset payload fragments → IsOneOf fragments fragment → IsPlaced key offset payload fragment
placed key offset payload [] fragment cut is = absurd cut
placed key offset payload (last ∷ []) fragment cut (inl is) =
    subst (IsPlaced key offset payload) (sym is) (record {
      key_is = cut.0.key_is;
      start = omega (arith, cut.0.offset_is);
      some = cut.0.some;
      end = omega (arith, cut.0.offset_is, ap length cut.1);
      more = λ more. absurd (true_is_false more cut.0.more_is);
      last = λ last. omega (arith, cut.0.offset_is, ap length cut.1);
    })
placed key offset payload (last ∷ []) fragment cut (inr is) = absurd is
placed key offset payload (first ∷ (next ∷ others)) fragment cut (inl is) =
    let rest : List ℕ = cut.2.0 in
    let len : length payload ≡ length first.bytes + length rest = ap length cut.2.1 ∙ length-append first.bytes rest in
    let some : 0 < length rest = cut_some key (offset + length first.bytes) rest (next ∷ others) cut.2.2 in
    subst (IsPlaced key offset payload) (sym is) (record {
      key_is = cut.0.key_is;
      start = omega (arith, cut.0.offset_is);
      some = cut.0.some;
      end = omega (arith, cut.0.offset_is, len);
      more = λ more. (omega (arith, cut.0.offset_is, len, some), cut.1);
      last = λ last. absurd (true_is_false cut.0.more_is last);
    })
placed key offset payload (first ∷ (next ∷ others)) fragment cut (inr is) =
    let rest : List ℕ = cut.2.0 in
    let len : length payload ≡ length first.bytes + length rest = ap length cut.2.1 ∙ length-append first.bytes rest in
    let later : IsPlaced key (offset + length first.bytes) rest fragment =
    placed key (offset + length first.bytes) rest (next ∷ others) fragment cut.2.2 is in
    record {
      key_is = later.key_is;
      start = omega (arith, later.start);
      some = later.some;
      end = omega (arith, later.end, len);
      more = λ more. (omega (arith, (later.more more).0, len), (later.more more).1);
      last = λ last. omega (arith, later.last last, len);
    }

-- ---- two fragments of a cut

conflict_same : (a b : FragmentValue) → a ≡ b → conflicts (piece_of a) (piece_of b) ≡ false
conflict_same a b is =
    ap (λ b. conflicts (piece_of a) (piece_of b)) (sym is)
    ∙ ap (λ same. overlaps (piece_of a) (piece_of a) && not same) (same_piece (piece_of a)) ∙ never (overlaps (piece_of a) (piece_of a))
  where
    never : (b : Bool) → (b && false) ≡ false
    never true = refl
    never false = refl

conflict_before : (a b : FragmentValue) → end_of_fragment a ≤ b.offset → conflicts (piece_of a) (piece_of b) ≡ false
conflict_before a b before =
    let apart : nat_lt b.offset (end_of_fragment a) ≡ false = grind (arith, nat_tests, before) in
    ap (λ c. (nat_lt a.offset (end_of_fragment b) && c) && not (is_same (piece_of a) (piece_of b))) apart
    ∙ none (nat_lt a.offset (end_of_fragment b)) (not (is_same (piece_of a) (piece_of b)))
  where
    none : (b c : Bool) → ((b && false) && c) ≡ false
    none true c = refl
    none false c = refl

conflict_after : (a b : FragmentValue) → end_of_fragment b ≤ a.offset → conflicts (piece_of a) (piece_of b) ≡ false
conflict_after a b after =
    let apart : nat_lt a.offset (end_of_fragment b) ≡ false = grind (arith, nat_tests, after) in
    ap (λ c. (c && nat_lt b.offset (end_of_fragment a)) && not (is_same (piece_of a) (piece_of b))) apart

no_conflict : (key : FragmentKey) (offset : ℕ) (payload : List ℕ) (fragments : List FragmentValue) (a b : FragmentValue)
    → IsCutFrom key offset payload fragments → IsOneOf fragments a → IsOneOf fragments b → conflicts (piece_of a) (piece_of b) ≡ false
no_conflict key offset payload [] a b cut is_a is_b = absurd cut
no_conflict key offset payload (last ∷ []) a b cut (inr is_a) is_b = absurd is_a
no_conflict key offset payload (last ∷ []) a b cut (inl is_a) (inr is_b) = absurd is_b
no_conflict key offset payload (last ∷ []) a b cut (inl is_a) (inl is_b) = conflict_same a b (is_a ∙ sym is_b)
no_conflict key offset payload (first ∷ (next ∷ others)) a b cut (inl is_a) (inl is_b) = conflict_same a b (is_a ∙ sym is_b)
no_conflict key offset payload (first ∷ (next ∷ others)) a b cut (inl is_a) (inr is_b) =
    let later = placed key (offset + length first.bytes) cut.2.0 (next ∷ others) b cut.2.2 is_b in
    conflict_before a b (omega (arith, ap (λ f. f.offset + length f.bytes) is_a, cut.0.offset_is, later.start))
no_conflict key offset payload (first ∷ (next ∷ others)) a b cut (inr is_a) (inl is_b) =
    let later = placed key (offset + length first.bytes) cut.2.0 (next ∷ others) a cut.2.2 is_a in
    conflict_after a b (omega (arith, ap (λ f. f.offset + length f.bytes) is_b, cut.0.offset_is, later.start))
no_conflict key offset payload (first ∷ (next ∷ others)) a b cut (inr is_a) (inr is_b) =
    no_conflict key (offset + length first.bytes) cut.2.0 (next ∷ others) a b cut.2.2 is_a is_b

-- ---- the bytes of a cut

byte_of : (key : FragmentKey) (offset : ℕ) (payload : List ℕ) (fragments : List FragmentValue) (fragment : FragmentValue) (place : ℕ)
    → IsCutFrom key offset payload fragments → IsOneOf fragments fragment → fragment.offset ≤ place → place < end_of_fragment fragment
    → slice_index fragment.bytes (place - fragment.offset) ≡ slice_index payload (place - offset)
byte_of key offset payload [] fragment place cut is start end = absurd cut
byte_of key offset payload (last ∷ []) fragment place cut (inr is) start end = absurd is
byte_of key offset payload (last ∷ []) fragment place cut (inl is) start end =
    ap (λ f. slice_index f.bytes (place - f.offset)) is
    ∙ ap (λ n. slice_index last.bytes (place - n)) cut.0.offset_is ∙ ap (λ bytes. slice_index bytes (place - offset)) (sym cut.1)
byte_of key offset payload (first ∷ (next ∷ others)) fragment place cut (inl is) start end =
    ap (λ f. slice_index f.bytes (place - f.offset)) is
    ∙ ap (λ n. slice_index first.bytes (place - n)) cut.0.offset_is
    ∙ sym (get_or_append_left first.bytes cut.2.0 0 (place - offset)
    (omega (arith, ap (λ f. f.offset) is, ap (λ f. length f.bytes) is, cut.0.offset_is, start, end)))
    ∙ ap (λ bytes. slice_index bytes (place - offset)) (sym cut.2.1)
byte_of key offset payload (first ∷ (next ∷ others)) fragment place cut (inr is) start end =
    let later = placed key (offset + length first.bytes) cut.2.0 (next ∷ others) fragment cut.2.2 is in
    let there : place - offset - length first.bytes ≡ place - (offset + length first.bytes) = omega (arith, start, later.start) in
    byte_of key (offset + length first.bytes) cut.2.0 (next ∷ others) fragment place cut.2.2 is start end
    ∙ ap (slice_index cut.2.0) (sym there)
    ∙ sym (get_or-append_right first.bytes cut.2.0 (length first.bytes) (place - offset) 0 refl (omega (arith, start, later.start)))
    ∙ ap (λ bytes. slice_index bytes (place - offset)) (sym cut.2.1)

-- one of the fragments contains the byte at this place
record IsCovered (fragments : List FragmentValue) (place : ℕ) : Type 0 where
  pub fragment : FragmentValue
  pub is : IsOneOf fragments fragment
  pub start : fragment.offset ≤ place
  pub end : place < end_of_fragment fragment

covered : (key : FragmentKey) (offset : ℕ) (payload : List ℕ) (fragments : List FragmentValue) (place : ℕ)
    → IsCutFrom key offset payload fragments → offset ≤ place → place < offset + length payload → IsCovered fragments place
covered key offset payload [] place cut start end = absurd cut
covered key offset payload (last ∷ []) place cut start end = record {
  fragment = last;
  is = inl refl;
  start = omega (arith, cut.0.offset_is, start);
  end = omega (arith, cut.0.offset_is, end, ap length cut.1);
}
covered key offset payload (first ∷ (next ∷ others)) place cut start end =
    step (nat_lt place (offset + length first.bytes)) refl
    (λ behind below. covered key (offset + length first.bytes) cut.2.0 (next ∷ others) place cut.2.2 behind below)
  where
    len : length payload ≡ length first.bytes + length cut.2.0
    len = ap length cut.2.1 ∙ length-append first.bytes cut.2.0

    step : (is : Bool) → nat_lt place (offset + length first.bytes) ≡ is
        → (offset + length first.bytes ≤ place → place < offset + length first.bytes + length cut.2.0 → IsCovered (next ∷ others) place)
        → IsCovered (first ∷ (next ∷ others)) place
    step true is later = record {
      fragment = first;
      is = inl refl;
      start = omega (arith, cut.0.offset_is, start);
      end = grind (arith, nat_tests, cut.0.offset_is, is);
    }
    step false is later =
        let behind : offset + length first.bytes ≤ place = grind (arith, nat_tests, is) in
        let found : IsCovered (next ∷ others) place = later behind (omega (arith, end, len)) in
        record { fragment = found.fragment; is = inr found.is; start = found.start; end = found.end }

-- ---- a state that agrees with a cut

-- each piece is the piece of one of the fragments
abbrev ArePieces : List FragmentValue → List Piece → Type 0
ArePieces fragments [] = ⊤
ArePieces fragments (piece ∷ pieces) =
    ((fragment : FragmentValue) × IsOneOf fragments fragment × (piece_of fragment ≡ piece)) × ArePieces fragments pieces

abbrev one_unless : Bool → ℕ
one_unless true = 0
one_unless false = 1

-- the number of fragments that did not arrive
abbrev missing : List FragmentValue → List Piece → ℕ
missing [] pieces = 0
missing (fragment ∷ fragments) pieces = one_unless (is_among pieces (piece_of fragment)) + missing fragments pieces

-- the end is the end of the payload; if it is unknown, no piece reaches the end of the payload
abbrev EndsAt : ℕ → Option ℕ → List Piece → Type 0
EndsAt len None pieces = reaches len pieces ≡ false
EndsAt len (Some end) pieces = end ≡ len

record Agrees (key : FragmentKey) (payload : List ℕ) (fragments : List FragmentValue) (state : State) : Type 0 where
  pub key_is : state.key ≡ key
  pub room : length payload ≤ state.room
  pub pieces : ArePieces fragments state.pieces
  pub few : length state.pieces + missing fragments state.pieces ≤ length fragments
  pub end : EndsAt (length payload) state.end state.pieces

missing_none : (fragments : List FragmentValue) → missing fragments [] ≡ length fragments
missing_none [] = refl
missing_none (fragment ∷ fragments) = omega (arith, missing_none fragments)

agrees_empty : (key : FragmentKey) (room : ℕ) (payload : List ℕ) (fragments : List FragmentValue) → length payload ≤ room
    → Agrees key payload fragments (empty key room)
agrees_empty key room payload fragments fits =
    record { key_is = refl; room = fits; pieces = tt; few = omega (arith, missing_none fragments); end = refl }

-- ---- a fragment of the cut is accepted

none_then : {E : Type 0} (is : Bool) (error : E) (rules : List (Option E)) → is ≡ false → first_of rules ≡ None
    → first_of (refused_if is error ∷ rules) ≡ None
none_then true error rules is none = absurd (cc is)
none_then false error rules is none = none

not_true : (b : Bool) → b ≡ true → not b ≡ false
not_true b is = ap not is

equal_numbers : (a b : ℕ) → a ≡ b → (a == b) ≡ true
equal_numbers a b is = grind (arith, nat_tests)

other_numbers : (a b : ℕ) → b < a → (a == b) ≡ false
other_numbers a b is = grind (arith, nat_tests)

not_below : (a b : ℕ) → b ≤ a → nat_lt a b ≡ false
not_below a b is = grind (arith, nat_tests)

above : (a b : ℕ) → b < a → nat_le a b ≡ false
above a b is = grind (arith, nat_tests)

multiple : (more : Bool) (len : ℕ) → (more ≡ true → len % 8 ≡ 0) → (more && not (len % 8 == 0)) ≡ false
multiple true len is = not_true (len % 8 == 0) (equal_numbers (len % 8) 0 (is refl))
multiple false len is = refl

own_none : (key : FragmentKey) (room : ℕ) (payload : List ℕ) (fragment : FragmentValue) → IsPlaced key 0 payload fragment
    → length payload ≤ 65535 → length payload ≤ room → own_refusal key room fragment ≡ None
own_none key room payload fragment at short fits =
    let same : is_same_key fragment.key key ≡ true = ap (λ k. is_same_key k key) at.key_is ∙ same_key key in
    none_then (not (is_same_key fragment.key key)) OtherKey _ (not_true (is_same_key fragment.key key) same)
    (none_then (length fragment.bytes == 0) Empty _ (other_numbers (length fragment.bytes) 0 at.some)
    (none_then (fragment.more_fragments && not (length fragment.bytes % 8 == 0)) (LengthNotMultipleOf8 (length fragment.bytes)) _
    (multiple fragment.more_fragments (length fragment.bytes) (λ more. (at.more more).1))
    (none_then (nat_lt 65535 (end_of_fragment fragment)) (TooLong (end_of_fragment fragment)) _
    (not_below 65535 (end_of_fragment fragment) (omega (arith, at.end, short)))
    (none_then (nat_lt room (end_of_fragment fragment)) (BufferTooSmall (end_of_fragment fragment) room) []
    (not_below room (end_of_fragment fragment) (omega (arith, at.end, fits))) refl))))

known_none : (more : Bool) (end e len : ℕ) → end ≡ len → (more ≡ true → e < len) → (more ≡ false → e ≡ len)
    → (if more then refused_if (nat_le end e) BehindEnd else refused_if (not (e == end)) OtherEnd) ≡ None
known_none true end e len is more last =
    ap (λ b. refused_if b BehindEnd) (above end e (omega (arith, is, more refl)))
known_none false end e len is more last =
    ap (λ b. refused_if b OtherEnd) (not_true (e == end) (equal_numbers e end (last refl ∙ sym is)))

unknown_none : (more : Bool) (e len : ℕ) (pieces : List Piece) → reaches len pieces ≡ false → (more ≡ false → e ≡ len)
    → (if more then None else refused_if (reaches e pieces) BehindEnd) ≡ None
unknown_none true e len pieces none last = refl
unknown_none false e len pieces none last =
    ap (λ b. refused_if b BehindEnd) (ap (λ n. reaches n pieces) (last refl) ∙ none)

end_none : (key : FragmentKey) (payload : List ℕ) (fragment : FragmentValue) (end : Option ℕ) (pieces : List Piece)
    → IsPlaced key 0 payload fragment
    → EndsAt (length payload) end pieces → end_refusal end (reaches (end_of_fragment fragment) pieces) fragment ≡ None
end_none key payload fragment None pieces at ends =
    unknown_none fragment.more_fragments (end_of_fragment fragment) (length payload) pieces ends (λ last. omega (arith, at.last last))
end_none key payload fragment (Some end) pieces at ends =
    known_none fragment.more_fragments end (end_of_fragment fragment) (length payload) ends
    (λ more. omega (arith, (at.more more).0)) (λ last. omega (arith, at.last last))

conflict_none : (key : FragmentKey) (payload : List ℕ) (fragments : List FragmentValue) (fragment : FragmentValue) (pieces : List Piece)
    → IsCut key payload fragments → IsOneOf fragments fragment → ArePieces fragments pieces
    → list_any (conflicts (piece_of fragment)) pieces ≡ false
conflict_none key payload fragments fragment [] cut is are = refl
conflict_none key payload fragments fragment (piece ∷ pieces) cut is are =
    ap (λ b. b || list_any (conflicts (piece_of fragment)) pieces)
    (ap (conflicts (piece_of fragment)) (sym are.0.2) ∙ no_conflict key 0 payload fragments fragment are.0.0 cut is are.0.1)
    ∙ conflict_none key payload fragments fragment pieces cut is are.1

one_missing : (fragments : List FragmentValue) (fragment : FragmentValue) (pieces : List Piece) → IsOneOf fragments fragment
    → is_among pieces (piece_of fragment) ≡ false → 1 ≤ missing fragments pieces
one_missing [] fragment pieces is new = absurd is
one_missing (first ∷ others) fragment pieces (inl is) new =
    omega (arith, ap one_unless (ap (λ f. is_among pieces (piece_of f)) (sym is) ∙ new))
one_missing (first ∷ others) fragment pieces (inr is) new = omega (arith, one_missing others fragment pieces is new)

room_left : (fragments : List FragmentValue) (fragment : FragmentValue) (pieces : List Piece) (among : Bool) → IsOneOf fragments fragment
    → is_among pieces (piece_of fragment) ≡ among → length pieces + missing fragments pieces ≤ length fragments → length fragments ≤ 128
    → (not among && nat_le 128 (length pieces)) ≡ false
room_left fragments fragment pieces true is among few most = refl
room_left fragments fragment pieces false is among few most =
    above 128 (length pieces) (omega (arith, one_missing fragments fragment pieces is among, few, most))

accepted_one : (key : FragmentKey) (payload : List ℕ) (fragments : List FragmentValue) (fragment : FragmentValue) (state : State)
    → IsCut key payload fragments → length payload ≤ 65535 → length fragments ≤ 128 → IsOneOf fragments fragment
    → Agrees key payload fragments state
    → refusal state fragment ≡ None
accepted_one key payload fragments fragment state cut short most is agrees =
    let at : IsPlaced key 0 payload fragment = placed key 0 payload fragments fragment cut is in
    let own : own_refusal state.key state.room fragment ≡ None =
    ap (λ k. own_refusal k state.room fragment) agrees.key_is ∙ own_none key state.room payload fragment at short agrees.room in
    let ends : end_refusal state.end (reaches (end_of_fragment fragment) state.pieces) fragment ≡ None =
    end_none key payload fragment state.end state.pieces at agrees.end in
    let pieces : piece_refusal state.pieces (piece_of fragment) ≡ None =
    none_then (list_any (conflicts (piece_of fragment)) state.pieces) Overlap _
    (conflict_none key payload fragments fragment state.pieces cut is agrees.pieces)
    (none_then (not (is_among state.pieces (piece_of fragment)) && nat_le 128 (length state.pieces)) TooManyFragments []
    (room_left fragments fragment state.pieces (is_among state.pieces (piece_of fragment)) is refl agrees.few most) refl) in
    ap (λ own. first_of (own ∷ end_refusal state.end (reaches (end_of_fragment fragment) state.pieces) fragment
    ∷ piece_refusal state.pieces (piece_of fragment) ∷ [])) own
    ∙ ap (λ ends. first_of (None ∷ ends ∷ piece_refusal state.pieces (piece_of fragment) ∷ [])) ends
    ∙ ap (λ pieces. first_of (None ∷ None ∷ pieces ∷ [])) pieces

-- ---- the state still agrees after it

are_push : (fragments : List FragmentValue) (fragment : FragmentValue) (pieces : List Piece) → IsOneOf fragments fragment
    → ArePieces fragments pieces
    → ArePieces fragments (pieces ++ piece_of fragment ∷ [])
are_push fragments fragment [] is are = ((fragment, is, refl), tt)
are_push fragments fragment (piece ∷ pieces) is are = (are.0, are_push fragments fragment pieces is are.1)

unless_less : (a b : Bool) → one_unless (a || b) ≤ one_unless a
unless_less true b = omega arith
unless_less false true = omega arith
unless_less false false = omega arith

missing_less : (fragments : List FragmentValue) (piece : Piece) (pieces : List Piece)
    → missing fragments (pieces ++ piece ∷ []) ≤ missing fragments pieces
missing_less [] piece pieces = omega arith
missing_less (first ∷ others) piece pieces =
    omega (
      arith,
      ap one_unless (any_append (is_same (piece_of first)) pieces (piece ∷ [])),
      unless_less (is_among pieces (piece_of first)) (is_among (piece ∷ []) (piece_of first)),
      missing_less others piece pieces,
    )

among_push : (piece : Piece) (pieces : List Piece) → is_among (pieces ++ piece ∷ []) piece ≡ true
among_push piece pieces =
    any_append (is_same piece) pieces (piece ∷ []) ∙ ap (λ b. is_among pieces piece || (b || false)) (same_piece piece)
    ∙ last (is_among pieces piece)
  where
    last : (b : Bool) → (b || true) ≡ true
    last true = refl
    last false = refl

missing_fewer : (fragments : List FragmentValue) (fragment : FragmentValue) (pieces : List Piece) → IsOneOf fragments fragment
    → is_among pieces (piece_of fragment) ≡ false
    → missing fragments (pieces ++ piece_of fragment ∷ []) + 1 ≤ missing fragments pieces
missing_fewer [] fragment pieces is new = absurd is
missing_fewer (first ∷ others) fragment pieces (inl is) new =
    omega (
      arith,
      ap one_unless (ap (λ f. is_among pieces (piece_of f)) (sym is) ∙ new),
      ap one_unless (ap (λ f. is_among (pieces ++ piece_of fragment ∷ []) (piece_of f)) (sym is) ∙ among_push (piece_of fragment) pieces),
      missing_less others (piece_of fragment) pieces,
    )
missing_fewer (first ∷ others) fragment pieces (inr is) new =
    omega (
      arith,
      ap one_unless (any_append (is_same (piece_of first)) pieces (piece_of fragment ∷ [])),
      unless_less (is_among pieces (piece_of first)) (is_among (piece_of fragment ∷ []) (piece_of first)),
      missing_fewer others fragment pieces is new,
    )

-- the pieces after a fragment are pieces of the fragments
pieces_agree : (fragments : List FragmentValue) (fragment : FragmentValue) (pieces : List Piece) (among : Bool) → IsOneOf fragments fragment
    → is_among pieces (piece_of fragment) ≡ among → ArePieces fragments pieces → length pieces + missing fragments pieces ≤ length fragments
    → ArePieces fragments (if among then pieces else pieces ++ piece_of fragment ∷ [])
    × (length (if among then pieces else pieces ++ piece_of fragment ∷ [])
    + missing fragments (if among then pieces else pieces ++ piece_of fragment ∷ []) ≤ length fragments)
pieces_agree fragments fragment pieces true is among are few = (are, few)
pieces_agree fragments fragment pieces false is among are few = (
  are_push fragments fragment pieces is are,
  omega (arith, length-append pieces (piece_of fragment ∷ []), missing_fewer fragments fragment pieces is among, few),
)

-- the end still holds after another piece
reach_push : (len : ℕ) (pieces : List Piece) (piece : Piece) → reaches len pieces ≡ false → end_of piece < len
    → reaches len (pieces ++ piece ∷ []) ≡ false
reach_push len pieces piece none before =
    any_append (λ piece. nat_le len (end_of piece)) pieces (piece ∷ [])
    ∙ ap (λ b. b || (nat_le len (end_of piece) || false)) none ∙ ap (λ b. b || false) (above len (end_of piece) before)

end_agrees : (payload : List ℕ) (fragment : FragmentValue) (pieces : List Piece) (end : Option ℕ) (among more : Bool)
    → (more ≡ true → end_of_fragment fragment < length payload) → (more ≡ false → end_of_fragment fragment ≡ length payload)
    → EndsAt (length payload) end pieces
    → EndsAt (length payload) (if more then end else Some (end_of_fragment fragment))
    (if among then pieces else pieces ++ piece_of fragment ∷ [])
end_agrees payload fragment pieces end among false before last ends = last refl
end_agrees payload fragment pieces (Some end) among true before last ends = ends
end_agrees payload fragment pieces None true true before last ends = ends
end_agrees payload fragment pieces None false true before last ends =
    reach_push (length payload) pieces (piece_of fragment) ends (before refl)

agrees_after : (key : FragmentKey) (payload : List ℕ) (fragments : List FragmentValue) (fragment : FragmentValue) (state : State)
    → IsCut key payload fragments → IsOneOf fragments fragment → Agrees key payload fragments state
    → Agrees key payload fragments (with_fragment state fragment)
agrees_after key payload fragments fragment state cut is agrees =
    let at : IsPlaced key 0 payload fragment = placed key 0 payload fragments fragment cut is in
    let pieces = pieces_agree fragments fragment state.pieces
    (is_among state.pieces (piece_of fragment)) is refl agrees.pieces agrees.few in
    record {
      key_is = agrees.key_is;
      room = agrees.room;
      pieces = pieces.0;
      few = pieces.1;
      end = end_agrees payload fragment state.pieces state.end (is_among state.pieces (piece_of fragment)) fragment.more_fragments
          (λ more. omega (arith, (at.more more).0)) (λ last. omega (arith, at.last last)) agrees.end;
    }

-- ---- all arrivals

accepted_from : (key : FragmentKey) (payload : List ℕ) (fragments arrivals : List FragmentValue) (state : State)
    → IsCut key payload fragments → length payload ≤ 65535 → length fragments ≤ 128 → AreFrom fragments arrivals
    → Agrees key payload fragments state
    → AreAccepted state arrivals
accepted_from key payload fragments [] state cut short most from agrees = tt
accepted_from key payload fragments (first ∷ others) state cut short most from agrees = (
  accepted_one key payload fragments first state cut short most from.0 agrees,
  accepted_from key payload fragments others (with_fragment state first) cut short most from.1
      (agrees_after key payload fragments first state cut from.0 agrees),
)

agrees_from : (key : FragmentKey) (payload : List ℕ) (fragments arrivals : List FragmentValue) (state : State)
    → IsCut key payload fragments → AreFrom fragments arrivals → Agrees key payload fragments state
    → Agrees key payload fragments (after state arrivals)
agrees_from key payload fragments [] state cut from agrees = agrees
agrees_from key payload fragments (first ∷ others) state cut from agrees =
    agrees_from key payload fragments others (with_fragment state first) cut from.1
    (agrees_after key payload fragments first state cut from.0 agrees)

pub accepted : (key : FragmentKey) (room : ℕ) (payload : List ℕ) (fragments arrivals : List FragmentValue)
    → IsCut key payload fragments → length payload ≤ 65535 → length payload ≤ room → length fragments ≤ 128 → AreFrom fragments arrivals
    → AreAccepted (empty key room) arrivals
accepted key room payload fragments arrivals cut short fits most from =
    accepted_from key payload fragments arrivals (empty key room) cut short most from (agrees_empty key room payload fragments fits)

-- ---- each arrival is kept

pub among_more : (x piece : Piece) (pieces : List Piece) (among : Bool) → is_among pieces x ≡ true
    → is_among (if among then pieces else pieces ++ piece ∷ []) x ≡ true
among_more x piece pieces true there = there
among_more x piece pieces false there = any_append (is_same x) pieces (piece ∷ []) ∙ ap (λ b. b || is_among (piece ∷ []) x) there

pub among_new : (piece : Piece) (pieces : List Piece) (among : Bool) → is_among pieces piece ≡ among
    → is_among (if among then pieces else pieces ++ piece ∷ []) piece ≡ true
among_new piece pieces true is = is
among_new piece pieces false is = among_push piece pieces

among_after : (x : Piece) (arrivals : List FragmentValue) (state : State) → is_among state.pieces x ≡ true
    → is_among (after state arrivals).pieces x ≡ true
among_after x [] state there = there
among_after x (first ∷ others) state there =
    among_after x others (with_fragment state first)
    (among_more x (piece_of first) state.pieces (is_among state.pieces (piece_of first)) there)

pub arrived : (fragment : FragmentValue) (arrivals : List FragmentValue) (state : State) → IsOneOf arrivals fragment
    → is_among (after state arrivals).pieces (piece_of fragment) ≡ true
arrived fragment [] state is = absurd is
arrived fragment (first ∷ others) state (inl is) =
    among_after (piece_of fragment) others (with_fragment state first)
    (ap (λ f. is_among (with_fragment state first).pieces (piece_of f)) is
    ∙ among_new (piece_of first) state.pieces (is_among state.pieces (piece_of first)) refl)
arrived fragment (first ∷ others) state (inr is) = arrived fragment others (with_fragment state first) is

pub one_from : (xs ys : List FragmentValue) (fragment : FragmentValue) → AreFrom xs ys → IsOneOf ys fragment → IsOneOf xs fragment
one_from xs [] fragment from is = absurd is
one_from xs (first ∷ others) fragment from (inl is) = subst (IsOneOf xs) (sym is) from.0
one_from xs (first ∷ others) fragment from (inr is) = one_from xs others fragment from.1 is

-- ---- the payload is given back

pub is_number : (a b : ℕ) → (a == b) ≡ true → a ≡ b
is_number a b is = grind (arith, nat_tests)

pub parts_of_and : (a b : Bool) → (a && b) ≡ true → (a ≡ true) × (b ≡ true)
parts_of_and true b is = (refl, is)
parts_of_and false b is = absurd (cc is)

pub bytes_are : (a b : List ℕ) → pointwise nat_eq a b ≡ true → a ≡ b
bytes_are [] [] is = refl
bytes_are [] (y ∷ ys) is = absurd (cc is)
bytes_are (x ∷ xs) [] is = absurd (cc is)
bytes_are (x ∷ xs) (y ∷ ys) is =
    let parts = parts_of_and (nat_eq x y) (pointwise nat_eq xs ys) is in
    ap (λ x. x ∷ xs) (is_number x y parts.0) ∙ ap (λ xs. y ∷ xs) (bytes_are xs ys parts.1)

pub piece_is : (a b : Piece) → is_same a b ≡ true → a ≡ b
piece_is a b is =
    let parts = parts_of_and (a.offset == b.offset) (pointwise nat_eq a.bytes b.bytes) is in
    ap (λ offset. record { offset = offset; bytes = a.bytes }) (is_number a.offset b.offset parts.0)
    ∙ ap (λ bytes. record { offset = b.offset; bytes = bytes }) (bytes_are a.bytes b.bytes parts.1)

-- a test that holds for a piece holds for one of the pieces that are equal to it
pub any_among : (test : Piece → Bool) (piece : Piece) (pieces : List Piece) → is_among pieces piece ≡ true → test piece ≡ true
    → list_any test pieces ≡ true
any_among test piece [] among true_of = absurd (cc among)
any_among test piece (first ∷ pieces) among true_of =
    step (is_same piece first) refl among (λ among. any_among test piece pieces among true_of)
  where
    or_true : (b : Bool) → (b || true) ≡ true
    or_true true = refl
    or_true false = refl

    step : (is : Bool) → is_same piece first ≡ is → (is || is_among pieces piece) ≡ true
        → (is_among pieces piece ≡ true → list_any test pieces ≡ true) → (test first || list_any test pieces) ≡ true
    step true is among later = ap (λ b. b || list_any test pieces) (ap test (sym (piece_is piece first is)) ∙ true_of)
    step false is among later = ap (λ b. test first || b) (later among) ∙ or_true (test first)

minus_zero : (n : ℕ) → n - 0 ≡ n
minus_zero n = omega arith

byte_right : (key : FragmentKey) (payload : List ℕ) (fragments : List FragmentValue) (pieces : List Piece) (place : ℕ)
    → IsCut key payload fragments
    → ArePieces fragments pieces → list_any (covers place) pieces ≡ true → byte_at pieces place ≡ Some (slice_index payload place)
byte_right key payload fragments [] place cut are there = absurd (cc there)
byte_right key payload fragments (piece ∷ pieces) place cut are there =
    step (covers place piece) refl there (λ there. byte_right key payload fragments pieces place cut are.1 there)
  where
    step : (is : Bool) → covers place piece ≡ is → (is || list_any (covers place) pieces) ≡ true
        → (list_any (covers place) pieces ≡ true → byte_at pieces place ≡ Some (slice_index payload place))
        → byte_at (piece ∷ pieces) place ≡ Some (slice_index payload place)
    step true is there others =
        let fragment : FragmentValue = are.0.0 in
        let same : piece_of fragment ≡ piece = are.0.2 in
        let covering : covers place (piece_of fragment) ≡ true = ap (covers place) same ∙ is in
        let start : fragment.offset ≤ place = grind (arith, nat_tests, covering) in
        let end : place < end_of_fragment fragment = grind (arith, nat_tests, covering) in
        ap (λ b. if b then Some (slice_index piece.bytes (place - piece.offset)) else byte_at pieces place) is
        ∙ ap (λ p. Some (slice_index p.bytes (place - p.offset))) (sym same)
        ∙ ap (λ n. Some n) (byte_of key 0 payload fragments fragment place cut are.0.1 start end
        ∙ ap (slice_index payload) (minus_zero place))
    step false is there others =
        ap (λ b. if b then Some (slice_index piece.bytes (place - piece.offset)) else byte_at pieces place) is ∙ others there

end_is : (len : ℕ) (end : Option ℕ) (pieces : List Piece) → EndsAt len end pieces → reaches len pieces ≡ true → end ≡ Some len
end_is len None pieces ends reached = absurd (true_is_false reached ends)
end_is len (Some end) pieces ends reached = ap (λ n. Some n) ends

pub given_back : (key : FragmentKey) (room : ℕ) (payload : List ℕ) (fragments arrivals : List FragmentValue)
    → IsCut key payload fragments → length payload ≤ room → AreFrom fragments arrivals → AreFrom arrivals fragments
    → IsPayload (after (empty key room) arrivals) payload
given_back key room payload fragments arrivals cut fits from all =
    let state : State = after (empty key room) arrivals in
    let agrees : Agrees key payload fragments state =
    agrees_from key payload fragments arrivals (empty key room) cut from (agrees_empty key room payload fragments fits) in
    let some : 0 < length payload = cut_some key 0 payload fragments cut in
    let last : IsCovered fragments (length payload - 1) =
    covered key 0 payload fragments (length payload - 1) cut (omega arith) (omega (arith, some)) in
    let there : is_among state.pieces (piece_of last.fragment) ≡ true =
    arrived last.fragment arrivals (empty key room) (one_from arrivals fragments last.fragment all last.is) in
    let reached : reaches (length payload) state.pieces ≡ true =
    any_among (λ piece. nat_le (length payload) (end_of piece)) (piece_of last.fragment) state.pieces there
    (at_least (length payload) (end_of_fragment last.fragment) (omega (arith, last.end, some))) in (
      end_is (length payload) state.end state.pieces agrees.end reached,
      λ place below.
          let at : IsCovered fragments place = covered key 0 payload fragments place cut (omega arith) (omega (arith, below)) in
          let known : is_among state.pieces (piece_of at.fragment) ≡ true =
          arrived at.fragment arrivals (empty key room) (one_from arrivals fragments at.fragment all at.is) in
          byte_right key payload fragments state.pieces place cut agrees.pieces
          (any_among (covers place) (piece_of at.fragment) state.pieces known (covering place at.fragment at.start at.end)),
    )
  where
    at_least : (a b : ℕ) → a ≤ b → nat_le a b ≡ true
    at_least a b is = grind (arith, nat_tests)

    covering : (place : ℕ) (fragment : FragmentValue) → fragment.offset ≤ place → place < end_of_fragment fragment
        → covers place (piece_of fragment) ≡ true
    covering place fragment start end = grind (arith, nat_tests, start, end)
