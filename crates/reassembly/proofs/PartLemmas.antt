-- Laws of the parts of a buffer, and of the pieces in them.
use Rattle.std.proofs.Common.{◌≡◌, ℕ, ◌+◌, ◌-◌, ◌<◌, ◌≤◌, ◌⊎◌, inl, inr, nat_lt, nat_le, Bool, true, false, not, ◌&&◌, ◌||◌, List, [], ◌∷◌, ◌++◌, length, length-drop, length-append, map, take, drop, refl, sym, ◌∙◌, ap, subst, arith}
use Rattle.std.proofs.lemmas.Bool.Decides.{nat_tests}
use Rattle.std.proofs.lemmas.List.{drop-take, length-take-le, map-append}
use Rattle.std.proofs.lemmas.List.Elements.{All-cons, All-head, All-nil, All-push, All-tail}
use Rattle.std.proofs.lemmas.Slice.{between-put_mid, drop-put_mid, take-put_mid_below}
use Rattle.std.specs.List.{All, list_any}
use borrow.Rule.Slice.PartMut.{put_mid}
use Rattle.reassembly.specs.Parts.{AreApart, EndsWithin, Fits, part_overlaps, part_reaches, piece_in, pieces_in}
use Rattle.reassembly.specs.Pieces.{Piece, end_of, is_same, overlaps, total_len}
use Rattle.reassembly.specs.Reassembly.{conflicts, reaches}
use Rattle.reassembly.specs.declared.part.Part.{Part}

-- ---- lists

pub any_map : {X Y : Type 0} (test : Y → Bool) (f : X → Y) (xs : List X) → list_any test (map f xs) ≡ list_any (λ x. test (f x)) xs
any_map test f [] = refl
any_map test f (x ∷ xs) = ap (λ b. test (f x) || b) (any_map test f xs)

or_same : (a b c : Bool) → (a || (b || c)) ≡ ((a || b) || c)
or_same true b c = refl
or_same false b c = refl

pub or_false : (a b : Bool) → (a || b) ≡ false → (a ≡ false) × (b ≡ false)
or_false true b is = absurd (cc is)
or_false false b is = (refl, is)

pub false_or : (a b : Bool) → a ≡ false → b ≡ false → (a || b) ≡ false
false_or a b first second = ap (λ a. a || b) first ∙ second

pub any_append : {X : Type 0} (test : X → Bool) (xs ys : List X) → list_any test (xs ++ ys) ≡ (list_any test xs || list_any test ys)
any_append test [] ys = refl
any_append test (x ∷ xs) ys = ap (λ b. test x || b) (any_append test xs ys) ∙ or_same (test x) (list_any test xs) (list_any test ys)

-- ---- pieces

and_comm : (a b : Bool) → (a && b) ≡ (b && a)
and_comm true true = refl
and_comm true false = refl
and_comm false true = refl
and_comm false false = refl

pub overlaps_comm : (a b : Piece) → overlaps a b ≡ overlaps b a
overlaps_comm a b = and_comm (nat_lt a.offset (end_of b)) (nat_lt b.offset (end_of a))

pub apart_push : (pieces : List Piece) (piece : Piece) → AreApart pieces → list_any (overlaps piece) pieces ≡ false
    → AreApart (pieces ++ piece ∷ [])
apart_push [] piece apart none = (refl, tt)
apart_push (first ∷ pieces) piece apart none =
    let parts = or_false (overlaps piece first) (list_any (overlaps piece) pieces) none in (
      any_append (overlaps first) pieces (piece ∷ [])
          ∙ false_or (list_any (overlaps first) pieces) (overlaps first piece || false) apart.0
          (false_or (overlaps first piece) false (overlaps_comm first piece ∙ parts.0) refl),
      apart_push pieces piece apart.1 parts.1,
    )

pub total_push : (pieces : List Piece) (piece : Piece) → total_len (pieces ++ piece ∷ []) ≡ total_len pieces + length piece.bytes
total_push [] piece = omega arith
total_push (first ∷ pieces) piece = omega (arith, total_push pieces piece)

and_not : (a b : Bool) → (a && not b) ≡ false → b ≡ false → a ≡ false
and_not true b none other = absurd (cc (none, other))
and_not false b none other = refl

-- a piece without a conflict that is no repetition overlaps no other piece
pub no_overlap : (pieces : List Piece) (piece : Piece) → list_any (conflicts piece) pieces ≡ false → list_any (is_same piece) pieces ≡ false
    → list_any (overlaps piece) pieces ≡ false
no_overlap [] piece none new = refl
no_overlap (first ∷ pieces) piece none new =
    let conflict = or_false (conflicts piece first) (list_any (conflicts piece) pieces) none in
    let same = or_false (is_same piece first) (list_any (is_same piece) pieces) new in
    false_or (overlaps piece first) (list_any (overlaps piece) pieces)
    (and_not (overlaps piece first) (is_same piece first) conflict.0 same.0) (no_overlap pieces piece conflict.1 same.1)

-- ---- parts

pub piece_len : (buffer : List ℕ) (part : Part) → part.offset + part.len ≤ length buffer
    → length (take part.len (drop part.offset buffer)) ≡ part.len
piece_len buffer part fits = length-take-le part.len (drop part.offset buffer) (omega (arith, fits, length-drop part.offset buffer))

pub reaches_parts : (buffer : List ℕ) (parts : List Part) (place : ℕ) → All (Fits buffer) parts
    → part_reaches place parts ≡ reaches place (pieces_in buffer parts)
reaches_parts buffer [] place fit = refl
reaches_parts buffer (part ∷ parts) place fit =
    ap (λ len. nat_le place (part.offset + len) || part_reaches place parts)
    (sym (piece_len buffer part (All-head (Fits buffer) part parts fit)))
    ∙ ap (λ b. nat_le place (end_of (piece_in buffer part)) || b) (reaches_parts buffer parts place (All-tail (Fits buffer) part parts fit))

-- no part reaches a place after `reach` if no part ends after `reach`
pub none_reaches : (parts : List Part) (reach place : ℕ) → All (EndsWithin reach) parts → reach < place → part_reaches place parts ≡ false
none_reaches [] reach place within after = refl
none_reaches (part ∷ parts) reach place within after =
    let ends : part.offset + part.len ≤ reach = All-head (EndsWithin reach) part parts within in
    let first : nat_le place (part.offset + part.len) ≡ false = grind (arith, nat_tests, ends, after) in
    false_or (nat_le place (part.offset + part.len)) (part_reaches place parts) first
    (none_reaches parts reach place (All-tail (EndsWithin reach) part parts within) after)

-- no part overlaps the bytes from `offset` on if no part ends after `offset`
pub none_overlaps : (parts : List Part) (reach offset end : ℕ) → All (EndsWithin reach) parts → reach ≤ offset
    → list_any (part_overlaps offset end) parts ≡ false
none_overlaps [] reach offset end within after = refl
none_overlaps (part ∷ parts) reach offset end within after =
    let ends : part.offset + part.len ≤ reach = All-head (EndsWithin reach) part parts within in
    let first : nat_lt offset (part.offset + part.len) ≡ false = grind (arith, nat_tests, ends, after) in
    false_or (part_overlaps offset end part) (list_any (part_overlaps offset end) parts) (ap (λ b. b && nat_lt part.offset end) first)
    (none_overlaps parts reach offset end (All-tail (EndsWithin reach) part parts within) after)

pub overlaps_parts : (buffer : List ℕ) (parts : List Part) (piece : Piece) → All (Fits buffer) parts
    → list_any (overlaps piece) (pieces_in buffer parts) ≡ list_any (part_overlaps piece.offset (end_of piece)) parts
overlaps_parts buffer [] piece fit = refl
overlaps_parts buffer (part ∷ parts) piece fit =
    ap (λ len. (nat_lt piece.offset (part.offset + len) && nat_lt part.offset (end_of piece))
    || list_any (overlaps piece) (pieces_in buffer parts)) (piece_len buffer part (All-head (Fits buffer) part parts fit))
    ∙ ap (λ b. part_overlaps piece.offset (end_of piece) part || b)
    (overlaps_parts buffer parts piece (All-tail (Fits buffer) part parts fit))

-- what holds of a greater place
ends_later : (part : Part) (before after : ℕ) → EndsWithin before part → before ≤ after → EndsWithin after part
ends_later part before after ends more = omega (arith, ends, more)

pub within_later : (parts : List Part) (before after : ℕ) → All (EndsWithin before) parts → before ≤ after → All (EndsWithin after) parts
within_later [] before after within more = All-nil (EndsWithin after)
within_later (part ∷ parts) before after within more =
    All-cons (EndsWithin after) part parts (ends_later part before after (All-head (EndsWithin before) part parts within) more)
    (within_later parts before after (All-tail (EndsWithin before) part parts within) more)

-- no part ends after the new reach once a part is added
pub within_new : (parts new : List Part) (part : Part) (before after : ℕ) → All (EndsWithin before) parts → before ≤ after
    → EndsWithin after part → new ≡ parts ++ part ∷ [] → All (EndsWithin after) new
within_new parts new part before after within more ends new_is =
    subst (All (EndsWithin after)) (sym new_is)
    (All-push (EndsWithin after) parts part (within_later parts before after within more) ends)

-- ---- a piece that is written into the buffer

below_or_above : (a b c d : ℕ) → (nat_lt a b && nat_lt c d) ≡ false → (b ≤ a) ⊎ (d ≤ c)
below_or_above a b c d none = split (nat_lt a b) refl
  where
    split : (first : Bool) → nat_lt a b ≡ first → (b ≤ a) ⊎ (d ≤ c)
    split true is = inr (grind (arith, nat_tests, is, none))
    split false is = inl (grind (arith, nat_tests, is))

-- another part has the same bytes as before
written_part : (buffer bytes : List ℕ) (offset start len : ℕ) → offset + length bytes ≤ length buffer → start + len ≤ length buffer
    → (start + len ≤ offset) ⊎ (offset + length bytes ≤ start)
    → take len (drop start (put_mid offset (length bytes) buffer bytes)) ≡ take len (drop start buffer)
written_part buffer bytes offset start len room fits (inl before) =
    sym (drop-take start len (put_mid offset (length bytes) buffer bytes))
    ∙ ap (drop start) (take-put_mid_below offset (length bytes) buffer bytes (start + len) before (omega (arith, room)))
    ∙ drop-take start len buffer
written_part buffer bytes offset start len room fits (inr after) =
    ap (take len) (drop-put_mid offset (length bytes) buffer bytes start after (omega (arith, room)) refl)

pub written_pieces : (buffer bytes : List ℕ) (offset : ℕ) (parts : List Part) → offset + length bytes ≤ length buffer
    → All (Fits buffer) parts
    → list_any (overlaps (record { offset = offset; bytes = bytes })) (pieces_in buffer parts) ≡ false
    → pieces_in (put_mid offset (length bytes) buffer bytes) parts ≡ pieces_in buffer parts
written_pieces buffer bytes offset [] room fit apart = refl
written_pieces buffer bytes offset (part ∷ parts) room fit apart =
    let none = or_false (overlaps (record { offset = offset; bytes = bytes }) (piece_in buffer part))
    (list_any (overlaps (record { offset = offset; bytes = bytes })) (pieces_in buffer parts)) apart in
    let fits : part.offset + part.len ≤ length buffer = All-head (Fits buffer) part parts fit in
    let sides = below_or_above offset (part.offset + length (take part.len (drop part.offset buffer))) part.offset
    (offset + length bytes) none.0 in
    let Sides : ℕ → Type 0 = λ len. (part.offset + len ≤ offset) ⊎ (offset + length bytes ≤ part.offset) in
    let bytes_are = written_part buffer bytes offset part.offset part.len room fits (subst Sides (piece_len buffer part fits) sides) in
    ap (λ front. record { offset = part.offset; bytes = front } ∷ pieces_in (put_mid offset (length bytes) buffer bytes) parts) bytes_are
    ∙ ap (λ rest. piece_in buffer part ∷ rest)
    (written_pieces buffer bytes offset parts room (All-tail (Fits buffer) part parts fit) none.1)

written_new : (buffer bytes : List ℕ) (offset : ℕ) → offset + length bytes ≤ length buffer
    → take (length bytes) (drop offset (put_mid offset (length bytes) buffer bytes)) ≡ bytes
written_new buffer bytes offset room =
    let len : offset + length bytes - offset ≡ length bytes = omega arith in
    ap (λ n. take n (drop offset (put_mid offset (length bytes) buffer bytes))) (sym len)
    ∙ between-put_mid offset (length bytes) buffer bytes (offset + length bytes) (omega (arith, room)) (sym len)

pub pieces_after : (buffer bytes : List ℕ) (offset : ℕ) (parts : List Part) → offset + length bytes ≤ length buffer
    → All (Fits buffer) parts
    → list_any (overlaps (record { offset = offset; bytes = bytes })) (pieces_in buffer parts) ≡ false
    → pieces_in (put_mid offset (length bytes) buffer bytes) (parts ++ record { offset = offset; len = length bytes } ∷ [])
    ≡ pieces_in buffer parts ++ record { offset = offset; bytes = bytes } ∷ []
pieces_after buffer bytes offset parts room fit apart =
    map-append (piece_in (put_mid offset (length bytes) buffer bytes)) parts (record { offset = offset; len = length bytes } ∷ [])
    ∙ ap (λ front. front ++ piece_in (put_mid offset (length bytes) buffer bytes) (record { offset = offset; len = length bytes }) ∷ [])
    (written_pieces buffer bytes offset parts room fit apart)
    ∙ ap (λ new. pieces_in buffer parts ++ record { offset = offset; bytes = new } ∷ []) (written_new buffer bytes offset room)

pub length_after : (buffer bytes : List ℕ) (offset : ℕ) → offset + length bytes ≤ length buffer
    → length (put_mid offset (length bytes) buffer bytes) ≡ length buffer
length_after buffer bytes offset room =
    omega (
      arith,
      room,
      length-append (take offset buffer) (bytes ++ drop (length bytes) (drop offset buffer)),
      length-append bytes (drop (length bytes) (drop offset buffer)),
      length-take-le offset buffer (omega (arith, room)),
      length-drop (length bytes) (drop offset buffer),
      length-drop offset buffer,
    )

pub fit_after : (buffer bytes : List ℕ) (offset : ℕ) (parts : List Part) → offset + length bytes ≤ length buffer → All (Fits buffer) parts
    → All (Fits (put_mid offset (length bytes) buffer bytes)) (parts ++ record { offset = offset; len = length bytes } ∷ [])
fit_after buffer bytes offset parts room fit =
    let after : List ℕ = put_mid offset (length bytes) buffer bytes in
    let P : ℕ → Type 0 = λ len. All (EndsWithin len) (parts ++ record { offset = offset; len = length bytes } ∷ []) in
    subst P (sym (length_after buffer bytes offset room))
    (All-push (Fits buffer) parts (record { offset = offset; len = length bytes }) fit room)
