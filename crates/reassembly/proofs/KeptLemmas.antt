-- Laws of what a reassembly keeps, before and after a fragment is added.
use Rattle.std.proofs.Common.{◌≡◌, ℕ, ◌+◌, ◌%◌, ◌<◌, ◌≤◌, nat_lt, nat_le, ◌==◌, Bool, true, false, not, ◌&&◌, ◌||◌, if◌then◌else◌, List, [], ◌∷◌, ◌++◌, length, take, Option, Some, None, refl, sym, ◌∙◌, ap, subst, arith}
use Rattle.std.proofs.lemmas.Bool.{ltb-false}
use Rattle.std.proofs.lemmas.Bool.Decides.{nat_tests}
use Rattle.std.proofs.lemmas.List.{get_or-take, length-map, length-take-le}
use Rattle.std.proofs.lemmas.List.Elements.{All-cons, All-nil, All-push}
use Rattle.std.specs.List.{All, list_any}
use borrow.Rule.Slice.PartMut.{put_mid}
use Rattle.net_base.specs.Refusals.{first_of, refused_if}
use Rattle.reassembly.proofs.CountLemmas.{byte_in_buffer, count_by_known, count_total, known_by_count, total_most}
use Rattle.reassembly.proofs.FragmentLemmas.{none_if}
use Rattle.reassembly.proofs.PartLemmas.{any_map, apart_push, fit_after, length_after, no_overlap, pieces_after, reaches_parts, total_push}
use Rattle.reassembly.specs.Fragments.{FragmentValue}
use Rattle.reassembly.specs.Parts.{AreApart, AreKept, EndsWithin, Fits, part_reaches, piece_in, pieces_in}
use Rattle.reassembly.specs.Pieces.{Piece, is_among, is_same, overlaps, total_len}
use Rattle.reassembly.specs.Reassembly.{IsComplete, IsPayload, State, conflicts, end_of_fragment, end_refusal, end_with, is_same_key, own_refusal, piece_of, piece_refusal, reaches, refusal, with_fragment}
use Rattle.reassembly.specs.declared.fragment_key.FragmentKey.{FragmentKey}
use Rattle.reassembly.specs.declared.part.Part.{Part}
use Rattle.reassembly.specs.declared.reassembly_error.ReassemblyError.{ReassemblyError}
use Rattle.reassembly.specs.declared.reassembly_error.ReassemblyError.TheVariants.{BehindEnd, BufferTooSmall, Empty, LengthNotMultipleOf8, OtherEnd, OtherKey, Overlap, TooLong, TooManyFragments}

-- ---- what an accepted fragment states

some_is_none : {A : Type 0} (a : A) → Some a ≡ None → ⊥
some_is_none a is = cc is

five_none : (a b c d e : Bool) (v w x y z : ReassemblyError)
    → first_of (refused_if a v ∷ refused_if b w ∷ refused_if c x ∷ refused_if d y ∷ refused_if e z ∷ []) ≡ None → (d ≡ false) × (e ≡ false)
five_none true b c d e v w x y z none = absurd (some_is_none v none)
five_none false true c d e v w x y z none = absurd (some_is_none w none)
five_none false false true d e v w x y z none = absurd (some_is_none x none)
five_none false false false true e v w x y z none = absurd (some_is_none y none)
five_none false false false false true v w x y z none = absurd (some_is_none z none)
five_none false false false false false v w x y z none = (refl, refl)

pub two_none : (a b : Bool) (x y : ReassemblyError) → first_of (refused_if a x ∷ refused_if b y ∷ []) ≡ None → (a ≡ false) × (b ≡ false)
two_none true b x y none = absurd (some_is_none x none)
two_none false true x y none = absurd (some_is_none y none)
two_none false false x y none = (refl, refl)

-- an accepted fragment is refused by none of three rules
three_none : (a b c : Option ReassemblyError) → first_of (a ∷ b ∷ c ∷ []) ≡ None → (a ≡ None) × (b ≡ None) × (c ≡ None)
three_none (Some e) b c none = absurd (some_is_none e none)
three_none None (Some e) c none = absurd (some_is_none e none)
three_none None None (Some e) none = absurd (some_is_none e none)
three_none None None None none = (refl, refl, refl)

pub accepted_by : (state : State) (fragment : FragmentValue) → refusal state fragment ≡ None
    → (own_refusal state.key state.room fragment ≡ None)
    × (end_refusal state.end (reaches (end_of_fragment fragment) state.pieces) fragment ≡ None)
    × (piece_refusal state.pieces (piece_of fragment) ≡ None)
accepted_by state fragment none =
    three_none (own_refusal state.key state.room fragment)
    (end_refusal state.end (reaches (end_of_fragment fragment) state.pieces) fragment)
    (piece_refusal state.pieces (piece_of fragment)) none

-- an accepted fragment ends within the longest payload and within the buffer
pub own_fits : (key : FragmentKey) (room : ℕ) (fragment : FragmentValue) → own_refusal key room fragment ≡ None
    → (end_of_fragment fragment ≤ 65535) × (end_of_fragment fragment ≤ room)
own_fits key room fragment none =
    let e : ℕ = end_of_fragment fragment in
    let rules = five_none (not (is_same_key fragment.key key)) (length fragment.bytes == 0)
    (fragment.more_fragments && not (length fragment.bytes % 8 == 0)) (nat_lt 65535 e) (nat_lt room e)
    OtherKey Empty (LengthNotMultipleOf8 (length fragment.bytes)) (TooLong e) (BufferTooSmall e room) none in
    (ltb-false 65535 e rules.0, ltb-false room e rules.1)

-- no part reaches a place after all parts
ends_below : (parts : List Part) (place : ℕ) → part_reaches place parts ≡ false → All (EndsWithin place) parts
ends_below [] place none = All-nil (EndsWithin place)
ends_below (part ∷ parts) place none = step (nat_le place (part.offset + part.len)) refl none (λ none. ends_below parts place none)
  where
    step : (is : Bool) → nat_le place (part.offset + part.len) ≡ is → (is || part_reaches place parts) ≡ false
        → (part_reaches place parts ≡ false → All (EndsWithin place) parts) → All (EndsWithin place) (part ∷ parts)
    step true is none others = absurd (cc none)
    step false is none others =
        let below : part.offset + part.len ≤ place = grind (arith, nat_tests, is) in
        All-cons (EndsWithin place) part parts below (others none)

same_some : (a b : ℕ) → Some a ≡ Some b → a ≡ b
same_some a b is = cc is

no_some : (a : ℕ) → None ≡ Some a → ⊥
no_some a is = cc is

known_end : (parts : List Part) (more : Bool) (e end len : ℕ) → All (EndsWithin end) parts
    → (if more then refused_if (nat_le end e) BehindEnd else refused_if (not (e == end)) OtherEnd) ≡ None
    → (if more then Some end else Some e) ≡ Some len → All (EndsWithin len) parts × (e ≤ len)
known_end parts true e end len within none is =
    let before : nat_le end e ≡ false = none_if (nat_le end e) BehindEnd none in
    let below : e ≤ end = grind (arith, nat_tests, before) in
    let P : ℕ → Type 0 = λ n. All (EndsWithin n) parts × (e ≤ n) in
    subst P (same_some end len is) (within, below)
known_end parts false e end len within none is =
    let same : not (e == end) ≡ false = none_if (not (e == end)) OtherEnd none in
    let equal : end ≡ e = grind (arith, nat_tests, same) in
    let P : ℕ → Type 0 = λ n. All (EndsWithin n) parts × (e ≤ n) in
    subst P (equal ∙ same_some e len is) (within, omega (arith, equal))

unknown_end : (parts : List Part) (more : Bool) (e len : ℕ)
    → (if more then None else refused_if (part_reaches e parts) BehindEnd) ≡ None
    → (if more then None else Some e) ≡ Some len → All (EndsWithin len) parts × (e ≤ len)
unknown_end parts true e len none is = absurd (no_some len is)
unknown_end parts false e len none is =
    let P : ℕ → Type 0 = λ n. All (EndsWithin n) parts × (e ≤ n) in
    subst P (same_some e len is) (ends_below parts e (none_if (part_reaches e parts) BehindEnd none), omega arith)

-- the end of the payload agrees with all parts and with the fragment
pub ends_agree : (parts : List Part) (end : Option ℕ) (fragment : FragmentValue) → ((len : ℕ) → end ≡ Some len → All (EndsWithin len) parts)
    → end_refusal end (part_reaches (end_of_fragment fragment) parts) fragment ≡ None
    → (len : ℕ) → end_with end fragment ≡ Some len → All (EndsWithin len) parts × (end_of_fragment fragment ≤ len)
ends_agree parts (Some end) fragment within none len is =
    known_end parts fragment.more_fragments (end_of_fragment fragment) end len (within end refl) none is
ends_agree parts None fragment within none len is = unknown_end parts fragment.more_fragments (end_of_fragment fragment) len none is

pub end_by_parts : (buffer : List ℕ) (parts : List Part) (end : Option ℕ) (fragment : FragmentValue) → All (Fits buffer) parts
    → end_refusal end (reaches (end_of_fragment fragment) (pieces_in buffer parts)) fragment ≡ None
    → end_refusal end (part_reaches (end_of_fragment fragment) parts) fragment ≡ None
end_by_parts buffer parts end fragment fit none =
    ap (λ reached. end_refusal end reached fragment) (reaches_parts buffer parts (end_of_fragment fragment) fit) ∙ none

-- ---- what is kept

pub kept_empty : (buffer : List ℕ) → AreKept buffer [] 0 None
kept_empty buffer = record {
  fit = All-nil (Fits buffer);
  apart = tt;
  sum = refl;
  short = All-nil (EndsWithin 65535);
  ended = λ len is. absurd (no_some len is);
}

-- what a reassembly keeps after a repeated fragment
pub kept_repeated : (buffer : List ℕ) (parts : List Part) (received : ℕ) (end : Option ℕ) (fragment : FragmentValue)
    → AreKept buffer parts received end → end_refusal end (part_reaches (end_of_fragment fragment) parts) fragment ≡ None
    → AreKept buffer parts received (end_with end fragment)
kept_repeated buffer parts received end fragment kept none = record {
  fit = kept.fit;
  apart = kept.apart;
  sum = kept.sum;
  short = kept.short;
  ended = λ len is. (ends_agree parts end fragment kept.ended none len is).0;
}

-- what a reassembly keeps after a new piece
pub kept_added : (buffer after : List ℕ) (parts new : List Part) (received : ℕ) (end : Option ℕ) (fragment : FragmentValue)
    → AreKept buffer parts received end
    → new ≡ parts ++ record { offset = fragment.offset; len = length fragment.bytes } ∷ []
    → pieces_in after new ≡ pieces_in buffer parts ++ piece_of fragment ∷ []
    → All (Fits after) new → list_any (overlaps (piece_of fragment)) (pieces_in buffer parts) ≡ false
    → end_of_fragment fragment ≤ 65535 → end_refusal end (part_reaches (end_of_fragment fragment) parts) fragment ≡ None
    → AreKept after new (received + length fragment.bytes) (end_with end fragment)
kept_added buffer after parts new received end fragment kept new_is pieces_are fit apart short none =
    let part : Part = record { offset = fragment.offset; len = length fragment.bytes } in
    record {
      fit = fit;
      apart = subst AreApart (sym pieces_are) (apart_push (pieces_in buffer parts) (piece_of fragment) kept.apart apart);
      sum = ap (λ n. n + length fragment.bytes) kept.sum ∙ sym (total_push (pieces_in buffer parts) (piece_of fragment))
          ∙ ap total_len (sym pieces_are);
      short = subst (All (EndsWithin 65535)) (sym new_is) (All-push (EndsWithin 65535) parts part kept.short short);
      ended = λ len is.
          let agree = ends_agree parts end fragment kept.ended none len is in
          subst (All (EndsWithin len)) (sym new_is) (All-push (EndsWithin len) parts part agree.0 agree.1);
    }

pub received_most : (buffer : List ℕ) (parts : List Part) (received : ℕ) (end : Option ℕ) → AreKept buffer parts received end
    → received ≤ 65535
received_most buffer parts received end kept =
    omega (arith, kept.sum, total_most buffer parts 65535 kept.fit kept.apart kept.short)

-- ---- complete

pub complete_by : (buffer : List ℕ) (parts : List Part) (received : ℕ) (end : Option ℕ) (key : FragmentKey) (room : ℕ)
    → AreKept buffer parts received end
    → end ≡ Some received → IsComplete (record { key = key; room = room; pieces = pieces_in buffer parts; end = end })
complete_by buffer parts received end key room kept is = (
  received,
  is,
  λ place below. known_by_count (pieces_in buffer parts) received place
      (count_total buffer parts received kept.fit kept.apart (kept.ended received is) ∙ sym kept.sum) below,
)

pub by_complete : (buffer : List ℕ) (parts : List Part) (received : ℕ) (end : Option ℕ) (key : FragmentKey) (room : ℕ)
    → AreKept buffer parts received end
    → IsComplete (record { key = key; room = room; pieces = pieces_in buffer parts; end = end }) → end ≡ Some received
by_complete buffer parts received end key room kept complete =
    let len : ℕ = complete.0 in
    let same : len ≡ received =
    sym (count_by_known (pieces_in buffer parts) len complete.2)
    ∙ count_total buffer parts len kept.fit kept.apart (kept.ended len complete.1) ∙ sym kept.sum in
    complete.1 ∙ ap (λ n. Some n) same

-- ---- the errors in their order

pub refusal_is : (key : FragmentKey) (room : ℕ) (buffer : List ℕ) (parts : List Part) (end : Option ℕ) (fragment : FragmentValue)
    → (own ends pieces : Option ReassemblyError) → All (Fits buffer) parts → own_refusal key room fragment ≡ own
    → end_refusal end (part_reaches (end_of_fragment fragment) parts) fragment ≡ ends
    → piece_refusal (pieces_in buffer parts) (piece_of fragment) ≡ pieces
    → refusal (record { key = key; room = room; pieces = pieces_in buffer parts; end = end }) fragment ≡ first_of (own ∷ ends ∷ pieces ∷ [])
refusal_is key room buffer parts end fragment own ends pieces fit own_is ends_are pieces_are =
    ap (λ own. first_of (own ∷ end_refusal end (reaches (end_of_fragment fragment) (pieces_in buffer parts)) fragment
    ∷ piece_refusal (pieces_in buffer parts) (piece_of fragment) ∷ [])) own_is
    ∙ ap (λ reached. first_of (own ∷ end_refusal end reached fragment ∷ piece_refusal (pieces_in buffer parts) (piece_of fragment) ∷ []))
    (sym (reaches_parts buffer parts (end_of_fragment fragment) fit))
    ∙ ap (λ ends. first_of (own ∷ ends ∷ piece_refusal (pieces_in buffer parts) (piece_of fragment) ∷ [])) ends_are
    ∙ ap (λ pieces. first_of (own ∷ ends ∷ pieces ∷ [])) pieces_are

-- a piece that was accepted and is new overlaps no other piece, and there is room for it
pub new_piece : (buffer : List ℕ) (parts : List Part) (piece : Piece) → piece_refusal (pieces_in buffer parts) piece ≡ None
    → is_among (pieces_in buffer parts) piece ≡ false
    → (list_any (overlaps piece) (pieces_in buffer parts) ≡ false) × (length parts < 128)
new_piece buffer parts piece none new =
    let rules = two_none (list_any (conflicts piece) (pieces_in buffer parts))
    (not (is_among (pieces_in buffer parts) piece) && nat_le 128 (length (pieces_in buffer parts))) Overlap TooManyFragments none in
    let few : nat_le 128 (length (pieces_in buffer parts)) ≡ false =
    sym (ap (λ b. not b && nat_le 128 (length (pieces_in buffer parts))) new) ∙ rules.1 in
    let below : length (pieces_in buffer parts) < 128 = grind (arith, nat_tests, few) in
    (no_overlap (pieces_in buffer parts) piece rules.0 new, omega (arith, below, length-map parts (piece_in buffer)))

-- ---- the payload

pub payload_fits : (buffer : List ℕ) (parts : List Part) (received : ℕ) (end : Option ℕ) → AreKept buffer parts received end
    → received ≤ length buffer
payload_fits buffer parts received end kept =
    omega (arith, kept.sum, total_most buffer parts (length buffer) kept.fit kept.apart kept.fit)

pub payload_is : (buffer : List ℕ) (parts : List Part) (received : ℕ) (end : Option ℕ) (key : FragmentKey) (room : ℕ)
    → AreKept buffer parts received end
    → end ≡ Some received → IsPayload (record { key = key; room = room; pieces = pieces_in buffer parts; end = end }) (take received buffer)
unfolding complete_by
payload_is buffer parts received end key room kept is =
    let len : length (take received buffer) ≡ received = length-take-le received buffer (payload_fits buffer parts received end kept) in
    let complete = complete_by buffer parts received end key room kept is in (
      is ∙ ap (λ n. Some n) (sym len),
      λ place below.
          let inside : place < received = omega (arith, below, len) in
          byte_in_buffer buffer parts place (complete.2 place inside) ∙ ap (λ n. Some n) (sym (get_or-take received buffer place 0 inside)),
    )

pub not_complete : (buffer : List ℕ) (parts : List Part) (received len : ℕ) (end : Option ℕ) (key : FragmentKey) (room : ℕ)
    → AreKept buffer parts received end
    → end ≡ Some len → IsComplete (record { key = key; room = room; pieces = pieces_in buffer parts; end = end }) → received ≡ len
not_complete buffer parts received len end key room kept is complete =
    same_some received len (sym (by_complete buffer parts received end key room kept complete) ∙ is)

-- ---- the rules of a piece, by the parts

pub among_by_parts : (buffer : List ℕ) (parts : List Part) (piece : Piece)
    → is_among (pieces_in buffer parts) piece ≡ list_any (λ part. is_same piece (piece_in buffer part)) parts
among_by_parts buffer parts piece = any_map (is_same piece) (piece_in buffer) parts

pub piece_rules : (buffer : List ℕ) (parts : List Part) (piece : Piece) (conflict among many : Bool)
    → list_any (conflicts piece) (pieces_in buffer parts) ≡ conflict
    → is_among (pieces_in buffer parts) piece ≡ among → nat_le 128 (length parts) ≡ many
    → piece_refusal (pieces_in buffer parts) piece
    ≡ first_of (refused_if conflict Overlap ∷ refused_if (not among && many) TooManyFragments ∷ [])
piece_rules buffer parts piece conflict among many conflict_is among_is many_is =
    ap (λ b. first_of (refused_if b Overlap ∷ refused_if (not (is_among (pieces_in buffer parts) piece)
    && nat_le 128 (length (pieces_in buffer parts))) TooManyFragments ∷ []))
    conflict_is
    ∙ ap (λ b. first_of (refused_if conflict Overlap ∷ refused_if (not b && nat_le 128 (length (pieces_in buffer parts))) TooManyFragments
    ∷ []))
    among_is
    ∙ ap (λ n. first_of (refused_if conflict Overlap ∷ refused_if (not among && nat_le 128 n) TooManyFragments ∷ []))
    (length-map parts (piece_in buffer))
    ∙ ap (λ b. first_of (refused_if conflict Overlap ∷ refused_if (not among && b) TooManyFragments ∷ [])) many_is

pub many_true : (n : ℕ) → 128 ≤ n → nat_le 128 n ≡ true
many_true n is = grind (arith, nat_tests)

pub many_false : (n : ℕ) → n < 128 → nat_le 128 n ≡ false
many_false n is = grind (arith, nat_tests)

pub only_third : (rule : Option ReassemblyError) → first_of (None ∷ None ∷ rule ∷ []) ≡ rule
only_third None = refl
only_third (Some error) = refl

-- ---- a new fragment is written into the buffer

-- what holds after a piece was written
pub record IsWritten (buffer after : List ℕ) (parts new : List Part) (received : ℕ) (end : Option ℕ) (fragment : FragmentValue) : Type 0 where
  pub kept : AreKept after new (received + length fragment.bytes) end
  pub pieces : pieces_in after new ≡ pieces_in buffer parts ++ piece_of fragment ∷ []
  pub room : length after ≡ length buffer

pub written : (key : FragmentKey) (buffer after : List ℕ) (parts new : List Part) (received offset : ℕ) (end new_end : Option ℕ)
    (fragment : FragmentValue)
    → AreKept buffer parts received end
    → refusal (record { key = key; room = length buffer; pieces = pieces_in buffer parts; end = end }) fragment ≡ None
    → is_among (pieces_in buffer parts) (piece_of fragment) ≡ false → offset ≡ fragment.offset
    → after ≡ put_mid offset (length fragment.bytes) buffer fragment.bytes
    → new ≡ parts ++ record { offset = offset; len = length fragment.bytes } ∷ []
    → new_end ≡ end_with end fragment → IsWritten buffer after parts new received new_end fragment
written key buffer after parts new received offset end new_end fragment kept accepted among offset_is after_by new_by end_is =
    let rules = accepted_by (record { key = key; room = length buffer; pieces = pieces_in buffer parts; end = end }) fragment accepted in
    let fits = own_fits key (length buffer) fragment rules.0 in
    let room : fragment.offset + length fragment.bytes ≤ length buffer = fits.1 in
    let apart : list_any (overlaps (piece_of fragment)) (pieces_in buffer parts) ≡ false =
    (new_piece buffer parts (piece_of fragment) rules.2 among).0 in
    let after_is : after ≡ put_mid fragment.offset (length fragment.bytes) buffer fragment.bytes =
    after_by ∙ ap (λ n. put_mid n (length fragment.bytes) buffer fragment.bytes) offset_is in
    let new_is : new ≡ parts ++ record { offset = fragment.offset; len = length fragment.bytes } ∷ [] =
    new_by ∙ ap (λ n. parts ++ record { offset = n; len = length fragment.bytes } ∷ []) offset_is in
    let pieces : pieces_in after new ≡ pieces_in buffer parts ++ piece_of fragment ∷ [] =
    ap (λ after. pieces_in after new) after_is
    ∙ ap (λ new. pieces_in (put_mid fragment.offset (length fragment.bytes) buffer fragment.bytes) new) new_is
    ∙ pieces_after buffer fragment.bytes fragment.offset parts room kept.fit apart in
    let fit : All (Fits after) new =
    subst (λ after. All (Fits after) new) (sym after_is)
    (subst (λ new. All (Fits (put_mid fragment.offset (length fragment.bytes) buffer fragment.bytes)) new) (sym new_is)
    (fit_after buffer fragment.bytes fragment.offset parts room kept.fit)) in
    record {
      kept = subst (λ end. AreKept after new (received + length fragment.bytes) end) (sym end_is)
          (kept_added buffer after parts new received end fragment kept new_is pieces fit apart fits.0
          (end_by_parts buffer parts end fragment kept.fit rules.1));
      pieces = pieces;
      room = ap length after_is ∙ length_after buffer fragment.bytes fragment.offset room;
    }

pub added_is : (state : State) (key : FragmentKey) (room new_room : ℕ) (pieces new : List Piece) (end new_end : Option ℕ)
    (fragment : FragmentValue)
    → record { key = key; room = room; pieces = pieces; end = end } ≡ state → is_among pieces (piece_of fragment) ≡ false
    → new_room ≡ room → new ≡ pieces ++ piece_of fragment ∷ [] → new_end ≡ end_with end fragment
    → record { key = key; room = new_room; pieces = new; end = new_end } ≡ with_fragment state fragment
added_is state key room new_room pieces new end new_end fragment state_is among room_is new_is end_is =
    let from : State = record { key = key; room = room; pieces = pieces; end = end } in
    let by_room : State → ℕ → State = λ (s : State) (n : ℕ). record { key = s.key; room = n; pieces = s.pieces; end = s.end } in
    ap (λ (n : ℕ). by_room (record { key = key; room = room; pieces = new; end = new_end }) n) room_is
    ∙ ap (λ (pieces : List Piece). by_room (record { key = key; room = room; pieces = pieces; end = new_end }) room) new_is
    ∙ ap (λ (end : Option ℕ). by_room (record { key = key; room = room; pieces = pieces ++ piece_of fragment ∷ []; end = end }) room) end_is
    ∙ ap (λ (among : Bool). by_room
    (record {
      key = key;
      room = room;
      pieces =
          (if among then pieces else pieces ++ piece_of fragment ∷ []);
      end = end_with end fragment;
    }) room)
    (sym among)
    ∙ ap (λ (state : State). with_fragment state fragment) state_is
