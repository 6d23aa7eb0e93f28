-- Laws of arrivals that were accepted: if they are complete, each of them is a fragment of the payload that they give.
use Rattle.std.proofs.Common.{◌≡◌, ℕ, ◌+◌, ◌-◌, ◌%◌, ◌<◌, ◌≤◌, inl, inr, nat_lt, nat_le, ◌==◌, Bool, true, false, not, ◌&&◌, ◌||◌, if◌then◌else◌, List, [], ◌∷◌, ◌++◌, length, length-drop, take, drop, slice_index, slice_range, Option, Some, None, refl, sym, ◌∙◌, ap, subst, arith}
use Rattle.std.proofs.lemmas.Bool.Decides.{nat_tests}
use Rattle.std.proofs.lemmas.List.{ext_get_or, get_or-drop, get_or-take, length-take-le}
use Rattle.std.specs.Cmp.Lexicographic.{pointwise}
use Rattle.std.specs.List.{list_any}
use Rattle.std.specs.Prelude.{nat_eq}
use Rattle.net_base.specs.Refusals.{first_of, refused_if}
use Rattle.reassembly.proofs.CutLemmas.{among_more, among_new, any_among, bytes_are, is_number, parts_of_and, piece_is}
use Rattle.reassembly.proofs.FragmentLemmas.{none_if}
use Rattle.reassembly.proofs.KeptLemmas.{accepted_by, two_none}
use Rattle.reassembly.proofs.PartLemmas.{apart_push, no_overlap}
use Rattle.reassembly.specs.Cuts.{AreAccepted, IsFragmentOf, IsOneOf, after}
use Rattle.reassembly.specs.Fragments.{FragmentValue}
use Rattle.reassembly.specs.Parts.{AreApart}
use Rattle.reassembly.specs.Pieces.{Piece, byte_at, covers, end_of, is_among, is_same, overlaps}
use Rattle.reassembly.specs.Reassembly.{IsPayload, State, conflicts, empty, end_of_fragment, end_refusal, end_with, is_same_key, own_refusal, piece_of, piece_refusal, reaches, refusal, with_fragment}
use Rattle.reassembly.specs.declared.fragment_key.FragmentKey.{FragmentKey}
use Rattle.reassembly.specs.declared.fragment_key.FragmentKey.TheVariants.{Ipv4, Ipv6}
use Rattle.reassembly.specs.declared.reassembly_error.ReassemblyError.{ReassemblyError}
use Rattle.reassembly.specs.declared.reassembly_error.ReassemblyError.TheVariants.{BehindEnd, BufferTooSmall, Empty, LengthNotMultipleOf8, OtherEnd, OtherKey, Overlap, TooLong, TooManyFragments}

-- ---- what an accepted fragment states of itself

some_is_none : {A : Type 0} (a : A) → Some a ≡ None → ⊥
some_is_none a is = cc is

rules_none : (a b c d e : Bool) (v w x y z : ReassemblyError)
    → first_of (refused_if a v ∷ refused_if b w ∷ refused_if c x ∷ refused_if d y ∷ refused_if e z ∷ []) ≡ None
    → (a ≡ false) × (b ≡ false) × (c ≡ false)
rules_none true b c d e v w x y z none = absurd (some_is_none v none)
rules_none false true c d e v w x y z none = absurd (some_is_none w none)
rules_none false false true d e v w x y z none = absurd (some_is_none x none)
rules_none false false false d e v w x y z none = (refl, refl, refl)

same_key : (a b : FragmentKey) → is_same_key a b ≡ true → a ≡ b
same_key (Ipv4 source destination protocol identification) (Ipv4 source₂ destination₂ protocol₂ identification₂) is =
    let first = parts_of_and (pointwise nat_eq source source₂) _ is in
    let second = parts_of_and (pointwise nat_eq destination destination₂)
    (protocol.0 == protocol₂.0 && identification == identification₂) first.1 in
    let third = parts_of_and (protocol.0 == protocol₂.0) (identification == identification₂) second.1 in
    ap (λ source. Ipv4 source destination protocol identification) (bytes_are source source₂ first.0)
    ∙ ap (λ destination. Ipv4 source₂ destination protocol identification) (bytes_are destination destination₂ second.0)
    ∙ ap (λ (number : ℕ). Ipv4 source₂ destination₂ (record { 0 = number }) identification) (is_number protocol.0 protocol₂.0 third.0)
    ∙ ap (λ identification. Ipv4 source₂ destination₂ protocol₂ identification) (is_number identification identification₂ third.1)
same_key (Ipv6 source destination identification) (Ipv6 source₂ destination₂ identification₂) is =
    let first = parts_of_and (pointwise nat_eq source source₂)
    (pointwise nat_eq destination destination₂ && identification == identification₂) is in
    let second = parts_of_and (pointwise nat_eq destination destination₂) (identification == identification₂) first.1 in
    ap (λ source. Ipv6 source destination identification) (bytes_are source source₂ first.0)
    ∙ ap (λ destination. Ipv6 source₂ destination identification) (bytes_are destination destination₂ second.0)
    ∙ ap (λ identification. Ipv6 source₂ destination₂ identification) (is_number identification identification₂ second.1)
same_key (Ipv4 source destination protocol identification) (Ipv6 source₂ destination₂ identification₂) is = absurd (cc is)
same_key (Ipv6 source destination identification) (Ipv4 source₂ destination₂ protocol₂ identification₂) is = absurd (cc is)

multiple_of_8 : (more : Bool) (len : ℕ) → (more && not (len % 8 == 0)) ≡ false → more ≡ true → len % 8 ≡ 0
multiple_of_8 true len is more = grind (arith, nat_tests, is)
multiple_of_8 false len is more = absurd (cc more)

not_zero : (n : ℕ) → (n == 0) ≡ false → 0 < n
not_zero n is = grind (arith, nat_tests, is)

not_false : (b : Bool) → not b ≡ false → b ≡ true
not_false true is = refl
not_false false is = absurd (cc is)

-- ---- what stays true of a fragment that was accepted

-- the piece of the fragment is in the state, and its end agrees with the end of the payload
record IsKnown (fragment : FragmentValue) (state : State) : Type 0 where
  pub among : is_among state.pieces (piece_of fragment) ≡ true
  pub last : fragment.more_fragments ≡ false → state.end ≡ Some (end_of_fragment fragment)
  pub more : fragment.more_fragments ≡ true → (len : ℕ) → state.end ≡ Some len → end_of_fragment fragment < len

same_some : (a b : ℕ) → Some a ≡ Some b → a ≡ b
same_some a b is = cc is

none_some : (a : ℕ) → None ≡ Some a → ⊥
none_some a is = cc is

-- the end stays the end after another accepted fragment
end_stays : (more : Bool) (e end : ℕ) → (if more then refused_if (nat_le end e) BehindEnd else refused_if (not (e == end)) OtherEnd) ≡ None
    → (if more then Some end else Some e) ≡ Some end
end_stays true e end none = refl
end_stays false e end none = ap (λ n. Some n) (is_number e end (not_false (e == end) (none_if (not (e == end)) OtherEnd none)))

known_stays : (end : Option ℕ) (reached : Bool) (fragment : FragmentValue) (len : ℕ) → end_refusal end reached fragment ≡ None
    → end ≡ Some len → end_with end fragment ≡ Some len
known_stays None reached fragment len none is = absurd (none_some len is)
known_stays (Some end) reached fragment len none is = end_stays fragment.more_fragments (end_of_fragment fragment) end none ∙ is

-- a fragment that is not the last ends before each end that is accepted
before_end : (piece : Piece) (pieces : List Piece) (more : Bool) (e len : ℕ) → is_among pieces piece ≡ true
    → (if more then None else refused_if (reaches e pieces) BehindEnd) ≡ None → (if more then None else Some e) ≡ Some len
    → end_of piece < len
before_end piece pieces true e len among none is = absurd (none_some len is)
before_end piece pieces false e len among none is = step (nat_le e (end_of piece)) refl
  where
    unreached : reaches e pieces ≡ false
    unreached = none_if (reaches e pieces) BehindEnd none

    step : (reached : Bool) → nat_le e (end_of piece) ≡ reached → end_of piece < len
    step true reached =
        absurd (cc (any_among (λ piece. nat_le e (end_of piece)) piece pieces among reached, unreached))
    step false reached =
        let below : end_of piece < e = grind (arith, nat_tests, reached) in
        omega (arith, below, same_some e len is)

more_stays : (end : Option ℕ) (piece : Piece) (pieces : List Piece) (other : FragmentValue) (len : ℕ) → is_among pieces piece ≡ true
    → ((len : ℕ) → end ≡ Some len → end_of piece < len)
    → end_refusal end (reaches (end_of_fragment other) pieces) other ≡ None → end_with end other ≡ Some len → end_of piece < len
more_stays (Some end) piece pieces other len among before none is =
    let same : end ≡ len = same_some end len (sym (end_stays other.more_fragments (end_of_fragment other) end none) ∙ is) in
    omega (arith, before end refl, same)
more_stays None piece pieces other len among before none is =
    before_end piece pieces other.more_fragments (end_of_fragment other) len among none is

known_after : (fragment other : FragmentValue) (state : State) → refusal state other ≡ None → IsKnown fragment state
    → IsKnown fragment (with_fragment state other)
known_after fragment other state accepted known =
    let rules = accepted_by state other accepted in
    record {
      among = among_more (piece_of fragment) (piece_of other) state.pieces (is_among state.pieces (piece_of other)) known.among;
      last = λ last. known_stays state.end (reaches (end_of_fragment other) state.pieces) other (end_of_fragment fragment) rules.1
          (known.last last);
      more = λ more len is. more_stays state.end (piece_of fragment) state.pieces other len known.among (known.more more) rules.1 is;
    }

-- the last fragment ends at the end
own_last : (more : Bool) (end : Option ℕ) (e : ℕ) → more ≡ false → (if more then end else Some e) ≡ Some e
own_last true end e last = absurd (cc last)
own_last false end e last = refl

own_more : (more : Bool) (end : Option ℕ) (reached : Bool) (fragment : FragmentValue) (len : ℕ) → more ≡ fragment.more_fragments
    → more ≡ true
    → end_refusal end reached fragment ≡ None → end_with end fragment ≡ Some len → end_of_fragment fragment < len
own_more false end reached fragment len same more none is = absurd (cc more)
own_more true None reached fragment len same more none is =
    absurd (none_some len (ap (λ b. if b then None else Some (end_of_fragment fragment)) same ∙ is))
own_more true (Some end) reached fragment len same more none is =
    let rule : refused_if (nat_le end (end_of_fragment fragment)) BehindEnd ≡ None =
    ap (λ b. if b then refused_if (nat_le end (end_of_fragment fragment)) BehindEnd
    else refused_if (not (end_of_fragment fragment == end)) OtherEnd) same
    ∙ none in
    let unreached : nat_le end (end_of_fragment fragment) ≡ false = none_if (nat_le end (end_of_fragment fragment)) BehindEnd rule in
    let below : end_of_fragment fragment < end = grind (arith, nat_tests, unreached) in
    let end_is : Some end ≡ Some len = ap (λ b. if b then Some end else Some (end_of_fragment fragment)) same ∙ is in
    omega (arith, below, same_some end len end_is)

known_first : (fragment : FragmentValue) (state : State) → refusal state fragment ≡ None → IsKnown fragment (with_fragment state fragment)
known_first fragment state accepted =
    let rules = accepted_by state fragment accepted in
    record {
      among = among_new (piece_of fragment) state.pieces (is_among state.pieces (piece_of fragment)) refl;
      last = λ last. own_last fragment.more_fragments state.end (end_of_fragment fragment) last;
      more = λ more len is.
          own_more fragment.more_fragments state.end (reaches (end_of_fragment fragment) state.pieces) fragment len refl more rules.1 is;
    }

-- ---- all arrivals

known_later : (fragment : FragmentValue) (arrivals : List FragmentValue) (state : State) → AreAccepted state arrivals
    → IsKnown fragment state
    → IsKnown fragment (after state arrivals)
known_later fragment [] state accepted known = known
known_later fragment (first ∷ others) state accepted known =
    known_later fragment others (with_fragment state first) accepted.1 (known_after fragment first state accepted.0 known)

known_all : (fragment : FragmentValue) (arrivals : List FragmentValue) (state : State) → AreAccepted state arrivals
    → IsOneOf arrivals fragment
    → IsKnown fragment (after state arrivals)
known_all fragment [] state accepted is = absurd is
known_all fragment (first ∷ others) state accepted (inl is) =
    subst (λ f. IsKnown f (after (with_fragment state first) others)) (sym is)
    (known_later first others (with_fragment state first) accepted.1 (known_first first state accepted.0))
known_all fragment (first ∷ others) state accepted (inr is) = known_all fragment others (with_fragment state first) accepted.1 is

-- no two pieces overlap
apart_with : (pieces : List Piece) (piece : Piece) (among : Bool) → is_among pieces piece ≡ among → piece_refusal pieces piece ≡ None
    → AreApart pieces
    → AreApart (if among then pieces else pieces ++ piece ∷ [])
apart_with pieces piece true is none apart = apart
apart_with pieces piece false is none apart =
    let rules = two_none (list_any (conflicts piece) pieces)
    (not (is_among pieces piece) && nat_le 128 (length pieces)) Overlap TooManyFragments none in
    apart_push pieces piece apart (no_overlap pieces piece rules.0 is)

apart_after : (arrivals : List FragmentValue) (state : State) → AreAccepted state arrivals → AreApart state.pieces
    → AreApart (after state arrivals).pieces
apart_after [] state accepted apart = apart
apart_after (first ∷ others) state accepted apart =
    let rules = accepted_by state first accepted.0 in
    apart_after others (with_fragment state first) accepted.1
    (apart_with state.pieces (piece_of first) (is_among state.pieces (piece_of first)) refl rules.2 apart)

-- the key and the length of an arrival
pub record IsOwn (key : FragmentKey) (fragment : FragmentValue) : Type 0 where
  pub key_is : fragment.key ≡ key
  pub some : 0 < length fragment.bytes
  pub multiple : fragment.more_fragments ≡ true → length fragment.bytes % 8 ≡ 0

pub own_by : (key : FragmentKey) (room : ℕ) (fragment : FragmentValue) → own_refusal key room fragment ≡ None → IsOwn key fragment
own_by key room fragment none =
    let e : ℕ = end_of_fragment fragment in
    let rules = rules_none (not (is_same_key fragment.key key)) (length fragment.bytes == 0)
    (fragment.more_fragments && not (length fragment.bytes % 8 == 0)) (nat_lt 65535 e) (nat_lt room e)
    OtherKey Empty (LengthNotMultipleOf8 (length fragment.bytes)) (TooLong e) (BufferTooSmall e room) none in
    record {
      key_is = same_key fragment.key key (not_false (is_same_key fragment.key key) rules.0);
      some = not_zero (length fragment.bytes) rules.1;
      multiple = multiple_of_8 fragment.more_fragments (length fragment.bytes) rules.2;
    }

own_all : (key : FragmentKey) (fragment : FragmentValue) (arrivals : List FragmentValue) (state : State) → state.key ≡ key
    → AreAccepted state arrivals
    → IsOneOf arrivals fragment → IsOwn key fragment
own_all key fragment [] state key_is accepted is = absurd is
own_all key fragment (first ∷ others) state key_is accepted (inl is) =
    subst (IsOwn key) (sym is)
    (own_by key state.room first (ap (λ key. own_refusal key state.room first) (sym key_is) ∙ (accepted_by state first accepted.0).0))
own_all key fragment (first ∷ others) state key_is accepted (inr is) =
    own_all key fragment others (with_fragment state first) key_is accepted.1 is

-- ---- the bytes

both_cover : (place : ℕ) (a b : Piece) → covers place a ≡ true → covers place b ≡ true → overlaps a b ≡ true
both_cover place a b first second = grind (arith, nat_tests, first, second)

-- the known byte is the byte of any piece that contains it
byte_of_piece : (pieces : List Piece) (piece : Piece) (place : ℕ) → AreApart pieces → is_among pieces piece ≡ true
    → covers place piece ≡ true
    → byte_at pieces place ≡ Some (slice_index piece.bytes (place - piece.offset))
byte_of_piece [] piece place apart among there = absurd (cc among)
byte_of_piece (first ∷ pieces) piece place apart among there =
    step (is_same piece first) refl among (λ among. byte_of_piece pieces piece place apart.1 among there)
  where
    other : (is : Bool) → covers place first ≡ is → is_among pieces piece ≡ true
        → byte_at pieces place ≡ Some (slice_index piece.bytes (place - piece.offset))
        → byte_at (first ∷ pieces) place ≡ Some (slice_index piece.bytes (place - piece.offset))
    other true is among later =
        absurd (cc (any_among (overlaps first) piece pieces among (both_cover place first piece is there), apart.0))
    other false is among later =
        ap (λ b. if b then Some (slice_index first.bytes (place - first.offset)) else byte_at pieces place) is ∙ later

    step : (is : Bool) → is_same piece first ≡ is → (is || is_among pieces piece) ≡ true
        → (is_among pieces piece ≡ true → byte_at pieces place ≡ Some (slice_index piece.bytes (place - piece.offset)))
        → byte_at (first ∷ pieces) place ≡ Some (slice_index piece.bytes (place - piece.offset))
    step true is among later =
        let same : piece ≡ first = piece_is piece first is in
        ap (λ b. if b then Some (slice_index first.bytes (place - first.offset)) else byte_at pieces place)
        (ap (covers place) (sym same) ∙ there)
        ∙ ap (λ p. Some (slice_index p.bytes (place - p.offset))) (sym same)
    step false is among later = other (covers place first) refl among (later among)

covers_at : (piece : Piece) (i : ℕ) → i < length piece.bytes → covers (piece.offset + i) piece ≡ true
covers_at piece i below = grind (arith, nat_tests, below)

bytes_at : (pieces : List Piece) (piece : Piece) (payload : List ℕ) → AreApart pieces → is_among pieces piece ≡ true
    → end_of piece ≤ length payload
    → ((place : ℕ) → place < length payload → byte_at pieces place ≡ Some (slice_index payload place))
    → slice_range payload piece.offset (piece.offset + length piece.bytes) ≡ piece.bytes
bytes_at pieces piece payload apart among fits bytes =
    ap (λ n. take n (drop piece.offset payload)) len
    ∙ ext_get_or 0 (take (length piece.bytes) (drop piece.offset payload)) piece.bytes same_len same
  where
    len : piece.offset + length piece.bytes - piece.offset ≡ length piece.bytes
    len = omega arith

    same_len : length (take (length piece.bytes) (drop piece.offset payload)) ≡ length piece.bytes
    same_len = length-take-le (length piece.bytes) (drop piece.offset payload) (omega (arith, fits, length-drop piece.offset payload))

    same : (i : ℕ) → i < length (take (length piece.bytes) (drop piece.offset payload))
        → slice_index (take (length piece.bytes) (drop piece.offset payload)) i ≡ slice_index piece.bytes i
    same i below =
        let inside : i < length piece.bytes = omega (arith, below, same_len) in
        let back : piece.offset + i - piece.offset ≡ i = omega arith in
        get_or-take (length piece.bytes) (drop piece.offset payload) i 0 inside ∙ get_or-drop piece.offset payload i 0
        ∙ same_some (slice_index payload (piece.offset + i)) (slice_index piece.bytes (piece.offset + i - piece.offset))
        (sym (bytes (piece.offset + i) (omega (arith, inside, fits)))
        ∙ byte_of_piece pieces piece (piece.offset + i) apart among (covers_at piece i inside))
        ∙ ap (slice_index piece.bytes) back

ends_within : (more : Bool) (e len : ℕ) → (more ≡ false → e ≡ len) → (more ≡ true → e < len) → e ≤ len
ends_within true e len last before = omega (arith, before refl)
ends_within false e len last before = omega (arith, last refl)

pub only_so : (key : FragmentKey) (room : ℕ) (payload : List ℕ) (arrivals : List FragmentValue) (fragment : FragmentValue)
    → AreAccepted (empty key room) arrivals → IsPayload (after (empty key room) arrivals) payload → IsOneOf arrivals fragment
    → IsFragmentOf key payload fragment
only_so key room payload arrivals fragment accepted is one =
    let state : State = after (empty key room) arrivals in
    let own : IsOwn key fragment = own_all key fragment arrivals (empty key room) refl accepted one in
    let known : IsKnown fragment state = known_all fragment arrivals (empty key room) accepted one in
    let last : fragment.more_fragments ≡ false → end_of_fragment fragment ≡ length payload =
    λ last. same_some (end_of_fragment fragment) (length payload) (sym (known.last last) ∙ is.0) in
    let before : fragment.more_fragments ≡ true → end_of_fragment fragment < length payload =
    λ more. known.more more (length payload) is.0 in
    record {
      key_is = own.key_is;
      some = own.some;
      bytes = bytes_at state.pieces (piece_of fragment) payload (apart_after arrivals (empty key room) accepted tt) known.among
          (ends_within fragment.more_fragments (end_of_fragment fragment) (length payload) last before) is.1;
      last = last;
      more = λ more. (before more, own.multiple more);
    }
