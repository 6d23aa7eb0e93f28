-- Laws of a packet in the lent buffer: its headers before its payload.
use Rattle.std.proofs.Common.{◌≡◌, ℕ, ◌+◌, ◌-◌, ◌≤◌, ◌<◌, ◌↔◌, nat_le, ◌==◌, Bool, true, false, not, if◌then◌else◌, List, [], ◌∷◌, ◌++◌, length, length-drop, take, drop, Option, Some, None, IfNone, IfSome, IsSome, unwrap_or, refl, sym, ◌∙◌, ap, subst, arith}
use Rattle.std.proofs.Math.Seq.{take-add}
use Rattle.std.proofs.lemmas.Bool.Decides.{nat_tests}
use Rattle.std.proofs.lemmas.List.{drop-append-le, drop-drop, drop-take, length-take-le}
use Rattle.std.proofs.lemmas.Slice.{between-put_mid, drop-put_mid}
use borrow.Rule.Slice.PartMut.{put_mid}
use Rattle.reassembly.proofs.KeptLemmas.{IsWritten, accepted_by, added_is, by_complete, complete_by, end_by_parts, kept_empty, kept_repeated, own_fits, payload_fits, payload_is, written}
use Rattle.reassembly.proofs.OnlySoLemmas.{IsOwn, own_by}
use Rattle.reassembly.specs.Fragments.{FragmentValue}
use Rattle.reassembly.specs.Packets.{HasFront, HasPacket, IsFront, IsKept, IsPacket, PacketState, header_of, header_room, header_with, with_fragment}
use Rattle.reassembly.specs.Parts.{AreKept, pieces_in}
use Rattle.reassembly.specs.Pieces.{Piece, is_among}
use Rattle.reassembly.specs.Reassembly as payloads
use Rattle.reassembly.specs.Reassembly.{State, end_with, own_refusal, piece_of, refusal}
use Rattle.reassembly.specs.WholeHeaders.{HasWholeHeader, whole_header}
use Rattle.reassembly.specs.declared.fragment_key.FragmentKey.{FragmentKey}
use Rattle.reassembly.specs.declared.part.Part.{Part}

-- ---- the buffer after a write

pub payload_after : (room offset : ℕ) (buffer bytes : List ℕ) → room + offset + length bytes ≤ length buffer
    → drop room (put_mid (room + offset) (length bytes) buffer bytes) ≡ put_mid offset (length bytes) (drop room buffer) bytes
payload_after room offset buffer bytes fits =
    let len : length (take (room + offset) buffer) ≡ room + offset = length-take-le (room + offset) buffer (omega (arith, fits)) in
    let rest : List ℕ = bytes ++ drop (length bytes) (drop (room + offset) buffer) in
    drop-append-le room (take (room + offset) buffer) rest (omega (arith, len))
    ∙ ap (λ front. front ++ rest) (drop-take room offset buffer)
    ∙ ap (λ behind. take offset (drop room buffer) ++ (bytes ++ drop (length bytes) behind)) (sym (drop-drop offset room buffer))

-- the headers of the packet are directly before its payload
pub front_then_payload : (room start len : ℕ) (buffer front : List ℕ) → start ≤ room → take (room - start) (drop start buffer) ≡ front
    → take (room + len - start) (drop start buffer) ≡ front ++ take len (drop room buffer)
front_then_payload room start len buffer front below front_is =
    let n : room + len - start ≡ room - start + len = omega (arith, below) in
    let on : start + (room - start) ≡ room = omega (arith, below) in
    ap (λ n. take n (drop start buffer)) n ∙ take-add (room - start) len (drop start buffer)
    ∙ ap (λ bytes. bytes ++ take len (drop (room - start) (drop start buffer))) front_is
    ∙ ap (λ rest. front ++ take len rest) (drop-drop (room - start) start buffer ∙ ap (λ n. drop n buffer) on)

-- ---- the known length

same_some : (a b : ℕ) → Some a ≡ Some b → a ≡ b
same_some a b is = cc is

-- the length of the payload is not 0, since a fragment without payload is refused
pub some_with : (key : FragmentKey) (room : ℕ) (end : Option ℕ) (fragment : FragmentValue) → own_refusal key room fragment ≡ None
    → ((len : ℕ) → end ≡ Some len → 0 < len) → (len : ℕ) → end_with end fragment ≡ Some len → 0 < len
some_with key room end fragment none some len is = by_more fragment.more_fragments is
  where
    own : IsOwn key fragment
    own = own_by key room fragment none

    by_more : (more : Bool) → (if more then end else Some (fragment.offset + length fragment.bytes)) ≡ Some len → 0 < len
    by_more true is = some len is
    by_more false is = subst (λ n. 0 < n) (same_some (fragment.offset + length fragment.bytes) len is) (omega (arith, own.some))

-- ---- what is kept

abbrev pub payload_state : FragmentKey → List ℕ → List Part → Option ℕ → State
payload_state key buffer parts end = record {
  key = key;
  room = length (drop (header_room key) buffer);
  pieces = pieces_in (drop (header_room key) buffer) parts;
  end = end;
}

abbrev pub packet_state : ℕ → List ℕ → State → PacketState
packet_state len header payload = record { len = len; header = header; payload = payload }

no_some : (a : ℕ) → None ≡ Some a → ⊥
no_some a is = cc is

-- nothing arrived
pub kept_none : (key : FragmentKey) (buffer : List ℕ) → IsKept key buffer [] 0 None [] None
kept_none key buffer = record {
  payload = kept_empty (drop (header_room key) buffer);
  some = λ len is. absurd (no_some len is);
  fits = omega arith;
  front = λ is _. absurd (no_some 0 is);
}

-- the buffer reaches the payload
pub room_fits : (key : FragmentKey) (buffer : List ℕ) (parts : List Part) (received : ℕ) (end : Option ℕ)
    → AreKept (drop (header_room key) buffer) parts received end → ((len : ℕ) → end ≡ Some len → 0 < len)
    → end ≡ Some received → header_room key ≤ length buffer
room_fits key buffer parts received end kept some is =
    let fits : received ≤ length (drop (header_room key) buffer) = payload_fits (drop (header_room key) buffer) parts received end kept in
    omega (arith, fits, some received is, length-drop (header_room key) buffer)

-- the fragment was accepted
abbrev pub IsAccepted : FragmentKey → List ℕ → List Part → Option ℕ → FragmentValue → Type 0
IsAccepted key buffer parts end fragment = refusal (payload_state key buffer parts end) fragment ≡ None

some_accepted : (key : FragmentKey) (buffer : List ℕ) (parts : List Part) (end : Option ℕ) (fragment : FragmentValue)
    → IsAccepted key buffer parts end fragment → ((len : ℕ) → end ≡ Some len → 0 < len) → (len : ℕ) → end_with end fragment ≡ Some len
    → 0 < len
some_accepted key buffer parts end fragment accepted some =
    some_with key (length (drop (header_room key) buffer)) end fragment
    (accepted_by (payload_state key buffer parts end) fragment accepted).0 some

-- a repetition
pub payload_repeated : (key : FragmentKey) (buffer : List ℕ) (parts : List Part) (received : ℕ) (end : Option ℕ) (header : List ℕ)
    (start : Option ℕ)
    → (fragment : FragmentValue) → IsKept key buffer parts received end header start → IsAccepted key buffer parts end fragment
    → AreKept (drop (header_room key) buffer) parts received (end_with end fragment)
payload_repeated key buffer parts received end header start fragment kept accepted =
    let rules = accepted_by (payload_state key buffer parts end) fragment accepted in
    kept_repeated (drop (header_room key) buffer) parts received end fragment kept.payload
    (end_by_parts (drop (header_room key) buffer) parts end fragment kept.payload.fit rules.1)

pub packet_repeated : (key : FragmentKey) (buffer after : List ℕ) (parts : List Part) (received room : ℕ) (end new_end : Option ℕ)
    (header : List ℕ)
    → (start new_start : Option ℕ) (fragment : FragmentValue) → IsKept key buffer parts received end header start
    → IsAccepted key buffer parts end fragment → new_end ≡ end_with end fragment → room ≡ header_room key
    → drop room after ≡ drop room buffer
    → IsFront room after header new_end received new_start → IsKept key after parts received new_end header new_start
packet_repeated key buffer after parts received room end new_end header start new_start fragment kept accepted end_is room_is same front =
    let payload_is : drop (header_room key) after ≡ drop (header_room key) buffer =
    subst (λ n. drop n after ≡ drop n buffer) room_is same in
    record {
      payload = subst (λ b. AreKept b parts received new_end) (sym payload_is)
          (subst (AreKept (drop (header_room key) buffer) parts received) (sym end_is)
          (payload_repeated key buffer parts received end header start fragment kept accepted));
      some = λ len is. some_accepted key buffer parts end fragment accepted kept.some len (sym end_is ∙ is);
      fits = kept.fits;
      front = subst (λ n. IsFront n after header new_end received new_start) room_is front;
    }

pub state_repeated : (state : PacketState) (key : FragmentKey) (buffer after : List ℕ) (parts : List Part) (room : ℕ)
    (end new_end : Option ℕ)
    → (header : List ℕ) (fragment : FragmentValue)
    → packet_state (length buffer) header (payload_state key buffer parts end) ≡ state
    → is_among (pieces_in (drop (header_room key) buffer) parts) (piece_of fragment) ≡ true → length after ≡ length buffer
    → new_end ≡ end_with end fragment → room ≡ header_room key → drop room after ≡ drop room buffer
    → packet_state (length after) header (payload_state key after parts new_end) ≡ with_fragment state fragment
state_repeated state key buffer after parts room end new_end header fragment state_is among len_is end_is room_is same =
    let old : List ℕ = drop (header_room key) buffer in
    let pieces : List Piece = pieces_in old parts in
    let payload_is : drop (header_room key) after ≡ old = subst (λ n. drop n after ≡ drop n buffer) room_is same in
    let by : List ℕ → Option ℕ → State =
    λ (b : List ℕ) (e : Option ℕ). record { key = key; room = length b; pieces = pieces_in b parts; end = e } in
    let by_pieces : List Piece → State =
    λ (p : List Piece). record { key = key; room = length old; pieces = p; end = end_with end fragment } in
    ap (λ (n : ℕ). packet_state n header (payload_state key after parts new_end)) len_is
    ∙ ap (λ (b : List ℕ). packet_state (length buffer) header (by b new_end)) payload_is
    ∙ ap (λ (e : Option ℕ). packet_state (length buffer) header (by old e)) end_is
    ∙ ap (λ (b : Bool). packet_state (length buffer) (if b then header else header_of header (header_room key) fragment)
    (by_pieces (if b then pieces else pieces ++ piece_of fragment ∷ []))) (sym among)
    ∙ ap (λ (state : PacketState). with_fragment state fragment) state_is

-- a new piece
header_fits : (header : List ℕ) (room : ℕ) (fragment : FragmentValue) → length header ≤ room
    → length (header_of header room fragment) ≤ room
header_fits header room fragment fits = by (not (fragment.offset == 0)) (nat_le (length fragment.header) room) refl
  where
    by : (later short : Bool) → nat_le (length fragment.header) room ≡ short
        → length (if later then header else if short then fragment.header else []) ≤ room
    by true short is = fits
    by false true is = grind (arith, nat_tests, is)
    by false false is = omega arith

pub packet_written : (key : FragmentKey) (buffer middle : List ℕ) (parts new : List Part) (received offset room : ℕ)
    (end new_end : Option ℕ)
    → (header : List ℕ) (start : Option ℕ) (fragment : FragmentValue) → IsKept key buffer parts received end header start
    → IsAccepted key buffer parts end fragment → is_among (pieces_in (drop (header_room key) buffer) parts) (piece_of fragment) ≡ false
    → offset ≡ fragment.offset → new ≡ parts ++ record { offset = offset; len = length fragment.bytes } ∷ []
    → new_end ≡ end_with end fragment → room ≡ header_room key
    → drop room middle ≡ put_mid offset (length fragment.bytes) (drop room buffer) fragment.bytes
    → IsWritten (drop (header_room key) buffer) (drop (header_room key) middle) parts new received new_end fragment
packet_written key buffer middle parts new received offset room end new_end header start fragment kept accepted among offset_is new_is
    end_is room_is middle_is =
    written key (drop (header_room key) buffer)
    (drop (header_room key) middle) parts new received offset end new_end fragment kept.payload accepted among
    offset_is (subst (λ n. drop n middle ≡ put_mid offset (length fragment.bytes) (drop n buffer) fragment.bytes) room_is middle_is) new_is
    end_is

pub packet_kept : (key : FragmentKey) (buffer middle after : List ℕ) (parts new : List Part) (received room : ℕ) (end new_end : Option ℕ)
    → (header new_header : List ℕ) (start new_start : Option ℕ) (fragment : FragmentValue)
    → IsKept key buffer parts received end header start
    → IsAccepted key buffer parts end fragment
    → IsWritten (drop (header_room key) buffer) (drop (header_room key) middle) parts new received new_end fragment
    → new_end ≡ end_with end fragment → new_header ≡ header_of header room fragment → room ≡ header_room key
    → drop room after ≡ drop room middle
    → IsFront room after new_header new_end (received + length fragment.bytes) new_start
    → IsKept key after new (received + length fragment.bytes) new_end new_header new_start
packet_kept key buffer middle after parts new received room end new_end header new_header start new_start fragment kept accepted is end_is
    header_is room_is same front =
    let payload_is : drop (header_room key) after ≡ drop (header_room key) middle =
    subst (λ n. drop n after ≡ drop n middle) room_is same in
    let fits : length (header_of header room fragment) ≤ room = header_fits header room fragment (omega (arith, kept.fits, room_is)) in
    record {
      payload = subst (λ b. AreKept b new (received + length fragment.bytes) new_end) (sym payload_is) is.kept;
      some = λ len known. some_accepted key buffer parts end fragment accepted kept.some len (sym end_is ∙ known);
      fits = omega (arith, fits, ap length header_is, room_is);
      front = subst (λ n. IsFront n after new_header new_end (received + length fragment.bytes) new_start) room_is front;
    }

pub state_added : (state : PacketState) (key : FragmentKey) (buffer middle after : List ℕ) (parts new : List Part) (received room : ℕ)
    (end new_end : Option ℕ)
    → (header new_header : List ℕ) (fragment : FragmentValue)
    → packet_state (length buffer) header (payload_state key buffer parts end) ≡ state
    → is_among (pieces_in (drop (header_room key) buffer) parts) (piece_of fragment) ≡ false → length after ≡ length buffer
    → IsWritten (drop (header_room key) buffer) (drop (header_room key) middle) parts new received new_end fragment
    → new_end ≡ end_with end fragment → new_header ≡ header_of header room fragment → room ≡ header_room key
    → drop room after ≡ drop room middle
    → packet_state (length after) new_header (payload_state key after new new_end) ≡ with_fragment state fragment
state_added state key buffer middle after parts new received room end new_end header new_header fragment state_is among len_is is end_is
    header_is room_is same =
    let old : State = payload_state key buffer parts end in
    let payload_is : drop (header_room key) after ≡ drop (header_room key) middle =
    subst (λ n. drop n after ≡ drop n middle) room_is same in
    let by : List ℕ → State = λ (b : List ℕ). record { key = key; room = length b; pieces = pieces_in b new; end = new_end } in
    let header_by : new_header ≡ header_of header (header_room key) fragment = header_is ∙ ap (λ n. header_of header n fragment) room_is in
    let payload_by : payload_state key middle new new_end ≡ payloads.with_fragment old fragment =
    added_is old key (length (drop (header_room key) buffer)) (length (drop (header_room key) middle))
    (pieces_in (drop (header_room key) buffer) parts)
    (pieces_in (drop (header_room key) middle) new) end new_end fragment refl among is.room is.pieces end_is in
    ap (λ (n : ℕ). packet_state n new_header (payload_state key after new new_end)) len_is
    ∙ ap (λ (b : List ℕ). packet_state (length buffer) new_header (by b)) payload_is
    ∙ ap (λ (h : List ℕ). packet_state (length buffer) h (payload_state key middle new new_end)) header_by
    ∙ ap (λ (b : Bool). packet_state (length buffer) (if b then header else header_of header (header_room key) fragment)
    (payload_state key middle new new_end))
    (sym among)
    ∙ ap (λ (p : State). packet_state (length buffer) (header_with (packet_state (length buffer) header old) fragment) p) payload_by
    ∙ ap (λ (state : PacketState). with_fragment state fragment) state_is

-- there is room for the payload of an accepted fragment
pub write_fits : (key : FragmentKey) (buffer : List ℕ) (parts : List Part) (end : Option ℕ) (fragment : FragmentValue) (room offset : ℕ)
    → IsAccepted key buffer parts end fragment → room ≡ header_room key → offset ≡ fragment.offset
    → room + offset + length fragment.bytes ≤ length buffer
write_fits key buffer parts end fragment room offset accepted room_is offset_is =
    let rules = accepted_by (payload_state key buffer parts end) fragment accepted in
    let fits = own_fits key (length (drop (header_room key) buffer)) fragment rules.0 in
    let own : IsOwn key fragment = own_by key (length (drop (header_room key) buffer)) fragment rules.0 in
    omega (arith, fits.1, own.some, length-drop (header_room key) buffer, room_is, offset_is)

-- ---- the headers before the payload

-- the headers of the whole packet are written so that they end where the room ends
pub front_written : (room received start : ℕ) (buffer after header : List ℕ) (end : Option ℕ) → end ≡ Some received
    → HasWholeHeader header received → start + length (whole_header header received) ≡ room → room ≤ length buffer
    → after ≡ put_mid start (room - start) buffer (whole_header header received)
    → (drop room after ≡ drop room buffer) × HasFront room after header end received start
front_written room received start buffer after header end complete has fits long after_is =
    let front : List ℕ = whole_header header received in
    let left : room - start ≡ length front = omega (arith, fits) in
    let after_by : after ≡ put_mid start (length front) buffer front = after_is ∙ ap (λ n. put_mid start n buffer front) left in (
      ap (drop room) after_by ∙ drop-put_mid start (length front) buffer front room (omega (arith, fits)) (omega (arith, long)) refl,
      record {
        is_complete = complete;
        within = omega (arith, fits);
        has = has;
        bytes = ap (λ bytes. take (room - start) (drop start bytes)) after_by
            ∙ between-put_mid start (length front) buffer front room (omega (arith, long)) (sym left);
      },
    )

-- the headers are written, or nothing is written since there are no headers for the whole packet
pub front_by : (room received : ℕ) (buffer after header : List ℕ) (end start : Option ℕ) → end ≡ Some received
    → (IsSome start ↔ HasWholeHeader header received)
    → IfSome start (λ start. start + length (whole_header header received) ≡ room)
    → IfSome start (λ start. after ≡ put_mid start (room - start) buffer (whole_header header received))
    → IfNone start (after ≡ buffer) → room ≤ length buffer
    → (drop room after ≡ drop room buffer) × IsFront room after header end received start
front_by room received buffer after header end None complete found place written unchanged long =
    (ap (drop room) unchanged, λ _ has. absurd (cc (found.1 has)))
front_by room received buffer after header end (Some start) complete found place written unchanged long =
    front_written room received start buffer after header end complete (found.0 refl) place long written

-- ---- the packet

-- there is no packet if its headers were not written
pub no_packet : (state : PacketState) (key : FragmentKey) (buffer : List ℕ) (parts : List Part) (received : ℕ) (end : Option ℕ)
    (header : List ℕ)
    → (start : Option ℕ) → IsKept key buffer parts received end header start → start ≡ None
    → packet_state (length buffer) header (payload_state key buffer parts end) ≡ state → HasPacket state → ⊥
no_packet state key buffer parts received end header start kept none state_is has =
    let own : HasPacket (packet_state (length buffer) header (payload_state key buffer parts end)) = subst HasPacket (sym state_is) has in
    let payload : List ℕ = drop (header_room key) buffer in
    let is : end ≡ Some received = by_complete payload parts received end key (length payload) kept.payload own.0 in
    let none_has : end ≡ Some received → HasWholeHeader header received → ⊥ =
    subst (λ start. IsFront (header_room key) buffer header end received start) none kept.front in
    none_has is (subst (λ n. HasWholeHeader header n) (ap (λ end. unwrap_or end 0) is) own.1)

kept_front : (key : FragmentKey) (buffer : List ℕ) (parts : List Part) (received : ℕ) (end : Option ℕ) (header : List ℕ) (start : Option ℕ)
    (place : ℕ)
    → IsKept key buffer parts received end header start → start ≡ Some place → HasFront (header_room key) buffer header end received place
kept_front key buffer parts received end header start place kept start_is =
    subst (λ start. IsFront (header_room key) buffer header end received start) start_is kept.front

-- there is a packet if they were written
pub has_packet : (state : PacketState) (key : FragmentKey) (buffer : List ℕ) (parts : List Part) (received : ℕ) (end : Option ℕ)
    (header : List ℕ)
    → (start : Option ℕ) (place : ℕ) → IsKept key buffer parts received end header start → start ≡ Some place
    → packet_state (length buffer) header (payload_state key buffer parts end) ≡ state → HasPacket state
has_packet state key buffer parts received end header start place kept start_is state_is =
    let front = kept_front key buffer parts received end header start place kept start_is in
    let payload : List ℕ = drop (header_room key) buffer in
    let len_is : received ≡ unwrap_or end 0 = sym (ap (λ end. unwrap_or end 0) front.is_complete) in
    subst HasPacket state_is (
      complete_by payload parts received end key (length payload) kept.payload front.is_complete,
      subst (λ n. HasWholeHeader header n) len_is front.has,
    )

-- its bytes are in the buffer
pub packet_fits : (key : FragmentKey) (buffer : List ℕ) (parts : List Part) (received room : ℕ) (end : Option ℕ) (header : List ℕ)
    → (start : Option ℕ) (place : ℕ) → IsKept key buffer parts received end header start → start ≡ Some place → room ≡ header_room key
    → room + received ≤ length buffer
packet_fits key buffer parts received room end header start place kept start_is room_is =
    let front = kept_front key buffer parts received end header start place kept start_is in
    let payload : List ℕ = drop (header_room key) buffer in
    omega (
      arith,
      room_is,
      room_fits key buffer parts received end kept.payload kept.some front.is_complete,
      payload_fits payload parts received end kept.payload,
      length-drop (header_room key) buffer,
    )

pub packet_is : (state : PacketState) (key : FragmentKey) (buffer : List ℕ) (parts : List Part) (received room : ℕ) (end : Option ℕ)
    (header : List ℕ)
    → (start : Option ℕ) (place : ℕ) → IsKept key buffer parts received end header start → start ≡ Some place → room ≡ header_room key
    → packet_state (length buffer) header (payload_state key buffer parts end) ≡ state
    → IsPacket state (take (room + received - place) (drop place buffer))
packet_is state key buffer parts received room end header start place kept start_is room_is state_is =
    let front = kept_front key buffer parts received end header start place kept start_is in
    let rest : List ℕ = drop (header_room key) buffer in
    let payload : List ℕ = take received rest in
    let len : length payload ≡ received = length-take-le received rest (payload_fits rest parts received end kept.payload) in
    subst (λ state. IsPacket state (take (room + received - place) (drop place buffer))) state_is (
      payload,
      payload_is rest parts received end key (length rest) kept.payload front.is_complete,
      ap (λ n. take (n + received - place) (drop place buffer)) room_is
          ∙ front_then_payload (header_room key) place received buffer (whole_header header received) front.within front.bytes
          ∙ ap (λ n. whole_header header n ++ payload) (sym len),
    )
