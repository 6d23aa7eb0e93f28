-- The payload of a packet that is put together from its fragments (RFC 791, section 3.2; RFC 8200, section 4.5): what is refused, what an
-- accepted fragment changes, and when the payload is complete.
use Rattle.std.specs.Prelude.{◌≡◌, ℕ, ◌%◌, ◌<◌, ◌==◌, Bool, true, false, not, ◌&&◌, nat_eq, nat_le, nat_lt, if◌then◌else◌, List, [], ◌∷◌, ◌++◌, length, slice_index, Option, Some, None, is_some}
use Rattle.std.specs.Cmp.Lexicographic.{pointwise}
use Rattle.std.specs.List.{list_any}
use Rattle.net_base.specs.Refusals.{first_of, refused_if}
use Rattle.reassembly.specs.Fragments.{FragmentValue}
use Rattle.reassembly.specs.Pieces.{Piece, byte_at, end_of, is_among, is_same, overlaps}
use Rattle.reassembly.specs.declared.fragment_key.FragmentKey.{FragmentKey}
use Rattle.reassembly.specs.declared.fragment_key.FragmentKey.TheVariants.{Ipv4, Ipv6}
use Rattle.reassembly.specs.declared.reassembly_error.ReassemblyError.{ReassemblyError}
use Rattle.reassembly.specs.declared.reassembly_error.ReassemblyError.TheVariants.{BehindEnd, BufferTooSmall, Empty, LengthNotMultipleOf8, OtherEnd, OtherKey, Overlap, TooLong, TooManyFragments}

-- What is known about the packet with this key. `room` is the number of bytes for the payload in the lent buffer. `pieces` are the pieces
-- of the payload that arrived. `end` is the length of the payload, or `None` if the last fragment did not arrive yet.
pub record State : Type 0 where
  pub key : FragmentKey
  pub room : ℕ
  pub pieces : List Piece
  pub end : Option ℕ

-- the state before the first fragment
abbrev pub empty : FragmentKey → ℕ → State
empty key room = record { key = key; room = room; pieces = []; end = None }

-- ---- what is refused

-- the length of the longest payload of a packet: the maximum of the length fields of IPv4 and IPv6 (RFC 791, section 3.1; RFC 8200, section
-- 3)
abbrev pub max_payload_len : ℕ
max_payload_len = 65535

-- the maximum number of fragments of a packet
abbrev pub max_fragments : ℕ
max_fragments = 128

-- the fragment as a piece of the payload
abbrev pub piece_of : FragmentValue → Piece
piece_of fragment = record { offset = fragment.offset; bytes = fragment.bytes }

-- the place after the last byte of a fragment
abbrev pub end_of_fragment : FragmentValue → ℕ
end_of_fragment fragment = end_of (piece_of fragment)

-- the two keys are equal
abbrev pub is_same_key : FragmentKey → FragmentKey → Bool
is_same_key (Ipv4 source destination protocol identification) (Ipv4 source₂ destination₂ protocol₂ identification₂) =
    pointwise nat_eq source source₂
    && (pointwise nat_eq destination destination₂ && (protocol.0 == protocol₂.0 && identification == identification₂))
is_same_key (Ipv6 source destination identification) (Ipv6 source₂ destination₂ identification₂) =
    pointwise nat_eq source source₂ && (pointwise nat_eq destination destination₂ && identification == identification₂)
is_same_key (Ipv4 source destination protocol identification) (Ipv6 source₂ destination₂ identification₂) = false
is_same_key (Ipv6 source destination identification) (Ipv4 source₂ destination₂ protocol₂ identification₂) = false

-- The first error of a fragment by itself. The cases are, in this order:
-- - It belongs to another packet.
-- - It is empty.
-- - It is not the last fragment, and its length is not a multiple of 8 (RFC 791, section 3.2; RFC 8200, section 4.5).
-- - It ends beyond the longest payload.
-- - It ends beyond the buffer.
abbrev pub own_refusal : FragmentKey → ℕ → FragmentValue → Option ReassemblyError
own_refusal key room fragment = first_of (
    refused_if (not (is_same_key fragment.key key)) OtherKey
    ∷ refused_if (length fragment.bytes == 0) Empty
    ∷ refused_if (fragment.more_fragments && not (length fragment.bytes % 8 == 0)) (LengthNotMultipleOf8 (length fragment.bytes))
    ∷ refused_if (nat_lt max_payload_len (end_of_fragment fragment)) (TooLong (end_of_fragment fragment))
    ∷ refused_if (nat_lt room (end_of_fragment fragment)) (BufferTooSmall (end_of_fragment fragment) room)
    ∷ [])

-- one of the pieces ends at or after this place
abbrev pub reaches : ℕ → List Piece → Bool
reaches place pieces = list_any (λ piece. nat_le place (end_of piece)) pieces

-- The error about the end of the payload, if there is an error. If the end is known, a last fragment must end there, and any other fragment
-- must end before it. If the end is not known, no fragment that arrived may reach the end of a last fragment.
abbrev pub end_refusal : Option ℕ → Bool → FragmentValue → Option ReassemblyError
end_refusal (Some end) is_reached fragment =
    if fragment.more_fragments then refused_if (nat_le end (end_of_fragment fragment)) BehindEnd
    else refused_if (not (end_of_fragment fragment == end)) OtherEnd
end_refusal None is_reached fragment = if fragment.more_fragments then None else refused_if is_reached BehindEnd

-- another piece overlaps this piece, but is not equal to it (RFC 5722, section 3; RFC 8200, section 4.5)
abbrev pub conflicts : Piece → Piece → Bool
conflicts piece other = overlaps piece other && not (is_same piece other)

-- The first error about this piece and the pieces that arrived. It conflicts with one of them, or it is new and the maximum number of
-- pieces arrived before.
abbrev pub piece_refusal : List Piece → Piece → Option ReassemblyError
piece_refusal pieces piece = first_of (
    refused_if (list_any (conflicts piece) pieces) Overlap
    ∷ refused_if (not (is_among pieces piece) && nat_le max_fragments (length pieces)) TooManyFragments
    ∷ [])

-- the first error of a fragment
abbrev pub refusal : State → FragmentValue → Option ReassemblyError
refusal state fragment = first_of (
    own_refusal state.key state.room fragment
    ∷ end_refusal state.end (reaches (end_of_fragment fragment) state.pieces) fragment
    ∷ piece_refusal state.pieces (piece_of fragment)
    ∷ [])

-- ---- what an accepted fragment changes

-- the pieces after this piece is added; a repeated piece changes nothing
abbrev pub pieces_with : List Piece → Piece → List Piece
pieces_with pieces piece = if is_among pieces piece then pieces else pieces ++ piece ∷ []

-- The length of the whole payload once this fragment is added, if it is known. The last fragment determines it.
abbrev pub end_with : Option ℕ → FragmentValue → Option ℕ
end_with end fragment = if fragment.more_fragments then end else Some (end_of_fragment fragment)

-- the state after this fragment is added
abbrev pub with_fragment : State → FragmentValue → State
with_fragment state fragment = record {
  key = state.key;
  room = state.room;
  pieces = pieces_with state.pieces (piece_of fragment);
  end = end_with state.end fragment;
}

-- ---- the payload

-- the length of the payload is known, and each of its bytes arrived
abbrev pub IsComplete : State → Type 0
IsComplete state =
    (len : ℕ) × (state.end ≡ Some len) × ((place : ℕ) → place < len → is_some (byte_at state.pieces place) ≡ true)

-- this is the payload: it has the known length, and each byte is the byte of the piece that contains it
abbrev pub IsPayload : State → List ℕ → Type 0
IsPayload state payload =
    (state.end ≡ Some (length payload))
    × ((place : ℕ) → place < length payload → byte_at state.pieces place ≡ Some (slice_index payload place))
