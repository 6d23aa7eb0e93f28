-- The places of the pieces of a payload in the lent buffer.
use Rattle.std.specs.Prelude.{◌≡◌, ◌≤◌, ℕ, ◌+◌, Bool, ◌&&◌, nat_le, nat_lt, List, [], ◌∷◌, length, map, take, drop, Option, Some, false, ⊤}
use Rattle.std.specs.List.{All, list_any}
use Rattle.reassembly.specs.Pieces.{Piece, overlaps, total_len}
use Rattle.reassembly.specs.Reassembly.{max_payload_len}
use Rattle.reassembly.specs.declared.part.Part.{Part}

-- the piece that a part of the buffer contains
abbrev pub piece_in : List ℕ → Part → Piece
piece_in buffer part = record { offset = part.offset; bytes = take part.len (drop part.offset buffer) }

-- the pieces that the parts of a buffer contain
abbrev pub pieces_in : List ℕ → List Part → List Piece
pieces_in buffer parts = map (piece_in buffer) parts

-- the part is within the buffer
abbrev pub Fits : List ℕ → Part → Type 0
Fits buffer part = part.offset + part.len ≤ length buffer

-- no two of these pieces overlap
abbrev pub AreApart : List Piece → Type 0
AreApart [] = ⊤
AreApart (piece ∷ pieces) = (list_any (overlaps piece) pieces ≡ false) × AreApart pieces

-- one of the parts ends at or after this place
abbrev pub part_reaches : ℕ → List Part → Bool
part_reaches place parts = list_any (λ part. nat_le place (part.offset + part.len)) parts

-- The part begins before the place `end`, and ends after the place `offset`. If neither the part nor the bytes between these places are
-- empty, both contain a byte at the same place.
abbrev pub part_overlaps : ℕ → ℕ → Part → Bool
part_overlaps offset end part = nat_lt offset (part.offset + part.len) && nat_lt part.offset end

-- the part ends at or before the place `limit`
abbrev pub EndsWithin : ℕ → Part → Type 0
EndsWithin limit part = part.offset + part.len ≤ limit

-- The parts of a reassembly are within the buffer, and their pieces do not overlap. `received` is the number of bytes in all parts. No part
-- goes beyond the longest payload, or beyond the end of the payload if this end is known.
pub record AreKept (buffer : List ℕ) (parts : List Part) (received : ℕ) (end : Option ℕ) : Type 0 where
  pub fit : All (Fits buffer) parts
  pub apart : AreApart (pieces_in buffer parts)
  pub sum : received ≡ total_len (pieces_in buffer parts)
  pub short : All (EndsWithin max_payload_len) parts
  pub ended : (len : ℕ) → end ≡ Some len → All (EndsWithin len) parts
