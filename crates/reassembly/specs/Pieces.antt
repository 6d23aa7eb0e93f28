-- Pieces of a payload: the bytes that they contain, and how they overlap.
use Rattle.std.specs.Prelude.{ℕ, ◌+◌, ◌-◌, ◌==◌, Bool, ◌&&◌, nat_eq, nat_lt, nat_le, if◌then◌else◌, List, [], ◌∷◌, length, slice_index, Option, Some, None}
use Rattle.std.specs.Cmp.Lexicographic.{pointwise}
use Rattle.std.specs.List.{list_any}

-- a part of a payload: the place of its first byte, and its bytes
pub record Piece : Type 0 where
  pub offset : ℕ
  pub bytes : List ℕ

-- the place after the last byte of a piece
abbrev pub end_of : Piece → ℕ
end_of piece = piece.offset + length piece.bytes

-- the piece contains the byte at this place
abbrev pub covers : ℕ → Piece → Bool
covers place piece = nat_le piece.offset place && nat_lt place (end_of piece)

-- Each piece begins before the end of the other piece. If neither piece is empty, both contain a byte at the same place.
abbrev pub overlaps : Piece → Piece → Bool
overlaps a b = nat_lt a.offset (end_of b) && nat_lt b.offset (end_of a)

-- two pieces are equal: they have the same bytes at the same place
abbrev pub is_same : Piece → Piece → Bool
is_same a b = a.offset == b.offset && pointwise nat_eq a.bytes b.bytes

-- a piece is equal to one of these pieces
abbrev pub is_among : List Piece → Piece → Bool
is_among pieces piece = list_any (is_same piece) pieces

-- the byte at this place, or `None` if no piece contains it
abbrev pub byte_at : List Piece → ℕ → Option ℕ
byte_at [] place = None
byte_at (piece ∷ pieces) place =
    if covers place piece then Some (slice_index piece.bytes (place - piece.offset)) else byte_at pieces place

-- the number of bytes of these pieces
abbrev pub total_len : List Piece → ℕ
total_len [] = 0
total_len (piece ∷ pieces) = length piece.bytes + total_len pieces
