-- The kinds of TCP options, and the lengths of the kinds with a fixed length. A length is in bytes. It includes the kind and the length
-- byte.
use Rattle.std.specs.Prelude.{ℕ, ◌==◌, List, [], ◌∷◌, Option}
use Rattle.std.specs.Map.{lookup}

-- the kind that ends the list of options; it is a single byte (RFC 9293, section 3.2)
abbrev pub end_kind : ℕ
end_kind = 0

-- the kind of no operation; it is a single byte (RFC 9293, section 3.2)
abbrev pub noop_kind : ℕ
noop_kind = 1

-- the kind of a maximum segment size (RFC 9293, section 3.2)
abbrev pub maximum_segment_size_kind : ℕ
maximum_segment_size_kind = 2

-- the length of a maximum segment size: 16 bits after kind and length
abbrev pub maximum_segment_size_len : ℕ
maximum_segment_size_len = 4

-- the kind of a window scale (RFC 7323, section 2.2)
abbrev pub window_scale_kind : ℕ
window_scale_kind = 3

-- the length of a window scale: 8 bits after kind and length
abbrev pub window_scale_len : ℕ
window_scale_len = 3

-- the kind that permits selective acknowledgements (RFC 2018, section 2)
abbrev pub sack_permitted_kind : ℕ
sack_permitted_kind = 4

-- the length of the option that permits selective acknowledgements: kind and length
abbrev pub sack_permitted_len : ℕ
sack_permitted_len = 2

-- the kind of a selective acknowledgement (RFC 2018, section 3)
abbrev pub sack_kind : ℕ
sack_kind = 5

-- the kind of a timestamp (RFC 7323, section 3.2)
abbrev pub timestamp_kind : ℕ
timestamp_kind = 8

-- the length of a timestamp: two numbers of 32 bits after kind and length
abbrev pub timestamp_len : ℕ
timestamp_len = 10

-- the kinds with a fixed length, each with its length
abbrev pub lengths_of_kinds : List (ℕ × ℕ)
lengths_of_kinds =
    (maximum_segment_size_kind, maximum_segment_size_len) ∷ (window_scale_kind, window_scale_len)
    ∷ (sack_permitted_kind, sack_permitted_len) ∷ (timestamp_kind, timestamp_len) ∷ []

-- the length of an option of this kind, if the kind has a fixed length
abbrev pub length_of_kind : ℕ → Option ℕ
length_of_kind kind = lookup (λ known. kind == known) lengths_of_kinds
