-- A running sum to which parts of any length are added.
use Rattle.std.specs.Prelude.{ℕ, ◌%◌, ◌==◌, if◌then◌else◌, List, ◌∷◌}
use Rattle.word_sum.specs.Checksum.{total}

-- The sum of the words of some bytes that follow `offset` other bytes. If `offset` is odd, the first byte is the low half of a word, as if
-- a zero byte preceded it (RFC 1071, section 2 (B)).
abbrev pub total_at : ℕ → List ℕ → ℕ
total_at offset bytes = if offset % 2 == 0 then total bytes else total (0 ∷ bytes)
