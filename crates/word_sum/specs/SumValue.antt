-- The value of a running sum.
use Rattle.std.specs.Prelude.{ℕ, ◌*◌}
use Rattle.word_sum.specs.Checksum.{folded}
use Rattle.word_sum.specs.declared.checksum.Sum16BitWords.{Sum16BitWords}

-- The one's complement sum of the words that were added, 0 to 65535. A sum stores the words with their bytes swapped, which is 256 times
-- the value modulo 65535. Another factor of 256 gives the value, since 256 * 256 is 1 modulo 65535 (RFC 1071, section 2 (B)).
abbrev pub sum_value : Sum16BitWords → ℕ
sum_value sum = folded (sum.word * 256)
