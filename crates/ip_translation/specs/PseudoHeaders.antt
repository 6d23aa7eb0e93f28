-- The pseudo headers of UDP and TCP before and after a translation.
use Rattle.std.specs.Prelude.{◌≤◌, ◌<◌, ℕ, ◌+◌, List}
use Rattle.net_base.specs.PseudoHeader.{max_len_over_ipv4}
use Rattle.word_sum.specs.Checksum.{total}
use Rattle.word_sum.specs.ChecksumChange.{TurnsInto}
use Rattle.word_sum.specs.declared.checksum_change.ChecksumChange.{ChecksumChange}

-- For each length, the change turns the sum over the old pseudo header into the sum over the new pseudo header, whatever bytes follow. The
-- sum of a pseudo header is never 0.
pub record AreTurned (change : ChecksumChange) (old new : ℕ → List ℕ) : Type 0 where
  pub turns : (len rest : ℕ) → len ≤ max_len_over_ipv4 → TurnsInto change (total (old len) + rest) (total (new len) + rest)
  pub old_some : (len : ℕ) → 0 < total (old len)
  pub new_some : (len : ℕ) → 0 < total (new len)
