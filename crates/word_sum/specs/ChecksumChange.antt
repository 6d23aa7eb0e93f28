-- The meaning of a change: which packet becomes which packet.
use Rattle.std.specs.Prelude.{◌≡◌, ℕ, ◌+◌, List}
use Rattle.word_sum.specs.Checksum.{total}
use Rattle.word_sum.specs.SumValue.{sum_value}
use Rattle.word_sum.specs.UpdatedChecksum.{PartReplaced, TurnsIntoBy}
use Rattle.word_sum.specs.declared.checksum_change.ChecksumChange.{ChecksumChange}

-- the one's complement sum of the replaced bytes, 0 to 65535
abbrev pub removed_value : ChecksumChange → ℕ
removed_value change = sum_value change.removed

-- the one's complement sum of the new bytes, 0 to 65535
abbrev pub added_value : ChecksumChange → ℕ
added_value change = sum_value change.added

-- the change can turn a packet with the first total into a packet with the second total
abbrev pub TurnsInto : ChecksumChange → ℕ → ℕ → Type 0
TurnsInto change packet changed = TurnsIntoBy (removed_value change) (added_value change) packet changed

-- `extended` is the change with one more replacement. Assume that the change turns a packet into `between`, and that `between` with the new
-- bytes instead of the old bytes is `changed`. Then `extended` turns the packet into `changed`.
abbrev pub IsExtendedBy : ChecksumChange → List ℕ → List ℕ → ChecksumChange → Type 0
IsExtendedBy change old new extended = (packet between changed : ℕ) → changed + total old ≡ between + total new
    → TurnsInto change packet between → TurnsInto extended packet changed

-- the extended change also replaces the old bytes by the new bytes, at any even place
abbrev pub Replaces : ChecksumChange → List ℕ → List ℕ → ChecksumChange → Type 0
Replaces change old new extended = (packet : ℕ) (between changed : List ℕ) → PartReplaced old new between changed
    → TurnsInto change packet (total between) → TurnsInto extended packet (total changed)
