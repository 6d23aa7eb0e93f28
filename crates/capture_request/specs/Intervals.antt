-- The requested width of the intervals of a timeline.
use Rattle.std.specs.Prelude.{ℕ, Option}
use Rattle.std.specs.Int.NonZero.{non_zero_u128_get}
use Rattle.std.specs.Option.{option_map}
use Rattle.capture_request.specs.declared.parts.Parts.{Parts}

-- the fixed width of the intervals in nanoseconds; `None` if the width grows
abbrev pub width_of : Parts → Option ℕ
width_of parts = option_map non_zero_u128_get parts.interval
