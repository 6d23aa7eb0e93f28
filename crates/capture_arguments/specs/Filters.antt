-- Names of captures that begin like a filter of tcpdump.
use Rattle.std.specs.Prelude.{ℕ, Bool, List}
use Rattle.std.specs.List.{list_any}
use Rattle.capture_request.specs.Filters.{is_filter}

-- one of these names begins like a filter
abbrev pub has_filter : List (List ℕ) → Bool
has_filter names = list_any is_filter names
