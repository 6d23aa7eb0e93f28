-- Source routes in the options of an IPv4 header, even with an impossible length (RFC 791, section 3.1).
use Rattle.std.specs.Prelude.{ℕ, ◌==◌, ◌||◌, if◌then◌else◌, Bool, is_some, List, length, slice_index, Option, Some, None, unwrap_or}
use Rattle.std.specs.List.{find}
use Rattle.ip_part.specs.Options.{ipv4_option, is_source_route, options_of}

-- The option at the front of these bytes. If its length is missing, below 2, or beyond the end of the bytes, the option consists of all
-- bytes. `None` at the end of the list.
abbrev pub option_or_rest : List ℕ → Option (List ℕ)
option_or_rest bytes =
    if length bytes == 0 || slice_index bytes 0 == 0 then None else Some (unwrap_or (ipv4_option bytes) bytes)

-- these options contain a loose or strict source route
abbrev pub contain_source_route : List ℕ → Bool
contain_source_route options = is_some (find is_source_route (options_of option_or_rest options))
