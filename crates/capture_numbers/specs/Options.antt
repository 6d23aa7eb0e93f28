-- The options of a block of a pcapng file, one after the other (draft-ietf-opsawg-pcapng, section 3.5).
use Rattle.std.specs.Prelude.{ℕ, ◌+◌, ◌*◌, ◌/◌, ◌==◌, Bool, ◌&&◌, ◌||◌, nat_lt, if◌then◌else◌, List, length, take, slice_range, Option, Some, None, unwrap_or}
use Rattle.std.specs.List.{find}
use Rattle.std.specs.Option.{option_map}
use Rattle.ip_part.specs.Options.{options_of}
use Rattle.capture_numbers.specs.Numbers.{short_at}
use Rattle.capture_numbers.specs.declared.byte_order.ByteOrder.{ByteOrder}

-- the length of an option with a value of this length: four bytes before the value, and the value padded to a multiple of four bytes
abbrev pub option_len : ℕ → ℕ
option_len value_len = 4 + (value_len + 3) / 4 * 4

-- The option at the front of these bytes, which are the rest of a block's options. `None` if the options end here with code 0, or if the
-- bytes are too short for an option.
abbrev pub pcapng_option : ByteOrder → List ℕ → Option (List ℕ)
pcapng_option order bytes =
    if nat_lt (length bytes) 4 || short_at order bytes 0 == 0 then None
    else if nat_lt (length bytes) (option_len (short_at order bytes 2)) then None
    else Some (take (option_len (short_at order bytes 2)) bytes)

-- an option with this code, and with a value of this length if a length is given
abbrev pub is_option : ByteOrder → ℕ → Option ℕ → List ℕ → Bool
is_option order code len option =
    short_at order option 0 == code && short_at order option 2 == unwrap_or len (short_at order option 2)

-- the value of an option, without padding
abbrev pub value_in : ByteOrder → List ℕ → List ℕ
value_in order option = slice_range option 4 (4 + short_at order option 2)

-- the value of the first option with this code, and with a value of this length if a length is given
abbrev pub option_value : ByteOrder → ℕ → Option ℕ → List ℕ → Option (List ℕ)
option_value order code len options =
    option_map (value_in order) (find (is_option order code len) (options_of (pcapng_option order) options))
