-- Numbers and bytes as text.
use Rattle.std.specs.Prelude.{ℕ, ◌-◌, ◌^◌, true, false, List, []}
use Rattle.std.specs.Fmt.{format_spec, padded_integral, radix_digits}
use Rattle.std.specs.List.{flat_map}

-- these digits, with zeros before them if there are fewer digits than this width
abbrev pub zero_padded : ℕ → List ℕ → List ℕ
zero_padded width digits = padded_integral (format_spec 32 0 4 width (2 ^ 64 - 1)) false [] digits

-- a number as hex digits in upper case, with zeros before them if there are fewer digits than this width
abbrev pub hex_padded : ℕ → ℕ → List ℕ
hex_padded width number = zero_padded width (radix_digits 16 true number)

-- bytes as hex digits in upper case, two digits for each byte
abbrev pub hex_bytes : List ℕ → List ℕ
hex_bytes bytes = flat_map (hex_padded 2) bytes
