-- The address of a network interface as text.
use Rattle.std.specs.Prelude.{ℕ, false, List, ◌++◌, codes, slice_index}
use Rattle.std.specs.Fmt.{radix_digits}
use Rattle.capture_words.specs.Numbers.{zero_padded}

-- a byte as two hex digits in lower case
abbrev pub byte_text : ℕ → List ℕ
byte_text byte = zero_padded 2 (radix_digits 16 false byte)

-- the six bytes of an address, with colons between them
abbrev pub hardware_address_text : List ℕ → List ℕ
hardware_address_text address =
    byte_text (slice_index address 0)
    ++ (codes ":" ++ (byte_text (slice_index address 1) ++ (codes ":" ++ (byte_text (slice_index address 2)
    ++ (codes ":" ++ (byte_text (slice_index address 3) ++ (codes ":" ++ (byte_text (slice_index address 4)
    ++ (codes ":" ++ byte_text (slice_index address 5))))))))))
