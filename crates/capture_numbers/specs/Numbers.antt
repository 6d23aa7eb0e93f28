-- The numbers in a capture, in its byte order.
use Rattle.std.specs.Prelude.{ℕ, zero, suc, ◌+◌, ◌*◌, ◌^◌, List, slice_index}
use Rattle.net_base.specs.Bytes.{be_number}
use Rattle.capture_numbers.specs.declared.byte_order.ByteOrder.{ByteOrder}
use Rattle.capture_numbers.specs.declared.byte_order.ByteOrder.TheVariants.{BigEndian, LittleEndian}

-- the little-endian number in the `count` bytes from place `from` on
abbrev pub le_number : List ℕ → ℕ → ℕ → ℕ
le_number bytes from zero = 0
le_number bytes from (suc count) = le_number bytes from count + slice_index bytes (from + count) * 256 ^ count

-- the number in the four bytes from a place on, in a byte order
abbrev pub number_at : ByteOrder → List ℕ → ℕ → ℕ
number_at BigEndian bytes place = be_number bytes place 4
number_at LittleEndian bytes place = le_number bytes place 4

-- the number in the two bytes from a place on, in a byte order
abbrev pub short_at : ByteOrder → List ℕ → ℕ → ℕ
short_at BigEndian bytes place = be_number bytes place 2
short_at LittleEndian bytes place = le_number bytes place 2

-- the number in the eight bytes from a place on, in a byte order
abbrev pub long_at : ByteOrder → List ℕ → ℕ → ℕ
long_at BigEndian bytes place = be_number bytes place 8
long_at LittleEndian bytes place = le_number bytes place 8
