-- How an offset is added to an error about a TCP header. The offset is the place in a packet at which the bytes that were read begin.
use Rattle.std.specs.Prelude.{ℕ, ◌+◌, ◌<◌, ◌^◌}
use Rattle.net_base.specs.declared.err.tcp.header_slice_error.HeaderSliceError.{HeaderSliceError}
use Rattle.net_base.specs.declared.err.tcp.header_slice_error.HeaderSliceError.TheVariants.{Len, Content}

-- The offset can be added: its sum with the offset in the error fits `usize`. An error about the value of a field contains no offset, so
-- any offset is allowed.
abbrev pub OffsetFits : HeaderSliceError → ℕ → Type 0
OffsetFits (Len error) offset = error.layer_start_offset + offset < 2 ^ 64
OffsetFits (Content error) offset = Unit {0}

-- the error with this offset added, if the error contains an offset
abbrev pub with_slice_offset : HeaderSliceError → ℕ → HeaderSliceError
with_slice_offset (Len error) offset = Len (record error { layer_start_offset = error.layer_start_offset + offset })
with_slice_offset (Content error) offset = Content error
