-- Counts, and tables of counts.
use Rattle.std.specs.Prelude.{ℕ, ◌+◌, ◌-◌, ◌^◌, min, List, slice_index, slice_index_or, slice_set, Option, Some, None}
use Rattle.capture_summary.specs.declared.capture_info.FrameLen.{FrameLen}
use Rattle.capture_summary.specs.declared.count.Count.{Count}

-- the number of bytes that are counted for a packet: the original length of its frame, or 0 if the capture does not state it
abbrev pub counted_len : Option FrameLen → ℕ
counted_len None = 0
counted_len (Some len) = len.original

-- the count without packets
abbrev pub no_packets : Count
no_packets = record { packets = 0; bytes = 0 }

-- a count after a packet of this length is counted; the sum of the bytes is at most 2^64 - 1
abbrev pub counted : ℕ → Count → Count
counted len count = record { packets = count.packets + 1; bytes = min (count.bytes + len) (2 ^ 64 - 1) }

-- the table after a packet of this length is counted at this place
abbrev pub packet_counted_at : ℕ → ℕ → List Count → List Count
packet_counted_at len place table = slice_set table place (counted len (slice_index_or table place no_packets))

-- the table after the number at this place is increased by 1
abbrev pub counted_at : ℕ → List ℕ → List ℕ
counted_at place table = slice_set table place (slice_index table place + 1)
