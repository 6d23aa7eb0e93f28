-- Worked examples of the definitions, so that a wrong definition fails before any code does.
use Rattle.std.proofs.Common.{◌≡◌, ◌+◌, ◌-◌, ◌*◌, ◌^◌, List, [], ◌∷◌, ◌++◌, length, replicate, Some, None, Ok, Err, refl, inl, inr, arith}
use Rattle.net_base.specs.declared.tcp_option_read_error.TcpOptionReadError.TheVariants.{UnexpectedEndOfSlice, UnexpectedSize, UnknownId}
use Rattle.net_base.specs.declared.tcp_option_write_error.TcpOptionWriteError.TheVariants.{NotEnoughSpace}
use Rattle.tcp_part.specs.TcpOptions.{IsBefore, front, join, max_options_len, pad, pair, saturated, spelling, too_long}
use Rattle.tcp_part.specs.TcpOptionsReading.{Reads, fault, read_back}
use Rattle.tcp_part.specs.declared.tcp_option_element.TcpOptionElement.{TcpOptionElement}
use Rattle.tcp_part.specs.declared.tcp_option_element.TcpOptionElement.TheVariants.{Noop, MaximumSegmentSize, WindowScale, SelectiveAcknowledgementPermitted, SelectiveAcknowledgement, Timestamp}

-- ---- writing

segment_size_spelled : spelling (MaximumSegmentSize 1460) ≡ 2 ∷ 4 ∷ 0x05 ∷ 0xB4 ∷ []
segment_size_spelled = refl

permitted_spelled : spelling SelectiveAcknowledgementPermitted ≡ 4 ∷ 2 ∷ []
permitted_spelled = refl

timestamp_spelled : spelling (Timestamp 1 258) ≡ 8 ∷ 10 ∷ 0 ∷ 0 ∷ 0 ∷ 1 ∷ 0 ∷ 0 ∷ 1 ∷ 2 ∷ []
unfolding pair
timestamp_spelled = refl

-- a block in the second place of three
second_block : TcpOptionElement
second_block = SelectiveAcknowledgement (1, 2) (None ∷ Some (3, 4) ∷ None ∷ [])

second_block_padded : pad (join (second_block ∷ []))
    ≡ 5 ∷ 18 ∷ 0 ∷ 0 ∷ 0 ∷ 1 ∷ 0 ∷ 0 ∷ 0 ∷ 2 ∷ 0 ∷ 0 ∷ 0 ∷ 3 ∷ 0 ∷ 0 ∷ 0 ∷ 4 ∷ 0 ∷ 0 ∷ []
unfolding pair second_block
second_block_padded = refl

second_block_read_back : front second_block ≡ SelectiveAcknowledgement (1, 2) (Some (3, 4) ∷ None ∷ None ∷ [])
unfolding second_block
second_block_read_back = refl

four_blocks : TcpOptionElement
four_blocks = SelectiveAcknowledgement (1, 2) (Some (3, 4) ∷ Some (5, 6) ∷ Some (7, 0x01020304) ∷ [])

four_blocks_spelled : spelling four_blocks
    ≡ 5 ∷ 34 ∷ 0 ∷ 0 ∷ 0 ∷ 1 ∷ 0 ∷ 0 ∷ 0 ∷ 2 ∷ 0 ∷ 0 ∷ 0 ∷ 3 ∷ 0 ∷ 0 ∷ 0 ∷ 4 ∷ 0 ∷ 0 ∷ 0 ∷ 5 ∷ 0 ∷ 0 ∷ 0 ∷ 6 ∷ 0 ∷ 0 ∷ 0 ∷ 7 ∷ 1 ∷ 2 ∷ 3 ∷ 4
    ∷ []
unfolding pair four_blocks
four_blocks_spelled = refl

scale_and_noops : List TcpOptionElement
scale_and_noops = WindowScale 123 ∷ Noop ∷ Noop ∷ []

scale_and_noops_padded : pad (join scale_and_noops) ≡ 3 ∷ 3 ∷ 123 ∷ 1 ∷ 1 ∷ 0 ∷ 0 ∷ 0 ∷ []
unfolding scale_and_noops
scale_and_noops_padded = refl

-- the options that a common kernel sends
kernel : List TcpOptionElement
kernel = MaximumSegmentSize 1460 ∷ SelectiveAcknowledgementPermitted ∷ Timestamp 1 0 ∷ Noop ∷ WindowScale 7 ∷ []

kernel_padded : pad (join kernel)
    ≡ 2 ∷ 4 ∷ 0x05 ∷ 0xB4 ∷ 4 ∷ 2 ∷ 8 ∷ 10 ∷ 0 ∷ 0 ∷ 0 ∷ 1 ∷ 0 ∷ 0 ∷ 0 ∷ 0 ∷ 1 ∷ 3 ∷ 3 ∷ 7 ∷ []
unfolding pair kernel
kernel_padded = refl

nothing_padded : pad [] ≡ []
nothing_padded = refl

one_byte_padded : pad (1 ∷ []) ≡ 1 ∷ 0 ∷ 0 ∷ 0 ∷ []
one_byte_padded = refl

four_bytes_padded : pad (1 ∷ 2 ∷ 3 ∷ 4 ∷ []) ≡ 1 ∷ 2 ∷ 3 ∷ 4 ∷ []
four_bytes_padded = refl

room_for_options : max_options_len ≡ 15 * 4 - 20
room_for_options = refl

four_timestamps : List TcpOptionElement
four_timestamps = replicate 4 (Timestamp 1 2)

timestamps_fit : too_long (length (join four_timestamps)) ≡ None
unfolding pair four_timestamps
timestamps_fit = refl

one_noop_more : too_long (length (join (four_timestamps ++ (Noop ∷ [])))) ≡ Some (NotEnoughSpace 41)
unfolding pair four_timestamps
one_noop_more = refl

four_blocks_twice : too_long (length (join (four_blocks ∷ four_blocks ∷ []))) ≡ Some (NotEnoughSpace 68)
unfolding pair four_blocks
four_blocks_twice = refl

more_than_a_usize : saturated (2 ^ 64 + 3) ≡ 2 ^ 64 - 1
more_than_a_usize = refl

-- ---- reading

scale_and_noops_read : Reads (3 ∷ 3 ∷ 123 ∷ 1 ∷ 1 ∷ 0 ∷ 0 ∷ 0 ∷ []) (read_back scale_and_noops)
unfolding scale_and_noops
scale_and_noops_read = (
  _,
  record { spelled = refl; read_back = refl; in_range = omega arith },
  (
    _,
    record { spelled = refl; read_back = refl; in_range = tt },
    (
      _,
      record { spelled = refl; read_back = refl; in_range = tt },
      inr refl,
    ),
  ),
)

noop_read : Reads (1 ∷ 0 ∷ 0 ∷ 0 ∷ []) (Ok Noop ∷ [])
noop_read = (_, record { spelled = refl; read_back = refl; in_range = tt }, inr refl)

nothing_read_after_the_end : Reads (1 ∷ 0 ∷ 7 ∷ 7 ∷ []) (Ok Noop ∷ [])
nothing_read_after_the_end = (_, record { spelled = refl; read_back = refl; in_range = tt }, inr refl)

nothing_read : Reads [] []
nothing_read = inl refl

zeros_read : Reads (0 ∷ 0 ∷ 0 ∷ 0 ∷ []) []
zeros_read = inr refl

fault_read : Reads (1 ∷ 2 ∷ 3 ∷ 0 ∷ []) (Ok Noop ∷ Err (UnexpectedEndOfSlice 2 4 3) ∷ [])
fault_read = (_, record { spelled = refl; read_back = refl; in_range = tt }, (refl, refl))

-- ---- faults

segment_size_cut_off : fault (2 ∷ 3 ∷ 0 ∷ []) ≡ Some (UnexpectedEndOfSlice 2 4 3)
segment_size_cut_off = refl

segment_size_of_three : fault (2 ∷ 3 ∷ 0 ∷ 0 ∷ []) ≡ Some (UnexpectedSize 2 3)
segment_size_of_three = refl

window_scale_cut_off : fault (3 ∷ 3 ∷ []) ≡ Some (UnexpectedEndOfSlice 3 3 2)
window_scale_cut_off = refl

permitted_cut_off : fault (4 ∷ []) ≡ Some (UnexpectedEndOfSlice 4 2 1)
permitted_cut_off = refl

permitted_of_three : fault (4 ∷ 3 ∷ []) ≡ Some (UnexpectedSize 4 3)
permitted_of_three = refl

timestamp_cut_off : fault (8 ∷ 10 ∷ replicate 7 0) ≡ Some (UnexpectedEndOfSlice 8 10 9)
timestamp_cut_off = refl

blocks_without_length : fault (5 ∷ []) ≡ Some (UnexpectedEndOfSlice 5 2 1)
blocks_without_length = refl

blocks_of_eleven : fault (5 ∷ 11 ∷ []) ≡ Some (UnexpectedSize 5 11)
blocks_of_eleven = refl

blocks_of_forty_two : fault (5 ∷ 42 ∷ replicate 40 0) ≡ Some (UnexpectedSize 5 42)
blocks_of_forty_two = refl

blocks_cut_off : fault (5 ∷ 10 ∷ 0 ∷ []) ≡ Some (UnexpectedEndOfSlice 5 10 3)
blocks_cut_off = refl

unknown_kind : fault (255 ∷ 2 ∷ []) ≡ Some (UnknownId 255)
unknown_kind = refl

no_fault_at_the_end : fault (0 ∷ 9 ∷ []) ≡ None
no_fault_at_the_end = refl

no_fault_of_noop : fault (1 ∷ 9 ∷ []) ≡ None
no_fault_of_noop = refl

-- ---- the order of bytes

empty_before : IsBefore [] (1 ∷ 0 ∷ 0 ∷ 0 ∷ [])
empty_before = (0, refl, inr (refl, omega arith))

shorter_before : IsBefore (1 ∷ 0 ∷ []) (1 ∷ 0 ∷ 0 ∷ [])
shorter_before = (2, refl, inr (refl, omega arith))

smaller_before : IsBefore (1 ∷ 0 ∷ 0 ∷ 0 ∷ 0 ∷ 0 ∷ 0 ∷ 0 ∷ []) (2 ∷ 0 ∷ 0 ∷ 0 ∷ [])
smaller_before = (0, refl, inl (omega arith, omega arith, omega arith))
