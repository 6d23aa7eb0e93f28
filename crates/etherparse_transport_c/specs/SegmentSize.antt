-- Lowering the maximum segment size of a packet, in the interface to C.
use Rattle.std.specs.Prelude.{◌≡◌, ◌⊎◌, ℕ, List}
use Rattle.etherparse_transport.specs.SegmentSizes.{IsRefusedFor}
use Rattle.etherparse_transport.specs.declared.err.packet.lower_maximum_segment_size_error.LowerMaximumSegmentSizeError.{LowerMaximumSegmentSizeError}
use Rattle.etherparse_transport.specs.declared.err.packet.lower_maximum_segment_size_error.LowerMaximumSegmentSizeError.TheVariants.{Header, Ip, LaterFragment, NoOption, NoSyn, OptionLength, Options, Protocol}
use Rattle.tcp_part.specs.TcpOptionKinds.{maximum_segment_size_kind}
use Rattle.etherparse_transport_c.specs.Errors.{nothing, of_header_slice, of_ip, of_protocol, of_raw_option, of_status}
use Rattle.etherparse_transport_c.specs.Numbers as numbers
use Rattle.etherparse_transport_c.specs.declared.error.EtherparseError.{EtherparseError}

-- the error for a packet whose maximum segment size is not lowered
abbrev pub of_segment_size : LowerMaximumSegmentSizeError → EtherparseError
of_segment_size (Ip error) = of_ip error
of_segment_size (Protocol protocol) = of_protocol protocol.0
of_segment_size LaterFragment = of_status numbers.status_segment_size_later_fragment
of_segment_size (Header error) = of_header_slice error
of_segment_size NoSyn = of_status numbers.status_segment_size_no_syn
of_segment_size (Options error) = of_raw_option error
of_segment_size (OptionLength len) = record nothing {
  status = numbers.status_option_size;
  option_kind = maximum_segment_size_kind;
  option_size = len;
}
of_segment_size NoOption = of_status numbers.status_segment_size_no_option

-- the packet is not refused for any reason
abbrev pub IsAccepted : List ℕ → Type 0
IsAccepted packet = (why : LowerMaximumSegmentSizeError) → ¬ IsRefusedFor packet why

-- The status and the error of the call. If the packet is accepted, the status is `OK`, and the error is unchanged. If it is refused, the
-- status and the error are those of the reason.
abbrev pub LowerTells : List ℕ → ℕ → EtherparseError → EtherparseError → Type 0
LowerTells packet status error before =
    (IsAccepted packet × (status ≡ numbers.status_ok) × (error ≡ before))
    ⊎ ((why : LowerMaximumSegmentSizeError) × IsRefusedFor packet why × (status ≡ error.status) × (error ≡ of_segment_size why))
