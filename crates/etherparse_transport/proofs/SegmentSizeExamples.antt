-- Worked examples of a lowered maximum segment size.
use Rattle.std.proofs.Common.{◌≡◌, ℕ, List, [], ◌∷◌, replicate, ◌++◌, Some, None, Ok, Err, true, false, refl, inl, inr, arith}
use Rattle.ip_part.specs.Ip.{headers_to_transport}
use Rattle.ip_part.specs.Options.{options_within}
use Rattle.tcp_part.specs.TcpRawOptions.{RawOption}
use Rattle.tcp_part.specs.declared.tcp_raw_option_error.TcpRawOptionError.TheVariants.{LengthBeyondEnd}
use Rattle.word_sum.specs.Checksum.{folded}
use Rattle.etherparse_transport.specs.SegmentSizes.{Finds, FindsIn, header_refusal, lowered_segment}
use Rattle.etherparse_transport.specs.declared.err.packet.lower_maximum_segment_size_error.LowerMaximumSegmentSizeError.TheVariants.{LaterFragment, NoOption, NoSyn, OptionLength, Options, Protocol}

-- ---- options

-- an option with this kind and value
abbrev option_of : ℕ → List ℕ → RawOption
option_of kind value = record { kind = kind; value = value }

-- the size follows kind and length byte, so it is at byte 22 of the header
first_option_found : Finds (2 ∷ 4 ∷ 5 ∷ 0xB4 ∷ []) (Ok 22)
first_option_found = record {
  items = Ok (option_of 2 (5 ∷ 0xB4 ∷ [])) ∷ [];
  reads = (_, record { spelled = refl; is_no_end = λ e. omega arith; noop_has_no_value = λ e. absurd (omega arith) }, inl refl);
  is = refl;
}

-- an option "no operation" is before the option, and the end of the list follows
option_at_odd_place_found : Finds (1 ∷ 2 ∷ 4 ∷ 5 ∷ 0xB4 ∷ 0 ∷ 9 ∷ 9 ∷ []) (Ok 23)
option_at_odd_place_found = record {
  items = Ok (option_of 1 []) ∷ Ok (option_of 2 (5 ∷ 0xB4 ∷ [])) ∷ [];
  reads = (
    _,
    record { spelled = refl; is_no_end = λ e. omega arith; noop_has_no_value = λ e. refl },
    (_, record { spelled = refl; is_no_end = λ e. omega arith; noop_has_no_value = λ e. absurd (omega arith) }, inr refl),
  );
  is = refl;
}

-- an option of kind 2 with length 3
wrong_length_found : Finds (2 ∷ 3 ∷ 5 ∷ []) (Err (OptionLength 3))
wrong_length_found = record {
  items = Ok (option_of 2 (5 ∷ [])) ∷ [];
  reads = (_, record { spelled = refl; is_no_end = λ e. omega arith; noop_has_no_value = λ e. absurd (omega arith) }, inl refl);
  is = refl;
}

-- an option that goes beyond the header
fault_found : Finds (2 ∷ 4 ∷ 5 ∷ []) (Err (Options (LengthBeyondEnd 2 4 3)))
fault_found = record { items = Err (LengthBeyondEnd 2 4 3) ∷ []; reads = (refl, refl); is = refl }

-- the list of options ends before the option
nothing_found : Finds (0 ∷ 2 ∷ 4 ∷ 5 ∷ 0xB4 ∷ []) (Err NoOption)
nothing_found = record { items = []; reads = inr refl; is = refl }

-- ---- segments

-- a SYN from port 50000 to port 80, with the maximum segment size 1460
abbrev syn : List ℕ
syn =
    0xC3 ∷ 0x50 ∷ 0 ∷ 0x50 ∷ 0 ∷ 0 ∷ 0 ∷ 1 ∷ 0 ∷ 0 ∷ 0 ∷ 0 ∷ 0x60 ∷ 2 ∷ 0x20 ∷ 0 ∷ 0x31 ∷ 0x31 ∷ 0 ∷ 0 ∷ 2 ∷ 4 ∷ 5 ∷ 0xB4 ∷ []

syn_accepted : header_refusal (record { 0 = 6 }) false syn ≡ None
syn_accepted = refl

other_protocol_refused : header_refusal (record { 0 = 17 }) false syn ≡ Some (Protocol (record { 0 = 17 }))
other_protocol_refused = refl

later_fragment_refused : header_refusal (record { 0 = 6 }) true syn ≡ Some LaterFragment
later_fragment_refused = refl

-- an acknowledgement
no_syn_refused : header_refusal (record { 0 = 6 }) false (replicate 12 0 ++ (0x50 ∷ 0x10 ∷ replicate 6 0)) ≡ Some NoSyn
no_syn_refused = refl

-- the size 1460 becomes 1360, and the checksum 3131 becomes 3195
size_lowered : lowered_segment 1360 22 syn ≡
    0xC3 ∷ 0x50 ∷ 0 ∷ 0x50 ∷ 0 ∷ 0 ∷ 0 ∷ 1 ∷ 0 ∷ 0 ∷ 0 ∷ 0 ∷ 0x60 ∷ 2 ∷ 0x20 ∷ 0 ∷ 0x31 ∷ 0x95 ∷ 0 ∷ 0 ∷ 2 ∷ 4 ∷ 5 ∷ 0x50 ∷ []
unfolding folded
size_lowered = refl

low_size_stays : lowered_segment 1460 22 syn ≡ syn
low_size_stays = refl

-- the option begins at an odd place, and the checksum 6EDB becomes D2DB
size_at_odd_place_lowered : lowered_segment 1360 23
    (
    0xC3 ∷ 0x50 ∷ 0 ∷ 0x50 ∷ 0 ∷ 0 ∷ 0 ∷ 1 ∷ 0 ∷ 0 ∷ 0 ∷ 0 ∷ 0x70 ∷ 2 ∷ 0x20 ∷ 0 ∷ 0x6E ∷ 0xDB ∷ 0 ∷ 0 ∷ 1 ∷ 2 ∷ 4 ∷ 5 ∷ 0xB4 ∷ 1 ∷ 1 ∷
    1 ∷ [])
    ≡
    0xC3 ∷ 0x50 ∷ 0 ∷ 0x50 ∷ 0 ∷ 0 ∷ 0 ∷ 1 ∷ 0 ∷ 0 ∷ 0 ∷ 0 ∷ 0x70 ∷ 2 ∷ 0x20 ∷ 0 ∷ 0xD2 ∷ 0xDB ∷ 0 ∷ 0 ∷ 1 ∷ 2 ∷ 4 ∷ 5 ∷ 0x50 ∷ 1 ∷ 1 ∷
    1 ∷ []
unfolding folded
size_at_odd_place_lowered = refl

-- ---- a packet

size_in_packet_found : FindsIn
    (
    0x45 ∷ 0 ∷ 0 ∷ 0x2C ∷ 0 ∷ 0 ∷ 0 ∷ 0 ∷ 0x40 ∷ 6 ∷ 0xF7 ∷ 0x78 ∷ 0xC0 ∷ 0xA8 ∷ 1 ∷ 1 ∷ 0xC0 ∷ 0xA8 ∷ 1 ∷ 2 ∷ 0xC3 ∷ 0x50 ∷ 0 ∷ 0x50 ∷
    0 ∷ 0 ∷ 0 ∷ 1 ∷ 0 ∷ 0 ∷ 0 ∷ 0 ∷ 0x60 ∷ 2 ∷ 0x20 ∷ 0 ∷ 0x31 ∷ 0x31 ∷ 0 ∷ 0 ∷ 2 ∷ 4 ∷ 5 ∷ 0xB4 ∷ [])
    (Ok 22)
unfolding headers_to_transport options_within
size_in_packet_found = record { accepted = refl; headers = _; read = refl; finds = first_option_found }
