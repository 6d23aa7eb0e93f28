-- Worked examples of the definitions, so that a wrong definition fails before any code does.
use Rattle.std.proofs.Common.{◌≡◌, ℕ, true, false, [], ◌∷◌, ◌++◌, replicate, Some, None, refl, codes, lit≤, arith}
use Rattle.net_base.specs.Bytes.{be_number, flag, masked}
use Rattle.net_base.specs.IpHeaders.{BeginsWithIpv4Header, BeginsWithIpv6Header, ipv4_fragment_offset, ipv4_header_len, ipv4_header_of, ipv4_is_fragment, version}
use Rattle.net_base.specs.Layer.{word_of}
use Rattle.net_base.specs.PseudoHeader.{ipv4_pseudo_header, ipv6_pseudo_header}
use Rattle.net_base.specs.Refusals.{first_of, refused_if, too_big}
use Rattle.net_base.specs.TcpErrors.{OffsetFits, with_slice_offset}
use Rattle.net_base.specs.declared.err.len_error.LenError.{LenError}
use Rattle.net_base.specs.declared.err.len_source.LenSource.TheVariants.{Slice}
use Rattle.net_base.specs.declared.err.tcp.header_error.HeaderError.TheVariants.{DataOffsetTooSmall}
use Rattle.net_base.specs.declared.err.tcp.header_slice_error.HeaderSliceError.TheVariants.{Len, Content}
use Rattle.net_base.specs.declared.err.layer.Layer.TheVariants.{UdpPayload}
use Rattle.net_base.specs.declared.err.value_type.ValueType.TheVariants.{UdpPayloadLengthIpv4}

half_kept : masked (0xf0 ∷ 0x0f ∷ []) (0xab ∷ 0xcd ∷ 0xef ∷ []) ≡ 0xa0 ∷ 0x0d ∷ 0xef ∷ []
half_kept = refl

too_few_to_mask : masked (0xf0 ∷ 0x0f ∷ []) (0xab ∷ []) ≡ 0xa0 ∷ []
too_few_to_mask = refl

second_word : be_number (0 ∷ 53 ∷ 4 ∷ 210 ∷ []) 2 2 ≡ 1234
second_word = refl

four_bytes : be_number (9 ∷ 1 ∷ 2 ∷ 3 ∷ 4 ∷ []) 1 4 ≡ 0x01020304
four_bytes = refl

highest_bit : flag (0 ∷ 0x80 ∷ []) 1 0x80 ≡ true
highest_bit = refl

other_bits : flag (0 ∷ 0x7f ∷ []) 1 0x80 ≡ false
other_bits = refl

-- the first rule that refuses decides, and a later rule does not matter
second_and_third_refuse : first_of {E = ℕ} (refused_if false 1 ∷ refused_if true 2 ∷ refused_if true 3 ∷ []) ≡ Some 2
second_and_third_refuse = refl

none_refuses : first_of {E = ℕ} (refused_if false 1 ∷ refused_if false 2 ∷ []) ≡ None
none_refuses = refl

name : word_of UdpPayload ≡ codes "UdpPayload"
name = refl

at_the_limit : too_big UdpPayloadLengthIpv4 65527 65527 ≡ None
at_the_limit = refl

above_the_limit : too_big UdpPayloadLengthIpv4 65527 65528
    ≡ Some (record { actual = 65528; max_allowed = 65527; value_type = UdpPayloadLengthIpv4 })
above_the_limit = refl

over_ipv4 : ipv4_pseudo_header (10 ∷ 0 ∷ 0 ∷ 1 ∷ []) (10 ∷ 0 ∷ 0 ∷ 2 ∷ []) 17 0x1234
    ≡ 10 ∷ 0 ∷ 0 ∷ 1 ∷ 10 ∷ 0 ∷ 0 ∷ 2 ∷ 0 ∷ 17 ∷ 0x12 ∷ 0x34 ∷ []
over_ipv4 = refl

over_ipv6 : ipv6_pseudo_header (replicate 16 1) (replicate 16 2) 17 0x12345678
    ≡ replicate 16 1 ++ (replicate 16 2 ++ (0x12 ∷ 0x34 ∷ 0x56 ∷ 0x78 ∷ 0 ∷ 0 ∷ 0 ∷ 17 ∷ []))
over_ipv6 = refl

shortest_ipv4_header : BeginsWithIpv4Header (0x45 ∷ replicate 19 0)
shortest_ipv4_header = record { shortest = lit≤ tt; is_version_4 = refl; five_words = lit≤ tt; whole = lit≤ tt }

six_words : ipv4_header_len (0x46 ∷ []) ≡ 24
six_words = refl

version_6 : version (0x6f ∷ []) ≡ 6
version_6 = refl

four_words : BeginsWithIpv4Header (0x44 ∷ replicate 19 0) → ⊥
four_words header = omega (arith, header.five_words)

not_version_4 : BeginsWithIpv4Header (0x65 ∷ replicate 19 0) → ⊥
not_version_4 header = omega (arith, header.is_version_4)

six_words_in_twenty_bytes : BeginsWithIpv4Header (0x46 ∷ replicate 19 0) → ⊥
six_words_in_twenty_bytes header = omega (arith, header.whole)

nineteen_bytes : BeginsWithIpv4Header (0x45 ∷ replicate 18 0) → ⊥
nineteen_bytes header = omega (arith, header.shortest)

thirty_nine_bytes : BeginsWithIpv6Header (0x60 ∷ replicate 38 0) → ⊥
thirty_nine_bytes header = omega (arith, header.whole)

not_version_6 : BeginsWithIpv6Header (0x45 ∷ replicate 39 0) → ⊥
not_version_6 header = omega (arith, header.is_version_6)

an_ipv6_header : BeginsWithIpv6Header (0x60 ∷ replicate 39 0)
an_ipv6_header = record { whole = lit≤ tt; is_version_6 = refl }

no_fragment : ipv4_is_fragment (replicate 6 9 ++ (0xc0 ∷ 0 ∷ [])) ≡ false
no_fragment = refl

first_fragment : ipv4_is_fragment (replicate 6 9 ++ (0x20 ∷ 0 ∷ [])) ≡ true
first_fragment = refl

last_fragment : ipv4_is_fragment (replicate 6 9 ++ (0 ∷ 1 ∷ [])) ≡ true
last_fragment = refl

largest_offset : ipv4_fragment_offset (replicate 6 9 ++ (0xff ∷ 0xff ∷ [])) ≡ 8191
largest_offset = refl

two_addresses : ipv4_header_of (replicate 12 9 ++ (1 ∷ 2 ∷ 3 ∷ 4 ∷ 5 ∷ 6 ∷ 7 ∷ 8 ∷ 9 ∷ []))
    ≡ record { source = 1 ∷ 2 ∷ 3 ∷ 4 ∷ []; destination = 5 ∷ 6 ∷ 7 ∷ 8 ∷ [] }
two_addresses = refl

-- ---- the errors of a TCP header

short : LenError
short = record { required_len = 1; len = 2; len_source = Slice; layer = UdpPayload; layer_start_offset = 3 }

len_moves : with_slice_offset (Len short) 200 ≡ Len (record short { layer_start_offset = 203 })
unfolding short
len_moves = refl

content_stays : with_slice_offset (Content (DataOffsetTooSmall 4)) 200 ≡ Content (DataOffsetTooSmall 4)
content_stays = refl

any_offset_fits_content : (offset : ℕ) → OffsetFits (Content (DataOffsetTooSmall 4)) offset
any_offset_fits_content offset = tt
