-- Worked examples of the definitions of the TCP header, so that a wrong definition fails before any code does.
use Rattle.std.proofs.Common.{◌≡◌, ℕ, List, [], ◌∷◌, ◌++◌, length, replicate, take, map, true, Some, None, refl, arith}
use Rattle.net_base.specs.declared.err.layer.Layer.TheVariants as layers
use Rattle.net_base.specs.declared.err.len_source.LenSource.TheVariants.{Slice}
use Rattle.net_base.specs.declared.err.tcp.header_error.HeaderError.TheVariants.{DataOffsetTooSmall}
use Rattle.net_base.specs.declared.err.tcp.header_slice_error.HeaderSliceError.TheVariants.{Len, Content}
use Rattle.word_sum.specs.Checksum.{checksum_of, folded}
use Rattle.tcp_part.specs.TcpFormat.{DecodesAs, UnusedBitsAreZero, canonical, checksummed_ipv4, checksummed_ipv6, header_of, layout_of, max_payload_len_ipv4, new_header, refusal, wire}
use Rattle.tcp_part.specs.declared.tcp_header.TcpHeader.{TcpHeader}

-- zeros except bytes 12 and 13
zeros_with : ℕ → ℕ → List ℕ
zeros_with offset_byte flags_byte = replicate 12 0 ++ (offset_byte ∷ flags_byte ∷ replicate 6 0)

-- the header without options in which every field is zero
plain : TcpHeader
plain = new_header 0 0 0 0

-- ---- accepted bytes

a_mask_for_each_byte : length ((layout_of (zeros_with 0x60 0)).masks) ≡ (layout_of (zeros_with 0x60 0)).header_len
unfolding zeros_with
a_mask_for_each_byte = refl

five_words : refusal (zeros_with 0x50 0) ≡ None
unfolding zeros_with
five_words = refl

four_words : refusal (zeros_with 0x40 0) ≡ Some (Content (DataOffsetTooSmall 4))
unfolding zeros_with
four_words = refl

fifteen_words_in_twenty_bytes : refusal (zeros_with 0xf0 0)
    ≡ Some (Len (record { required_len = 60; len = 20; len_source = Slice; layer = layers.TcpHeader; layer_start_offset = 0 }))
unfolding zeros_with
fifteen_words_in_twenty_bytes = refl

-- the length is checked first, for any byte 12
nineteen_bytes : refusal (take 19 (zeros_with 0x40 0))
    ≡ Some (Len (record { required_len = 20; len = 19; len_source = Slice; layer = layers.TcpHeader; layer_start_offset = 0 }))
unfolding zeros_with
nineteen_bytes = refl

-- ---- a segment, read and written

segment : List ℕ
segment = 0 ∷ 1 ∷ 0 ∷ 2 ∷ 0 ∷ 0 ∷ 0 ∷ 3 ∷ 0 ∷ 0 ∷ 0 ∷ 0 ∷ 0x60 ∷ 2 ∷ 0 ∷ 4 ∷ 0 ∷ 0 ∷ 0 ∷ 0 ∷ 2 ∷ 4 ∷ 0x05 ∷ 0xb4 ∷ []

header : TcpHeader
header = record (new_header 1 2 3 4) { syn = true; options = 2 ∷ 4 ∷ 0x05 ∷ 0xb4 ∷ [] }

segment_read : DecodesAs (segment ++ (7 ∷ [])) header (7 ∷ [])
unfolding segment header
segment_read = record { accepted = refl; fields = refl; after_header = refl }

segment_written : wire header ≡ segment
unfolding segment header
segment_written = refl

segment_canonical : canonical (segment ++ (0xff ∷ [])) ≡ segment ++ (0xff ∷ [])
unfolding segment
segment_canonical = refl

-- every field is written at its place
every_number : wire (record (new_header 0x0102 0x0304 0x05060708 0x0d0e) {
  acknowledgment_number = 0x090a0b0c;
  checksum = 0x0f10;
  urgent_pointer = 0x1112;
})
    ≡ 1 ∷ 2 ∷ 3 ∷ 4 ∷ 5 ∷ 6 ∷ 7 ∷ 8 ∷ 9 ∷ 10 ∷ 11 ∷ 12 ∷ 0x50 ∷ 0 ∷ 13 ∷ 14 ∷ 15 ∷ 16 ∷ 17 ∷ 18 ∷ []
every_number = refl

-- ---- flags

flags_alone : List TcpHeader
flags_alone =
    record plain { ns = true } ∷ record plain { fin = true } ∷ record plain { syn = true } ∷ record plain { rst = true }
    ∷ record plain { psh = true } ∷ record plain { ack = true } ∷ record plain { urg = true } ∷ record plain { ece = true }
    ∷ record plain { cwr = true } ∷ []

bytes_of_flags_alone : List (List ℕ)
bytes_of_flags_alone =
    zeros_with 0x51 0 ∷ zeros_with 0x50 0x01 ∷ zeros_with 0x50 0x02 ∷ zeros_with 0x50 0x04 ∷ zeros_with 0x50 0x08
    ∷ zeros_with 0x50 0x10 ∷ zeros_with 0x50 0x20 ∷ zeros_with 0x50 0x40 ∷ zeros_with 0x50 0x80 ∷ []

flags_written : map wire flags_alone ≡ bytes_of_flags_alone
unfolding flags_alone bytes_of_flags_alone plain zeros_with
flags_written = refl

flags_read : map header_of bytes_of_flags_alone ≡ flags_alone
unfolding flags_alone bytes_of_flags_alone plain zeros_with
flags_read = refl

-- ---- unused bits

unused_bits_cleared : canonical (zeros_with 0x5f 0xff) ≡ zeros_with 0x51 0xff
unfolding zeros_with
unused_bits_cleared = refl

unused_bits_set : UnusedBitsAreZero (zeros_with 0x52 0) → ⊥
unfolding zeros_with
unused_bits_set zero = omega (arith, zero)

unused_bits_zero : UnusedBitsAreZero (zeros_with 0xf1 0xff)
unfolding zeros_with
unused_bits_zero = refl

-- ---- the checksum

segment_summed : checksummed_ipv4 (10 ∷ 0 ∷ 0 ∷ 1 ∷ []) (10 ∷ 0 ∷ 0 ∷ 2 ∷ []) segment [] ≡ 0x7be5
unfolding segment
segment_summed = refl

segment_checksum : checksum_of 0x7be5 ≡ 0x841a
unfolding folded
segment_checksum = refl

segment_summed_over_ipv6 : checksummed_ipv6 (replicate 16 0) (replicate 16 0) segment [] ≡ 0x67e2
unfolding segment
segment_summed_over_ipv6 = refl

-- the bytes at the place of the checksum are not summed
stored_checksum : checksummed_ipv4 (replicate 4 0) (replicate 4 0) (wire (record plain { checksum = 0xffff })) (1 ∷ []) ≡ 0x511b
unfolding plain
stored_checksum = refl

-- unused bits of byte 12 are summed at their place, and are not written
with_unused_bits : checksummed_ipv4 (replicate 4 0) (replicate 4 0) (zeros_with 0x5f 0) [] ≡ 0x5f1a
unfolding zeros_with
with_unused_bits = refl

without_unused_bits : checksummed_ipv4 (replicate 4 0) (replicate 4 0) (wire (header_of (zeros_with 0x5f 0))) [] ≡ 0x511a
unfolding zeros_with
without_unused_bits = refl

longest_payload : max_payload_len_ipv4 (wire plain) ≡ 65515
unfolding plain
longest_payload = refl

longest_payload_after_options : max_payload_len_ipv4 (wire (record plain { options = replicate 40 0 })) ≡ 65475
unfolding plain
longest_payload_after_options = refl
