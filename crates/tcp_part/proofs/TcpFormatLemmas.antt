-- Laws of the TCP header: reading, writing and canonical bytes.
use Rattle.std.proofs.Common.{◌≡◌, ◌≢◌, ℕ, zero, suc, ◌+◌, ◌-◌, ◌*◌, ◌/◌, ◌%◌, ◌^◌, ◌<◌, ◌≤◌, false, List, ◌∷◌, ◌++◌, length, drop, take, get_or, slice_index, slice_range, replicate, bit_and, None, refl, sym, ap, ◌∙◌, length-drop, length-take, ◌⊎◌, inl, inr, lit≤, arith}
use Rattle.std.proofs.lemmas.Bool.Decides.{nat_tests}
use Rattle.std.proofs.lemmas.List.{length-replicate, drop-drop, drop-take, take_rest, take-take, take-append-drop, get_or-take}
use Rattle.std.proofs.lemmas.Nat.{and_block, and_mask}
use Rattle.std.proofs.lemmas.Nat.Bits.{and_pow}
use Rattle.std.specs.Prelude.{◌↔◌, not, ◌==◌}
use Rattle.std.specs.Int.{from_bool}
use Rattle.net_base.specs.Bytes.{IsBytes, be_number, flag}
use Rattle.net_base.proofs.BytesLemmas.{be_number-same, one_byte, to_be_bytes-be_number_2, to_be_bytes-be_number_4}
use Rattle.net_base.proofs.MaskedLemmas.{IsBytes-masked, ReadsKeptBits, drop-masked, flag-masked, length-masked, read_alike, rest_kept, slice_index-masked, slice_index-masked_kept}
use Rattle.tcp_part.specs.TcpFormat.{DecodesAs, canonical, data_offset, flags_byte, header_of, layout_of, offset_byte, options_of, refusal, wire}
use Rattle.tcp_part.specs.declared.tcp_header.TcpHeader.{TcpHeader}

-- ---- byte 12

-- byte 12 under its mask keeps its high four bits and its lowest bit
masked_offset_byte : (byte : ℕ) → byte < 256 → bit_and byte 0xf1 ≡ byte / 16 * 16 + byte % 2
masked_offset_byte byte small =
    let parts : byte ≡ byte / 16 * 16 + byte % 16 = omega arith in
    let high : bit_and (byte / 16) 15 ≡ byte / 16 % 16 = and_mask (byte / 16) 4 in
    let low : bit_and (byte % 16) 1 ≡ byte % 16 % 2 = and_mask (byte % 16) 1 in
    let blocks : bit_and (byte / 16 * 16 + byte % 16) 241 ≡ bit_and (byte / 16) 15 * 16 + bit_and (byte % 16) 1 =
    and_block 4 (byte / 16) 15 (byte % 16) 1 (omega arith) (omega arith) in
    ap (λ b. bit_and b 241) parts ∙ blocks ∙ omega arith

-- ---- flags

-- testing a bit times 0 or 1 gives 0 or 1
tested_bit : (kept bit times : ℕ) → 0 < bit → times < 2 → kept ≡ times * bit → from_bool (not (kept == 0)) * bit ≡ times * bit
tested_bit kept bit zero some below e = let none : kept ≡ 0 = omega arith in rw none refl
tested_bit kept zero (suc times) some below e = absurd (omega arith)
tested_bit zero (suc bit) (suc zero) some below e = absurd (omega arith)
tested_bit (suc kept) (suc bit) (suc zero) some below e =
    let some_kept : (suc kept == 0) ≡ false = grind (arith, nat_tests) in
    rw some_kept (omega arith)
tested_bit kept (suc bit) (suc (suc times)) some below e = absurd (omega arith)

-- a flag, times its bit, is that bit of the number
flag_bit : (number k : ℕ) → 0 < 2 ^ k → from_bool (not (bit_and number (2 ^ k) == 0)) * 2 ^ k ≡ number / 2 ^ k % 2 * 2 ^ k
flag_bit number k some = tested_bit (bit_and number (2 ^ k)) (2 ^ k) (number / 2 ^ k % 2) some (omega arith) (and_pow number k)

-- the flags of a byte, each times its bit, make up the byte
flags_of_byte : (byte : ℕ) → byte < 256 →
    from_bool (not (bit_and byte 1 == 0)) * 1 + from_bool (not (bit_and byte 2 == 0)) * 2
    + from_bool (not (bit_and byte 4 == 0)) * 4 + from_bool (not (bit_and byte 8 == 0)) * 8
    + from_bool (not (bit_and byte 16 == 0)) * 16 + from_bool (not (bit_and byte 32 == 0)) * 32
    + from_bool (not (bit_and byte 64 == 0)) * 64 + from_bool (not (bit_and byte 128 == 0)) * 128 ≡ byte
flags_of_byte byte small =
    omega (
      arith,
      flag_bit byte 0 (lit≤ tt),
      flag_bit byte 1 (lit≤ tt),
      flag_bit byte 2 (lit≤ tt),
      flag_bit byte 3 (lit≤ tt),
      flag_bit byte 4 (lit≤ tt),
      flag_bit byte 5 (lit≤ tt),
      flag_bit byte 6 (lit≤ tt),
      flag_bit byte 7 (lit≤ tt),
    )

-- ---- the bits that canonical bytes keep

-- the mask at every place except 12 keeps all bits
mask_at : (m n mask place : ℕ) → place ≢ m → get_or (replicate m 255 ++ (mask ∷ replicate n 255)) place 255 ≡ 255
mask_at zero n mask zero other = absurd (other refl)
mask_at zero zero mask (suc place) other = refl
mask_at zero (suc n) mask (suc zero) other = refl
mask_at zero (suc n) mask (suc (suc place)) other = mask_at zero n mask (suc place) (λ e. absurd (omega arith))
mask_at (suc m) n mask zero other = refl
mask_at (suc m) n mask (suc place) other = mask_at m n mask place (λ e. other (ap suc e))

-- every byte except byte 12 is kept
pub slice_index-canonical : (bytes : List ℕ) (place : ℕ) → IsBytes bytes → place ≢ 12
    → slice_index (canonical bytes) place ≡ slice_index bytes place
slice_index-canonical bytes place fits other =
    slice_index-masked_kept ((layout_of bytes).masks) bytes place fits (mask_at 12 (data_offset bytes * 4 - 13) 0xf1 place other)

-- byte 12 keeps the data offset and NS
pub offset_byte-canonical : (bytes : List ℕ) → IsBytes bytes
    → slice_index (canonical bytes) 12 ≡ slice_index bytes 12 / 16 * 16 + slice_index bytes 12 % 2
offset_byte-canonical bytes fits =
    slice_index-masked ((layout_of bytes).masks) bytes 12 fits ∙ masked_offset_byte (slice_index bytes 12) (fits 12)

-- the data offset is kept
pub data_offset-canonical : (bytes : List ℕ) → IsBytes bytes → data_offset (canonical bytes) ≡ data_offset bytes
data_offset-canonical bytes fits = omega (arith, offset_byte-canonical bytes fits)

-- all bytes after byte 12 are kept
pub drop-canonical : (bytes : List ℕ) (from : ℕ) → IsBytes bytes → 13 ≤ from → drop from (canonical bytes) ≡ drop from bytes
drop-canonical bytes from fits after =
    let e : from ≡ 13 + (from - 13) = omega arith in
    let same : drop 13 (canonical bytes) ≡ drop 13 bytes =
    drop-masked ((layout_of bytes).masks) bytes 13 (data_offset bytes * 4 - 13) fits refl in
    rw e (sym (drop-drop (from - 13) 13 (canonical bytes)) ∙ ap (λ b. drop (from - 13) b) same ∙ drop-drop (from - 13) 13 bytes)

-- numbers that do not include byte 12 are kept
number-canonical : (bytes : List ℕ) (from count : ℕ) → IsBytes bytes → (from + count ≤ 12) ⊎ (13 ≤ from)
    → be_number (canonical bytes) from count ≡ be_number bytes from count
number-canonical bytes from count fits beside =
    be_number-same (canonical bytes) bytes from count
    (λ place below. slice_index-canonical bytes (from + place) fits (λ e. omega (arith, beside)))

-- the flags of byte 13 are kept
flag-canonical : (bytes : List ℕ) (bit : ℕ) → IsBytes bytes → flag (canonical bytes) 13 bit ≡ flag bytes 13 bit
flag-canonical bytes bit fits = rw (slice_index-canonical bytes 13 fits (λ e. omega arith)) refl

-- reading depends only on the bits that have a meaning
pub header_of-canonical : (bytes : List ℕ) → IsBytes bytes → header_of (canonical bytes) ≡ header_of bytes
header_of-canonical bytes fits =
    let a = number-canonical bytes 0 2 fits (inl (omega arith)) in
    let b = number-canonical bytes 2 2 fits (inl (omega arith)) in
    let c = number-canonical bytes 4 4 fits (inl (omega arith)) in
    let d = number-canonical bytes 8 4 fits (inl (omega arith)) in
    let e = number-canonical bytes 14 2 fits (inr (omega arith)) in
    let f = number-canonical bytes 16 2 fits (inr (omega arith)) in
    let g = number-canonical bytes 18 2 fits (inr (omega arith)) in
    let ns = flag-masked ((layout_of bytes).masks) bytes 12 1 fits refl in
    let fin = flag-canonical bytes 1 fits in
    let syn = flag-canonical bytes 2 fits in
    let rst = flag-canonical bytes 4 fits in
    let psh = flag-canonical bytes 8 fits in
    let ack = flag-canonical bytes 16 fits in
    let urg = flag-canonical bytes 32 fits in
    let ece = flag-canonical bytes 64 fits in
    let cwr = flag-canonical bytes 128 fits in
    let offset = data_offset-canonical bytes fits in
    let after = drop-canonical bytes 20 fits (omega arith) in
    let options : options_of (canonical bytes) ≡ options_of bytes = rw (offset, after) refl in
    cc

-- accepted bytes contain their whole header, which has at least five words
pub length-accepted : (bytes : List ℕ) → refusal bytes ≡ None → (5 ≤ data_offset bytes) × (data_offset bytes * 4 ≤ length bytes)
length-accepted bytes accepted = grind (arith, nat_tests)

-- bytes with a whole header are accepted
pub accepted_whole : (bytes : List ℕ) → 20 ≤ length bytes → 5 ≤ data_offset bytes → data_offset bytes * 4 ≤ length bytes
    → refusal bytes ≡ None
accepted_whole bytes enough five whole = grind (arith, nat_tests)

-- ---- the kept bytes of a slice

take_again : (n : ℕ) (bytes : List ℕ) → take n (take n bytes) ≡ take n bytes
take_again n bytes = grind (arith, take-take)

-- if only a header is kept, its options are all bytes after its five words
pub options_of_whole : (bytes : List ℕ) → length bytes ≡ data_offset bytes * 4 → drop 20 bytes ≡ options_of bytes
options_of_whole bytes whole = sym (rw (sym whole) (take_rest bytes 20))

-- the front of some bytes with the whole header is read as the same header
pub header_of-take : (bytes : List ℕ) → 5 ≤ data_offset bytes → header_of (take (data_offset bytes * 4) bytes) ≡ header_of bytes
header_of-take bytes five =
    let n = data_offset bytes * 4 in
    let at : (place : ℕ) → place < 20 → slice_index (take (data_offset bytes * 4) bytes) place ≡ slice_index bytes place =
    λ place below. get_or-take (data_offset bytes * 4) bytes place 0 (omega arith) in
    let number : (from count : ℕ) → from + count ≤ 20
    → be_number (take (data_offset bytes * 4) bytes) from count ≡ be_number bytes from count =
    λ from count within. be_number-same (take (data_offset bytes * 4) bytes) bytes from count
    (λ place below. at (from + place) (omega arith)) in
    let a = number 0 2 (omega arith) in
    let b = number 2 2 (omega arith) in
    let c = number 4 4 (omega arith) in
    let d = number 8 4 (omega arith) in
    let e = number 14 2 (omega arith) in
    let f = number 16 2 (omega arith) in
    let g = number 18 2 (omega arith) in
    let byte_12 = at 12 (omega arith) in
    let byte_13 = at 13 (omega arith) in
    let whole : data_offset bytes * 4 ≡ 20 + (data_offset bytes * 4 - 20) = omega arith in
    let front : drop 20 (take (data_offset bytes * 4) bytes) ≡ options_of bytes =
    ap (λ len. drop 20 (take len bytes)) whole ∙ drop-take 20 (data_offset bytes * 4 - 20) bytes in
    let options : options_of (take (data_offset bytes * 4) bytes) ≡ options_of bytes =
    ap (λ byte. take (byte / 16 * 4 - 20) (drop 20 (take (data_offset bytes * 4) bytes))) byte_12
    ∙ ap (take (data_offset bytes * 4 - 20)) front
    ∙ take_again (data_offset bytes * 4 - 20) (drop 20 bytes) in
    cc

-- bytes are read as the header in their front, and the bytes after it, if this front is kept
pub decoded : (bytes kept : List ℕ) (header : TcpHeader) (rest : List ℕ) → refusal bytes ≡ None → kept ≡ take (data_offset bytes * 4) bytes
    → header ≡ header_of kept → rest ≡ drop (length kept) bytes → DecodesAs bytes header rest
decoded bytes kept header rest accepted front fields after =
    let long = length-accepted bytes accepted in
    let len : length kept ≡ data_offset bytes * 4 = rw front (grind (arith, length-take)) in
    record {
      accepted = accepted;
      fields = fields ∙ ap header_of front ∙ header_of-take bytes long.0;
      after_header = after ∙ ap (λ n. drop n bytes) len;
    }

-- ---- written back

-- the length of a range of bytes
length-slice_range : (bytes : List ℕ) (from to : ℕ) → to ≤ length bytes → length (slice_range bytes from to) ≡ to - from
length-slice_range bytes from to within = grind (arith, length-take, length-drop)

slice_range-drop : (bytes : List ℕ) (from to : ℕ) → from ≤ to → slice_range bytes from to ++ drop to bytes ≡ drop from bytes
slice_range-drop bytes from to ordered =
    let e : to ≡ from + (to - from) = omega arith in
    ap (λ b. slice_range bytes from to ++ b) (ap (λ n. drop n bytes) e ∙ sym (drop-drop (to - from) from bytes))
    ∙ take-append-drop (to - from) (drop from bytes)

-- if byte 12 has no unused bits, writing the header and the bytes after it gives the same bytes
pub wire-header_of : (bytes rest : List ℕ) → IsBytes bytes → 5 ≤ data_offset bytes → data_offset bytes * 4 ≤ length bytes
    → slice_index bytes 12 ≡ slice_index bytes 12 / 16 * 16 + slice_index bytes 12 % 2
    → rest ≡ drop (data_offset bytes * 4) bytes → wire (header_of bytes) ++ rest ≡ bytes
wire-header_of bytes rest fits five whole clean after =
    let len_options : length (options_of bytes) ≡ data_offset bytes * 4 - 20 = length-slice_range bytes 20 (data_offset bytes * 4) whole in
    let byte_12 : offset_byte (header_of bytes) ≡ slice_index bytes 12 =
    omega (arith, len_options, flag_bit (slice_index bytes 12) 0 (lit≤ tt)) in
    let byte_13 : flags_byte (header_of bytes) ≡ slice_index bytes 13 = omega (arith, flags_of_byte (slice_index bytes 13) (fits 13)) in
    let options_back : options_of bytes ++ rest ≡ drop 20 bytes =
    rw after (slice_range-drop bytes 20 (data_offset bytes * 4) (omega arith)) in
    to_be_bytes-be_number_2 bytes 0 2 _ _ fits refl (omega arith) refl
    (to_be_bytes-be_number_2 bytes 2 4 _ _ fits refl (omega arith) refl
    (to_be_bytes-be_number_4 bytes 4 8 _ _ fits refl (omega arith) refl
    (to_be_bytes-be_number_4 bytes 8 12 _ _ fits refl (omega arith) refl
    (one_byte bytes 12 13 _ _ refl (omega arith) byte_12
    (one_byte bytes 13 14 _ _ refl (omega arith) byte_13
    (to_be_bytes-be_number_2 bytes 14 16 _ _ fits refl (omega arith) refl
    (to_be_bytes-be_number_2 bytes 16 18 _ _ fits refl (omega arith) refl
    (to_be_bytes-be_number_2 bytes 18 20 _ _ fits refl (omega arith) refl options_back))))))))

-- reading depends only on the kept bits
reads_kept_bits : (bytes : List ℕ) → IsBytes bytes → 5 ≤ data_offset bytes → ReadsKeptBits header_of layout_of bytes
reads_kept_bits bytes fits five = record {
  same_header = header_of-canonical bytes fits;
  same_len = ap (λ offset. offset * 4) (data_offset-canonical bytes fits);
  masks_within = omega (arith, length-replicate {A = ℕ} (data_offset bytes * 4 - 13) 255);
}

-- writing the header and the rest gives the canonical bytes
pub written_back : (bytes : List ℕ) (header : TcpHeader) (rest : List ℕ) → IsBytes bytes → DecodesAs bytes header rest
    → wire header ++ rest ≡ canonical bytes
written_back bytes header rest fits read =
    let long = length-accepted bytes read.accepted in
    let offset : data_offset (canonical bytes) ≡ data_offset bytes = data_offset-canonical bytes fits in
    let len : length (canonical bytes) ≡ length bytes = length-masked ((layout_of bytes).masks) bytes in
    let five : 5 ≤ data_offset (canonical bytes) = omega (arith, long.0, offset) in
    let whole : data_offset (canonical bytes) * 4 ≤ length (canonical bytes) = omega (arith, long.1, offset, len) in
    let clean : slice_index (canonical bytes) 12 ≡ slice_index (canonical bytes) 12 / 16 * 16 + slice_index (canonical bytes) 12 % 2 =
    omega (arith, offset_byte-canonical bytes fits) in
    let after : rest ≡ drop (data_offset (canonical bytes) * 4) (canonical bytes) =
    read.after_header ∙ sym (rest_kept layout_of bytes (reads_kept_bits bytes fits long.0)) in
    ap (λ h. wire h ++ rest) (read.fields ∙ sym (header_of-canonical bytes fits))
    ∙ wire-header_of (canonical bytes) rest (IsBytes-masked ((layout_of bytes).masks) bytes fits) five whole clean after

-- two accepted inputs decode alike exactly if their canonical bytes are the same
pub decode_alike : (bytes other : List ℕ) (header : TcpHeader) (rest : List ℕ) → IsBytes bytes → IsBytes other → refusal other ≡ None
    → DecodesAs bytes header rest → (DecodesAs other header rest ↔ (canonical other ≡ canonical bytes))
decode_alike bytes other header rest fits other_fits accepted read = (
  λ alike. sym (written_back other header rest other_fits alike) ∙ written_back bytes header rest fits read,
  λ same.
      let reads = reads_kept_bits bytes fits ((length-accepted bytes read.accepted).0) in
      let other_reads = reads_kept_bits other other_fits ((length-accepted other accepted).0) in
      let both = read_alike layout_of bytes other reads other_reads same in
      record { accepted = accepted; fields = read.fields ∙ both.0; after_header = read.after_header ∙ both.1 },
)
