-- Laws of bytes under masks, and of readers that depend only on the kept bits.
use Rattle.std.proofs.Common.{◌≡◌, ℕ, zero, suc, ◌<◌, ◌≤◌, List, [], ◌∷◌, ◌++◌, length, take, drop, get_or, slice_index, replicate, bit_and, refl, sym, ap, ◌∙◌, arith}
use Rattle.std.proofs.lemmas.Grind.{common_steps}
use Rattle.std.proofs.lemmas.Nat.{and_assoc, and_le_l}
use Rattle.std.specs.Int.Bits.{and_self}
use Rattle.net_base.specs.Bytes.{HeaderLayout, IsBytes, flag, masked}

-- ---- masks of whole bytes

-- a mask of eight bits keeps a byte
pub bit_and-all : (byte : ℕ) → byte < 256 → bit_and byte 255 ≡ byte
bit_and-all byte small = grind (arith, common_steps)

-- masks that keep every bit change no byte
pub masked-all : (count : ℕ) (bytes : List ℕ) → IsBytes bytes → masked (replicate count 255) bytes ≡ bytes
masked-all zero bytes fits = refl
masked-all (suc count) [] fits = refl
masked-all (suc count) (byte ∷ bytes) fits =
    let first = bit_and-all byte (fits 0) in
    let others = masked-all count bytes (λ place. fits (suc place)) in
    cc

-- the first four bytes of an eight-byte header are kept, and the other four are masked
pub masked_eight : (fifth sixth seventh eighth : ℕ) (bytes : List ℕ) → IsBytes bytes → 8 ≤ length bytes
    → masked (replicate 4 255 ++ (fifth ∷ (sixth ∷ (seventh ∷ (eighth ∷ []))))) bytes
    ≡ take 4 bytes ++ (bit_and (slice_index bytes 4) fifth ∷ (bit_and (slice_index bytes 5) sixth
    ∷ (bit_and (slice_index bytes 6) seventh ∷ (bit_and (slice_index bytes 7) eighth ∷ drop 8 bytes))))
masked_eight fifth sixth seventh eighth (a ∷ (b ∷ (c ∷ (d ∷ (e ∷ (f ∷ (g ∷ (h ∷ later)))))))) fits enough =
    let first = bit_and-all a (fits 0) in
    let second = bit_and-all b (fits 1) in
    let third = bit_and-all c (fits 2) in
    let fourth = bit_and-all d (fits 3) in
    cc
masked_eight fifth sixth seventh eighth (a ∷ (b ∷ (c ∷ (d ∷ (e ∷ (f ∷ (g ∷ []))))))) fits enough = absurd (omega arith)
masked_eight fifth sixth seventh eighth (a ∷ (b ∷ (c ∷ (d ∷ (e ∷ (f ∷ [])))))) fits enough = absurd (omega arith)
masked_eight fifth sixth seventh eighth (a ∷ (b ∷ (c ∷ (d ∷ (e ∷ []))))) fits enough = absurd (omega arith)
masked_eight fifth sixth seventh eighth (a ∷ (b ∷ (c ∷ (d ∷ [])))) fits enough = absurd (omega arith)
masked_eight fifth sixth seventh eighth (a ∷ (b ∷ (c ∷ []))) fits enough = absurd (omega arith)
masked_eight fifth sixth seventh eighth (a ∷ (b ∷ [])) fits enough = absurd (omega arith)
masked_eight fifth sixth seventh eighth (a ∷ []) fits enough = absurd (omega arith)
masked_eight fifth sixth seventh eighth [] fits enough = absurd (omega arith)

-- ---- masked bytes

-- a byte of masked bytes is the byte under the mask of its place; after the last mask every bit is kept
pub slice_index-masked : (masks bytes : List ℕ) (place : ℕ) → IsBytes bytes
    → slice_index (masked masks bytes) place ≡ bit_and (slice_index bytes place) (get_or masks place 255)
slice_index-masked [] bytes place fits = sym (bit_and-all (slice_index bytes place) (fits place))
slice_index-masked (mask ∷ masks) [] place fits = refl
slice_index-masked (mask ∷ masks) (byte ∷ bytes) zero fits = refl
slice_index-masked (mask ∷ masks) (byte ∷ bytes) (suc place) fits = slice_index-masked masks bytes place (λ p. fits (suc p))

-- a byte is kept if its mask keeps all bits
pub slice_index-masked_kept : (masks bytes : List ℕ) (place : ℕ) → IsBytes bytes → get_or masks place 255 ≡ 255
    → slice_index (masked masks bytes) place ≡ slice_index bytes place
slice_index-masked_kept masks bytes place fits all =
    slice_index-masked masks bytes place fits
    ∙ ap (λ mask. bit_and (slice_index bytes place) mask) all
    ∙ bit_and-all (slice_index bytes place) (fits place)

-- a byte whose mask keeps all bits is the same in all bytes that are equal under the masks
pub masked_alike_at : (masks bytes other : List ℕ) (place : ℕ) → IsBytes bytes → IsBytes other → get_or masks place 255 ≡ 255
    → masked masks bytes ≡ masked masks other → slice_index bytes place ≡ slice_index other place
masked_alike_at masks bytes other place fits other_fits kept same =
    sym (slice_index-masked_kept masks bytes place fits kept)
    ∙ ap (λ b. slice_index b place) same
    ∙ slice_index-masked_kept masks other place other_fits kept

-- masking changes no length
pub length-masked : (masks bytes : List ℕ) → length (masked masks bytes) ≡ length bytes
length-masked [] bytes = refl
length-masked (mask ∷ masks) [] = refl
length-masked (mask ∷ masks) (byte ∷ bytes) = ap suc (length-masked masks bytes)

-- masking twice gives the same as masking once
pub masked-masked : (masks bytes : List ℕ) → masked masks (masked masks bytes) ≡ masked masks bytes
masked-masked [] bytes = refl
masked-masked (mask ∷ masks) [] = refl
masked-masked (mask ∷ masks) (byte ∷ bytes) =
    let first : bit_and (bit_and byte mask) mask ≡ bit_and byte mask = and_assoc mask byte mask ∙ ap (bit_and byte) (and_self mask) in
    let others = masked-masked masks bytes in
    cc

-- bytes after the last mask that clears a bit are kept
pub drop-masked : (masks bytes : List ℕ) (from count : ℕ) → IsBytes bytes → drop from masks ≡ replicate count 255
    → drop from (masked masks bytes) ≡ drop from bytes
drop-masked masks bytes zero count fits all = rw all (masked-all count bytes fits)
drop-masked [] bytes (suc from) count fits all = refl
drop-masked (mask ∷ masks) [] (suc from) count fits all = refl
drop-masked (mask ∷ masks) (byte ∷ bytes) (suc from) count fits all = drop-masked masks bytes from count (λ p. fits (suc p)) all

-- masks don't change the bytes after the last mask
pub drop-masked_after : (masks bytes : List ℕ) (from : ℕ) → length masks ≤ from → drop from (masked masks bytes) ≡ drop from bytes
drop-masked_after [] bytes from after = refl
drop-masked_after (mask ∷ masks) bytes zero after = absurd (omega arith)
drop-masked_after (mask ∷ masks) [] (suc from) after = refl
drop-masked_after (mask ∷ masks) (byte ∷ bytes) (suc from) after = drop-masked_after masks bytes from (omega arith)

-- masked bytes are bytes
pub IsBytes-masked : (masks bytes : List ℕ) → IsBytes bytes → IsBytes (masked masks bytes)
IsBytes-masked masks bytes fits place =
    omega (arith, slice_index-masked masks bytes place fits, and_le_l (slice_index bytes place) (get_or masks place 255), fits place)

-- a flag reads the same if the mask keeps its bit
pub flag-masked : (masks bytes : List ℕ) (place bit : ℕ) → IsBytes bytes → bit_and (get_or masks place 255) bit ≡ bit
    → flag (masked masks bytes) place bit ≡ flag bytes place bit
flag-masked masks bytes place bit fits kept =
    let byte : bit_and (slice_index (masked masks bytes) place) bit ≡ bit_and (slice_index bytes place) bit =
    ap (λ b. bit_and b bit) (slice_index-masked masks bytes place fits)
    ∙ and_assoc bit (slice_index bytes place) (get_or masks place 255)
    ∙ ap (λ b. bit_and (slice_index bytes place) b) kept in
    rw byte refl

-- ---- readers that depend only on the kept bits

-- clearing the bits that a layout does not keep changes neither the header that is read nor its length
pub record ReadsKeptBits {Header : Type 0} (header_of : List ℕ → Header) (layout_of : List ℕ → HeaderLayout) (bytes : List ℕ) : Type 0 where
  pub same_header : header_of (masked ((layout_of bytes).masks) bytes) ≡ header_of bytes
  pub same_len : (layout_of (masked ((layout_of bytes).masks) bytes)).header_len ≡ (layout_of bytes).header_len
  pub masks_within : length ((layout_of bytes).masks) ≤ (layout_of bytes).header_len

-- the bytes after the header are the same in the canonical bytes
pub rest_kept : {Header : Type 0} {header_of : List ℕ → Header} (layout_of : List ℕ → HeaderLayout) (bytes : List ℕ)
    → ReadsKeptBits header_of layout_of bytes
    → drop ((layout_of (masked ((layout_of bytes).masks) bytes)).header_len) (masked ((layout_of bytes).masks) bytes)
    ≡ drop ((layout_of bytes).header_len) bytes
rest_kept layout_of bytes reads =
    ap (λ len. drop len (masked ((layout_of bytes).masks) bytes)) reads.same_len
    ∙ drop-masked_after ((layout_of bytes).masks) bytes ((layout_of bytes).header_len) reads.masks_within

-- bytes with the same canonical bytes are read as the same header, with the same bytes after it
pub read_alike : {Header : Type 0} {header_of : List ℕ → Header} (layout_of : List ℕ → HeaderLayout) (bytes other : List ℕ)
    → ReadsKeptBits header_of layout_of bytes → ReadsKeptBits header_of layout_of other
    → masked ((layout_of other).masks) other ≡ masked ((layout_of bytes).masks) bytes
    → (header_of bytes ≡ header_of other) × (drop ((layout_of bytes).header_len) bytes ≡ drop ((layout_of other).header_len) other)
read_alike {header_of = header_of} layout_of bytes other reads other_reads same = (
  sym reads.same_header ∙ ap header_of (sym same) ∙ other_reads.same_header,
  sym (rest_kept layout_of bytes reads)
      ∙ ap (λ canonical. drop ((layout_of canonical).header_len) canonical) (sym same)
      ∙ rest_kept layout_of other other_reads,
)
