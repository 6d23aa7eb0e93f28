-- Lemmas on blocks as lists of bytes: the first bytes of a block contain its byte order and its length, so the bytes after it change
-- nothing.
use Rattle.std.proofs.lemmas.Bool.Decides.{nat_tests}
use Rattle.std.proofs.Common.{◌≡◌, ℕ, ◌%◌, ◌≤◌, ◌==◌, false, if◌then◌else◌, List, ◌++◌, Option, Some, None, arith, length, take, drop, refl, sym, ap, ◌∙◌, length-append, length-take-le, take-append-drop}
use Rattle.std.proofs.lemmas.List.{append_cancel_left, take_at}
use Rattle.capture_file.proofs.RecordLemmas.{number_at_front}
use Rattle.capture_numbers.specs.Numbers.{number_at}
use Rattle.capture_file.specs.Pcapng.{IsBlock, block_header, block_len, block_refusal, byte_order_magic, is_section_header, is_short_section, lacks_magic, last_len, order_by_magic, order_of}
use Rattle.capture_numbers.specs.declared.byte_order.ByteOrder.{ByteOrder}
use Rattle.capture_numbers.specs.declared.byte_order.ByteOrder.TheVariants.{BigEndian, LittleEndian}

-- ---- the content of the first bytes

pub is_section_header_front : (first more : List ℕ) → 4 ≤ length first → is_section_header (first ++ more) ≡ is_section_header first
is_section_header_front first more within =
    ap (λ number. number == 0x0A0D0D0A) (number_at_front BigEndian first more 0 (omega (arith, within)))

-- the byte order according to the two numbers in bytes 8 to 11
abbrev order_by : ℕ → ℕ → Option ByteOrder
order_by big little = if big == byte_order_magic then Some BigEndian else if little == byte_order_magic then Some LittleEndian else None

order_by_magic_front : (first more : List ℕ) → 12 ≤ length first → order_by_magic (first ++ more) ≡ order_by_magic first
order_by_magic_front first more within =
    ap (λ big. order_by big (number_at LittleEndian (first ++ more) 8)) (number_at_front BigEndian first more 8 (omega (arith, within)))
    ∙ ap (λ little. order_by (number_at BigEndian first 8) little) (number_at_front LittleEndian first more 8 (omega (arith, within)))

pub lacks_magic_front : (first more : List ℕ) → 12 ≤ length first → lacks_magic (first ++ more) ≡ lacks_magic first
lacks_magic_front first more within = grind (arith, nat_tests, is_section_header_front, order_by_magic_front)

pub order_of_front : (section : ByteOrder) (first more : List ℕ) → 12 ≤ length first
    → order_of section (first ++ more) ≡ order_of section first
order_of_front section first more within = grind (arith, nat_tests, is_section_header_front, order_by_magic_front)

pub block_len_front : (section : ByteOrder) (first more : List ℕ) → 12 ≤ length first
    → block_len section (first ++ more) ≡ block_len section first
block_len_front section first more within = grind (arith, nat_tests, order_of_front, number_at_front)

pub is_short_section_front : (section : ByteOrder) (first more : List ℕ) → 12 ≤ length first
    → is_short_section section (first ++ more) ≡ is_short_section section first
is_short_section_front section first more within = grind (arith, nat_tests, is_section_header_front, block_len_front)

-- the header of a block depends only on its first bytes
pub block_header_front : (section : ByteOrder) (first more : List ℕ) → 12 ≤ length first
    → block_header section (first ++ more) ≡ block_header section first
block_header_front section first more within = grind (arith, nat_tests, order_of_front, block_len_front, number_at_front)

pub last_len_front : (section : ByteOrder) (first more : List ℕ) (len : ℕ) → 12 ≤ length first → len ≤ length first
    → last_len section (first ++ more) len ≡ last_len section first len
last_len_front section first more len shortest within = grind (arith, nat_tests, order_of_front, number_at_front)

-- ---- refused and accepted bytes

-- bytes that begin with a block are accepted
pub accepted : (section : ByteOrder) (block more : List ℕ) → IsBlock section block → block_refusal section (block ++ more) ≡ None
accepted section block more is =
    grind (arith, nat_tests, block_len_front, last_len_front, length-append, lacks_magic_front, is_short_section_front)

-- accepted bytes begin with their block, which ends within them
pub record Begins (section : ByteOrder) (bytes : List ℕ) : Type 0 where
  pub within : block_len section bytes ≤ length bytes
  pub is_block : IsBlock section (take (block_len section bytes) bytes)

-- the bytes up to the stated length are a block if all bytes are accepted
first_block : (section : ByteOrder) (bytes first more : List ℕ) → first ++ more ≡ bytes → length first ≡ block_len section bytes
    → 12 ≤ block_len section bytes → block_len section bytes % 4 ≡ 0 → lacks_magic bytes ≡ false → is_short_section section bytes ≡ false
    → last_len section bytes (block_len section bytes) ≡ block_len section bytes → IsBlock section first
first_block section bytes first more whole has_len least words magic fields ends =
    grind (arith, nat_tests, lacks_magic_front, block_len_front, last_len_front, is_short_section_front)

pub begins_with : (section : ByteOrder) (bytes : List ℕ) → block_refusal section bytes ≡ None → Begins section bytes
begins_with section bytes none =
    let len : ℕ = block_len section bytes in
    let whole : take len bytes ++ drop len bytes ≡ bytes = take-append-drop len bytes in
    let within : len ≤ length bytes = grind (arith, nat_tests) in
    let has_len : length (take len bytes) ≡ len = length-take-le len bytes within in
    record {
      within = within;
      is_block = grind (arith, nat_tests, lacks_magic_front, block_len_front, last_len_front, is_short_section_front);
    }

-- two blocks at the front of the same bytes are the same block, and the same bytes follow it
pub same_block : (section : ByteOrder) (a b x y : List ℕ) → IsBlock section a → IsBlock section b → a ++ x ≡ b ++ y → (a ≡ b) × (x ≡ y)
same_block section a b x y first second same =
    let lengths : length a ≡ length b =
    grind (arith, block_len_front section a x first.shortest, block_len_front section b y second.shortest, first.begins, second.begins) in
    let equal : a ≡ b = sym (take_at a x (length b) lengths) ∙ ap (take (length b)) same ∙ take_at b y (length b) refl in
    (equal, append_cancel_left b x y (ap (λ l. l ++ x) (sym equal) ∙ same))
