-- Laws of formats by type and code: each format is read and written by its masks, and so is a format from a list of formats.
use Rattle.std.proofs.Common.{◌≡◌, ℕ, zero, suc, ◌+◌, ◌/◌, ◌%◌, ◌≤◌, Bool, true, false, if◌then◌else◌, List, [], ◌∷◌, ◌++◌, length, take, drop, get_or, bit_and, Option, Some, None, refl, sym, ap, ◌∙◌, subst, take-append-drop, arith}
use Rattle.std.proofs.lemmas.Bool.Decides.{nat_tests}
use Rattle.std.specs.Prelude.{◌==◌, slice_get, slice_index}
use Rattle.std.specs.Int.{to_be_bytes, w16}
use Rattle.std.specs.Int.Bits.{and_zero_r}
use Rattle.std.specs.Option.{option_map, unwrap_or}
use Rattle.net_base.specs.Bytes.{IsBytes, be_number, masked}
use Rattle.net_base.proofs.MaskedLemmas.{drop-masked_after, masked-all, masked_alike_at, masked_eight, slice_index-masked_kept}
use Rattle.icmp_part.specs.MessageFormat.{MessageFormat, Written, all_used, cleared, codes_of, format_in, header_bytes, listed, unused, used}

-- ---- reading by a list

read_or : {Message : Type 0} (unknown : MessageFormat Message) (format : Option (MessageFormat Message)) (bytes : List ℕ)
    → (unwrap_or format unknown).message_of bytes ≡ unwrap_or (option_map (λ f. f.message_of bytes) format) (unknown.message_of bytes)
read_or unknown None bytes = refl
read_or unknown (Some format) bytes = refl

-- the message that is listed for a type and code, or the message of `unknown`
pub format_in-reads : {Message : Type 0} (formats : List (ℕ × List (MessageFormat Message))) (unknown : MessageFormat Message)
    (type code : ℕ) (bytes : List ℕ)
    → (format_in formats unknown type code).message_of bytes
    ≡ unwrap_or (listed (codes_of formats type) code bytes) (unknown.message_of bytes)
format_in-reads formats unknown type code bytes = read_or unknown (slice_get (codes_of formats type) code) bytes

-- ---- laws of a format

pub record IsLawful (Message : Type 0) (write : Message → Written) (IsLen : ℕ → ℕ → ℕ → Type 0) (type code : ℕ)
    (format : MessageFormat Message) : Type 0 where
  -- there is a mask for each byte of the header, and the masks of type, code and checksum keep every bit
  pub masks_len : length format.layout.masks ≡ format.layout.header_len
  pub keeps_type : get_or format.layout.masks 0 255 ≡ 255
  pub keeps_code : get_or format.layout.masks 1 255 ≡ 255
  pub keeps_checksum : get_or format.layout.masks 2 255 ≡ 255
  pub keeps_checksum_too : get_or format.layout.masks 3 255 ≡ 255
  -- the protocol allows the length for this type and code
  pub header_len : IsLen type code format.layout.header_len
  -- writing the message that was read gives the bytes under their masks
  pub writes : (bytes : List ℕ) → IsBytes bytes → format.layout.header_len ≤ length bytes → slice_index bytes 0 ≡ type
      → slice_index bytes 1 ≡ code
      → header_bytes (write (format.message_of bytes)) (be_number bytes 2 2) ++ drop format.layout.header_len bytes
      ≡ masked format.layout.masks bytes
  -- the message is read only from the bits that the masks keep
  pub reads_kept : (bytes other : List ℕ) → IsBytes bytes → IsBytes other
      → masked format.layout.masks bytes ≡ masked format.layout.masks other
      → format.message_of bytes ≡ format.message_of other

-- type, code and checksum are written as the first four bytes
pub begins : (bytes : List ℕ) (type code : ℕ) (later : List ℕ) → IsBytes bytes → 4 ≤ length bytes → slice_index bytes 0 ≡ type
    → slice_index bytes 1 ≡ code
    → type ∷ (code ∷ (to_be_bytes w16 (be_number bytes 2 2) ++ later)) ≡ take 4 bytes ++ later
begins [] type code later fits enough is_type is_code = absurd (omega arith)
begins (a ∷ []) type code later fits enough is_type is_code = absurd (omega arith)
begins (a ∷ (b ∷ [])) type code later fits enough is_type is_code = absurd (omega arith)
begins (a ∷ (b ∷ (c ∷ []))) type code later fits enough is_type is_code = absurd (omega arith)
begins (a ∷ (b ∷ (c ∷ (d ∷ bytes)))) type code later fits enough is_type is_code =
    let high : be_number (a ∷ (b ∷ (c ∷ (d ∷ bytes)))) 2 2 / 256 % 256 ≡ c = omega (arith, fits 2, fits 3) in
    let low : be_number (a ∷ (b ∷ (c ∷ (d ∷ bytes)))) 2 2 % 256 ≡ d = omega (arith, fits 2, fits 3) in
    cc

-- the format of a header in which every bit is used is lawful
pub all_used_lawful : {Message : Type 0} (write : Message → Written) (IsLen : ℕ → ℕ → ℕ → Type 0) (type code len : ℕ)
    (message_of : List ℕ → Message)
    → IsLen type code len
    → length (used len) ≡ len
    → get_or (used len) 0 255 ≡ 255 → get_or (used len) 1 255 ≡ 255 → get_or (used len) 2 255 ≡ 255 → get_or (used len) 3 255 ≡ 255
    → ((bytes : List ℕ) → IsBytes bytes → len ≤ length bytes → slice_index bytes 0 ≡ type → slice_index bytes 1 ≡ code
    → header_bytes (write (message_of bytes)) (be_number bytes 2 2) ++ drop len bytes ≡ take 4 bytes ++ drop 4 bytes)
    → IsLawful Message write IsLen type code (all_used len message_of)
all_used_lawful write IsLen type code len message_of is_len masks_len first second third fourth writes = record {
  masks_len = masks_len;
  keeps_type = first;
  keeps_code = second;
  keeps_checksum = third;
  keeps_checksum_too = fourth;
  header_len = is_len;
  writes = λ bytes fits enough is_type is_code.
      writes bytes fits enough is_type is_code ∙ take-append-drop 4 bytes ∙ sym (masked-all len bytes fits);
  reads_kept = λ bytes other fits other_fits same.
      ap message_of (sym (masked-all len bytes fits) ∙ same ∙ masked-all len other other_fits);
}

-- the format of a header of eight bytes is lawful; the last four bytes have masks of their own
pub eight_lawful : {Message : Type 0} (write : Message → Written) (IsLen : ℕ → ℕ → ℕ → Type 0) (type code fifth sixth seventh eighth : ℕ)
    (message_of : List ℕ → Message) → IsLen type code 8
    → ((bytes : List ℕ) → IsBytes bytes → write (message_of bytes) ≡ record {
      type = type;
      code = code;
      fields = bit_and (slice_index bytes 4) fifth ∷ (bit_and (slice_index bytes 5) sixth
          ∷ (bit_and (slice_index bytes 6) seventh ∷ (bit_and (slice_index bytes 7) eighth ∷ [])));
    })
    → ((bytes other : List ℕ) → IsBytes bytes → IsBytes other
    → masked (used 4 ++ (fifth ∷ (sixth ∷ (seventh ∷ (eighth ∷ []))))) bytes
    ≡ masked (used 4 ++ (fifth ∷ (sixth ∷ (seventh ∷ (eighth ∷ []))))) other
    → message_of bytes ≡ message_of other)
    → IsLawful Message write IsLen type code (record {
      layout = record { header_len = 8; masks = used 4 ++ (fifth ∷ (sixth ∷ (seventh ∷ (eighth ∷ [])))) };
      message_of = message_of;
    })
eight_lawful write IsLen type code fifth sixth seventh eighth message_of is_len writes reads_kept = record {
  masks_len = refl;
  keeps_type = refl;
  keeps_code = refl;
  keeps_checksum = refl;
  keeps_checksum_too = refl;
  header_len = is_len;
  writes = λ bytes fits enough is_type is_code.
      ap (λ w. w.type ∷ (w.code ∷ (to_be_bytes w16 (be_number bytes 2 2) ++ (w.fields ++ drop 8 bytes)))) (writes bytes fits)
      ∙ begins bytes type code _ fits (omega arith) is_type is_code
      ∙ sym (masked_eight fifth sixth seventh eighth bytes fits enough);
  reads_kept = reads_kept;
}

-- the format of a header whose bytes after the checksum are unused is lawful
pub unused_lawful : {Message : Type 0} (write : Message → Written) (IsLen : ℕ → ℕ → ℕ → Type 0) (type code : ℕ) (message : Message)
    → IsLen type code 8 → write message ≡ record { type = type; code = code; fields = cleared 4 }
    → IsLawful Message write IsLen type code (unused message)
unused_lawful write IsLen type code message is_len is_written = eight_lawful write IsLen type code 0 0 0 0 (λ bytes. message) is_len
    (λ bytes fits. simp and_zero_r is_written)
    (λ bytes other fits other_fits same. refl)

-- ---- laws of each format of a list

-- two facts as a pair
infixr 4 ◌⊗◌
pub ◌⊗◌ : {A B : Type 0} → A → B → A × B
a ⊗ b = (a, b)

-- the formats of one type from this code on are lawful
unfoldable pub AreLawful : {Message : Type 0} (write : Message → Written) (IsLen : ℕ → ℕ → ℕ → Type 0) → ℕ → ℕ
    → List (MessageFormat Message) → Type 0
AreLawful write IsLen type code [] = Unit {0}
AreLawful {Message} write IsLen type code (format ∷ formats) =
    IsLawful Message write IsLen type code format × AreLawful write IsLen type (suc code) formats

unfoldable pub AllAreLawful : {Message : Type 0} (write : Message → Written) (IsLen : ℕ → ℕ → ℕ → Type 0)
    → List (ℕ × List (MessageFormat Message)) → Type 0
AllAreLawful write IsLen [] = Unit {0}
AllAreLawful write IsLen (listed ∷ others) = AreLawful write IsLen listed.0 0 listed.1 × AllAreLawful write IsLen others

-- the format at a code is lawful, and so is the raw format if the code is not listed
unwrap_lawful : {Message : Type 0} (write : Message → Written) (IsLen : ℕ → ℕ → ℕ → Type 0) (unknown : MessageFormat Message)
    → ((type code : ℕ) → IsLawful Message write IsLen type code unknown)
    → (type first : ℕ) (formats : List (MessageFormat Message)) (at : ℕ) → AreLawful write IsLen type first formats
    → IsLawful Message write IsLen type (first + at) (unwrap_or (slice_get formats at) unknown)
unfolding AreLawful
unwrap_lawful {Message} write IsLen unknown unknown_lawful type first [] at all = unknown_lawful type (first + at)
unwrap_lawful {Message} write IsLen unknown unknown_lawful type first (format ∷ formats) zero all =
    let e : first ≡ first + 0 = omega arith in
    let P : ℕ → Type 0 = λ code. IsLawful Message write IsLen type code format in
    subst P e all.0
unwrap_lawful {Message} write IsLen unknown unknown_lawful type first (format ∷ formats) (suc at) all =
    let e : suc first + at ≡ first + suc at = omega arith in
    let P : ℕ → Type 0 = λ code. IsLawful Message write IsLen type code (unwrap_or (slice_get formats at) unknown) in
    subst P e (unwrap_lawful write IsLen unknown unknown_lawful type (suc first) formats at all.1)

type_lawful : {Message : Type 0} (write : Message → Written) (IsLen : ℕ → ℕ → ℕ → Type 0) (type of : ℕ)
    (here others : List (MessageFormat Message)) (test : Bool) → (type == of) ≡ test → AreLawful write IsLen of 0 here
    → AreLawful write IsLen type 0 others
    → AreLawful write IsLen type 0 (if test then here else others)
type_lawful write IsLen type of here others true is_it lawful others_lawful =
    let e : of ≡ type = grind (arith, nat_tests) in
    let P : ℕ → Type 0 = λ t. AreLawful write IsLen t 0 here in
    subst P e lawful
type_lawful write IsLen type of here others false is_it lawful others_lawful = others_lawful

codes_lawful : {Message : Type 0} (write : Message → Written) (IsLen : ℕ → ℕ → ℕ → Type 0)
    (listed : List (ℕ × List (MessageFormat Message))) (type : ℕ) → AllAreLawful write IsLen listed
    → AreLawful write IsLen type 0 (codes_of listed type)
unfolding AreLawful AllAreLawful
codes_lawful write IsLen [] type all = tt
codes_lawful write IsLen (listed ∷ others) type all =
    type_lawful write IsLen type listed.0 listed.1 (codes_of others type) (type == listed.0) refl all.0
    (codes_lawful write IsLen others type all.1)

pub format_in-lawful : {Message : Type 0} (write : Message → Written) (IsLen : ℕ → ℕ → ℕ → Type 0)
    (formats : List (ℕ × List (MessageFormat Message))) (unknown : MessageFormat Message)
    → AllAreLawful write IsLen formats → ((type code : ℕ) → IsLawful Message write IsLen type code unknown)
    → (type code : ℕ) → IsLawful Message write IsLen type code (format_in formats unknown type code)
format_in-lawful {Message} write IsLen formats unknown all unknown_lawful type code =
    let e : 0 + code ≡ code = omega arith in
    let P : ℕ → Type 0 = λ c. IsLawful Message write IsLen type c (unwrap_or (slice_get (codes_of formats type) code) unknown) in
    subst P e (unwrap_lawful write IsLen unknown unknown_lawful type 0 (codes_of formats type) code
    (codes_lawful write IsLen formats type all))

-- if bytes are equal under the masks of a format, the format reads them alike
reads_alike : {Message : Type 0} (write : Message → Written) (IsLen : ℕ → ℕ → ℕ → Type 0) (format : MessageFormat Message)
    (bytes other : List ℕ) (type code : ℕ) → IsLawful Message write IsLen type code format → IsBytes bytes → IsBytes other
    → masked format.layout.masks other ≡ masked format.layout.masks bytes
    → (format.message_of other ≡ format.message_of bytes) × (be_number other 2 2 ≡ be_number bytes 2 2)
    × (drop format.layout.header_len other ≡ drop format.layout.header_len bytes)
reads_alike write IsLen format bytes other type code lawful fits other_fits same =
    let masks = format.layout.masks in
    let len = format.layout.header_len in
    let high = masked_alike_at masks other bytes 2 other_fits fits lawful.keeps_checksum same in
    let low = masked_alike_at masks other bytes 3 other_fits fits lawful.keeps_checksum_too same in
    let within : length masks ≤ len = omega (arith, lawful.masks_len) in (
      lawful.reads_kept other bytes other_fits fits same,
      cc,
      sym (drop-masked_after masks other len within) ∙ ap (drop len) same ∙ drop-masked_after masks bytes len within,
    )

-- Packets with the same canonical bytes are read alike: their type and code are equal, and determine the format.
pub canonical_alike : {Message : Type 0} (write : Message → Written) (IsLen : ℕ → ℕ → ℕ → Type 0)
    (format_at : ℕ → ℕ → MessageFormat Message)
    → ((type code : ℕ) → IsLawful Message write IsLen type code (format_at type code))
    → (bytes other : List ℕ) → IsBytes bytes → IsBytes other
    → masked (format_at (slice_index other 0) (slice_index other 1)).layout.masks other
    ≡ masked (format_at (slice_index bytes 0) (slice_index bytes 1)).layout.masks bytes
    → ((format_at (slice_index other 0) (slice_index other 1)).message_of other
    ≡ (format_at (slice_index bytes 0) (slice_index bytes 1)).message_of bytes)
    × (be_number other 2 2 ≡ be_number bytes 2 2)
    × (drop (format_at (slice_index other 0) (slice_index other 1)).layout.header_len other
    ≡ drop (format_at (slice_index bytes 0) (slice_index bytes 1)).layout.header_len bytes)
canonical_alike write IsLen format_at lawful bytes other fits other_fits same =
    let here = lawful (slice_index bytes 0) (slice_index bytes 1) in
    let there = lawful (slice_index other 0) (slice_index other 1) in
    let type : slice_index other 0 ≡ slice_index bytes 0 =
    sym (slice_index-masked_kept _ other 0 other_fits there.keeps_type) ∙ ap (λ b. slice_index b 0) same
    ∙ slice_index-masked_kept _ bytes 0 fits here.keeps_type in
    let code : slice_index other 1 ≡ slice_index bytes 1 =
    sym (slice_index-masked_kept _ other 1 other_fits there.keeps_code) ∙ ap (λ b. slice_index b 1) same
    ∙ slice_index-masked_kept _ bytes 1 fits here.keeps_code in
    let format : format_at (slice_index other 0) (slice_index other 1) ≡ format_at (slice_index bytes 0) (slice_index bytes 1) =
    ap (λ t. format_at t (slice_index other 1)) type ∙ ap (format_at (slice_index bytes 0)) code in
    let same_masks : masked (format_at (slice_index bytes 0) (slice_index bytes 1)).layout.masks other
    ≡ masked (format_at (slice_index bytes 0) (slice_index bytes 1)).layout.masks bytes =
    ap (λ f. masked f.layout.masks other) (sym format) ∙ same in
    let alike =
    reads_alike write IsLen (format_at (slice_index bytes 0) (slice_index bytes 1)) bytes other _ _ here fits other_fits same_masks in (
      ap (λ f. f.message_of other) format ∙ alike.0,
      alike.1,
      ap (λ f. drop f.layout.header_len other) format ∙ alike.2,
    )
