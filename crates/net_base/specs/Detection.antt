-- The changes that the checksum test of a received packet detects (RFC 1071). If a packet passes the test, which other packets of the same
-- length pass too?
use Rattle.std.specs.Prelude.{◌≡◌, ◌≢◌, ◌⊎◌, ◌↔◌, ◌≤◌, ◌<◌, ℕ, ◌+◌, ◌%◌, List, [], length, slice_index}
use Rattle.net_base.specs.Bytes.{IsBytes, be_number}
use Rattle.word_sum.specs.Checksum.{Verifies, total}

-- ---- packets of one length that differ

-- the packets differ only in the two-byte word at this place
pub record DifferInOneWord (bytes other : List ℕ) (place : ℕ) : Type 0 where
  pub aligned : place % 2 ≡ 0
  pub within : place + 2 ≤ length bytes
  pub differ : be_number other place 2 ≢ be_number bytes place 2
  pub elsewhere : (at : ℕ) → at ≢ place → at ≢ place + 1 → slice_index other at ≡ slice_index bytes at

-- the packets differ only in the byte at this place
pub record DifferInOneByte (bytes other : List ℕ) (place : ℕ) : Type 0 where
  pub within : place < length bytes
  pub differ : slice_index other place ≢ slice_index bytes place
  pub elsewhere : (at : ℕ) → at ≢ place → slice_index other at ≡ slice_index bytes at

-- the second packet is the first packet with the two-byte words at these places exchanged
pub record WordsExchanged (bytes other : List ℕ) (first second : ℕ) : Type 0 where
  pub first_aligned : first % 2 ≡ 0
  pub second_aligned : second % 2 ≡ 0
  pub first_within : first + 2 ≤ length bytes
  pub second_within : second + 2 ≤ length bytes
  pub first_is_second : be_number other first 2 ≡ be_number bytes second 2
  pub second_is_first : be_number other second 2 ≡ be_number bytes first 2
  pub elsewhere : (at : ℕ) → at ≢ first → at ≢ first + 1 → at ≢ second → at ≢ second + 1
      → slice_index other at ≡ slice_index bytes at

-- one word is 0000 and the other is ffff; both are zero in one's complement
abbrev pub AreTheTwoZeros : ℕ → ℕ → Type 0
AreTheTwoZeros here there = ((here ≡ 0) × (there ≡ 0xffff)) ⊎ ((here ≡ 0xffff) × (there ≡ 0))

-- ---- bytes without a pseudo header

-- all bytes are 0, so the sum is 0, not all ones
abbrev pub IsAllZeros : List ℕ → Type 0
IsAllZeros bytes = (place : ℕ) → slice_index bytes place ≡ 0

-- the one's complement sum of the bytes is all ones or 0; both are zero in one's complement
abbrev pub SumsUpToZero : List ℕ → Type 0
SumsUpToZero bytes = Verifies [] bytes ⊎ IsAllZeros bytes

-- ---- the changes that a test detects if these bytes pass it

-- other bytes of the same length pass the test exactly if their total has the same remainder modulo 65535
abbrev pub PassesByRemainder : (List ℕ → Type 0) → List ℕ → Type 0
PassesByRemainder Passes bytes = (other : List ℕ) → length other ≡ length bytes
    → (Passes other ↔ (total other % 65535 ≡ total bytes % 65535))

-- a change of one word is detected, except from 0000 to ffff or from ffff to 0000
abbrev pub DetectsOtherWord : (List ℕ → Type 0) → List ℕ → Type 0
DetectsOtherWord Passes bytes = (other : List ℕ) (place : ℕ) → IsBytes other → length other ≡ length bytes
    → DifferInOneWord bytes other place
    → (Passes other ↔ AreTheTwoZeros (be_number bytes place 2) (be_number other place 2))

-- a change of one byte is detected
abbrev pub DetectsOtherByte : (List ℕ → Type 0) → List ℕ → Type 0
DetectsOtherByte Passes bytes = (other : List ℕ) (place : ℕ) → IsBytes other → length other ≡ length bytes
    → DifferInOneByte bytes other place → Passes other → ⊥

-- an exchange of two words is not detected, since the order of the words does not change the sum
abbrev pub MissesExchangedWords : (List ℕ → Type 0) → List ℕ → Type 0
MissesExchangedWords Passes bytes = (other : List ℕ) (first second : ℕ) → length other ≡ length bytes
    → WordsExchanged bytes other first second → Passes other

-- what the test of these bytes detects, and what it does not detect
pub record Detects (Passes : List ℕ → Type 0) (bytes : List ℕ) : Type 0 where
  pub passes_by_remainder : PassesByRemainder Passes bytes
  pub detects_other_word : DetectsOtherWord Passes bytes
  pub detects_other_byte : DetectsOtherByte Passes bytes
  pub misses_exchanged_words : MissesExchangedWords Passes bytes

-- What the test of these bytes detects, and what it does not detect, if there is no pseudo header. In the first two facts, bytes that are
-- all zeros also count as passing. Their sum is 0, which is zero in one's complement, like all ones.
pub record DetectsWithoutPseudoHeader (bytes : List ℕ) : Type 0 where
  pub passes_by_remainder : PassesByRemainder SumsUpToZero bytes
  pub detects_other_word : DetectsOtherWord SumsUpToZero bytes
  pub detects_other_byte : DetectsOtherByte (Verifies []) bytes
  pub misses_exchanged_words : MissesExchangedWords (Verifies []) bytes
