-- The bytes that a reader has left, or that a writer holds, before and after a call.
use Rattle.std.specs.Prelude.{◌≡◌, ℕ, ◌+◌, ◌<◌, ◌≤◌, List, ◌++◌, length, take, Option}
use Rattle.std.specs.Io.KnownBytes.{Appends, Consumes, IsAtEnd}

-- `len` bytes were read: `count` bytes, or fewer if the input ended
pub record Skips (left still_left : Option (List ℕ)) (count len : ℕ) : Type 0 where
  pub bytes : List ℕ
  pub has_len : length bytes ≡ len
  pub consumed : Consumes left still_left bytes
  pub within : len ≤ count
  pub end : len < count → IsAtEnd still_left

-- The first `len` bytes of the buffer are `first`, and then the bytes that were read. If `len` is less than the length of the buffer, the
-- input ended.
pub record FillsAfter (first : List ℕ) (left still_left : Option (List ℕ)) (buffer : List ℕ) (len : ℕ) : Type 0 where
  pub bytes : List ℕ
  pub consumed : Consumes left still_left bytes
  pub whole : take len buffer ≡ first ++ bytes
  pub has_len : len ≡ length first + length bytes
  pub within : len ≤ length buffer
  pub end : len < length buffer → IsAtEnd still_left

-- reading failed after fewer than this number of bytes
pub record ReadsFewer (left still_left : Option (List ℕ)) (count : ℕ) : Type 0 where
  pub bytes : List ℕ
  pub consumed : Consumes left still_left bytes
  pub fewer : length bytes < count

-- the writer accepted a beginning of the text: none of it, a part of it, or all of it
pub record AppendsBeginning (before after : Option (List ℕ)) (text : List ℕ) : Type 0 where
  pub written : List ℕ
  pub unwritten : List ℕ
  pub parts : text ≡ written ++ unwritten
  pub appends : Appends before after written
