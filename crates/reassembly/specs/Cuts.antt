-- Ways to cut the payload of a packet into fragments (RFC 791, section 3.2; RFC 8200, section 4.5), and fragments that are added one after
-- another.
use Rattle.std.specs.Prelude.{◌≡◌, ◌⊎◌, ◌<◌, ℕ, ◌+◌, ◌%◌, Bool, true, false, List, [], ◌∷◌, ◌++◌, length, None, ⊤, slice_range}
use Rattle.reassembly.specs.Fragments.{FragmentValue}
use Rattle.reassembly.specs.Reassembly.{State, refusal, with_fragment}
use Rattle.reassembly.specs.declared.fragment_key.FragmentKey.{FragmentKey}

-- ---- cuts

-- This is a fragment of the packet with this key, and it is not empty. It begins at this offset, and `more_fragments` is true if it states
-- that more fragments follow.
pub record IsFragmentAt (key : FragmentKey) (offset : ℕ) (more_fragments : Bool) (fragment : FragmentValue) : Type 0 where
  pub key_is : fragment.key ≡ key
  pub offset_is : fragment.offset ≡ offset
  pub more_is : fragment.more_fragments ≡ more_fragments
  pub some : 0 < length fragment.bytes

-- One after another, these fragments contain the rest of a payload, which begins at this offset. The length of each fragment except the
-- last is a multiple of 8.
abbrev pub IsCutFrom : FragmentKey → ℕ → List ℕ → List FragmentValue → Type 0
IsCutFrom key offset payload [] = ⊥
IsCutFrom key offset payload (last ∷ []) = IsFragmentAt key offset false last × (payload ≡ last.bytes)
IsCutFrom key offset payload (first ∷ (next ∷ others)) =
    IsFragmentAt key offset true first × (length first.bytes % 8 ≡ 0)
    × ((rest : List ℕ) × (payload ≡ first.bytes ++ rest) × IsCutFrom key (offset + length first.bytes) rest (next ∷ others))

-- the fragments are a way to cut the whole payload of the packet with this key
abbrev pub IsCut : FragmentKey → List ℕ → List FragmentValue → Type 0
IsCut key payload fragments = IsCutFrom key 0 payload fragments

-- ---- adds one after another

-- the fragment is one of these fragments
abbrev pub IsOneOf : List FragmentValue → FragmentValue → Type 0
IsOneOf [] fragment = ⊥
IsOneOf (first ∷ others) fragment = (fragment ≡ first) ⊎ IsOneOf others fragment

-- each of the arrivals is one of the fragments, so they arrive in any order, and a fragment may arrive repeatedly
abbrev pub AreFrom : List FragmentValue → List FragmentValue → Type 0
AreFrom fragments [] = ⊤
AreFrom fragments (first ∷ others) = IsOneOf fragments first × AreFrom fragments others

-- none of the arrivals is refused
abbrev pub AreAccepted : State → List FragmentValue → Type 0
AreAccepted state [] = ⊤
AreAccepted state (first ∷ others) = (refusal state first ≡ None) × AreAccepted (with_fragment state first) others

-- the state after these arrivals
abbrev pub after : State → List FragmentValue → State
after state [] = state
after state (first ∷ others) = after (with_fragment state first) others

-- ---- fragments of a payload

-- This is a fragment of the packet with this key and this payload. Its bytes are the bytes of the payload at its place. It ends where the
-- payload ends exactly if it states that no more fragments come. Otherwise its length is a multiple of 8.
pub record IsFragmentOf (key : FragmentKey) (payload : List ℕ) (fragment : FragmentValue) : Type 0 where
  pub key_is : fragment.key ≡ key
  pub some : 0 < length fragment.bytes
  pub bytes : slice_range payload fragment.offset (fragment.offset + length fragment.bytes) ≡ fragment.bytes
  pub last : fragment.more_fragments ≡ false → fragment.offset + length fragment.bytes ≡ length payload
  pub more : fragment.more_fragments ≡ true → (fragment.offset + length fragment.bytes < length payload) × (length fragment.bytes % 8 ≡ 0)
