-- Which of several reassemblies takes a fragment, and when a packet that is not complete is given up (RFC 1122, section 3.3.2; RFC 8200,
-- section 4.5).
use Rattle.std.specs.Prelude.{◌≡◌, ◌<◌, ℕ, ◌+◌, ◌-◌, ◌==◌, Bool, true, false, nat_lt, List, [], ◌∷◌, length, take, min, Option, Some, None}
use Rattle.std.specs.List.{fold, list_any}
use Rattle.reassembly.specs.Reassembly.{is_same_key}
use Rattle.reassembly.specs.declared.fragment_key.FragmentKey.{FragmentKey}
use Rattle.reassembly.specs.declared.waiting.Place.{Place}
use Rattle.reassembly.specs.declared.waiting.Place.TheVariants.{Known, Oldest}
use Rattle.reassembly.specs.declared.waiting.Waiting.{Waiting}

-- the number of seconds after which a packet is given up (RFC 1122, section 3.3.2: 60 to 120 seconds; RFC 8200, section 4.5: 60 seconds)
abbrev pub reassembly_seconds : ℕ
reassembly_seconds = 60

-- more than this number of seconds have passed
abbrev pub is_expired : Waiting → ℕ → Bool
is_expired waiting now = nat_lt reassembly_seconds (now - waiting.since)

-- the packet has this key
abbrev pub has_key : FragmentKey → Waiting → Bool
has_key key waiting = is_same_key waiting.key key

-- the first fragment of the packet arrived at this time
abbrev pub begun_at : ℕ → Waiting → Bool
begun_at time waiting = waiting.since == time

-- the earlier of this time and the time at which the first fragment of the packet arrived
abbrev pub earlier : ℕ → Waiting → ℕ
earlier time waiting = min time waiting.since

-- the earliest time at which a first fragment arrived
abbrev pub earliest : List Waiting → ℕ
earliest [] = 0
earliest (first ∷ others) = fold earlier first.since others

-- this is the index of the first packet for which the test is true
abbrev pub IsFirst : (Waiting → Bool) → List Waiting → ℕ → Type 0
IsFirst test waiting index =
    (index < length waiting) × (list_any test (take index waiting) ≡ false) × (list_any test (take (index + 1) waiting) ≡ true)

-- The place of a fragment with this key. It is the first packet with the key. If no packet has the key, it is the first of the packets that
-- began first. There is no place only if there is no packet.
abbrev pub IsPlace : List Waiting → FragmentKey → Option Place → Type 0
IsPlace waiting key None = waiting ≡ []
IsPlace waiting key (Some (Known index)) = IsFirst (has_key key) waiting index
IsPlace waiting key (Some (Oldest index)) = (list_any (has_key key) waiting ≡ false) × IsFirst (begun_at (earliest waiting)) waiting index
