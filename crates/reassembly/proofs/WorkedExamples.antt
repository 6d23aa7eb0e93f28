-- Worked examples of the definitions, so that a wrong definition fails before any code does.
use Rattle.std.proofs.Common.{◌≡◌, true, false, List, ℕ, [], ◌∷◌, Some, None, refl}
use Rattle.word_sum.specs.Checksum.{folded}
use Rattle.reassembly.specs.Cuts.{after}
use Rattle.reassembly.specs.Fragments.{FragmentValue, fragment_header_from, fragment_header_in}
use Rattle.reassembly.specs.Pieces.{byte_at}
use Rattle.reassembly.specs.Reassembly.{State, empty}
use Rattle.reassembly.specs.Waiting.{earliest, is_expired}
use Rattle.reassembly.specs.declared.waiting.Waiting.{Waiting}
use Rattle.reassembly.specs.WholeHeaders.{ipv6_header_by, whole_ipv4_header}
use Rattle.reassembly.specs.declared.fragment_key.FragmentKey.{FragmentKey}
use Rattle.reassembly.specs.declared.fragment_key.FragmentKey.TheVariants.{Ipv4}

-- ---- headers

-- the header of a packet of 40 bytes from 10.0.0.1 to 10.0.0.2, by the header of its first fragment of 28 bytes
ipv4_header_of_a_packet : whole_ipv4_header
    (0x45 ∷ 0 ∷ 0 ∷ 28 ∷ 0x1A ∷ 0x2B ∷ 0x20 ∷ 0 ∷ 64 ∷ 17 ∷ 0x2C ∷ 0xA4 ∷ 10 ∷ 0 ∷ 0 ∷ 1 ∷ 10 ∷ 0 ∷ 0 ∷ 2 ∷ []) 40
    ≡ 0x45 ∷ 0 ∷ 0 ∷ 40 ∷ 0x1A ∷ 0x2B ∷ 0 ∷ 0 ∷ 64 ∷ 17 ∷ 0x4C ∷ 0x98 ∷ 10 ∷ 0 ∷ 0 ∷ 1 ∷ 10 ∷ 0 ∷ 0 ∷ 2 ∷ []
unfolding folded
ipv4_header_of_a_packet = refl

-- the headers up to the fragment header of a first fragment of UDP, with hop-by-hop options
fragment_headers : List ℕ
fragment_headers =
    0x60 ∷ 0 ∷ 0 ∷ 0 ∷ 0 ∷ 24 ∷ 0 ∷ 64
    ∷ 1 ∷ 1 ∷ 1 ∷ 1 ∷ 1 ∷ 1 ∷ 1 ∷ 1 ∷ 1 ∷ 1 ∷ 1 ∷ 1 ∷ 1 ∷ 1 ∷ 1 ∷ 1 ∷ 2 ∷ 2 ∷ 2 ∷ 2 ∷ 2 ∷ 2 ∷ 2 ∷ 2 ∷ 2 ∷ 2 ∷ 2 ∷ 2 ∷ 2 ∷ 2 ∷ 2 ∷ 2
    ∷ 44 ∷ 0 ∷ 1 ∷ 4 ∷ 0 ∷ 0 ∷ 0 ∷ 0
    ∷ 17 ∷ 0 ∷ 0 ∷ 1 ∷ 1 ∷ 2 ∷ 3 ∷ 4 ∷ []

-- its number 44 is the first byte of the hop-by-hop options
fragment_header_after_options : fragment_header_in fragment_headers ≡ Some (record { number_at = 40; place = 48 })
unfolding fragment_headers fragment_header_from
fragment_header_after_options = refl

-- the hop-by-hop options of the whole packet have the number 17; the payload of 300 bytes comes after them
ipv6_headers_of_a_packet : ipv6_header_by fragment_headers (Some (record { number_at = 40; place = 48 })) 300
    ≡ 0x60 ∷ 0 ∷ 0 ∷ 0 ∷ 1 ∷ 52 ∷ 0 ∷ 64
    ∷ 1 ∷ 1 ∷ 1 ∷ 1 ∷ 1 ∷ 1 ∷ 1 ∷ 1 ∷ 1 ∷ 1 ∷ 1 ∷ 1 ∷ 1 ∷ 1 ∷ 1 ∷ 1 ∷ 2 ∷ 2 ∷ 2 ∷ 2 ∷ 2 ∷ 2 ∷ 2 ∷ 2 ∷ 2 ∷ 2 ∷ 2 ∷ 2 ∷ 2 ∷ 2 ∷ 2 ∷ 2
    ∷ 17 ∷ 0 ∷ 1 ∷ 4 ∷ 0 ∷ 0 ∷ 0 ∷ 0 ∷ []
unfolding fragment_headers
ipv6_headers_of_a_packet = refl

-- ---- adds

example_key : FragmentKey
example_key = Ipv4 (10 ∷ 0 ∷ 0 ∷ 1 ∷ []) (10 ∷ 0 ∷ 0 ∷ 2 ∷ []) (record { 0 = 17 }) 7

first : FragmentValue
first = record { key = example_key; offset = 0; more_fragments = true; bytes = 1 ∷ 2 ∷ 3 ∷ 4 ∷ 5 ∷ 6 ∷ 7 ∷ 8 ∷ []; header = [] }

last : FragmentValue
last = record { key = example_key; offset = 8; more_fragments = false; bytes = 9 ∷ 10 ∷ []; header = [] }

last_then_first : State
last_then_first = after (empty example_key 100) (last ∷ last ∷ first ∷ [])

length_of_the_payload : last_then_first.end ≡ Some 10
unfolding last_then_first example_key first last
length_of_the_payload = refl

byte_of_the_last_fragment : byte_at last_then_first.pieces 9 ≡ Some 10
unfolding last_then_first example_key first last
byte_of_the_last_fragment = refl

byte_behind_the_payload : byte_at last_then_first.pieces 10 ≡ None
unfolding last_then_first example_key first last
byte_behind_the_payload = refl

-- ---- several packets

-- a packet with this identification, whose first fragment arrived at this time
abbrev waiting : ℕ → ℕ → Waiting
waiting identification since = record {
  key = Ipv4 (10 ∷ 0 ∷ 0 ∷ 1 ∷ []) (10 ∷ 0 ∷ 0 ∷ 2 ∷ []) (record { 0 = 17 }) identification;
  since = since;
}

-- the reassemblies of three packets; two began at the same time
abbrev three : List Waiting
three = waiting 7 105 ∷ waiting 8 103 ∷ waiting 9 103 ∷ []

earliest_of_three : earliest three ≡ 103
earliest_of_three = refl

not_expired_after_60_seconds : is_expired (waiting 7 105) 165 ≡ false
not_expired_after_60_seconds = refl

expired_after_61_seconds : is_expired (waiting 7 105) 166 ≡ true
expired_after_61_seconds = refl

-- time before the first fragment
not_expired_before : is_expired (waiting 7 105) 5 ≡ false
not_expired_before = refl
