-- Laws of sequences of options.
use Rattle.std.proofs.Common.{◌≡◌, ℕ, zero, suc, ◌+◌, ◌<◌, ◌≤◌, Bool, true, false, cond, List, [], ◌∷◌, ◌++◌, length, take, drop, length-drop, length-take, slice_index, slice_range, ◌==◌, nat_lt, ◌||◌, if◌then◌else◌, Option, Some, None, refl, sym, ◌∙◌, ap, subst, arith}
use Rattle.std.specs.List.{find, fold}
use Rattle.std.proofs.lemmas.Bool.{ltb-false}
use Rattle.std.proofs.lemmas.Bool.Decides.{nat_tests}
use Rattle.std.proofs.lemmas.List.{take-append-drop, take_min}
use Rattle.ip_part.specs.Options.{AreOptions, home_address_or, ipv4_option, ipv6_option, is_ipv6_option, options_of, options_within, with_first}

-- the options after another option, and at their end
option_more : (front : List ℕ → Option (List ℕ)) (more : ℕ) (bytes option : List ℕ) → front bytes ≡ Some option
    → options_within front (suc more) bytes ≡ option ∷ options_within front more (drop (length option) bytes)
unfolding options_within
option_more front more bytes option is =
    ap (λ first. with_first first (λ option. options_within front more (drop (length option) bytes))) is

option_none : (front : List ℕ → Option (List ℕ)) (more : ℕ) (bytes : List ℕ) → front bytes ≡ None
    → options_within front (suc more) bytes ≡ []
unfolding options_within
option_none front more bytes is = ap (λ first. with_first first (λ option. options_within front more (drop (length option) bytes))) is

-- searching the options that are left gives the same result as searching all options; each byte left is enough for another option
pub record IsSought (test : List ℕ → Bool) (front : List ℕ → Option (List ℕ)) (bytes rest : List ℕ) : Type 0 where
  pub more : ℕ
  pub room : length rest < more
  pub same : find test (options_of front bytes) ≡ find test (options_within front more rest)

pub sought_first : (test : List ℕ → Bool) (front : List ℕ → Option (List ℕ)) (bytes : List ℕ) → IsSought test front bytes bytes
sought_first test front bytes = record { more = suc (length bytes); room = omega arith; same = refl }

sought_next_in : (test : List ℕ → Bool) (front : List ℕ → Option (List ℕ)) (more : ℕ) (bytes rest option : List ℕ) → length rest < more
    → find test (options_of front bytes) ≡ find test (options_within front more rest)
    → front rest ≡ Some option → test option ≡ false → 1 ≤ length option → length option ≤ length rest
    → IsSought test front bytes (drop (length option) rest)
sought_next_in test front zero bytes rest option room same is fails shortest within = absurd (omega (arith, room))
sought_next_in test front (suc more) bytes rest option room same is fails shortest within = record {
  more = more;
  room = omega (arith, room, shortest, within, length-drop (length option) rest);
  same = same ∙ ap (find test) (option_more front more rest option is)
      ∙ ap (λ b. cond b (Some option) (find test (options_within front more (drop (length option) rest)))) fails;
}

pub sought_next : (test : List ℕ → Bool) (front : List ℕ → Option (List ℕ)) (bytes rest option next : List ℕ)
    → IsSought test front bytes rest
    → front rest ≡ Some option → test option ≡ false → 1 ≤ length option → length option ≤ length rest
    → next ≡ drop (length option) rest → IsSought test front bytes next
sought_next test front bytes rest option next sought is fails shortest within left =
    subst (IsSought test front bytes) (sym left)
    (sought_next_in test front sought.more bytes rest option sought.room sought.same is fails shortest within)

found_in : (test : List ℕ → Bool) (front : List ℕ → Option (List ℕ)) (more : ℕ) (bytes rest option : List ℕ) → length rest < more
    → find test (options_of front bytes) ≡ find test (options_within front more rest)
    → front rest ≡ Some option → test option ≡ true → find test (options_of front bytes) ≡ Some option
found_in test front zero bytes rest option room same is passes = absurd (omega (arith, room))
found_in test front (suc more) bytes rest option room same is passes =
    same ∙ ap (find test) (option_more front more rest option is)
    ∙ ap (λ b. cond b (Some option) (find test (options_within front more (drop (length option) rest)))) passes

pub found_at : (test : List ℕ → Bool) (front : List ℕ → Option (List ℕ)) (bytes rest option : List ℕ) → IsSought test front bytes rest
    → front rest ≡ Some option → test option ≡ true → find test (options_of front bytes) ≡ Some option
found_at test front bytes rest option sought is passes = found_in test front sought.more bytes rest option sought.room sought.same is passes

none_in : (test : List ℕ → Bool) (front : List ℕ → Option (List ℕ)) (more : ℕ) (bytes rest : List ℕ) → length rest < more
    → find test (options_of front bytes) ≡ find test (options_within front more rest)
    → front rest ≡ None → find test (options_of front bytes) ≡ None
none_in test front zero bytes rest room same is = absurd (omega (arith, room))
none_in test front (suc more) bytes rest room same is = same ∙ ap (find test) (option_none front more rest is)

pub none_at : (test : List ℕ → Bool) (front : List ℕ → Option (List ℕ)) (bytes rest : List ℕ) → IsSought test front bytes rest
    → front rest ≡ None → find test (options_of front bytes) ≡ None
none_at test front bytes rest sought is = none_in test front sought.more bytes rest sought.room sought.same is

-- ---- the options in the bytes

-- the option is at the front of the bytes, and has at least one byte
record IsFront (bytes option : List ℕ) : Type 0 where
  pub count : ℕ
  pub some : 1 ≤ count
  pub there : 1 ≤ length bytes
  pub front : option ≡ take count bytes

front_by : (ends is_one cut : Bool) (count : ℕ) (bytes option : List ℕ) → (ends ≡ false → 1 ≤ length bytes) → (cut ≡ false → 1 ≤ count)
    → (if ends then None else if is_one then Some (take 1 bytes) else if cut then None else Some (take count bytes)) ≡ Some option
    → IsFront bytes option
front_by true is_one cut count bytes option there some is = absurd (cc is)
front_by false true cut count bytes option there some is = record { count = 1; some = omega arith; there = there refl; front = cc is }
front_by false false true count bytes option there some is = absurd (cc is)
front_by false false false count bytes option there some is = record { count = count; some = some refl; there = there refl; front = cc is }

or_parts : (a b : Bool) → (a || b) ≡ false → (a ≡ false) × (b ≡ false)
or_parts true b is = absurd (cc is)
or_parts false b is = (refl, is)

some_byte : (bytes : List ℕ) → (length bytes == 0) ≡ false → 1 ≤ length bytes
some_byte [] is = absurd (cc is)
some_byte (byte ∷ bytes) is = omega arith

two_at_least : (a b : Bool) (count : ℕ) → (a || (nat_lt count 2 || b)) ≡ false → 1 ≤ count
two_at_least a b count is =
    let least : 2 ≤ count = ltb-false count 2 (or_parts (nat_lt count 2) b (or_parts a (nat_lt count 2 || b) is).1).0 in
    omega (arith, least)

ipv4_front : (bytes option : List ℕ) → ipv4_option bytes ≡ Some option → IsFront bytes option
ipv4_front bytes option =
    front_by (length bytes == 0 || slice_index bytes 0 == 0) (slice_index bytes 0 == 1)
    (nat_lt (length bytes) 2 || (nat_lt (slice_index bytes 1) 2 || nat_lt (length bytes) (slice_index bytes 1)))
    (slice_index bytes 1) bytes option
    (λ is. some_byte bytes (or_parts _ _ is).0)
    (λ is. two_at_least (nat_lt (length bytes) 2) (nat_lt (length bytes) (slice_index bytes 1)) (slice_index bytes 1) is)

are_from : (front : List ℕ → Option (List ℕ)) → ((bytes option : List ℕ) → front bytes ≡ Some option → IsFront bytes option)
    → (more : ℕ) (bytes : List ℕ) (found : Option (List ℕ)) → length bytes < suc more → front bytes ≡ found
    → ((rest : List ℕ) → length rest < more → AreOptions front rest (options_within front more rest))
    → AreOptions front bytes (with_first found (λ option. options_within front more (drop (length option) bytes)))
are_from front fronts more bytes None room is others = is
are_from front fronts more bytes (Some option) room is others =
    let at = fronts bytes option is in
    let len : length option ≡ length (take at.count bytes) = ap length at.front in
    let whole : option ≡ take (length option) bytes =
    at.front ∙ sym (take_min at.count bytes) ∙ ap (λ n. take n bytes) (sym (len ∙ length-take at.count bytes)) in
    let some : 1 ≤ length option = omega (arith, len, length-take at.count bytes, at.some, at.there) in (
      drop (length option) bytes,
      sym (ap (λ front. front ++ drop (length option) bytes) whole ∙ take-append-drop (length option) bytes),
      is,
      others (drop (length option) bytes) (omega (arith, room, some, length-drop (length option) bytes)),
    )

are_in : (front : List ℕ → Option (List ℕ)) → ((bytes option : List ℕ) → front bytes ≡ Some option → IsFront bytes option)
    → (more : ℕ) (bytes : List ℕ) → length bytes < more → AreOptions front bytes (options_within front more bytes)
unfolding options_within
are_in front fronts zero bytes room = absurd (omega (arith, room))
are_in front fronts (suc more) bytes room = are_from front fronts more bytes (front bytes) room refl (λ rest. are_in front fronts more rest)

-- the option bytes of an IPv4 header consist of its options, up to the end of the list
pub are_ipv4_options : (bytes : List ℕ) → AreOptions ipv4_option bytes (options_of ipv4_option bytes)
are_ipv4_options bytes = are_in ipv4_option ipv4_front (suc (length bytes)) bytes (omega arith)

-- the option bytes of an extension header begin with their first option
ipv6_front : (bytes option : List ℕ) → ipv6_option bytes ≡ Some option → IsFront bytes option
ipv6_front bytes option =
    front_by (length bytes == 0) (slice_index bytes 0 == 0) (nat_lt (length bytes) 2 || nat_lt (length bytes) (2 + slice_index bytes 1))
    (2 + slice_index bytes 1) bytes option (λ is. some_byte bytes is) (λ is. omega arith)

pub are_ipv6_options : (bytes : List ℕ) → AreOptions ipv6_option bytes (options_of ipv6_option bytes)
are_ipv6_options bytes = are_in ipv6_option ipv6_front (suc (length bytes)) bytes (omega arith)

-- ---- an option that is longer than the bytes

-- an option of another length is not the sought option
other_len : (kind len : ℕ) (option : List ℕ) → length option < 2 + len → is_ipv6_option kind len option ≡ false
other_len kind len option short = grind (arith, nat_tests)

shorter : (kind len more : ℕ) (rest : List ℕ) (first : Option (List ℕ)) → length rest < 2 + len → ipv6_option rest ≡ first
    → ((after : List ℕ) → length after < 2 + len → find (is_ipv6_option kind len) (options_within ipv6_option more after) ≡ None)
    → find (is_ipv6_option kind len) (with_first first (λ option. options_within ipv6_option more (drop (length option) rest))) ≡ None
shorter kind len more rest None short is others = refl
shorter kind len more rest (Some option) short is others =
    let at = ipv6_front rest option is in
    let within : length option ≤ length rest = omega (arith, ap length at.front, length-take at.count rest) in
    let left : length (drop (length option) rest) < 2 + len = omega (arith, short, length-drop (length option) rest) in
    ap (λ b. cond b (Some option) (find (is_ipv6_option kind len) (options_within ipv6_option more (drop (length option) rest))))
    (other_len kind len option (omega (arith, short, within)))
    ∙ others (drop (length option) rest) left

no_room_within : (kind len more : ℕ) (rest : List ℕ) → length rest < 2 + len
    → find (is_ipv6_option kind len) (options_within ipv6_option more rest) ≡ None
unfolding options_within
no_room_within kind len zero rest short = refl
no_room_within kind len (suc more) rest short =
    shorter kind len more rest (ipv6_option rest) short refl (λ after left. no_room_within kind len more after left)

-- bytes that are shorter than the sought option do not contain it
pub none_of_short : (kind len : ℕ) (bytes rest : List ℕ) → IsSought (is_ipv6_option kind len) ipv6_option bytes rest → length rest < 2 + len
    → find (is_ipv6_option kind len) (options_of ipv6_option bytes) ≡ None
none_of_short kind len bytes rest sought short = sought.same ∙ no_room_within kind len sought.more rest short

-- ---- folding over the options from the first on

-- folding the options that are left gives the same result as folding all options; each byte left is enough for another option
pub record IsFolded (front : List ℕ → Option (List ℕ)) (after : List ℕ → List ℕ → List ℕ) (first source bytes rest : List ℕ) : Type 0 where
  pub more : ℕ
  pub room : length rest < more
  pub same : fold after first (options_of front bytes) ≡ fold after source (options_within front more rest)

pub folded_first : (front : List ℕ → Option (List ℕ)) (after : List ℕ → List ℕ → List ℕ) (first bytes : List ℕ)
    → IsFolded front after first first bytes bytes
folded_first front after first bytes = record { more = suc (length bytes); room = omega arith; same = refl }

folded_next_in : (front : List ℕ → Option (List ℕ)) (after : List ℕ → List ℕ → List ℕ) (more : ℕ) (first source bytes rest option : List ℕ)
    → length rest < more → fold after first (options_of front bytes) ≡ fold after source (options_within front more rest)
    → front rest ≡ Some option → 1 ≤ length option → length option ≤ length rest
    → IsFolded front after first (after source option) bytes (drop (length option) rest)
folded_next_in front after zero first source bytes rest option room same is shortest within = absurd (omega (arith, room))
folded_next_in front after (suc more) first source bytes rest option room same is shortest within = record {
  more = more;
  room = omega (arith, room, shortest, within, length-drop (length option) rest);
  same = same ∙ ap (fold after source) (option_more front more rest option is);
}

pub folded_next : (front : List ℕ → Option (List ℕ)) (after : List ℕ → List ℕ → List ℕ) (first source bytes rest option next : List ℕ)
    → IsFolded front after first source bytes rest → front rest ≡ Some option → 1 ≤ length option → length option ≤ length rest
    → next ≡ drop (length option) rest → IsFolded front after first (after source option) bytes next
folded_next front after first source bytes rest option next folded is shortest within left =
    subst (IsFolded front after first (after source option) bytes) (sym left)
    (folded_next_in front after folded.more first source bytes rest option folded.room folded.same is shortest within)

folded_none_in : (front : List ℕ → Option (List ℕ)) (after : List ℕ → List ℕ → List ℕ) (more : ℕ) (first source bytes rest : List ℕ)
    → length rest < more → fold after first (options_of front bytes) ≡ fold after source (options_within front more rest)
    → front rest ≡ None → source ≡ fold after first (options_of front bytes)
folded_none_in front after zero first source bytes rest room same is = absurd (omega (arith, room))
folded_none_in front after (suc more) first source bytes rest room same is =
    sym (same ∙ ap (fold after source) (option_none front more rest is))

pub folded_none : (front : List ℕ → Option (List ℕ)) (after : List ℕ → List ℕ → List ℕ) (first source bytes rest : List ℕ)
    → IsFolded front after first source bytes rest → front rest ≡ None → source ≡ fold after first (options_of front bytes)
folded_none front after first source bytes rest folded is =
    folded_none_in front after folded.more first source bytes rest folded.room folded.same is

-- bytes that are too short for a home address don't change the source
short_stays : (more : ℕ) (source rest : List ℕ) (first : Option (List ℕ)) → length rest < 18 → ipv6_option rest ≡ first
    → ((after : List ℕ) → length after < 18 → fold home_address_or source (options_within ipv6_option more after) ≡ source)
    → fold home_address_or source (with_first first (λ option. options_within ipv6_option more (drop (length option) rest))) ≡ source
short_stays more source rest None short is others = refl
short_stays more source rest (Some option) short is others =
    let at = ipv6_front rest option is in
    let within : length option ≤ length rest = omega (arith, ap length at.front, length-take at.count rest) in
    let left : length (drop (length option) rest) < 18 = omega (arith, short, length-drop (length option) rest) in
    ap (λ b. fold home_address_or (if b then slice_range option 2 18 else source)
    (options_within ipv6_option more (drop (length option) rest)))
    (other_len 0xC9 16 option (omega (arith, short, within)))
    ∙ others (drop (length option) rest) left

stays_within : (more : ℕ) (source rest : List ℕ) → length rest < 18
    → fold home_address_or source (options_within ipv6_option more rest) ≡ source
unfolding options_within
stays_within zero source rest short = refl
stays_within (suc more) source rest short =
    short_stays more source rest (ipv6_option rest) short refl (λ after left. stays_within more source after left)

pub folded_short : (first source bytes rest : List ℕ) → IsFolded ipv6_option home_address_or first source bytes rest → length rest < 18
    → source ≡ fold home_address_or first (options_of ipv6_option bytes)
folded_short first source bytes rest folded short = sym (folded.same ∙ stays_within folded.more source rest short)
