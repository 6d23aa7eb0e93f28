-- Laws of the search for the first fragment header.
use Rattle.std.proofs.Common.{◌≡◌, ℕ, zero, suc, ◌+◌, ◌<◌, ◌≤◌, nat_lt, ◌==◌, Bool, true, false, not, ◌&&◌, if◌then◌else◌, List, length, length-drop, drop, slice_index, Option, Some, None, refl, sym, ◌∙◌, ap, subst, arith}
use Rattle.std.proofs.lemmas.Bool.Decides.{nat_tests}
use Rattle.ip_part.specs.ExtensionHeaders.{extension_len, fragment, is_extension, next_number}
use Rattle.reassembly.specs.Fragments.{fragment_header_from, fragment_header_in}
use Rattle.reassembly.specs.declared.fragment_header.FragmentPlace.{FragmentPlace}

-- the search from the IPv6 header finds the same as the search from this place, and each byte left is enough for one more header
pub record IsReached (packet : List ℕ) (number number_at place : ℕ) : Type 0 where
  pub more : ℕ
  pub within : place ≤ length packet
  pub before : number_at < place
  pub shortest : 40 ≤ place
  pub room : length packet < place + more
  pub same : fragment_header_in packet ≡ fragment_header_from more number number_at place packet

pub reached_first : (packet : List ℕ) → 40 ≤ length packet → IsReached packet (slice_index packet 6) 6 40
reached_first packet long = record {
  more = suc (length packet);
  within = long;
  before = omega arith;
  shortest = omega arith;
  room =
      omega arith;
  same = refl;
}

-- an extension header begins at this place
abbrev begins_at : List ℕ → ℕ → ℕ → Bool
begins_at packet number place = is_extension number && not (nat_lt (length packet) (place + 8))

-- the search after the extension header at this place, and this search if the header is whole
abbrev after : ℕ → List ℕ → ℕ → ℕ → Option FragmentPlace
after more packet number place =
    fragment_header_from more (next_number (drop place packet)) place (place + extension_len number (drop place packet)) packet

abbrev behind : ℕ → List ℕ → ℕ → ℕ → Option FragmentPlace
behind more packet number place =
    if nat_lt (length packet) (place + extension_len number (drop place packet)) then None else after more packet number place

ended : (more : ℕ) (packet : List ℕ) (number number_at place : ℕ) → begins_at packet number place ≡ false
    → fragment_header_from more number number_at place packet ≡ None
unfolding fragment_header_from
ended zero packet number number_at place is = refl
ended (suc more) packet number number_at place is = rw is refl

found : (more : ℕ) (packet : List ℕ) (number number_at place : ℕ) → begins_at packet number place ≡ true → (number == fragment) ≡ true
    → fragment_header_from (suc more) number number_at place packet ≡ Some (record { number_at = number_at; place = place })
unfolding fragment_header_from
found more packet number number_at place begins is = rw (begins, is) refl

cut_off : (more : ℕ) (packet : List ℕ) (number number_at place : ℕ) → begins_at packet number place ≡ true → (number == fragment) ≡ false
    → nat_lt (length packet) (place + extension_len number (drop place packet)) ≡ true
    → fragment_header_from (suc more) number number_at place packet ≡ None
unfolding fragment_header_from
cut_off more packet number number_at place begins other cut =
    ap (λ b. if not b then None else if number == fragment then Some (record { number_at = number_at; place = place })
    else behind more packet number place) begins
    ∙ ap (λ b. if b then Some (record { number_at = number_at; place = place }) else behind more packet number place) other
    ∙ ap (λ b. if b then None else after more packet number place) cut

next : (more : ℕ) (packet : List ℕ) (number number_at place : ℕ) → begins_at packet number place ≡ true → (number == fragment) ≡ false
    → nat_lt (length packet) (place + extension_len number (drop place packet)) ≡ false
    → fragment_header_from (suc more) number number_at place packet
    ≡ fragment_header_from more (next_number (drop place packet)) place (place + extension_len number (drop place packet)) packet
unfolding fragment_header_from
next more packet number number_at place begins other whole =
    ap (λ b. if not b then None else if number == fragment then Some (record { number_at = number_at; place = place })
    else behind more packet number place) begins
    ∙ ap (λ b. if b then Some (record { number_at = number_at; place = place }) else behind more packet number place) other
    ∙ ap (λ b. if b then None else after more packet number place) whole

pub ended_at : (packet : List ℕ) (number number_at place : ℕ) → IsReached packet number number_at place
    → begins_at packet number place ≡ false
    → fragment_header_in packet ≡ None
ended_at packet number number_at place reached is = reached.same ∙ ended reached.more packet number number_at place is

found_in : (more : ℕ) (packet : List ℕ) (number number_at place : ℕ) → place ≤ length packet → length packet < place + more
    → fragment_header_in packet ≡ fragment_header_from more number number_at place packet
    → begins_at packet number place ≡ true → (number == fragment) ≡ true
    → fragment_header_in packet ≡ Some (record { number_at = number_at; place = place })
found_in zero packet number number_at place within room same begins is = absurd (omega (arith, within, room))
found_in (suc more) packet number number_at place within room same begins is = same ∙ found more packet number number_at place begins is

pub found_at : (packet : List ℕ) (number number_at place : ℕ) → IsReached packet number number_at place
    → begins_at packet number place ≡ true → (number == fragment) ≡ true
    → fragment_header_in packet ≡ Some (record { number_at = number_at; place = place })
found_at packet number number_at place reached begins is =
    found_in reached.more packet number number_at place reached.within reached.room reached.same begins is

cut_off_in : (more : ℕ) (packet : List ℕ) (number number_at place : ℕ) → place ≤ length packet → length packet < place + more
    → fragment_header_in packet ≡ fragment_header_from more number number_at place packet
    → begins_at packet number place ≡ true → (number == fragment) ≡ false
    → nat_lt (length packet) (place + extension_len number (drop place packet)) ≡ true
    → fragment_header_in packet ≡ None
cut_off_in zero packet number number_at place within room same begins other cut = absurd (omega (arith, within, room))
cut_off_in (suc more) packet number number_at place within room same begins other cut =
    same ∙ cut_off more packet number number_at place begins other cut

pub cut_off_at : (packet : List ℕ) (number number_at place : ℕ) → IsReached packet number number_at place
    → begins_at packet number place ≡ true → (number == fragment) ≡ false
    → nat_lt (length packet) (place + extension_len number (drop place packet)) ≡ true
    → fragment_header_in packet ≡ None
cut_off_at packet number number_at place reached begins other cut =
    cut_off_in reached.more packet number number_at place reached.within reached.room reached.same begins other cut

next_in : (more : ℕ) (packet : List ℕ) (number number_at place : ℕ) → place ≤ length packet → length packet < place + more
    → fragment_header_in packet ≡ fragment_header_from more number number_at place packet
    → begins_at packet number place ≡ true → (number == fragment) ≡ false
    → nat_lt (length packet) (place + extension_len number (drop place packet)) ≡ false
    → place + extension_len number (drop place packet) ≤ length packet → 8 ≤ extension_len number (drop place packet)
    → 40 ≤ place → IsReached packet (next_number (drop place packet)) place (place + extension_len number (drop place packet))
next_in zero packet number number_at place within room same begins other whole there shortest begin = absurd (omega (arith, within, room))
next_in (suc more) packet number number_at place within room same begins other whole there shortest begin = record {
  more = more;
  within = there;
  before = omega (arith, shortest);
  shortest = omega (arith, begin);
  room = omega (arith, room, shortest);
  same = same ∙ next more packet number number_at place begins other whole;
}

pub next_at : (packet : List ℕ) (number number_at place : ℕ) → IsReached packet number number_at place
    → begins_at packet number place ≡ true → (number == fragment) ≡ false
    → nat_lt (length packet) (place + extension_len number (drop place packet)) ≡ false
    → place + extension_len number (drop place packet) ≤ length packet → 8 ≤ extension_len number (drop place packet)
    → IsReached packet (next_number (drop place packet)) place (place + extension_len number (drop place packet))
next_at packet number number_at place reached begins other whole there shortest =
    next_in reached.more packet number number_at place reached.within reached.room reached.same begins other whole there shortest
    reached.shortest

-- ---- the tests of the loop

pub begins_by : (packet : List ℕ) (number place : ℕ) → is_extension number ≡ true → place + 8 ≤ length packet
    → begins_at packet number place ≡ true
begins_by packet number place is long = ap (λ b. b && not (nat_lt (length packet) (place + 8))) is ∙ grind (arith, nat_tests, long)

pub too_short : (packet : List ℕ) (number place : ℕ) → length packet < place + 8 → begins_at packet number place ≡ false
too_short packet number place short =
    ap (λ b. is_extension number && not b) (below (length packet) (place + 8) short) ∙ never (is_extension number)
  where
    below : (a b : ℕ) → a < b → nat_lt a b ≡ true
    below a b is = grind (arith, nat_tests)

    never : (b : Bool) → (b && false) ≡ false
    never true = refl
    never false = refl

pub no_extension : (packet : List ℕ) (number place : ℕ) → is_extension number ≡ false → begins_at packet number place ≡ false
no_extension packet number place is = ap (λ b. b && not (nat_lt (length packet) (place + 8))) is

is_below : (a b : ℕ) → a < b → nat_lt a b ≡ true
is_below a b is = grind (arith, nat_tests)

is_not_below : (a b : ℕ) → b ≤ a → nat_lt a b ≡ false
is_not_below a b is = grind (arith, nat_tests)

-- an extension header with these bytes from its place on is cut off
pub cut_off_by : (packet rest : List ℕ) (number number_at place len : ℕ) → rest ≡ drop place packet
    → IsReached packet number number_at place
    → begins_at packet number place ≡ true → (number == fragment) ≡ false → len ≡ extension_len number rest → length rest < len
    → fragment_header_in packet ≡ None
cut_off_by packet rest number number_at place len rest_is reached begins other len_is short =
    let len_there : extension_len number rest ≡ extension_len number (drop place packet) = ap (extension_len number) rest_is in
    cut_off_at packet number number_at place reached begins other
    (is_below _ _ (omega (arith, reached.within, len_is, len_there, short, ap length rest_is, length-drop place packet)))

-- and the search goes on after it if it is not
pub next_by : (packet rest : List ℕ) (number number_at place len : ℕ) → rest ≡ drop place packet → IsReached packet number number_at place
    → begins_at packet number place ≡ true → (number == fragment) ≡ false → len ≡ extension_len number rest → 8 ≤ len → len ≤ length rest
    → IsReached packet (slice_index rest 0) place (place + len)
next_by packet rest number number_at place len rest_is reached begins other len_is shortest whole =
    let len_there : len ≡ extension_len number (drop place packet) = len_is ∙ ap (extension_len number) rest_is in
    let end : place + extension_len number (drop place packet) ≤ length packet =
    omega (arith, reached.within, len_there, whole, ap length rest_is, length-drop place packet) in
    subst (λ number. IsReached packet number place (place + len)) (ap next_number (sym rest_is))
    (subst (λ len. IsReached packet (next_number (drop place packet)) place (place + len)) (sym len_there)
    (next_at packet number number_at place reached begins other (is_not_below _ _ end) end (omega (arith, shortest, len_there))))
