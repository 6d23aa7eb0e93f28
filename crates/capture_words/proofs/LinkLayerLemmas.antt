-- Laws of the search for a link-layer address in options.
use Rattle.std.proofs.Common.{◌≡◌, ℕ, zero, suc, ◌*◌, ◌<◌, ◌≤◌, nat_lt, ◌==◌, true, false, if◌then◌else◌, List, length, length-drop, drop, slice_index, slice_range, Option, Some, None, refl, ◌∙◌, ap, arith}
use Rattle.std.proofs.lemmas.Bool.Decides.{nat_tests}
use Rattle.capture_words.specs.Icmpv6Fields.{is_link_layer_address, link_layer_address_from, link_layer_address_in}

-- the search from the first option finds the same as the search from these bytes, and each byte left is enough for one more option
pub record IsLeft (options rest : List ℕ) : Type 0 where
  pub more : ℕ
  pub room : length rest < more
  pub same : link_layer_address_in options ≡ link_layer_address_from more rest

pub left_first : (options : List ℕ) → IsLeft options options
left_first options = record { more = suc (length options); room = omega arith; same = refl }

is_below : (a b : ℕ) → a < b → nat_lt a b ≡ true
is_below a b is = grind (arith, nat_tests)

is_not_below : (a b : ℕ) → b ≤ a → nat_lt a b ≡ false
is_not_below a b is = grind (arith, nat_tests)

-- the search in an option that is no link-layer address
abbrev after : ℕ → List ℕ → Option (List ℕ)
after more rest =
    if slice_index rest 1 == 0 then None else link_layer_address_from more (drop (slice_index rest 1 * 8) rest)

abbrev within : ℕ → List ℕ → Option (List ℕ)
within more rest = if is_link_layer_address rest then Some (slice_range rest 2 8) else after more rest

ended : (more : ℕ) (rest : List ℕ) → length rest < 8 → link_layer_address_from more rest ≡ None
unfolding link_layer_address_from
ended zero rest short = refl
ended (suc more) rest short = ap (λ b. if b then None else within more rest) (is_below (length rest) 8 short)

begun : (more : ℕ) (rest : List ℕ) → 8 ≤ length rest → link_layer_address_from (suc more) rest ≡ within more rest
unfolding link_layer_address_from
begun more rest long = ap (λ b. if b then None else within more rest) (is_not_below (length rest) 8 long)

begun_in : (more : ℕ) (options rest : List ℕ) → length rest < more → 8 ≤ length rest
    → link_layer_address_in options ≡ link_layer_address_from more rest
    → (next : ℕ) × (more ≡ suc next) × (link_layer_address_in options ≡ within next rest)
begun_in zero options rest room long same = absurd (omega (arith, room))
begun_in (suc next) options rest room long same = (next, refl, same ∙ begun next rest long)

-- fewer than eight bytes are left
pub ended_at : (options rest : List ℕ) → IsLeft options rest → length rest < 8 → link_layer_address_in options ≡ None
ended_at options rest left short = left.same ∙ ended left.more rest short

-- a link-layer address is at the front of these bytes
pub found_at : (options rest : List ℕ) → IsLeft options rest → 8 ≤ length rest → is_link_layer_address rest ≡ true
    → link_layer_address_in options ≡ Some (slice_range rest 2 8)
found_at options rest left long is =
    let (next, more_is, same) = begun_in left.more options rest left.room long left.same in
    same ∙ ap (λ b. if b then Some (slice_range rest 2 8) else after next rest) is

-- the search after an option that is no link-layer address
other : (options rest : List ℕ) → IsLeft options rest → 8 ≤ length rest → is_link_layer_address rest ≡ false
    → (next : ℕ) × (length rest < suc next) × (link_layer_address_in options ≡ after next rest)
other options rest left long is =
    let (next, more_is, same) = begun_in left.more options rest left.room long left.same in
    (next, omega (arith, left.room, more_is), same ∙ ap (λ b. if b then Some (slice_range rest 2 8) else after next rest) is)

is_zero : (n : ℕ) → n ≡ 0 → (n == 0) ≡ true
is_zero n is = grind (arith, nat_tests)

is_not_zero : (n : ℕ) → 0 < n → (n == 0) ≡ false
is_not_zero n is = grind (arith, nat_tests)

-- an option of length 0
pub zero_at : (options rest : List ℕ) → IsLeft options rest → 8 ≤ length rest → is_link_layer_address rest ≡ false
    → slice_index rest 1 ≡ 0 → link_layer_address_in options ≡ None
zero_at options rest left long is_other is =
    let (next, room, same) = other options rest left long is_other in
    same ∙ ap (λ b. if b then None else link_layer_address_from next (drop (slice_index rest 1 * 8) rest)) (is_zero (slice_index rest 1) is)

next_at : (options rest : List ℕ) → IsLeft options rest → 8 ≤ length rest → is_link_layer_address rest ≡ false
    → 0 < slice_index rest 1 → IsLeft options (drop (slice_index rest 1 * 8) rest)
next_at options rest left long is_other some =
    let (next, room, same) = other options rest left long is_other in record {
      more = next;
      room = omega (arith, room, long, some, length-drop (slice_index rest 1 * 8) rest);
      same = same ∙ ap (λ b. if b then None else link_layer_address_from next (drop (slice_index rest 1 * 8) rest))
          (is_not_zero (slice_index rest 1) some);
    }

-- an option that is longer than the bytes that are left
pub cut_off_at : (options rest : List ℕ) → IsLeft options rest → 8 ≤ length rest → is_link_layer_address rest ≡ false
    → length rest < slice_index rest 1 * 8 → link_layer_address_in options ≡ None
cut_off_at options rest left long is_other short =
    ended_at options _ (next_at options rest left long is_other (omega (arith, long, short)))
    (omega (arith, short, length-drop (slice_index rest 1 * 8) rest))

-- the search goes on after an option
pub next_by : (options rest after : List ℕ) (len : ℕ) → IsLeft options rest → 8 ≤ length rest → is_link_layer_address rest ≡ false
    → len ≡ slice_index rest 1 * 8 → 0 < len → after ≡ drop len rest → IsLeft options after
next_by options rest after len left long is_other len_is some after_is =
    rw (after_is, len_is) (next_at options rest left long is_other (omega (arith, some, len_is)))
