-- Addresses that differ get new addresses that differ, if no replacements can merge them.
use Rattle.std.proofs.Common.{◌≡◌, ◌∙◌, ◌/◌, ◌||◌, ◌&&◌, ◌==◌, ℕ, Bool, List, [], ◌∷◌, None, Option, Some, ap, ap₂, arith, bit_and, bit_or, false, not, refl, subst, sym, true, unwrap_or, ⊎_elim}
use Rattle.std.proofs.lemmas.Bool.Decides.{nat_tests}
use Rattle.std.proofs.lemmas.Nat.{and_assoc, and_or_apart, or_comm, or_shr}
use Rattle.std.specs.Prelude.{cond}
use Rattle.std.specs.List.{find, list_any}
use Rattle.std.specs.Option.{option_map}
use lib.Arith.{bin_ind}
use lib.Bits.{and_self, and_zero_r, or_add_and, or_step}
use Rattle.translator.specs.Merging.{AreApart, KeepsApart, any_meet, can_merge, has_host_bits, is_narrower, is_same_network, meet, merges_addresses, overlap}
use Rattle.translator.specs.Replacements.{in_network, is_in, new_address}
use Rattle.translator.specs.declared.network.Network.{Network}
use Rattle.translator.specs.declared.replacements.NetworkReplacement.{NetworkReplacement}
use Rattle.translator.specs.declared.table.Table.{Table}

-- ---- tests

no_clash : true ≡ false → ⊥
no_clash clash = cc

either_false : (first second : Bool) → (first || second) ≡ false → (first ≡ false) × (second ≡ false)
either_false false second is = (refl, is)
either_false true second is = absurd (no_clash is)

both_hold : (first second : Bool) → (first && second) ≡ true → (first ≡ true) × (second ≡ true)
both_hold true true is = (refl, refl)
both_hold true false is = absurd (no_clash (sym is))
both_hold false second is = absurd (no_clash (sym is))

same_if_apart : (same overlaps : Bool) → (not same && overlaps) ≡ false → overlaps ≡ true → same ≡ true
same_if_apart true overlaps apart is = refl
same_if_apart false overlaps apart is = absurd (no_clash (sym is ∙ apart))

equal_numbers : (number other : ℕ) → (number == other) ≡ true → number ≡ other
equal_numbers number other is = grind (arith, nat_tests)

test_of_equal : (number other : ℕ) → number ≡ other → (number == other) ≡ true
test_of_equal number other is = grind (arith, nat_tests)

not_true : (test : Bool) → not test ≡ false → test ≡ true
not_true true is = refl
not_true false is = absurd (no_clash is)

-- ---- bits

or_zero : (number : ℕ) → bit_or number 0 ≡ number
or_zero number = omega (arith, or_add_and number 0, and_zero_r number)

or_assoc : (third first second : ℕ) → bit_or (bit_or first second) third ≡ bit_or first (bit_or second third)
or_assoc =
    bin_ind (λ (third : ℕ). (first second : ℕ) → bit_or (bit_or first second) third ≡ bit_or first (bit_or second third))
    (λ first second. or_zero (bit_or first second) ∙ ap (bit_or first) (sym (or_zero second)))
    (λ third half first second.
    let halves : bit_or (bit_or first second / 2) (third / 2) ≡ bit_or (first / 2) (bit_or second third / 2) =
    ap (λ x. bit_or x (third / 2)) (or_shr first second 1) ∙ half (first / 2) (second / 2)
    ∙ sym (ap (bit_or (first / 2)) (or_shr second third 1)) in
    omega (arith, or_step (bit_or first second) third, or_step first (bit_or second third), or_step first second, or_step second third))

and_and : (number mask : ℕ) → bit_and (bit_and number mask) mask ≡ bit_and number mask
and_and number mask = and_assoc mask number mask ∙ ap (bit_and number) (and_self mask)

absorbed : (number mask : ℕ) → bit_or (bit_and number mask) mask ≡ mask
absorbed number mask = omega (arith, or_add_and (bit_and number mask) mask, and_and number mask)

-- the bits of an address in a network that are no host bits are those of the network
fixed_bits : (first mask address : ℕ) → bit_or (bit_or first (bit_and address mask)) mask ≡ bit_or first mask
fixed_bits first mask address = or_assoc mask first (bit_and address mask) ∙ ap (bit_or first) (absorbed address mask)

-- the host bits of an address in a network are those of the given address
host_bits : (first mask address : ℕ) → bit_and first mask ≡ 0 → bit_and (bit_or first (bit_and address mask)) mask ≡ bit_and address mask
host_bits first mask address none =
    ap (λ x. bit_and x mask) (or_comm first (bit_and address mask)) ∙ and_or_apart mask (bit_and address mask) first none
    ∙ and_and address mask

-- an address consists of its host bits and of its other bits
same_address : (address other mask : ℕ) → bit_or address mask ≡ bit_or other mask → bit_and address mask ≡ bit_and other mask
    → address ≡ other
same_address address other mask fixed host = omega (arith, or_add_and address mask, or_add_and other mask, fixed, host)

-- networks that contain the same address overlap
common_address : (first mask second other new : ℕ) → bit_or new mask ≡ bit_or first mask → bit_or new other ≡ bit_or second other
    → bit_or first (bit_or mask other) ≡ bit_or second (bit_or mask other)
common_address first mask second other new in_first in_second =
    sym (or_assoc other first mask)
    ∙ (ap (λ x. bit_or x other) (sym in_first)
    ∙ (or_assoc other new mask
    ∙ (ap (bit_or new) (or_comm mask other)
    ∙ (sym (or_assoc mask new other)
    ∙ (ap (λ x. bit_or x mask) in_second
    ∙ (or_assoc mask second other ∙ ap (bit_or second) (or_comm other mask)))))))

-- ---- two replacements

-- the replacement that applies to an address gives it this new address
pub record Gives (replacement : NetworkReplacement) (address new : ℕ) : Type 0 where
  pub applies : is_in replacement.old address ≡ true
  pub gives : in_network replacement.new address ≡ new
  pub wide : is_narrower replacement ≡ false
  pub plain : has_host_bits replacement ≡ false

-- one replacement gives different new addresses
apart_by_one : (replacement : NetworkReplacement) (address other new : ℕ) → Gives replacement address new → Gives replacement other new
    → address ≡ other
apart_by_one replacement address other new one second =
    let mask = replacement.new.host_mask in
    let first = replacement.new.first in
    let wide : replacement.old.host_mask ≡ mask = equal_numbers _ _ (not_true _ one.wide) in
    let none : bit_and first mask ≡ 0 = equal_numbers _ _ (not_true _ one.plain) in
    let fixed : bit_or address replacement.old.host_mask ≡ bit_or other replacement.old.host_mask =
    equal_numbers _ _ one.applies ∙ sym (equal_numbers _ _ second.applies) in
    let host : bit_and address mask ≡ bit_and other mask =
    sym (host_bits first mask address none) ∙ (ap (λ x. bit_and x mask) (one.gives ∙ sym second.gives) ∙ host_bits first mask other none) in
    same_address address other mask (subst (λ m. bit_or address m ≡ bit_or other m) wide fixed) host

-- the new networks of replacements that give the same new address overlap
overlapping : (one other : NetworkReplacement) (address second new : ℕ) → Gives one address new → Gives other second new
    → overlap one.new other.new ≡ true
overlapping one other address second new first then =
    test_of_equal _ _ (common_address one.new.first one.new.host_mask other.new.first other.new.host_mask new
    (ap (λ x. bit_or x one.new.host_mask) (sym first.gives) ∙ fixed_bits one.new.first one.new.host_mask address)
    (ap (λ x. bit_or x other.new.host_mask) (sym then.gives) ∙ fixed_bits other.new.first other.new.host_mask second))

abbrev network_of : ℕ → ℕ → Network
network_of first mask = record { first = first; host_mask = mask }

abbrev replacement_by : Network → Network → NetworkReplacement
replacement_by old new = record { old = old; new = new }

equal_networks : (one other : Network) → is_same_network one other ≡ true → one ≡ other
equal_networks one other same =
    let parts = both_hold _ _ same in
    ap₂ network_of (equal_numbers _ _ parts.0) (equal_numbers _ _ parts.1)

equal_replacements : (one other : NetworkReplacement) → (is_same_network one.old other.old && is_same_network one.new other.new) ≡ true
    → one ≡ other
equal_replacements one other same =
    let parts = both_hold _ _ same in
    ap₂ replacement_by (equal_networks one.old other.old parts.0) (equal_networks one.new other.new parts.1)

-- two replacements that do not meet give different new addresses
apart_by_two : (one other : NetworkReplacement) (address second new : ℕ) → Gives one address new → Gives other second new
    → meet one other ≡ false → address ≡ second
apart_by_two one other address second new first then apart =
    let same = equal_replacements one other (same_if_apart _ _ apart (overlapping one other address second new first then)) in
    apart_by_one one address second new first (subst (λ replacement. Gives replacement second new) (sym same) then)

-- ---- lists of replacements

-- what holds for the first item that passes a test
pub record IsFound {X : Type 0} (test : X → Bool) (list : List X) (item : X) : Type 0 where
  pub passes : test item ≡ true
  pub fails : (other : X → Bool) → list_any other list ≡ false → other item ≡ false

none_is_some : {X : Type 0} (item : X) → None ≡ Some item → ⊥
none_is_some item clash = cc

found_at_front : {X : Type 0} (test : X → Bool) (first : X) (list : List X) (item : X) (is : Bool) → test first ≡ is
    → cond is (Some first) (find test list) ≡ Some item → (find test list ≡ Some item → IsFound test list item)
    → IsFound test (first ∷ list) item
found_at_front test first list item true passes is later =
    let same : first ≡ item = ap (λ found. unwrap_or found first) is in
    subst (IsFound test (first ∷ list)) same (record { passes = passes; fails = λ other none. (either_false _ _ none).0 })
found_at_front test first list item false passes is later =
    let found = later is in
    record { passes = found.passes; fails = λ other none. found.fails other (either_false _ _ none).1 }

found_in : {X : Type 0} (test : X → Bool) (list : List X) (item : X) → find test list ≡ Some item → IsFound test list item
found_in test [] item is = absurd (none_is_some item is)
found_in test (first ∷ list) item is = found_at_front test first list item (test first) refl is (found_in test list item)

-- a replacement of this list gives the new address
pub record HasNew (list : List NetworkReplacement) (address new : ℕ) : Type 0 where
  pub replacement : NetworkReplacement
  pub gives : Gives replacement address new
  pub fails : (other : NetworkReplacement → Bool) → list_any other list ≡ false → other replacement ≡ false

new_of_found : (list : List NetworkReplacement) (address new : ℕ) (found : Option NetworkReplacement)
    → find (λ replacement. is_in replacement.old address) list ≡ found
    → option_map (λ replacement. in_network replacement.new address) found ≡ Some new
    → list_any is_narrower list ≡ false → list_any has_host_bits list ≡ false → HasNew list address new
new_of_found list address new None is gives wide plain = absurd (none_is_some new gives)
new_of_found list address new (Some replacement) is gives wide plain =
    let found = found_in (λ replacement. is_in replacement.old address) list replacement is in
    record {
      replacement = replacement;
      gives = record {
        applies = found.passes;
        gives = ap (λ one. unwrap_or one 0) gives;
        wide = found.fails is_narrower wide;
        plain = found.fails has_host_bits plain;
      };
      fails = found.fails;
    }

has_new : (list : List NetworkReplacement) (address new : ℕ) → new_address list address ≡ Some new → list_any is_narrower list ≡ false
    → list_any has_host_bits list ≡ false → HasNew list address new
has_new list address new gives wide plain = new_of_found list address new _ refl gives wide plain

-- replacements of lists that do not meet give different new addresses
apart_by_lists : (list others : List NetworkReplacement) (address second new : ℕ) → HasNew list address new → HasNew others second new
    → any_meet list others ≡ false → address ≡ second
apart_by_lists list others address second new first then apart =
    apart_by_two first.replacement then.replacement address second new first.gives then.gives
    (then.fails (meet first.replacement) (first.fails (λ one. list_any (meet one) others) apart))

-- addresses are apart if no replacements can merge them
are_apart : (sources destinations : List NetworkReplacement) → can_merge sources destinations ≡ false → AreApart sources destinations
are_apart sources destinations apart sources_plain destinations_plain address other new first second =
    let one = either_false _ _ apart in
    let two = either_false _ _ one.1 in
    let three = either_false _ _ two.1 in
    let four = either_false _ _ three.1 in
    let as_source : (place : ℕ) → new_address sources place ≡ Some new → HasNew sources place new =
    λ place gives. has_new sources place new gives one.0 sources_plain in
    let as_destination : (place : ℕ) → new_address destinations place ≡ Some new → HasNew destinations place new =
    λ place gives. has_new destinations place new gives two.0 destinations_plain in
    ⊎_elim
    (λ source. ⊎_elim
    (λ other_source. apart_by_lists sources sources address other new (as_source address source) (as_source other other_source) three.0)
    (λ destination. apart_by_lists sources destinations address other new (as_source address source)
    (as_destination other destination) four.0)
    second)
    (λ destination. ⊎_elim
    (λ source. sym (apart_by_lists sources destinations other address new (as_source other source)
    (as_destination address destination) four.0))
    (λ other_destination. apart_by_lists destinations destinations address other new (as_destination address destination)
    (as_destination other other_destination) four.1)
    second)
    first

-- addresses of either IP version are apart if the table can't merge them
pub keeps_apart : (table : Table) → merges_addresses table ≡ false → KeepsApart table
keeps_apart table apart =
    let both = either_false _ _ apart in
    record {
      ipv4 = are_apart table.source.ipv4.items table.destination.ipv4.items both.0;
      ipv6 = are_apart table.source.ipv6.items table.destination.ipv6.items both.1;
    }
