-- An address that a mapping translates to IPv6 and back.
use Rattle.std.proofs.Common.{ℕ, ◌≡◌, ◌<◌, ◌+◌, ◌-◌, ◌*◌, ◌/◌, ◌%◌, ◌^◌, Bool, true, false, ◌&&◌, if◌then◌else◌, IfSome, List, [], ◌∷◌, length, Option, Some, None, nat_lt, ap, subst, sym, ◌∙◌, refl, arith}
use Rattle.std.specs.Int.{from_be_bytes, to_be_bytes, w32, w128}
use Rattle.std.specs.List.{fold}
use Rattle.std.proofs.lemmas.Bool.Decides.{nat_tests}
use Rattle.std.proofs.lemmas.Nat.{be_bytes_4, div-add-mod', mod_below, mod_low, pow_pos, shl-shr}
use Rattle.net_base.specs.Bytes.{IsBytes}
use Rattle.ip_translation.specs.AddressMappings.{better_of, ignored_len, ipv4_len, is_ipv4_of, mapped_to_ipv4, mapped_to_ipv6}
use Rattle.ip_translation.specs.AddressTables.{embedded, extracted, mapping_of_ipv4, mapping_of_ipv6}
use Rattle.ip_translation.specs.Prefixes as prefixes
use Rattle.ip_translation.specs.declared.address_mapping.AddressMapping.{AddressMapping}
use Rattle.ip_translation.specs.declared.address_table.AddressTable.{AddressTable}
use Rattle.ip_translation.proofs.AddressTableLemmas.{embedded_is, extracted_is}
use Rattle.ip_translation.proofs.MappingLemmas.{joined_fits, shifted_fits}
use Rattle.ip_translation.proofs.WideNumberLemmas.{from_be_bytes-to_be_bytes_16}

-- ---- the mapping that is found applies

chosen_applies : {A : Type 0} (P : A → Type 0) (test : Bool) (value : A) (other : Option A) → (test ≡ true → P value) → IfSome other P
    → IfSome (if test then Some value else other) P
chosen_applies P true value other holds kept = holds refl
chosen_applies P false value other holds kept = kept

first_holds : (a b : Bool) → (a && b) ≡ true → a ≡ true
first_holds true b both = refl
first_holds false b both = both

step_applies : (applies : AddressMapping → Bool) (len : AddressMapping → ℕ) (found : Option AddressMapping) (mapping : AddressMapping)
    → IfSome found (λ mapping. applies mapping ≡ true) → IfSome (better_of applies len found mapping) (λ mapping. applies mapping ≡ true)
step_applies applies len None mapping kept =
    chosen_applies (λ mapping. applies mapping ≡ true) (applies mapping) mapping None (λ holds. holds) kept
step_applies applies len (Some found) mapping kept =
    chosen_applies (λ mapping. applies mapping ≡ true) (applies mapping && nat_lt (len found) (len mapping)) mapping (Some found)
    (first_holds (applies mapping) (nat_lt (len found) (len mapping))) kept

found_applies : (applies : AddressMapping → Bool) (len : AddressMapping → ℕ) (mappings : List AddressMapping)
    (found : Option AddressMapping)
    → IfSome found (λ mapping. applies mapping ≡ true)
    → IfSome (fold (better_of applies len) found mappings) (λ mapping. applies mapping ≡ true)
found_applies applies len [] found kept = kept
found_applies applies len (mapping ∷ rest) found kept =
    found_applies applies len rest (better_of applies len found mapping) (step_applies applies len found mapping kept)

pub longest_applies : (applies : AddressMapping → Bool) (len : AddressMapping → ℕ) (mappings : List AddressMapping)
    (longest : AddressMapping)
    → fold (better_of applies len) None mappings ≡ Some longest → applies longest ≡ true
longest_applies applies len mappings longest finds =
    subst (λ found. IfSome found (λ mapping. applies mapping ≡ true)) finds (found_applies applies len mappings None tt)

-- ---- numbers there and back

mapped_fits : (mapping : AddressMapping) (number : ℕ) → mapped_to_ipv6 mapping number < 2 ^ 128
mapped_fits mapping number =
    let len = 32 - mapping.ipv4_len in
    let counted = mapping.ipv6_counted in
    let suffix = mapping.suffix_fits in
    let low = mod_below number (2 ^ len) (pow_pos len) in
    let joined = joined_fits mapping.ipv6 mapping.ipv6_len len (number % 2 ^ len) (mapping.ipv6_len + len) mapping.ipv6_fits low
    (omega arith) in
    shifted_fits _ (mapping.ipv6_len + len) ((128 - mapping.ipv6_len) - len) 128 joined (omega arith)

mapped_same : (mapping : AddressMapping) (number : ℕ) → is_ipv4_of number mapping ≡ true
    → mapped_to_ipv4 mapping (mapped_to_ipv6 mapping number) ≡ number
mapped_same mapping number applies =
    let len = 32 - mapping.ipv4_len in
    let prefix : number / 2 ^ len ≡ mapping.ipv4 = grind (arith, nat_tests, applies) in
    ap (λ start. mapping.ipv4 * 2 ^ len + start % 2 ^ len) (shl-shr (mapping.ipv6 * 2 ^ len + number % 2 ^ len) (ignored_len mapping))
    ∙ ap (λ low. mapping.ipv4 * 2 ^ len + low)
    (mod_low mapping.ipv6 len (number % 2 ^ len) (mod_below number (2 ^ len) (pow_pos len)))
    ∙ ap (λ high. high * 2 ^ len + number % 2 ^ len) (sym prefix)
    ∙ div-add-mod' number (2 ^ len)

-- ---- addresses there and back

-- an address that has the same mapping on both ways is the same address again
pub mapped_back : (table : AddressTable) (ipv4 : List ℕ) (mapping : AddressMapping) → length ipv4 ≡ 4 → IsBytes ipv4
    → mapping_of_ipv4 table ipv4 ≡ Some mapping → mapping_of_ipv6 table (embedded table ipv4) ≡ Some mapping
    → extracted table (embedded table ipv4) ≡ ipv4
mapped_back table ipv4 mapping len bytes there back =
    let number : ℕ = from_be_bytes w32 ipv4 in
    let new : ℕ = mapped_to_ipv6 mapping number in
    let is_new : embedded table ipv4 ≡ to_be_bytes w128 new = embedded_is table ipv4 number (Some mapping) refl there in
    let read : from_be_bytes w128 (embedded table ipv4) ≡ new =
    ap (from_be_bytes w128) is_new ∙ from_be_bytes-to_be_bytes_16 new (mapped_fits mapping number) in
    let applies = longest_applies (is_ipv4_of number) ipv4_len table.mappings.now mapping there in
    extracted_is table (embedded table ipv4) (from_be_bytes w128 (embedded table ipv4)) (Some mapping) refl back
    ∙ ap (λ read. to_be_bytes w32 (mapped_to_ipv4 mapping read)) read
    ∙ ap (to_be_bytes w32) (mapped_same mapping number applies)
    ∙ be_bytes_4 ipv4 number len bytes refl

-- an address without a mapping on both ways is the same address again
pub unmapped_back : (table : AddressTable) (ipv4 : List ℕ)
    → prefixes.extracted table.prefix (prefixes.embedded table.prefix ipv4) ≡ ipv4
    → mapping_of_ipv4 table ipv4 ≡ None → mapping_of_ipv6 table (embedded table ipv4) ≡ None
    → extracted table (embedded table ipv4) ≡ ipv4
unmapped_back table ipv4 by_prefix there back =
    extracted_is table (embedded table ipv4) (from_be_bytes w128 (embedded table ipv4)) None refl back
    ∙ ap (prefixes.extracted table.prefix) (embedded_is table ipv4 (from_be_bytes w32 ipv4) None refl there)
    ∙ by_prefix
