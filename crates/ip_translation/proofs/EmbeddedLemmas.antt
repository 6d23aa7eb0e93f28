-- An embedded address is extracted again, and an address with an IPv4 address is embedded again.
use Rattle.std.proofs.Common.{◌≡◌, ℕ, true, List, length, nat_eq, take, refl, subst, subst₂}
use Rattle.std.specs.Cmp.Lexicographic.{bytes_decides, pointwise}
use Rattle.ip_translation.specs.Prefixes.{embedded, extracted, is_embedded, octet_count, octets, with_zero_suffix, without_reserved}
use Rattle.ip_translation.specs.declared.prefix64.Prefix64.{Prefix64}
use Rattle.ip_translation.specs.declared.prefix64.Prefix64.TheVariants.{Bits32, Bits40, Bits48, Bits56, Bits64, Bits96}
use Rattle.ip_translation.proofs.ListedLemmas.{listed, whole}

-- a list is equal to itself
equal_self : (list : List ℕ) → pointwise nat_eq list list ≡ true
equal_self list = (bytes_decides list list).1 refl

-- an address that is made from a prefix and an IPv4 address contains an IPv4 address
pub embedded_is : (prefix : Prefix64) (ipv4 : List ℕ) → length (octets prefix) ≡ octet_count prefix → length ipv4 ≡ 4
    → is_embedded prefix (embedded prefix ipv4) ≡ true
embedded_is (Bits32 start) ipv4 len four =
    subst₂ (λ start ipv4. is_embedded (Bits32 start) (embedded (Bits32 start) ipv4) ≡ true) (whole start 4 len) (whole ipv4 4 four)
    (equal_self (listed start 0 4))
embedded_is (Bits40 start) ipv4 len four =
    subst₂ (λ start ipv4. is_embedded (Bits40 start) (embedded (Bits40 start) ipv4) ≡ true) (whole start 5 len) (whole ipv4 4 four)
    (equal_self (listed start 0 5))
embedded_is (Bits48 start) ipv4 len four =
    subst₂ (λ start ipv4. is_embedded (Bits48 start) (embedded (Bits48 start) ipv4) ≡ true) (whole start 6 len) (whole ipv4 4 four)
    (equal_self (listed start 0 6))
embedded_is (Bits56 start) ipv4 len four =
    subst₂ (λ start ipv4. is_embedded (Bits56 start) (embedded (Bits56 start) ipv4) ≡ true) (whole start 7 len) (whole ipv4 4 four)
    (equal_self (listed start 0 7))
embedded_is (Bits64 start) ipv4 len four =
    subst₂ (λ start ipv4. is_embedded (Bits64 start) (embedded (Bits64 start) ipv4) ≡ true) (whole start 8 len) (whole ipv4 4 four)
    (equal_self (listed start 0 8))
embedded_is (Bits96 start) ipv4 len four =
    subst₂ (λ start ipv4. is_embedded (Bits96 start) (embedded (Bits96 start) ipv4) ≡ true) (whole start 11 len) (whole ipv4 4 four)
    (equal_self (listed start 0 11))

-- an IPv4 address that is embedded is extracted again
pub extracted_back : (prefix : Prefix64) (ipv4 : List ℕ) → length (octets prefix) ≡ octet_count prefix → length ipv4 ≡ 4
    → extracted prefix (embedded prefix ipv4) ≡ ipv4
extracted_back (Bits32 start) ipv4 len four =
    subst₂ (λ start ipv4. extracted (Bits32 start) (embedded (Bits32 start) ipv4) ≡ ipv4) (whole start 4 len) (whole ipv4 4 four) refl
extracted_back (Bits40 start) ipv4 len four =
    subst₂ (λ start ipv4. extracted (Bits40 start) (embedded (Bits40 start) ipv4) ≡ ipv4) (whole start 5 len) (whole ipv4 4 four) refl
extracted_back (Bits48 start) ipv4 len four =
    subst₂ (λ start ipv4. extracted (Bits48 start) (embedded (Bits48 start) ipv4) ≡ ipv4) (whole start 6 len) (whole ipv4 4 four) refl
extracted_back (Bits56 start) ipv4 len four =
    subst₂ (λ start ipv4. extracted (Bits56 start) (embedded (Bits56 start) ipv4) ≡ ipv4) (whole start 7 len) (whole ipv4 4 four) refl
extracted_back (Bits64 start) ipv4 len four =
    subst₂ (λ start ipv4. extracted (Bits64 start) (embedded (Bits64 start) ipv4) ≡ ipv4) (whole start 8 len) (whole ipv4 4 four) refl
extracted_back (Bits96 start) ipv4 len four =
    subst₂ (λ start ipv4. extracted (Bits96 start) (embedded (Bits96 start) ipv4) ≡ ipv4) (whole start 11 len) (whole ipv4 4 four) refl

-- an address that begins with the prefix is embedded again, with a suffix of zeros
pub embedded_again : (prefix : Prefix64) (address : List ℕ) → length address ≡ 16
    → take (octet_count prefix) (without_reserved address) ≡ octets prefix
    → embedded prefix (extracted prefix address) ≡ with_zero_suffix prefix address
embedded_again (Bits32 start) address sixteen begins =
    subst (λ start. embedded (Bits32 start) (extracted (Bits32 start) address) ≡ with_zero_suffix (Bits32 start) address) begins
    (subst (λ address. embedded (Bits32 (take 4 (without_reserved address)))
    (extracted (Bits32 (take 4 (without_reserved address))) address)
    ≡ with_zero_suffix (Bits32 (take 4 (without_reserved address))) address) (whole address 16 sixteen) refl)
embedded_again (Bits40 start) address sixteen begins =
    subst (λ start. embedded (Bits40 start) (extracted (Bits40 start) address) ≡ with_zero_suffix (Bits40 start) address) begins
    (subst (λ address. embedded (Bits40 (take 5 (without_reserved address)))
    (extracted (Bits40 (take 5 (without_reserved address))) address)
    ≡ with_zero_suffix (Bits40 (take 5 (without_reserved address))) address) (whole address 16 sixteen) refl)
embedded_again (Bits48 start) address sixteen begins =
    subst (λ start. embedded (Bits48 start) (extracted (Bits48 start) address) ≡ with_zero_suffix (Bits48 start) address) begins
    (subst (λ address. embedded (Bits48 (take 6 (without_reserved address)))
    (extracted (Bits48 (take 6 (without_reserved address))) address)
    ≡ with_zero_suffix (Bits48 (take 6 (without_reserved address))) address) (whole address 16 sixteen) refl)
embedded_again (Bits56 start) address sixteen begins =
    subst (λ start. embedded (Bits56 start) (extracted (Bits56 start) address) ≡ with_zero_suffix (Bits56 start) address) begins
    (subst (λ address. embedded (Bits56 (take 7 (without_reserved address)))
    (extracted (Bits56 (take 7 (without_reserved address))) address)
    ≡ with_zero_suffix (Bits56 (take 7 (without_reserved address))) address) (whole address 16 sixteen) refl)
embedded_again (Bits64 start) address sixteen begins =
    subst (λ start. embedded (Bits64 start) (extracted (Bits64 start) address) ≡ with_zero_suffix (Bits64 start) address) begins
    (subst (λ address. embedded (Bits64 (take 8 (without_reserved address)))
    (extracted (Bits64 (take 8 (without_reserved address))) address)
    ≡ with_zero_suffix (Bits64 (take 8 (without_reserved address))) address) (whole address 16 sixteen) refl)
embedded_again (Bits96 start) address sixteen begins =
    subst (λ start. embedded (Bits96 start) (extracted (Bits96 start) address) ≡ with_zero_suffix (Bits96 start) address) begins
    (subst (λ address. embedded (Bits96 (take 11 (without_reserved address)))
    (extracted (Bits96 (take 11 (without_reserved address))) address)
    ≡ with_zero_suffix (Bits96 (take 11 (without_reserved address))) address) (whole address 16 sixteen) refl)

-- an address that passes the test begins with the prefix
pub begins_with : (a b : List ℕ) → pointwise nat_eq a b ≡ true → a ≡ b
begins_with a b same = (bytes_decides a b).0 same
