-- Laws of replaced bytes and numbers: of two replacements at one place, and of replacements at different places.
use Rattle.std.proofs.Common.{◌≡◌, ℕ, suc, ◌+◌, ◌-◌, ◌/◌, ◌%◌, ◌<◌, ◌≤◌, nat_le, Bool, true, false, if◌then◌else◌, List, [], ◌∷◌, ◌++◌, take, drop, slice_index, length, refl, sym, ap, ◌∙◌, subst, arith}
use Rattle.std.specs.Prelude.{◌↔◌}
use Rattle.std.proofs.Math.Logic.{⊎_elim}
use Rattle.std.proofs.lemmas.Bool.{cases_lt}
use Rattle.std.specs.Int.{to_be_bytes, w16}
use Rattle.std.proofs.lemmas.Bool.Decides.{nat_tests}
use Rattle.std.proofs.lemmas.List.{drop-drop, drop_at, get_or-drop, get_or-take, get_or_past, length-take, length-take-le, take-append-drop}
use Rattle.net_base.specs.Bytes.{IsBytes, be_number}
use Rattle.net_base.proofs.BytesLemmas.{to_be_bytes-be_number_2}
use Rattle.etherparse_transport.specs.Translations.{number, with_bytes, with_number}
use Rattle.etherparse_transport.proofs.TranslationReading.{drop_here, index_before, length_kept}
use Rattle.etherparse_transport.proofs.TranslationSums.{number_at, range_len, two_bytes}

-- ---- bytes

pub bytes_drop : (n : ℕ) (bytes : List ℕ) → IsBytes bytes → IsBytes (drop n bytes)
bytes_drop n bytes fits = λ k. subst (λ byte. byte < 256) (sym (get_or-drop n bytes k 0)) (fits (n + k))

pub bytes_take : (n : ℕ) (bytes : List ℕ) → IsBytes bytes → IsBytes (take n bytes)
bytes_take n bytes fits = λ k.
    ⊎_elim
    (λ (before : k < n). subst (λ byte. byte < 256) (sym (get_or-take n bytes k 0 before)) (fits k))
    (λ (past : n ≤ k). subst (λ byte. byte < 256) (sym (get_or_past (take n bytes) k 0 (omega (arith, past, length-take n bytes))))
    (omega arith))
    (cases_lt k n)

-- ---- replaced bytes

-- bytes consist of the bytes before a place, n bytes from the place on, and the rest
parts : (place n : ℕ) (bytes : List ℕ) → take place bytes ++ (take n (drop place bytes) ++ drop (place + n) bytes) ≡ bytes
parts place n bytes =
    ap (λ rest. take place bytes ++ (take n (drop place bytes) ++ rest)) (sym (drop-drop n place bytes))
    ∙ ap (λ rest. take place bytes ++ rest) (take-append-drop n (drop place bytes))
    ∙ take-append-drop place bytes

-- bytes that are replaced after the first byte
after_first : (byte : ℕ) (rest new : List ℕ) (place next : ℕ) → next ≡ suc place
    → with_bytes next new (byte ∷ rest) ≡ byte ∷ with_bytes place new rest
after_first byte rest new place next is =
    let further : suc place + length new ≡ suc (place + length new) = omega arith in
    ap (λ place. with_bytes place new (byte ∷ rest)) is
    ∙ ap (λ n. take (suc place) (byte ∷ rest) ++ (new ++ drop n (byte ∷ rest))) further

-- bytes that are replaced after a front
after_front : (front rest new : List ℕ) (place next : ℕ) → next ≡ length front + place
    → with_bytes next new (front ++ rest) ≡ front ++ with_bytes place new rest
after_front [] rest new place next is =
    let same : next ≡ place = omega (arith, is) in
    ap (λ place. with_bytes place new rest) same
after_front (byte ∷ front) rest new place next is =
    after_first byte (front ++ rest) new (length front + place) next (omega (arith, is))
    ∙ ap (λ rest. byte ∷ rest) (after_front front rest new place (length front + place) refl)

at_front : (front old new rest : List ℕ) (place : ℕ) → length front ≡ place → length old ≡ length new
    → with_bytes place new (front ++ (old ++ rest)) ≡ front ++ (new ++ rest)
at_front front old new rest place is same =
    after_front front (old ++ rest) new 0 place (omega (arith, is))
    ∙ ap (λ rest. front ++ (new ++ rest)) (drop_at old rest (0 + length new) (omega (arith, same)))

-- if bytes at a place are replaced twice, only the second replacement counts
pub bytes_again : (place : ℕ) (new other bytes : List ℕ) → place + length new ≤ length bytes → length other ≡ length new
    → with_bytes place other (with_bytes place new bytes) ≡ with_bytes place other bytes
bytes_again place new other bytes there same =
    at_front (take place bytes) new other (drop (place + length new) bytes) place (length-take-le place bytes (omega (arith, there)))
    (sym same)
    ∙ ap (λ n. take place bytes ++ (other ++ drop (place + n) bytes)) (sym same)

-- two replacements at places that do not overlap may be exchanged
pub bytes_apart : (place other : ℕ) (new late bytes : List ℕ) → place + length new ≤ other → other + length late ≤ length bytes
    → with_bytes place new (with_bytes other late bytes) ≡ with_bytes other late (with_bytes place new bytes)
bytes_apart place other new late bytes apart there =
    let front : List ℕ = take place bytes in
    let old : List ℕ = take (length new) (drop place bytes) in
    let rest : List ℕ = drop (place + length new) bytes in
    let more : ℕ = other - (place + length new) in
    let front_len : length front ≡ place = length-take-le place bytes (omega (arith, apart, there)) in
    let old_len : length old ≡ length new = range_len place (length new) bytes (omega (arith, apart, there)) in
    let place_is : other ≡ length front + (length old + more) = omega (arith, front_len, old_len, apart) in
    let place_is_too : other ≡ length front + (length new + more) = omega (arith, front_len, apart) in
    let behind : with_bytes other late bytes ≡ front ++ (old ++ with_bytes more late rest) =
    ap (λ bytes. with_bytes other late bytes) (sym (parts place (length new) bytes))
    ∙ after_front front (old ++ rest) late (length old + more) other place_is
    ∙ ap (λ rest. front ++ rest) (after_front old rest late more (length old + more) refl) in
    let behind_too : with_bytes other late (front ++ (new ++ rest)) ≡ front ++ (new ++ with_bytes more late rest) =
    after_front front (new ++ rest) late (length new + more) other place_is_too
    ∙ ap (λ rest. front ++ rest) (after_front new rest late more (length new + more) refl) in
    ap (with_bytes place new) behind ∙ at_front front old new (with_bytes more late rest) place front_len old_len ∙ sym behind_too

-- bytes that are replaced by themselves do not change
pub bytes_same : (place : ℕ) (new bytes : List ℕ) → place + length new ≤ length bytes → new ≡ take (length new) (drop place bytes)
    → with_bytes place new bytes ≡ bytes
bytes_same place new bytes there is =
    ap (λ part. take place bytes ++ (part ++ drop (place + length new) bytes)) is ∙ parts place (length new) bytes

-- bytes that are replaced by a range of themselves do not change
pub bytes_kept : (place n : ℕ) (bytes : List ℕ) → place + n ≤ length bytes → with_bytes place (take n (drop place bytes)) bytes ≡ bytes
bytes_kept place n bytes there =
    let part : List ℕ = take n (drop place bytes) in
    let len : length part ≡ n = range_len place n bytes there in
    bytes_same place part bytes (omega (arith, len, there)) (ap (λ n. take n (drop place bytes)) (sym len))

-- ---- replaced bytes that may be missing

-- `bytes` with `new` at this place; unchanged if they end before the end of `new`
abbrev pub put : ℕ → List ℕ → List ℕ → List ℕ
put place new bytes = if nat_le (place + length new) (length bytes) then with_bytes place new bytes else bytes

pub put_there : (place : ℕ) (new bytes : List ℕ) → place + length new ≤ length bytes → put place new bytes ≡ with_bytes place new bytes
put_there place new bytes room =
    let test : nat_le (place + length new) (length bytes) ≡ true = grind (arith, nat_tests) in
    ap (λ there. if there then with_bytes place new bytes else bytes) test

put_len_by : (there : Bool) (place : ℕ) (new bytes : List ℕ) → there ≡ nat_le (place + length new) (length bytes)
    → length (if there then with_bytes place new bytes else bytes) ≡ length bytes
put_len_by false place new bytes test = refl
put_len_by true place new bytes test = length_kept place new bytes (grind (arith, nat_tests))

pub put_len : (place : ℕ) (new bytes : List ℕ) → length (put place new bytes) ≡ length bytes
put_len place new bytes = put_len_by (nat_le (place + length new) (length bytes)) place new bytes refl

again_by : (there : Bool) (place : ℕ) (new other bytes : List ℕ) → there ≡ nat_le (place + length new) (length bytes)
    → length other ≡ length new
    → (if there then with_bytes place other (if there then with_bytes place new bytes else bytes)
    else (if there then with_bytes place new bytes else bytes))
    ≡ (if there then with_bytes place other bytes else bytes)
again_by false place new other bytes test same = refl
again_by true place new other bytes test same = bytes_again place new other bytes (grind (arith, nat_tests)) same

-- if bytes at a place are replaced twice, only the second replacement counts
pub put_again : (place : ℕ) (new other bytes : List ℕ) → length other ≡ length new
    → put place other (put place new bytes) ≡ put place other bytes
put_again place new other bytes same =
    let between : List ℕ = put place new bytes in
    let there : Bool = nat_le (place + length new) (length bytes) in
    ap (λ len. if nat_le (place + length other) len then with_bytes place other between else between) (put_len place new bytes)
    ∙ ap (λ n. if nat_le (place + n) (length bytes) then with_bytes place other between else between) same
    ∙ again_by there place new other bytes refl same
    ∙ ap (λ n. if nat_le (place + n) (length bytes) then with_bytes place other bytes else bytes) (sym same)

apart_by : (first second : Bool) (place other : ℕ) (new late bytes : List ℕ) → second ≡ nat_le (other + length late) (length bytes)
    → place + length new ≤ other
    → (if first then with_bytes place new (if second then with_bytes other late bytes else bytes)
    else (if second then with_bytes other late bytes else bytes))
    ≡ (if second then with_bytes other late (if first then with_bytes place new bytes else bytes)
    else (if first then with_bytes place new bytes else bytes))
apart_by true true place other new late bytes test apart = bytes_apart place other new late bytes apart (grind (arith, nat_tests))
apart_by true false place other new late bytes test apart = refl
apart_by false true place other new late bytes test apart = refl
apart_by false false place other new late bytes test apart = refl

-- two replacements at places that do not overlap may be exchanged
pub put_apart : (place other : ℕ) (new late bytes : List ℕ) → place + length new ≤ other
    → put place new (put other late bytes) ≡ put other late (put place new bytes)
put_apart place other new late bytes apart =
    let between : List ℕ = put other late bytes in
    let between_too : List ℕ = put place new bytes in
    ap (λ len. if nat_le (place + length new) len then with_bytes place new between else between) (put_len other late bytes)
    ∙ apart_by (nat_le (place + length new) (length bytes))
    (nat_le (other + length late) (length bytes)) place other new late bytes refl apart
    ∙ sym (ap (λ len. if nat_le (other + length late) len then with_bytes other late between_too else between_too)
    (put_len place new bytes))

-- bytes that are replaced by a range of themselves do not change
pub put_same : (place n : ℕ) (bytes : List ℕ) → place + n ≤ length bytes → put place (take n (drop place bytes)) bytes ≡ bytes
put_same place n bytes there =
    let part : List ℕ = take n (drop place bytes) in
    let len : length part ≡ n = range_len place n bytes there in
    put_there place part bytes (omega (arith, len, there))
    ∙ bytes_same place part bytes (omega (arith, len, there)) (ap (λ n. take n (drop place bytes)) (sym len))

-- ---- replaced numbers

-- if the number at a place is replaced twice, only the second replacement counts
pub number_again : (place value other : ℕ) (bytes : List ℕ)
    → with_number place other (with_number place value bytes) ≡ with_number place other bytes
number_again place value other bytes = put_again place (to_be_bytes w16 value) (to_be_bytes w16 other) bytes refl

-- two replaced numbers that do not overlap may be exchanged
pub number_apart : (place other value late : ℕ) (bytes : List ℕ) → place + 2 ≤ other
    → with_number place value (with_number other late bytes) ≡ with_number other late (with_number place value bytes)
number_apart place other value late bytes apart = put_apart place other (to_be_bytes w16 value) (to_be_bytes w16 late) bytes apart

same_by : (there : Bool) (place : ℕ) (bytes : List ℕ) → IsBytes bytes → there ≡ nat_le (place + 2) (length bytes)
    → (if there then with_bytes place (to_be_bytes w16 (if there then be_number bytes place 2 else 0)) bytes else bytes) ≡ bytes
same_by false place bytes fits test = refl
same_by true place bytes fits test =
    ap (λ rest. take place bytes ++ rest)
    (to_be_bytes-be_number_2 bytes place (place + 2) (be_number bytes place 2) (drop (place + 2) bytes) fits refl
    (grind (arith, nat_tests)) refl refl)
    ∙ take-append-drop place bytes

-- a number that is replaced by itself does not change
pub number_same : (place : ℕ) (bytes : List ℕ) → IsBytes bytes → with_number place (number place bytes) bytes ≡ bytes
number_same place bytes fits = same_by (nat_le (place + 2) (length bytes)) place bytes fits refl

-- ---- a number that is there

here_by : (place value : ℕ) (bytes : List ℕ) → place + 2 ≤ length bytes → value < 65536
    → be_number (with_bytes place (to_be_bytes w16 value) bytes) place 2 ≡ value
here_by place value bytes room small =
    let changed : List ℕ = with_bytes place (to_be_bytes w16 value) bytes in
    let whole : place + 2 ≤ length changed = omega (arith, room, length_kept place (to_be_bytes w16 value) bytes room) in
    let two = sym (two_bytes place changed whole) ∙ drop_here place (to_be_bytes w16 value) bytes room in
    let high : slice_index changed place ≡ value / 256 % 256 = ap (λ rest. slice_index rest 0) two in
    let low : slice_index changed (place + 1) ≡ value % 256 = ap (λ rest. slice_index rest 1) two in
    let first : slice_index changed (place + 0) ≡ slice_index changed place = ap (slice_index changed) (omega arith) in
    omega (arith, high, low, first, small)

pub number_here : (place value : ℕ) (bytes : List ℕ) → place + 2 ≤ length bytes → value < 65536
    → number place (with_number place value bytes) ≡ value
number_here place value bytes room small =
    let test : nat_le (place + 2) (length bytes) ≡ true = grind (arith, nat_tests) in
    let changed : List ℕ = with_bytes place (to_be_bytes w16 value) bytes in
    ap (λ there. number place (if there then changed else bytes)) test
    ∙ ap (λ len. if nat_le (place + 2) len then be_number changed place 2 else 0) (length_kept place (to_be_bytes w16 value) bytes room)
    ∙ ap (λ there. if there then be_number changed place 2 else 0) test
    ∙ here_by place value bytes room small

small_by : (there : Bool) (place : ℕ) (bytes : List ℕ) → IsBytes bytes → (if there then be_number bytes place 2 else 0) < 65536
small_by false place bytes fits = omega arith
small_by true place bytes fits = omega (arith, fits (place + 0), fits (place + 1))

pub number_small : (place : ℕ) (bytes : List ℕ) → IsBytes bytes → number place bytes < 65536
number_small place bytes fits = small_by (nat_le (place + 2) (length bytes)) place bytes fits

pub number_missing : (place : ℕ) (bytes : List ℕ) → length bytes < place + 2 → number place bytes ≡ 0
number_missing place bytes short =
    let test : nat_le (place + 2) (length bytes) ≡ false = grind (arith, nat_tests) in
    ap (λ there. if there then be_number bytes place 2 else 0) test

pub unchanged_missing : (place value : ℕ) (bytes : List ℕ) → length bytes < place + 2 → with_number place value bytes ≡ bytes
unchanged_missing place value bytes short =
    let test : nat_le (place + 2) (length bytes) ≡ false = grind (arith, nat_tests) in
    ap (λ there. if there then with_bytes place (to_be_bytes w16 value) bytes else bytes) test

put_before : (there : Bool) (place k : ℕ) (new bytes : List ℕ) → there ≡ nat_le (place + length new) (length bytes) → k < place
    → slice_index (if there then with_bytes place new bytes else bytes) k ≡ slice_index bytes k
put_before false place k new bytes test before = refl
put_before true place k new bytes test before = index_before place new bytes (grind (arith, nat_tests)) k before

-- a number in front of replaced bytes does not change
pub number_put : (place : ℕ) (new : List ℕ) (at : ℕ) (bytes : List ℕ) → at + 2 ≤ place → number at (put place new bytes) ≡ number at bytes
number_put place new at bytes before =
    let changed : List ℕ = put place new bytes in
    let there : Bool = nat_le (place + length new) (length bytes) in
    ap (λ len. if nat_le (at + 2) len then be_number changed at 2 else 0) (put_len place new bytes)
    ∙ number_at (nat_le (at + 2) (length bytes)) at bytes changed
    (put_before there place (at + 0) new bytes refl (omega (arith, before)))
    (put_before there place (at + 1) new bytes refl (omega (arith, before)))

-- ---- the addresses and the message

-- bytes that are replaced at two places, with the same length, and at a place after them
module _ (first second start n : ℕ) (apart : first + n ≤ second) (apart_too : second + n ≤ start) where
  abbrev pub replaced : List ℕ → List ℕ → List ℕ → List ℕ → List ℕ
  replaced source destination message bytes = put second destination (put first source (put start message bytes))

  pub replaced_again : (source destination message source_too destination_too message_too bytes : List ℕ) → length source ≡ n
      → length destination ≡ n
      → length source_too ≡ n → length destination_too ≡ n → length message_too ≡ length message
      → replaced source_too destination_too message_too (replaced source destination message bytes)
      ≡ replaced source_too destination_too message_too bytes
  replaced_again source destination message source_too destination_too message_too bytes is is_too is_three is_four same =
      let before : List ℕ = put start message bytes in
      let behind : put start message_too (put second destination (put first source before))
      ≡ put second destination (put first source (put start message_too bytes)) =
      sym (put_apart second start destination message_too (put first source before) (omega (arith, is_too, apart_too)))
      ∙ ap (put second destination) (sym (put_apart first start source message_too before (omega (arith, is, apart, apart_too)))
      ∙ ap (put first source) (put_again start message message_too bytes same)) in
      let after : List ℕ = put start message_too bytes in
      ap (λ bytes. put second destination_too (put first source_too bytes)) behind
      ∙ ap (put second destination_too) (put_apart first second source_too destination (put first source after)
      (omega (arith, is_three, apart))
      ∙ ap (put second destination) (put_again first source source_too after (is_three ∙ sym is)))
      ∙ put_again second destination destination_too (put first source_too after) (is_four ∙ sym is_too)

  pub replaced_number : (at value : ℕ) (source destination message bytes : List ℕ) → at + 2 ≤ first
      → with_number at value (replaced source destination message bytes) ≡ replaced source destination message (with_number at value bytes)
  replaced_number at value source destination message bytes before =
      let word : List ℕ = to_be_bytes w16 value in
      put_apart at second word destination (put first source (put start message bytes)) (omega (arith, before, apart))
      ∙ ap (put second destination) (put_apart at first word source (put start message bytes) before
      ∙ ap (put first source) (put_apart at start word message bytes (omega (arith, before, apart, apart_too))))

  pub replaced_same : (message bytes : List ℕ) → start ≤ length bytes
      → replaced (take n (drop first bytes)) (take n (drop second bytes)) message bytes ≡ put start message bytes
  replaced_same message bytes there =
      let source : List ℕ = take n (drop first bytes) in
      let destination : List ℕ = take n (drop second bytes) in
      let len : length source ≡ n = range_len first n bytes (omega (arith, apart, apart_too, there)) in
      let len_too : length destination ≡ n = range_len second n bytes (omega (arith, apart_too, there)) in
      ap (put second destination) (put_apart first start source message bytes (omega (arith, len, apart, apart_too))
      ∙ ap (put start message) (put_same first n bytes (omega (arith, apart, apart_too, there))))
      ∙ put_apart second start destination message bytes (omega (arith, len_too, apart_too))
      ∙ ap (put start message) (put_same second n bytes (omega (arith, apart_too, there)))

-- ---- equalities

-- a side of an equality may be replaced by something equal
pub iff_along : {T : Type 0} {P : Type 0} (left other right : T) → left ≡ other → (other ≡ right) ↔ P → (left ≡ right) ↔ P
iff_along left other right is iff = (λ same. iff.0 (sym is ∙ same), λ p. is ∙ iff.1 p)

-- ---- a checksum that comes back

-- bytes in which a checksum is stored are the old bytes exactly if `P` holds
pub checksum_back : {P : Type 0} (place checksum : ℕ) (bytes : List ℕ) → IsBytes bytes → checksum < 65536
    → (place + 2 ≤ length bytes → (checksum ≡ number place bytes) ↔ P) → (length bytes < place + 2 → P)
    → (with_number place checksum bytes ≡ bytes) ↔ P
checksum_back place checksum bytes fits small iff missing =
    ⊎_elim
    (λ (short : length bytes < place + 2). (λ same. missing short, λ p. unchanged_missing place checksum bytes short))
    (λ (room : place + 2 ≤ length bytes). (
      λ same. (iff room).0 (sym (number_here place checksum bytes room small) ∙ ap (number place) same),
      λ p. ap (λ checksum. with_number place checksum bytes) ((iff room).1 p) ∙ number_same place bytes fits,
    ))
    (cases_lt (length bytes) (place + 2))
