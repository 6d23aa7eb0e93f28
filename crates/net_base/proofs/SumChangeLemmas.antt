-- Laws of the totals of bytes of one length that differ in a word, in a byte, or by an exchange of words.
use Rattle.std.proofs.Common.{◌≡◌, ◌≢◌, ◌⊎◌, ℕ, zero, suc, ◌+◌, ◌*◌, ◌%◌, ◌<◌, ◌≤◌, Bool, true, false, List, [], ◌∷◌, length, inl, inr, refl, sym, ap, ◌∙◌, arith}
use Rattle.std.proofs.lemmas.Bool.Decides.{nat_tests}
use Rattle.std.specs.Prelude.{◌==◌, slice_index}
use Rattle.net_base.specs.Bytes.{be_number}
use Rattle.word_sum.specs.Checksum.{total}

-- bytes that are equal at each place have the same total
pub total_same : (bytes other : List ℕ) → length other ≡ length bytes → ((at : ℕ) → slice_index other at ≡ slice_index bytes at)
    → total other ≡ total bytes
total_same [] [] same_len same = refl
total_same (a ∷ []) (b ∷ []) same_len same = omega (arith, same 0)
total_same (a ∷ (b ∷ bytes)) (c ∷ (d ∷ other)) same_len same =
    omega (arith, same 0, same 1, total_same bytes other (omega arith) (λ at. same (suc (suc at))))
total_same [] (b ∷ other) same_len same = absurd (omega arith)
total_same (a ∷ bytes) [] same_len same = absurd (omega arith)
total_same (a ∷ []) (c ∷ (d ∷ other)) same_len same = absurd (omega arith)
total_same (a ∷ (b ∷ bytes)) (c ∷ []) same_len same = absurd (omega arith)

-- a number two places later, in bytes with two more bytes at the front
number_later : (a b : ℕ) (bytes : List ℕ) (place : ℕ) → be_number (a ∷ (b ∷ bytes)) (suc (suc place)) 2 ≡ be_number bytes place 2
number_later a b bytes place =
    let first : suc (suc place) + 0 ≡ suc (suc (place + 0)) = omega arith in
    let second : suc (suc place) + 1 ≡ suc (suc (place + 1)) = omega arith in
    rw (first, second) refl

-- the totals of bytes that differ only in one aligned word
pub total_word_changed : (bytes other : List ℕ) (place : ℕ) → length other ≡ length bytes → place % 2 ≡ 0 → place + 2 ≤ length bytes
    → ((at : ℕ) → at ≢ place → at ≢ place + 1 → slice_index other at ≡ slice_index bytes at)
    → total other + be_number bytes place 2 ≡ total bytes + be_number other place 2
total_word_changed (a ∷ (b ∷ bytes)) (c ∷ (d ∷ other)) zero same_len aligned within same =
    omega (arith, total_same bytes other (omega arith) (λ at. same (suc (suc at)) (λ e. omega (arith, e)) (λ e. omega (arith, e))))
total_word_changed bytes other (suc zero) same_len aligned within same = absurd (omega arith)
total_word_changed (a ∷ (b ∷ bytes)) (c ∷ (d ∷ other)) (suc (suc place)) same_len aligned within same =
    let first : c ≡ a = same 0 (λ e. omega (arith, e)) (λ e. omega (arith, e)) in
    let second : d ≡ b = same 1 (λ e. omega (arith, e)) (λ e. omega (arith, e)) in
    let later = total_word_changed bytes other place (omega arith) (omega arith) (omega arith)
    (λ at not_first not_second. same (suc (suc at)) (λ e. not_first (omega (arith, e))) (λ e. not_second (omega (arith, e)))) in
    omega (arith, first, second, later, number_later a b bytes place, number_later c d other place)
total_word_changed [] other place same_len aligned within same = absurd (omega arith)
total_word_changed (a ∷ []) other place same_len aligned within same = absurd (omega arith)
total_word_changed (a ∷ (b ∷ bytes)) [] place same_len aligned within same = absurd (omega arith)
total_word_changed (a ∷ (b ∷ bytes)) (c ∷ []) place same_len aligned within same = absurd (omega arith)

-- the weight of a byte at this place: the high or the low half of a word
pub weight : ℕ → ℕ
weight zero = 256
weight (suc zero) = 1
weight (suc (suc place)) = weight place

pub weight-either : (place : ℕ) → (weight place ≡ 256) ⊎ (weight place ≡ 1)
unfolding weight
weight-either zero = inl refl
weight-either (suc zero) = inr refl
weight-either (suc (suc place)) = weight-either place

-- the totals of bytes that differ only in one byte
pub total_byte_changed : (bytes other : List ℕ) (place : ℕ) → length other ≡ length bytes → place < length bytes
    → ((at : ℕ) → at ≢ place → slice_index other at ≡ slice_index bytes at)
    → total other + slice_index bytes place * weight place ≡ total bytes + slice_index other place * weight place
unfolding weight
total_byte_changed (a ∷ []) (c ∷ []) zero same_len within same = omega arith
total_byte_changed (a ∷ []) other (suc place) same_len within same = absurd (omega arith)
total_byte_changed (a ∷ (b ∷ bytes)) (c ∷ (d ∷ other)) zero same_len within same =
    let second : d ≡ b = same 1 (λ e. omega (arith, e)) in
    omega (arith, second, total_same bytes other (omega arith) (λ at. same (suc (suc at)) (λ e. omega (arith, e))))
total_byte_changed (a ∷ (b ∷ bytes)) (c ∷ (d ∷ other)) (suc zero) same_len within same =
    let first : c ≡ a = same 0 (λ e. omega (arith, e)) in
    omega (arith, first, total_same bytes other (omega arith) (λ at. same (suc (suc at)) (λ e. omega (arith, e))))
total_byte_changed (a ∷ (b ∷ bytes)) (c ∷ (d ∷ other)) (suc (suc place)) same_len within same =
    let first : c ≡ a = same 0 (λ e. omega (arith, e)) in
    let second : d ≡ b = same 1 (λ e. omega (arith, e)) in
    let later = total_byte_changed bytes other place (omega arith) (omega arith)
    (λ at not_here. same (suc (suc at)) (λ e. not_here (omega (arith, e)))) in
    omega (arith, first, second, later)
total_byte_changed [] other place same_len within same = absurd (omega arith)
total_byte_changed (a ∷ []) [] place same_len within same = absurd (omega arith)
total_byte_changed (a ∷ []) (c ∷ (d ∷ other)) place same_len within same = absurd (omega arith)
total_byte_changed (a ∷ (b ∷ bytes)) [] place same_len within same = absurd (omega arith)
total_byte_changed (a ∷ (b ∷ bytes)) (c ∷ []) place same_len within same = absurd (omega arith)

-- the totals of bytes that differ only in two aligned words
pub total_words_changed : (bytes other : List ℕ) (first second : ℕ) → first ≢ second → length other ≡ length bytes
    → first % 2 ≡ 0 → second % 2 ≡ 0 → first + 2 ≤ length bytes → second + 2 ≤ length bytes
    → ((at : ℕ) → at ≢ first → at ≢ first + 1 → at ≢ second → at ≢ second + 1 → slice_index other at ≡ slice_index bytes at)
    → total other + be_number bytes first 2 + be_number bytes second 2 ≡ total bytes + be_number other first 2 + be_number other second 2
total_words_changed bytes other zero zero apart same_len aligned aligned_too within within_too same = absurd (apart refl)
total_words_changed bytes other (suc zero) second apart same_len aligned aligned_too within within_too same = absurd (omega arith)
total_words_changed bytes other first (suc zero) apart same_len aligned aligned_too within within_too same = absurd (omega arith)
total_words_changed (a ∷ (b ∷ bytes)) (c ∷ (d ∷ other)) zero (suc (suc second)) apart same_len aligned aligned_too within within_too same =
    omega (
      arith,
      number_later a b bytes second,
      number_later c d other second,
      total_word_changed bytes other second (omega arith) (omega arith) (omega arith)
          (λ at not_first not_second. same (suc (suc at)) (λ e. omega (arith, e)) (λ e. omega (arith, e))
          (λ e. not_first (omega (arith, e))) (λ e. not_second (omega (arith, e)))),
    )
total_words_changed (a ∷ (b ∷ bytes)) (c ∷ (d ∷ other)) (suc (suc first)) zero apart same_len aligned aligned_too within within_too same =
    omega (
      arith,
      number_later a b bytes first,
      number_later c d other first,
      total_word_changed bytes other first (omega arith) (omega arith) (omega arith)
          (λ at not_first not_second. same (suc (suc at)) (λ e. not_first (omega (arith, e))) (λ e. not_second (omega (arith, e)))
          (λ e. omega (arith, e)) (λ e. omega (arith, e))),
    )
total_words_changed (a ∷ (b ∷ bytes)) (c ∷ (d ∷ other)) (suc (suc first))
    (suc (suc second)) apart same_len aligned aligned_too within within_too same =
    let high : c ≡ a = same 0 (λ e. omega (arith, e)) (λ e. omega (arith, e)) (λ e. omega (arith, e)) (λ e. omega (arith, e)) in
    let low : d ≡ b = same 1 (λ e. omega (arith, e)) (λ e. omega (arith, e)) (λ e. omega (arith, e)) (λ e. omega (arith, e)) in
    let later = total_words_changed bytes other first second (λ e. apart (omega (arith, e))) (omega arith) (omega arith) (omega arith)
    (omega arith) (omega arith)
    (λ at not_first not_next not_second not_last.
    same (suc (suc at)) (λ e. not_first (omega (arith, e))) (λ e. not_next (omega (arith, e))) (λ e. not_second (omega (arith, e)))
    (λ e. not_last (omega (arith, e)))) in
    omega (
      arith,
      high,
      low,
      later,
      number_later a b bytes first,
      number_later c d other first,
      number_later a b bytes second,
      number_later c d other second,
    )
total_words_changed [] other first second apart same_len aligned aligned_too within within_too same = absurd (omega arith)
total_words_changed (a ∷ []) other first second apart same_len aligned aligned_too within within_too same = absurd (omega arith)
total_words_changed (a ∷ (b ∷ bytes)) [] first second apart same_len aligned aligned_too within within_too same = absurd (omega arith)
total_words_changed (a ∷ (b ∷ bytes)) (c ∷ []) first second apart same_len aligned aligned_too within within_too same = absurd (omega arith)

-- an exchange of two aligned words changes no total
exchanged_apart : (bytes other : List ℕ) (first second : ℕ) (one_word : Bool) → (first == second) ≡ one_word → length other ≡ length bytes
    → first % 2 ≡ 0 → second % 2 ≡ 0 → first + 2 ≤ length bytes → second + 2 ≤ length bytes
    → be_number other first 2 ≡ be_number bytes second 2 → be_number other second 2 ≡ be_number bytes first 2
    → ((at : ℕ) → at ≢ first → at ≢ first + 1 → at ≢ second → at ≢ second + 1 → slice_index other at ≡ slice_index bytes at)
    → total other ≡ total bytes
exchanged_apart bytes other first second true is_one same_len aligned aligned_too within within_too exchanged exchanged_too same =
    let one : first ≡ second = grind (arith, nat_tests) in
    let word : be_number other first 2 ≡ be_number bytes first 2 = exchanged ∙ ap (λ place. be_number bytes place 2) (sym one) in
    let changed = total_word_changed bytes other first same_len aligned within
    (λ at not_first not_next. same at not_first not_next (λ e. not_first (omega (arith, e))) (λ e. not_next (omega (arith, e)))) in
    omega (arith, word, changed)
exchanged_apart bytes other first second false is_one same_len aligned aligned_too within within_too exchanged exchanged_too same =
    let changed = total_words_changed bytes other first second
    (grind (arith, nat_tests)) same_len aligned aligned_too within within_too same in
    omega (arith, exchanged, exchanged_too, changed)

pub total_exchanged : (bytes other : List ℕ) (first second : ℕ) → length other ≡ length bytes
    → first % 2 ≡ 0 → second % 2 ≡ 0 → first + 2 ≤ length bytes → second + 2 ≤ length bytes
    → be_number other first 2 ≡ be_number bytes second 2 → be_number other second 2 ≡ be_number bytes first 2
    → ((at : ℕ) → at ≢ first → at ≢ first + 1 → at ≢ second → at ≢ second + 1 → slice_index other at ≡ slice_index bytes at)
    → total other ≡ total bytes
total_exchanged bytes other first second = exchanged_apart bytes other first second (first == second) refl
