-- The front of some bytes is exactly one of these: the end, a fault, or an element.
use Rattle.std.proofs.Common.{◌≡◌, ◌≢◌, ℕ, suc, ◌+◌, ◌*◌, ◌%◌, ◌/◌, ◌≤◌, ◌⊎◌, inl, inr, List, [], ◌∷◌, ◌++◌, length, take, drop, Option, Some, None, length-append, refl, sym, ap, ◌∙◌, subst, arith}
use Rattle.std.specs.Prelude.{◌==◌, if◌then◌else◌, slice_index}
use Rattle.std.proofs.lemmas.Bool.Decides.{nat_tests}
use Rattle.std.proofs.lemmas.List.{append_cancel_left, drop_all}
use Rattle.std.proofs.lemmas.Nat.{from_be_bytes-to_be_bytes_2, from_be_bytes-to_be_bytes_4}
use Rattle.std.specs.Int.{to_be_bytes, from_be_bytes, w16, w32}
use Rattle.net_base.specs.Bytes.{IsBytes, be_number}
use Rattle.tcp_part.specs.TcpOptions.{front, pair, spelling}
use Rattle.tcp_part.specs.TcpOptionsReading.{BeginsWith, Ends, IsInRange, IsPair, fault, fault_of_kind}
use Rattle.tcp_part.specs.declared.tcp_option_element.TcpOptionElement.{TcpOptionElement}
use Rattle.tcp_part.specs.declared.tcp_option_element.TcpOptionElement.TheVariants.{Noop, MaximumSegmentSize, WindowScale, SelectiveAcknowledgementPermitted, SelectiveAcknowledgement, Timestamp}
use Rattle.net_base.specs.declared.tcp_option_read_error.TcpOptionReadError.{TcpOptionReadError}
use Rattle.tcp_part.proofs.TcpOptionsLemmas.{length-pair, pair-be_number}

-- the rest of some bytes consists of bytes
pub IsBytes-rest : (before rest : List ℕ) → IsBytes (before ++ rest) → IsBytes rest
IsBytes-rest [] rest fits = fits
IsBytes-rest (byte ∷ before) rest fits = IsBytes-rest before rest (λ place. fits (suc place))

-- ---- at most one

-- bytes that begin with an element do not end there
begins_no_end : (element : TcpOptionElement) (rest : List ℕ) → Ends (spelling element ++ rest) → ⊥
begins_no_end Noop rest (inl none) = omega arith
begins_no_end Noop rest (inr end) = omega arith
begins_no_end (MaximumSegmentSize size) rest (inl none) = omega arith
begins_no_end (MaximumSegmentSize size) rest (inr end) = omega arith
begins_no_end (WindowScale shift) rest (inl none) = omega arith
begins_no_end (WindowScale shift) rest (inr end) = omega arith
begins_no_end SelectiveAcknowledgementPermitted rest (inl none) = omega arith
begins_no_end SelectiveAcknowledgementPermitted rest (inr end) = omega arith
begins_no_end (SelectiveAcknowledgement first more) rest (inl none) = omega arith
begins_no_end (SelectiveAcknowledgement first more) rest (inr end) = omega arith
begins_no_end (Timestamp value echo) rest (inl none) = omega arith
begins_no_end (Timestamp value echo) rest (inr end) = omega arith

-- bytes that end have no fault
ends_no_fault : (bytes : List ℕ) → Ends bytes → fault bytes ≡ None
ends_no_fault [] end = refl
ends_no_fault (kind ∷ bytes) (inl none) = absurd (omega arith)
ends_no_fault (kind ∷ bytes) (inr end) = ap (λ k. fault (k ∷ bytes)) end

-- bytes that begin with an element have no fault
begins_no_fault : (element : TcpOptionElement) (rest : List ℕ) → front element ≡ element → IsInRange element
    → fault (spelling element ++ rest) ≡ None
unfolding pair
begins_no_fault Noop rest back fits = refl
begins_no_fault (MaximumSegmentSize size) rest back fits = grind (arith, nat_tests)
begins_no_fault (WindowScale shift) rest back fits = grind (arith, nat_tests)
begins_no_fault SelectiveAcknowledgementPermitted rest back fits = grind (arith, nat_tests)
begins_no_fault (SelectiveAcknowledgement first (None ∷ None ∷ None ∷ [])) rest back fits = grind (arith, nat_tests)
begins_no_fault (SelectiveAcknowledgement first (Some a ∷ None ∷ None ∷ [])) rest back fits = grind (arith, nat_tests)
begins_no_fault (SelectiveAcknowledgement first (Some a ∷ Some b ∷ None ∷ [])) rest back fits = grind (arith, nat_tests)
begins_no_fault (SelectiveAcknowledgement first (Some a ∷ Some b ∷ Some c ∷ [])) rest back fits = grind (arith, nat_tests)
begins_no_fault (SelectiveAcknowledgement first more) rest back fits = absurd (first_of (omega arith, cc))
begins_no_fault (Timestamp value echo) rest back fits = grind (arith, nat_tests)

-- ---- the element at the front, as a function

-- two numbers of 32 bits at the front of bytes
abbrev front_pair : List ℕ → ℕ × ℕ
front_pair bytes = (from_be_bytes w32 (take 4 bytes), from_be_bytes w32 (take 4 (drop 4 bytes)))

-- the blocks after the first block, given the length byte
abbrev more_blocks : ℕ → List ℕ → List (Option (ℕ × ℕ))
more_blocks size bytes =
    if size == 10 then None ∷ None ∷ None ∷ []
    else if size == 18 then Some (front_pair bytes) ∷ None ∷ None ∷ []
    else if size == 26 then Some (front_pair bytes) ∷ Some (front_pair (drop 8 bytes)) ∷ None ∷ []
    else Some (front_pair bytes) ∷ Some (front_pair (drop 8 bytes)) ∷ Some (front_pair (drop 16 bytes)) ∷ []

-- the element with this kind, this length byte, and these bytes after them
abbrev element_of : ℕ → ℕ → List ℕ → TcpOptionElement
element_of kind size value =
    if kind == 1 then Noop
    else if kind == 2 then MaximumSegmentSize (from_be_bytes w16 (take 2 value))
    else if kind == 3 then WindowScale (slice_index value 0)
    else if kind == 4 then SelectiveAcknowledgementPermitted
    else if kind == 5 then SelectiveAcknowledgement (front_pair value) (more_blocks size (drop 8 value))
    else Timestamp (front_pair value).0 (front_pair value).1

abbrev element_at_front : List ℕ → TcpOptionElement
element_at_front bytes = element_of (slice_index bytes 0) (slice_index bytes 1) (drop 2 bytes)

pair_back : (numbers : ℕ × ℕ) → IsPair numbers
    → (from_be_bytes w32 (to_be_bytes w32 numbers.0), from_be_bytes w32 (to_be_bytes w32 numbers.1)) ≡ numbers
pair_back numbers fits =
    let first = from_be_bytes-to_be_bytes_4 numbers.0 fits.0 in
    let second = from_be_bytes-to_be_bytes_4 numbers.1 fits.1 in
    ap (λ n. (n, from_be_bytes w32 (to_be_bytes w32 numbers.1))) first ∙ ap (λ n. (numbers.0, n)) second

element_at_front-spelling : (element : TcpOptionElement) (rest : List ℕ) → front element ≡ element → IsInRange element
    → element_at_front (spelling element ++ rest) ≡ element
unfolding pair
element_at_front-spelling Noop rest back fits = refl
element_at_front-spelling (MaximumSegmentSize size) rest back fits = ap (λ n. MaximumSegmentSize n) (from_be_bytes-to_be_bytes_2 size fits)
element_at_front-spelling (WindowScale shift) rest back fits = refl
element_at_front-spelling SelectiveAcknowledgementPermitted rest back fits = refl
element_at_front-spelling (SelectiveAcknowledgement first (None ∷ None ∷ None ∷ [])) rest back fits =
    ap (λ p. SelectiveAcknowledgement p (None ∷ None ∷ None ∷ [])) (pair_back first fits.0)
element_at_front-spelling (SelectiveAcknowledgement first (Some a ∷ None ∷ None ∷ [])) rest back fits =
    let one = pair_back first fits.0 in
    let two = pair_back a fits.2.0 in
    cc
element_at_front-spelling (SelectiveAcknowledgement first (Some a ∷ Some b ∷ None ∷ [])) rest back fits =
    let one = pair_back first fits.0 in
    let two = pair_back a fits.2.0 in
    let three = pair_back b fits.2.1.0 in
    cc
element_at_front-spelling (SelectiveAcknowledgement first (Some a ∷ Some b ∷ Some c ∷ [])) rest back fits =
    let one = pair_back first fits.0 in
    let two = pair_back a fits.2.0 in
    let three = pair_back b fits.2.1.0 in
    let four = pair_back c fits.2.1.1.0 in
    cc
element_at_front-spelling (SelectiveAcknowledgement first more) rest back fits = absurd (first_of (omega arith, cc))
element_at_front-spelling (Timestamp value echo) rest back fits = ap (λ (p : ℕ × ℕ). Timestamp p.0 p.1) (pair_back (value, echo) fits)

-- two elements at one front are the same element, and the same bytes follow them
pub one_front : (bytes : List ℕ) (element other : TcpOptionElement) (rest after : List ℕ) → BeginsWith bytes element rest
    → BeginsWith bytes other after
    → (element ≡ other) × (rest ≡ after)
one_front bytes element other rest after begins again =
    let same : element ≡ other =
    sym (element_at_front-spelling element rest begins.read_back begins.in_range) ∙ ap element_at_front (sym begins.spelled ∙ again.spelled)
    ∙ element_at_front-spelling other after again.read_back again.in_range in
    let spelled : spelling element ++ rest ≡ spelling element ++ after =
    sym begins.spelled ∙ again.spelled ∙ ap (λ e. spelling e ++ after) (sym same) in
    (same, append_cancel_left (spelling element) rest after spelled)

-- bytes that begin with an element do not end, and have no fault; bytes that end have no fault
pub begins_ends : (bytes : List ℕ) (element : TcpOptionElement) (rest : List ℕ) → BeginsWith bytes element rest → Ends bytes → ⊥
begins_ends bytes element rest begins end = begins_no_end element rest (subst Ends begins.spelled end)

pub begins_fault : (bytes : List ℕ) (element : TcpOptionElement) (rest : List ℕ) (error : TcpOptionReadError)
    → BeginsWith bytes element rest → fault bytes ≡ Some error → ⊥
begins_fault bytes element rest error begins wrong =
    let right : fault bytes ≡ None = ap fault begins.spelled ∙ begins_no_fault element rest begins.read_back begins.in_range in
    cc

pub ends_fault : (bytes : List ℕ) (error : TcpOptionReadError) → Ends bytes → fault bytes ≡ Some error → ⊥
ends_fault bytes error end wrong =
    let right = ends_no_fault bytes end in
    cc

-- ---- at least one

-- the kinds and lengths of options without a fault
kinds_without_fault : (kind size left : ℕ) → kind ≢ 0 → fault_of_kind kind size left ≡ None
    → (kind ≡ 1)
    ⊎ (((kind ≡ 2) × (size ≡ 4) × (4 ≤ left))
    ⊎ (((kind ≡ 3) × (size ≡ 3) × (3 ≤ left))
    ⊎ (((kind ≡ 4) × (size ≡ 2) × (2 ≤ left))
    ⊎ (((kind ≡ 8) × (size ≡ 10) × (10 ≤ left))
    ⊎ ((kind ≡ 5) × ((size ≡ 10) ⊎ ((size ≡ 18) ⊎ ((size ≡ 26) ⊎ (size ≡ 34)))) × (size ≤ left))))))
kinds_without_fault kind size left no_end no_fault = grind (arith, nat_tests)

-- a statement that holds for two numbers of 32 bits at the front and the bytes after them
with_front_pair : {P : Type 0} (bytes : List ℕ) → IsBytes bytes → 8 ≤ length bytes
    → ((numbers : ℕ × ℕ) (rest : List ℕ) → bytes ≡ pair numbers ++ rest → IsPair numbers → length rest + 8 ≡ length bytes → IsBytes rest
    → P) → P
with_front_pair bytes fits there result =
    let numbers : ℕ × ℕ = (be_number bytes 0 4, be_number bytes 4 4) in
    let spelled : bytes ≡ pair numbers ++ drop 8 bytes =
    sym (pair-be_number bytes 0 8 numbers.0 numbers.1 _ fits refl there refl refl refl) in
    let sum = ap length spelled ∙ length-append (pair numbers) (drop 8 bytes) in
    let eight = length-pair numbers in
    result numbers (drop 8 bytes) spelled (omega (arith, fits 0, fits 1, fits 2, fits 3), omega (arith, fits 4, fits 5, fits 6, fits 7))
    (omega arith)
    (IsBytes-rest (pair numbers) (drop 8 bytes) (subst IsBytes spelled fits))

-- the bytes begin with an element; the lemmas below find it, given its kind, its length byte and the number of bytes left
abbrev BeginsWithSome : List ℕ → Type 0
BeginsWithSome bytes = (element : TcpOptionElement) × (rest : List ℕ) × BeginsWith bytes element rest

begins_noop : (bytes : List ℕ) → 1 ≤ length bytes → slice_index bytes 0 ≡ 1 → BeginsWithSome bytes
begins_noop [] there kind = absurd (omega arith)
begins_noop (first ∷ bytes) there kind = (Noop, bytes, record { spelled = ap (λ k. k ∷ bytes) kind; read_back = refl; in_range = tt })

begins_segment_size : (bytes : List ℕ) → IsBytes bytes → 4 ≤ length bytes → slice_index bytes 0 ≡ 2 → slice_index bytes 1 ≡ 4
    → BeginsWithSome bytes
begins_segment_size (first ∷ second ∷ high ∷ low ∷ bytes) fits there kind size =
    let number : ℕ = high * 256 + low in
    let upper : high ≡ number / 256 % 256 = omega (arith, fits 2, fits 3) in
    let lower : low ≡ number % 256 = omega (arith, fits 2, fits 3) in
    (MaximumSegmentSize number, bytes, record { spelled = cc; read_back = refl; in_range = omega (arith, fits 2, fits 3) })
begins_segment_size bytes fits there kind size = absurd (omega arith)

begins_window_scale : (bytes : List ℕ) → IsBytes bytes → 3 ≤ length bytes → slice_index bytes 0 ≡ 3 → slice_index bytes 1 ≡ 3
    → BeginsWithSome bytes
begins_window_scale (first ∷ second ∷ shift ∷ bytes) fits there kind size =
    (WindowScale shift, bytes, record { spelled = cc; read_back = refl; in_range = fits 2 })
begins_window_scale bytes fits there kind size = absurd (omega arith)

begins_permitted : (bytes : List ℕ) → 2 ≤ length bytes → slice_index bytes 0 ≡ 4 → slice_index bytes 1 ≡ 2 → BeginsWithSome bytes
begins_permitted (first ∷ second ∷ bytes) there kind size =
    (SelectiveAcknowledgementPermitted, bytes, record { spelled = cc; read_back = refl; in_range = tt })
begins_permitted bytes there kind size = absurd (omega arith)

begins_timestamp : (bytes : List ℕ) → IsBytes bytes → 10 ≤ length bytes → slice_index bytes 0 ≡ 8 → slice_index bytes 1 ≡ 10
    → BeginsWithSome bytes
unfolding pair
begins_timestamp (first ∷ second ∷ value) fits there kind size =
    with_front_pair value (λ place. fits (suc (suc place))) (omega arith) (λ numbers rest e numbers_fit less rest_fits. (
      Timestamp numbers.0 numbers.1,
      rest,
      record {
        spelled = ap (λ k. k ∷ second ∷ value) kind ∙ ap (λ s. 8 ∷ s ∷ value) size ∙ ap (λ b. 8 ∷ 10 ∷ b) e;
        read_back = refl;
        in_range = numbers_fit;
      },
    ))
begins_timestamp bytes fits there kind size = absurd (omega arith)

-- kind and length and then one to four blocks are a selective acknowledgement
one_block : (first : ℕ × ℕ) (value rest : List ℕ) → value ≡ pair first ++ rest → IsPair first
    → BeginsWith (5 ∷ 10 ∷ value) (SelectiveAcknowledgement first (None ∷ None ∷ None ∷ [])) rest
unfolding pair
one_block first value rest e fits = record {
  spelled = ap (λ b. 5 ∷ 10 ∷ b) e;
  read_back = refl;
  in_range = (fits, refl, (tt, (tt, (tt, tt))));
}

two_blocks : (first a : ℕ × ℕ) (value after rest : List ℕ) → value ≡ pair first ++ after → after ≡ pair a ++ rest → IsPair first → IsPair a
    → BeginsWith (5 ∷ 18 ∷ value) (SelectiveAcknowledgement first (Some a ∷ None ∷ None ∷ [])) rest
unfolding pair
two_blocks first a value after rest e f fits a_fits = record {
  spelled = ap (λ b. 5 ∷ 18 ∷ b) (e ∙ ap (λ b. pair first ++ b) f);
  read_back = refl;
  in_range = (fits, refl, (a_fits, (tt, (tt, tt))));
}

three_blocks : (first a b : ℕ × ℕ) (value after after_a rest : List ℕ) → value ≡ pair first ++ after → after ≡ pair a ++ after_a
    → after_a ≡ pair b ++ rest
    → IsPair first → IsPair a → IsPair b → BeginsWith (5 ∷ 26 ∷ value) (SelectiveAcknowledgement first (Some a ∷ Some b ∷ None ∷ [])) rest
unfolding pair
three_blocks first a b value after after_a rest e f g fits a_fits b_fits = record {
  spelled = ap (λ b. 5 ∷ 26 ∷ b) (e ∙ ap (λ b. pair first ++ b) (f ∙ ap (λ b. pair a ++ b) g));
  read_back = refl;
  in_range = (fits, refl, (a_fits, (b_fits, (tt, tt))));
}

four_blocks : (first a b c : ℕ × ℕ) (value after after_a after_b rest : List ℕ) → value ≡ pair first ++ after → after ≡ pair a ++ after_a
    → after_a ≡ pair b ++ after_b → after_b ≡ pair c ++ rest → IsPair first → IsPair a → IsPair b → IsPair c
    → BeginsWith (5 ∷ 34 ∷ value) (SelectiveAcknowledgement first (Some a ∷ Some b ∷ Some c ∷ [])) rest
unfolding pair
four_blocks first a b c value after after_a after_b rest e f g h fits a_fits b_fits c_fits = record {
  spelled = ap (λ b. 5 ∷ 34 ∷ b) (e ∙ ap (λ b. pair first ++ b) (f ∙ ap (λ b. pair a ++ b) (g ∙ ap (λ x. pair b ++ x) h)));
  read_back = refl;
  in_range = (fits, refl, (a_fits, (b_fits, (c_fits, tt))));
}

-- kind and length and then exactly four blocks are a selective acknowledgement
pub four_blocks_alone : (value : List ℕ) (first a b c : ℕ × ℕ) → length value ≡ 32
    → pair first ++ drop 8 value ≡ value → pair a ++ drop 16 value ≡ drop 8 value → pair b ++ drop 24 value ≡ drop 16 value
    → pair c ++ drop 32 value ≡ drop 24 value
    → IsPair first → IsPair a → IsPair b → IsPair c
    → BeginsWith (5 ∷ (length value + 2) ∷ value) (SelectiveAcknowledgement first (Some a ∷ Some b ∷ Some c ∷ [])) []
four_blocks_alone value first a b c whole e f g h fits a_fits b_fits c_fits =
    let last : pair c ++ [] ≡ drop 24 value = subst (λ rest. pair c ++ rest ≡ drop 24 value) (drop_all 32 value (omega arith)) h in
    rw whole (four_blocks first a b c value (drop 8 value) (drop 16 value) (drop 24 value) [] (sym e) (sym f) (sym g)
    (sym last) fits a_fits b_fits c_fits)

-- bytes of an allowed length begin with their blocks
blocks_10 : (value : List ℕ) → IsBytes value → 8 ≤ length value → BeginsWithSome (5 ∷ 10 ∷ value)
blocks_10 value fits there =
    with_front_pair value fits there (λ first rest e first_fits shorter rest_fits.
    (SelectiveAcknowledgement first (None ∷ None ∷ None ∷ []), rest, one_block first value rest e first_fits))

blocks_18 : (value : List ℕ) → IsBytes value → 16 ≤ length value → BeginsWithSome (5 ∷ 18 ∷ value)
blocks_18 value fits there =
    with_front_pair value fits (omega arith) (λ first after e first_fits shorter after_fits.
    with_front_pair after after_fits (omega arith) (λ a rest f a_fits less rest_fits.
    (SelectiveAcknowledgement first (Some a ∷ None ∷ None ∷ []), rest, two_blocks first a value after rest e f first_fits a_fits)))

blocks_26 : (value : List ℕ) → IsBytes value → 24 ≤ length value → BeginsWithSome (5 ∷ 26 ∷ value)
blocks_26 value fits there =
    with_front_pair value fits (omega arith) (λ first after e first_fits shorter after_fits.
    with_front_pair after after_fits (omega arith) (λ a after_a f a_fits less after_a_fits.
    with_front_pair after_a after_a_fits (omega arith) (λ b rest g b_fits least rest_fits. (
      SelectiveAcknowledgement first (Some a ∷ Some b ∷ None ∷ []),
      rest,
      three_blocks first a b value after after_a rest e f g first_fits a_fits b_fits,
    ))))

blocks_34 : (value : List ℕ) → IsBytes value → 32 ≤ length value → BeginsWithSome (5 ∷ 34 ∷ value)
blocks_34 value fits there =
    with_front_pair value fits (omega arith) (λ first after e first_fits shorter after_fits.
    with_front_pair after after_fits (omega arith) (λ a after_a f a_fits less after_a_fits.
    with_front_pair after_a after_a_fits (omega arith) (λ b after_b g b_fits lesser after_b_fits.
    with_front_pair after_b after_b_fits (omega arith) (λ c rest h c_fits least rest_fits. (
      SelectiveAcknowledgement first (Some a ∷ Some b ∷ Some c ∷ []),
      rest,
      four_blocks first a b c value after after_a after_b rest e f g h first_fits a_fits b_fits c_fits,
    )))))

-- an element with this kind and length byte, if they are equal to the first two bytes
headed : (kind size first second : ℕ) (value : List ℕ) → first ≡ kind → second ≡ size → BeginsWithSome (kind ∷ size ∷ value)
    → BeginsWithSome (first ∷ second ∷ value)
headed kind size first second value is_kind is_size begins =
    let same : kind ∷ size ∷ value ≡ first ∷ second ∷ value = cc in
    subst BeginsWithSome same begins

begins_blocks : (bytes : List ℕ) → IsBytes bytes → slice_index bytes 0 ≡ 5
    → (slice_index bytes 1 ≡ 10) ⊎ ((slice_index bytes 1 ≡ 18) ⊎ ((slice_index bytes 1 ≡ 26) ⊎ (slice_index bytes 1 ≡ 34)))
    → slice_index bytes 1 ≤ length bytes → BeginsWithSome bytes
begins_blocks (first ∷ second ∷ value) fits kind (inl size) there =
    headed 5 10 first second value kind size (blocks_10 value (λ place. fits (suc (suc place))) (omega arith))
begins_blocks (first ∷ second ∷ value) fits kind (inr (inl size)) there =
    headed 5 18 first second value kind size (blocks_18 value (λ place. fits (suc (suc place))) (omega arith))
begins_blocks (first ∷ second ∷ value) fits kind (inr (inr (inl size))) there =
    headed 5 26 first second value kind size (blocks_26 value (λ place. fits (suc (suc place))) (omega arith))
begins_blocks (first ∷ second ∷ value) fits kind (inr (inr (inr size))) there =
    headed 5 34 first second value kind size (blocks_34 value (λ place. fits (suc (suc place))) (omega arith))
begins_blocks [] fits kind size there = absurd (omega arith)
begins_blocks (first ∷ []) fits kind size there = absurd (grind arith)

-- bytes that do not end, and have no fault, begin with an element
pub begins_some : (bytes : List ℕ) → IsBytes bytes → (Ends bytes → ⊥) → fault bytes ≡ None → BeginsWithSome bytes
begins_some bytes fits goes_on no_fault =
    let some : 1 ≤ length bytes = elim (some_byte bytes) [ inl none ↦ absurd (goes_on (inl none)) | inr there ↦ there ] in
    elim (kinds_without_fault (slice_index bytes 0) (slice_index bytes 1) (length bytes) (λ end. goes_on (inr end)) no_fault) [
      | inl kind ↦ begins_noop bytes some kind
      | inr (inl (kind, size, there)) ↦ begins_segment_size bytes fits there kind size
      | inr (inr (inl (kind, size, there))) ↦ begins_window_scale bytes fits there kind size
      | inr (inr (inr (inl (kind, size, there)))) ↦ begins_permitted bytes there kind size
      | inr (inr (inr (inr (inl (kind, size, there))))) ↦ begins_timestamp bytes fits there kind size
      | inr (inr (inr (inr (inr (kind, size, there))))) ↦ begins_blocks bytes fits kind size there
    ]
  where
    some_byte : (bytes : List ℕ) → (length bytes ≡ 0) ⊎ (1 ≤ length bytes)
    some_byte [] = inl refl
    some_byte (byte ∷ bytes) = inr (omega arith)
