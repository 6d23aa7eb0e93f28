-- All bytes are read as options in exactly one way, which repeated calls of `next` return. Writing the options back
-- gives the bytes. Bytes that are read as elements are read as the same options.
use Rattle.std.proofs.Common.{◌≡◌, ◌≢◌, ℕ, zero, suc, ◌+◌, ◌-◌, ◌<◌, ◌≤◌, ◌⊎◌, inl, inr, true, false, List, [], ◌∷◌, ◌++◌, length, take, drop, Option, Some, None, Ok, Err, append_assoc, length-append, refl, sym, ap, ◌∙◌, subst, arith}
use Rattle.std.specs.Prelude.{◌==◌, if◌then◌else◌, map, slice_index}
use Rattle.std.specs.Iterator.{Yields}
use Rattle.std.specs.Iterator.Runs.{Run, YieldsRun}
use Rattle.std.specs.Int.{to_be_bytes, w16}
use Rattle.std.specs.List.{flat_map}
use Rattle.std.proofs.Math.Seq.{drop-append_seam, take-append_seam}
use Rattle.std.proofs.lemmas.Bool.Decides.{nat_tests}
use Rattle.std.proofs.lemmas.List.{append-nil, append_cancel_left, length-take-le, take-append-drop}
use Rattle.net_base.specs.Bytes.{IsBytes}
use Rattle.net_base.specs.declared.tcp_option_read_error.TcpOptionReadError.{TcpOptionReadError}
use Rattle.net_base.specs.declared.tcp_option_read_error.TcpOptionReadError.TheVariants.{UnexpectedEndOfSlice, UnexpectedSize}
use Rattle.tcp_part.specs.TcpOptions.{block_bytes, front, max_options_len, pair, spelling, with_length}
use Rattle.tcp_part.specs.TcpOptionsReading.{BeginsWith, Ends, IsInRange, Item, Reads, as_items, fault, fault_of_blocks, fault_of_kind, fault_of_length}
use Rattle.tcp_part.proofs.TcpOptionsFrontLemmas as front_lemmas
use Rattle.tcp_part.proofs.TcpOptionsFrontLemmas.{IsBytes-rest}
use Rattle.tcp_part.specs.TcpOptionKinds.{length_of_kind}
use Rattle.tcp_part.specs.TcpRawOptions.{AreItemsOf, AreRawJoined, BeginsAsElements, BeginsWithRaw, HasOneRawReading, IsFaultOf, IsMissingBytes, RawItem, RawOption, ReadsRaw, ReadsRawNext, element_refusal, length_byte, raw_fault, raw_fault_of, raw_join, raw_spelling}
use Rattle.tcp_part.specs.declared.tcp_option_element.TcpOptionElement.{TcpOptionElement}
use Rattle.tcp_part.specs.declared.tcp_option_element.TcpOptionElement.TheVariants.{Noop, MaximumSegmentSize, WindowScale, SelectiveAcknowledgementPermitted, SelectiveAcknowledgement, Timestamp}
use Rattle.tcp_part.specs.declared.tcp_raw_option_error.TcpRawOptionError.{TcpRawOptionError}

-- ---- the option at the front

-- an option with this kind and value
abbrev option_of : ℕ → List ℕ → RawOption
option_of kind value = record { kind = kind; value = value }

spelled_with_length : (kind : ℕ) (value : List ℕ) → kind ≢ 1 → raw_spelling (option_of kind value) ≡ with_length kind value
spelled_with_length kind value other =
    let test : (kind == 1) ≡ false = grind (arith, nat_tests) in
    rw test refl

-- the option "no operation" is one byte
begins_alone : (rest : List ℕ) → BeginsWithRaw (1 ∷ rest) (option_of 1 []) rest
begins_alone rest = record { spelled = refl; is_no_end = λ e. omega arith; noop_has_no_value = λ e. refl }

-- any other option is written with its length
pub begins_with_length : (kind : ℕ) (value rest : List ℕ) → 2 ≤ kind
    → BeginsWithRaw (with_length kind value ++ rest) (option_of kind value) rest
begins_with_length kind value rest other = record {
  spelled = ap (λ b. b ++ rest) (sym (spelled_with_length kind value (λ e. omega arith)));
  is_no_end = λ e. omega arith;
  noop_has_no_value = λ e. absurd (omega arith);
}

-- an option at the front is "no operation", or it has a length
one_or_the_other : (kind : ℕ) (bytes value rest : List ℕ) → BeginsWithRaw bytes (option_of kind value) rest
    → ((kind ≡ 1) × (value ≡ []) × (bytes ≡ 1 ∷ rest)) ⊎ ((2 ≤ kind) × (bytes ≡ with_length kind value ++ rest))
one_or_the_other zero bytes value rest begins = absurd (begins.is_no_end refl)
one_or_the_other (suc zero) bytes value rest begins = inl (refl, begins.noop_has_no_value refl, begins.spelled)
one_or_the_other (suc (suc kind)) bytes value rest begins =
    inr (omega arith, begins.spelled ∙ ap (λ b. b ++ rest) (spelled_with_length (suc (suc kind)) value (λ e. omega arith)))

-- an option with a valid length has no fault
no_fault_with_length : (kind len available : ℕ) → 2 ≤ len → len ≤ available → raw_fault_of kind len available ≡ None
no_fault_with_length kind len available counts there = grind (arith, nat_tests)

begins_no_fault : (bytes : List ℕ) (option : RawOption) (rest : List ℕ) → BeginsWithRaw bytes option rest → raw_fault bytes ≡ None
begins_no_fault bytes option rest begins = elim (one_or_the_other option.kind bytes option.value rest begins) [
  | inl (kind, none, alone) ↦ ap raw_fault alone
  | inr (kind, whole) ↦ ap raw_fault whole ∙ no_fault_with_length option.kind (length option.value
      + 2) (length (with_length option.kind option.value ++ rest))
      (omega arith) (omega (arith, length-append option.value rest))
]

-- bytes that begin with an option do not end
begins_no_end : (bytes : List ℕ) (option : RawOption) (rest : List ℕ) → BeginsWithRaw bytes option rest → Ends bytes → ⊥
begins_no_end bytes option rest begins end = elim (one_or_the_other option.kind bytes option.value rest begins) [
  | inl (kind, none, alone) ↦ starts_at_no_end 1 rest (omega arith) (subst Ends alone end)
  | inr (kind, whole) ↦ starts_at_no_end option.kind ((length option.value + 2) ∷ option.value ++ rest) (omega arith) (subst Ends whole end)
]
  where
    starts_at_no_end : (kind : ℕ) (rest : List ℕ) → 1 ≤ kind → Ends (kind ∷ rest) → ⊥
    starts_at_no_end kind rest some (inl none) = omega arith
    starts_at_no_end kind rest some (inr end) = omega arith

-- bytes that end have no fault
ends_no_fault : (bytes : List ℕ) → Ends bytes → raw_fault bytes ≡ None
ends_no_fault [] end = refl
ends_no_fault (kind ∷ bytes) (inl none) = absurd (omega arith)
ends_no_fault (kind ∷ bytes) (inr end) = ap (λ k. raw_fault (k ∷ bytes)) end

begins_fault : (bytes : List ℕ) (option : RawOption) (rest : List ℕ) (error : TcpRawOptionError) → BeginsWithRaw bytes option rest
    → raw_fault bytes ≡ Some error → ⊥
begins_fault bytes option rest error begins wrong =
    let right = begins_no_fault bytes option rest begins in
    cc

ends_fault : (bytes : List ℕ) (error : TcpRawOptionError) → Ends bytes → raw_fault bytes ≡ Some error → ⊥
ends_fault bytes error end wrong =
    let right = ends_no_fault bytes end in
    cc

-- ---- only one reading

-- the option at the front of bytes
abbrev option_at_front : List ℕ → RawOption
option_at_front bytes = option_of (slice_index bytes 0)
    (if slice_index bytes 0 == 1 then [] else take (slice_index bytes 1 - 2) (drop 2 bytes))

begins_option_at_front : (bytes : List ℕ) (option : RawOption) (rest : List ℕ) → BeginsWithRaw bytes option rest
    → option_at_front bytes ≡ option
begins_option_at_front bytes option rest begins = elim (one_or_the_other option.kind bytes option.value rest begins) [
  | inl (kind, none, alone) ↦ ap option_at_front alone ∙ ap (λ k. option_of k []) (sym kind) ∙ ap (λ v. option_of option.kind v) (sym none)
  | inr (kind, whole) ↦ ap option_at_front whole ∙ with_length_at_front option.kind option.value rest kind
]
  where
    with_length_at_front : (kind : ℕ) (value rest : List ℕ) → 2 ≤ kind
        → option_at_front (with_length kind value ++ rest) ≡ option_of kind value
    with_length_at_front kind value rest other =
        let test : (kind == 1) ≡ false = grind (arith, nat_tests) in
        let len : length value + 2 - 2 ≡ length value = omega arith in
        rw (test, len) (ap (λ v. option_of kind v) (take-append_seam value rest))

-- two options at one front are the same option, and the same bytes follow them
one_front : (bytes : List ℕ) (option other : RawOption) (rest after : List ℕ) → BeginsWithRaw bytes option rest
    → BeginsWithRaw bytes other after
    → (option ≡ other) × (rest ≡ after)
one_front bytes option other rest after begins again =
    let same : option ≡ other = sym (begins_option_at_front bytes option rest begins) ∙ begins_option_at_front bytes other after again in
    let spelled : raw_spelling option ++ rest ≡ raw_spelling option ++ after =
    sym begins.spelled ∙ again.spelled ∙ ap (λ o. raw_spelling o ++ after) (sym same) in
    (same, append_cancel_left (raw_spelling option) rest after spelled)

-- two readings of the same bytes have the same items
pub one_raw_reading : (bytes : List ℕ) (items others : List RawItem) → ReadsRaw bytes items → ReadsRaw bytes others → items ≡ others
one_raw_reading bytes [] [] reads again = refl
one_raw_reading bytes [] (Ok other ∷ others) reads again = absurd (begins_no_end bytes other again.0 again.1 reads)
one_raw_reading bytes [] (Err error ∷ others) reads again = absurd (ends_fault bytes error reads again.0)
one_raw_reading bytes (Ok option ∷ items) [] reads again = absurd (begins_no_end bytes option reads.0 reads.1 again)
one_raw_reading bytes (Ok option ∷ items) (Ok other ∷ others) reads again =
    let same = one_front bytes option other reads.0 again.0 reads.1 again.1 in
    let rest : ReadsRaw reads.0 others = subst (λ b. ReadsRaw b others) (sym same.1) again.2 in
    let tail = one_raw_reading reads.0 items others reads.2 rest in
    cc (same.0)
one_raw_reading bytes (Ok option ∷ items) (Err error ∷ others) reads again =
    absurd (begins_fault bytes option reads.0 error reads.1 again.0)
one_raw_reading bytes (Err error ∷ items) [] reads again = absurd (ends_fault bytes error again reads.0)
one_raw_reading bytes (Err error ∷ items) (Ok other ∷ others) reads again = absurd (begins_fault bytes other again.0 error again.1 reads.0)
one_raw_reading bytes (Err error ∷ items) (Err other ∷ others) reads again = cc (reads.0, reads.1, again.0, again.1)

-- ---- a reading of all bytes

-- bytes begin with an option if its length byte counts at most the bytes left
pub begins_whole : (bytes : List ℕ) (len : ℕ) → 2 ≤ slice_index bytes 0 → slice_index bytes 1 ≡ len → 2 ≤ len → len ≤ length bytes
    → BeginsWithRaw bytes (option_of (slice_index bytes 0) (take (len - 2) (drop 2 bytes))) (drop len bytes)
begins_whole [] len kind is_len counts there = absurd (omega arith)
begins_whole (kind ∷ []) len other is_len counts there = absurd (omega arith)
begins_whole (kind ∷ size ∷ more) zero other is_len counts there = absurd (omega arith)
begins_whole (kind ∷ size ∷ more) (suc zero) other is_len counts there = absurd (omega arith)
begins_whole (kind ∷ size ∷ more) (suc (suc count)) other is_len counts there =
    let less : suc (suc count) - 2 ≡ count = omega arith in
    let counted : length (take count more) + 2 ≡ size = omega (arith, length-take-le count more (omega arith)) in
    let whole : with_length kind (take count more) ++ drop count more ≡ kind ∷ size ∷ more =
    ap (λ n. kind ∷ n ∷ (take count more ++ drop count more)) counted ∙ ap (λ b. kind ∷ size ∷ b) (take-append-drop count more) in
    rw less (subst (λ b. BeginsWithRaw b (option_of kind (take count more)) (drop count more)) whole
    (begins_with_length kind (take count more) (drop count more) other))

-- without a fault, the length byte counts at most the bytes that are left
counted_whole : (kind len available : ℕ) → 2 ≤ kind → raw_fault_of kind len available ≡ None → (2 ≤ len) × (len ≤ available)
counted_whole kind len available other no_fault = grind (arith, nat_tests)

-- bytes that do not end, and have no fault, begin with an option
begins_some : (bytes : List ℕ) → (Ends bytes → ⊥) → raw_fault bytes ≡ None
    → (option : RawOption) × (rest : List ℕ) × BeginsWithRaw bytes option rest
begins_some [] goes_on no_fault = absurd (goes_on (inl refl))
begins_some (zero ∷ bytes) goes_on no_fault = absurd (goes_on (inr refl))
begins_some (suc zero ∷ bytes) goes_on no_fault = (option_of 1 [], bytes, begins_alone bytes)
begins_some (suc (suc kind) ∷ bytes) goes_on no_fault =
    let whole = counted_whole (suc (suc kind)) (slice_index (suc (suc kind) ∷ bytes) 1) (length (suc (suc kind) ∷ bytes))
    (omega arith) no_fault in
    (_, _, begins_whole (suc (suc kind) ∷ bytes) _ (omega arith) refl whole.0 whole.1)

-- the bytes after an option are shorter
shorter : (bytes : List ℕ) (option : RawOption) (rest : List ℕ) → BeginsWithRaw bytes option rest → length rest < length bytes
shorter bytes option rest begins = elim (one_or_the_other option.kind bytes option.value rest begins) [
  | inl (kind, none, alone) ↦ omega (arith, ap length alone)
  | inr (kind, whole) ↦ omega (arith, ap length whole, length-append option.value rest)
]

-- bytes end or not, and have a fault or not
ends_or_not : (bytes : List ℕ) → Ends bytes ⊎ (Ends bytes → ⊥)
ends_or_not [] = inl (inl refl)
ends_or_not (zero ∷ bytes) = inl (inr refl)
ends_or_not (suc kind ∷ bytes) = inr (λ end. elim end [ inl none ↦ omega arith | inr zero_kind ↦ omega arith ])

fault_or_not : (found : Option TcpRawOptionError) → (found ≡ None) ⊎ ((error : TcpRawOptionError) × (found ≡ Some error))
fault_or_not None = inl refl
fault_or_not (Some error) = inr (error, refl)

-- bytes that are shorter than a limit are read as some items, by induction on the limit
reading_within : (limit : ℕ) (bytes : List ℕ) → length bytes < limit → (items : List RawItem) × ReadsRaw bytes items
reading_within zero bytes short = absurd (omega arith)
reading_within (suc limit) bytes short =
    elim (ends_or_not bytes) [
      | inl end ↦ ([], end)
      | inr goes_on ↦ elim (fault_or_not (raw_fault bytes)) [
        | inr (error, wrong) ↦ (Err error ∷ [], (wrong, refl))
        | inl no_fault ↦
            let found = begins_some bytes goes_on no_fault in
            let others = reading_within limit found.1 (omega (arith, shorter bytes found.0 found.1 found.2)) in
            (Ok found.0 ∷ others.0, (found.1, found.2, others.1))
      ]
    ]

-- all bytes have exactly one reading
pub has_one_raw_reading : (bytes : List ℕ) → HasOneRawReading bytes
has_one_raw_reading bytes =
    let found = reading_within (suc (length bytes)) bytes (omega arith) in
    record { items = found.0; reads = found.1; alone = λ others reads. one_raw_reading bytes others found.0 reads found.1 }

-- ---- the iterator

-- the items that calls of `next` return up to the end form the reading
calls_read : (items : List RawItem) (bytes last : List ℕ) → Yields ReadsRawNext bytes items last → Ends last → ReadsRaw bytes items
calls_read [] bytes last gave end = subst Ends (sym gave) end
calls_read (Ok option ∷ items) bytes last gave end = (gave.0, gave.1, calls_read items gave.0 last gave.2 end)
calls_read (Err error ∷ items) bytes last gave end =
    let rest : ReadsRaw [] items = subst (λ b. ReadsRaw b items) gave.1.1 (calls_read items gave.0 last gave.2 end) in
    (gave.1.0, one_raw_reading [] items [] rest (inl refl))

-- the items of a run that reached the end form the reading
pub run_reads_raw : (run : Run ReadsRawNext) → run.whole ≡ true → ReadsRaw run.from run.items
unfolding YieldsRun
run_reads_raw run all =
    let drains = run.gave.0 in
    calls_read run.items run.from drains.0 drains.1 (drains.2 all).1.0

-- ---- written back

-- writing the read items back gives the bytes that were read
pub written_back : (items : List RawItem) (bytes : List ℕ) → ReadsRaw bytes items → AreRawJoined bytes items
written_back [] bytes reads = record { options = []; rest = bytes; whole = refl; end = inl (refl, reads) }
written_back (Ok option ∷ items) bytes reads =
    let others = written_back items reads.0 reads.2 in
    record {
      options = option ∷ others.options;
      rest = others.rest;
      whole = reads.1.spelled ∙ ap (λ b. raw_spelling option ++ b) others.whole
          ∙ sym (append_assoc (raw_spelling option) (raw_join others.options) others.rest);
      end = elim others.end [
        | inl (same, end) ↦ inl (ap (λ i. Ok option ∷ i) same, end)
        | inr (error, same, wrong) ↦ inr (error, ap (λ i. Ok option ∷ i) same, wrong)
      ];
    }
written_back (Err error ∷ items) bytes reads =
    record { options = []; rest = bytes; whole = refl; end = inr (error, ap (λ i. Err error ∷ i) reads.1, reads.0) }

-- ---- compared with the elements

-- the element as a raw option
abbrev raw_of : TcpOptionElement → RawOption
raw_of Noop = option_of 1 []
raw_of (MaximumSegmentSize size) = option_of 2 (to_be_bytes w16 size)
raw_of (WindowScale shift) = option_of 3 (shift ∷ [])
raw_of SelectiveAcknowledgementPermitted = option_of 4 []
raw_of (SelectiveAcknowledgement first more) = option_of 5 (pair first ++ flat_map block_bytes more)
raw_of (Timestamp value echo) = option_of 8 (pair (value, echo))

raw_of-spelling : (element : TcpOptionElement) → raw_spelling (raw_of element) ≡ spelling element
raw_of-spelling Noop = refl
raw_of-spelling (MaximumSegmentSize size) = refl
raw_of-spelling (WindowScale shift) = refl
raw_of-spelling SelectiveAcknowledgementPermitted = refl
raw_of-spelling (SelectiveAcknowledgement first more) = refl
raw_of-spelling (Timestamp value echo) = refl

-- bytes that begin with an element begin with its option
raw_of-begins : (element : TcpOptionElement) (rest : List ℕ) → BeginsWithRaw (spelling element ++ rest) (raw_of element) rest
raw_of-begins Noop rest = begins_alone rest
raw_of-begins (MaximumSegmentSize size) rest = begins_with_length 2 _ rest (omega arith)
raw_of-begins (WindowScale shift) rest = begins_with_length 3 _ rest (omega arith)
raw_of-begins SelectiveAcknowledgementPermitted rest = begins_with_length 4 _ rest (omega arith)
raw_of-begins (SelectiveAcknowledgement first more) rest = begins_with_length 5 _ rest (omega arith)
raw_of-begins (Timestamp value echo) rest = begins_with_length 8 _ rest (omega arith)

-- the elements before a fault are the options before it; without a fault, all items are these elements
pub reads_as_elements : (elements : List TcpOptionElement) (others : List Item) (bytes : List ℕ) → Reads bytes (as_items elements ++ others)
    → BeginsAsElements bytes elements others
reads_as_elements [] others bytes reads =
    let found = has_one_raw_reading bytes in
    record {
      options = [];
      more = found.items;
      reads = found.reads;
      same = refl;
      no_more = λ none. sym (found.alone [] (subst (Reads bytes) none reads));
    }
reads_as_elements (element ∷ elements) others bytes reads =
    let after = reads_as_elements elements others reads.0 reads.2 in
    let begins : BeginsWithRaw bytes (raw_of element) reads.0 =
    subst (λ b. BeginsWithRaw b (raw_of element) reads.0) (sym reads.1.spelled) (raw_of-begins element reads.0) in
    record {
      options = raw_of element ∷ after.options;
      more = after.more;
      reads = (reads.0, begins, after.reads);
      same = ap (λ s. s ∷ map raw_spelling after.options) (raw_of-spelling element) ∙ ap (λ s. spelling element ∷ s) after.same;
      no_more = after.no_more;
    }

-- an element at the front is also the option at the front
begins_as_option : (bytes : List ℕ) (element : TcpOptionElement) (rest : List ℕ) → BeginsWith bytes element rest
    → BeginsWithRaw bytes (raw_of element) rest
begins_as_option bytes element rest begins =
    subst (λ b. BeginsWithRaw b (raw_of element) rest) (sym begins.spelled) (raw_of-begins element rest)

-- an option that is read alone is the element, if it is the option of an element
alone_as_element : (option : RawOption) (element : TcpOptionElement) → option ≡ raw_of element → front element ≡ element → IsInRange element
    → BeginsWith (raw_spelling option) element []
alone_as_element option element same back fits = record {
  spelled = ap raw_spelling same ∙ raw_of-spelling element ∙ sym (append-nil (spelling element));
  read_back = back;
  in_range = fits;
}

-- a wrong length is a fault of the option alone, or because of the bytes that are left
fault_of_wrong_length : (expected kind size left : ℕ) (error : TcpOptionReadError) → expected ≤ max_options_len → size ≤ left
    → fault_of_length expected kind size left ≡ Some error
    → (fault_of_length expected kind size max_options_len ≡ Some error)
    ⊎ ((left < expected) × (error ≡ UnexpectedEndOfSlice kind expected left)
    × (fault_of_length expected kind size max_options_len ≡ Some (UnexpectedSize kind size)))
fault_of_wrong_length expected kind size left error known there wrong = grind (arith, nat_tests)

fault_of_wrong_blocks : (size left : ℕ) (error : TcpOptionReadError) → 2 ≤ size → size ≤ left → fault_of_blocks size left ≡ Some error
    → fault_of_blocks size max_options_len ≡ Some error
fault_of_wrong_blocks size left error counts there wrong = grind (arith, nat_tests)

-- a wrong length is reported as one of two faults
either_fault : (option : RawOption) (left : ℕ) (error : TcpOptionReadError) (len : ℕ) → length_of_kind option.kind ≡ Some len
    → len ≤ max_options_len → length_byte option ≤ left
    → element_refusal option ≡ fault_of_length len option.kind (length_byte option) max_options_len
    → fault_of_length len option.kind (length_byte option) left ≡ Some error → IsFaultOf left option error
either_fault option left error len one known there same wrong =
    elim (fault_of_wrong_length len option.kind (length_byte option) left error known there wrong) [
      | inl alike ↦ inl (same ∙ alike)
      | inr (short, missing, alone) ↦ inr (subst (IsMissingBytes left option error) (sym one) (short, missing, same ∙ alone))
    ]

-- the fault of an unknown kind does not depend on the length
fault_of_other_kind : (kind size left other_size other_left : ℕ) → 2 ≤ kind → kind ≢ 2 → kind ≢ 3 → kind ≢ 4 → kind ≢ 5 → kind ≢ 8
    → fault_of_kind kind size left ≡ fault_of_kind kind other_size other_left
fault_of_other_kind kind size left other_size other_left counts two three four five eight = grind (arith, nat_tests)

refusal_of_other_kind : (option : RawOption) → 2 ≤ option.kind
    → element_refusal option ≡ fault_of_kind option.kind (length_byte option) max_options_len
refusal_of_other_kind option counts = grind (arith, nat_tests)

-- a fault of bytes that begin with an option is the fault of the option
fault_of_counted : (option : RawOption) (left : ℕ) (error : TcpOptionReadError) → 2 ≤ option.kind → 2 ≤ length_byte option
    → length_byte option ≤ left
    → fault_of_kind option.kind (length_byte option) left ≡ Some error → IsFaultOf left option error
fault_of_counted option left error counts some there wrong = elim (by_kind option.kind) [
  | inl two ↦ one_length 2 4 two refl (omega arith) (at 2 two) (own 2 two)
  | inr (inl three) ↦ one_length 3 3 three refl (omega arith) (at 3 three) (own 3 three)
  | inr (inr (inl four)) ↦ one_length 4 2 four refl (omega arith) (at 4 four) (own 4 four)
  | inr (inr (inr (inl five))) ↦ inl (own 5 five ∙ fault_of_wrong_blocks (length_byte option) left error some there (at 5 five))
  | inr (inr (inr (inr (inl eight)))) ↦ one_length 8 10 eight refl (omega arith) (at 8 eight) (own 8 eight)
  | inr (inr (inr (inr (inr (two, three, four, five, eight))))) ↦
      inl (own option.kind refl ∙ fault_of_other_kind option.kind (length_byte option) max_options_len
      (length_byte option) left counts two three four five eight ∙ wrong)
]
  where
    at : (kind : ℕ) → option.kind ≡ kind → fault_of_kind kind (length_byte option) left ≡ Some error
    at kind same = subst (λ k. fault_of_kind k (length_byte option) left ≡ Some error) same wrong

    own : (kind : ℕ) → option.kind ≡ kind → element_refusal option ≡ fault_of_kind kind (length_byte option) max_options_len
    own kind same = subst (λ k. element_refusal option ≡ fault_of_kind k (length_byte option) max_options_len) same
        (refusal_of_other_kind option counts)

    one_length : (kind len : ℕ) → option.kind ≡ kind → length_of_kind kind ≡ Some len → len ≤ max_options_len
        → fault_of_length len kind (length_byte option) left ≡ Some error
        → element_refusal option ≡ fault_of_length len kind (length_byte option) max_options_len → IsFaultOf left option error
    one_length kind len same one known is_wrong is_own =
        either_fault option left error len (subst (λ k. length_of_kind k ≡ Some len) (sym same) one) known there
        (subst (λ k. element_refusal option ≡ fault_of_length len k (length_byte option) max_options_len) (sym same) is_own)
        (subst (λ k. fault_of_length len k (length_byte option) left ≡ Some error) (sym same) is_wrong)

    by_kind : (kind : ℕ) → (kind ≡ 2)
        ⊎ ((kind ≡ 3) ⊎ ((kind ≡ 4) ⊎ ((kind ≡ 5) ⊎ ((kind ≡ 8) ⊎ ((kind ≢ 2) × (kind ≢ 3) × (kind ≢ 4) × (kind ≢ 5) × (kind ≢ 8))))))
    by_kind kind = grind arith

-- the fault of bytes that begin with an option is the fault of this option
fault_of_option : (bytes : List ℕ) (option : RawOption) (rest : List ℕ) (error : TcpOptionReadError) → IsBytes bytes
    → BeginsWithRaw bytes option rest → fault bytes ≡ Some error
    → IsFaultOf (length bytes) option error
fault_of_option bytes option rest error fits begins wrong = elim (one_or_the_other option.kind bytes option.value rest begins) [
  | inl (kind, none, alone) ↦ absurd (none_of_noop rest error (subst (λ b. fault b ≡ Some error) alone wrong))
  | inr (counts, whole) ↦
      let byte : length option.value + 2 < 256 = subst IsBytes whole fits 1 in
      let counted : length_byte option ≡ length option.value + 2 = omega arith in
      let there : length_byte option ≤ length bytes = omega (arith, ap length whole, length-append option.value rest) in
      let fault_there : fault_of_kind option.kind (length option.value + 2) (length bytes) ≡ Some error =
      subst (λ b. fault_of_kind (slice_index b 0) (slice_index b 1) (length bytes) ≡ Some error) whole wrong in
      fault_of_counted option (length bytes) error counts (omega arith) there
      (subst (λ n. fault_of_kind option.kind n (length bytes) ≡ Some error) (sym counted) fault_there)
]
  where
    none_of_noop : (rest : List ℕ) (error : TcpOptionReadError) → fault (1 ∷ rest) ≡ Some error → ⊥
    none_of_noop rest error wrong = cc

-- both readings have the same items
pub reads_the_same_items : (options : List RawItem) (items : List Item) (bytes : List ℕ) → IsBytes bytes → ReadsRaw bytes options
    → Reads bytes items → AreItemsOf bytes options items
reads_the_same_items [] [] bytes fits raw reads = tt
reads_the_same_items [] (Ok element ∷ items) bytes fits raw reads =
    absurd (begins_no_end bytes (raw_of element) reads.0 (begins_as_option bytes element reads.0 reads.1) raw)
reads_the_same_items [] (Err error ∷ items) bytes fits raw reads = absurd (front_lemmas.ends_fault bytes error raw reads.0)
reads_the_same_items (Ok option ∷ options) [] bytes fits raw reads = absurd (begins_no_end bytes option raw.0 raw.1 reads)
reads_the_same_items (Ok option ∷ options) (Ok element ∷ items) bytes fits raw reads =
    let same = one_front bytes option (raw_of element) raw.0 reads.0 raw.1 (begins_as_option bytes element reads.0 reads.1) in
    let after : ReadsRaw reads.0 options = subst (λ b. ReadsRaw b options) same.1 raw.2 in
    let rest_fits = IsBytes-rest (spelling element) reads.0 (subst IsBytes reads.1.spelled fits) in
    let left : drop (length (raw_spelling option)) bytes ≡ reads.0 =
    ap (drop (length (raw_spelling option))) raw.1.spelled ∙ drop-append_seam (raw_spelling option) raw.0 ∙ same.1 in
    let others : AreItemsOf reads.0 options items = reads_the_same_items options items reads.0 rest_fits after reads.2 in
    (alone_as_element option element same.0 reads.1.read_back reads.1.in_range, subst (λ b. AreItemsOf b options items) (sym left) others)
reads_the_same_items (Ok option ∷ options) (Err error ∷ items) bytes fits raw reads =
    (fault_of_option bytes option raw.0 error fits raw.1 reads.0, reads.1)
reads_the_same_items (Err raw_error ∷ options) [] bytes fits raw reads = absurd (ends_fault bytes raw_error reads raw.0)
reads_the_same_items (Err raw_error ∷ options) (Ok element ∷ items) bytes fits raw reads =
    absurd (begins_fault bytes (raw_of element) reads.0 raw_error (begins_as_option bytes element reads.0 reads.1) raw.0)
reads_the_same_items (Err raw_error ∷ options) (Err error ∷ items) bytes fits raw reads = (raw.0, raw.1, reads.0, reads.1)
