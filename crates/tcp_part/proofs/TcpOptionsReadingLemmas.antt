-- All bytes have exactly one reading, which repeated calls of `next` return.
use Rattle.std.proofs.Common.{◌≡◌, ℕ, zero, suc, ◌<◌, ◌⊎◌, inl, inr, true, List, [], ◌∷◌, ◌++◌, length, Option, Some, None, Ok, Err, length-append, refl, sym, subst, arith}
use Rattle.std.specs.Iterator.{Yields}
use Rattle.std.specs.Iterator.Runs.{Run, YieldsRun}
use Rattle.std.specs.List.{flat_map}
use Rattle.net_base.specs.Bytes.{IsBytes}
use Rattle.tcp_part.specs.TcpOptions.{block_bytes, pair, spelling}
use Rattle.tcp_part.specs.TcpOptionsReading.{Ends, HasOneReading, Item, Reads, ReadsNext, fault}
use Rattle.tcp_part.specs.declared.tcp_option_element.TcpOptionElement.{TcpOptionElement}
use Rattle.tcp_part.specs.declared.tcp_option_element.TcpOptionElement.TheVariants.{Noop, MaximumSegmentSize, WindowScale, SelectiveAcknowledgementPermitted, SelectiveAcknowledgement, Timestamp}
use Rattle.net_base.specs.declared.tcp_option_read_error.TcpOptionReadError.{TcpOptionReadError}
use Rattle.tcp_part.proofs.TcpOptionsFrontLemmas.{IsBytes-rest, begins_ends, begins_fault, begins_some, ends_fault, one_front}

-- ---- only one reading

-- two readings of the same bytes have the same items
pub one_reading : (bytes : List ℕ) (items others : List Item) → Reads bytes items → Reads bytes others → items ≡ others
one_reading bytes [] [] reads again = refl
one_reading bytes [] (Ok other ∷ others) reads again = absurd (begins_ends bytes other again.0 again.1 reads)
one_reading bytes [] (Err error ∷ others) reads again = absurd (ends_fault bytes error reads again.0)
one_reading bytes (Ok element ∷ items) [] reads again = absurd (begins_ends bytes element reads.0 reads.1 again)
one_reading bytes (Ok element ∷ items) (Ok other ∷ others) reads again =
    let same = one_front bytes element other reads.0 again.0 reads.1 again.1 in
    let rest : Reads reads.0 others = subst (λ b. Reads b others) (sym same.1) again.2 in
    let tail = one_reading reads.0 items others reads.2 rest in
    cc (same.0)
one_reading bytes (Ok element ∷ items) (Err error ∷ others) reads again = absurd (begins_fault bytes element reads.0 error reads.1 again.0)
one_reading bytes (Err error ∷ items) [] reads again = absurd (ends_fault bytes error again reads.0)
one_reading bytes (Err error ∷ items) (Ok other ∷ others) reads again = absurd (begins_fault bytes other again.0 error again.1 reads.0)
one_reading bytes (Err error ∷ items) (Err other ∷ others) reads again = cc (reads.0, reads.1, again.0, again.1)

-- ---- a reading of all bytes

-- the bytes after an element are shorter
shorter : (element : TcpOptionElement) (rest : List ℕ) → length rest < length (spelling element ++ rest)
shorter Noop rest = omega arith
shorter (MaximumSegmentSize size) rest = omega arith
shorter (WindowScale shift) rest = omega arith
shorter SelectiveAcknowledgementPermitted rest = omega arith
shorter (SelectiveAcknowledgement first more) rest = omega (arith, length-append (pair first ++ flat_map block_bytes more) rest)
shorter (Timestamp value echo) rest = omega (arith, length-append (pair (value, echo)) rest)

-- bytes end or not, and have a fault or not
ends_or_not : (bytes : List ℕ) → Ends bytes ⊎ (Ends bytes → ⊥)
ends_or_not [] = inl (inl refl)
ends_or_not (zero ∷ bytes) = inl (inr refl)
ends_or_not (suc kind ∷ bytes) = inr (λ end. elim end [ inl none ↦ omega arith | inr zero_kind ↦ omega arith ])

fault_or_not : (found : Option TcpOptionReadError) → (found ≡ None) ⊎ ((error : TcpOptionReadError) × (found ≡ Some error))
fault_or_not None = inl refl
fault_or_not (Some error) = inr (error, refl)

-- bytes that are shorter than a limit are read as some items, by induction on the limit
reading_within : (limit : ℕ) (bytes : List ℕ) → IsBytes bytes → length bytes < limit → (items : List Item) × Reads bytes items
reading_within zero bytes fits short = absurd (omega arith)
reading_within (suc limit) bytes fits short =
    elim (ends_or_not bytes) [
      | inl end ↦ ([], end)
      | inr goes_on ↦ elim (fault_or_not (fault bytes)) [
        | inr (error, wrong) ↦ (Err error ∷ [], (wrong, refl))
        | inl no_fault ↦
            let found = begins_some bytes fits goes_on no_fault in
            let less : length found.1 < length bytes =
            subst (λ b. length found.1 < length b) (sym found.2.spelled) (shorter found.0 found.1) in
            let others = reading_within limit found.1 (IsBytes-rest (spelling found.0) found.1 (subst IsBytes found.2.spelled fits))
            (omega arith) in
            (Ok found.0 ∷ others.0, (found.1, found.2, others.1))
      ]
    ]

-- all bytes are read as some items
pub some_reading : (bytes : List ℕ) → IsBytes bytes → (items : List Item) × Reads bytes items
some_reading bytes fits = reading_within (suc (length bytes)) bytes fits (omega arith)

-- all bytes have exactly one reading
pub has_one_reading : (bytes : List ℕ) → IsBytes bytes → HasOneReading bytes
has_one_reading bytes fits =
    let found = some_reading bytes fits in
    record { items = found.0; reads = found.1; alone = λ others reads. one_reading bytes others found.0 reads found.1 }

-- ---- the iterator

-- the items that calls of `next` return up to the end form the reading
calls_read : (items : List Item) (bytes last : List ℕ) → Yields ReadsNext bytes items last → Ends last → Reads bytes items
calls_read [] bytes last gave end = subst Ends (sym gave) end
calls_read (Ok element ∷ items) bytes last gave end = (gave.0, gave.1, calls_read items gave.0 last gave.2 end)
calls_read (Err error ∷ items) bytes last gave end =
    let rest : Reads [] items = subst (λ b. Reads b items) gave.1.1 (calls_read items gave.0 last gave.2 end) in
    (gave.1.0, one_reading [] items [] rest (inl refl))

-- the items of a run that reached the end form the reading
pub run_reads : (run : Run ReadsNext) → run.whole ≡ true → Reads run.from run.items
unfolding YieldsRun
run_reads run all =
    let drains = run.gave.0 in
    calls_read run.items run.from drains.0 drains.1 (drains.2 all).1.0
