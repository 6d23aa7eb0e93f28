-- Written elements are read back, and their padded bytes are the least options that are read as these elements.
use Rattle.std.proofs.Common.{◌≡◌, ℕ, zero, suc, ◌%◌, ◌≤◌, ◌⊎◌, inl, inr, List, [], ◌∷◌, ◌++◌, length, replicate, Option, Some, None, Ok, append_assoc, length-append, refl, sym, ap, ◌∙◌, subst, arith}
use Rattle.std.specs.Prelude.{◌↔◌}
use Rattle.std.specs.List.{AllByRecursion}
use Rattle.std.specs.Option.{IfSome}
use Rattle.tcp_part.specs.TcpOptions.{IsBefore, front, join, max_options_len, pad, present_first, spelling}
use Rattle.tcp_part.specs.TcpOptionsReading.{AreJoined, AreLeastFor, Ends, IsInRange, IsPair, Reads, StandFor, as_items, read_back}
use Rattle.tcp_part.specs.declared.tcp_option_element.TcpOptionElement.{TcpOptionElement}
use Rattle.tcp_part.specs.declared.tcp_option_element.TcpOptionElement.TheVariants.{Noop, MaximumSegmentSize, WindowScale, SelectiveAcknowledgementPermitted, SelectiveAcknowledgement, Timestamp}
use Rattle.tcp_part.proofs.TcpOptionsLemmas.{front_twice, length-present_first, pad-room, pad-words, spelling-front}
use Rattle.tcp_part.proofs.TcpOptionsOrderLemmas.{pad_least}
use Rattle.tcp_part.proofs.TcpOptionsReadingLemmas.{one_reading}

-- ---- spelled elements are read back

-- an element is still in range after its blocks were moved to the front
moved_in_range : (more : List (Option (ℕ × ℕ))) → AllByRecursion (λ block. IfSome block IsPair) more
    → AllByRecursion (λ block. IfSome block IsPair) (present_first more)
moved_in_range [] fits = tt
moved_in_range (None ∷ more) fits = absent_in_range (present_first more) (moved_in_range more fits.1)
  where
    absent_in_range : (blocks : List (Option (ℕ × ℕ))) → AllByRecursion (λ block. IfSome block IsPair) blocks
        → AllByRecursion (λ block. IfSome block IsPair) (blocks ++ (None ∷ []))
    absent_in_range [] fits = (tt, tt)
    absent_in_range (block ∷ blocks) fits = (fits.0, absent_in_range blocks fits.1)
moved_in_range (Some block ∷ more) fits = (fits.0, moved_in_range more fits.1)

front_in_range : (element : TcpOptionElement) → IsInRange element → IsInRange (front element)
front_in_range Noop fits = fits
front_in_range (MaximumSegmentSize size) fits = fits
front_in_range (WindowScale shift) fits = fits
front_in_range SelectiveAcknowledgementPermitted fits = fits
front_in_range (SelectiveAcknowledgement first more) fits = (fits.0, length-present_first more ∙ fits.1, moved_in_range more fits.2)
front_in_range (Timestamp value echo) fits = fits

-- spellings followed by the end of the list are read as their elements
pub join_read : (elements : List TcpOptionElement) (rest : List ℕ) → AllByRecursion IsInRange elements → Ends rest
    → Reads (join elements ++ rest) (read_back elements)
join_read [] rest fits end = end
join_read (element ∷ elements) rest fits end = (
  join elements ++ rest,
  record {
    spelled = append_assoc (spelling element) (join elements) rest ∙ ap (λ b. b ++ (join elements ++ rest)) (sym (spelling-front element));
    read_back = front_twice element;
    in_range = front_in_range element fits.0;
  },
  join_read elements rest fits.1 end,
)

zeros_end : (count : ℕ) → Ends (replicate count 0)
zeros_end zero = inl refl
zeros_end (suc count) = inr refl

-- padded spellings are read as their elements
pub pad_read : (elements : List TcpOptionElement) → AllByRecursion IsInRange elements → Reads (pad (join elements)) (read_back elements)
pad_read elements fits = join_read elements _ fits (zeros_end _)

-- ---- the least bytes

-- bytes that are read as some elements begin with their spellings, and then end or continue with the end of the list
pub join_first : (elements : List TcpOptionElement) (options : List ℕ) → Reads options (read_back elements)
    → (rest : List ℕ) × (options ≡ join elements ++ rest) × Ends rest
join_first [] options reads = (options, refl, reads)
join_first (element ∷ elements) options reads =
    let others = join_first elements reads.0 reads.2 in (
      others.0,
      reads.1.spelled ∙ ap (λ b. b ++ reads.0) (spelling-front element) ∙ ap (λ b. spelling element ++ b) others.1
          ∙ sym (append_assoc (spelling element) (join elements) others.0),
      others.2,
    )

-- no options represent elements whose spellings are too long
pub stand_for_room : (elements : List TcpOptionElement) (options : List ℕ) → StandFor options elements
    → length (join elements) ≤ max_options_len
stand_for_room elements options stand =
    let first = join_first elements options stand.reads in
    omega (arith, stand.room, ap length first.1, length-append (join elements) first.0)

-- padded spellings that are not too long represent their elements
pub pad_stands : (elements : List TcpOptionElement) → AllByRecursion IsInRange elements → length (join elements) ≤ max_options_len
    → StandFor (pad (join elements)) elements
pad_stands elements fits room =
    record { reads = pad_read elements fits; room = pad-room (join elements) room; whole_words = pad-words (join elements) }

-- padded spellings come before all other options for their elements
pub pad_first : (elements : List TcpOptionElement) (options : List ℕ) → StandFor options elements
    → (options ≡ pad (join elements)) ⊎ IsBefore (pad (join elements)) options
pad_first elements options stand =
    let first = join_first elements options stand.reads in
    let words : length (join elements ++ first.0) % 4 ≡ 0 = subst (λ o. length o % 4 ≡ 0) first.1 stand.whole_words in
    elim (pad_least (join elements) first.0 words) [
      | inl same ↦ inl (first.1 ∙ same)
      | inr before ↦ inr (subst (IsBefore (pad (join elements))) (sym first.1) before)
    ]

-- the padded spellings are the least options for their elements
pub pad_least_for : (elements : List TcpOptionElement) → AllByRecursion IsInRange elements → length (join elements) ≤ max_options_len
    → AreLeastFor (pad (join elements)) elements
pad_least_for elements fits room = record { stand = pad_stands elements fits room; first = λ others stand. pad_first elements others stand }

-- ---- options without a fault

-- elements that are read are in range and are read back unchanged
items_read_back : (elements : List TcpOptionElement) (options : List ℕ) → Reads options (as_items elements)
    → (as_items elements ≡ read_back elements) × AllByRecursion IsInRange elements
items_read_back [] options reads = (refl, tt)
items_read_back (element ∷ elements) options reads =
    let others = items_read_back elements reads.0 reads.2 in
    let back = reads.1.read_back in
    (ap (λ e. Ok e ∷ as_items elements) (sym back) ∙ ap (λ items. Ok (front element) ∷ items) others.0, (reads.1.in_range, others.1))

-- options without a fault consist of their joined elements and the end of the list
pub options_joined : (elements : List TcpOptionElement) (options : List ℕ) → Reads options (as_items elements) → AreJoined options elements
options_joined elements options reads =
    let back = items_read_back elements options reads in
    let first = join_first elements options (subst (Reads options) back.0 reads) in
    record { rest = first.0; whole = first.1; end = first.2 }

pub joined_room : (elements : List TcpOptionElement) (options : List ℕ) → AreJoined options elements → length options ≤ max_options_len
    → length (join elements) ≤ max_options_len
joined_room elements options joined room = omega (arith, ap length joined.whole, length-append (join elements) joined.rest)

pub elements_padded : (elements : List TcpOptionElement) (options : List ℕ) → Reads options (as_items elements)
    → Reads (pad (join elements)) (as_items elements)
elements_padded elements options reads =
    let back = items_read_back elements options reads in
    subst (Reads (pad (join elements))) (sym back.0) (pad_read elements back.1)

same_items : (elements others : List TcpOptionElement) → as_items elements ≡ as_items others → elements ≡ others
same_items [] [] same = refl
same_items [] (other ∷ others) same = cc
same_items (element ∷ elements) [] same = cc
same_items (element ∷ elements) (other ∷ others) same =
    let rest : as_items elements ≡ as_items others = cc in
    let tail = same_items elements others rest in
    cc

-- two options without a fault are read alike exactly if their padded spellings are the same
pub read_alike : (elements others : List TcpOptionElement) (options other : List ℕ) → Reads options (as_items elements)
    → Reads other (as_items others)
    → ((elements ≡ others) ↔ (pad (join elements) ≡ pad (join others)))
read_alike elements others options other reads again = (
  λ same. ap (λ es. pad (join es)) same,
  λ same. same_items elements others (one_reading (pad (join elements)) (as_items elements) (as_items others)
      (elements_padded elements options reads)
      (subst (λ o. Reads o (as_items others)) (sym same) (elements_padded others other again))),
)
