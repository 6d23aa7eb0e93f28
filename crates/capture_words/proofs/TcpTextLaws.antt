-- The options of a TCP header have exactly one text, and so has the header.
use Rattle.std.specs.Prelude.{ℕ, ◌<◌, List, ◌∷◌, [], Option, None, Some, Ok, Err, MatchOption, codes, length}
use Rattle.std.proofs.Common.{◌≡◌, ◌∙◌, ap, arith, inl, inr, refl, subst, sym}
use Rattle.std.proofs.lemmas.List.{append_cancel_left}
use Rattle.tcp_part.proofs.TcpOptionsReadingLemmas.{one_reading}
use Rattle.tcp_part.proofs.TcpRawOptionsLemmas.{one_raw_reading}
use Rattle.tcp_part.specs.TcpOptionsReading.{BeginsWith, Item}
use Rattle.tcp_part.specs.TcpRawOptions.{BeginsWithRaw, RawItem, RawOption, ReadsRaw, element_refusal, raw_spelling}
use Rattle.tcp_part.specs.declared.tcp_option_element.TcpOptionElement.{TcpOptionElement}
use Rattle.tcp_part.specs.TcpFormat.{options_of}
use Rattle.capture_words.specs.TcpText.{AreOptionTexts, IsHeaderText, IsListText, IsOptionText, IsOptionsText, element_text, fault_text, listed, raw_text}

-- a value that is determined by a part is unique if the part is unique
pub one_of : {X Y : Type 0} (P : X → Type 0) (f : X → Y) → ((x y : X) → P x → P y → x ≡ y) → (s t : Y)
    → (x : X) × P x × (s ≡ f x) → (x : X) × P x × (t ≡ f x) → s ≡ t
one_of P f one s t is also = is.2 ∙ ap f (one is.0 also.0 is.1 also.1) ∙ sym also.2

-- ---- options

-- bytes that consist of one element consist of only this element
one_element : (bytes : List ℕ) (element other : TcpOptionElement) → BeginsWith bytes element [] → BeginsWith bytes other []
    → element ≡ other
one_element bytes element other begins again =
    ap (first_or element) (one_reading bytes (Ok element ∷ []) (Ok other ∷ []) ([], begins, inl refl) ([], again, inl refl))
  where
    first_or : TcpOptionElement → List Item → TcpOptionElement
    first_or none [] = none
    first_or none (Ok first ∷ items) = first
    first_or none (Err error ∷ items) = none

-- the text of an option that is not an element, given the reason
abbrev IsTextBy : {E : Type 0} → RawOption → List ℕ → Option E → Type 0
IsTextBy option text found = MatchOption found
    ((element : TcpOptionElement) × BeginsWith (raw_spelling option) element [] × (text ≡ element_text element))
    (λ error. text ≡ raw_text option)

same_text_by : {E : Type 0} (option : RawOption) (text other : List ℕ) (found : Option E)
    → IsTextBy option text found → IsTextBy option other found → text ≡ other
same_text_by option text other None first second =
    first.2 ∙ ap element_text (one_element (raw_spelling option) first.0 second.0 first.1 second.1) ∙ sym second.2
same_text_by option text other (Some error) first second = first ∙ sym second

-- the text of an option is unique
one_option_text : (option : RawOption) (text other : List ℕ) → IsOptionText option text → IsOptionText option other → text ≡ other
one_option_text option text other = same_text_by option text other (element_refusal option)

-- the texts of bytes, given the items in them
abbrev AreItemTexts : List ℕ → List RawItem → List (List ℕ) → Type 0
AreItemTexts bytes [] [] = bytes ≡ []
AreItemTexts bytes [] (text ∷ texts) = (0 < length bytes) × (text ≡ codes "end of options") × (texts ≡ [])
AreItemTexts bytes (Ok option ∷ items) [] = ⊥
AreItemTexts bytes (Ok option ∷ items) (text ∷ texts) =
    (rest : List ℕ) × BeginsWithRaw bytes option rest × IsOptionText option text × AreItemTexts rest items texts
AreItemTexts bytes (Err error ∷ items) [] = ⊥
AreItemTexts bytes (Err error ∷ items) (text ∷ texts) = (text ≡ fault_text error) × (texts ≡ [])

items_of : (bytes : List ℕ) (texts : List (List ℕ)) → AreOptionTexts bytes texts
    → (items : List RawItem) × ReadsRaw bytes items × AreItemTexts bytes items texts
items_of bytes [] none = ([], inl (ap length none), none)
items_of bytes (text ∷ texts) (inl end) = ([], inr end.1, (end.0, end.2, end.3))
items_of bytes (text ∷ texts) (inr (inl fault)) = (Err fault.0 ∷ [], (fault.1, refl), (fault.2, fault.3))
items_of bytes (text ∷ texts) (inr (inr one)) =
    let more = items_of one.1 texts one.4 in
    (Ok one.0 ∷ more.0, (one.1, one.2, more.1), (one.1, one.2, one.3, more.2))

cons_same : (x y : List ℕ) (xs ys : List (List ℕ)) → x ≡ y → xs ≡ ys → x ∷ xs ≡ y ∷ ys
cons_same x y xs ys p q = ap (λ first. first ∷ xs) p ∙ ap (λ rest. y ∷ rest) q

same_texts : (bytes : List ℕ) (items : List RawItem) (texts others : List (List ℕ)) → AreItemTexts bytes items texts
    → AreItemTexts bytes items others
    → texts ≡ others
same_texts bytes [] [] [] is also = refl
same_texts bytes [] [] (other ∷ others) none some = absurd (omega (arith, ap length none, some.0))
same_texts bytes [] (text ∷ texts) [] some none = absurd (omega (arith, ap length none, some.0))
same_texts bytes [] (text ∷ texts) (other ∷ others) is also = cons_same text other texts others (is.1 ∙ sym also.1) (is.2 ∙ sym also.2)
same_texts bytes (Ok option ∷ items) [] others is also = absurd is
same_texts bytes (Ok option ∷ items) (text ∷ texts) [] is also = absurd also
same_texts bytes (Ok option ∷ items) (text ∷ texts) (other ∷ others) is also =
    let rest : also.0 ≡ is.0 = append_cancel_left (raw_spelling option) also.0 is.0 (sym also.1.spelled ∙ is.1.spelled) in
    cons_same text other texts others (one_option_text option text other is.2 also.2)
    (same_texts is.0 items texts others is.3 (subst (λ left. AreItemTexts left items others) rest also.3))
same_texts bytes (Err error ∷ items) [] others is also = absurd is
same_texts bytes (Err error ∷ items) (text ∷ texts) [] is also = absurd also
same_texts bytes (Err error ∷ items) (text ∷ texts) (other ∷ others) is also =
    cons_same text other texts others (is.0 ∙ sym also.0) (is.1 ∙ sym also.1)

pub one_option_list : (bytes : List ℕ) (texts others : List (List ℕ)) → AreOptionTexts bytes texts → AreOptionTexts bytes others
    → texts ≡ others
one_option_list bytes texts others are also =
    let first = items_of bytes texts are in
    let second = items_of bytes others also in
    let same = one_raw_reading bytes second.0 first.0 second.1 first.1 in
    same_texts bytes first.0 texts others first.2 (subst (λ items. AreItemTexts bytes items others) same second.2)

one_list_text : (bytes text other : List ℕ) → IsListText bytes text → IsListText bytes other → text ≡ other
one_list_text bytes = one_of _ listed (one_option_list bytes)

one_options_text : (bytes text other : List ℕ) → IsOptionsText bytes text → IsOptionsText bytes other → text ≡ other
one_options_text [] text other is also = is ∙ sym also
one_options_text (byte ∷ bytes) text other is also =
    one_of _ _ (one_list_text (byte ∷ bytes)) text other is also

pub one_header_text : (header text other : List ℕ) → IsHeaderText header text → IsHeaderText header other → text ≡ other
one_header_text header text other is also = one_of _ _ (one_options_text (options_of header)) text other is also
