-- The options of a TCP header have one array of objects, and at most one fault.
use Rattle.std.specs.Prelude.{ℕ, ◌<◌, List, ◌∷◌, [], Option, None, Some, Ok, Err, MatchOption, codes, length}
use Rattle.std.proofs.Common.{◌≡◌, ◌∙◌, ap, arith, inl, inr, refl, subst, sym}
use Rattle.std.proofs.lemmas.List.{append_cancel_left}
use Rattle.serde_json.specs.Data.{Data}
use Rattle.tcp_part.proofs.TcpOptionsReadingLemmas.{one_reading}
use Rattle.tcp_part.proofs.TcpRawOptionsLemmas.{one_raw_reading}
use Rattle.tcp_part.specs.TcpOptionsReading.{BeginsWith, Item}
use Rattle.tcp_part.specs.TcpRawOptions.{BeginsWithRaw, RawItem, RawOption, ReadsRaw, element_refusal, raw_spelling}
use Rattle.tcp_part.specs.declared.tcp_option_element.TcpOptionElement.{TcpOptionElement}
use Rattle.tcp_part.specs.declared.tcp_raw_option_error.TcpRawOptionError.{TcpRawOptionError}
use Rattle.capture_words.proofs.TcpTextLaws.{one_of}
use Rattle.capture_json.specs.JsonOptions.{AreOptionFields, AreOptionMembers, AreOptionObjects, IsOptionObject, data_fields, element_fields, fault_members, kind_object, option_object}
use Rattle.capture_json.specs.Members.{Member, array_of}

-- bytes that consist of one element consist of only this element
one_element : (bytes : List ℕ) (element other : TcpOptionElement) → BeginsWith bytes element [] → BeginsWith bytes other []
    → element ≡ other
one_element bytes element other begins again =
    ap (first_or element) (one_reading bytes (Ok element ∷ []) (Ok other ∷ []) ([], begins, inl refl) ([], again, inl refl))
  where
    first_or : TcpOptionElement → List Item → TcpOptionElement
    first_or none [] = none
    first_or none (Ok first ∷ items) = first
    first_or none (Err error ∷ items) = none

-- the fields of an option; `element_refusal` is the reason why it is not an element
abbrev AreFieldsBy : {E : Type 0} → RawOption → List Member → Option E → Type 0
AreFieldsBy option fields found = MatchOption found
    ((element : TcpOptionElement) × BeginsWith (raw_spelling option) element [] × (fields ≡ element_fields element))
    (λ error. fields ≡ data_fields option)

same_fields_by : {E : Type 0} (option : RawOption) (fields others : List Member) (found : Option E)
    → AreFieldsBy option fields found → AreFieldsBy option others found → fields ≡ others
same_fields_by option fields others None first second =
    first.2 ∙ ap element_fields (one_element (raw_spelling option) first.0 second.0 first.1 second.1) ∙ sym second.2
same_fields_by option fields others (Some error) first second = first ∙ sym second

one_fields : (option : RawOption) (fields others : List Member) → AreOptionFields option fields → AreOptionFields option others
    → fields ≡ others
one_fields option fields others = same_fields_by option fields others (element_refusal option)

-- the object of an option is unique
one_object : (option : RawOption) (value other : Data) → IsOptionObject option value → IsOptionObject option other → value ≡ other
one_object option = one_of _ (option_object option.kind) (one_fields option)

-- the objects of bytes and the fault after them, given the items in the bytes
abbrev AreItemObjects : List ℕ → List RawItem → List Data → Option TcpRawOptionError → Type 0
AreItemObjects bytes [] [] fault = (bytes ≡ []) × (fault ≡ None)
AreItemObjects bytes [] (value ∷ values) fault = (0 < length bytes) × (value ≡ kind_object 0) × (values ≡ []) × (fault ≡ None)
AreItemObjects bytes (Ok option ∷ items) [] fault = ⊥
AreItemObjects bytes (Ok option ∷ items) (value ∷ values) fault =
    (rest : List ℕ) × BeginsWithRaw bytes option rest × IsOptionObject option value × AreItemObjects rest items values fault
AreItemObjects bytes (Err error ∷ items) [] fault = fault ≡ Some error
AreItemObjects bytes (Err error ∷ items) (value ∷ values) fault = ⊥

items_in : (bytes : List ℕ) (values : List Data) (fault : Option TcpRawOptionError) → AreOptionObjects bytes values fault
    → (items : List RawItem) × ReadsRaw bytes items × AreItemObjects bytes items values fault
items_in bytes [] None none = ([], inl (ap length none), (none, refl))
items_in bytes [] (Some error) wrong = (Err error ∷ [], (wrong, refl), refl)
items_in bytes (value ∷ values) fault (inl end) = ([], inr end.1, (end.0, end.2, end.3, end.4))
items_in bytes (value ∷ values) fault (inr one) =
    let more = items_in one.1 values fault one.4 in
    (Ok one.0 ∷ more.0, (one.1, one.2, more.1), (one.1, one.2, one.3, more.2))

cons_same : (x y : Data) (xs ys : List Data) → x ≡ y → xs ≡ ys → x ∷ xs ≡ y ∷ ys
cons_same x y xs ys p q = ap (λ first. first ∷ xs) p ∙ ap (λ rest. y ∷ rest) q

same_objects : (bytes : List ℕ) (items : List RawItem) (values others : List Data) (fault another : Option TcpRawOptionError)
    → AreItemObjects bytes items values fault → AreItemObjects bytes items others another → (values ≡ others) × (fault ≡ another)
same_objects bytes [] [] [] fault another is also = (refl, is.1 ∙ sym also.1)
same_objects bytes [] [] (other ∷ others) fault another none some = absurd (omega (arith, ap length none.0, some.0))
same_objects bytes [] (value ∷ values) [] fault another some none = absurd (omega (arith, ap length none.0, some.0))
same_objects bytes [] (value ∷ values) (other ∷ others) fault another is also =
    (cons_same value other values others (is.1 ∙ sym also.1) (is.2 ∙ sym also.2), is.3 ∙ sym also.3)
same_objects bytes (Ok option ∷ items) [] others fault another is also = absurd is
same_objects bytes (Ok option ∷ items) (value ∷ values) [] fault another is also = absurd also
same_objects bytes (Ok option ∷ items) (value ∷ values) (other ∷ others) fault another is also =
    let rest : also.0 ≡ is.0 = append_cancel_left (raw_spelling option) also.0 is.0 (sym also.1.spelled ∙ is.1.spelled) in
    let more = same_objects is.0 items values others fault another is.3
    (subst (λ left. AreItemObjects left items others another) rest also.3) in
    (cons_same value other values others (one_object option value other is.2 also.2) more.0, more.1)
same_objects bytes (Err error ∷ items) [] [] fault another is also = (refl, is ∙ sym also)
same_objects bytes (Err error ∷ items) [] (other ∷ others) fault another is also = absurd also
same_objects bytes (Err error ∷ items) (value ∷ values) others fault another is also = absurd is

one_option_list : (bytes : List ℕ) (values others : List Data) (fault another : Option TcpRawOptionError)
    → AreOptionObjects bytes values fault → AreOptionObjects bytes others another → (values ≡ others) × (fault ≡ another)
one_option_list bytes values others fault another are also =
    let first = items_in bytes values fault are in
    let second = items_in bytes others another also in
    let same = one_raw_reading bytes second.0 first.0 second.1 first.1 in
    same_objects bytes first.0 values others fault another first.2
    (subst (λ items. AreItemObjects bytes items others another) same second.2)

-- the array of the options is unique, and so is the fault
pub one_options : (bytes : List ℕ) (members others : List Member) → AreOptionMembers bytes members → AreOptionMembers bytes others
    → members ≡ others
one_options bytes members others is also =
    let same = one_option_list bytes is.0 also.0 is.1 also.1 is.2 also.2 in
    is.3 ∙ ap (λ values. (codes "options", array_of values) ∷ fault_members is.1) same.0
    ∙ ap (λ fault. (codes "options", array_of also.0) ∷ fault_members fault) same.1 ∙ sym also.3
