-- The lines of interfaces, one after the other.
use Rattle.std.proofs.Common.{◌≡◌, ◌<◌, ◌+◌, ◌∙◌, ℕ, List, [], ◌∷◌, ◌++◌, Option, ap, append-nil, append_assoc, arith, get_or, length, length-take-le, subst, sym, take}
use Rattle.std.proofs.KnownBytes.{Appends-trans}
use Rattle.std.proofs.lemmas.List.{take_more}
use Rattle.std.specs.Io.KnownBytes.{Appends}
use Rattle.std.specs.Prelude.{codes}
use Rattle.capture_words.specs.FactsText.{described_text, interfaces_text}
use Rattle.capture_file.specs.declared.pcapng.interface_description.InterfaceDescription.{InterfaceDescription}
use Rattle.capture_file.specs.declared.file_texts.InterfaceTexts.{InterfaceTexts}

-- the lines of interfaces and of an interface after them
interfaces-push : (texts : List InterfaceTexts) (first now : ℕ) (interfaces : List InterfaceDescription) (interface : InterfaceDescription)
    → now ≡ first + length interfaces → interfaces_text texts first (interfaces ++ interface ∷ [])
    ≡ interfaces_text texts first interfaces ++ described_text texts now interface
interfaces-push texts first now [] interface is =
    let same : first ≡ now = omega (arith, is) in
    append-nil (described_text texts first interface) ∙ ap (λ number. described_text texts number interface) same
interfaces-push texts first now (one ∷ others) interface is =
    ap (λ text. described_text texts first one ++ text) (interfaces-push texts (first + 1) now others interface (omega (arith, is)))
    ∙ sym (append_assoc (described_text texts first one) (interfaces_text texts (first + 1) others) (described_text texts now interface))

-- the lines of interfaces and of another interface
pub one-more : (texts : List InterfaceTexts) (interfaces : List InterfaceDescription) (i : ℕ) (d : InterfaceDescription)
    (a b c : Option (List ℕ)) → i < length interfaces
    → Appends a b (interfaces_text texts 0 (take i interfaces)) → Appends b c (described_text texts i (get_or interfaces i d))
    → Appends a c (interfaces_text texts 0 (take (i + 1) interfaces))
one-more texts interfaces i d a b c below before one =
    subst (Appends a c)
    (sym (interfaces-push texts 0 i (take i interfaces) (get_or interfaces i d)
    (omega (arith, below, length-take-le i interfaces (omega (arith, below)))))
    ∙ ap (interfaces_text texts 0) (sym (take_more interfaces i d below)))
    (Appends-trans a b c (interfaces_text texts 0 (take i interfaces)) (described_text texts i (get_or interfaces i d)) before one)

-- the text of a pcapng file consists of these parts
pub section_parts : (order count texts interfaces : List ℕ)
    → (codes "file type pcapng, byte order " ++ (order ++ (codes ", interfaces " ++ (count ++ codes "\n")))) ++ (texts ++ interfaces)
    ≡ codes "file type pcapng, byte order " ++ (order ++ (codes ", interfaces " ++ (count ++ (codes "\n" ++ (texts ++ interfaces)))))
section_parts order count texts interfaces = simp append_assoc
