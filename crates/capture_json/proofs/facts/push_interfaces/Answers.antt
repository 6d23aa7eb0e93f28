use Rattle.std.proofs.Common.{◌≡◌, ◌<◌, ◌+◌, ◌∙◌, ℕ, List, [], ◌∷◌, ◌++◌, ap, arith, get_or, length, length-take-le, rules, sym, take}
use Rattle.std.proofs.lemmas.List.{take_more}
use Rattle.capture_file.specs.declared.pcapng.interface_description.InterfaceDescription.{InterfaceDescription}
use Rattle.capture_file.specs.declared.file_texts.InterfaceTexts.{InterfaceTexts}
use Rattle.json.specs.Token.{Token}
use Rattle.capture_json.specs.JsonFacts.{interface_data, interfaces_data}
use Rattle.capture_json.specs.Tokens.{push, with_items}
use Rattle.capture_json.proofs.JsonLemmas.{one_more_item}
use Rattle.capture_json.proofs.facts.push_interfaces.Goals as goal

-- the interfaces after other interfaces and another interface
after_others : (texts : List InterfaceTexts) (first now : ℕ) (interfaces : List InterfaceDescription) (interface : InterfaceDescription)
    → now ≡ first + length interfaces → interfaces_data texts first (interfaces ++ interface ∷ [])
    ≡ interfaces_data texts first interfaces ++ interface_data texts now interface ∷ []
after_others texts first now [] interface is =
    let same : first ≡ now = omega (arith, is) in
    ap (λ number. interface_data texts number interface ∷ []) same
after_others texts first now (one ∷ others) interface is =
    ap (λ items. interface_data texts first one ∷ items) (after_others texts (first + 1) now others interface (omega (arith, is)))

-- the interfaces after another interface is written
one_more : (texts : List InterfaceTexts) (interfaces : List InterfaceDescription) (i : ℕ) (d : InterfaceDescription)
    (before between after : List Token) → i < length interfaces
    → between ≡ with_items (interfaces_data texts 0 (take i interfaces)) before
    → after ≡ push (interface_data texts i (get_or interfaces i d)) between
    → after ≡ with_items (interfaces_data texts 0 (take (i + 1) interfaces)) before
one_more texts interfaces i d before between after below is_first is_second =
    let len = length-take-le i interfaces (omega (arith, below)) in
    one_more_item (interfaces_data texts 0 (take i interfaces)) (interface_data texts i (get_or interfaces i d)) before between after
    is_first is_second
    ∙ ap (λ items. with_items items before)
    (sym (after_others texts 0 i (take i interfaces) (get_or interfaces i d) (omega (arith, below, len)))
    ∙ ap (interfaces_data texts 0) (sym (take_more interfaces i d below)))

pub loop-number-preserved : goal.loop-number-preserved
loop-number-preserved c =
    one_more c.args.texts.now c.args.interfaces.now c.loop-number.number _ _ _ _ (search rules) c.loop-number.invariant
    c.in_ok-push_interface.ensures
