use Rattle.std.proofs.Common.{◌∷◌, [], ◌++◌, ◌∙◌, ◌≡◌, None, Some, append-nil, append_assoc, inl, inr, refl, subst, sym}
use Rattle.tcp_part.specs.TcpOptionsReading.{Ends}
use Rattle.tcp_part.specs.TcpRawOptions.{BeginsWithRaw, ReadsRawNext, raw_fault}
use Rattle.capture_json.specs.JsonOptions.{AreOptionObjects, kind_object}
use Rattle.capture_json.proofs.JsonLemmas.{one_more_item}
use Rattle.capture_words.proofs.TcpTextLemmas.{ends_at_zero, is_nil}
use Rattle.capture_json.proofs.tcp_options.push_options.Goals as goal

-- the fault ends the options
pub returns-in-Err : goal.returns-in-Err
returns-in-Err c =
    let (can, finite, values, pushed, rest, prior) = c.loop-option.invariant in
    let error = c.in-Err.error in
    let whole = c.rest-rest.ensures ∙ c.raw_options_iterator-options.ensures in
    let read = subst (λ item. ReadsRawNext c.loop-option.options (Some item) c.next.new.self) c.in-Err.is c.in-Some.ensures.steps in
    let wrong = subst (λ bytes. raw_fault bytes ≡ Some error) (sym rest) read.0 in
    let are = subst (λ all. AreOptionObjects c.rest-rest.result.now all (Some error)) (append-nil values) (prior [] (Some error) wrong) in
    (values, subst (λ bytes. AreOptionObjects bytes values (Some error)) whole are, pushed)

-- the invariant holds after another object
pub loop-option-preserved : goal.loop-option-preserved
loop-option-preserved c =
    let (can, finite, values, pushed, rest, prior) = c.loop-option.invariant in
    let (value, is, one) = c.in_ok-push_option-in-Ok.ensures in
    let option = c.in-Ok.option in
    let after = c.next.new.self in
    let read = subst (λ item. ReadsRawNext c.loop-option.options (Some item) after) c.in-Ok.is c.in-Some.ensures.steps in
    let begins = subst (λ bytes. BeginsWithRaw bytes option after) (sym rest) read in (
      tt,
      tt,
      values ++ value ∷ [],
      one_more_item values value _ _ _ pushed one,
      c.rest-rest-in-Some.ensures,
      λ more fault are. subst (λ all. AreOptionObjects c.rest-rest.result.now all fault) (sym (append_assoc values (value ∷ []) more))
          (prior (value ∷ more) fault (inr (
            option,
            after,
            begins,
            is,
            subst (λ bytes. AreOptionObjects bytes more fault)
                c.rest-rest-in-Some.ensures are,
          ))),
    )

-- no byte is left
pub returns-then-is_empty : goal.returns-then-is_empty
returns-then-is_empty c =
    let (can, finite, values, pushed, rest, prior) = c.loop-option.invariant in
    let whole = c.rest-rest.ensures ∙ c.raw_options_iterator-options.ensures in
    let are = subst (λ all. AreOptionObjects c.rest-rest.result.now all None) (append-nil values)
    (prior [] None (is_nil c.loop-option.rest.now c.if-is_empty.ensures)) in
    (values, subst (λ bytes. AreOptionObjects bytes values None) whole are, pushed)

-- the end of the list is the last object
pub returns : goal.returns
returns c =
    let (can, finite, values, pushed, rest, prior) = c.loop-option.invariant in
    let end = kind_object 0 in
    let whole = c.rest-rest.ensures ∙ c.raw_options_iterator-options.ensures in
    let ends = ends_at_zero c.loop-option.rest.now (subst Ends (sym rest) c.in_default.ensures.steps.0) c.if-is_empty.ensures in (
      values ++ end ∷ [],
      subst (λ bytes. AreOptionObjects bytes (values ++ end ∷ []) None) whole
          (prior (end ∷ []) None (inl (ends.0, ends.1, refl, refl, refl))),
      one_more_item values end _ _ _ pushed c.in_ok-push_kind.ensures,
    )
