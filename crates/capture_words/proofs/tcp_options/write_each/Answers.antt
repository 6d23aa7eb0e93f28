use Rattle.std.proofs.Common.{◌∷◌, [], ◌++◌, ◌∙◌, ◌≡◌, Some, append-nil, append_assoc, inl, inr, refl, subst, sym}
use Rattle.std.specs.Prelude.{codes}
use Rattle.tcp_part.specs.TcpFormat.{options_of}
use Rattle.tcp_part.specs.TcpOptionsReading.{Ends}
use Rattle.tcp_part.specs.TcpRawOptions.{BeginsWithRaw, ReadsRawNext, raw_fault}
use Rattle.capture_words.specs.TcpText.{AreOptionTexts, fault_text, listed}
use Rattle.capture_words.proofs.TcpTextLemmas.{ends_at_zero, is_nil, list_last, list_more, not_first}
use Rattle.capture_words.proofs.tcp_options.write_each.Goals as goal

-- the fault is the last text
pub returns-in-Err : goal.returns-in-Err
returns-in-Err g c =
    let (can, finite, texts, appended, first, rest, prior) = c.loop-option.invariant in
    let error = c.in-Err.error in
    let whole = c.rest-rest.ensures ∙ c.raw_options_iterator-options.ensures in
    let read = subst (λ item. ReadsRawNext c.loop-option.options (Some item) c.next.new.self) c.in-Err.is c.in-Some.ensures.steps in
    let wrong = subst (λ bytes. raw_fault bytes ≡ Some error) (sym rest) read.0 in
    list_last _ _ _ _ _ (options_of c.args.segment.now) texts (fault_text error) c.loop-option.is_first first
    (subst (λ bytes. AreOptionTexts bytes (texts ++ fault_text error ∷ [])) whole
    (prior (fault_text error ∷ []) (inr (inl (error, wrong, refl, refl)))))
    appended c.in_ok-write_separator.ensures c.write_fault.ensures

-- the invariant holds after another text
pub loop-option-preserved : goal.loop-option-preserved
loop-option-preserved g c =
    let (can, finite, texts, appended, first, rest, prior) = c.loop-option.invariant in
    let (text, is, one) = c.in_ok-write_option-in-Ok.ensures in
    let option = c.in-Ok.option in
    let after = c.next.new.self in
    let read = subst (λ item. ReadsRawNext c.loop-option.options (Some item) after) c.in-Ok.is c.in-Some.ensures.steps in
    let begins = subst (λ bytes. BeginsWithRaw bytes option after) (sym rest) read in (
      tt,
      tt,
      texts ++ text ∷ [],
      list_more _ _ _ _ texts text c.loop-option.is_first first appended c.in_ok-write_separator.ensures one,
      not_first texts text,
      c.rest-rest-in-Some.ensures,
      λ more are. subst (AreOptionTexts c.rest-rest.result.now) (sym (append_assoc texts (text ∷ []) more))
          (prior (text ∷ more) (inr (inr
          (option, after, begins, is, subst (λ bytes. AreOptionTexts bytes more) c.rest-rest-in-Some.ensures are)))),
    )

-- no byte is left
pub returns-then-is_empty : goal.returns-then-is_empty
returns-then-is_empty g c =
    let (can, finite, texts, appended, first, rest, prior) = c.loop-option.invariant in
    let whole = c.rest-rest.ensures ∙ c.raw_options_iterator-options.ensures in
    let are = subst (AreOptionTexts c.rest-rest.result.now) (append-nil texts)
    (prior [] (is_nil c.loop-option.rest.now c.if-is_empty.ensures)) in
    (listed texts, (texts, subst (λ bytes. AreOptionTexts bytes texts) whole are, refl), appended)

-- the end of the list is the last text
pub returns : goal.returns
returns g c =
    let (can, finite, texts, appended, first, rest, prior) = c.loop-option.invariant in
    let end = codes "end of options" in
    let whole = c.rest-rest.ensures ∙ c.raw_options_iterator-options.ensures in
    let ends = ends_at_zero c.loop-option.rest.now (subst Ends (sym rest) c.in_default.ensures.steps.0) c.if-is_empty.ensures in
    list_last _ _ _ _ _ (options_of c.args.segment.now) texts end c.loop-option.is_first first
    (subst (λ bytes. AreOptionTexts bytes (texts ++ end ∷ [])) whole (prior (end ∷ []) (inl (ends.0, ends.1, refl, refl))))
    appended c.in_ok-write_separator-2.ensures c.write.ensures.bytes
