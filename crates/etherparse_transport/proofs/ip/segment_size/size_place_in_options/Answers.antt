use Rattle.std.proofs.Common.{◌≡◌, ◌+◌, ◌∷◌, [], ℕ, List, Some, Ok, Err, length, length-append, refl, sym, ap, ◌∙◌, subst, arith, rules}
use Rattle.tcp_part.specs.TcpRawOptions.{BeginsWithRaw, RawOption, ReadsRawNext, raw_spelling}
use Rattle.tcp_part.proofs.TcpRawOptionsLemmas.{has_one_raw_reading}
use Rattle.etherparse_transport.specs.SegmentSizes.{place_in, size_in}
use Rattle.etherparse_transport.proofs.SegmentSizeLemmas.{found_in_rest, searched_more, size_here, size_within}
use Rattle.etherparse_transport.proofs.ip.segment_size.size_place_in_options.Goals as goal

-- the fault is the last item
pub returns-in-Err-clause-found : goal.returns-in-Err-clause-found
returns-in-Err-clause-found c =
    let (can, finite, late, len, searched) = c.loop-option.invariant in
    let read = subst (λ item. ReadsRawNext c.loop-option.rest (Some item) c.next.new.self) c.in-Err.is c.in-Some.ensures.steps in
    found_in_rest c.args.options.now c.loop-option.start c.loop-option.rest (Err c.in-Err.error ∷ []) _ searched (read.0, refl) refl

-- the option is a maximum segment size
pub returns-then-option-eq-KIND_MAXIMUM_SEGMENT_SIZE-clause-found : goal.returns-then-option-eq-KIND_MAXIMUM_SEGMENT_SIZE-clause-found
returns-then-option-eq-KIND_MAXIMUM_SEGMENT_SIZE-clause-found c =
    let (can, finite, late, len, searched) = c.loop-option.invariant in
    let option : RawOption = c.in-Ok.option in
    let after : List ℕ = c.next.new.self in
    let begins : BeginsWithRaw c.loop-option.rest option after =
    subst (λ item. ReadsRawNext c.loop-option.rest (Some item) after) c.in-Ok.is c.in-Some.ensures.steps in
    let others = has_one_raw_reading after in
    found_in_rest c.args.options.now c.loop-option.start c.loop-option.rest (Ok option ∷ others.items) _ searched
    (after, begins, others.reads)
    (size_here c.loop-option.start option others.items (search rules)
    ∙ ap (λ len. size_in c.loop-option.start len) (sym c.option_len-len.ensures) ∙ sym c.size_place_in_option.ensures.place)

pub returns-then-option-eq-KIND_MAXIMUM_SEGMENT_SIZE-clause-there : goal.returns-then-option-eq-KIND_MAXIMUM_SEGMENT_SIZE-clause-there
returns-then-option-eq-KIND_MAXIMUM_SEGMENT_SIZE-clause-there c =
    let (can, finite, late, len, searched) = c.loop-option.invariant in
    let option : RawOption = c.in-Ok.option in
    let after : List ℕ = c.next.new.self in
    let begins : BeginsWithRaw c.loop-option.rest option after =
    subst (λ item. ReadsRawNext c.loop-option.rest (Some item) after) c.in-Ok.is c.in-Some.ensures.steps in
    let left : length c.loop-option.rest ≡ length (raw_spelling option) + length after =
    ap length begins.spelled ∙ length-append (raw_spelling option) after in
    size_within c.loop-option.start c.option_len-len.result (length after) (length c.args.options.now) c.size_place_in_option.result
    c.size_place_in_option.ensures.there late (omega (arith, len, left, c.option_len-len.ensures))

pub loop-option-preserved : goal.loop-option-preserved
loop-option-preserved c =
    let (can, finite, late, len, searched) = c.loop-option.invariant in
    let option : RawOption = c.in-Ok.option in
    let after : List ℕ = c.next.new.self in
    let begins : BeginsWithRaw c.loop-option.rest option after =
    subst (λ item. ReadsRawNext c.loop-option.rest (Some item) after) c.in-Ok.is c.in-Some.ensures.steps in
    let left : length c.loop-option.rest ≡ length (raw_spelling option) + length after =
    ap length begins.spelled ∙ length-append (raw_spelling option) after in (
      tt,
      tt,
      omega (arith, late),
      omega (arith, len, left, c.option_len-len.ensures),
      λ items reads.
          let (all, reads_all, same) =
          searched_more c.args.options.now c.loop-option.start c.loop-option.rest option after begins (search rules) searched items reads in
          (all, reads_all, same ∙ ap (λ len. place_in (c.loop-option.start + len) items) (sym c.option_len-len.ensures)),
    )

-- the list of options ends
pub returns-clause-found : goal.returns-clause-found
returns-clause-found c =
    let (can, finite, late, len, searched) = c.loop-option.invariant in
    found_in_rest c.args.options.now c.loop-option.start c.loop-option.rest [] _ searched c.in_default.ensures.steps.0 refl
