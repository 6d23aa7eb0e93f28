use Rattle.std.proofs.Common.{length, sym, ◌∙◌, ◌⊎◌, inl, inr}
use Rattle.std.proofs.lemmas.List.{take_rest}
use Rattle.ip_part.specs.Options as specs
use Rattle.ip_part.proofs.OptionsLemmas.{found_at, none_at, none_of_short, sought_next}
use Rattle.ip_part.proofs.ipv6_options.find_option.Goals as goal

pub returns-then-is_option-clause-found : goal.returns-then-is_option-clause-found
returns-then-is_option-clause-found c =
    found_at (specs.is_ipv6_option c.args.kind c.args.len) specs.ipv6_option c.args.options.now c.loop-option.rest.now c.in-Some.option.now
    c.loop-option.invariant
    c.in-Some.ensures.front (sym c.is_option.ensures.is ∙ c.if-is_option.true)

pub loop-option-preserved : goal.loop-option-preserved
loop-option-preserved c =
    sought_next (specs.is_ipv6_option c.args.kind c.args.len) specs.ipv6_option c.args.options.now c.loop-option.rest.now
    c.in-Some.option.now _ c.loop-option.invariant
    c.in-Some.ensures.front (sym c.is_option.ensures.is ∙ c.if-is_option.false) c.in-Some.ensures.within.0 c.in-Some.ensures.within.1
    (take_rest c.loop-option.rest.now (length c.in-Some.option.now))

left_over : {short none : Type 0} {found : Type 0} → (short → found) → (none → found) → short ⊎ none → found
left_over of_short of_none (inl short) = of_short short
left_over of_short of_none (inr none) = of_none none

pub returns-clause-found : goal.returns-clause-found
returns-clause-found c =
    left_over
    (λ short. none_of_short c.args.kind c.args.len c.args.options.now c.loop-option.rest.now c.loop-option.invariant short)
    (λ none. none_at (specs.is_ipv6_option c.args.kind c.args.len) specs.ipv6_option c.args.options.now c.loop-option.rest.now
    c.loop-option.invariant none)
    c.in_default.ensures.front
