use Rattle.std.proofs.Common.{drop, length, ◌⊎◌, inl, inr}
use Rattle.std.proofs.lemmas.List.{take_rest}
use Rattle.ip_part.specs.Options as specs
use Rattle.ip_part.proofs.OptionsLemmas.{folded_next, folded_none, folded_short}
use Rattle.ip_part.proofs.ipv6_options.home_address_after.Goals as goal

pub loop-option-preserved : goal.loop-option-preserved
loop-option-preserved c =
    rw c.home_address_or-address.ensures
    (folded_next specs.ipv6_option specs.home_address_or c.args.source.now c.loop-option.address.now
    (drop 2 c.args.header.now) c.loop-option.rest.now
    c.in-Some.option.now _ c.loop-option.invariant c.in-Some.ensures.front c.in-Some.ensures.within.0 c.in-Some.ensures.within.1
    (take_rest c.loop-option.rest.now (length c.in-Some.option.now)))

left_over : {short none : Type 0} {found : Type 0} → (short → found) → (none → found) → short ⊎ none → found
left_over of_short of_none (inl short) = of_short short
left_over of_short of_none (inr none) = of_none none

pub returns : goal.returns
returns c =
    left_over
    (λ short. folded_short c.args.source.now c.loop-option.address.now
    (drop 2 c.args.header.now) c.loop-option.rest.now c.loop-option.invariant short)
    (λ none. folded_none specs.ipv6_option specs.home_address_or c.args.source.now c.loop-option.address.now
    (drop 2 c.args.header.now) c.loop-option.rest.now
    c.loop-option.invariant none)
    c.in_default.ensures.front
