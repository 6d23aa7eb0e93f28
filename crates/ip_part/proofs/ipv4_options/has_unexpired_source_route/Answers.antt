use Rattle.std.proofs.Common.{is_some, length, sym, ap, ◌∙◌}
use Rattle.std.proofs.lemmas.List.{take_rest}
use Rattle.ip_part.specs.Options.{ipv4_option, is_unexpired_route}
use Rattle.ip_part.proofs.OptionsLemmas.{found_at, none_at, sought_next}
use Rattle.ip_part.proofs.ipv4_options.has_unexpired_source_route.Goals as goal

pub returns-then-is_unexpired_route : goal.returns-then-is_unexpired_route
returns-then-is_unexpired_route c =
    sym (ap (λ found. is_some found) (found_at is_unexpired_route ipv4_option c.args.options.now c.loop-option.rest.now
    c.in-Some.option.now
    c.loop-option.invariant c.in-Some.ensures.front (sym c.is_unexpired_route.ensures ∙ c.if-is_unexpired_route.true)))

pub loop-option-preserved : goal.loop-option-preserved
loop-option-preserved c =
    sought_next is_unexpired_route ipv4_option c.args.options.now c.loop-option.rest.now c.in-Some.option.now _ c.loop-option.invariant
    c.in-Some.ensures.front (sym c.is_unexpired_route.ensures ∙ c.if-is_unexpired_route.false) c.in-Some.ensures.within.0
    c.in-Some.ensures.within.1
    (take_rest c.loop-option.rest.now (length c.in-Some.option.now))

pub returns : goal.returns
returns c =
    sym (ap (λ found. is_some found) (none_at is_unexpired_route ipv4_option c.args.options.now c.loop-option.rest.now
    c.loop-option.invariant
    c.in_default.ensures.front))
