use Rattle.std.proofs.Common.{length, sym, ◌∙◌}
use Rattle.std.proofs.lemmas.List.{take_rest}
use Rattle.ip_part.specs.Options as specs
use Rattle.ip_part.proofs.OptionsLemmas.{found_at, none_at, sought_next}
use Rattle.ip_part.proofs.ipv4_options.source_route.Goals as goal

pub returns-then-is_source_route : goal.returns-then-is_source_route
returns-then-is_source_route c = record {
  found = found_at specs.is_source_route specs.ipv4_option c.args.options.now c.loop-option.rest.now c.in-Some.option.now
      c.loop-option.invariant
      c.in-Some.ensures.front (sym c.is_source_route.ensures ∙ c.if-is_source_route.true);
}

pub loop-option-preserved : goal.loop-option-preserved
loop-option-preserved c =
    sought_next specs.is_source_route specs.ipv4_option c.args.options.now c.loop-option.rest.now c.in-Some.option.now _
    c.loop-option.invariant
    c.in-Some.ensures.front (sym c.is_source_route.ensures ∙ c.if-is_source_route.false) c.in-Some.ensures.within.0
    c.in-Some.ensures.within.1
    (take_rest c.loop-option.rest.now (length c.in-Some.option.now))

pub returns : goal.returns
returns c = record {
  found = none_at specs.is_source_route specs.ipv4_option c.args.options.now c.loop-option.rest.now c.loop-option.invariant
      c.in_default.ensures.front;
}
