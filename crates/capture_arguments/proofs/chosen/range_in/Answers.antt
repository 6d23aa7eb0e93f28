use Rattle.std.proofs.Common.{◌∙◌, None, Some, ap, sym}
use Rattle.std.specs.Option.{option_map}
use Rattle.capture_arguments.proofs.ChosenLemmas.{range_by}
use Rattle.capture_arguments.proofs.chosen.range_in.Goals as goal

-- two ports
pub returns-in-Some : goal.returns-in-Some
returns-in-Some c =
    range_by c.args.text.now (Some (c.in-Some.first.now, c.in-Some.last.now)) c.range_of.result
    (sym c.bounds_in.ensures ∙ ap (option_map (λ bounds. (bounds.0.now, bounds.1.now))) c.in-Some.is) c.range_of.ensures

-- one port
pub returns-in-None : goal.returns-in-None
returns-in-None c =
    range_by c.args.text.now None c.single_in.result
    (sym c.bounds_in.ensures ∙ ap (option_map (λ bounds. (bounds.0.now, bounds.1.now))) c.in-None.is) c.single_in.ensures
