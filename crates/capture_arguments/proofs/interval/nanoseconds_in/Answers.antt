use Rattle.std.proofs.Common.{◌∙◌, None, Some, ap, sym}
use Rattle.std.specs.Option.{option_map}
use Rattle.capture_arguments.proofs.IntervalLemmas.{seconds_by}
use Rattle.capture_arguments.proofs.interval.nanoseconds_in.Goals as goal

-- with a point
pub returns-in-Some : goal.returns-in-Some
returns-in-Some c =
    seconds_by c.args.text.now (Some (c.in-Some.whole.now, c.in-Some.fraction.now)) c.sum_in.result
    (sym c.parts_in.ensures ∙ ap (option_map (λ parts. (parts.0.now, parts.1.now))) c.in-Some.is) c.sum_in.ensures

-- without a point
pub returns-in-None : goal.returns-in-None
returns-in-None c =
    seconds_by c.args.text.now None c.whole_in.result
    (sym c.parts_in.ensures ∙ ap (option_map (λ parts. (parts.0.now, parts.1.now))) c.in-None.is) c.whole_in.ensures.value
