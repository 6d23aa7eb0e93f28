use Rattle.std.proofs.Common.{◌≡◌, ◌+◌, ◌-◌, ◌∙◌, Some, false, true, ap, arith, drop, length, rules, sym, take}
use Rattle.std.proofs.lemmas.List.{take_rest}
use Rattle.std.specs.Option.{option_map}
use Rattle.ip_part.proofs.OptionsLemmas.{found_at, none_at, sought_next}
use Rattle.capture_numbers.specs.Numbers.{short_at}
use Rattle.capture_numbers.specs.Options.{is_option, pcapng_option, value_in}
use Rattle.capture_numbers.proofs.options.option_value.Goals as goal

-- the option is found
pub returns-then-value_len-unwrap_or-clause-value : goal.returns-then-value_len-unwrap_or-clause-value
returns-then-value_len-unwrap_or-clause-value c =
    let order = c.args.order in
    let option = c.in-Some.option.now in
    let is : is_option order c.args.code c.args.len option ≡ true = search rules in
    let len : c.from.result ≡ short_at order option 2 = search rules in
    ap (option_map (value_in order)) (found_at (is_option order c.args.code c.args.len) (pcapng_option order) c.args.options.now
    c.loop-option.rest.now option c.loop-option.invariant c.in-Some.ensures.front is)
    ∙ ap (λ n. Some (take (4 + n - 4) (drop 4 option))) (sym len)

-- the invariant holds after another option, which is not the sought option
pub loop-option-preserved : goal.loop-option-preserved
loop-option-preserved c =
    let order = c.args.order in
    let option = c.in-Some.option.now in
    let differs : is_option order c.args.code c.args.len option ≡ false = search rules in
    sought_next (is_option order c.args.code c.args.len) (pcapng_option order) c.args.options.now c.loop-option.rest.now option _
    c.loop-option.invariant c.in-Some.ensures.front differs (omega (arith, c.in-Some.ensures.len)) c.in-Some.ensures.within
    (take_rest c.loop-option.rest.now (length option))

-- no option is left
pub returns-clause-value : goal.returns-clause-value
returns-clause-value c =
    ap (option_map (value_in c.args.order)) (none_at (is_option c.args.order c.args.code c.args.len) (pcapng_option c.args.order)
    c.args.options.now c.loop-option.rest.now c.loop-option.invariant c.in_default.ensures.front)
