use Rattle.std.proofs.Common.{is_some, length, sym, ap, rules}
use Rattle.std.proofs.lemmas.List.{take_rest}
use Rattle.ip_part.specs.Options.{ipv6_option}
use Rattle.ip_part.proofs.OptionsLemmas.{found_at, none_at, sought_next}
use Rattle.etherparse_transport.specs.SkippedHeaders.{is_home_address}
use Rattle.etherparse_transport.proofs.ip.skipped_headers.contain_home_address.Goals as goal

pub returns-then-option : goal.returns-then-option
returns-then-option c =
    sym (ap (λ found. is_some found) (found_at is_home_address ipv6_option c.args.options.now c.loop-option.rest.now c.in-Some.option.now
    c.loop-option.invariant c.in-Some.ensures.front (search rules)))

pub loop-option-preserved : goal.loop-option-preserved
loop-option-preserved c =
    sought_next is_home_address ipv6_option c.args.options.now c.loop-option.rest.now c.in-Some.option.now _ c.loop-option.invariant
    c.in-Some.ensures.front (search rules) c.in-Some.ensures.within.0 c.in-Some.ensures.within.1
    (take_rest c.loop-option.rest.now (length c.in-Some.option.now))

pub returns : goal.returns
returns c =
    sym (ap (λ found. is_some found) (none_at is_home_address ipv6_option c.args.options.now c.loop-option.rest.now c.loop-option.invariant
    c.in_default.ensures.front))
