use Rattle.std.proofs.Common.{◌≡◌, ◌==◌, true, false, sym, ◌∙◌, rules}
use Rattle.std.proofs.lemmas.List.{take_rest}
use Rattle.ip_part.specs.ExtensionHeaders.{fragment}
use Rattle.reassembly.proofs.FragmentHeaderLemmas.{begins_by, cut_off_by, ended_at, found_at, next_by, no_extension, reached_first, too_short}
use Rattle.reassembly.proofs.fragment_header.fragment_header_at.Goals as goal

pub loop-number-init : goal.loop-number-init
loop-number-init c = reached_first _ c.requires

pub returns-then-eq-clause-found : goal.returns-then-eq-clause-found
returns-then-eq-clause-found c =
    let begins = begins_by c.args.counted.now c.loop-number.number.0 c.loop-number.place
    (sym c.is_extension.ensures ∙ c.loop-number-test.true) c.if-place-counted.true in
    let is : (c.loop-number.number.0 == fragment) ≡ true = search rules in
    sym (found_at _ _ _ _ c.loop-number.invariant begins is)

pub returns-then-rest-len-clause-found : goal.returns-then-rest-len-clause-found
returns-then-rest-len-clause-found c =
    let begins = begins_by c.args.counted.now c.loop-number.number.0 c.loop-number.place
    (sym c.is_extension.ensures ∙ c.loop-number-test.true) c.if-place-counted.true in
    let other : (c.loop-number.number.0 == fragment) ≡ false = search rules in
    sym (cut_off_by _ _ _ _ _ _ (take_rest c.args.counted.now c.loop-number.place) c.loop-number.invariant begins other
    c.extension_len-len.ensures.len c.if-rest-len.true)

pub loop-number-preserved : goal.loop-number-preserved
loop-number-preserved c =
    let begins = begins_by c.args.counted.now c.loop-number.number.0 c.loop-number.place
    (sym c.is_extension.ensures ∙ c.loop-number-test.true) c.if-place-counted.true in
    let other : (c.loop-number.number.0 == fragment) ≡ false = search rules in
    next_by _ _ _ _ _ _ (take_rest c.args.counted.now c.loop-number.place) c.loop-number.invariant begins other
    c.extension_len-len.ensures.len c.extension_len-len.ensures.shortest c.if-rest-len.false

pub returns-else-place-counted-clause-found : goal.returns-else-place-counted-clause-found
returns-else-place-counted-clause-found c =
    sym (ended_at _ _ _ _ c.loop-number.invariant
    (too_short c.args.counted.now c.loop-number.number.0 c.loop-number.place c.if-place-counted.false))

pub returns-after-loop-number-clause-found : goal.returns-after-loop-number-clause-found
returns-after-loop-number-clause-found c =
    sym (ended_at _ _ _ _ c.loop-number.invariant
    (no_extension c.args.counted.now c.loop-number.number.0 c.loop-number.place
    (sym c.is_extension.ensures ∙ c.loop-number-test.false)))
