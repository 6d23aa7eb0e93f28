use Rattle.std.proofs.Common.{◌≡◌, ◌<◌, ◌∙◌, Err, arith, length, refl, rules, sym}
use Rattle.capture_packet.proofs.NflogLemmas.{attribute_cut, attribute_last, attribute_other}
use Rattle.capture_packet.proofs.link.nflog.attributes.Goals as goal

pub loop-place-init : goal.loop-place-init
loop-place-init c = record { more = length c.args.frame.now; room = omega arith; there = omega (arith, c.requires); same = refl }

pub returns-in_err-header-clause-is : goal.returns-in_err-header-clause-is
returns-in_err-header-clause-is c =
    let within : c.loop-place.place < length c.args.frame.now = omega (arith, c.loop-place-test.true) in
    let result : c.from_residual.result ≡ Err c.in_err-header.field-0.0 = search rules in
    result ∙ sym (attribute_cut c.args.order c.args.frame.now c.loop-place.place _ c.loop-place.invariant within
    (sym c.in_err-header.ensures.is))

pub returns-in-Last-clause-is : goal.returns-in-Last-clause-is
returns-in-Last-clause-is c =
    let within : c.loop-place.place < length c.args.frame.now = omega (arith, c.loop-place-test.true) in
    sym (attribute_last c.args.order c.args.frame.now c.loop-place.place _ c.loop-place.invariant within
    (sym (rw c.in-Last.is at c.in_ok-header.ensures.is)))

pub loop-place-preserved : goal.loop-place-preserved
loop-place-preserved c =
    let within : c.loop-place.place < length c.args.frame.now = omega (arith, c.loop-place-test.true) in
    let bounds = rw c.in-Other.is at c.in_ok-header.ensures.within in
    attribute_other c.args.order c.args.frame.now c.loop-place.place _ c.loop-place.invariant within
    (sym (rw c.in-Other.is at c.in_ok-header.ensures.is)) bounds.0 bounds.1
