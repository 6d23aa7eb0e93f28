use Rattle.std.proofs.Common.{◌≡◌, ◌+◌, ◌∙◌, Err, arith, length, refl, rules, sym}
use Rattle.capture_packet.specs.LinkHeaders.{cut_off}
use Rattle.capture_packet.proofs.MplsLemmas.{label_last, label_next, left_cut}
use Rattle.capture_packet.proofs.link.mpls.stack_at.Goals as goal

pub loop-label-init : goal.loop-label-init
loop-label-init c = (c.in_ok-expect_len.ensures, record { more = length c.args.frame.now; room = omega arith; same = refl })

pub loop-label-preserved : goal.loop-label-preserved
loop-label-preserved c =
    let (there, left) = c.loop-label.invariant in (
      c.in_ok-expect_len-2.ensures,
      label_next c.args.frame.now c.args.other c.args.place c.loop-label.label left there (search rules),
    )

pub returns-in_err-expect_len-2-clause-is : goal.returns-in_err-expect_len-2-clause-is
returns-in_err-expect_len-2-clause-is c =
    let (there, left) = c.loop-label.invariant in
    let result : c.from_residual-in_err-expect_len-2.result ≡ Err (cut_off c.args.frame.now (c.loop-label.label + 4 + 4)) = search rules in
    result ∙ sym (left_cut c.args.frame.now c.args.other c.args.place (c.loop-label.label + 4)
    (label_next c.args.frame.now c.args.other c.args.place c.loop-label.label left there (search rules))
    c.in_err-expect_len-2.ensures.0)

pub returns-clause-is : goal.returns-clause-is
returns-clause-is c =
    let (there, left) = c.loop-label.invariant in
    c.after_stack.ensures.is ∙ sym (label_last c.args.frame.now c.args.other c.args.place c.loop-label.label left there (search rules))
