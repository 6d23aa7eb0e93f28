use Rattle.std.proofs.lemmas.Bool.Decides.{nat_tests}
use Rattle.std.proofs.Common.{◌≡◌, ◌∙◌, ap, arith, false, length, true}
use Rattle.std.proofs.lemmas.List.{take_rest}
use Rattle.capture_numbers.specs.Options.{pcapng_option, value_in}
use Rattle.capture_file.specs.Texts.{comment_added, is_comment}
use Rattle.capture_file.proofs.CommentsLemmas.{all_collected, comment_next, other_next}
use Rattle.capture_file.proofs.packet_comments.PacketComments.from_options.Goals as goal
use Rattle.capture_file.proofs.packet_comments.PacketComments.from_options.Goals.{else-short_in-eq-COMMENT, then-short_in-eq-COMMENT}

-- the invariant holds after another option
pub loop-option-preserved : goal.loop-option-preserved
loop-option-preserved c =
    let order = c.args.order in
    let option = c.in-Some.option.now in
    let rest = c.loop-option.rest.now in
    let comments = c.loop-option.comments in
    elim c.if-short_in-eq-COMMENT.branch [
      | then-short_in-eq-COMMENT w ↦
          let is : is_comment order option ≡ true = grind (arith, nat_tests, c.short_in.ensures, w.if-short_in-eq-COMMENT) in
          comment_next (is_comment order) (value_in order) (pcapng_option order) c.args.options.now rest option comments _ _
          c.loop-option.invariant c.in-Some.ensures.front is (omega (arith, c.in-Some.ensures.len)) c.in-Some.ensures.within
          (take_rest rest (length option))
          (w.comments-is ∙ (w.add.ensures ∙ ap (λ v. comment_added v comments) w.value_of.ensures))
      | else-short_in-eq-COMMENT w ↦
          let is : is_comment order option ≡ false = grind (arith, nat_tests, c.short_in.ensures, w.if-short_in-eq-COMMENT) in
          rw w.comments-is (other_next (is_comment order) (value_in order) (pcapng_option order) c.args.options.now rest option comments _
          c.loop-option.invariant c.in-Some.ensures.front is (omega (arith, c.in-Some.ensures.len)) c.in-Some.ensures.within
          (take_rest rest (length option)))
    ]

-- no option is left
pub returns : goal.returns
returns c =
    let order = c.args.order in
    all_collected (is_comment order) (value_in order) (pcapng_option order) c.args.options.now c.loop-option.rest.now
    c.loop-option.comments c.loop-option.invariant c.in_default.ensures.front
