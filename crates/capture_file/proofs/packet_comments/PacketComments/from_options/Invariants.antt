use Rattle.std.proofs.Common.{length}
use Rattle.capture_numbers.specs.Options.{pcapng_option, value_in}
use Rattle.capture_file.specs.Texts.{is_comment}
use Rattle.capture_file.proofs.CommentsLemmas.{AreCollected}
use Rattle.capture_file.proofs.packet_comments.PacketComments.from_options.Given as goal

-- the comments among the options so far were added
abbrev pub invariant-loop-option : goal.invariant-loop-option
invariant-loop-option l =
    AreCollected (is_comment l.fn.order) (value_in l.fn.order) (pcapng_option l.fn.order) l.options l.rest l.comments

abbrev pub decreases-loop-option : goal.decreases-loop-option
decreases-loop-option l = length l.rest
