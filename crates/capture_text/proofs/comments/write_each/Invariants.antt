use Rattle.std.proofs.Common.{take}
use Rattle.std.specs.Io.KnownBytes.{Appends}
use Rattle.std.specs.List.{flat_map}
use Rattle.capture_text.specs.CommentsText.{comment_text}
use Rattle.capture_text.proofs.comments.write_each.Given as goal

-- the comments so far were written
abbrev pub invariant-loop-comment : goal.invariant-loop-comment
invariant-loop-comment g l =
    Appends (g.W.Write.contents l.initial.output) (g.W.Write.contents l.output) (flat_map comment_text (take l.comment-index l.comments))
