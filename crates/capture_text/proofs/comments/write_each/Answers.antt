use Rattle.std.proofs.Common.{◌≡◌, ◌<◌, ◌+◌, ℕ, List, Option, get_or, length, rules, subst, take}
use Rattle.std.specs.Io.KnownBytes.{Appends}
use Rattle.std.specs.List.{flat_map}
use Rattle.capture_file.specs.declared.kept_text.KeptText.{KeptText}
use Rattle.capture_text.specs.CommentsText.{comment_text}
use Rattle.capture_words.proofs.WrittenLemmas.{each_more}
use Rattle.capture_text.proofs.comments.write_each.Goals as goal

-- the text of comments and of another comment
one_more : (comments : List KeptText) (i : ℕ) (comment : KeptText) (a b c : Option (List ℕ)) → comment ≡ get_or comments i comment
    → Appends a b (flat_map comment_text (take i comments)) → Appends b c (comment_text comment) → i < length comments
    → Appends a c (flat_map comment_text (take (i + 1) comments))
one_more comments i comment a b c is before one below =
    each_more comments comment_text i comment a b c before (subst (λ text. Appends b c (comment_text text)) is one) below

-- the invariant holds after another comment
pub loop-comment-preserved : goal.loop-comment-preserved
loop-comment-preserved g c =
    one_more c.args.comments.now c.loop-comment.comment-index c.comment-item.result _ _ _ c.comment-item.is c.loop-comment.invariant
    c.in_ok-write_comment.ensures (search rules)
