use Rattle.std.proofs.Common.{◌≡◌, ◌<◌, ◌+◌, ◌∙◌, ℕ, List, ap, get_or, length, map, rules, sym, take}
use Rattle.std.proofs.lemmas.List.{map_more}
use Rattle.capture_file.specs.declared.kept_text.KeptText.{KeptText}
use Rattle.json.specs.Token.{Token}
use Rattle.capture_json.specs.JsonComments.{comment_data}
use Rattle.capture_json.specs.Tokens.{push, with_items}
use Rattle.capture_json.proofs.JsonLemmas.{one_more_item}
use Rattle.capture_json.proofs.comments.push_comments.Goals as goal

-- the comments after another comment is written
one_more : (comments : List KeptText) (i : ℕ) (comment : KeptText) (before between after : List Token)
    → comment ≡ get_or comments i comment → i < length comments
    → between ≡ with_items (map comment_data (take i comments)) before → after ≡ push (comment_data comment) between
    → after ≡ with_items (map comment_data (take (i + 1) comments)) before
one_more comments i comment before between after is below is_first is_second =
    one_more_item (map comment_data (take i comments)) (comment_data (get_or comments i comment)) before between after is_first
    (is_second ∙ ap (λ text. push (comment_data text) between) is)
    ∙ sym (ap (λ items. with_items items before) (map_more comment_data comments i comment below))

pub loop-comment-preserved : goal.loop-comment-preserved
loop-comment-preserved c =
    one_more c.args.comments.now c.loop-comment.comment-index c.comment-item.result _ _ _ c.comment-item.is (search rules)
    c.loop-comment.invariant c.in_ok-push_comment.ensures
