use Rattle.std.proofs.Common.{◌≡◌, map, take}
use Rattle.capture_json.specs.JsonComments.{comment_data}
use Rattle.capture_json.specs.Tokens.{tokens_in, with_items}
use Rattle.capture_json.proofs.comments.push_comments.Given as goal

-- the comments so far were written
abbrev pub invariant-loop-comment : goal.invariant-loop-comment
invariant-loop-comment l =
    tokens_in l.line ≡ with_items (map comment_data (take l.comment-index l.comments)) (tokens_in l.initial.line)
