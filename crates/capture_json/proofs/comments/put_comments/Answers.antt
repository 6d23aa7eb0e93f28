use Rattle.std.proofs.lemmas.Bool.Decides.{nat_tests}
use Rattle.std.specs.Prelude.{codes}
use Rattle.std.proofs.Common.{◌≡◌, ◌==◌, ◌≤◌, ◌∙◌, ◌∷◌, [], ap, arith, false, if◌then◌else◌, length, map, rules, sym}
use Rattle.capture_file.specs.declared.packet_comments.PacketComments.{PacketComments}
use Rattle.capture_json.specs.JsonComments.{comment_data, comments_members, more_comments_members}
use Rattle.capture_json.specs.Members.{array_of}
use Rattle.capture_json.specs.Tokens.{array_ended, tokens_in, with_items, with_members}
use Rattle.capture_json.proofs.TokensLemmas.{listed, then_put}
use Rattle.capture_json.proofs.comments.put_comments.Goals as goal

-- the members of comments, if there are comments
some_comments : (comments : PacketComments) → 1 ≤ length comments.texts.items
    → comments_members comments ≡ (codes "comments", array_of (map comment_data comments.texts.items)) ∷ more_comments_members comments.more
some_comments comments some =
    let test : (length comments.texts.items == 0) ≡ false = grind (arith, nat_tests, some) in
    ap (λ b. if b then []
    else (codes "comments", array_of (map comment_data comments.texts.items)) ∷ more_comments_members comments.more) test

pub returns : goal.returns
returns c =
    let comments = c.args.comments.now in
    let items = map comment_data comments.texts.items in
    let before = tokens_in c.args.line.now in
    let list = (codes "comments", array_of items) ∷ [] in
    let pushed = rw c.as_slice.ensures.value at c.in_ok-push_comments.ensures in
    let ended = c.in_ok-end_array.ensures
    ∙ ap array_ended (pushed ∙ ap (with_items items) c.in_ok-begin_array.ensures)
    ∙ listed (codes "comments") items before in
    then_put list (more_comments_members comments.more) before (tokens_in c.end_array.new.self) (tokens_in c.put_more.new.line) ended
    c.in_ok-put_more.ensures
    ∙ sym (ap (λ members. with_members members before) (some_comments comments (search rules)))
