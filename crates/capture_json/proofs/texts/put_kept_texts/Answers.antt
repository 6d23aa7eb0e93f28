use Rattle.std.proofs.Common.{◌++◌}
use Rattle.std.specs.Prelude.{codes}
use Rattle.capture_json.specs.JsonTexts.{kept_members, statistics_members}
use Rattle.capture_json.specs.Tokens.{tokens_in}
use Rattle.capture_json.proofs.TokensLemmas.{then_put}
use Rattle.capture_json.proofs.texts.put_kept_texts.Goals as goal

-- the texts, one after the other, and the statistics
pub returns : goal.returns
returns c =
    let texts = c.args.kept.now in
    let description = kept_members (codes "description") texts.description in
    let comment = kept_members (codes "comment") texts.comment in
    let statistics = statistics_members texts.statistics in
    let end = tokens_in c.put_statistics.new.line in
    then_put (kept_members (codes "name") texts.name) (description ++ (comment ++ statistics)) (tokens_in c.args.line.now)
    (tokens_in c.put_kept.new.line) end c.in_ok-put_kept.ensures
    (then_put description (comment ++ statistics) (tokens_in c.put_kept.new.line) (tokens_in c.put_kept-2.new.line) end
    c.in_ok-put_kept-2.ensures
    (then_put comment statistics (tokens_in c.put_kept-2.new.line) (tokens_in c.put_kept-3.new.line) end c.in_ok-put_kept-3.ensures
    c.in_ok-put_statistics.ensures))
