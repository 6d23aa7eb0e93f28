use Rattle.std.proofs.Common.{◌++◌}
use Rattle.std.specs.Prelude.{codes}
use Rattle.capture_json.specs.JsonTexts.{commented_members, kept_members}
use Rattle.capture_json.specs.Tokens.{tokens_in}
use Rattle.capture_json.proofs.TokensLemmas.{then_put}
use Rattle.capture_json.proofs.texts.put_texts.Goals as goal

-- the texts, one after the other, and the number
pub returns : goal.returns
returns c =
    let texts = c.args.texts.now in
    let system = kept_members (codes "operating_system") texts.operating_system in
    let hardware = kept_members (codes "hardware") texts.hardware in
    let comment = kept_members (codes "comment") texts.comment in
    let count = commented_members texts.commented_packets in
    let last = tokens_in c.put_commented.new.line in
    then_put (kept_members (codes "application") texts.application) (system ++ (hardware ++ (comment ++ count)))
    (tokens_in c.args.line.now) (tokens_in c.put_kept.new.line) last c.in_ok-put_kept.ensures
    (then_put system (hardware ++ (comment ++ count)) (tokens_in c.put_kept.new.line) (tokens_in c.put_kept-2.new.line) last
    c.in_ok-put_kept-2.ensures
    (then_put hardware (comment ++ count) (tokens_in c.put_kept-2.new.line) (tokens_in c.put_kept-3.new.line) last
    c.in_ok-put_kept-3.ensures
    (then_put comment count (tokens_in c.put_kept-3.new.line) (tokens_in c.put_kept-4.new.line) last c.in_ok-put_kept-4.ensures
    c.in_ok-put_commented.ensures)))
