use Rattle.std.proofs.Common.{◌++◌}
use Rattle.std.proofs.lemmas.Result.{on_ok_weaker}
use Rattle.std.specs.Prelude.{codes}
use Rattle.capture_json.specs.JsonTexts.{count_members}
use Rattle.capture_json.specs.Tokens.{tokens_in}
use Rattle.capture_json.proofs.TokensLemmas.{then_put}
use Rattle.capture_json.proofs.texts.put_statistics.Goals as goal

-- the numbers, one after the other
pub returns : goal.returns
returns c =
    let statistics = c.args.statistics in
    let dropped = count_members (codes "packets_dropped") statistics.dropped in
    let by_system = count_members (codes "packets_dropped_by_operating_system") statistics.dropped_by_system in
    let end = tokens_in c.put_count-3.new.line in
    on_ok_weaker c.put_count-3.result
    (λ last. then_put (count_members (codes "packets_received") statistics.received) (dropped ++ by_system) (tokens_in c.args.line.now)
    (tokens_in c.put_count.new.line) end c.in_ok-put_count.ensures
    (then_put dropped by_system (tokens_in c.put_count.new.line) (tokens_in c.put_count-2.new.line) end c.in_ok-put_count-2.ensures last))
    c.put_count-3.ensures
