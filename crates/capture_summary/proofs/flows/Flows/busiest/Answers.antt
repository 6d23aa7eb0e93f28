use Rattle.std.proofs.Common.{◌≡◌, rules, subst, sym}
use Rattle.std.proofs.lemmas.Result.{IfOk-weaker}
use Rattle.capture_summary.proofs.RankingRows.{are_busiest}
use Rattle.capture_summary.specs.Ranking.{AreBusiest}
use Rattle.capture_summary.proofs.flows.Flows.busiest.Goals as goal

pub returns-clause-ranked : goal.returns-clause-ranked
returns-clause-ranked c =
    let same : c.deref.result.now ≡ c.args.self.now.rows = search rules in
    IfOk-weaker c.busiest.result _ _
    (λ busiest is.
    subst (λ rows. AreBusiest c.args.top rows busiest.items) same
    (subst (AreBusiest c.args.top c.deref.result.now) (sym is) (are_busiest c.args.top c.deref.result.now)))
    c.busiest.ensures
