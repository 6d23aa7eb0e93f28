use Rattle.std.proofs.Common.{rules, ap, ◌∙◌, take}
use Rattle.std.proofs.lemmas.List.Sorted.{answers_always}
use Rattle.capture_summary.proofs.EndpointOrder.{before_weak}
use Rattle.capture_summary.proofs.RankingSort.{sorted_is}
use Rattle.capture_summary.specs.Endpoints.{is_before}
use Rattle.capture_summary.specs.Ranking.{ranking_of}
use Rattle.capture_summary.proofs.endpoints.in_order.Goals as goal

pub returns : goal.returns
returns c =
    c.truncate.ensures.items
    ∙ ap (take c.args.top)
    (sorted_is is_before before_weak c.in_ok-endpoints.endpoints.items c.sort_by.new.self.items
    (c.in_ok-sort_by.ensures.sorted is_before before_weak (answers_always _ _ _ (λ f a r g h. search rules)))
    (c.in_ok-sort_by.ensures.stable is_before before_weak (answers_always _ _ _ (λ f a r g h. search rules)))
    ∙ ap (ranking_of is_before) c.in_ok-endpoints.ensures)
