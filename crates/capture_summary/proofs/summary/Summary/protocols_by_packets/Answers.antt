use Rattle.std.proofs.Common.{◌≡◌, ℕ, List, [], map, Bor, ap, subst, sym, ◌∙◌}
use Rattle.capture_summary.proofs.RankingLemmas.{ranking-map}
use Rattle.capture_summary.proofs.RankingOrder.{more_weak}
use Rattle.capture_summary.proofs.RankingSort.{is_ranking_of}
use Rattle.capture_summary.specs.Kinds.{protocol_rows}
use Rattle.capture_summary.specs.Ranking.{IsRankingOf, by_packets, has_more_packets}
use Rattle.capture_summary.specs.declared.count.Count.{Count}
use Rattle.capture_summary.proofs.summary.Summary.protocols_by_packets.Goals as goal

-- a row with its name as text
abbrev shown : Bor (List ℕ) × Count → List ℕ × Count
shown row = (row.0.now, row.1)

ordered : (table : List (List ℕ × Count)) (rows items : List (Bor (List ℕ) × Count)) → map shown rows ≡ table → items ≡ by_packets rows
    → map shown items ≡ by_packets table
ordered table rows items same is = ap (map shown) is ∙ ranking-map shown has_more_packets rows [] ∙ ap by_packets same

pub returns-clause-rows : goal.returns-clause-rows
returns-clause-rows c = ordered (protocol_rows c.args.self.now.protocols) _ _ c.protocols.ensures c.by_packets.ensures

pub returns-clause-ranked : goal.returns-clause-ranked
returns-clause-ranked c =
    let table = protocol_rows c.args.self.now.protocols in
    subst (IsRankingOf has_more_packets table) (sym (ordered table _ _ c.protocols.ensures c.by_packets.ensures))
    (is_ranking_of has_more_packets more_weak table)
