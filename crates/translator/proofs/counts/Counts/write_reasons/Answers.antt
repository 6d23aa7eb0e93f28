use Rattle.std.proofs.Common.{◌≡◌, arith, rules, subst, take}
use Rattle.std.specs.Io.KnownBytes.{Appends}
use Rattle.std.specs.List.{flat_map}
use Rattle.translator.proofs.CountLemmas.{line_more}
use Rattle.translator.specs.Outcomes.{all_reasons, counted_line}
use Rattle.translator.proofs.counts.Counts.write_reasons.Goals as goal

-- the invariant holds after another line
pub loop-reason-preserved : goal.loop-reason-preserved
loop-reason-preserved g c = line_more all_reasons
    (counted_line c.args.self.now) _ _ _ _ _ c.loop-reason.invariant c.in_ok-write_reason.ensures (search rules)

pub returns : goal.returns
returns g c =
    let all : c.loop-reason.reason-index ≡ 10 = omega (arith, c.loop-reason-test.false, c.loop-reason.auto.reason-index-end) in
    subst (λ n. Appends (g.W.Write.contents c.args.output.now) (g.W.Write.contents c.loop-reason.output)
    (flat_map (counted_line c.args.self.now) (take n all_reasons))) all c.loop-reason.invariant
