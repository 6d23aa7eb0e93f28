use Rattle.std.proofs.Common.{◌≡◌, List, false, ◌∷◌, subst}
use Rattle.std.specs.List.{list_any}
use Rattle.reassembly.proofs.WaitingLemmas.{some_oldest}
use Rattle.reassembly.specs.Waiting.{begun_at, earliest}
use Rattle.reassembly.specs.declared.waiting.Waiting.{Waiting}
use Rattle.reassembly.proofs.waiting.place_for.Goals as goal

pub returns-in_err-index : goal.returns-in_err-index
returns-in_err-index c =
    let first : Waiting = c.in_ok-first.first.now in
    let others : List Waiting = c.in_ok-first.others.now in
    let none : list_any (begun_at (earliest (first ∷ others))) (first ∷ others) ≡ false =
    subst (λ waiting. list_any (begun_at (earliest (first ∷ others))) waiting ≡ false) c.in_ok-first.ensures.cases.0
    (subst (λ time. list_any (begun_at time) c.args.waiting.now ≡ false) c.earliest.ensures c.in_err-index.ensures) in
    absurd (some_oldest first others none)
