-- `accept` gives back the memory that the pointer points to, and does not change it.
use Rattle.std.proofs.Common.{◌≡◌, [], ◌∷◌, ◌++◌, refl, lit<, List}
use mir.Syntax.{Fn}
use mir.Val.{Val}
use base.Logic.{SProp}
use base.Fml.{ftrue}
use prog.Wp.{WpFn}
use contract.Running.{tables}
use types.Kit.{‵, raw, ◌⊛◌, prop, ◌$◌, ◌∵◌, !, qed, by, move, drop, use0, split, regoal, fsplit, fjoin, join}
use types.Part.{agg}
use types.Run.{no_more, and_then, lit, returns, enter}
use types.ByLocal.{alloc_all, pass_all, free_all, look_at, sets}
use denote.RattleType.{owns}
use denote.Exit.{yes}
use denote.Signature.{types_at, plain}
use denote.Steps.{nothing}
use denote.Triple.Entry.{alive}
use denote.Triple.Walked.{Stays, stay_dropped, walk_of}
use Rattle.std.proofs.alloc.Calls.{Goes-blank}
use Rattle.std.proofs.raw_atomic.Walks.{proved_at, leaves}
use Rattle.etherparse_transport_c.proofs.AnswerLemmas.{answer_val, answer_fields, answer_made, place_typed, said}
use Rattle.etherparse_transport_c.proofs.answer.ErrorPlace.TheLaws.{lowered, lowers}
use Rattle.etherparse_transport_c.specs.contracts.answer.Answer as answer
use Rattle.etherparse_transport_c.specs.contracts.answer.ErrorPlace.{the_row}
use Rattle.etherparse_transport_c.specs.contracts.answer.accept as f
use Rattle.etherparse_transport_c.proofs.answer.accept.Statement.{statement}
use Rattle.etherparse_transport_c.proofs.answer.accept.Code as code

abbrev stayed : Stays f.ended.signature.params f.ended.kept
stayed = (stay_dropped _ yes, tt)

pub accept_spec : {M : Type 1} → statement M
accept_spec 𝓤 𝓛 𝓜 𝓡 wired =
    let c = f.clauses 𝓛 𝓜.mem 𝓡.returns in let 𝓣 = tables 𝓤 𝓛.H 𝓜 𝓡 𝓡.env in let fn : Fn = code.function in
    proved_at 𝓛 f.ended stayed c 𝓜 𝓡 (Goes-blank 𝓛 0 (plain (λ _. the_row)) yes (λ κs x g. tt), tt)
    f.Key.name fn (code.unfolded 𝓤 𝓛.H 𝓜 𝓡 wired) (λ z are.
    let Post : Val → SProp 𝓤 = (walk_of 𝓛 f.ended stayed c).post z in
    let place = z.0.3.0 in let vss = z.0.4 in
    let told : vss.0 ≡ lowered place ∷ [] = lowers.val_is place vss.0 are.0 in
    let r : (answer.the_row).Denot = record { status = 0; pointer = place.pointer; error = place.before } in
    qed 𝓛 ((raw (alive 𝓛 f.signature z.0.0 z.0.1) ⊛ ‵ (owns (types_at f.signature.params z.0.0) z.0.3 vss)) ∷ ‵ ftrue ∷ []) ∵
    move ! (1 ∷ []) $ drop ! $ split ! $ move ! (1 ∷ []) $ fsplit ! $ fsplit ! $ drop ! $ move ! (1 ∷ []) $ drop ! $
    -- the context: [the memory that the place owns; the tokens]
    regoal ! (λ (us : List Val). prop (WpFn 𝓤 𝓛.H 𝓣.C 𝓣.Λ fn us Post)) (λ i. told i ++ []) refl $
    enter ! 𝓣.C 𝓣.Λ fn (lowered place ∷ []) Post $ alloc_all ! (λ l. pass_all ! refl (place_typed place.pointer, tt) $
    sets ! (agg ! (and_then ! (lit ! tt) (no_more !))) refl (tt, (record { fits = lit< tt }, tt)) $
    returns ! (look_at ! 0 refl) $ free_all ! refl $
    use0 𝓛 (‵ (answer_fields 0 (answer_val 0 ∷ []))) (answer_made 𝓛 0 (lit< tt)) $ fjoin ! $
    said 𝓛 (place.before ≡ place.before) refl $ said 𝓛 (place.pointer ≡ place.pointer) refl $ join ! $ said 𝓛 (r.status ≡ 0) refl $ join ! $
    nothing ! $ nothing ! $ fjoin ! $ move ! (3 ∷ 0 ∷ 2 ∷ 1 ∷ []) $
    by ! (leaves 𝓛 f.ended stayed c z (answer_val 0) r (tt, tt) (tt, tt))))
