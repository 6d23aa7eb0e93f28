-- `refuse` stores the refusal in the memory that the pointer points to, and gives the memory back. If the pointer is NULL, it stores
-- nothing.
use Rattle.std.proofs.Common.{◌≡◌, [], ◌∷◌, ◌++◌, refl, sym, ap, subst, ◌∙◌, lit<, List, T}
use mir.Syntax.{Fn}
use mir.Val.{Val, WT, has_ty}
use base.Fraction.{full_share}
use base.Logic.{SProp}
use base.Fml.{ftrue, fat}
use prog.Wp.{WpFn}
use contract.Running.{tables}
use types.Kit.{‵, raw, some, ◌⊛◌, prop, at_ret, ◌$◌, ◌∵◌, !, qed, by, move, keep, drop, use0, use1, use2, pick, split, rewrite, regoal, fsplit, fjoin, join}
use types.Part.{agg, whole, sub}
use types.Run.{no_more, and_then, lit, bin, un, fld, stop, of_opd, store, first, blocks, branches, skips, exec, assigns_last, returns, enter}
use types.ByLocal.{alloc_all, pass_all, free_all, look_at, get, get_in, through, sets, env}
use denote.RattleType.{owns}
use denote.RawPtr.{Ptr, Testable, null_ptr, block_ptr, tests_null}
use denote.Memory.{lone, part_at}
use denote.Laws.{Typed}
use denote.Exit.{yes}
use denote.Signature.{types_at, plain}
use denote.Steps.{nothing}
use denote.Triple.Entry.{alive}
use denote.Triple.Walked.{Stays, stay_dropped, walk_of, Goes-dropped}
use borrow.Table.OneValue.{part_out, part_in}
use Rattle.std.proofs.alloc.Calls.{Goes-blank}
use Rattle.std.proofs.raw_atomic.Walks.{proved_at, leaves}
use Rattle.etherparse_transport_c.specs.ErrorMemory.{holds}
use Rattle.etherparse_transport_c.proofs.AnswerLemmas.{answer_val, answer_fields, answer_made, place_val, place_typed, said, by_pointer}
use Rattle.etherparse_transport_c.proofs.answer.ErrorPlace.TheLaws as placed
use Rattle.etherparse_transport_c.proofs.error.EtherparseError.TheLaws as error
use Rattle.etherparse_transport_c.specs.contracts.answer.Answer as answer
use Rattle.etherparse_transport_c.specs.contracts.answer.ErrorPlace as place
use Rattle.etherparse_transport_c.specs.contracts.error.EtherparseError.{the_row}
use Rattle.etherparse_transport_c.specs.contracts.answer.refuse as f
use Rattle.etherparse_transport_c.proofs.answer.refuse.Statement.{statement}
use Rattle.etherparse_transport_c.proofs.answer.refuse.Code as code

abbrev stayed : Stays f.ended.signature.params f.ended.kept
stayed = (stay_dropped _ yes, (stay_dropped _ yes, tt))

pub refuse_spec : {M : Type 1} → statement M
refuse_spec 𝓤 𝓛 𝓜 𝓡 wired =
    let c = f.clauses 𝓛 𝓜.mem 𝓡.returns in let 𝓣 = tables 𝓤 𝓛.H 𝓜 𝓡 𝓡.env in let fn : Fn = code.function in
    proved_at 𝓛 f.ended stayed c 𝓜 𝓡 (
      Goes-blank 𝓛 0 (plain (λ _. place.the_row)) yes (λ κs x g. tt),
      (Goes-dropped 𝓛 0 (plain (λ _. the_row)) yes (λ κs x g. refl), tt),
    )
    f.Key.name fn (code.unfolded 𝓤 𝓛.H 𝓜 𝓡 wired) (λ z are.
    let Post : Val → SProp 𝓤 = (walk_of 𝓛 f.ended stayed c).post z in
    let at = z.0.3.0 in let refusal = z.0.3.1.0 in let vss = z.0.4 in let p : Ptr = at.pointer in
    let there : vss.0 ≡ place_val p ∷ [] = placed.lowers.val_is at vss.0 are.0 in
    let told : vss.1.0 ≡ error.lowered refusal ∷ [] = error.lowers.val_is refusal vss.1.0 are.1.0 in
    let u : Val = error.lowered refusal in
    let typed : T (has_ty (lone the_row.mir) u) × WT u =
    (subst (Typed the_row.mir) told ((error.the_row_laws.lawful 𝓛).typed refusal vss.1.0 are.1.0)).0 in
    let r : (answer.the_row).Denot = record { status = refusal.status; pointer = p; error = refusal } in
    qed 𝓛 ((raw (alive 𝓛 f.signature z.0.0 z.0.1) ⊛ ‵ (owns (types_at f.signature.params z.0.0) z.0.3 vss)) ∷ ‵ ftrue ∷ []) ∵
    move ! (1 ∷ []) $ drop ! $ split ! $ move ! (1 ∷ []) $ fsplit ! $ fsplit ! $ drop ! $ move ! (1 ∷ []) $ fsplit ! $ move ! (1 ∷ [])
    $ drop ! $
    rewrite ! 0 (λ (us : List Val). ‵ (the_row.own_val refusal us)) told refl $ move ! (1 ∷ []) $
    -- the context: [the memory that the pointer points to; the refusal; the tokens]
    by_pointer p (λ e.
    regoal ! (λ (us : List Val). prop (WpFn 𝓤 𝓛.H 𝓣.C 𝓣.Λ fn us Post))
    (λ i. (there ∙ ap (λ (s : Ptr). place_val s ∷ []) e) i ++ (told i ++ [])) refl $
    enter ! 𝓣.C 𝓣.Λ fn (place_val null_ptr ∷ u ∷ []) Post $ alloc_all ! (λ l. pass_all ! refl (place_typed null_ptr, (typed, tt)) $
    sets ! (of_opd ! (get_in ! (fld ! refl (stop !)) (sub ! 0 refl (whole !)))) refl (tt, record { fits = lit< tt }) $
    first ! $ blocks ! $
    sets ! (bin ! (get ! refl) (lit ! tt) (tests_null null_ptr (subst Testable e at.testable))) refl (tt, tt) $
    sets ! (un ! (get ! refl) tt) refl (tt, tt) $
    branches ! (get ! refl) (λ t. absurd t) (λ t. skips ! $ exec ! 𝓣.C 𝓣.Λ (env code.Mir.locals l) code.Mir.t-3
    (at_ret (env code.Mir.locals l) Post) $
    sets ! (agg ! (and_then ! (get_in ! (fld ! refl (stop !)) (sub ! 0 refl (whole !))) (no_more !))) refl (tt, (typed.1.0, tt)) $
    returns ! (look_at ! 0 refl) $ free_all ! refl $
    use0 𝓛 (‵ (answer_fields refusal.status (answer_val refusal.status ∷ []))) (answer_made 𝓛 refusal.status (typed.1.0.fits)) $
    rewrite ! 1 (λ (s : Ptr). ‵ (holds s at.before)) e refl $ rewrite ! 1 (λ (s : Ptr). ‵ (holds s refusal)) (sym e) refl $ fjoin ! $
    said 𝓛 (refusal ≡ refusal) refl $ said 𝓛 (p ≡ p) refl $ join ! $ said 𝓛 (refusal.status ≡ refusal.status) refl $ join ! $
    nothing ! $ nothing ! $ fjoin ! $ nothing ! $ fjoin ! $
    keep ! (4 ∷ 0 ∷ 2 ∷ 1 ∷ []) $ by ! (leaves 𝓛 f.ended stayed c z (answer_val refusal.status) r (tt, (tt, tt)) (tt, (tt, tt))))))
    (λ b o e.
    regoal ! (λ (us : List Val). prop (WpFn 𝓤 𝓛.H 𝓣.C 𝓣.Λ fn us Post))
    (λ i. (there ∙ ap (λ (s : Ptr). place_val s ∷ []) e) i ++ (told i ++ [])) refl $
    rewrite ! 0 (λ (s : Ptr). ‵ (holds s at.before)) e refl $
    use1 𝓛 (some (λ (v : Val). ‵ (fat full_share (lone the_row.mir) b o v) ⊛ ‵ (the_row.own_val at.before (v ∷ []))))
    (part_out 𝓛 the_row refl full_share at.before b o) $
    pick ! (λ v. split ! $ move ! (1 ∷ []) $ drop ! $
    -- the context: [the cell that the pointer points to; the refusal; the tokens]
    enter ! 𝓣.C 𝓣.Λ fn (place_val (block_ptr b o) ∷ u ∷ []) Post $ alloc_all
    ! (λ l. pass_all ! refl (place_typed (block_ptr b o), (typed, tt)) $
    sets ! (of_opd ! (get_in ! (fld ! refl (stop !)) (sub ! 0 refl (whole !)))) refl (tt, tt) $
    first ! $ blocks ! $
    sets ! (bin ! (get ! refl) (lit ! tt) (tests_null (block_ptr b o) (subst Testable e at.testable))) refl (tt, tt) $
    sets ! (un ! (get ! refl) tt) refl (tt, tt) $
    branches ! (get ! refl) (λ t. assigns_last ! (of_opd ! (get ! refl)) (through ! refl (stop !)) (store ! 0 refl typed) $
    exec ! 𝓣.C 𝓣.Λ (env code.Mir.locals l) code.Mir.t-3 (at_ret (env code.Mir.locals l) Post) $
    sets ! (agg ! (and_then ! (get_in ! (fld ! refl (stop !)) (sub ! 0 refl (whole !))) (no_more !))) refl (tt, (typed.1.0, tt)) $
    returns ! (look_at ! 0 refl) $ free_all ! refl $
    use2 𝓛 (‵ (part_at the_row full_share refusal b o)) (part_in 𝓛 the_row refl full_share refusal b o u) $
    rewrite ! 0 (λ (s : Ptr). ‵ (holds s refusal)) (sym e) refl $
    use0 𝓛 (‵ (answer_fields refusal.status (answer_val refusal.status ∷ []))) (answer_made 𝓛 refusal.status (typed.1.0.fits)) $ fjoin ! $
    said 𝓛 (refusal ≡ refusal) refl $ said 𝓛 (p ≡ p) refl $ join ! $ said 𝓛 (refusal.status ≡ refusal.status) refl $ join ! $
    nothing ! $ nothing ! $ fjoin ! $ nothing ! $ fjoin ! $
    keep ! (3 ∷ 0 ∷ 2 ∷ 1 ∷ []) $ by ! (leaves 𝓛 f.ended stayed c z (answer_val refusal.status) r (tt, (tt, tt)) (tt, (tt, tt))))
    (λ t. absurd t)))))
