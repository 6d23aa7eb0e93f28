-- The memory that an `Answer` owns, given its status and the error that its pointer points to.
use Rattle.std.proofs.Common.{◌≡◌, ℕ, ◌^◌, ◌<◌, List, [], ◌∷◌, refl, w32, T, lit<}
use seplogic.Ra.Ura.{Ura}
use mir.Syntax.{ty_ptr, ty_struct, tcons, tnil}
use mir.Val.{Val, WT, has_ty, vint, vstruct, vcons, vnil}
use base.Logic.{ent, emp}
use base.Fml.{Fml}
use contract.Monad.{fact, fact_i}
use types.Logic.{Logic, sem}
use types.Kit.{Item, Goal, Step, raw, use0}
use denote.RawPtr.{Ptr, block_ptr, null_ptr, ptr_val}
use denote.Shadow.{makes_shadow}
use denote.Struct.Owning.{shape}
use denote.Struct.Struct.{Struct}
use Rattle.etherparse_transport_c.specs.contracts.answer.Answer.{the_type}

abbrev pub answer_val : ℕ → Val
answer_val status = vstruct (vcons (vint w32 status) vnil)

abbrev pub answer_fields : ℕ → List Val → Fml
answer_fields status = (Struct (shape the_type)).own_val (status, tt)

pub answer_made : {M : Type 1} {𝓤 : Ura M} (𝓛 : Logic 𝓤) (status : ℕ) → status < 2 ^ 32
    → ent 𝓤 (emp 𝓤) (sem 𝓛 (answer_fields status (answer_val status ∷ [])))
answer_made 𝓛 status fits =
    makes_shadow 𝓛 (answer_fields status (answer_val status ∷ [])) (λ _. (tt, ((tt, tt), tt)))
    ((vint w32 status ∷ [], tt), (refl, ((refl, fits), tt)))

abbrev pub place_val : Ptr → Val
place_val p = vstruct (vcons (ptr_val p) vnil)

pub place_typed : (p : Ptr) → T (has_ty (ty_struct [] (tcons ty_ptr tnil)) (place_val p)) × WT (place_val p)
place_typed (block_ptr b o) = (tt, (tt, tt))
place_typed null_ptr = (tt, (record { fits = lit< tt }, tt))

module _ {M : Type 1} {𝓤 : Ura M} (𝓛 : Logic 𝓤) {K : Type 0} {Γ : List (Item 𝓤)} {G : Goal 𝓤 𝓛.H} where
  -- puts a fact into the context
  pub said : (φ : Type 0) → φ → Step K 𝓛 (raw (fact 𝓤 φ) ∷ Γ) G Γ G
  said φ holds = use0 𝓛 (raw (fact 𝓤 φ)) (fact_i 𝓤 φ (emp 𝓤) holds)

pub by_pointer : {X : Type 1} (p : Ptr) → (p ≡ null_ptr → X) → ((b o : ℕ) → p ≡ block_ptr b o → X) → X
by_pointer null_ptr none some = none refl
by_pointer (block_ptr b o) none some = some b o refl
