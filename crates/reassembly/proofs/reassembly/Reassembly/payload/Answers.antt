use Rattle.std.proofs.Common.{◌≡◌, List, ℕ, length, Some, refl, sym, ◌∙◌, ap, subst, take, drop, arith}
use Rattle.std.proofs.lemmas.List.{length-take-le}
use Rattle.reassembly.proofs.KeptLemmas.{complete_by, not_complete, payload_fits, payload_is}
use Rattle.reassembly.specs.Packets.{header_room}
use Rattle.reassembly.specs.Reassembly.{IsComplete, IsPayload}
use Rattle.reassembly.proofs.reassembly.Reassembly.payload.Goals as goal

pub returns-then-self-len-clause-found : goal.returns-then-self-len-clause-found
returns-then-self-len-clause-found c =
    let r = c.self.inside in
    let buffer : List ℕ = drop (header_room r.key) r.buffer.now in (
      λ is. absurd (cc is),
      λ complete. absurd (c.if-self-len.true (not_complete buffer r.parts.items r.received c.in_ok-len.len r.end r.key
          (length buffer) c.self.invariant.0.payload
          c.in_ok-len.was (subst (λ s. IsComplete s.payload) (sym c.self.view_is) complete))),
    )

pub slice_bounds-result-end : goal.slice_bounds-result-end
slice_bounds-result-end c =
    let r = c.self.inside in
    let buffer : List ℕ = drop (header_room r.key) r.buffer.now in
    let area_is : c.after_room.result.now ≡ buffer = c.after_room.ensures ∙ ap (λ n. drop n r.buffer.now) c.header_room.ensures.room in
    let fits = payload_fits buffer r.parts.items r.received r.end c.self.invariant.0.payload in
    sym (length-take-le c.in_ok-len.len c.after_room.result.now (omega (arith, fits, ap length area_is, c.if-self-len.false)))

pub returns-clause-found : goal.returns-clause-found
returns-clause-found c =
    let r = c.self.inside in
    let buffer : List ℕ = drop (header_room r.key) r.buffer.now in
    let is : r.end ≡ Some r.received = c.in_ok-len.was ∙ ap (λ n. Some n) (sym c.if-self-len.false) in (
      λ _. subst (λ s. IsComplete s.payload) c.self.view_is
          (complete_by buffer r.parts.items r.received r.end r.key (length buffer) c.self.invariant.0.payload is),
      λ _. refl,
    )

pub returns-clause-bytes : goal.returns-clause-bytes
returns-clause-bytes c =
    let r = c.self.inside in
    let buffer : List ℕ = drop (header_room r.key) r.buffer.now in
    let area_is : c.after_room.result.now ≡ buffer = c.after_room.ensures ∙ ap (λ n. drop n r.buffer.now) c.header_room.ensures.room in
    let is : r.end ≡ Some r.received = c.in_ok-len.was ∙ ap (λ n. Some n) (sym c.if-self-len.false) in
    subst (λ b. IsPayload c.args.self.now.payload (take c.in_ok-len.len b)) (sym area_is)
    (subst (λ n. IsPayload c.args.self.now.payload (take n buffer)) c.if-self-len.false
    (subst (λ s. IsPayload s.payload (take r.received buffer)) c.self.view_is
    (payload_is buffer r.parts.items r.received r.end r.key (length buffer) c.self.invariant.0.payload is)))
