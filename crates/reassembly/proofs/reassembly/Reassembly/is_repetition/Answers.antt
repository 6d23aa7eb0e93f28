use Rattle.std.proofs.Common.{◌≡◌, List, ℕ, Some, None, drop, length, refl, sym, ◌∙◌, ap, subst, rules}
use Rattle.std.specs.List.{All}
use Rattle.net_base.specs.Refusals.{RefusesExactly}
use Rattle.reassembly.proofs.KeptLemmas.{only_third, refusal_is}
use Rattle.reassembly.specs.Fragments.{FragmentValue, by_value}
use Rattle.reassembly.specs.Packets.{PacketState, header_room}
use Rattle.reassembly.specs.Parts.{Fits, part_reaches, pieces_in}
use Rattle.reassembly.specs.Reassembly.{State, end_of_fragment, end_refusal, piece_of, piece_refusal, refusal}
use Rattle.reassembly.proofs.reassembly.Reassembly.is_repetition.Goals as goal

pub returns-in_err-check_end-clause-refused : goal.returns-in_err-check_end-clause-refused
returns-in_err-check_end-clause-refused c =
    let r = c.self.inside in
    let fragment : FragmentValue = by_value c.args.fragment.now in
    let area : List ℕ = c.after_room-payload.result.now in
    let area_is : area ≡ drop (header_room r.key) r.buffer.now =
    c.after_room-payload.ensures ∙ ap (λ n. drop n r.buffer.now) c.header_room.ensures.room in
    let by : List ℕ → State = λ (b : List ℕ). record { key = r.key; room = length b; pieces = pieces_in b r.parts.items; end = r.end } in
    let state_is : by area ≡ c.args.self.now.payload = ap by area_is ∙ ap (λ (s : PacketState). s.payload) c.self.view_is in
    let fit : All (Fits area) r.parts.items = subst (λ b. All (Fits b) r.parts.items) (sym area_is) c.self.invariant.0.payload.fit in
    let ends : end_refusal r.end (part_reaches (end_of_fragment fragment) r.parts.items) fragment ≡ Some c.in_err-check_end.field-0.0 =
    ap (λ parts. end_refusal r.end (part_reaches (end_of_fragment fragment) parts) fragment) (sym c.as_slice.ensures.value)
    ∙ c.in_err-check_end.ensures in
    let is : refusal c.args.self.now.payload fragment ≡ Some c.in_err-check_end.field-0.0 =
    ap (λ state. refusal state fragment) (sym state_is)
    ∙ refusal_is r.key (length area) area r.parts.items r.end fragment None (Some c.in_err-check_end.field-0.0)
    (piece_refusal (pieces_in area r.parts.items) (piece_of fragment)) fit c.in_ok-check_fragment.ensures ends refl in
    search (rules, is)

pub returns-clause-refused : goal.returns-clause-refused
returns-clause-refused c =
    let r = c.self.inside in
    let fragment : FragmentValue = by_value c.args.fragment.now in
    let area : List ℕ = c.after_room-payload.result.now in
    let area_is : area ≡ drop (header_room r.key) r.buffer.now =
    c.after_room-payload.ensures ∙ ap (λ n. drop n r.buffer.now) c.header_room.ensures.room in
    let by : List ℕ → State = λ (b : List ℕ). record { key = r.key; room = length b; pieces = pieces_in b r.parts.items; end = r.end } in
    let state_is : by area ≡ c.args.self.now.payload = ap by area_is ∙ ap (λ (s : PacketState). s.payload) c.self.view_is in
    let fit : All (Fits area) r.parts.items = subst (λ b. All (Fits b) r.parts.items) (sym area_is) c.self.invariant.0.payload.fit in
    let offset_is : c.from-offset.result ≡ c.args.fragment.now.offset = search rules in
    let ends : end_refusal r.end (part_reaches (end_of_fragment fragment) r.parts.items) fragment ≡ None =
    ap (λ parts. end_refusal r.end (part_reaches (end_of_fragment fragment) parts) fragment) (sym c.as_slice.ensures.value)
    ∙ c.in_ok-check_end.ensures in
    let is : refusal c.args.self.now.payload fragment
    ≡ piece_refusal (pieces_in area c.as_slice-2.result.now)
    (record { offset = c.from-offset.result; bytes = c.args.fragment.now.payload.now }) =
    ap (λ state. refusal state fragment) (sym state_is)
    ∙ refusal_is r.key (length area) area r.parts.items r.end fragment None None
    (piece_refusal (pieces_in area r.parts.items) (piece_of fragment)) fit c.in_ok-check_fragment.ensures ends refl
    ∙ only_third (piece_refusal (pieces_in area r.parts.items) (piece_of fragment))
    ∙ ap (λ parts. piece_refusal (pieces_in area parts) (piece_of fragment)) (sym c.as_slice-2.ensures.value)
    ∙ ap (λ offset. piece_refusal (pieces_in area c.as_slice-2.result.now)
    (record { offset = offset; bytes = c.args.fragment.now.payload.now })) (sym offset_is) in
    subst (λ rule. RefusesExactly c.check_piece.result rule) (sym is) c.check_piece.ensures.refused
