use Rattle.std.proofs.Common.{◌≡◌, None, Option, Some, ap, length, refl, subst, sym, ◌∙◌}
use Rattle.std.specs.Prelude.{unwrap_or}
use Rattle.reassembly.specs.Packets.{PacketState, empty}
use Rattle.reassembly.specs.declared.fragment_key.FragmentKey.{FragmentKey}
use Rattle.etherparse_transport_c.specs.Reassemblies.{TellsPacket, after_all, all_refusal}
use Rattle.etherparse_transport_c.specs.declared.error.EtherparseError.{EtherparseError}
use Rattle.etherparse_transport_c.proofs.reassembled.etherparse_reassembly_packet.Goals as goal

-- two values that are found at the same place are the same
same_some : {A : Type 0} (found : Option A) (a b : A) → found ≡ Some a → found ≡ Some b → a ≡ b
same_some found a b is also = ap (λ value. unwrap_or value b) (sym is ∙ also)

none_is_some : (refusal : EtherparseError) → None ≡ Some refusal → ⊥
none_is_some refusal is = cc is

pub returns-in-Ok-add_all-clause-refused : goal.returns-in-Ok-add_all-clause-refused
returns-in-Ok-add_all-clause-refused c = λ key refusal first is refused.
    let same : c.in-Ok.key ≡ key = same_some _ c.in-Ok.key key c.in-Ok.ensures.key is in
    let state : c.new-reassembly.result ≡ empty key (length c.args.room.now) =
    c.new-reassembly.ensures ∙ ap (λ k. empty k (length c.args.room.now)) same in
    let none : all_refusal c.new-reassembly.result c.args.lens.now c.args.packets.now ≡ None = c.in-Ok-add_all.ensures.refused in
    absurd (none_is_some refusal (sym none ∙ ap (λ s. all_refusal s c.args.lens.now c.args.packets.now) state ∙ refused))

pub returns-in-Ok-add_all-clause-told : goal.returns-in-Ok-add_all-clause-told
returns-in-Ok-add_all-clause-told c = λ key first is none.
    let same : c.in-Ok.key ≡ key = same_some _ c.in-Ok.key key c.in-Ok.ensures.key is in
    let state : c.new-reassembly.result ≡ empty key (length c.args.room.now) =
    c.new-reassembly.ensures ∙ ap (λ k. empty k (length c.args.room.now)) same in
    subst (λ (s : PacketState). TellsPacket s c.args.buffer.now c.write_packet.new.buffer c.write_packet.new.written c.args.written.now
    c.write_packet.result.status c.write_packet.result.error c.args.error.before)
    (c.in-Ok-add_all.ensures.added ∙ ap (λ s. after_all s c.args.lens.now c.args.packets.now) state) c.write_packet.ensures.told

pub returns-in-Err-add_all-clause-refused : goal.returns-in-Err-add_all-clause-refused
returns-in-Err-add_all-clause-refused c = λ key refusal first is refused.
    let same : c.in-Ok.key ≡ key = same_some _ c.in-Ok.key key c.in-Ok.ensures.key is in
    let state : c.new-reassembly.result ≡ empty key (length c.args.room.now) =
    c.new-reassembly.ensures ∙ ap (λ k. empty k (length c.args.room.now)) same in
    let some : all_refusal c.new-reassembly.result c.args.lens.now c.args.packets.now ≡ Some c.in-Err-add_all.refused =
    c.in-Err-add_all.ensures.refused in
    let same_refusal : c.in-Err-add_all.refused ≡ refusal =
    same_some _ c.in-Err-add_all.refused refusal (sym (ap (λ s. all_refusal s c.args.lens.now c.args.packets.now) state) ∙ some) refused in (
      c.refuse-in-Err-add_all.ensures.status ∙ ap (λ (r : EtherparseError). r.status) same_refusal,
      c.refuse-in-Err-add_all.ensures.error ∙ same_refusal,
      refl,
      refl,
    )

pub returns-in-Err-add_all-clause-told : goal.returns-in-Err-add_all-clause-told
returns-in-Err-add_all-clause-told c = λ key first is none.
    let same : c.in-Ok.key ≡ key = same_some _ c.in-Ok.key key c.in-Ok.ensures.key is in
    let state : c.new-reassembly.result ≡ empty key (length c.args.room.now) =
    c.new-reassembly.ensures ∙ ap (λ k. empty k (length c.args.room.now)) same in
    let some : all_refusal c.new-reassembly.result c.args.lens.now c.args.packets.now ≡ Some c.in-Err-add_all.refused =
    c.in-Err-add_all.ensures.refused in
    absurd (none_is_some c.in-Err-add_all.refused
    (sym none ∙ (sym (ap (λ s. all_refusal s c.args.lens.now c.args.packets.now) state) ∙ some)))
