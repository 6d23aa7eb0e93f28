use Rattle.std.proofs.Common.{◌≡◌, ℕ, ◌+◌, false, [], ◌∷◌, ◌++◌, drop, length, sym, ◌∙◌, ap, arith, rules}
use Rattle.reassembly.proofs.KeptLemmas.{accepted_by, by_complete, complete_by, new_piece, own_fits, received_most}
use Rattle.reassembly.proofs.PacketLemmas.{IsAccepted, packet_kept, packet_repeated, packet_written, payload_state, state_added, write_fits}
use Rattle.reassembly.proofs.PartLemmas.{within_new}
use Rattle.reassembly.specs.Fragments.{FragmentValue, by_value}
use Rattle.reassembly.specs.Packets.{PacketState, header_room}
use Rattle.reassembly.specs.Parts.{pieces_in}
use Rattle.reassembly.specs.Pieces.{is_among}
use Rattle.reassembly.specs.Reassembly.{piece_of, refusal}
use Rattle.reassembly.specs.declared.part.Part.{Part}
use Rattle.reassembly.proofs.reassembly.Reassembly.add.Goals as goal

pub invariant_of-self : goal.invariant_of-self
invariant_of-self c =
    let r = c.self.inside in
    let fragment : FragmentValue = by_value c.args.fragment.now in
    let accepted : IsAccepted r.key r.buffer.now r.parts.items r.end fragment =
    ap (λ (state : PacketState). refusal state.payload fragment) c.self.view_is ∙ c.in_ok-is_repetition.ensures.refused in (
      packet_repeated r.key r.buffer.now c.write_front-self-inside.new.buffer r.parts.items r.received c.header_room-room.result r.end
          c.end_with-self-inside.result r.header.items r.start c.write_front-self-inside.result fragment c.self.invariant.0 accepted
          c.end_with-self-inside.ensures c.header_room-room.ensures.room c.write_front-self-inside.ensures.payload
          c.write_front-self-inside.ensures.written,
      c.self.invariant.1,
    )

pub returns-then-is_repetition-clause-progress : goal.returns-then-is_repetition-clause-progress
returns-then-is_repetition-clause-progress c =
    let r = c.self.inside in
    let buffer = drop (header_room r.key) c.write_front-self-inside.new.buffer in
    let kept = (invariant_of-self c).0.payload in (
      λ is. complete_by buffer r.parts.items r.received c.end_with-self-inside.result r.key (length buffer) kept
          (c.progress_of.ensures.0 is),
      λ complete. c.progress_of.ensures.1
          (by_complete buffer r.parts.items r.received c.end_with-self-inside.result r.key (length buffer) kept complete),
    )

pub write_payload-requires : goal.write_payload-requires
write_payload-requires c =
    let r = c.self.inside in
    let fragment : FragmentValue = by_value c.args.fragment.now in
    let accepted : IsAccepted r.key r.buffer.now r.parts.items r.end fragment =
    ap (λ (state : PacketState). refusal state.payload fragment) c.self.view_is ∙ c.in_ok-is_repetition.ensures.refused in
    let offset_is : c.from.result ≡ c.args.fragment.now.offset = search rules in
    write_fits r.key r.buffer.now r.parts.items r.end fragment c.header_room-room.result c.from.result accepted
    c.header_room-room.ensures.room
    offset_is

pub push-requires : goal.push-requires
push-requires c =
    let r = c.self.inside in
    let fragment : FragmentValue = by_value c.args.fragment.now in
    let accepted : IsAccepted r.key r.buffer.now r.parts.items r.end fragment =
    ap (λ (state : PacketState). refusal state.payload fragment) c.self.view_is ∙ c.in_ok-is_repetition.ensures.refused in
    let among : is_among (pieces_in (drop (header_room r.key) r.buffer.now) r.parts.items) (piece_of fragment) ≡ false =
    ap (λ (state : PacketState). is_among state.payload.pieces (piece_of fragment)) c.self.view_is
    ∙ sym c.in_ok-is_repetition.ensures.repeated
    ∙ c.if-is_repetition.false in
    let rule = accepted_by (payload_state r.key r.buffer.now r.parts.items r.end) fragment accepted in
    (omega arith, (new_piece (drop (header_room r.key) r.buffer.now) r.parts.items (piece_of fragment) rule.2 among).1)

pub overflow_add-self : goal.overflow_add-self
overflow_add-self c =
    let r = c.self.inside in
    let fragment : FragmentValue = by_value c.args.fragment.now in
    let accepted : IsAccepted r.key r.buffer.now r.parts.items r.end fragment =
    ap (λ (state : PacketState). refusal state.payload fragment) c.self.view_is ∙ c.in_ok-is_repetition.ensures.refused in
    let rule = accepted_by (payload_state r.key r.buffer.now r.parts.items r.end) fragment accepted in
    let fits = own_fits r.key (length (drop (header_room r.key) r.buffer.now)) fragment rule.0 in
    omega (arith, received_most (drop (header_room r.key) r.buffer.now) r.parts.items r.received r.end c.self.invariant.0.payload, fits.0)

pub invariant_of-self-2 : goal.invariant_of-self-2
invariant_of-self-2 c =
    let r = c.self.inside in
    let fragment : FragmentValue = by_value c.args.fragment.now in
    let accepted : IsAccepted r.key r.buffer.now r.parts.items r.end fragment =
    ap (λ (state : PacketState). refusal state.payload fragment) c.self.view_is ∙ c.in_ok-is_repetition.ensures.refused in
    let among : is_among (pieces_in (drop (header_room r.key) r.buffer.now) r.parts.items) (piece_of fragment) ≡ false =
    ap (λ (state : PacketState). is_among state.payload.pieces (piece_of fragment)) c.self.view_is
    ∙ sym c.in_ok-is_repetition.ensures.repeated
    ∙ c.if-is_repetition.false in
    let offset_is : c.from.result ≡ c.args.fragment.now.offset = search rules in
    let new_is : c.push.new.self.items ≡ r.parts.items ++ record { offset = c.from.result; len = length fragment.bytes } ∷ [] =
    c.push.ensures.items
    ∙ ap (λ (p : Part). r.parts.items ++ p ∷ []) (c.part_of-part.ensures
    ∙ ap (λ (n : ℕ). record { offset = n; len = length fragment.bytes }) (sym offset_is)) in
    let written = packet_written r.key r.buffer.now c.write_payload.new.buffer r.parts.items c.push.new.self.items r.received
    c.from.result
    c.header_room-room.result r.end c.end_with-self-inside.result r.header.items r.start fragment c.self.invariant.0 accepted among offset_is
    new_is c.end_with-self-inside.ensures c.header_room-room.ensures.room c.write_payload.ensures in (
      packet_kept r.key r.buffer.now c.write_payload.new.buffer c.write_front-self-inside-2.new.buffer r.parts.items c.push.new.self.items
          r.received
          c.header_room-room.result r.end c.end_with-self-inside.result r.header.items c.keep_header.new.header.items r.start
          c.write_front-self-inside-2.result fragment c.self.invariant.0 accepted written c.end_with-self-inside.ensures c.keep_header.ensures
          c.header_room-room.ensures.room c.write_front-self-inside-2.ensures.payload c.write_front-self-inside-2.ensures.written,
      within_new r.parts.items c.push.new.self.items c.part_of-part.result r.reach c.reach_with-self-inside.result c.self.invariant.1
          c.reach_with-self-inside.ensures.before c.reach_with-self-inside.ensures.part c.push.ensures.items,
    )

pub returns-clause-added : goal.returns-clause-added
returns-clause-added c =
    let r = c.self.inside in
    let fragment : FragmentValue = by_value c.args.fragment.now in
    let accepted : IsAccepted r.key r.buffer.now r.parts.items r.end fragment =
    ap (λ (state : PacketState). refusal state.payload fragment) c.self.view_is ∙ c.in_ok-is_repetition.ensures.refused in
    let among : is_among (pieces_in (drop (header_room r.key) r.buffer.now) r.parts.items) (piece_of fragment) ≡ false =
    ap (λ (state : PacketState). is_among state.payload.pieces (piece_of fragment)) c.self.view_is
    ∙ sym c.in_ok-is_repetition.ensures.repeated
    ∙ c.if-is_repetition.false in
    let offset_is : c.from.result ≡ c.args.fragment.now.offset = search rules in
    let new_is : c.push.new.self.items ≡ r.parts.items ++ record { offset = c.from.result; len = length fragment.bytes } ∷ [] =
    c.push.ensures.items
    ∙ ap (λ (p : Part). r.parts.items ++ p ∷ []) (c.part_of-part.ensures
    ∙ ap (λ (n : ℕ). record { offset = n; len = length fragment.bytes }) (sym offset_is)) in
    let written = packet_written r.key r.buffer.now c.write_payload.new.buffer r.parts.items c.push.new.self.items r.received
    c.from.result
    c.header_room-room.result r.end c.end_with-self-inside.result r.header.items r.start fragment c.self.invariant.0 accepted among offset_is
    new_is c.end_with-self-inside.ensures c.header_room-room.ensures.room c.write_payload.ensures in
    state_added c.args.self.now r.key r.buffer.now c.write_payload.new.buffer c.write_front-self-inside-2.new.buffer r.parts.items
    c.push.new.self.items r.received c.header_room-room.result r.end c.end_with-self-inside.result r.header.items
    c.keep_header.new.header.items fragment
    c.self.view_is among (c.write_front-self-inside-2.auto.buffer ∙ c.write_payload.auto.buffer) written c.end_with-self-inside.ensures
    c.keep_header.ensures c.header_room-room.ensures.room c.write_front-self-inside-2.ensures.payload

pub returns-clause-progress : goal.returns-clause-progress
returns-clause-progress c =
    let r = c.self.inside in
    let buffer = drop (header_room r.key) c.write_front-self-inside-2.new.buffer in
    let kept = (invariant_of-self-2 c).0.payload in (
      λ is. complete_by buffer c.push.new.self.items
          (r.received + length c.args.fragment.now.payload.now) c.end_with-self-inside.result r.key
          (length buffer) kept (c.progress_of-2.ensures.0 is),
      λ complete. c.progress_of-2.ensures.1
          (by_complete buffer c.push.new.self.items
          (r.received + length c.args.fragment.now.payload.now) c.end_with-self-inside.result r.key
          (length buffer) kept complete),
    )
