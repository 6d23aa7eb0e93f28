use Rattle.std.proofs.Common.{IsSome, refl, subst}
use Rattle.reassembly.proofs.PacketLemmas.{has_packet, no_packet, packet_fits, packet_is}
use Rattle.reassembly.proofs.reassembly.Reassembly.packet.Goals as goal

pub returns-in_err-start-clause-found : goal.returns-in_err-start-clause-found
returns-in_err-start-clause-found c =
    let r = c.self.inside in (
      λ some. absurd (cc (subst IsSome c.from_residual.ensures some)),
      λ has. absurd (no_packet c.args.self.now r.key r.buffer.now r.parts.items r.received r.end r.header.items r.start c.self.invariant.0
          c.in_err-start.was
          c.self.view_is has),
    )

pub slice_bounds-result-end-2 : goal.slice_bounds-result-end-2
slice_bounds-result-end-2 c =
    let r = c.self.inside in
    packet_fits r.key r.buffer.now r.parts.items r.received c.header_room.result r.end r.header.items r.start c.in_ok-start.start
    c.self.invariant.0
    c.in_ok-start.was c.header_room.ensures.room

pub returns-clause-found : goal.returns-clause-found
returns-clause-found c =
    let r = c.self.inside in (
      λ _. has_packet c.args.self.now r.key r.buffer.now r.parts.items r.received r.end r.header.items r.start c.in_ok-start.start
          c.self.invariant.0
          c.in_ok-start.was c.self.view_is,
      λ _. refl,
    )

pub returns-clause-bytes : goal.returns-clause-bytes
returns-clause-bytes c =
    let r = c.self.inside in
    packet_is c.args.self.now r.key r.buffer.now r.parts.items r.received c.header_room.result r.end r.header.items r.start
    c.in_ok-start.start
    c.self.invariant.0 c.in_ok-start.was c.header_room.ensures.room c.self.view_is
