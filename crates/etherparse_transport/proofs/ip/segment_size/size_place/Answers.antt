use Rattle.std.proofs.Common.{Ok}
use Rattle.etherparse_transport.proofs.SegmentSizeLemmas.{finds_in, not_refused_for, size_at}
use Rattle.etherparse_transport.proofs.ip.segment_size.size_place.Goals as goal

pub returns-clause-refused : goal.returns-clause-refused
returns-clause-refused c =
    let found = c.in-Ok.ensures in
    not_refused_for c.args.packet.now c.in_ok-size_at.size_at
    (finds_in c.args.packet.now c.in-Ok.found
    (Ok c.in_ok-size_at.size_at) found.refused found.found found.stated c.in_ok-size_at.ensures.found)

pub returns-clause-place : goal.returns-clause-place
returns-clause-place c =
    let found = c.in-Ok.ensures in
    let size = c.in_ok-size_at.ensures in
    size_at c.args.packet.now c.in-Ok.found c.in_ok-size_at.size_at found.found found.stated
    (finds_in c.args.packet.now c.in-Ok.found (Ok c.in_ok-size_at.size_at) found.refused found.found found.stated size.found)
    size.there.0 size.there.1 size.header (λ place. (c.type_inv.packet place).fits)
