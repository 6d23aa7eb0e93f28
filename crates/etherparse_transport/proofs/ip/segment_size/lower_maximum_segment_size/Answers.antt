use Rattle.std.proofs.Common.{refl, rules}
use Rattle.etherparse_transport.proofs.SegmentSizeLemmas.{is_lowered}
use Rattle.etherparse_transport.proofs.ip.segment_size.lower_maximum_segment_size.Goals as goal

pub returns-clause-lowered : goal.returns-clause-lowered
returns-clause-lowered c =
    let place = c.in_ok-place.place in
    let lower = c.lower_size.ensures in
    is_lowered c.args.most c.lower_size.result c.args.packet.now c.lower_size.new.segment _ place.start place.end place.size_at
    c.in_ok-place.ensures.place lower.size lower.lowered lower.verifies (search rules) refl
