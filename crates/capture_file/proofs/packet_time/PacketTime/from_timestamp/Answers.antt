use Rattle.std.proofs.Common.{◌<◌, sym, subst}
use Rattle.capture_file.proofs.ReaderLemmas.{units_positive}
use Rattle.capture_file.proofs.packet_time.PacketTime.from_timestamp.Goals as goal

pub nonzero_div-seconds : goal.nonzero_div-seconds
nonzero_div-seconds c = subst (λ units. 0 < units) (sym c.in-Some.ensures.1) (units_positive c.args.interface.time_resolution)

pub nonzero_rem-seconds : goal.nonzero_rem-seconds
nonzero_rem-seconds c = subst (λ units. 0 < units) (sym c.in-Some.ensures.1) (units_positive c.args.interface.time_resolution)
