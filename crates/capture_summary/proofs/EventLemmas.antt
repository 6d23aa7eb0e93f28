-- A timeline counts a packet.
use Rattle.std.proofs.Common.{◌≡◌, subst}
use Rattle.timeline.specs.Timelines.{CountsPacket, TimelineBins}
use Rattle.timeline.specs.declared.event.Event.{Event}

pub counts_same : (before other after : TimelineBins) (event same : Event) → before ≡ other → event ≡ same
    → CountsPacket before event after → CountsPacket other same after
counts_same before other after event same is_other is_same counts =
    subst (λ each. CountsPacket each same after) is_other (subst (λ each. CountsPacket before each after) is_same counts)
