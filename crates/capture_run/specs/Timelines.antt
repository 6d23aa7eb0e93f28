-- The timeline of the chosen packets.
use Rattle.std.specs.Prelude.{◌≡◌, ◌⊎◌, ℕ, List, [], ◌∷◌, ◌++◌, Option}
use Rattle.capture_file.specs.CapturePackets.{FilePacket}
use Rattle.capture_packet.specs.declared.packet.Packet.{Packet}
use Rattle.capture_request.specs.Report.{IsPacketOf, info_of}
use Rattle.capture_summary.specs.Choice.{IsChosen}
use Rattle.capture_summary.specs.Events.{event_of}
use Rattle.capture_summary.specs.Kinds.{verdict_kind}
use Rattle.capture_summary.specs.Protocols.{content_protocol}
use Rattle.capture_summary.specs.declared.choice.Choice.{Choice}
use Rattle.timeline.specs.Timelines.{IsTimelineOf, TimelineBins}
use Rattle.timeline.specs.declared.event.Event.{Event}

-- the event of a packet if the packet is chosen, otherwise no event
abbrev pub IsEventOf : Choice → FilePacket → List Event → Type 0
IsEventOf choice packet events =
    (read : Packet) × IsPacketOf choice.udp_tunnels packet read
    × ((IsChosen choice read (info_of packet).time
    × (events ≡ event_of (content_protocol read.content) (verdict_kind read.verdict) (info_of packet) ∷ []))
    ⊎ ((IsChosen choice read (info_of packet).time → ⊥) × (events ≡ [])))

-- the events of the chosen packets, in the order of the packets
abbrev pub AreEventsOf : Choice → List FilePacket → List Event → Type 0
AreEventsOf choice [] events = events ≡ []
AreEventsOf choice (packet ∷ packets) events =
    (first : List Event) × (others : List Event) × IsEventOf choice packet first × AreEventsOf choice packets others
    × (events ≡ first ++ others)

-- the timeline of the chosen packets, in the order of the packets, with intervals of this fixed width in nanoseconds, or of a width that grows
-- if no width is given
abbrev pub HasTimeline : Choice → Option ℕ → List FilePacket → TimelineBins → Type 0
HasTimeline choice width packets timeline = (events : List Event) × AreEventsOf choice packets events × IsTimelineOf width events timeline
