-- The timeline in the summary of a run is the timeline of the chosen packets that the run read.
use Rattle.std.proofs.Common.{◌≡◌, ◌∙◌, ◌+◌, ℕ, Bool, true, false, List, [], ◌∷◌, ◌++◌, MatchBool, None, Some, Option, Result, ap, append-nil, append_assoc, inl, inr, refl, subst, sym}
use Rattle.capture_file.specs.CapturePackets.{FilePacket}
use Rattle.capture_file.specs.declared.reader.capture_reader.CaptureReader.{CaptureReader}
use Rattle.capture_request.specs.Intervals.{width_of}
use Rattle.capture_request.specs.Limits.{is_full, limited}
use Rattle.capture_request.specs.Report.{CountsChosen, CountsEach, info_of}
use Rattle.capture_request.specs.declared.capture_error.CaptureError.{CaptureError}
use Rattle.capture_request.specs.declared.parts.Parts.{Parts}
use Rattle.capture_request.specs.declared.reached.Reached.{Reached}
use Rattle.capture_request.specs.ErrorLines.{line_name}
use Rattle.capture_run.specs.Captures.{Given, Progress, ReportsEach, ReportsGiven, ReportsNamed, at_start, heading_of, packets_given, packets_headed, packets_of_each, packets_read, row_name}
use Rattle.capture_run.specs.PacketsText.{IsCaptureReport}
use Rattle.capture_run.specs.Timelines.{AreEventsOf, HasTimeline}
use Rattle.capture_summary.specs.Events.{event_of}
use Rattle.capture_summary.specs.Kinds.{verdict_kind}
use Rattle.capture_summary.specs.Protocols.{content_protocol}
use Rattle.capture_summary.specs.SummaryTables.{SummaryTables, file_started}
use Rattle.capture_summary.specs.declared.choice.Choice.{Choice}
use Rattle.timeline.proofs.TimelineLemmas.{of_no_packet}
use Rattle.timeline.specs.Timelines.{IsTimelineOf}
use Rattle.timeline.specs.declared.event.Event.{Event}

-- the summary has counted these packets, those of them that are chosen, after the packets of its timeline
abbrev Continues : Option ℕ → Choice → List FilePacket → List Event → SummaryTables → Type 0
Continues width choice packets earlier tables =
    (events : List Event) × AreEventsOf choice packets events × IsTimelineOf width (earlier ++ events) tables.timeline

-- nothing is counted
unchanged : (width : Option ℕ) (choice : Choice) (earlier : List Event) (before after : SummaryTables) → after ≡ before → IsTimelineOf width earlier before.timeline
    → Continues width choice [] earlier after
unchanged width choice earlier before after same is = (
  [],
  refl,
  subst (λ tables. IsTimelineOf width (earlier ++ []) tables.timeline) (sym same)
      (subst (λ events. IsTimelineOf width events before.timeline) (sym (append-nil earlier)) is),
)

-- the packets of a capture
each : (width : Option ℕ) (choice : Choice) (before after : SummaryTables) (packets : List FilePacket) (earlier : List Event)
    → CountsEach choice before packets after → IsTimelineOf width earlier before.timeline → Continues width choice packets earlier after
each width choice before after [] earlier counted is = unchanged width choice earlier before after counted is
each width choice before after (packet ∷ packets) earlier counted is =
    by counted.1.counts (λ events. each width choice counted.0 after packets events counted.2)
  where
    by : CountsChosen choice counted.1.packet (info_of packet) before counted.0
        → ((events : List Event) → IsTimelineOf width events counted.0.timeline → Continues width choice packets events after)
        → Continues width choice (packet ∷ packets) earlier after
    by (inl chosen) others =
        let read = counted.1.packet in
        let event : Event = event_of (content_protocol read.content) (verdict_kind read.verdict) (info_of packet) in
        let rest = others (earlier ++ event ∷ []) (chosen.1.counts.timeline width earlier is) in (
          event ∷ rest.0,
          (event ∷ [], rest.0, (read, counted.1.is_packet, inl (chosen.0, refl)), rest.1, refl),
          subst (λ events. IsTimelineOf width events after.timeline) (append_assoc earlier (event ∷ []) rest.0) rest.2,
        )
    by (inr skipped) others =
        let rest = others earlier (subst (λ tables. IsTimelineOf width earlier tables.timeline) (sym skipped.1) is) in (
          rest.0,
          ([], rest.0, (counted.1.packet, counted.1.is_packet, inr (skipped.0, refl)), rest.1, refl),
          rest.2,
        )

read : (width : Option ℕ) (parts : Parts) (left still_left : Option (List ℕ)) (ended : Result Reached CaptureError) (before after : SummaryTables)
    (text : List ℕ) (reader : Option CaptureReader) (report : IsCaptureReport parts left still_left ended before after reader text)
    (earlier : List Event) → IsTimelineOf width earlier before.timeline
    → Continues width parts.choice (packets_read parts left still_left ended before after text reader report) earlier after
read width parts left still_left ended before after text None report earlier is = unchanged width parts.choice earlier before after report.1 is
read width parts left still_left ended before after text (Some last) report earlier is =
    each width parts.choice (file_started before) after report.writes.packets earlier report.writes.counted is

given_capture : (width : Option ℕ) (parts : Parts) (shown row : Option (List ℕ)) (name : List ℕ) (before after : Progress) (text : List ℕ)
    (lines : List (List ℕ)) (given : Given) (reports : ReportsGiven parts shown row name given before after text lines)
    (earlier : List Event) → IsTimelineOf width earlier before.summary.timeline
    → Continues width parts.choice (packets_given parts shown row name before after text lines given reports) earlier after.summary
given_capture width parts shown row name before after text lines None reports earlier is =
    unchanged width parts.choice earlier before.summary after.summary (ap (λ progress. progress.summary) reports.0) is
given_capture width parts shown row name before after text lines (Some left) reports earlier is =
    read width parts left reports.still_left reports.ended before.summary after.summary text reports.reader reports.is_report earlier is

headed : (width : Option ℕ) (Reads : List ℕ → Given → Type 0) (parts : Parts) (count place : ℕ) (name : List ℕ) (before after : Progress) (text : List ℕ)
    (lines : List (List ℕ)) (is_skipped : Bool)
    (reports : MatchBool is_skipped ((after ≡ before) × (text ≡ []) × (lines ≡ []))
    ((packets : List ℕ) × ReportsNamed Reads parts (line_name count name) (row_name count name) name before after packets lines
    × (text ≡ heading_of parts count place name ++ packets)))
    (earlier : List Event) → IsTimelineOf width earlier before.summary.timeline
    → Continues width parts.choice (packets_headed Reads parts count place name before after text lines is_skipped reports) earlier after.summary
headed width Reads parts count place name before after text lines true skips earlier is =
    unchanged width parts.choice earlier before.summary after.summary (ap (λ progress. progress.summary) skips.0) is
headed width Reads parts count place name before after text lines false reports earlier is =
    given_capture width parts (line_name count name) (row_name count name) name before after reports.0 lines reports.1.0 reports.1.2 earlier is

-- the events of some packets, and then of more packets
append-events : (choice : Choice) (packets more : List FilePacket) (events more_events : List Event)
    → AreEventsOf choice packets events → AreEventsOf choice more more_events
    → AreEventsOf choice (packets ++ more) (events ++ more_events)
append-events choice [] more events more_events are more_are =
    subst (λ each. AreEventsOf choice more (each ++ more_events)) (sym are) more_are
append-events choice (packet ∷ packets) more events more_events are more_are = (
  are.0,
  are.1 ++ more_events,
  are.2,
  append-events choice packets more are.1 more_events are.3 more_are,
  ap (λ each. each ++ more_events) are.4 ∙ append_assoc are.0 are.1 more_events,
)

all : (width : Option ℕ) (Reads : List ℕ → Given → Type 0) (parts : Parts) (count place : ℕ) (names : List (List ℕ)) (before after : Progress)
    (text : List ℕ) (lines : List (List ℕ)) (reports : ReportsEach Reads parts count place names before after text lines)
    (earlier : List Event) → IsTimelineOf width earlier before.summary.timeline
    → Continues width parts.choice (packets_of_each Reads parts count place names before after text lines reports) earlier after.summary
all width Reads parts count place [] before after text lines reports earlier is =
    unchanged width parts.choice earlier before.summary after.summary (ap (λ progress. progress.summary) reports.0) is
all width Reads parts count place (name ∷ names) before after text lines reports earlier is =
    let full = is_full parts.limit (limited parts.lines before.summary) in
    let first = headed width Reads parts count place name before reports.0 reports.1 reports.3 full reports.5 earlier is in
    let others = all width Reads parts count (place + 1) names reports.0 after reports.2 reports.4 reports.6 (earlier ++ first.0) first.2 in (
      first.0 ++ others.0,
      append-events parts.choice (packets_headed Reads parts count place name before reports.0 reports.1 reports.3 full reports.5)
          (packets_of_each Reads parts count (place + 1) names reports.0 after reports.2 reports.4 reports.6) first.0 others.0 first.1
          others.1,
      subst (λ events. IsTimelineOf width events after.summary.timeline) (append_assoc earlier first.0 others.0) others.2,
    )

pub timeline_from_start : (Reads : List ℕ → Given → Type 0) (parts : Parts) (count : ℕ) (names : List (List ℕ)) (after : Progress)
    (text : List ℕ) (lines : List (List ℕ)) (reports : ReportsEach Reads parts count 0 names (at_start parts) after text lines)
    → HasTimeline parts.choice (width_of parts) (packets_of_each Reads parts count 0 names (at_start parts) after text lines reports)
    after.summary.timeline
timeline_from_start Reads parts count names after text lines reports =
    all (width_of parts) Reads parts count 0 names (at_start parts) after text lines reports [] (of_no_packet (width_of parts))
