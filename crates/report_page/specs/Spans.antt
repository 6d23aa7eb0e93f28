-- What the packets of a timeline are counted by: their first and their last time, and bins of one width.
use Rattle.std.specs.Prelude.{◌≡◌, ℕ, ◌+◌, ◌*◌, ◌<◌, ◌≤◌, List, replicate, slice_index_or, All, Option, Some, None}
use Rattle.timeline.specs.Counts.{counts_of, no_packets}
use Rattle.timeline.specs.Intervals.{IsBefore, IsPowerOfTen, counts_between}
use Rattle.timeline.specs.Timelines.{first_time, is_older, is_untimed, max_bins}
use Rattle.timeline.specs.declared.count.Count.{Count}
use Rattle.timeline.specs.declared.counts.Counts.{Counts}
use Rattle.timeline.specs.declared.event.Event.{Event}
use Rattle.timeline.specs.declared.event.Transport.{Transport}
use Rattle.timeline.specs.declared.event.Transport.TheVariants as transports
use Rattle.report_page.specs.declared.bins.Bins.{Bins}
use Rattle.report_page.specs.declared.span.Span.{Span}

-- the first packet with a time has the time `start`, and the latest packet has the time `last`
pub record Reaches (packets : List Event) (start last : ℕ) : Type 0 where
  pub first : first_time packets ≡ Some start
  pub order : start ≤ last
  pub all : All (λ packet. IsBefore (last + 1) packet.time) packets
  pub attained : (end : ℕ) → All (λ packet. IsBefore end packet.time) packets → last < end

-- the first and the last time of these packets, or `None` if no packet has a time
abbrev pub IsSpanOf : List Event → Option Span → Type 0
IsSpanOf packets None = first_time packets ≡ None
IsSpanOf packets (Some span) = Reaches packets span.start span.last

-- the unit is the least power of ten with which `max_bins` bins reach this time after the start
pub record IsUnitFor (offset unit : ℕ) : Type 0 where
  pub power : IsPowerOfTen unit
  pub reaches : offset < max_bins * unit
  pub least : (other : ℕ) → IsPowerOfTen other → offset < max_bins * other → unit ≤ other

-- bins without packets
abbrev pub no_bins : ℕ → Bins
no_bins unit = record {
  start = None;
  unit = unit;
  len = 0;
  all = replicate max_bins no_packets;
  older = no_packets;
  untimed = no_packets;
}

-- each bin contains the packets whose time is in it, and the other packets are counted apart
pub record AreCounted (start : ℕ) (bins : Bins) (packets : List Event) : Type 0 where
  pub contained : (place : ℕ) → place < max_bins → slice_index_or bins.all place no_packets
      ≡ counts_between (start + place * bins.unit) (start + (place + 1) * bins.unit) packets
  pub older : bins.older ≡ counts_of (λ packet. is_older (Some start) packet.time) packets
  pub untimed : bins.untimed ≡ counts_of (λ packet. is_untimed packet.time) packets

-- counts that are without packets, except for this protocol
abbrev pub of_transport : Transport → Count → Counts
of_transport transports.Udp count = record no_packets { udp = count }
of_transport transports.Tcp count = record no_packets { tcp = count }
of_transport transports.Icmp count = record no_packets { icmp = count }
of_transport transports.Other count = record no_packets { other = count }
