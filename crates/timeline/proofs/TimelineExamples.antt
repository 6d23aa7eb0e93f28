-- Worked examples of what a timeline counts, so that a wrong definition fails before any code does.
use Rattle.std.proofs.Common.{◌≡◌, ℕ, [], ◌∷◌, ◌++◌, List, None, Some, arith, false, inl, inr, refl, replicate}
use Rattle.timeline.specs.Counts.{counts_of, no_packets, none, total}
use Rattle.timeline.specs.Intervals.{Fits, IsWidth, counts_between, merged}
use Rattle.timeline.specs.Timelines.{empty_timeline, first_time, is_later, is_older, is_untimed, shown_width}
use Rattle.timeline.specs.declared.count.Count.{Count}
use Rattle.timeline.specs.declared.counts.Counts.{Counts}
use Rattle.timeline.specs.declared.event.Event.{Event}
use Rattle.timeline.specs.declared.event.Fault.TheVariants.{Wrong, Refused}
use Rattle.timeline.specs.declared.event.Transport.TheVariants.{Udp, Tcp, Icmp, Other}

abbrev count : ℕ → ℕ → Count
count packets bytes = record { packets = packets; bytes = bytes }

-- A packet without a time, a UDP packet at time 1000, an older TCP packet with a wrong checksum, a refused ICMP packet at time 1009, and
-- an ARP packet at time 1010
abbrev packets : List Event
packets =
    record { time = None; len = 60; transport = Udp; fault = None }
    ∷ record { time = Some 1000; len = 100; transport = Udp; fault = None }
    ∷ record { time = Some 999; len = 40; transport = Tcp; fault = Some Wrong }
    ∷ record { time = Some 1009; len = 28; transport = Icmp; fault = Some Refused }
    ∷ record { time = Some 1010; len = 42; transport = Other; fault = None } ∷ []

start : first_time packets ≡ Some 1000
start = refl

-- the interval begins at 1000 and ends before 1010
ten_wide : counts_between 1000 1010 packets
    ≡ record { udp = count 1 100; tcp = none; icmp = count 1 28; other = none; wrong = none; refused = count 1 28 }
ten_wide = refl

next : counts_between 1010 1020 packets
    ≡ record { udp = none; tcp = none; icmp = none; other = count 1 42; wrong = none; refused = none }
next = refl

older : counts_of (λ packet. is_older (Some 1000) packet.time) packets
    ≡ record { udp = none; tcp = count 1 40; icmp = none; other = none; wrong = count 1 40; refused = none }
older = refl

untimed : total (counts_of (λ packet. is_untimed packet.time) packets) ≡ count 1 60
untimed = refl

-- one interval of width 10 does not suffice, since the last packet is at its end
too_few : Fits 1000 10 1 packets → ⊥
too_few fits = absurd (omega (arith, fits 4 (record { time = None; len = 0; transport = Udp; fault = None }) (omega arith)))

-- three intervals, of which the last stays alone
abbrev of_udp : ℕ → Counts
of_udp packets = record no_packets { udp = count packets packets }

pairs : merged 2 (of_udp 1 ∷ of_udp 2 ∷ of_udp 4 ∷ []) ≡ of_udp 3 ∷ of_udp 4 ∷ []
pairs = refl

-- 300 bins of one second are shown as 150 intervals of two seconds
two_seconds : shown_width (record (empty_timeline None) { start = Some 0; unit = 1000000000; bins = replicate 300 (of_udp 1) })
    ≡ 2000000000
two_seconds = refl

-- 300 intervals of a fixed width of one second
one_second : shown_width (record (empty_timeline (Some 1000000000)) { bins = replicate 300 (of_udp 1) }) ≡ 1000000000
one_second = refl

-- With a fixed width of one unit the intervals end 65,536 units after the start.
later : total (counts_of (λ packet. is_later (Some 1) (Some 1000) packet.time)
    (packets ++ record { time = Some 66535; len = 1; transport = Udp; fault = None }
    ∷ record { time = Some 66536; len = 2; transport = Udp; fault = None } ∷ [])) ≡ count 1 2
later = refl

never_later : is_later None (Some 1000) (Some 66536) ≡ false
never_later = refl

scale : IsWidth 200 × IsWidth 5 × IsWidth 1
scale = ((2, inr (inl refl)), (0, inr (inr refl)), (0, inl refl))
