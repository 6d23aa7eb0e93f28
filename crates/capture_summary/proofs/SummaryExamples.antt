-- Worked examples of what a summary counts, so that a wrong definition fails before any code does.
use Rattle.std.proofs.Common.{◌≡◌, ◌∙◌, ℕ, [], ◌∷◌, None, Some, Ok, ap, arith, codes, inl, inr, pos, refl, replicate, suc, zero}
use Rattle.std.specs.declared.net.ip_addr.IpAddr.TheVariants as ip_addr
use Rattle.std.specs.declared.net.socket_addr.SocketAddr.{SocketAddr}
use Rattle.std.specs.declared.net.socket_addr.SocketAddr.TheVariants as socket_addr
use Rattle.std.specs.Fmt.{digits}
use Rattle.std.specs.Net.Addr.{ipv4_bits}
use Rattle.std.specs.Prelude.{◌+◌, slice_index_or}
use Rattle.capture_file.specs.PacketTimes.{nanoseconds_of}
use Rattle.capture_file.specs.declared.packet_time.PacketTime.{PacketTime}
use Rattle.capture_file.specs.declared.pcapng.time_resolution.TimeResolution.TheVariants.{PowerOfTen}
use Rattle.capture_packet.proofs.PacketExamples.{packet}
use Rattle.capture_summary.specs.declared.protocol.Protocol.TheVariants as protocols
use Rattle.capture_numbers.specs.declared.link_type.LinkType.TheVariants.{Ethernet}
use Rattle.capture_summary.specs.Choice.{HasAny, HasNone, HasPort, IsChosen, every_packet}
use Rattle.capture_summary.specs.declared.choice.ChosenProtocol.TheVariants as chosen
use Rattle.capture_summary.specs.declared.choice.PortRange.{PortRange}
use Rattle.capture_summary.specs.CountedPackets.{table_of}
use Rattle.capture_summary.specs.Events.{event_of}
use Rattle.capture_summary.specs.FlowOf.{IsFlowOf}
use Rattle.capture_summary.specs.Networks.{IsIpv4In, ReadsNetwork}
use Rattle.capture_summary.specs.Ranking.{by_packets}
use Rattle.capture_summary.specs.Rates.{average_len, rates_of}
use Rattle.capture_summary.specs.Files.{Files, file_counted, no_file_packets, with_file}
use Rattle.capture_summary.specs.SummaryTables.{CountsOne, SummaryTables, empty_tables}
use Rattle.capture_summary.specs.declared.file_count.FileCount.{FileCount}
use Rattle.capture_summary.specs.Tables.{no_packets}
use Rattle.capture_summary.specs.TimeRanges.{IsInTimes}
use Rattle.capture_summary.specs.declared.capture_info.CaptureInfo.{CaptureInfo}
use Rattle.capture_summary.specs.declared.count.Count.{Count}
use Rattle.capture_summary.specs.declared.flow.Flow.{Flow}
use Rattle.capture_summary.specs.declared.flow.FlowProtocol.TheVariants.{Udp}
use Rattle.capture_summary.specs.declared.network.Network.{Network}
use Rattle.capture_summary.specs.declared.time_range.TimeRange.{TimeRange}
use Rattle.capture_summary.specs.declared.verdict_kind.VerdictKind.TheVariants.{Refused, Right, Wrong}
use Rattle.timeline.proofs.TimelineLemmas.{Widens, from_counted, untimed_counted}
use Rattle.timeline.specs.Counts as of_times
use Rattle.timeline.specs.Counts.{counts_with}
use Rattle.timeline.specs.Timelines.{CountsPacket, TimelineBins, empty_timeline}
use Rattle.timeline.specs.Widening.{CountsAt}
use Rattle.timeline.specs.declared.counts.Counts.{Counts}
use Rattle.timeline.specs.declared.event.Event.{Event}
use Rattle.timeline.specs.declared.event.Fault.TheVariants as faults
use Rattle.timeline.specs.declared.event.Transport.TheVariants as transports

-- ---- flows

-- an IPv4 address with a port
abbrev pub ipv4_socket : ℕ → ℕ → ℕ → ℕ → ℕ → SocketAddr
ipv4_socket a b c d port = socket_addr.V4 (record { ip = record { octets = a ∷ b ∷ c ∷ d ∷ [] }; port = port })

-- a UDP flow from 192.0.2.1, port 49152, to 192.0.2.2, port 53, and its other direction
abbrev pub request : Flow
request = record { protocol = Udp; source = ipv4_socket 192 0 2 1 49152; destination = ipv4_socket 192 0 2 2 53 }

abbrev pub response : Flow
response = record { protocol = Udp; source = ipv4_socket 192 0 2 2 53; destination = ipv4_socket 192 0 2 1 49152 }

-- the count with this number of packets and of bytes
abbrev pub count : ℕ → ℕ → Count
count packets bytes = record { packets = packets; bytes = bytes }

-- the time this number of microseconds after 1,600,000,000 seconds since 1970
abbrev pub time : ℕ → PacketTime
time microseconds = record { seconds = 1600000000; fraction = microseconds; resolution = PowerOfTen 6; offset = pos 0 }

-- A request of 1,000 bytes, a response of 44 bytes that is older than it, a request without a time, and a packet without ports: one
-- conversation, from the time of the response to the time of the first request.
both_directions : table_of ((Some request, 1000, Some (time 20)) ∷ (Some response, 44, Some (time 7)) ∷ (Some request, 10, None)
    ∷ (None, 200, Some (time 3)) ∷ [])
    ≡ record {
      rows =
          record {
            flow = request;
            forward = count 2 1010;
            reverse = count 1 44;
            span = Some (record { earliest = time 7; latest = time 20 });
          } ∷ [];
      without_ports = count 1 200;
      without_room = no_packets;
    }
both_directions = refl

-- the flow of the UDP packet from 192.0.2.1, port 7, to 192.0.2.2, port 9
flow_of_packet : IsFlowOf packet.content
    (Some (record { protocol = Udp; source = ipv4_socket 192 0 2 1 7; destination = ipv4_socket 192 0 2 2 9 }))
flow_of_packet = (refl, refl, (refl, ((refl, refl, refl), (refl, refl, refl))))

-- ---- one packet

-- an Ethernet frame of 1,000 bytes
abbrev info : CaptureInfo
info = record { link_type = Some (Ok Ethernet); time = None; len = Some (record { original = 1000; captured = 1000 }) }

-- after the request with a right checksum: the first row of protocols is UDP, the first row of checksums is `right`, and the second row of
-- link types is Ethernet
abbrev one_packet : SummaryTables
one_packet = record {
  packets = 1;
  bytes = 1000;
  span = None;
  protocols = count 1 1000 ∷ replicate 51 no_packets;
  verdicts = 1 ∷ replicate 10 0;
  links = 0 ∷ 1 ∷ replicate 21 0;
  refusals = replicate 12 0;
  flows = record {
    rows = record { flow = request; forward = count 1 1000; reverse = no_packets; span = None } ∷ [];
    without_ports = no_packets;
    without_room = no_packets;
  };
  timeline = record (empty_timeline None) {
    untimed = record of_times.no_packets { udp = record { packets = 1; bytes = 1000 } };
  };
  file = record { all = count 1 1000; wrong = 0; refused = 0 };
}

counts_one : CountsOne (empty_tables None) protocols.Udp Right None (Some request) info one_packet
counts_one = record {
  rows = record {
    packets = refl;
    bytes = refl;
    span = refl;
    protocols = refl;
    verdicts = refl;
    links = refl;
    refusals = refl;
    flows = refl;
    file = refl;
  };
  timeline = untimed_counted (empty_timeline None) (event_of protocols.Udp Right info) refl;
}

-- ---- times

-- 20 microseconds after 1,600,000,000 seconds since 1970: this is 1600000000 + 2^63 seconds after the first time
event_of_response : event_of protocols.Icmpv6 Wrong (record info { time = Some (time 20) })
    ≡ record {
      time = Some 9223372038454775808000020000;
      len = 1000;
      transport = transports.Icmp;
      fault = Some faults.Wrong;
    }
event_of_response = refl

-- the timeline after its first packet, which has a time
abbrev pub first_in_timeline : ℕ → Counts → TimelineBins
first_in_timeline time counts = record (empty_timeline None) { start = Some time; bins = counts ∷ [] }

no_wider : Widens 0 0 1 1 [] []
no_wider = record {
  grows = omega arith;
  positive = omega arith;
  is_place = refl;
  within = omega arith;
  kept = λ start packets are. are;
  power = λ is. is;
  least = λ is other other_is order reached. order;
}

first_bin : (packet : Event) → CountsAt 0 packet [] (counts_with packet of_times.no_packets ∷ [])
first_bin packet = record { len = refl; here = refl; elsewhere = elsewhere }
  where
    elsewhere : (other : ℕ) → (other ≡ 0 → ⊥)
        → slice_index_or (counts_with packet of_times.no_packets ∷ []) other of_times.no_packets
        ≡ slice_index_or [] other of_times.no_packets
    elsewhere zero apart = absurd (apart refl)
    elsewhere (suc other) apart = refl

-- the first packet with a time is in the first interval
pub counts_first : (packet : Event) (time : ℕ) → packet.time ≡ Some time
    → CountsPacket (empty_timeline None) packet (first_in_timeline time (counts_with packet of_times.no_packets))
counts_first packet time timed =
    let at_start : time ≡ time + 0 = omega arith in
    from_counted (empty_timeline None) packet time 0 0 1 [] (counts_with packet of_times.no_packets ∷ []) (timed ∙ ap Some at_start)
    no_wider (first_bin packet) refl (inr (refl, refl))

-- ---- files

-- three packets of 98 bytes: one with a wrong checksum, one that is refused, and one that is right
abbrev three : FileCount
three = file_counted Right 28 (file_counted Refused 30 (file_counted Wrong 40 no_file_packets))

count_of_three : three ≡ record { all = count 3 98; wrong = 1; refused = 1 }
count_of_three = refl

-- a table of empty captures
abbrev empty_files : ℕ → Files
empty_files rows = record { rows = replicate rows (codes "a.pcap", no_file_packets); other_files = 0; others = no_file_packets }

-- the 64th capture has a row, and the 65th has none
row_64 : with_file (codes "a.pcap") no_file_packets (empty_files 63) ≡ empty_files 64
row_64 = refl

no_row_65 : with_file (codes "b.pcap") three (empty_files 64) ≡ record (empty_files 64) { other_files = 1; others = three }
no_row_65 = refl

-- ---- rankings and rates

-- the two rows with three packets are in the order of the table
most_packets_first : by_packets ((codes "UDP", count 1 9) ∷ (codes "TCP", count 3 5) ∷ (codes "ICMPv4", count 3 7) ∷ [])
    ≡ (codes "TCP", count 3 5) ∷ (codes "ICMPv4", count 3 7) ∷ (codes "UDP", count 1 9) ∷ []
most_packets_first = refl

-- 70 packets of 6,687 bytes in 6,900 microseconds, as in the stored capture of `capture_report`: 6687 / 70 = 95.5, 70 / 0.0069 = 10144.9,
-- and 8 * 6687 / 0.0069 = 7753043.5
average : average_len 70 6687 ≡ Some 95
average = refl

rates : rates_of 70 6687 (record { earliest = time 0; latest = time 6900 }) ≡ Some (record { packets = 10144; bits = 7753043 })
rates = refl

-- ---- networks

-- RFC 5737: TEST-NET-1, 192.0.2.0/24
abbrev pub test_net : Network
test_net = record { address = ip_addr.V4 (record { octets = 192 ∷ 0 ∷ 2 ∷ 0 ∷ [] }); host_bits = 8 }

last_address : IsIpv4In (192 ∷ 0 ∷ 2 ∷ 255 ∷ []) test_net
unfolding ipv4_bits
last_address = refl

next_network : IsIpv4In (192 ∷ 0 ∷ 3 ∷ 0 ∷ []) test_net → ⊥
unfolding ipv4_bits
next_network is = cc is

-- the text of a network
reads_network : ReadsNetwork (codes "192.0.2.0/24") (Ok test_net)
unfolding digits ipv4_bits
reads_network = record {
  single = λ none. absurd (omega (arith, none));
  prefixed = λ within. inr (
    test_net.address,
    record { a = 192; b = 0; c = 2; d = 0; fit = (omega arith, omega arith, omega arith, omega arith); value = refl; spelled = refl },
    record { number = λ is. refl; other = λ no. absurd (no ((omega arith, (omega arith, (omega arith, tt))), omega arith)) },
  );
}

-- ---- choices

-- the ports from one to another
abbrev range : ℕ → ℕ → PortRange
range first last = record { first = first; last = last }

-- places without a value
empty_places : {X : Type 0} (Statement : X → Type 0) (count : ℕ) → HasAny Statement (replicate count None) → ⊥
empty_places Statement zero any = any
empty_places Statement (suc count) (inl none) = none
empty_places Statement (suc count) (inr any) = empty_places Statement count any

-- neither port 7 nor port 9 is above 60000
outside : HasNone (HasPort packet.content) (Some (range 60001 65535) ∷ replicate 15 None)
outside (inl (inl (inl within))) = omega (arith, within.0)
outside (inl (inl (inr within))) = omega (arith, within.0)
outside (inl (inr quoted)) = quoted
outside (inr any) = empty_places (HasPort packet.content) 15 any

-- the time 5.000007 seconds after the beginning of 1970, and a time a nanosecond later
abbrev chosen_time : PacketTime
chosen_time = record { seconds = 5; fraction = 7; resolution = PowerOfTen 6; offset = pos 0 }

abbrev later_time : PacketTime
later_time = record { seconds = 5; fraction = 7001; resolution = PowerOfTen 9; offset = pos 0 }

-- the range that begins at the first of these times, and ends at the second
abbrev times : TimeRange
times = record { from = Some (nanoseconds_of chosen_time); to = Some (nanoseconds_of later_time) }

-- a packet to port 9, from a host in the network; it is UDP, and no port is above 60000; its time is the beginning of the range
is_chosen : IsChosen
    (record every_packet {
      hosts = Some (Some test_net ∷ replicate 15 None);
      sources = Some (Some test_net ∷ replicate 15 None);
      ports = Some (Some (range 53 53) ∷ Some (range 7 9) ∷ replicate 14 None);
      other_ports = Some (Some (range 60001 65535) ∷ replicate 15 None);
      protocols = Some (Some (chosen.One protocols.Udp) ∷ replicate 15 None);
      time_range = times;
    }) packet (Some chosen_time)
unfolding ipv4_bits
is_chosen = record {
  times = record { begun = omega arith; not_ended = omega arith };
  addresses = record { hosts = inl (inl (inl (inl refl))); sources = inl refl; destinations = tt; other_hosts = tt };
  content = record {
    ports = inr (inl (inl (inr (omega arith, omega arith))));
    other_ports = outside;
    protocols = inl refl;
  };
}

-- the end of the range is not in the range
no_end : IsInTimes times (Some later_time) → ⊥
no_end within = omega (arith, within.not_ended)

-- a packet without a time is not in the range
no_time : IsInTimes times None → ⊥
no_time none = cc none.0
