-- A packet, as the timeline of a summary counts it.
use Rattle.std.specs.Prelude.{Option, Some, None}
use Rattle.std.specs.Option.{option_map}
use Rattle.capture_file.specs.PacketTimes.{nanoseconds_of}
use Rattle.capture_summary.specs.Tables.{counted_len}
use Rattle.capture_summary.specs.declared.capture_info.CaptureInfo.{CaptureInfo}
use Rattle.capture_summary.specs.declared.protocol.Protocol.{Protocol}
use Rattle.capture_summary.specs.declared.protocol.Protocol.TheVariants as protocols
use Rattle.capture_summary.specs.declared.verdict_kind.VerdictKind.{VerdictKind}
use Rattle.capture_summary.specs.declared.verdict_kind.VerdictKind.TheVariants as verdicts
use Rattle.timeline.specs.declared.event.Event.{Event}
use Rattle.timeline.specs.declared.event.Fault.{Fault}
use Rattle.timeline.specs.declared.event.Fault.TheVariants as faults
use Rattle.timeline.specs.declared.event.Transport.{Transport}
use Rattle.timeline.specs.declared.event.Transport.TheVariants as transports

-- the transport protocol of the packets in this row of the table of protocols
abbrev pub transport_of : Protocol → Transport
transport_of protocols.Udp = transports.Udp
transport_of protocols.Tcp = transports.Tcp
transport_of protocols.Icmpv4 = transports.Icmp
transport_of protocols.Icmpv6 = transports.Icmp
transport_of other = transports.Other

-- the fault of the packets in this row of the table of checksums
abbrev pub fault_of : VerdictKind → Option Fault
fault_of verdicts.Wrong = Some faults.Wrong
fault_of verdicts.Refused = Some faults.Refused
fault_of other = None

-- A packet with this protocol and this verdict. `info` is what the capture states about the packet. Its time is the number of nanoseconds
-- from 2^63 seconds before 1970.
abbrev pub event_of : Protocol → VerdictKind → CaptureInfo → Event
event_of protocol verdict info = record {
  time = option_map nanoseconds_of info.time;
  len = counted_len info.len;
  transport = transport_of protocol;
  fault = fault_of verdict;
}
