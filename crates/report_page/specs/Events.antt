-- A packet as the timeline of the summary counts it, in numbers that cross to the page.
use Rattle.std.specs.Prelude.{ℕ, ◌+◌, ◌*◌, ◌^◌, ◌==◌, Option, Some, None, if◌then◌else◌}
use Rattle.timeline.specs.declared.event.Event.{Event}
use Rattle.timeline.specs.declared.event.Fault.{Fault}
use Rattle.timeline.specs.declared.event.Fault.TheVariants as faults
use Rattle.timeline.specs.declared.event.Transport.{Transport}
use Rattle.timeline.specs.declared.event.Transport.TheVariants as transports
use Rattle.report_page.specs.declared.event.PageEvent.{PageEvent}

-- the transport protocol with this number
abbrev pub transport_in : ℕ → Transport
transport_in number =
    if number == 0 then transports.Udp
    else if number == 1 then transports.Tcp else if number == 2 then transports.Icmp else transports.Other

-- the fault with this number
abbrev pub fault_in : ℕ → Option Fault
fault_in number = if number == 1 then Some faults.Wrong else if number == 2 then Some faults.Refused else None

-- the time that these numbers state
abbrev pub time_in : PageEvent → Option ℕ
time_in event = if event.has_time == 0 then None else Some (event.time_high * 2 ^ 64 + event.time_low)

-- the packet that these numbers state
abbrev pub event_in : PageEvent → Event
event_in event = record {
  time = time_in event;
  len = event.len;
  transport = transport_in event.transport;
  fault = fault_in event.fault;
}

-- the numbers before anything is known about a packet
abbrev pub no_event : PageEvent
no_event = record { time_low = 0; time_high = 0; has_time = 0; transport = 0; fault = 0; len = 0 }
