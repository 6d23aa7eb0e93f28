-- The packets that the page chooses by a host and a port, as the options `--host` and `--port` of the program do.
use Rattle.std.specs.Prelude.{◌≡◌, ◌↔◌, ◌⊎◌, ℕ, ◌==◌, Bool, IsTrue, if◌then◌else◌, Option, Some, None}
use Rattle.std.specs.Prelude.{List, [], ◌∷◌, length, replicate, slice_index}
use Rattle.std.specs.Net.Addr.{segments_of}
use Rattle.std.specs.declared.net.ip_addr.IpAddr.{IpAddr}
use Rattle.std.specs.declared.net.ip_addr.IpAddr.TheVariants.{V4, V6}
use Rattle.capture_file.specs.CapturePackets.{FilePacket}
use Rattle.capture_file.specs.declared.reader.capture_reader.CaptureReader.{CaptureReader}
use Rattle.capture_packet.specs.declared.packet.Packet.{Packet}
use Rattle.capture_request.specs.Report.{IsPacketOf, packet_time}
use Rattle.capture_summary.specs.Choice.{IsChosen, every_packet}
use Rattle.capture_summary.specs.Networks.{single_address}
use Rattle.capture_summary.specs.declared.choice.Choice.{Choice}
use Rattle.capture_summary.specs.declared.choice.PortRange.{PortRange}
use Rattle.capture_summary.specs.declared.network.Network.{Network}
use Rattle.report_page.specs.Lines.{is_set}
use Rattle.report_page.specs.Pieces.{IsFirstPacket}
use Rattle.report_page.specs.declared.choice.PageChoice.{PageChoice}

-- The address with these octets. An IPv4 address has the first four octets. `None` for another IP version.
abbrev pub address_of : ℕ → List ℕ → Option IpAddr
address_of version octets =
    if version == 4
    then Some (V4 (record {
      octets = slice_index octets 0 ∷ slice_index octets 1 ∷ slice_index octets 2 ∷ slice_index octets 3 ∷ [];
    }))
    else if version == 6 then Some (V6 (record { segments = segments_of octets })) else None

-- a field of a choice that contains only this value: the other places are empty
abbrev pub only : {X : Type 0} → X → List (Option X)
only value = Some value ∷ replicate 15 None

-- the hosts that contain only this address, if there is an address
abbrev pub hosts_of : Option IpAddr → Option (List (Option Network))
hosts_of None = None
hosts_of (Some address) = Some (only (single_address address))

-- the ports that contain only the port of a choice, if it has a port
abbrev pub ports_of : PageChoice → Option (List (Option PortRange))
ports_of choice = if choice.has_port == 0 then None else Some (only (record { first = choice.port; last = choice.port }))

-- the choice of the program for a choice of the page
abbrev pub choice_of : PageChoice → Choice
choice_of choice = record every_packet {
  hosts = hosts_of (address_of choice.version choice.host);
  ports = ports_of choice;
  udp_tunnels = is_set choice.opens_udp_tunnels;
}

-- `chosen` states whether the first packet of a piece is chosen. The buffer for a packet has `room` bytes.
pub record ChoosesFirst (piece : List ℕ) (room : ℕ) (choice : PageChoice) (chosen : Bool) : Type 0 where
  pub buffer : List ℕ
  pub has_room : length buffer ≡ room
  pub reader : CaptureReader
  pub captured : FilePacket
  pub is_first : IsFirstPacket piece buffer reader captured
  pub packet : Packet
  pub is_packet : IsPacketOf (is_set choice.opens_udp_tunnels) captured packet
  pub chooses : IsTrue chosen ↔ IsChosen (choice_of choice) packet (packet_time captured)

-- a truth value as a number
abbrev pub answer_of : Bool → ℕ
answer_of chosen = if chosen then 1 else 0

-- a call stated whether the first packet of a piece is chosen, or it returned 2
abbrev pub AnswersFirst : List ℕ → ℕ → PageChoice → ℕ → Type 0
AnswersFirst piece room choice answer =
    ((chosen : Bool) × ChoosesFirst piece room choice chosen × (answer ≡ answer_of chosen)) ⊎ (answer ≡ 2)
