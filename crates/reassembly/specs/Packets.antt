-- A packet that is put together from its fragments (RFC 791, section 3.2; RFC 8200, section 4.5): its headers, its payload, and the places
-- of both in the lent buffer.
use Rattle.std.specs.Prelude.{◌≡◌, ◌≤◌, ◌<◌, ℕ, ◌-◌, ◌==◌, nat_le, not, if◌then◌else◌, List, [], ◌++◌, length, take, drop, Option, Some, None, unwrap_or}
use Rattle.reassembly.specs.Fragments.{FragmentValue}
use Rattle.reassembly.specs.Parts.{AreKept}
use Rattle.reassembly.specs.Pieces.{is_among}
use Rattle.reassembly.specs.Reassembly as payloads
use Rattle.reassembly.specs.Reassembly.{IsComplete, IsPayload, State, piece_of}
use Rattle.reassembly.specs.WholeHeaders.{HasWholeHeader, whole_header}
use Rattle.reassembly.specs.declared.fragment_key.FragmentKey.{FragmentKey}
use Rattle.reassembly.specs.declared.fragment_key.FragmentKey.TheVariants.{Ipv4, Ipv6}
use Rattle.reassembly.specs.declared.part.Part.{Part}

-- What is known about the packet: the length of the lent buffer, the headers before the payload of the first fragment, and the payload.
-- There are no headers if the first fragment did not arrive, or if its headers are longer than the room for headers.
pub record PacketState : Type 0 where
  pub len : ℕ
  pub header : List ℕ
  pub payload : State

-- The number of bytes for headers at the front of the lent buffer. The longest IPv4 header has 60 bytes (RFC 791, section 3.1). The length
-- of the headers before an IPv6 fragment header is not limited. 256 bytes hold the IPv6 header and 208 bytes of extension headers before
-- the fragment header.
abbrev pub header_room : FragmentKey → ℕ
header_room (Ipv4 source destination protocol identification) = 60
header_room (Ipv6 source destination identification) = 256

-- the state before the first fragment; the buffer has this length
abbrev pub empty : FragmentKey → ℕ → PacketState
empty key len = record { len = len; header = []; payload = payloads.empty key (len - header_room key) }

-- The stored headers after this fragment. The first fragment replaces them by its own headers, or by none if its headers are longer than
-- `room`. Any other fragment changes nothing.
abbrev pub header_of : List ℕ → ℕ → FragmentValue → List ℕ
header_of header room fragment =
    if not (fragment.offset == 0) then header
    else if nat_le (length fragment.header) room then fragment.header
    else []

-- the stored headers after an accepted fragment; a fragment that repeats another fragment changes nothing
abbrev pub header_with : PacketState → FragmentValue → List ℕ
header_with state fragment =
    if is_among state.payload.pieces (piece_of fragment) then state.header
    else header_of state.header (header_room state.payload.key) fragment

-- the state after this fragment was accepted
abbrev pub with_fragment : PacketState → FragmentValue → PacketState
with_fragment state fragment =
    record { len = state.len; header = header_with state fragment; payload = payloads.with_fragment state.payload fragment }

-- ---- the packet

-- the payload is complete, and a whole packet has room for the headers of the first fragment and for the payload
abbrev pub HasPacket : PacketState → Type 0
HasPacket state = IsComplete state.payload × HasWholeHeader state.header (unwrap_or state.payload.end 0)

-- this is the whole packet, as if it was never fragmented: its headers, and its payload
abbrev pub IsPacket : PacketState → List ℕ → Type 0
IsPacket state packet =
    (payload : List ℕ) × IsPayload state.payload payload × (packet ≡ whole_header state.header (length payload) ++ payload)

-- ---- the buffer

-- the headers of the whole packet were written, and begin at this place; they end where the room for headers ends
pub record HasFront (room : ℕ) (buffer header : List ℕ) (end : Option ℕ) (received start : ℕ) : Type 0 where
  pub is_complete : end ≡ Some received
  pub within : start ≤ room
  pub has : HasWholeHeader header received
  pub bytes : take (room - start) (drop start buffer) ≡ whole_header header received

-- The headers of the whole packet were written, and begin at this place. `None` if they were not written, since the payload is not complete
-- or there are no headers for the whole packet.
abbrev pub IsFront : ℕ → List ℕ → List ℕ → Option ℕ → ℕ → Option ℕ → Type 0
IsFront room buffer header end received None = end ≡ Some received → HasWholeHeader header received → ⊥
IsFront room buffer header end received (Some start) = HasFront room buffer header end received start

-- what is always true of the buffer and of the other fields of a reassembly
pub record IsKept (key : FragmentKey) (buffer : List ℕ) (parts : List Part) (received : ℕ) (end : Option ℕ) (header : List ℕ) (start : Option ℕ) : Type 0 where
  pub payload : AreKept (drop (header_room key) buffer) parts received end
  pub some : (len : ℕ) → end ≡ Some len → 0 < len
  pub fits : length header ≤ header_room key
  pub front : IsFront (header_room key) buffer header end received start
