-- The first header of a frame.
use Rattle.std.specs.Prelude.{ℕ, ◌+◌, ◌^◌, ◌≤◌, nat_lt, if◌then◌else◌, List, length, Option, Some, None, Result, Err}
use Rattle.capture_packet.specs.declared.link.LinkHeaderCutOff.{LinkHeaderCutOff}
use Rattle.capture_packet.specs.declared.link.header.FirstHeader.{FirstHeader}
use Rattle.capture_packet.specs.declared.link.header.FirstHeader.TheVariants.{EtherType, Whole}
use Rattle.capture_packet.specs.declared.link.header.LinkHeader.{LinkHeader}
use Rattle.capture_packet.specs.declared.network_protocol.NetworkProtocol.TheVariants.{LinkType}

-- the error for a frame that is shorter than its header, whose length is `required_len`
abbrev pub cut_off : List ℕ → ℕ → LinkHeaderCutOff
cut_off frame required_len = record { required_len = required_len; len = length frame }

-- this result if the frame has at least `required_len` bytes, otherwise the error that the frame is too short
abbrev pub with_bytes : {A : Type 0} → List ℕ → ℕ → Result A LinkHeaderCutOff → Result A LinkHeaderCutOff
with_bytes frame required_len says = if nat_lt (length frame) required_len then Err (cut_off frame required_len) else says

-- the end of the bytes after the link header: the end that the header states, or otherwise the end of the frame
abbrev pub end_in : List ℕ → Option ℕ → ℕ
end_in frame None = length frame
end_in frame (Some end) = end

-- the frame contains the whole header, and all bytes after the header up to the end that `end_in` returns
abbrev pub IsHeaderWithin : List ℕ → LinkHeader → Type 0
IsHeaderWithin frame header = (header.len ≤ end_in frame header.end) × (end_in frame header.end ≤ length frame)

-- A header that is `Whole` is within the frame. In a header with an ether type, the ether type is within the header, but the frame may be
-- shorter than this header.
abbrev pub Fits : List ℕ → FirstHeader → Type 0
Fits frame (Whole header) = IsHeaderWithin frame header
Fits frame (EtherType header) = header.ether_type_at + 2 ≤ header.len

-- A link header that is not read, so that the protocol after it is unknown. The number of a link type stands for this protocol. `len` is
-- the number of bytes that were examined.
abbrev pub unread : ℕ → ℕ → FirstHeader
unread len number = Whole (record { len = len; next = Some (LinkType number); end = None })

-- the length of the first header, excluding VLAN tags and headers after them
abbrev pub first_len : FirstHeader → ℕ
first_len (Whole header) = header.len
first_len (EtherType header) = header.len

-- The greatest place at which an inner frame can begin. The header before the frame states its own length in a field of at most 32 bits.
abbrev pub max_frame_place : ℕ
max_frame_place = 2 ^ 32
