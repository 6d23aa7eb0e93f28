-- MPLS label stacks (RFC 3032).
use Rattle.std.specs.Prelude.{ℕ, zero, suc, ◌+◌, ◌/◌, ◌%◌, ◌==◌, ◌||◌, ◌&&◌, Bool, nat_le, if◌then◌else◌, List, length, slice_index, Option, Some, None, Result, Ok, Err}
use Rattle.net_base.specs.Bytes.{flag}
use Rattle.capture_packet.specs.LinkHeaders.{cut_off, with_bytes}
use Rattle.capture_packet.specs.declared.link.LinkHeaderCutOff.{LinkHeaderCutOff}
use Rattle.capture_packet.specs.declared.link.header.LinkHeader.{LinkHeader}
use Rattle.capture_packet.specs.declared.network_protocol.NetworkProtocol.{NetworkProtocol}

-- A packet with this first byte is an IP packet. The byte contains version 4 and a header length of at least five words (RFC 791, section
-- 3.1), or version 6. The labels do not contain the number of the next protocol, so the first byte after the labels decides. A pseudowire
-- begins with other bytes (RFC 4928, section 3).
abbrev pub begins_ip : ℕ → Bool
begins_ip first = first / 16 == 4 && nat_le 5 (first % 16) || first / 16 == 6

-- The protocol after the last label. If an IP packet can have this first byte, this is `None`, which means IP. Otherwise it is `other`.
abbrev pub by_first_byte : NetworkProtocol → ℕ → Option NetworkProtocol
by_first_byte other first = if begins_ip first then None else Some other

-- the link header that ends with a label stack, at `place`; the first byte after the stack must be present
abbrev pub after_stack : List ℕ → NetworkProtocol → ℕ → Result LinkHeader LinkHeaderCutOff
after_stack frame other place = with_bytes frame (place + 1) (
    Ok (record { len = place; next = by_first_byte other (slice_index frame place); end = None }))

-- The header that ends with the label stack at this place, which has at most this number of labels. A label has four bytes. The lowest bit
-- of its third byte is 1 in the last label (section 2.1).
abbrev pub stack_within : ℕ → List ℕ → NetworkProtocol → ℕ → Result LinkHeader LinkHeaderCutOff
stack_within zero frame other place = Err (cut_off frame (place + 4))
stack_within (suc more) frame other place = with_bytes frame (place + 4) (
    if flag frame (place + 2) 0x01 then after_stack frame other (place + 4) else stack_within more frame other (place + 4))

-- The header that ends with the label stack at this place. If no IP packet follows the stack, the next protocol is `other`, whose number
-- precedes the stack. The limit is never reached, since the frame has more bytes than labels.
abbrev pub stack_at : List ℕ → NetworkProtocol → ℕ → Result LinkHeader LinkHeaderCutOff
stack_at frame other place = stack_within (length frame) frame other place
