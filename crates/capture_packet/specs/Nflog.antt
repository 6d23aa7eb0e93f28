-- Packets that the packet filter of Linux logged (LINKTYPE_NFLOG, in the registry of link types of tcpdump.org).
use Rattle.std.specs.Prelude.{ℕ, zero, suc, ◌+◌, ◌≤◌, ◌==◌, ◌||◌, Bool, nat_le, nat_lt, if◌then◌else◌, List, length, slice_index, Option, Some, None, Result, Ok, Err}
use Rattle.capture_numbers.specs.LinkTypes.{nflog_number}
use Rattle.capture_numbers.specs.Numbers.{short_at}
use Rattle.capture_packet.specs.LinkHeaders.{Fits, unread, with_bytes}
use Rattle.capture_packet.specs.Metadata.{family_protocol, padded}
use Rattle.capture_numbers.specs.declared.byte_order.ByteOrder.{ByteOrder}
use Rattle.capture_numbers.specs.declared.byte_order.ByteOrder.TheVariants.{BigEndian, LittleEndian}
use Rattle.capture_packet.specs.declared.link.LinkHeaderCutOff.{LinkHeaderCutOff}
use Rattle.capture_packet.specs.declared.link.header.FirstHeader.{FirstHeader}
use Rattle.capture_packet.specs.declared.link.header.FirstHeader.TheVariants.{Whole}
use Rattle.capture_packet.specs.declared.link.nflog.Attribute.{Attribute}
use Rattle.capture_packet.specs.declared.link.nflog.Attribute.TheVariants.{Last, Other}

-- the place of the first attribute, after the address family, the version and the number of the group
abbrev pub attributes_at : ℕ
attributes_at = 4

-- the length of the first fields of an attribute: its length and its type, in two bytes each
abbrev pub attribute_fields_len : ℕ
attribute_fields_len = 4

-- the length of the shortest header, which ends after the fields of its first attribute
abbrev pub shortest_len : ℕ
shortest_len = attributes_at + attribute_fields_len

-- the type of the attribute with the packet
abbrev pub payload_type : ℕ
payload_type = 9

-- the address family of IPv4 on Linux
abbrev pub linux_ipv4 : ℕ
linux_ipv4 = 2

-- the address family of IPv6 on Linux
abbrev pub linux_ipv6 : ℕ
linux_ipv6 = 10

-- this is an address family of IP on Linux
abbrev pub is_linux_ip : ℕ → Bool
is_linux_ip family = family == linux_ipv4 || family == linux_ipv6

-- a header that is not read; its bytes up to this place were examined
abbrev pub unread_log : ℕ → FirstHeader
unread_log place = unread place nflog_number

-- The byte order of the attributes, which is the byte order of the machine that logged the packet. Bytes 6 and 7 are the type of the first
-- attribute, which is above 0 and below 256. So one of these bytes is 0, and this byte is the most significant one. `None` if both bytes
-- are 0 or neither is.
abbrev pub attribute_order : List ℕ → Option ByteOrder
attribute_order frame =
    if slice_index frame 6 == 0 then (if slice_index frame 7 == 0 then None else Some BigEndian)
    else (if slice_index frame 7 == 0 then Some LittleEndian else None)

-- the end of a packet; `None` if the frame is shorter, so that the packet ends with the frame
abbrev pub end_within : List ℕ → ℕ → Option ℕ
end_within frame end = if nat_le end (length frame) then Some end else None

-- The header from the start of the frame to the packet. The attribute at `place` contains the packet, after its length and its type. `len`
-- is the length of this attribute. Byte 0 of the frame is the address family.
abbrev pub payload_at : List ℕ → ℕ → ℕ → FirstHeader
payload_at frame place len = Whole (record {
  len = place + attribute_fields_len;
  next = family_protocol (slice_index frame 0) (is_linux_ip (slice_index frame 0));
  end = end_within frame (place + len);
})

-- The result of reading the attribute at this place. An attribute consists of its length, its type and a value. The length counts these
-- three parts, but not the padding to a multiple of four. If the length is below 4, the header is not read.
abbrev pub attribute_at : ByteOrder → List ℕ → ℕ → Result Attribute LinkHeaderCutOff
attribute_at order frame place = with_bytes frame (place + attribute_fields_len) (
    if nat_lt (short_at order frame place) attribute_fields_len then Ok (Last (unread_log (place + attribute_fields_len)))
    else if short_at order frame (place + 2) == payload_type then Ok (Last (payload_at frame place (short_at order frame place)))
    else with_bytes frame (place + padded (short_at order frame place)) (Ok (Other (place + padded (short_at order frame place)))))

-- The header, after this attribute was read. If this is not the last attribute, `next` returns the header for the place of the next
-- attribute.
abbrev pub after_attribute : (ℕ → Result FirstHeader LinkHeaderCutOff) → Result Attribute LinkHeaderCutOff
    → Result FirstHeader LinkHeaderCutOff
after_attribute next (Ok (Last header)) = Ok header
after_attribute next (Ok (Other end)) = next end
after_attribute next (Err error) = Err error

-- The header whose attributes continue at this place. At most this number of attributes is read. If no attribute contains a packet, the
-- header is not read.
abbrev pub attributes_within : ℕ → ByteOrder → List ℕ → ℕ → Result FirstHeader LinkHeaderCutOff
attributes_within zero order frame place = Ok (unread_log place)
attributes_within (suc more) order frame place =
    if nat_lt place (length frame) then after_attribute (λ next. attributes_within more order frame next) (attribute_at order frame place)
    else Ok (unread_log place)

-- The header with all its attributes. The limit is never reached, since the frame has more bytes than attributes.
abbrev pub attributes : ByteOrder → List ℕ → Result FirstHeader LinkHeaderCutOff
attributes order frame = attributes_within (length frame) order frame attributes_at

-- the header with attributes in this byte order; if the byte order is unknown, the header is not read
abbrev pub by_order : List ℕ → Option ByteOrder → Result FirstHeader LinkHeaderCutOff
by_order frame None = Ok (unread_log shortest_len)
by_order frame (Some order) = attributes order frame

-- A header begins with an address family, version 0, and two bytes with the number of a group of logged packets. Attributes follow. If the
-- version is not 0, the header is not read.
abbrev pub log_header : List ℕ → Result FirstHeader LinkHeaderCutOff
log_header frame = with_bytes frame shortest_len (
    if slice_index frame 1 == 0 then by_order frame (attribute_order frame) else Ok (unread_log shortest_len))

-- the frame contains the attribute at this place; if this is the last attribute, the frame contains the whole header
abbrev pub IsWithin : List ℕ → ℕ → Attribute → Type 0
IsWithin frame place (Last header) = Fits frame header
IsWithin frame place (Other end) = (place + attribute_fields_len ≤ end) × (end ≤ length frame)
