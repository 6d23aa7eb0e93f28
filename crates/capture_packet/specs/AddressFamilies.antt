-- Headers with an address family.
use Rattle.std.specs.Prelude.{ℕ, ◌+◌, ◌==◌, ◌||◌, Bool, if◌then◌else◌, List, Option, Some, None, Result, Ok}
use Rattle.capture_numbers.specs.Numbers.{number_at}
use Rattle.capture_packet.specs.LinkHeaders.{with_bytes}
use Rattle.capture_numbers.specs.declared.byte_order.ByteOrder.{ByteOrder}
use Rattle.capture_numbers.specs.declared.byte_order.ByteOrder.TheVariants.{BigEndian, LittleEndian}
use Rattle.capture_packet.specs.declared.link.LinkHeaderCutOff.{LinkHeaderCutOff}
use Rattle.capture_packet.specs.declared.link.header.FirstHeader.{FirstHeader}
use Rattle.capture_packet.specs.declared.link.header.FirstHeader.TheVariants.{Whole}
use Rattle.capture_packet.specs.declared.network_protocol.NetworkProtocol.{NetworkProtocol}
use Rattle.capture_packet.specs.declared.network_protocol.NetworkProtocol.TheVariants.{AddressFamily}

-- this is an address family of IP: 2 is IPv4, and 24, 28 and 30 are IPv6 (LINKTYPE_NULL)
abbrev pub is_ip_family : ℕ → Bool
is_ip_family number = number == 2 || (number == 24 || (number == 28 || number == 30))

-- The next protocol according to the address family of a loopback frame. `None` is IP. The machine that captured the frame wrote the family
-- in its own byte order, so an IP family is accepted in either byte order. For any other family the number is read in the byte order
-- `order`.
abbrev pub by_family : ByteOrder → List ℕ → ℕ → Option NetworkProtocol
by_family order frame place =
    if is_ip_family (number_at BigEndian frame place) || is_ip_family (number_at LittleEndian frame place) then None
    else Some (AddressFamily (number_at order frame place))

-- the header of a loopback frame at this place: the address family, four bytes
abbrev pub family_at : ByteOrder → List ℕ → ℕ → Result FirstHeader LinkHeaderCutOff
family_at order frame place = with_bytes frame (place + 4) (
    Ok (Whole (record { len = place + 4; next = by_family order frame place; end = None })))
