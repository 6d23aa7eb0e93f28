-- The fields of an ICMPv6 message after its first eight bytes: of neighbor discovery (RFC 4861, section 4), and of the messages about
-- multicast listeners (RFC 2710, section 3; RFC 3810, section 5).
use Rattle.std.specs.Prelude.{ℕ, zero, suc, ◌+◌, ◌*◌, ◌==◌, ◌&&◌, ◌||◌, Bool, nat_le, nat_lt, if◌then◌else◌, List, [], ◌++◌, length, drop, slice_index, slice_range, codes, Option, Some, None}
use Rattle.std.specs.Net.Addr.{segments_of}
use Rattle.std.specs.Net.Text.{ipv6_text}
use Rattle.icmp_part.specs.Icmpv6Format.{icmp_type_of}
use Rattle.icmp_part.specs.declared.icmpv6_type.Icmpv6Type.{Icmpv6Type}
use Rattle.icmp_part.specs.declared.icmpv6_type.Icmpv6Type.TheVariants.{RouterSolicitation, RouterAdvertisement, NeighborSolicitation, NeighborAdvertisement, Redirect}
use Rattle.capture_words.specs.HardwareAddress.{hardware_address_text}
use Rattle.capture_words.specs.declared.icmpv6_fields.Icmpv6Fields.{Icmpv6Fields}

-- ---- the fields

-- the IPv6 address of 16 bytes at this place, if the message contains it
abbrev pub address_at : ℕ → List ℕ → Option (List ℕ)
address_at place message = if nat_le (place + 16) (length message) then Some (slice_range message place (place + 16)) else None

-- the target of a neighbor solicitation, a neighbor advertisement or a redirect: bytes 8 to 23 (RFC 4861, sections 4.3 to 4.5)
abbrev pub target_in : Icmpv6Type → List ℕ → Option (List ℕ)
target_in NeighborSolicitation message = address_at 8 message
target_in (NeighborAdvertisement neighbor) message = address_at 8 message
target_in Redirect message = address_at 8 message
target_in type message = None

-- the destination that a redirect is about: bytes 24 to 39 (RFC 4861, section 4.5)
abbrev pub destination_in : Icmpv6Type → List ℕ → Option (List ℕ)
destination_in Redirect message = address_at 24 message
destination_in type message = None

-- this is the type of a message with a multicast address: a query (130), a report (131) or a message that a listener is done (132)
abbrev pub has_group : ℕ → Bool
has_group type = type == 130 || (type == 131 || type == 132)

-- the multicast address of a message about listeners: bytes 8 to 23 (RFC 2710, section 3; RFC 3810, section 5.1)
abbrev pub group_in : List ℕ → Option (List ℕ)
group_in message = if has_group (slice_index message 0) then address_at 8 message else None

-- the place of the options in a message of neighbor discovery (RFC 4861, sections 4.1 to 4.5)
abbrev pub options_at : Icmpv6Type → Option ℕ
options_at RouterSolicitation = Some 8
options_at (RouterAdvertisement router) = Some 16
options_at NeighborSolicitation = Some 24
options_at (NeighborAdvertisement neighbor) = Some 24
options_at Redirect = Some 40
options_at type = None

-- The option at the front of these bytes is a link-layer address of six bytes: of the source (type 1) or of the target (type 2), with a
-- length of one unit of eight bytes (RFC 4861, section 4.6.1; RFC 2464, section 6).
abbrev pub is_link_layer_address : List ℕ → Bool
is_link_layer_address options = (slice_index options 0 == 1 || slice_index options 0 == 2) && slice_index options 1 == 1

-- The first link-layer address of six bytes in these options. Byte 1 of an option is its length in units of eight bytes, and an option of
-- length 0 ends the reading (RFC 4861, section 4.6). The first argument limits the number of options.
unfoldable pub link_layer_address_from : ℕ → List ℕ → Option (List ℕ)
link_layer_address_from zero options = None
link_layer_address_from (suc more) options =
    if nat_lt (length options) 8 then None
    else if is_link_layer_address options then Some (slice_range options 2 8)
    else if slice_index options 1 == 0 then None
    else link_layer_address_from more (drop (slice_index options 1 * 8) options)

-- the first link-layer address in these options; each option has at least eight bytes, so the limit is never reached
abbrev pub link_layer_address_in : List ℕ → Option (List ℕ)
link_layer_address_in options = link_layer_address_from (suc (length options)) options

-- the link-layer address in the options of a message, which begin at this place; `None` if the message ends before its options
abbrev pub link_layer_address_at : Option ℕ → List ℕ → Option (List ℕ)
link_layer_address_at None message = None
link_layer_address_at (Some place) message =
    if nat_lt (length message) place then None else link_layer_address_in (drop place message)

-- the fields of a message
abbrev pub fields_of : List ℕ → Icmpv6Fields
fields_of message = record {
  target = target_in (icmp_type_of message) message;
  destination = destination_in (icmp_type_of message) message;
  group = group_in message;
  link_layer_address = link_layer_address_at (options_at (icmp_type_of message)) message;
}

-- ---- the text

-- a comma, a name, and an IPv6 address in the format of RFC 5952; the text is empty if there is no address
abbrev pub address_text : List ℕ → Option (List ℕ) → List ℕ
address_text name None = []
address_text name (Some address) = codes ", " ++ (name ++ (codes " " ++ ipv6_text (segments_of address)))

-- a link-layer address; the text is empty if there is none
abbrev pub link_layer_text : Option (List ℕ) → List ℕ
link_layer_text None = []
link_layer_text (Some address) = codes ", link-layer address " ++ hardware_address_text address

-- the fields that a message has
abbrev pub fields_text : Icmpv6Fields → List ℕ
fields_text fields =
    address_text (codes "target") fields.target
    ++ (address_text (codes "destination") fields.destination
    ++ (address_text (codes "group") fields.group ++ link_layer_text fields.link_layer_address))
