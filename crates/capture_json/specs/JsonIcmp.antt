-- The fields of ICMP messages as JSON members (RFC 792, RFC 4443).
use Rattle.std.specs.Prelude.{ℕ, ◌==◌, if◌then◌else◌, List, [], ◌∷◌, ◌++◌, codes, Option, None, Some}
use Rattle.std.specs.Net.Addr.{segments_of}
use Rattle.std.specs.Net.Text.{ipv4_text, ipv6_text}
use Rattle.net_base.specs.Bytes.{be_number}
use Rattle.capture_json.specs.Members.{Member, whole_number}
use Rattle.capture_words.specs.HardwareAddress.{hardware_address_text}
use Rattle.capture_words.specs.Icmpv4Text.{mtu_of, pointer_of}
use Rattle.capture_words.specs.declared.icmpv6_fields.Icmpv6Fields.{Icmpv6Fields}
use Rattle.icmp_part.specs.declared.icmpv4_type.Icmpv4Type.{Icmpv4Type}
use Rattle.icmp_part.specs.declared.icmpv4_type.Icmpv4Type.TheVariants as icmpv4
use Rattle.icmp_part.specs.declared.icmpv6_type.Icmpv6Type.{Icmpv6Type}
use Rattle.icmp_part.specs.declared.icmpv6_type.Icmpv6Type.TheVariants as icmpv6
use Rattle.serde_json.specs.Data.{string}

-- the identifier and the sequence number of a request or a reply
abbrev pub echo_fields : ℕ → ℕ → List Member
echo_fields identifier sequence = (codes "identifier", whole_number identifier) ∷ (codes "sequence", whole_number sequence) ∷ []

-- a member with a number, or no member if the message does not contain the number
abbrev pub optional_number : List ℕ → Option ℕ → List Member
optional_number name None = []
optional_number name (Some value) = (name, whole_number value) ∷ []

-- the fields of an ICMPv4 message
abbrev pub icmpv4_fields : Icmpv4Type → List Member
icmpv4_fields (icmpv4.Unknown type code bytes) = []
icmpv4_fields (icmpv4.EchoReply echo) = echo_fields echo.id echo.seq
icmpv4_fields (icmpv4.DestinationUnreachable header) = optional_number (codes "mtu") (mtu_of header)
icmpv4_fields (icmpv4.Redirect header) = (codes "gateway", string (ipv4_text header.gateway_internet_address)) ∷ []
icmpv4_fields (icmpv4.EchoRequest echo) = echo_fields echo.id echo.seq
icmpv4_fields (icmpv4.TimeExceeded code) = []
icmpv4_fields (icmpv4.ParameterProblem header) = optional_number (codes "pointer") (pointer_of header)
icmpv4_fields (icmpv4.TimestampRequest times) = echo_fields times.id times.seq
icmpv4_fields (icmpv4.TimestampReply times) = echo_fields times.id times.seq

-- The number in bytes 5 to 8 of a message about multicast listeners: the maximum response code of a query, or the number of records in a
-- version 2 report (RFC 3810, section 5). Any other message that is not read has no members.
abbrev pub listener_fields : ℕ → List ℕ → List Member
listener_fields type bytes =
    if type == 130 then (codes "maximum_response_code", whole_number (be_number bytes 0 2)) ∷ []
    else if type == 143 then (codes "records", whole_number (be_number bytes 2 2)) ∷ []
    else []

-- the fields in the first eight bytes of an ICMPv6 message
abbrev pub icmpv6_fields : Icmpv6Type → List Member
icmpv6_fields (icmpv6.Unknown type code bytes) = listener_fields type bytes
icmpv6_fields (icmpv6.DestinationUnreachable code) = []
icmpv6_fields (icmpv6.PacketTooBig mtu) = (codes "mtu", whole_number mtu) ∷ []
icmpv6_fields (icmpv6.TimeExceeded code) = []
icmpv6_fields (icmpv6.ParameterProblem header) = (codes "pointer", whole_number header.pointer) ∷ []
icmpv6_fields (icmpv6.EchoRequest echo) = echo_fields echo.id echo.seq
icmpv6_fields (icmpv6.EchoReply echo) = echo_fields echo.id echo.seq
icmpv6_fields icmpv6.RouterSolicitation = []
icmpv6_fields (icmpv6.RouterAdvertisement router) = []
icmpv6_fields icmpv6.NeighborSolicitation = []
icmpv6_fields (icmpv6.NeighborAdvertisement neighbor) = []
icmpv6_fields icmpv6.Redirect = []

-- a member with an IPv6 address in the format of RFC 5952, or no member if the message does not contain the address
abbrev pub optional_address : List ℕ → Option (List ℕ) → List Member
optional_address name None = []
optional_address name (Some address) = (name, string (ipv6_text (segments_of address))) ∷ []

-- a link-layer address, or no member if the message does not contain one
abbrev pub optional_link_layer_address : Option (List ℕ) → List Member
optional_link_layer_address None = []
optional_link_layer_address (Some address) = (codes "link_layer_address", string (hardware_address_text address)) ∷ []

-- the fields of an ICMPv6 message after its first eight bytes
abbrev pub further_fields : Icmpv6Fields → List Member
further_fields fields =
    optional_address (codes "target") fields.target
    ++ (optional_address (codes "destination") fields.destination
    ++ (optional_address (codes "group") fields.group ++ optional_link_layer_address fields.link_layer_address))
