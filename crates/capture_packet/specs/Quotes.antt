-- The packet that an ICMP error quotes: its addresses, its protocol, and its ports.
use Rattle.std.specs.Prelude.{ℕ, Bool, List, drop, Option, Some, None, option_and_then, Result, Ok, Err}
use Rattle.ip_part.specs.Addresses as addresses
use Rattle.ip_part.specs.Addresses.{Addresses}
use Rattle.ip_part.specs.Headers.{Headers}
use Rattle.ip_part.specs.Ip.{counted, headers_of, lacks_len, lax_refusal}
use Rattle.ip_part.specs.Protocols.{proto_over}
use Rattle.ip_part.specs.declared.ip_error.IpError.{IpError}
use Rattle.ip_part.specs.declared.proto.Proto.{Proto}
use Rattle.ip_part.specs.declared.transport.TransportInIp.{TransportInIp}
use Rattle.transport_part.specs.Transports as transport_slices
use Rattle.capture_packet.specs.Contents.{ports_at}
use Rattle.capture_packet.specs.declared.quoted_packet.QuotedPacket.{QuotedPacket}
use Rattle.capture_packet.specs.declared.transport.Transport.{Transport}
use Rattle.capture_packet.specs.declared.transport.Transport.TheVariants.{Ports, Read, Unread}

-- a quoted packet: its addresses, its protocol by number and by name, and its ports
pub record Quoted : Type 0 where
  pub addresses : Addresses
  pub protocol : ℕ
  pub proto : Option Proto
  pub ports : Option (ℕ × ℕ)

-- the value of a quoted packet; where its bytes are stored does not matter
abbrev pub by_value : QuotedPacket → Quoted
by_value packet =
    record { addresses = addresses.by_value packet.addresses; protocol = packet.protocol.0; proto = packet.proto; ports = packet.ports }

-- the quoted packet with these addresses and this protocol number; `bytes` follow its IP headers
abbrev pub quoted_with : Addresses → ℕ → Bool → List ℕ → Quoted
quoted_with between number is_later_fragment bytes = record {
  addresses = between;
  protocol = number;
  proto = proto_over between number;
  ports = ports_at is_later_fragment (proto_over between number) bytes;
}

-- the quoted packet whose headers and payload are in `found`
abbrev pub quoted_by : TransportInIp → Quoted
quoted_by found = quoted_with (addresses.by_value found.addresses) found.protocol.0 found.is_later_fragment found.payload.now

-- The quoted packet with these IP headers. `None` if the headers are refused. `bytes` are the bytes that the IP header counts.
abbrev pub quoted_after : Result Headers IpError → List ℕ → Option Quoted
quoted_after (Err error) bytes = None
quoted_after (Ok headers) bytes =
    Some (quoted_with headers.addresses headers.protocol.0 headers.is_later_fragment (drop headers.len bytes))

-- The quoted packet with these IP headers. `None` if this error refuses the packet, or if the headers are refused. `bytes` are the bytes
-- that the IP header counts.
abbrev pub quoted_unless : Option IpError → Result Headers IpError → List ℕ → Option Quoted
quoted_unless (Some error) headers bytes = None
quoted_unless None headers bytes = quoted_after headers bytes

-- The quoted packet at the front of these bytes. It may be cut off or state no length, like a packet of a capture. `None` if its IP headers
-- are refused or cut off.
abbrev pub quoted_at : List ℕ → Option Quoted
quoted_at bytes = quoted_unless (lax_refusal bytes) (headers_of (lacks_len bytes) bytes) (counted (lacks_len bytes) bytes)

-- The packet that an ICMP error quotes (RFC 792; RFC 4443, section 3; RFC 4884, section 4). `None` for any other transport, or if the IP
-- headers of the quoted packet are refused or cut off.
abbrev pub quoted_in : Transport → Option Quoted
quoted_in (Read transport) = option_and_then quoted_at (transport_slices.quoted_by transport)
quoted_in (Ports source destination payload) = None
quoted_in (Unread payload) = None
