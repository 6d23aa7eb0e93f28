-- ARP packets (RFC 826).
use Rattle.std.specs.Prelude.{ℕ, ◌+◌, ◌*◌, ◌==◌, ◌&&◌, Bool, true, false, nat_lt, if◌then◌else◌, List, length, slice_index, slice_range, Option, Some, None}
use Rattle.net_base.specs.Bytes.{be_number}
use Rattle.capture_packet.specs.declared.network_protocol.NetworkProtocol.{NetworkProtocol}
use Rattle.capture_packet.specs.declared.network_protocol.NetworkProtocol.TheVariants.{EtherType}
use Rattle.capture_packet.specs.declared.arp.Arp.{Arp}
use Rattle.capture_packet.specs.declared.arp.Arp.TheVariants.{Addresses, CutOff, Operation}
use Rattle.capture_packet.specs.declared.arp.ArpAddresses.{ArpAddresses}

-- the ether type of ARP
abbrev pub arp_ether_type : ℕ
arp_ether_type = 0x0806

-- the operation, bytes 6 and 7: 1 is a request, and 2 is a reply
abbrev pub operation : List ℕ → ℕ
operation bytes = be_number bytes 6 2

-- the length of a packet: eight bytes, and two addresses of each kind, whose lengths are bytes 4 and 5
abbrev pub packet_len : List ℕ → ℕ
packet_len bytes = 8 + 2 * (slice_index bytes 4 + slice_index bytes 5)

-- The packet is about IPv4 addresses in a network such as Ethernet. The hardware type is 1 with addresses of 6 bytes, and the protocol type
-- is the ether type 0800 with addresses of 4 bytes.
abbrev pub is_ipv4_over_ethernet : List ℕ → Bool
is_ipv4_over_ethernet bytes =
    be_number bytes 0 2 == 1 && (be_number bytes 2 2 == 0x0800 && (slice_index bytes 4 == 6 && slice_index bytes 5 == 4))

-- the addresses of a packet about IPv4 addresses: of the sender and then of the target, each the hardware address and then the IPv4 address
abbrev pub addresses_in : List ℕ → ArpAddresses
addresses_in bytes = record {
  sender_hardware = slice_range bytes 8 14;
  sender = slice_range bytes 14 18;
  target_hardware = slice_range bytes 18 24;
  target = slice_range bytes 24 28;
}

-- The ARP packet at the front of these bytes. It is cut off if fewer bytes are present than its fields have.
abbrev pub arp_packet : List ℕ → Arp
arp_packet bytes =
    if nat_lt (length bytes) 8 then CutOff
    else if nat_lt (length bytes) (packet_len bytes) then Operation (operation bytes) true
    else if is_ipv4_over_ethernet bytes then Addresses (operation bytes) (addresses_in bytes)
    else Operation (operation bytes) false

-- the ARP packet in a frame of this protocol; these bytes follow the link header
abbrev pub arp_of : NetworkProtocol → List ℕ → Option Arp
arp_of (EtherType number) bytes = if number == arp_ether_type then Some (arp_packet bytes) else None
arp_of protocol bytes = None
