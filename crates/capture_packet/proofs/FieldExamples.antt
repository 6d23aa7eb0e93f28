-- Worked examples of the fields of fragments and of ARP packets, so that a wrong definition fails before any code does.
use Rattle.std.proofs.Common.{◌≡◌, ℕ, true, false, List, [], ◌∷◌, ◌++◌, None, Some, refl, replicate}
use Rattle.reassembly.specs.Fragments.{fragment_header_from}
use Rattle.capture_packet.specs.declared.network_protocol.NetworkProtocol.TheVariants.{EtherType}
use Rattle.capture_packet.specs.ArpPackets.{arp_of}
use Rattle.capture_packet.specs.FragmentFields.{fragment_fields}
use Rattle.capture_packet.specs.declared.arp.Arp.TheVariants.{Addresses, CutOff, Operation}
use Rattle.capture_packet.specs.declared.fragment_fields.Identification.TheVariants.{Ipv4, Ipv6}

-- ---- fragments

-- an IPv4 header with these flags and this offset
ipv4_header : ℕ → ℕ → List ℕ
ipv4_header flags offset = 0x45 ∷ 0 ∷ 0 ∷ 21 ∷ 0x1A ∷ 0x2B ∷ flags ∷ offset ∷ 64 ∷ 17 ∷ replicate 10 0

-- the second of more than two fragments, each with 1,480 bytes of the payload
second : fragment_fields (ipv4_header 0x20 0xB9) ≡ Some (record { identification = Ipv4 0x1A2B; offset = 1480; more_fragments = true })
unfolding ipv4_header
second = refl

last : fragment_fields (ipv4_header 0x1F 0xFF) ≡ Some (record { identification = Ipv4 0x1A2B; offset = 65528; more_fragments = false })
unfolding ipv4_header
last = refl

-- a packet that must not be fragmented (the bit 0x40), and is whole
whole : fragment_fields (ipv4_header 0x40 0) ≡ None
unfolding ipv4_header
whole = refl

-- an IPv6 packet whose only extension header is a fragment header with these bytes 2 and 3
ipv6_packet : ℕ → ℕ → List ℕ
ipv6_packet high low =
    0x60 ∷ 0 ∷ 0 ∷ 0 ∷ 0 ∷ 8 ∷ 44 ∷ 64 ∷ (replicate 32 0 ++ 17 ∷ 0 ∷ high ∷ low ∷ 0xA1 ∷ 0xB2 ∷ 0xC3 ∷ 0xD4 ∷ [])

over_ipv6 : fragment_fields (ipv6_packet 5 0xC9) ≡ Some (record { identification = Ipv6 0xA1B2C3D4; offset = 1480; more_fragments = true })
unfolding ipv6_packet fragment_header_from
over_ipv6 = refl

-- an atomic fragment (RFC 6946)
atomic : fragment_fields (ipv6_packet 0 0) ≡ None
unfolding ipv6_packet fragment_header_from
atomic = refl

-- ---- ARP packets

-- a request from 192.0.2.7 for the hardware address of 192.0.2.1 (RFC 826)
request : List ℕ
request =
    0 ∷ 1 ∷ 8 ∷ 0 ∷ 6 ∷ 4 ∷ 0 ∷ 1 ∷ 2 ∷ 0 ∷ 0 ∷ 0 ∷ 0 ∷ 7 ∷ 192 ∷ 0 ∷ 2 ∷ 7 ∷ 0 ∷ 0 ∷ 0 ∷ 0 ∷ 0 ∷ 0 ∷ 192 ∷ 0 ∷ 2 ∷ 1 ∷ []

asked : arp_of (EtherType 0x0806) (request ++ 0 ∷ 0 ∷ []) ≡ Some (Addresses 1 (record {
  sender_hardware = 2 ∷ 0 ∷ 0 ∷ 0 ∷ 0 ∷ 7 ∷ [];
  sender = 192 ∷ 0 ∷ 2 ∷ 7 ∷ [];
  target_hardware = replicate 6 0;
  target = 192 ∷ 0 ∷ 2 ∷ 1 ∷ [];
}))
unfolding request
asked = refl

-- a reply without addresses, and a packet about addresses of no bytes
cut_reply : arp_of (EtherType 0x0806) (0 ∷ 1 ∷ 8 ∷ 0 ∷ 6 ∷ 4 ∷ 0 ∷ 2 ∷ []) ≡ Some (Operation 2 true)
cut_reply = refl

no_addresses : arp_of (EtherType 0x0806) (0 ∷ 1 ∷ 8 ∷ 0 ∷ 0 ∷ 0 ∷ 0 ∷ 2 ∷ []) ≡ Some (Operation 2 false)
no_addresses = refl

no_operation : arp_of (EtherType 0x0806) (0 ∷ 1 ∷ 8 ∷ 0 ∷ 6 ∷ 4 ∷ 0 ∷ []) ≡ Some CutOff
no_operation = refl

-- RARP (RFC 903)
rarp : arp_of (EtherType 0x8035) request ≡ None
rarp = refl
