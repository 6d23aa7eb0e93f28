-- The effect of a new address and a new port on the sum for a UDP checksum.
use Rattle.std.proofs.Common.{◌≡◌, ℕ, ◌+◌, ◌%◌, List, [], ◌∷◌, ◌++◌, length, refl, arith}
use Rattle.std.specs.Int.{to_be_bytes, w16, w32}
use Rattle.udp_part.specs.UdpFormat.{checksummed, checksummed_ipv4, checksummed_ipv6}
use Rattle.udp_part.specs.declared.udp_header.UdpHeader.{UdpHeader}
use Rattle.word_sum.specs.Checksum.{total}
use Rattle.word_sum.proofs.ChecksumChangeLemmas.{total_replaced}

pub source_replaced_ipv4 : (old new destination : List ℕ) (header : UdpHeader) (payload : List ℕ) → length old % 2 ≡ length new % 2
    → checksummed_ipv4 new destination header payload + total old ≡ checksummed_ipv4 old destination header payload + total new
source_replaced_ipv4 old new destination header payload alike =
    omega (arith, total_replaced [] old new (destination ++ (0 ∷ 17 ∷ to_be_bytes w16 header.length)) refl alike)

pub destination_replaced_ipv4 : (source old new : List ℕ) (header : UdpHeader) (payload : List ℕ) → length source % 2 ≡ 0
    → length old % 2 ≡ length new % 2
    → checksummed_ipv4 source new header payload + total old ≡ checksummed_ipv4 source old header payload + total new
destination_replaced_ipv4 source old new header payload even alike =
    omega (arith, total_replaced source old new (0 ∷ 17 ∷ to_be_bytes w16 header.length) even alike)

pub source_replaced_ipv6 : (old new destination : List ℕ) (header : UdpHeader) (payload : List ℕ) → length old % 2 ≡ length new % 2
    → checksummed_ipv6 new destination header payload + total old ≡ checksummed_ipv6 old destination header payload + total new
source_replaced_ipv6 old new destination header payload alike =
    omega (arith, total_replaced [] old new (destination ++ (to_be_bytes w32 header.length ++ (0 ∷ 0 ∷ 0 ∷ 17 ∷ []))) refl alike)

pub destination_replaced_ipv6 : (source old new : List ℕ) (header : UdpHeader) (payload : List ℕ) → length source % 2 ≡ 0
    → length old % 2 ≡ length new % 2
    → checksummed_ipv6 source new header payload + total old ≡ checksummed_ipv6 source old header payload + total new
destination_replaced_ipv6 source old new header payload even alike =
    omega (arith, total_replaced source old new (to_be_bytes w32 header.length ++ (0 ∷ 0 ∷ 0 ∷ 17 ∷ [])) even alike)

-- a new port changes the header but not the pseudo header, which contains only the length field
pub source_port_replaced : (pseudo_header : List ℕ) (header : UdpHeader) (payload : List ℕ) (port checksum : ℕ)
    → checksummed pseudo_header (record header { source_port = port; checksum = checksum }) payload
    + total (to_be_bytes w16 header.source_port)
    ≡ checksummed pseudo_header header payload + total (to_be_bytes w16 port)
source_port_replaced pseudo_header header payload port checksum = omega arith

pub destination_port_replaced : (pseudo_header : List ℕ) (header : UdpHeader) (payload : List ℕ) (port checksum : ℕ)
    → checksummed pseudo_header (record header { destination_port = port; checksum = checksum }) payload
    + total (to_be_bytes w16 header.destination_port)
    ≡ checksummed pseudo_header header payload + total (to_be_bytes w16 port)
destination_port_replaced pseudo_header header payload port checksum = omega arith
