-- The effect of a new address and a new port on the sum for a TCP checksum.
use Rattle.std.proofs.Common.{◌≡◌, ◌≢◌, ℕ, ◌+◌, ◌%◌, List, [], ◌∷◌, ◌++◌, length, refl, arith}
use Rattle.std.specs.Int.{to_be_bytes, w16, w32}
use Rattle.tcp_part.specs.TcpFormat.{checksummed_ipv4, checksummed_ipv6}
use Rattle.tcp_part.specs.TcpTranslation.{checksummed_by}
use Rattle.tcp_part.specs.declared.tcp_header.TcpHeader.{TcpHeader}
use Rattle.word_sum.specs.Checksum.{total}
use Rattle.word_sum.proofs.ChecksumLemmas.{total-append_twice}
use Rattle.word_sum.proofs.ChecksumChangeLemmas.{total_replaced}

pub source_replaced_ipv4 : (old new destination header payload : List ℕ) → length old % 2 ≡ length new % 2
    → checksummed_ipv4 new destination header payload + total old ≡ checksummed_ipv4 old destination header payload + total new
source_replaced_ipv4 old new destination header payload alike =
    omega (arith, total_replaced [] old new (destination ++ (0 ∷ 6 ∷ to_be_bytes w16 (length header + length payload))) refl alike)

pub destination_replaced_ipv4 : (source old new header payload : List ℕ) → length source % 2 ≡ 0 → length old % 2 ≡ length new % 2
    → checksummed_ipv4 source new header payload + total old ≡ checksummed_ipv4 source old header payload + total new
destination_replaced_ipv4 source old new header payload even alike =
    omega (arith, total_replaced source old new (0 ∷ 6 ∷ to_be_bytes w16 (length header + length payload)) even alike)

pub source_replaced_ipv6 : (old new destination header payload : List ℕ) → length old % 2 ≡ length new % 2
    → checksummed_ipv6 new destination header payload + total old ≡ checksummed_ipv6 old destination header payload + total new
source_replaced_ipv6 old new destination header payload alike =
    omega (
      arith,
      total_replaced [] old new (destination ++ (to_be_bytes w32 (length header + length payload) ++ (0 ∷ 0 ∷ 0 ∷ 6 ∷ []))) refl
          alike,
    )

pub destination_replaced_ipv6 : (source old new header payload : List ℕ) → length source % 2 ≡ 0 → length old % 2 ≡ length new % 2
    → checksummed_ipv6 source new header payload + total old ≡ checksummed_ipv6 source old header payload + total new
destination_replaced_ipv6 source old new header payload even alike =
    omega (arith, total_replaced source old new (to_be_bytes w32 (length header + length payload) ++ (0 ∷ 0 ∷ 0 ∷ 6 ∷ [])) even alike)

-- the sum of a pseudo header is not 0, since its protocol is not 0
pub some_ipv4 : (source destination header payload : List ℕ) → length source % 2 ≡ 0 → length destination % 2 ≡ 0
    → checksummed_ipv4 source destination header payload ≢ 0
some_ipv4 source destination header payload even even_too none =
    omega (arith, total-append_twice source destination (0 ∷ 6 ∷ to_be_bytes w16 (length header + length payload)) even even_too)

pub some_ipv6 : (source destination header payload : List ℕ) → length source % 2 ≡ 0 → length destination % 2 ≡ 0
    → checksummed_ipv6 source destination header payload ≢ 0
some_ipv6 source destination header payload even even_too none =
    omega (
      arith,
      total-append_twice source destination
          (to_be_bytes w32 (length header + length payload) ++ (0 ∷ 0 ∷ 0 ∷ 6 ∷ [])) even even_too,
    )

-- replacing a port changes the sum by the port, for any pseudo header
pub source_port_replaced : (pseudo_header : ℕ → List ℕ) (header : TcpHeader) (payload : List ℕ) (port checksum : ℕ)
    → checksummed_by pseudo_header (record header { source_port = port; checksum = checksum }) payload
    + total (to_be_bytes w16 header.source_port)
    ≡ checksummed_by pseudo_header header payload + total (to_be_bytes w16 port)
source_port_replaced pseudo_header header payload port checksum = omega arith

pub destination_port_replaced : (pseudo_header : ℕ → List ℕ) (header : TcpHeader) (payload : List ℕ) (port checksum : ℕ)
    → checksummed_by pseudo_header (record header { destination_port = port; checksum = checksum }) payload
    + total (to_be_bytes w16 header.destination_port)
    ≡ checksummed_by pseudo_header header payload + total (to_be_bytes w16 port)
destination_port_replaced pseudo_header header payload port checksum = omega arith
