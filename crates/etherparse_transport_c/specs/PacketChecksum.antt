-- The checksum in an IP packet, in the interface to C: storing it, and testing whether it is partial.
use Rattle.std.specs.Prelude.{◌≡◌, ◌⊎◌, ℕ, false, List, Option, Some, None, MatchOption}
use Rattle.ip_part.specs.Addresses.{by_value}
use Rattle.ip_part.specs.Ip.{Carries}
use Rattle.ip_part.specs.declared.transport.TransportInIp.{TransportInIp}
use Rattle.transport_part.specs.StoredChecksums.{IsPartial}
use Rattle.transport_part.specs.Transports.{kept}
use Rattle.etherparse_transport.specs.WrittenChecksums.{IsRefusedFor}
use Rattle.etherparse_transport.specs.declared.err.packet.write_checksum_error.WriteChecksumError.{WriteChecksumError}
use Rattle.etherparse_transport_c.specs.Errors.{of_write_checksum}
use Rattle.etherparse_transport_c.specs.Numbers as numbers
use Rattle.etherparse_transport_c.specs.declared.error.EtherparseError.{EtherparseError}

-- ---- storing the right checksum

-- the packet is not refused for any reason
abbrev pub IsAccepted : List ℕ → Type 0
IsAccepted packet = (why : WriteChecksumError) → ¬ IsRefusedFor packet why

-- The status and the error of the call that stores a checksum. If the packet is accepted, the status is `OK`, and the error is unchanged.
-- If the packet is refused for a reason, the status and the error state this reason.
abbrev pub StoreTells : List ℕ → ℕ → EtherparseError → EtherparseError → Type 0
StoreTells packet status error before =
    (IsAccepted packet × (status ≡ numbers.status_ok) × (error ≡ before))
    ⊎ ((why : WriteChecksumError) × IsRefusedFor packet why × (status ≡ error.status) × (error ≡ of_write_checksum why))

-- ---- a partial checksum

-- the checksum of this transport is partial
abbrev pub HasPartial : TransportInIp → Type 0
HasPartial carried = MatchOption (kept carried) ⊥ (λ transport. IsPartial (by_value carried.addresses) transport)

-- `told` is 1 if the transport that the packet carries has a partial checksum, and otherwise 0
pub record IsTold (packet : List ℕ) (told : ℕ) : Type 0 where
  pub carried : TransportInIp
  pub carries : Carries packet carried
  pub length : carried.is_length_missing ≡ false
  pub tells : ((told ≡ 1) × HasPartial carried) ⊎ ((told ≡ 0) × (HasPartial carried → ⊥))

-- if the packet is accepted, `told` is the result of the test; if the packet is refused, `told` is unchanged
abbrev pub TellsPartial : Option EtherparseError → List ℕ → ℕ → ℕ → Type 0
TellsPartial None packet told before = IsTold packet told
TellsPartial (Some error) packet told before = told ≡ before
