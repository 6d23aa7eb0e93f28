-- The sum from which the checksum of a header is computed, with any pseudo header.
use Rattle.std.specs.Prelude.{ℕ, List, length}
use Rattle.tcp_part.specs.TcpFormat.{checksummed, wire}
use Rattle.tcp_part.specs.declared.tcp_header.TcpHeader.{TcpHeader}

-- the sum over pseudo header, header and payload; `pseudo_header` returns the pseudo header for a header of this length
abbrev pub checksummed_by : (ℕ → List ℕ) → TcpHeader → List ℕ → ℕ
checksummed_by pseudo_header header payload = checksummed (pseudo_header (length (wire header))) (wire header) payload
