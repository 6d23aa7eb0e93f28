-- Laws of the checksum of a message, which ICMP stores in bytes 2 and 3.
use Rattle.std.proofs.Common.{◌≡◌, ℕ, ◌+◌, ◌^◌, ◌<◌, ◌≤◌, List, [], ◌∷◌, length, arith}
use Rattle.std.specs.Prelude.{◌↔◌}
use Rattle.net_base.specs.Bytes.{IsBytes, be_number}
use Rattle.word_sum.specs.Checksum.{AcceptsChecksum, IsAllOnes, total}
use Rattle.word_sum.proofs.ChecksumLemmas.{accepted_checksum}
use Rattle.icmp_part.specs.MessageFormat.{Written, header_bytes, with_zero_checksum}

-- a header with a checksum has the sum of the header without it, plus the checksum
pub total_header : (message : Written) (checksum : ℕ) → checksum < 2 ^ 16
    → total (header_bytes message checksum) ≡ total (header_bytes message 0) + checksum
total_header message checksum small = omega (arith, small)

-- a packet with a checksum has the sum of the packet without it, plus the checksum
total_packet : (bytes : List ℕ) → 4 ≤ length bytes → total bytes ≡ total (with_zero_checksum bytes) + be_number bytes 2 2
total_packet (a ∷ (b ∷ (c ∷ (d ∷ rest)))) enough = omega arith
total_packet [] enough = absurd (omega arith)
total_packet (a ∷ []) enough = absurd (omega arith)
total_packet (a ∷ (b ∷ [])) enough = absurd (omega arith)
total_packet (a ∷ (b ∷ (c ∷ []))) enough = absurd (omega arith)

-- the sum of pseudo header and packet is all ones exactly if a receiver accepts the stored checksum
pub agrees : (pseudo : ℕ) (bytes : List ℕ) → IsBytes bytes → 4 ≤ length bytes
    → IsAllOnes (pseudo + total bytes) ↔ AcceptsChecksum (pseudo + total (with_zero_checksum bytes)) (be_number bytes 2 2)
agrees pseudo bytes fits enough =
    let apart : pseudo + total bytes ≡ pseudo + total (with_zero_checksum bytes) + be_number bytes 2 2 =
    omega (arith, total_packet bytes enough) in
    let both = accepted_checksum (pseudo + total (with_zero_checksum bytes)) (be_number bytes 2 2) (omega (arith, fits 2, fits 3)) in
    rw apart both
