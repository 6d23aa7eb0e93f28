-- Laws of valid ICMPv4 packets: built packets are valid, and the changes that a receiver's check detects.
use Rattle.std.proofs.Common.{◌≡◌, ℕ, ◌+◌, ◌%◌, ◌^◌, ◌<◌, ◌≤◌, List, ◌++◌, length, refl, ap, ◌∙◌, subst, arith}
use Rattle.std.specs.Prelude.{◌↔◌}
use Rattle.net_base.specs.Bytes.{IsBytes, be_number}
use Rattle.word_sum.specs.Checksum.{AcceptsChecksum, IsAllOnes, folded, total}
use Rattle.word_sum.proofs.ChecksumLemmas.{total-append}
use Rattle.icmp_part.specs.Icmpv4Format.{checksummed, wire, written}
use Rattle.icmp_part.specs.Icmpv4ReadsBack.{FieldsFit}
use Rattle.icmp_part.specs.Icmpv4Validity.{IsValidIcmpv4}
use Rattle.icmp_part.specs.MessageFormat.{with_zero_checksum}
use Rattle.icmp_part.specs.declared.icmpv4_header.Icmpv4Header.{Icmpv4Header}
use Rattle.icmp_part.specs.declared.icmpv4_type.Icmpv4Type.{Icmpv4Type}
use Rattle.icmp_part.specs.declared.icmpv4_type.Icmpv4Type.TheVariants.{Unknown, Redirect}
use Rattle.icmp_part.proofs.MessageChecksumLemmas as message
use Rattle.icmp_part.proofs.MessageChecksumLemmas.{total_header}

-- ---- built packets

-- the fields of a message consist of whole words
pub fields_even : (message : Icmpv4Type) → FieldsFit message → length (written message).fields % 2 ≡ 0
fields_even (Unknown type code bytes5to8) fit = omega (arith, fit)
fields_even (Redirect header) fit = omega (arith, fit)
fields_even other fit = refl

-- if the sum of a header and a payload with their checksum is all ones, they form a valid packet
pub built_valid : (header : Icmpv4Header) (payload : List ℕ) → length (wire header) % 2 ≡ 0 → header.checksum < 2 ^ 16
    → IsAllOnes (checksummed header payload + header.checksum) → IsValidIcmpv4 (wire header ++ payload)
built_valid header payload even small verifies =
    let split : total (wire header ++ payload) ≡ total (wire header) + total payload = total-append (wire header) payload even in
    ap folded (omega (arith, split, total_header (written header.icmp_type) header.checksum small)) ∙ verifies

-- ---- the check

-- a valid packet contains a checksum that a receiver accepts
pub agrees : (bytes : List ℕ) → IsBytes bytes → 8 ≤ length bytes
    → IsValidIcmpv4 bytes ↔ AcceptsChecksum (total (with_zero_checksum bytes)) (be_number bytes 2 2)
agrees bytes fits enough =
    let P : ℕ → Type 0 = λ n. IsValidIcmpv4 bytes ↔ AcceptsChecksum n (be_number bytes 2 2) in
    subst P (omega arith) (message.agrees 0 bytes fits (omega (arith, enough)))
