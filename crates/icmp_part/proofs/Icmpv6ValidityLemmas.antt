-- Laws of valid ICMPv6 packets: built packets are valid.
use Rattle.std.proofs.Common.{◌≡◌, ℕ, ◌+◌, ◌^◌, ◌<◌, ◌≤◌, List, ◌++◌, length, ap, ◌∙◌, length-append, arith}
use Rattle.word_sum.specs.Checksum.{IsAllOnes, folded, total}
use Rattle.word_sum.proofs.ChecksumLemmas.{total-append}
use Rattle.icmp_part.specs.Icmpv6Format.{checksummed, header_len, max_payload_len, pseudo_header, wire, written}
use Rattle.icmp_part.specs.Icmpv6Validity.{IsValidIcmpv6}
use Rattle.icmp_part.specs.declared.icmpv6_header.Icmpv6Header.{Icmpv6Header}
use Rattle.icmp_part.proofs.MessageChecksumLemmas.{total_header}

-- if the sum of a header and a payload with their pseudo header and checksum is all ones, they form a valid packet
pub built_valid : (source destination payload : List ℕ) (header : Icmpv6Header) → length (wire header) ≡ header_len
    → length payload ≤ max_payload_len
    → header.checksum < 2 ^ 16 → IsAllOnes (checksummed source destination header payload + header.checksum)
    → IsValidIcmpv6 source destination (wire header ++ payload)
built_valid source destination payload header eight within small verifies =
    let len : length (wire header ++ payload) ≡ length (wire header) + length payload = length-append (wire header) payload in
    let split : total (wire header ++ payload) ≡ total (wire header) + total payload = total-append (wire header) payload (omega arith) in
    let pseudo = total (pseudo_header source destination (length (wire header) + length payload)) in (
      omega (arith, len, eight, within),
      ap (λ n. folded (total (pseudo_header source destination n) + total (wire header ++ payload))) len
          ∙ ap folded (omega (arith, split, total_header (written header.icmp_type) header.checksum small))
          ∙ verifies,
    )
