use Rattle.std.proofs.Common.{◌≡◌, ℕ, List, subst, sym}
use Rattle.reassembly.proofs.PacketCutLemmas.{ipv6_given_back, packet_given_back}
use Rattle.transport_part.specs.declared.checksum_verdict.ChecksumVerdict.{ChecksumVerdict}
use Rattle.etherparse_transport.specs.Reassembled.{IsVerdictOn}
use Rattle.etherparse_transport.proofs.laws.reassembled_packets_keep_their_verdict.Goals as goal

-- equal packets have the same verdict
same_verdict : (packet result : List ℕ) (verdict : ChecksumVerdict) → result ≡ packet
    → (IsVerdictOn result verdict → IsVerdictOn packet verdict) × (IsVerdictOn packet verdict → IsVerdictOn result verdict)
same_verdict packet result verdict same =
    (subst (λ bytes. IsVerdictOn bytes verdict) same, subst (λ bytes. IsVerdictOn bytes verdict) (sym same))

pub returns-clause-ipv4 : goal.returns-clause-ipv4
returns-clause-ipv4 c = λ key len packet result fragments arrivals verdict cut fits from all is.
    same_verdict packet result verdict ((packet_given_back key len packet fragments arrivals cut fits from all).1 result is)

pub returns-clause-ipv6 : goal.returns-clause-ipv6
returns-clause-ipv6 c = λ key len packet result fragments arrivals verdict cut fits from all is.
    same_verdict packet result verdict ((ipv6_given_back key len packet fragments arrivals cut fits from all).1 result is)
