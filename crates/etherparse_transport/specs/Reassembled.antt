-- The verdict on a packet that was put together from its fragments.
use Rattle.std.specs.Prelude.{◌≡◌, ◌≤◌, ◌↔◌, ℕ, ◌+◌, List, false, length}
use Rattle.ip_part.specs.Ip.{Carries}
use Rattle.ip_part.specs.declared.transport.TransportInIp.{TransportInIp}
use Rattle.reassembly.specs.Cuts.{AreFrom}
use Rattle.reassembly.specs.Fragments.{FragmentValue}
use Rattle.reassembly.specs.PacketCuts.{after_arrivals}
use Rattle.reassembly.specs.Packets.{IsPacket, empty, header_room}
use Rattle.reassembly.specs.declared.fragment_key.FragmentKey.{FragmentKey}
use Rattle.transport_part.specs.Verdicts.{JudgesFound}
use Rattle.transport_part.specs.declared.checksum_verdict.ChecksumVerdict.{ChecksumVerdict}

-- `checksum_verdict` returns this verdict on the transport that `transport_in_ip` finds in this packet
abbrev pub IsVerdictOn : List ℕ → ChecksumVerdict → Type 0
IsVerdictOn packet verdict =
    (found : TransportInIp) × Carries packet found × (found.is_length_missing ≡ false) × JudgesFound found verdict

-- Assume that a packet is cut into fragments, that it fits in a buffer of `len` bytes, and that the fragments arrive in any order, each at
-- least once. Then the packet that is put together has a verdict exactly if the packet that was cut has this verdict.
abbrev pub KeepsVerdict : (FragmentKey → List ℕ → List FragmentValue → Type 0) → Type 0
KeepsVerdict IsCut = (key : FragmentKey) (len : ℕ) (packet result : List ℕ) (fragments arrivals : List FragmentValue)
    (verdict : ChecksumVerdict)
    → IsCut key packet fragments → header_room key + length packet ≤ len → AreFrom fragments arrivals → AreFrom arrivals fragments
    → IsPacket (after_arrivals (empty key len) arrivals) result → IsVerdictOn result verdict ↔ IsVerdictOn packet verdict
