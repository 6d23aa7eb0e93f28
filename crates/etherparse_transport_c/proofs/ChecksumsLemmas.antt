-- Laws of a checksum in the bytes of a packet, like the laws in net_base.
use Rattle.std.proofs.Common.{◌≡◌, ℕ, ◌+◌, ◌-◌, ◌%◌, ◌<◌, ◌≤◌, List, ◌++◌, length, take, drop, length-drop, sym, ap, ◌∙◌}
use Rattle.std.proofs.Math.Seq.{take-length}
use Rattle.std.specs.Prelude.{slice_index}
use Rattle.net_base.proofs.StoredChecksumLemmas as laws
use Rattle.word_sum.specs.Checksum.{total}
use Rattle.etherparse_transport_c.specs.Checksums.{with_checksum}

pub length-with_checksum : (place : ℕ) (packet : List ℕ) (checksum : ℕ) → place + 2 ≤ length packet
    → length (with_checksum place packet checksum) ≡ length packet
unfolding with_checksum
length-with_checksum place packet checksum enough = laws.length-with_checksum place packet checksum enough

-- a stored checksum adds its value to the sum of the other bytes
pub total-with_checksum : (place : ℕ) (packet : List ℕ) (checksum : ℕ) → place % 2 ≡ 0 → place + 2 ≤ length packet → checksum < 65536
    → total (with_checksum place packet checksum) ≡ total (take place packet) + total (drop (place + 2) packet) + checksum
unfolding with_checksum
total-with_checksum place packet checksum even enough small = laws.total-with_checksum place packet checksum enough even small

-- a slice from a place to the end contains all bytes after this place
pub from_place : (place : ℕ) (packet : List ℕ) → take (length packet - place) (drop place packet) ≡ drop place packet
from_place place packet = ap (λ n. take n (drop place packet)) (sym (length-drop place packet)) ∙ take-length (drop place packet)

-- storing a checksum in the first part of some bytes changes only this part
pub with_checksum-append : (place : ℕ) (front back : List ℕ) (checksum : ℕ) → place + 2 ≤ length front
    → with_checksum place (front ++ back) checksum ≡ with_checksum place front checksum ++ back
unfolding with_checksum
with_checksum-append place front back checksum within = laws.with_checksum-append place front back checksum within

-- if bytes after the checksum are cut off, a checksum can be stored before or after the cut
pub take-with_checksum : (place : ℕ) (packet : List ℕ) (checksum len : ℕ) → place + 2 ≤ len → len ≤ length packet
    → take len (with_checksum place packet checksum) ≡ with_checksum place (take len packet) checksum
unfolding with_checksum
take-with_checksum place packet checksum len within enough = laws.take-with_checksum place packet checksum len within enough

-- a byte before the checksum does not change
pub byte-with_checksum : (place : ℕ) (packet : List ℕ) (checksum at : ℕ) → at < place → place ≤ length packet
    → slice_index (with_checksum place packet checksum) at ≡ slice_index packet at
unfolding with_checksum
byte-with_checksum place packet checksum at before within = laws.byte-with_checksum place packet checksum at before within
