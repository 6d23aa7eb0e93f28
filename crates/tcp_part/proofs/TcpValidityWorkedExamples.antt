-- Worked examples of the test of a TCP segment, so that a wrong definition fails before any code does.
use Rattle.std.proofs.Common.{◌≡◌, ℕ, List, [], ◌∷◌, ◌++◌, length, replicate, refl, arith}
use Rattle.std.specs.Int.{to_be_bytes, w16}
use Rattle.word_sum.specs.Checksum.{folded}
use Rattle.net_base.specs.StoredChecksum.{tcp_checksum_place, with_checksum}
use Rattle.tcp_part.specs.TcpValidity.{IsValidTcpIpv4, IsValidTcpIpv6}

-- the addresses 192.168.1.1 and 192.168.1.2
client : List ℕ
client = 192 ∷ 168 ∷ 1 ∷ 1 ∷ []

server : List ℕ
server = 192 ∷ 168 ∷ 1 ∷ 2 ∷ []

-- the addresses 2001:db8::1 and 2001:db8::2
client_ipv6 : List ℕ
client_ipv6 = 0x20 ∷ 0x01 ∷ 0x0d ∷ 0xb8 ∷ replicate 11 0 ++ (1 ∷ [])

server_ipv6 : List ℕ
server_ipv6 = 0x20 ∷ 0x01 ∷ 0x0d ∷ 0xb8 ∷ replicate 11 0 ++ (2 ∷ [])

-- a SYN segment with two options, and with this source port, byte 12 and checksum
syn_with : ℕ → ℕ → ℕ → List ℕ
syn_with source_port byte_12 checksum =
    to_be_bytes w16 source_port ++ (0 ∷ 0x50 ∷ 0 ∷ 0 ∷ 0 ∷ 1 ∷ 0 ∷ 0 ∷ 0 ∷ 0 ∷ byte_12 ∷ 0x02 ∷ 0xff ∷ 0xf0 ∷ [])
    ++ to_be_bytes w16 checksum ++ (0 ∷ 0 ∷ 2 ∷ 4 ∷ 0x05 ∷ 0xb4 ∷ 3 ∷ 3 ∷ 7 ∷ 0 ∷ [])

syn_valid : IsValidTcpIpv4 client server (syn_with 0xc350 0x70 0x3739)
unfolding folded client server syn_with
syn_valid = (omega arith, refl)

syn_valid_over_ipv6 : IsValidTcpIpv6 client_ipv6 server_ipv6 (syn_with 0xc350 0x70 0x5f18)
unfolding folded client_ipv6 server_ipv6 syn_with
syn_valid_over_ipv6 = (omega arith, refl)

-- a segment with an unused bit, which is summed
unused_bit_not_valid : IsValidTcpIpv4 client server (syn_with 0xc350 0x72 0x3739) → ⊥
unfolding folded client server syn_with
unused_bit_not_valid valid = omega (arith, valid.1)

unused_bit_valid : IsValidTcpIpv4 client server (syn_with 0xc350 0x72 0x3539)
unfolding folded client server syn_with
unused_bit_valid = (omega arith, refl)

-- if the computed checksum is 0, both 0 and all ones are right
zero_valid : IsValidTcpIpv4 client server (syn_with 0xfa89 0x70 0)
unfolding folded client server syn_with
zero_valid = (omega arith, refl)

other_zero_valid : IsValidTcpIpv4 client server (syn_with 0xfa89 0x70 0xffff)
unfolding folded client server syn_with
other_zero_valid = (omega arith, refl)

one_not_valid : IsValidTcpIpv4 client server (syn_with 0xfa89 0x70 1) → ⊥
unfolding folded client server syn_with
one_not_valid valid = omega (arith, valid.1)

-- a segment with a payload of odd length
odd_valid : IsValidTcpIpv4 client server (syn_with 0xc350 0x70 0x72d3 ++ (0x61 ∷ 0x62 ∷ 0x63 ∷ []))
unfolding folded client server syn_with
odd_valid = (omega arith, refl)

-- a segment that is too long for a pseudo header over IPv4
too_long_not_valid : (segment : List ℕ) → length segment ≡ 65536 → IsValidTcpIpv4 client server segment → ⊥
too_long_not_valid segment long valid = omega (arith, long, valid.0)

-- the checksum occupies only its two bytes
checksum_in_its_place : with_checksum tcp_checksum_place (syn_with 0xc350 0x70 0) 0x3739 ≡ syn_with 0xc350 0x70 0x3739
unfolding syn_with
checksum_in_its_place = refl
