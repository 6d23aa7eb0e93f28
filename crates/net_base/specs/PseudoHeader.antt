-- The pseudo headers, which contain the IP fields that a checksum covers, and the test of a received checksum.
use Rattle.std.specs.Prelude.{◌≤◌, ℕ, List, [], ◌∷◌, ◌++◌, length}
use Rattle.std.specs.Int.{to_be_bytes, w16, w32}
use Rattle.word_sum.specs.Checksum.{Verifies}

-- The pseudo header over IPv4, 12 bytes: source, destination, a zero byte, the protocol, and the length of the packet in two bytes (RFC
-- 768; RFC 9293, section 3.1). The length must be below 65,536.
abbrev pub ipv4_pseudo_header : List ℕ → List ℕ → ℕ → ℕ → List ℕ
ipv4_pseudo_header source destination protocol len = source ++ (destination ++ (0 ∷ protocol ∷ to_be_bytes w16 len))

-- The pseudo header over IPv6, 40 bytes: source, destination, the length of the packet in four bytes, three zero bytes, and the protocol
-- (RFC 8200, section 8.1). The length must be below 4,294,967,296. If there is a routing header, the destination is the final destination.
abbrev pub ipv6_pseudo_header : List ℕ → List ℕ → ℕ → ℕ → List ℕ
ipv6_pseudo_header source destination protocol len =
    source ++ (destination ++ (to_be_bytes w32 len ++ (0 ∷ 0 ∷ 0 ∷ protocol ∷ [])))

-- the length of the longest packet that the pseudo header over IPv4 can count, in two bytes
abbrev pub max_len_over_ipv4 : ℕ
max_len_over_ipv4 = 65535

-- the length of the longest packet that the pseudo header over IPv6 can count, in four bytes
abbrev pub max_len_over_ipv6 : ℕ
max_len_over_ipv6 = 4294967295

-- A receiver accepts a packet of this protocol over IPv4: the one's complement sum of the pseudo header and the packet, checksum included,
-- is all ones. A packet that is too long for the pseudo header is not accepted.
abbrev pub VerifiesOverIpv4 : List ℕ → List ℕ → ℕ → List ℕ → Type 0
VerifiesOverIpv4 source destination protocol packet =
    (length packet ≤ max_len_over_ipv4) × Verifies (ipv4_pseudo_header source destination protocol (length packet)) packet

-- A receiver accepts a packet of this protocol over IPv6: the one's complement sum of the pseudo header and the packet, checksum included,
-- is all ones. A packet that is too long for the pseudo header is not accepted.
abbrev pub VerifiesOverIpv6 : List ℕ → List ℕ → ℕ → List ℕ → Type 0
VerifiesOverIpv6 source destination protocol packet =
    (length packet ≤ max_len_over_ipv6) × Verifies (ipv6_pseudo_header source destination protocol (length packet)) packet
