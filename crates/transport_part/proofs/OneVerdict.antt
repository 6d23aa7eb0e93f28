-- A packet has one verdict.
use Rattle.std.proofs.Common.{◌≡◌, ℕ, ◌+◌, ◌%◌, ◌<◌, ◌≤◌, Bool, true, false, nat_lt, List, [], length, take, drop, refl, sym, subst, ap, ◌∙◌, Some, None, arith}
use Rattle.std.specs.Prelude.{MatchBool}
use Rattle.std.proofs.lemmas.Bool.Decides.{nat_tests}
use Rattle.icmp_part.specs.Icmpv4Validity.{IsValidIcmpv4}
use Rattle.icmp_part.specs.Icmpv6Validity.{IsValidIcmpv6}
use Rattle.ip_part.specs.Addresses.{Addresses, Ipv4, Ipv6}
use Rattle.net_base.specs.IpNumbers.{icmpv6_number, tcp_number, udp_number}
use Rattle.net_base.specs.PseudoHeader.{ipv4_pseudo_header, ipv6_pseudo_header, max_len_over_ipv4, max_len_over_ipv6}
use Rattle.net_base.specs.StoredChecksum.{icmp_checksum_place, tcp_checksum_place, udp_checksum_place, with_checksum}
use Rattle.tcp_part.specs.TcpValidity.{IsValidTcpIpv4, IsValidTcpIpv6}
use Rattle.udp_part.specs.UdpValidity.{IsValidUdpIpv6}
use Rattle.net_base.proofs.StoredChecksumLemmas.{length-with_checksum, total-with_checksum}
use Rattle.word_sum.specs.Checksum.{IsAllOnes, total}
use Rattle.word_sum.proofs.ChecksumLemmas.{folded-none, folded-some}
use Rattle.transport_part.specs.Transports.{bytes_of, min_len}
use Rattle.transport_part.specs.Verdicts.{AreOne, IsWrong, IsWrongUdpIpv4, Judges, JudgesBy, JudgesIcmpv4, JudgesOver, JudgesOverIpv4, JudgesOverIpv6, JudgesUdpIpv4, VerifiesUpTo, is_too_long_over_ipv4, lacks_length, partial_over_ipv4, partial_over_ipv6}
use Rattle.transport_part.specs.declared.checksum_verdict.ChecksumVerdict.{ChecksumVerdict}
use Rattle.transport_part.specs.declared.checksum_verdict.ChecksumVerdict.TheVariants.{Absent, Partial, Right, Untested, Wrong}
use Rattle.transport_part.specs.declared.checksum_verdict.Untested.{Untested as Reason}
use Rattle.transport_part.specs.declared.checksum_verdict.Untested.TheVariants.{TooLong, ZeroLength}
use Rattle.transport_part.specs.declared.transport_slice.TransportSlice.{TransportSlice}
use Rattle.transport_part.specs.declared.transport_slice.TransportSlice.TheVariants.{Icmpv4, Icmpv6, Tcp, Udp}

-- ---- one expected checksum

-- 65535 divides a sum of all ones
ones_divides : (n : ℕ) → IsAllOnes n → n % 65535 ≡ 0
ones_divides n ones = grind (arith, folded-none, folded-some)

-- if two different numbers of 16 bits both make a sum all ones, the smaller number is 0 and the larger number is 65535
apart : (n a b : ℕ) → (n + a) % 65535 ≡ 0 → (n + b) % 65535 ≡ 0 → a < 65536 → b < 65536 → a < b → (a ≡ 0) × (b ≡ 65535)
apart n a b with_a with_b small_a small_b less =
    (omega (arith, with_a, with_b, small_a, small_b, less), omega (arith, with_a, with_b, small_a, small_b, less))

by_order : (n a b : ℕ) (a_less b_less : Bool) → nat_lt a b ≡ a_less → nat_lt b a ≡ b_less
    → (n + a) % 65535 ≡ 0 → (n + b) % 65535 ≡ 0 → a < 65536 → b < 65536
    → (a ≡ 65535 → b ≡ 0 → ⊥) → (b ≡ 65535 → a ≡ 0 → ⊥) → a ≡ b
by_order n a b true b_less is_less is with_a with_b small_a small_b not_a not_b =
    let zeros = apart n a b with_a with_b small_a small_b (grind (arith, nat_tests)) in
    absurd (not_b zeros.1 zeros.0)
by_order n a b false true is is_less with_a with_b small_a small_b not_a not_b =
    let zeros = apart n b a with_b with_a small_b small_a (grind (arith, nat_tests)) in
    absurd (not_a zeros.1 zeros.0)
by_order n a b false false is is_too with_a with_b small_a small_b not_a not_b = grind (arith, nat_tests)

-- if a packet passes the test with this checksum, 65535 divides its sum
divided : (max_len : ℕ) (pseudo_header_of : ℕ → List ℕ) (place : ℕ) (bytes : List ℕ) (checksum : ℕ)
    → place + 2 ≤ length bytes → place % 2 ≡ 0 → checksum < 65536
    → VerifiesUpTo max_len pseudo_header_of (with_checksum place bytes checksum)
    → (total (pseudo_header_of (length bytes)) + (total (take place bytes) + total (drop (place + 2) bytes)) + checksum) % 65535 ≡ 0
divided max_len pseudo_header_of place bytes checksum there even small passes =
    let pseudo = ap (λ n. total (pseudo_header_of n)) (length-with_checksum place bytes checksum there) in
    let stored = total-with_checksum place bytes checksum there even small in
    let divides = ones_divides _ passes.1 in
    omega (arith, divides, pseudo, stored)

pub same_expected : (max_len : ℕ) (pseudo_header_of : ℕ → List ℕ) (place : ℕ) (bytes : List ℕ) (a b : ℕ)
    → place + 2 ≤ length bytes → place % 2 ≡ 0 → a < 65536 → b < 65536
    → VerifiesUpTo max_len pseudo_header_of (with_checksum place bytes a)
    → VerifiesUpTo max_len pseudo_header_of (with_checksum place bytes b)
    → (a ≡ 65535 → b ≡ 0 → ⊥) → (b ≡ 65535 → a ≡ 0 → ⊥) → a ≡ b
same_expected max_len pseudo_header_of place bytes a b there even small_a small_b passes_a passes_b not_a not_b =
    by_order (total (pseudo_header_of (length bytes)) + (total (take place bytes) + total (drop (place + 2) bytes))) a b
    (nat_lt a b) (nat_lt b a) refl refl
    (divided max_len pseudo_header_of place bytes a there even small_a passes_a)
    (divided max_len pseudo_header_of place bytes b there even small_b passes_b)
    small_a small_b not_a not_b

-- a checksum that is wrong in one packet is wrong in the packet in which it is stored
wrong_once : (IsValid : List ℕ → Type 0) (max_len : ℕ) (pseudo_header_of : ℕ → List ℕ) (place : ℕ) (packet : List ℕ)
    → ((checksum : ℕ) → IsValid (with_checksum place packet checksum)
    → VerifiesUpTo max_len pseudo_header_of (with_checksum place packet checksum))
    → place + 2 ≤ length packet → place % 2 ≡ 0 → (a b : ℕ) → a < 65536 → b < 65536
    → IsWrong IsValid place packet a → IsWrong IsValid place packet b → a ≡ b
wrong_once IsValid max_len pseudo_header_of place packet passes there even a b small_a small_b wrong_a wrong_b =
    let P : ℕ → Type 0 = λ n. IsValid (with_checksum place packet n) in
    same_expected max_len pseudo_header_of place packet a b there even small_a small_b
    (passes a wrong_a.1) (passes b wrong_b.1)
    (λ most none. wrong_a.2 most (subst P none wrong_b.1))
    (λ most none. wrong_b.2 most (subst P none wrong_a.1))

-- ---- one verdict by the protocol

judged_once : (IsValid : List ℕ → Type 0) (partial place : ℕ) (packet : List ℕ)
    → ((a b : ℕ) → a < 65536 → b < 65536 → IsWrong IsValid place packet a → IsWrong IsValid place packet b → a ≡ b)
    → AreOne (JudgesBy IsValid partial place packet)
judged_once IsValid partial place packet once Right Right has_a has_b is_a is_b = refl
judged_once IsValid partial place packet once Right (Wrong b) has_a has_b is_a is_b = absurd (is_b.1.0 is_a)
judged_once IsValid partial place packet once Right (Partial b) has_a has_b is_a is_b = absurd (is_b.1.0 is_a)
judged_once IsValid partial place packet once Right Absent has_a has_b is_a is_b = absurd is_b
judged_once IsValid partial place packet once Right (Untested why) has_a has_b is_a is_b = absurd is_b
judged_once IsValid partial place packet once (Wrong a) Right has_a has_b is_a is_b = absurd (is_a.1.0 is_b)
judged_once IsValid partial place packet once (Wrong a) (Wrong b) has_a has_b is_a is_b = ap Wrong (once a b has_a has_b is_a.1 is_b.1)
judged_once IsValid partial place packet once (Wrong a) (Partial b) has_a has_b is_a is_b = absurd (is_a.0 is_b.0)
judged_once IsValid partial place packet once (Wrong a) Absent has_a has_b is_a is_b = absurd is_b
judged_once IsValid partial place packet once (Wrong a) (Untested why) has_a has_b is_a is_b = absurd is_b
judged_once IsValid partial place packet once (Partial a) Right has_a has_b is_a is_b = absurd (is_a.1.0 is_b)
judged_once IsValid partial place packet once (Partial a) (Wrong b) has_a has_b is_a is_b = absurd (is_b.0 is_a.0)
judged_once IsValid partial place packet once (Partial a) (Partial b) has_a has_b is_a is_b =
    ap Partial (once a b has_a has_b is_a.1 is_b.1)
judged_once IsValid partial place packet once (Partial a) Absent has_a has_b is_a is_b = absurd is_b
judged_once IsValid partial place packet once (Partial a) (Untested why) has_a has_b is_a is_b = absurd is_b
judged_once IsValid partial place packet once Absent b has_a has_b is_a is_b = absurd is_a
judged_once IsValid partial place packet once (Untested why) b has_a has_b is_a is_b = absurd is_a

icmpv4_once : (message : List ℕ) → 8 ≤ length message → AreOne (JudgesIcmpv4 message)
icmpv4_once message there Right Right has_a has_b is_a is_b = refl
icmpv4_once message there Right (Wrong b) has_a has_b is_a is_b = absurd (is_b.0 is_a)
icmpv4_once message there Right (Partial b) has_a has_b is_a is_b = absurd is_b
icmpv4_once message there Right Absent has_a has_b is_a is_b = absurd is_b
icmpv4_once message there Right (Untested why) has_a has_b is_a is_b = absurd is_b
icmpv4_once message there (Wrong a) Right has_a has_b is_a is_b = absurd (is_a.0 is_b)
icmpv4_once message there (Wrong a) (Wrong b) has_a has_b is_a is_b =
    let reaches : icmp_checksum_place + 2 ≤ length message = omega (arith, there) in
    ap Wrong (wrong_once IsValidIcmpv4 (length message) (λ len. []) icmp_checksum_place message
    (λ checksum valid. (omega (arith, length-with_checksum icmp_checksum_place message checksum reaches), valid))
    reaches (omega arith) a b has_a has_b is_a is_b)
icmpv4_once message there (Wrong a) (Partial b) has_a has_b is_a is_b = absurd is_b
icmpv4_once message there (Wrong a) Absent has_a has_b is_a is_b = absurd is_b
icmpv4_once message there (Wrong a) (Untested why) has_a has_b is_a is_b = absurd is_b
icmpv4_once message there (Partial a) b has_a has_b is_a is_b = absurd is_a
icmpv4_once message there Absent b has_a has_b is_a is_b = absurd is_a
icmpv4_once message there (Untested why) b has_a has_b is_a is_b = absurd is_a

-- an expected checksum of UDP over IPv4 is never 0
udp_expected_once : (source destination packet : List ℕ) → 8 ≤ length packet → (a b : ℕ) → a < 65536 → b < 65536
    → IsWrongUdpIpv4 source destination packet a → IsWrongUdpIpv4 source destination packet b → a ≡ b
udp_expected_once source destination packet there a b small_a small_b wrong_a wrong_b =
    same_expected max_len_over_ipv4 (ipv4_pseudo_header source destination udp_number) udp_checksum_place packet a b
    (omega (arith, there)) (omega arith) small_a small_b wrong_a.1.1.1 wrong_b.1.1.1
    (λ most none. wrong_b.1.1.0 none) (λ most none. wrong_a.1.1.0 none)

udp_once : (source destination packet : List ℕ) → 8 ≤ length packet → AreOne (JudgesUdpIpv4 source destination packet)
udp_once source destination packet there Right Right has_a has_b is_a is_b = refl
udp_once source destination packet there Right (Wrong b) has_a has_b is_a is_b = absurd (is_b.1.1.0 is_a.1)
udp_once source destination packet there Right (Partial b) has_a has_b is_a is_b = absurd (is_b.1.1.0 is_a.1)
udp_once source destination packet there Right Absent has_a has_b is_a is_b = absurd (is_a.0 is_b)
udp_once source destination packet there Right (Untested why) has_a has_b is_a is_b = absurd is_b
udp_once source destination packet there (Wrong a) Right has_a has_b is_a is_b = absurd (is_a.1.1.0 is_b.1)
udp_once source destination packet there (Wrong a) (Wrong b) has_a has_b is_a is_b =
    ap Wrong (udp_expected_once source destination packet there a b has_a has_b is_a.1 is_b.1)
udp_once source destination packet there (Wrong a) (Partial b) has_a has_b is_a is_b = absurd (is_a.0 is_b.0)
udp_once source destination packet there (Wrong a) Absent has_a has_b is_a is_b = absurd (is_a.1.0 is_b)
udp_once source destination packet there (Wrong a) (Untested why) has_a has_b is_a is_b = absurd is_b
udp_once source destination packet there (Partial a) Right has_a has_b is_a is_b = absurd (is_a.1.1.0 is_b.1)
udp_once source destination packet there (Partial a) (Wrong b) has_a has_b is_a is_b = absurd (is_b.0 is_a.0)
udp_once source destination packet there (Partial a) (Partial b) has_a has_b is_a is_b =
    ap Partial (udp_expected_once source destination packet there a b has_a has_b is_a.1 is_b.1)
udp_once source destination packet there (Partial a) Absent has_a has_b is_a is_b = absurd (is_a.1.0 is_b)
udp_once source destination packet there (Partial a) (Untested why) has_a has_b is_a is_b = absurd is_b
udp_once source destination packet there Absent Right has_a has_b is_a is_b = absurd (is_b.0 is_a)
udp_once source destination packet there Absent (Wrong b) has_a has_b is_a is_b = absurd (is_b.1.0 is_a)
udp_once source destination packet there Absent (Partial b) has_a has_b is_a is_b = absurd (is_b.1.0 is_a)
udp_once source destination packet there Absent Absent has_a has_b is_a is_b = refl
udp_once source destination packet there Absent (Untested why) has_a has_b is_a is_b = absurd is_b
udp_once source destination packet there (Untested why) b has_a has_b is_a is_b = absurd is_a

-- ---- one verdict by the addresses

over_ipv4 : (source destination : List ℕ) (transport : TransportSlice) → min_len transport ≤ length (bytes_of transport)
    → AreOne (JudgesOverIpv4 source destination transport)
over_ipv4 source destination (Udp packet) there = udp_once source destination packet there
over_ipv4 source destination (Tcp segment) there =
    judged_once (IsValidTcpIpv4 source destination) (partial_over_ipv4 source destination tcp_number segment) tcp_checksum_place segment
    (wrong_once (IsValidTcpIpv4 source destination) max_len_over_ipv4
    (ipv4_pseudo_header source destination tcp_number) tcp_checksum_place segment
    (λ checksum valid. valid) (omega (arith, there)) (omega arith))
over_ipv4 source destination (Icmpv4 message) there = icmpv4_once message there
over_ipv4 source destination (Icmpv6 message) there = λ a b has_a has_b is_a is_b. is_a ∙ sym is_b

over_ipv6 : (source destination : List ℕ) (transport : TransportSlice) → min_len transport ≤ length (bytes_of transport)
    → AreOne (JudgesOverIpv6 source destination transport)
over_ipv6 source destination (Udp packet) there =
    judged_once (IsValidUdpIpv6 source destination) (partial_over_ipv6 source destination udp_number packet) udp_checksum_place packet
    (wrong_once (IsValidUdpIpv6 source destination) max_len_over_ipv6
    (ipv6_pseudo_header source destination udp_number) udp_checksum_place packet
    (λ checksum valid. valid.1) (omega (arith, there)) (omega arith))
over_ipv6 source destination (Tcp segment) there =
    judged_once (IsValidTcpIpv6 source destination) (partial_over_ipv6 source destination tcp_number segment) tcp_checksum_place segment
    (wrong_once (IsValidTcpIpv6 source destination) max_len_over_ipv6
    (ipv6_pseudo_header source destination tcp_number) tcp_checksum_place segment
    (λ checksum valid. valid) (omega (arith, there)) (omega arith))
over_ipv6 source destination (Icmpv4 message) there = λ a b has_a has_b is_a is_b. is_a ∙ sym is_b
over_ipv6 source destination (Icmpv6 message) there =
    judged_once (IsValidIcmpv6 source destination) (partial_over_ipv6 source destination icmpv6_number message) icmp_checksum_place message
    (wrong_once (IsValidIcmpv6 source destination) max_len_over_ipv6
    (ipv6_pseudo_header source destination icmpv6_number) icmp_checksum_place message
    (λ checksum valid. valid) (omega (arith, there)) (omega arith))

-- a checksum is unique if another condition is tested first
unless : (condition : Bool) (why : Reason) (IsTrueOf : ChecksumVerdict → Type 0) → AreOne IsTrueOf
    → AreOne (λ verdict. MatchBool condition (verdict ≡ Untested why) (IsTrueOf verdict))
unless true why IsTrueOf once a b has_a has_b is_a is_b = is_a ∙ sym is_b
unless false why IsTrueOf once a b has_a has_b is_a is_b = once a b has_a has_b is_a is_b

over : (addresses : Addresses) (transport : TransportSlice) → min_len transport ≤ length (bytes_of transport)
    → AreOne (JudgesOver addresses transport)
over (Ipv4 source destination) transport there =
    unless (is_too_long_over_ipv4 transport) TooLong (JudgesOverIpv4 source destination transport)
    (over_ipv4 source destination transport there)
over (Ipv6 source (Some destination)) transport there =
    unless (nat_lt max_len_over_ipv6 (length (bytes_of transport))) TooLong (JudgesOverIpv6 source destination transport)
    (over_ipv6 source destination transport there)
over (Ipv6 source None) transport there = λ a b has_a has_b is_a is_b. is_a ∙ sym is_b

pub one_verdict : (addresses : Addresses) (transport : TransportSlice) → min_len transport ≤ length (bytes_of transport)
    → AreOne (Judges addresses transport)
one_verdict addresses transport there =
    unless (lacks_length transport) ZeroLength (JudgesOver addresses transport) (over addresses transport there)
