-- Laws of the right checksum: with it, a packet has the verdict `Right`.
use Rattle.std.proofs.Common.{◌≡◌, ◌≢◌, ℕ, ◌+◌, ◌-◌, ◌<◌, ◌≤◌, ◌==◌, ◌&&◌, not, nat_lt, Bool, true, false, if◌then◌else◌, List, length, Option, Some, None, refl, sym, ap, ◌∙◌, subst, arith}
use Rattle.std.specs.Option.{option_map}
use Rattle.std.specs.Prelude.{◌↔◌, IsTrue, MatchBool, MatchOption}
use Rattle.icmp_part.specs.Icmpv4Validity.{IsValidIcmpv4}
use Rattle.icmp_part.specs.Icmpv6Validity.{IsValidIcmpv6}
use Rattle.ip_part.specs.Addresses.{Addresses, Ipv4, Ipv6}
use Rattle.net_base.specs.Bytes.{IsBytes, be_number}
use Rattle.net_base.specs.IpNumbers.{icmpv6_number, tcp_number, udp_number}
use Rattle.net_base.specs.PseudoHeader.{ipv4_pseudo_header, ipv6_pseudo_header, max_len_over_ipv4, max_len_over_ipv6}
use Rattle.net_base.specs.StoredChecksum.{icmp_checksum_place, tcp_checksum_place, udp_checksum_place, with_checksum}
use Rattle.net_base.proofs.StoredChecksumLemmas.{byte-with_checksum, length-with_checksum, stored_checksum as read_back, with_checksum-stored}
use Rattle.tcp_part.specs.TcpValidity.{IsValidTcpIpv4, IsValidTcpIpv6}
use Rattle.udp_part.specs.UdpSlice.{length_field}
use Rattle.udp_part.specs.UdpValidity.{IsValidUdpIpv6, SumsUpOverIpv4, checksum_field}
use Rattle.std.proofs.lemmas.Bool.{ltb-false}
use Rattle.std.proofs.lemmas.Bool.Decides.{nat_tests}
use Rattle.word_sum.specs.Checksum.{complement, folded, total}
use Rattle.word_sum.proofs.ChecksumLemmas.{folded-lt}
use Rattle.transport_part.specs.StoredChecksums.{IsPartial, IsRightBy, SaysWhetherPartial, pseudo_header_over, pseudo_header_over_ipv4, pseudo_header_over_ipv6, stored_checksum, with_stored}
use Rattle.transport_part.specs.Transports.{bytes_of, min_len}
use Rattle.transport_part.specs.Verdicts.{AreOne, HasChecksum, Judges, JudgesBy, JudgesIcmpv4, JudgesOver, JudgesOverIpv4, JudgesOverIpv6, JudgesUdpIpv4, is_too_long_over_ipv4, lacks_length, partial_over_ipv4, partial_over_ipv6}
use Rattle.transport_part.specs.declared.checksum_verdict.ChecksumVerdict.{ChecksumVerdict}
use Rattle.transport_part.specs.declared.checksum_verdict.ChecksumVerdict.TheVariants.{Absent, Partial, Right, Untested, Wrong}
use Rattle.transport_part.specs.declared.checksum_verdict.Untested.{Untested as Reason}
use Rattle.transport_part.specs.declared.checksum_verdict.Untested.TheVariants.{OtherProtocol, TooLong, UnknownDestination, ZeroLength}
use Rattle.transport_part.specs.declared.transport_slice.TransportSlice.{TransportSlice}
use Rattle.transport_part.specs.declared.transport_slice.TransportSlice.TheVariants.{Icmpv4, Icmpv6, Tcp, Udp}

-- ---- what a stored checksum does not change

pub stored_len : (transport : TransportSlice) (checksum : ℕ) → min_len transport ≤ length (bytes_of transport)
    → length (bytes_of (with_stored transport checksum)) ≡ length (bytes_of transport)
stored_len (Udp packet) checksum there = length-with_checksum udp_checksum_place packet checksum (omega (arith, there))
stored_len (Tcp segment) checksum there = length-with_checksum tcp_checksum_place segment checksum (omega (arith, there))
stored_len (Icmpv4 message) checksum there = length-with_checksum icmp_checksum_place message checksum (omega (arith, there))
stored_len (Icmpv6 message) checksum there = length-with_checksum icmp_checksum_place message checksum (omega (arith, there))

pub length_field_kept : (packet : List ℕ) (checksum : ℕ) → 8 ≤ length packet
    → length_field (with_checksum udp_checksum_place packet checksum) ≡ length_field packet
length_field_kept packet checksum there =
    let high = byte-with_checksum udp_checksum_place packet checksum 4 (omega arith) (omega (arith, there)) in
    let low = byte-with_checksum udp_checksum_place packet checksum 5 (omega arith) (omega (arith, there)) in
    omega (arith, high, low)

pub lacks_kept : (transport : TransportSlice) (checksum : ℕ) → min_len transport ≤ length (bytes_of transport)
    → lacks_length (with_stored transport checksum) ≡ lacks_length transport
lacks_kept (Udp packet) checksum there =
    ap (λ field. (field == 0) && not (nat_lt 65535 (length (with_checksum udp_checksum_place packet checksum))))
    (length_field_kept packet checksum there)
    ∙ ap (λ len. (length_field packet == 0) && not (nat_lt 65535 len)) (stored_len (Udp packet) checksum there)
lacks_kept (Tcp segment) checksum there = refl
lacks_kept (Icmpv4 message) checksum there = refl
lacks_kept (Icmpv6 message) checksum there = refl

too_long_kept : (transport : TransportSlice) (checksum : ℕ) → min_len transport ≤ length (bytes_of transport)
    → is_too_long_over_ipv4 (with_stored transport checksum) ≡ is_too_long_over_ipv4 transport
too_long_kept (Udp packet) checksum there = ap (nat_lt max_len_over_ipv4) (stored_len (Udp packet) checksum there)
too_long_kept (Tcp segment) checksum there = ap (nat_lt max_len_over_ipv4) (stored_len (Tcp segment) checksum there)
too_long_kept (Icmpv4 message) checksum there = refl
too_long_kept (Icmpv6 message) checksum there = refl

-- ---- the right checksum

right_by : (IsValid : List ℕ → Type 0) (partial place : ℕ) (packet : List ℕ) (verdict : ChecksumVerdict) (checksum : ℕ)
    → IsBytes packet → place + 2 ≤ length packet → JudgesBy IsValid partial place packet verdict
    → IsRightBy verdict (be_number packet place 2) checksum → IsValid (with_checksum place packet checksum)
right_by IsValid partial place packet Right checksum fits there judged is =
    let P : List ℕ → Type 0 = IsValid in
    subst P (sym (ap (with_checksum place packet) is ∙ with_checksum-stored place packet fits there)) judged
right_by IsValid partial place packet Absent checksum fits there judged is = absurd judged
right_by IsValid partial place packet (Wrong expected) checksum fits there judged is =
    let P : List ℕ → Type 0 = IsValid in
    subst P (ap (with_checksum place packet) (sym is)) judged.1.1
right_by IsValid partial place packet (Partial expected) checksum fits there judged is =
    let P : List ℕ → Type 0 = IsValid in
    subst P (ap (with_checksum place packet) (sym is)) judged.1.1
right_by IsValid partial place packet (Untested why) checksum fits there judged is = absurd judged

right_icmpv4 : (message : List ℕ) (verdict : ChecksumVerdict) (checksum : ℕ) → IsBytes message → 8 ≤ length message
    → JudgesIcmpv4 message verdict → IsRightBy verdict (be_number message icmp_checksum_place 2) checksum
    → IsValidIcmpv4 (with_checksum icmp_checksum_place message checksum)
right_icmpv4 message Right checksum fits there judged is =
    subst IsValidIcmpv4 (sym (ap (with_checksum icmp_checksum_place message) is
    ∙ with_checksum-stored icmp_checksum_place message fits (omega (arith, there)))) judged
right_icmpv4 message Absent checksum fits there judged is = absurd judged
right_icmpv4 message (Wrong expected) checksum fits there judged is =
    subst IsValidIcmpv4 (ap (with_checksum icmp_checksum_place message) (sym is)) judged.1
right_icmpv4 message (Partial expected) checksum fits there judged is = absurd judged
right_icmpv4 message (Untested why) checksum fits there judged is = absurd judged

-- a UDP packet over IPv4 with a checksum other than 0 is valid if its sum is right
pub some_stored : (source destination packet : List ℕ) (checksum : ℕ) → 8 ≤ length packet → checksum < 65536 → checksum ≢ 0
    → SumsUpOverIpv4 source destination (with_checksum udp_checksum_place packet checksum)
    → JudgesUdpIpv4 source destination (with_checksum udp_checksum_place packet checksum) Right
some_stored source destination packet checksum there small some sums_up = (
  λ none. some (sym (read_back udp_checksum_place packet checksum (omega (arith, there)) small) ∙ none),
  sums_up,
)

right_udp : (source destination packet : List ℕ) (verdict : ChecksumVerdict) (checksum : ℕ) → IsBytes packet → 8 ≤ length packet
    → HasChecksum verdict → (verdict ≡ Absent → ⊥) → JudgesUdpIpv4 source destination packet verdict
    → IsRightBy verdict (checksum_field packet) checksum
    → JudgesUdpIpv4 source destination (with_checksum udp_checksum_place packet checksum) Right
right_udp source destination packet Right checksum fits there has some judged is =
    let P : List ℕ → Type 0 = λ bytes. JudgesUdpIpv4 source destination bytes Right in
    subst P (sym (ap (with_checksum udp_checksum_place packet) is
    ∙ with_checksum-stored udp_checksum_place packet fits (omega (arith, there)))) judged
right_udp source destination packet Absent checksum fits there has some judged is = absurd (some refl)
right_udp source destination packet (Wrong expected) checksum fits there has some judged is =
    let P : ℕ → Type 0 = λ n. JudgesUdpIpv4 source destination (with_checksum udp_checksum_place packet n) Right in
    let wrong = judged.1 in
    subst P (sym is) (some_stored source destination packet expected there has wrong.1.1.0 wrong.1.1.1)
right_udp source destination packet (Partial expected) checksum fits there has some judged is =
    let P : ℕ → Type 0 = λ n. JudgesUdpIpv4 source destination (with_checksum udp_checksum_place packet n) Right in
    let wrong = judged.1 in
    subst P (sym is) (some_stored source destination packet expected there has wrong.1.1.0 wrong.1.1.1)
right_udp source destination packet (Untested why) checksum fits there has some judged is = absurd judged

-- no checksum is right for an untested packet
none_untested : (verdict : ChecksumVerdict) (why : Reason) (stored checksum : ℕ) → verdict ≡ Untested why
    → IsRightBy verdict stored checksum → ⊥
none_untested verdict why stored checksum is right =
    let P : ChecksumVerdict → Type 0 = λ v. IsRightBy v stored checksum in
    subst P is right

right_over_ipv4 : (source destination : List ℕ) (transport : TransportSlice) (verdict : ChecksumVerdict) (checksum : ℕ)
    → IsBytes (bytes_of transport) → min_len transport ≤ length (bytes_of transport) → HasChecksum verdict → (verdict ≡ Absent → ⊥)
    → JudgesOverIpv4 source destination transport verdict → IsRightBy verdict (stored_checksum transport) checksum
    → JudgesOverIpv4 source destination (with_stored transport checksum) Right
right_over_ipv4 source destination (Udp packet) verdict checksum fits there has some judged is =
    right_udp source destination packet verdict checksum fits there has some judged is
right_over_ipv4 source destination (Tcp segment) verdict checksum fits there has some judged is =
    right_by (IsValidTcpIpv4 source destination)
    (partial_over_ipv4 source destination tcp_number segment) tcp_checksum_place segment verdict checksum
    fits (omega (arith, there)) judged is
right_over_ipv4 source destination (Icmpv4 message) verdict checksum fits there has some judged is =
    right_icmpv4 message verdict checksum fits there judged is
right_over_ipv4 source destination (Icmpv6 message) verdict checksum fits there has some judged is =
    absurd (none_untested verdict OtherProtocol (be_number message icmp_checksum_place 2) checksum judged is)

right_over_ipv6 : (source destination : List ℕ) (transport : TransportSlice) (verdict : ChecksumVerdict) (checksum : ℕ)
    → IsBytes (bytes_of transport) → min_len transport ≤ length (bytes_of transport)
    → JudgesOverIpv6 source destination transport verdict → IsRightBy verdict (stored_checksum transport) checksum
    → JudgesOverIpv6 source destination (with_stored transport checksum) Right
right_over_ipv6 source destination (Udp packet) verdict checksum fits there judged is =
    right_by (IsValidUdpIpv6 source destination)
    (partial_over_ipv6 source destination udp_number packet) udp_checksum_place packet verdict checksum
    fits (omega (arith, there)) judged is
right_over_ipv6 source destination (Tcp segment) verdict checksum fits there judged is =
    right_by (IsValidTcpIpv6 source destination)
    (partial_over_ipv6 source destination tcp_number segment) tcp_checksum_place segment verdict checksum
    fits (omega (arith, there)) judged is
right_over_ipv6 source destination (Icmpv4 message) verdict checksum fits there judged is =
    absurd (none_untested verdict OtherProtocol (be_number message icmp_checksum_place 2) checksum judged is)
right_over_ipv6 source destination (Icmpv6 message) verdict checksum fits there judged is =
    right_by (IsValidIcmpv6 source destination)
    (partial_over_ipv6 source destination icmpv6_number message) icmp_checksum_place message verdict checksum
    fits (omega (arith, there)) judged is

-- a verdict after another condition is tested first, which has the same result
unless : (P Q : Type 0) (verdict : ChecksumVerdict) (why : Reason) (condition condition_too : Bool) → condition_too ≡ condition
    → (verdict ≡ Untested why → ⊥) → MatchBool condition (verdict ≡ Untested why) P → (P → Q)
    → MatchBool condition_too (Right ≡ Untested why) Q
unless P Q verdict why condition true same tested judged next =
    absurd (tested (subst (λ b. MatchBool b (verdict ≡ Untested why) P) (sym same) judged))
unless P Q verdict why condition false same tested judged next =
    next (subst (λ b. MatchBool b (verdict ≡ Untested why) P) (sym same) judged)

right_over : (addresses : Addresses) (transport : TransportSlice) (verdict : ChecksumVerdict) (checksum : ℕ)
    → IsBytes (bytes_of transport) → min_len transport ≤ length (bytes_of transport) → HasChecksum verdict → (verdict ≡ Absent → ⊥)
    → JudgesOver addresses transport verdict → IsRightBy verdict (stored_checksum transport) checksum
    → JudgesOver addresses (with_stored transport checksum) Right
right_over (Ipv4 source destination) transport verdict checksum fits there has some judged is =
    unless _ _ verdict TooLong (is_too_long_over_ipv4 transport) (is_too_long_over_ipv4 (with_stored transport checksum))
    (too_long_kept transport checksum there) (λ untested. none_untested verdict TooLong
    (stored_checksum transport) checksum untested is) judged
    (λ judged. right_over_ipv4 source destination transport verdict checksum fits there has some judged is)
right_over (Ipv6 source (Some destination)) transport verdict checksum fits there has some judged is =
    unless _ _ verdict TooLong (nat_lt max_len_over_ipv6 (length (bytes_of transport)))
    (nat_lt max_len_over_ipv6 (length (bytes_of (with_stored transport checksum))))
    (ap (nat_lt max_len_over_ipv6) (stored_len transport checksum there))
    (λ untested. none_untested verdict TooLong (stored_checksum transport) checksum untested is) judged
    (λ judged. right_over_ipv6 source destination transport verdict checksum fits there judged is)
right_over (Ipv6 source None) transport verdict checksum fits there has some judged is =
    absurd (none_untested verdict UnknownDestination (stored_checksum transport) checksum judged is)

-- a packet with the right checksum is judged `Right`, if it contained a checksum
pub judged_right : (addresses : Addresses) (transport : TransportSlice) (verdict : ChecksumVerdict) (checksum : ℕ)
    → IsBytes (bytes_of transport) → min_len transport ≤ length (bytes_of transport) → HasChecksum verdict → (verdict ≡ Absent → ⊥)
    → Judges addresses transport verdict → IsRightBy verdict (stored_checksum transport) checksum
    → Judges addresses (with_stored transport checksum) Right
judged_right addresses transport verdict checksum fits there has some judged is =
    unless _ _ verdict ZeroLength (lacks_length transport) (lacks_length (with_stored transport checksum))
    (lacks_kept transport checksum there)
    (λ untested. none_untested verdict ZeroLength (stored_checksum transport) checksum untested is) judged
    (λ judged. right_over addresses transport verdict checksum fits there has some judged is)

-- a checksum that is right by one verdict is right by each true verdict, since a packet has only one verdict
pub chosen_by : (addresses : Addresses) (transport : TransportSlice) (known : ChecksumVerdict) (stored checksum : ℕ)
    → AreOne (Judges addresses transport)
    → HasChecksum known → Judges addresses transport known → IsRightBy known stored checksum
    → (verdict : ChecksumVerdict) → HasChecksum verdict → Judges addresses transport verdict → IsRightBy verdict stored checksum
chosen_by addresses transport known stored checksum once has is right verdict has_too judged =
    let P : ChecksumVerdict → Type 0 = λ v. IsRightBy v stored checksum in
    subst P (once known verdict has has_too is judged) right

-- ---- an absent checksum

absent_is_tested : (why : Reason) → Absent ≡ Untested why → ⊥
absent_is_tested why is = cc is

-- a packet without a checksum is absent, if another condition that is tested first fails
tested : (P : Type 0) (why : Reason) (condition : Bool) → MatchBool condition (Absent ≡ Untested why) P → (condition ≡ false) × P
tested P why true judged = absurd (absent_is_tested why judged)
tested P why false judged = (refl, judged)

not_above : (limit n : ℕ) → n ≤ limit → nat_lt limit n ≡ false
not_above limit n within = grind (arith, nat_tests)

-- a UDP packet over IPv4 without a checksum
pub record IsAbsent (packet : List ℕ) : Type 0 where
  pub stated : lacks_length (Udp packet) ≡ false
  pub counted : length packet ≤ max_len_over_ipv4
  pub none : checksum_field packet ≡ 0

pub absent_udp : (source destination packet : List ℕ) → Judges (Ipv4 source destination) (Udp packet) Absent → IsAbsent packet
absent_udp source destination packet judged =
    let stated = tested _ ZeroLength (lacks_length (Udp packet)) judged in
    let counted = tested _ TooLong (nat_lt max_len_over_ipv4 (length packet)) stated.1 in
    record { stated = stated.0; counted = ltb-false max_len_over_ipv4 (length packet) counted.0; none = counted.1 }

pub absent_right : (source destination packet : List ℕ) (checksum : ℕ) → 8 ≤ length packet → checksum < 65536 → checksum ≢ 0
    → IsAbsent packet → SumsUpOverIpv4 source destination (with_checksum udp_checksum_place packet checksum)
    → Judges (Ipv4 source destination) (with_stored (Udp packet) checksum) Right
absent_right source destination packet checksum there small some absent sums_up =
    let stated : lacks_length (with_stored (Udp packet) checksum) ≡ false = lacks_kept (Udp packet) checksum there ∙ absent.stated in
    let counted : nat_lt max_len_over_ipv4 (length (with_checksum udp_checksum_place packet checksum)) ≡ false =
    ap (nat_lt max_len_over_ipv4) (stored_len (Udp packet) checksum there) ∙ not_above max_len_over_ipv4 (length packet) absent.counted in
    let P : Bool → Type 0 = λ b. MatchBool b (Right ≡ Untested TooLong)
    (JudgesUdpIpv4 source destination (with_checksum udp_checksum_place packet checksum) Right) in
    let Q : Bool → Type 0 = λ b. MatchBool b (Right ≡ Untested ZeroLength)
    (JudgesOver (Ipv4 source destination) (with_stored (Udp packet) checksum) Right) in
    subst Q (sym stated) (subst P (sym counted) (some_stored source destination packet checksum there small some sums_up))

-- only a UDP packet over IPv4 contains no checksum
never_over_ipv4 : (source destination : List ℕ) (transport : TransportSlice) → ((packet : List ℕ) → transport ≡ Udp packet → ⊥)
    → JudgesOverIpv4 source destination transport Absent → ⊥
never_over_ipv4 source destination (Udp packet) other judged = other packet refl
never_over_ipv4 source destination (Tcp segment) other judged = judged
never_over_ipv4 source destination (Icmpv4 message) other judged = judged
never_over_ipv4 source destination (Icmpv6 message) other judged = absent_is_tested OtherProtocol judged

never_over_ipv6 : (source destination : List ℕ) (transport : TransportSlice) → JudgesOverIpv6 source destination transport Absent → ⊥
never_over_ipv6 source destination (Udp packet) judged = judged
never_over_ipv6 source destination (Tcp segment) judged = judged
never_over_ipv6 source destination (Icmpv4 message) judged = absent_is_tested OtherProtocol judged
never_over_ipv6 source destination (Icmpv6 message) judged = judged

pub absent_other : (source destination : List ℕ) (transport : TransportSlice) → ((packet : List ℕ) → transport ≡ Udp packet → ⊥)
    → Judges (Ipv4 source destination) transport Absent → ⊥
absent_other source destination transport other judged =
    let stated = tested _ ZeroLength (lacks_length transport) judged in
    let counted = tested _ TooLong (is_too_long_over_ipv4 transport) stated.1 in
    never_over_ipv4 source destination transport other counted.1

pub absent_ipv6 : (source : List ℕ) (destination : Option (List ℕ)) (transport : TransportSlice)
    → Judges (Ipv6 source destination) transport Absent → ⊥
absent_ipv6 source (Some destination) transport judged =
    let stated = tested _ ZeroLength (lacks_length transport) judged in
    let counted = tested _ TooLong (nat_lt max_len_over_ipv6 (length (bytes_of transport))) stated.1 in
    never_over_ipv6 source destination transport counted.1
absent_ipv6 source None transport judged =
    let stated = tested _ ZeroLength (lacks_length transport) judged in
    absent_is_tested UnknownDestination stated.1

-- ---- a partial checksum

-- no statement follows for an untested packet
untested : (P : Type 0) (verdict : ChecksumVerdict) (why : Reason) → verdict ≡ Untested why → SaysWhetherPartial P verdict
untested P verdict why is = let Says : ChecksumVerdict → Type 0 = SaysWhetherPartial P in subst Says (sym is) tt

partial_by : (IsValid : List ℕ → Type 0) (partial place : ℕ) (packet : List ℕ) (verdict : ChecksumVerdict)
    → JudgesBy IsValid partial place packet verdict → SaysWhetherPartial (be_number packet place 2 ≡ partial) verdict
partial_by IsValid partial place packet Right judged = tt
partial_by IsValid partial place packet Absent judged = tt
partial_by IsValid partial place packet (Wrong expected) judged = judged.0
partial_by IsValid partial place packet (Partial expected) judged = judged.0
partial_by IsValid partial place packet (Untested why) judged = tt

partial_udp : (source destination packet : List ℕ) (verdict : ChecksumVerdict) → JudgesUdpIpv4 source destination packet verdict
    → SaysWhetherPartial (checksum_field packet ≡ partial_over_ipv4 source destination udp_number packet) verdict
partial_udp source destination packet Right judged = tt
partial_udp source destination packet Absent judged = tt
partial_udp source destination packet (Wrong expected) judged = judged.0
partial_udp source destination packet (Partial expected) judged = judged.0
partial_udp source destination packet (Untested why) judged = tt

partial_icmpv4 : (message : List ℕ) (verdict : ChecksumVerdict) → JudgesIcmpv4 message verdict → SaysWhetherPartial ⊥ verdict
partial_icmpv4 message Right judged = tt
partial_icmpv4 message Absent judged = tt
partial_icmpv4 message (Wrong expected) judged = λ none. none
partial_icmpv4 message (Partial expected) judged = judged
partial_icmpv4 message (Untested why) judged = tt

-- the stored checksum is the sum of this pseudo header, if there is one
abbrev IsSumOf : Option (List ℕ) → TransportSlice → Type 0
IsSumOf header transport = MatchOption header ⊥ (λ bytes. stored_checksum transport ≡ folded (total bytes))

partial_over_four : (source destination : List ℕ) (transport : TransportSlice) (verdict : ChecksumVerdict)
    → JudgesOverIpv4 source destination transport verdict
    → SaysWhetherPartial (IsSumOf (pseudo_header_over_ipv4 source destination transport) transport) verdict
partial_over_four source destination (Udp packet) verdict judged = partial_udp source destination packet verdict judged
partial_over_four source destination (Tcp segment) verdict judged =
    partial_by (IsValidTcpIpv4 source destination)
    (partial_over_ipv4 source destination tcp_number segment) tcp_checksum_place segment verdict judged
partial_over_four source destination (Icmpv4 message) verdict judged = partial_icmpv4 message verdict judged
partial_over_four source destination (Icmpv6 message) verdict judged = untested ⊥ verdict OtherProtocol judged

partial_over_six : (source destination : List ℕ) (transport : TransportSlice) (verdict : ChecksumVerdict)
    → JudgesOverIpv6 source destination transport verdict
    → SaysWhetherPartial (IsSumOf (pseudo_header_over_ipv6 source destination transport) transport) verdict
partial_over_six source destination (Udp packet) verdict judged =
    partial_by (IsValidUdpIpv6 source destination)
    (partial_over_ipv6 source destination udp_number packet) udp_checksum_place packet verdict judged
partial_over_six source destination (Tcp segment) verdict judged =
    partial_by (IsValidTcpIpv6 source destination)
    (partial_over_ipv6 source destination tcp_number segment) tcp_checksum_place segment verdict judged
partial_over_six source destination (Icmpv4 message) verdict judged = untested ⊥ verdict OtherProtocol judged
partial_over_six source destination (Icmpv6 message) verdict judged =
    partial_by (IsValidIcmpv6 source destination)
    (partial_over_ipv6 source destination icmpv6_number message) icmp_checksum_place message verdict judged

-- the statement about a partial checksum holds if the packet is too long
partial_unless : (P : Type 0) (header : Option (List ℕ)) (transport : TransportSlice) (verdict : ChecksumVerdict) (condition : Bool)
    → MatchBool condition (verdict ≡ Untested TooLong) P → (P → SaysWhetherPartial (IsSumOf header transport) verdict)
    → SaysWhetherPartial (IsSumOf (if condition then None else header) transport) verdict
partial_unless P header transport verdict true judged says = untested ⊥ verdict TooLong judged
partial_unless P header transport verdict false judged says = says judged

partial_over : (addresses : Addresses) (transport : TransportSlice) (verdict : ChecksumVerdict) → JudgesOver addresses transport verdict
    → SaysWhetherPartial (IsSumOf (pseudo_header_over addresses transport) transport) verdict
partial_over (Ipv4 source destination) transport verdict judged =
    partial_unless _ (pseudo_header_over_ipv4 source destination transport) transport verdict (is_too_long_over_ipv4 transport) judged
    (partial_over_four source destination transport verdict)
partial_over (Ipv6 source (Some destination)) transport verdict judged =
    partial_unless _ (pseudo_header_over_ipv6 source destination transport) transport verdict
    (nat_lt max_len_over_ipv6 (length (bytes_of transport))) judged
    (partial_over_six source destination transport verdict)
partial_over (Ipv6 source None) transport verdict judged = untested _ verdict UnknownDestination judged

partial_stated : (P Q : Type 0) (verdict : ChecksumVerdict) (condition : Bool) → MatchBool condition (verdict ≡ Untested ZeroLength) Q
    → (Q → SaysWhetherPartial P verdict) → SaysWhetherPartial P verdict
partial_stated P Q verdict true judged says = untested P verdict ZeroLength judged
partial_stated P Q verdict false judged says = says judged

pub says_partial : (addresses : Addresses) (transport : TransportSlice) (verdict : ChecksumVerdict) → Judges addresses transport verdict
    → SaysWhetherPartial (IsPartial addresses transport) verdict
says_partial addresses transport verdict judged =
    partial_stated _ _ verdict (lacks_length transport) judged (partial_over addresses transport verdict)

-- a stored checksum is compared with the complement of the sum of a pseudo header
pub partial_tested : (header : Option (List ℕ)) (transport : TransportSlice) (sum number stored : ℕ)
    → Some sum ≡ option_map (λ bytes. folded (total bytes)) header → number ≡ complement sum → stored ≡ stored_checksum transport
    → IsTrue (stored == 65535 - number) ↔ MatchOption header ⊥ (λ bytes. stored_checksum transport ≡ folded (total bytes))
partial_tested None transport sum number stored is tested is_stored = absurd (cc is)
partial_tested (Some bytes) transport sum number stored is tested is_stored =
    let sum_is : sum ≡ folded (total bytes) = cc is in
    let back : 65535 - number ≡ folded (total bytes) = omega (arith, tested, sum_is, folded-lt (total bytes)) in
    let same : IsTrue (stored == 65535 - number) ↔ (stored ≡ 65535 - number) = grind (arith, nat_tests) in
    (λ is_true. sym is_stored ∙ same.0 is_true ∙ back, λ holds. same.1 (is_stored ∙ holds ∙ sym back))

-- the partial checksum is computed from the complement of the sum of a pseudo header
pub partial_is : (header : Option (List ℕ)) (sum number : ℕ) → Some sum ≡ option_map (λ bytes. folded (total bytes)) header
    → number ≡ complement sum
    → Some (65535 - number) ≡ option_map (λ bytes. folded (total bytes)) header
partial_is None sum number is tested = absurd (cc is)
partial_is (Some bytes) sum number is tested =
    let sum_is : sum ≡ folded (total bytes) = cc is in
    ap (λ n. Some n) (omega (arith, tested, sum_is, folded-lt (total bytes)))

-- ---- a stored partial checksum

header_kept_over_ipv4 : (source destination : List ℕ) (transport : TransportSlice) (checksum : ℕ)
    → min_len transport ≤ length (bytes_of transport)
    → pseudo_header_over_ipv4 source destination (with_stored transport checksum) ≡ pseudo_header_over_ipv4 source destination transport
header_kept_over_ipv4 source destination (Udp packet) checksum there =
    ap (λ len. Some (ipv4_pseudo_header source destination udp_number len)) (stored_len (Udp packet) checksum there)
header_kept_over_ipv4 source destination (Tcp segment) checksum there =
    ap (λ len. Some (ipv4_pseudo_header source destination tcp_number len)) (stored_len (Tcp segment) checksum there)
header_kept_over_ipv4 source destination (Icmpv4 message) checksum there = refl
header_kept_over_ipv4 source destination (Icmpv6 message) checksum there = refl

header_kept_over_ipv6 : (source destination : List ℕ) (transport : TransportSlice) (checksum : ℕ)
    → min_len transport ≤ length (bytes_of transport)
    → pseudo_header_over_ipv6 source destination (with_stored transport checksum) ≡ pseudo_header_over_ipv6 source destination transport
header_kept_over_ipv6 source destination (Udp packet) checksum there =
    ap (λ len. Some (ipv6_pseudo_header source destination udp_number len)) (stored_len (Udp packet) checksum there)
header_kept_over_ipv6 source destination (Tcp segment) checksum there =
    ap (λ len. Some (ipv6_pseudo_header source destination tcp_number len)) (stored_len (Tcp segment) checksum there)
header_kept_over_ipv6 source destination (Icmpv4 message) checksum there = refl
header_kept_over_ipv6 source destination (Icmpv6 message) checksum there =
    ap (λ len. Some (ipv6_pseudo_header source destination icmpv6_number len)) (stored_len (Icmpv6 message) checksum there)

header_kept : (addresses : Addresses) (transport : TransportSlice) (checksum : ℕ) → min_len transport ≤ length (bytes_of transport)
    → pseudo_header_over addresses (with_stored transport checksum) ≡ pseudo_header_over addresses transport
header_kept (Ipv4 source destination) transport checksum there =
    ap (λ b. if b then None else pseudo_header_over_ipv4 source destination (with_stored transport checksum))
    (too_long_kept transport checksum there)
    ∙ ap (λ header. if is_too_long_over_ipv4 transport then None else header)
    (header_kept_over_ipv4 source destination transport checksum there)
header_kept (Ipv6 source (Some destination)) transport checksum there =
    ap (λ len. if nat_lt max_len_over_ipv6 len then None else pseudo_header_over_ipv6 source destination (with_stored transport checksum))
    (stored_len transport checksum there)
    ∙ ap (λ header. if nat_lt max_len_over_ipv6 (length (bytes_of transport)) then None else header)
    (header_kept_over_ipv6 source destination transport checksum there)
header_kept (Ipv6 source None) transport checksum there = refl

stored_back : (transport : TransportSlice) (checksum : ℕ) → min_len transport ≤ length (bytes_of transport) → checksum < 65536
    → stored_checksum (with_stored transport checksum) ≡ checksum
stored_back (Udp packet) checksum there small = read_back udp_checksum_place packet checksum (omega (arith, there)) small
stored_back (Tcp segment) checksum there small = read_back tcp_checksum_place segment checksum (omega (arith, there)) small
stored_back (Icmpv4 message) checksum there small = read_back icmp_checksum_place message checksum (omega (arith, there)) small
stored_back (Icmpv6 message) checksum there small = read_back icmp_checksum_place message checksum (omega (arith, there)) small

stored_partial : (header : Option (List ℕ)) (stored checksum : ℕ) → Some checksum ≡ option_map (λ bytes. folded (total bytes)) header
    → stored ≡ checksum → MatchOption header ⊥ (λ bytes. stored ≡ folded (total bytes))
stored_partial None stored checksum is same = absurd (cc is)
stored_partial (Some bytes) stored checksum is same = let checksum_is : checksum ≡ folded (total bytes) = cc is in same ∙ checksum_is

-- a packet with the partial checksum has the verdict `Partial`
pub partial_with : (addresses : Addresses) (transport : TransportSlice) (checksum : ℕ) → min_len transport ≤ length (bytes_of transport)
    → checksum < 65536
    → Some checksum ≡ option_map (λ bytes. folded (total bytes)) (pseudo_header_over addresses transport)
    → IsPartial addresses (with_stored transport checksum)
partial_with addresses transport checksum there small is =
    subst (λ header. MatchOption header ⊥ (λ bytes. stored_checksum (with_stored transport checksum) ≡ folded (total bytes)))
    (sym (header_kept addresses transport checksum there))
    (stored_partial (pseudo_header_over addresses transport) _ checksum is (stored_back transport checksum there small))
