-- A packet that is translated and translated back: what the first translation accepts, and the parts of its result.
use Rattle.std.proofs.Common.{◌≡◌, ◌≢◌, ℕ, ◌+◌, ◌-◌, ◌==◌, ◌<◌, ◌≤◌, Bool, true, false, ◌&&◌, ◌||◌, if◌then◌else◌, List, [], ◌∷◌, ◌++◌, length, drop, take, slice_range, Option, Some, None, Ok, refl, sym, subst, ap, ap₂, ◌∙◌, length-append, length-take, length-drop, true≢false, arith}
use Rattle.std.specs.Prelude.{nat_le, nat_lt}
use Rattle.std.specs.Option.{option_map}
use Rattle.std.proofs.Math.Logic.{⊎_elim}
use Rattle.std.proofs.lemmas.Bool.{cases_lt}
use Rattle.std.proofs.lemmas.Bool.Decides.{nat_tests}
use Rattle.std.proofs.lemmas.List.{drop_at, get_or-drop, get_or-take, get_or_past, take_all, take_at}
use Rattle.net_base.specs.Bytes.{IsBytes}
use Rattle.net_base.specs.IpNumbers.{icmpv4_number, icmpv6_number, tcp_number, udp_number}
use Rattle.net_base.specs.Refusals.{first_of, refused_if}
use Rattle.ip_translation.specs.Fragments.{whole}
use Rattle.ip_translation.specs.HeadersToIpv4 as back
use Rattle.ip_translation.specs.HeadersToIpv6.{ipv6_header, next_header}
use Rattle.ip_translation.specs.PacketsToIpv4 as ipv4
use Rattle.ip_translation.specs.SkippedHeaders.{fragment_after, fragment_header_refusal, none_skipped, skipped_headers, with_fragment_header}
use Rattle.ip_part.specs.Ip.{unless_refused}
use Rattle.ip_translation.specs.declared.fragment_fields.FragmentFields.{FragmentFields}
use Rattle.ip_translation.specs.declared.prefixes.Prefixes.{Prefixes}
use Rattle.ip_translation.proofs.BackLemmas.{destination_of, source_of}
use Rattle.ip_translation.proofs.DirectLemmas.{is_direct, moved}
use Rattle.ip_translation.proofs.SkippedLemmas.{ended_at, reached_first}

-- ---- rules that do not refuse

-- none of the rules refuses
abbrev pub AllNone : {E : Type 0} → List (Option E) → Type 0
AllNone [] = Unit {0}
AllNone (rule ∷ rules) = (rule ≡ None) × AllNone rules

pub all_none : {E : Type 0} (rules : List (Option E)) → first_of rules ≡ None → AllNone rules
all_none [] none = tt
all_none (None ∷ rules) none = (refl, all_none rules none)
all_none (Some error ∷ rules) none = absurd (grind arith)

pub first_rule : {E : Type 0} (first : Option E) (rules : List (Option E)) → first_of (first ∷ rules) ≡ None → first ≡ None
first_rule first rules none = (all_none (first ∷ rules) none).0

-- an error that is not wrapped
pub not_mapped : {D E : Type 0} (wrap : D → E) (error : Option D) → option_map wrap error ≡ None → error ≡ None
not_mapped wrap None none = refl
not_mapped wrap (Some error) none = absurd (grind arith)

-- the condition of a rule that does not refuse
pub not_refused : {E : Type 0} (condition : Bool) (error : E) → refused_if condition error ≡ None → condition ≡ false
not_refused true error none = absurd (grind arith)
not_refused false error none = refl

pub both : (a b : Bool) → (a && b) ≡ true → (a ≡ true) × (b ≡ true)
both true b is = (refl, is)
both false b is = absurd (true≢false (sym is))

pub at_most : (a b : ℕ) → nat_lt b a ≡ false → a ≤ b
at_most a b is = grind (arith, nat_tests, is)

pub at_least : (a b : ℕ) → nat_le a b ≡ true → a ≤ b
at_least a b is = grind (arith, nat_tests, is)

pub is_at_least : (a b : ℕ) → a ≤ b → nat_le a b ≡ true
is_at_least a b there = grind (arith, nat_tests, there)

pub equal : (a b : ℕ) → (a == b) ≡ true → a ≡ b
equal a b is = grind (arith, nat_tests, is)

pub different : (a b : ℕ) → (a == b) ≡ false → a ≢ b
different a b is = grind (arith, nat_tests, is)

pub unequal : (a b : ℕ) → a ≢ b → (a == b) ≡ false
unequal a b other = grind (arith, nat_tests, other)

-- ---- bytes

pub bytes_drop : (n : ℕ) (bytes : List ℕ) → IsBytes bytes → IsBytes (drop n bytes)
bytes_drop n bytes fits = λ k. subst (λ byte. byte < 256) (sym (get_or-drop n bytes k 0)) (fits (n + k))

pub bytes_take : (n : ℕ) (bytes : List ℕ) → IsBytes bytes → IsBytes (take n bytes)
bytes_take n bytes fits = λ k.
    ⊎_elim
    (λ (before : k < n). subst (λ byte. byte < 256) (sym (get_or-take n bytes k 0 before)) (fits k))
    (λ (past : n ≤ k). subst (λ byte. byte < 256) (sym (get_or_past (take n bytes) k 0 (omega (arith, past, length-take n bytes))))
    (omega arith))
    (cases_lt k n)

pub bytes_range : (from to : ℕ) (bytes : List ℕ) → IsBytes bytes → IsBytes (slice_range bytes from to)
bytes_range from to bytes fits = bytes_take (to - from) (drop from bytes) (bytes_drop from bytes fits)

pub range_len : (from to : ℕ) (bytes : List ℕ) → to ≤ length bytes → length (slice_range bytes from to) ≡ to - from
range_len from to bytes within = grind (arith, length-take, length-drop)

-- ---- one of four messages, by the protocol

abbrev pub one_of : Bool → Bool → Bool → List ℕ → List ℕ → List ℕ → List ℕ → List ℕ
one_of icmp udp tcp first second third fourth = if icmp then first else if udp then second else if tcp then third else fourth

pub chosen : (P : List ℕ → Type 0) (icmp udp tcp : Bool) (first second third fourth : List ℕ) → (icmp ≡ true → P first)
    → (udp ≡ true → P second) → (tcp ≡ true → P third) → P fourth → P (one_of icmp udp tcp first second third fourth)
chosen P true udp tcp first second third fourth is_first is_second is_third is_fourth = is_first refl
chosen P false true tcp first second third fourth is_first is_second is_third is_fourth = is_second refl
chosen P false false true first second third fourth is_first is_second is_third is_fourth = is_third refl
chosen P false false false first second third fourth is_first is_second is_third is_fourth = is_fourth

-- each message is the same after the way back
pub by_protocol : (icmp udp tcp : Bool) (message icmp_there udp_there tcp_there : List ℕ) (icmp_back udp_back tcp_back : List ℕ → List ℕ)
    → (icmp ≡ true → icmp_back icmp_there ≡ message) → (udp ≡ true → udp_back udp_there ≡ message)
    → (tcp ≡ true → tcp_back tcp_there ≡ message)
    → one_of icmp udp tcp (icmp_back (one_of icmp udp tcp icmp_there udp_there tcp_there message))
    (udp_back (one_of icmp udp tcp icmp_there udp_there tcp_there message))
    (tcp_back (one_of icmp udp tcp icmp_there udp_there tcp_there message))
    (one_of icmp udp tcp icmp_there udp_there tcp_there message) ≡ message
by_protocol true udp tcp message icmp_there udp_there tcp_there icmp_back udp_back tcp_back is_icmp is_udp is_tcp = is_icmp refl
by_protocol false true tcp message icmp_there udp_there tcp_there icmp_back udp_back tcp_back is_icmp is_udp is_tcp = is_udp refl
by_protocol false false true message icmp_there udp_there tcp_there icmp_back udp_back tcp_back is_icmp is_udp is_tcp = is_tcp refl
by_protocol false false false message icmp_there udp_there tcp_there icmp_back udp_back tcp_back is_icmp is_udp is_tcp = refl

-- the tests of the protocol after a translation
pub record AreAlike (icmp_number number old_icmp_number old_number : ℕ) : Type 0 where
  pub icmp : (number == icmp_number) ≡ (old_number == old_icmp_number)
  pub udp : (number == udp_number) ≡ (old_number == udp_number)
  pub tcp : (number == tcp_number) ≡ (old_number == tcp_number)

-- ICMP and ICMPv6 are exchanged; no other protocol has the new number
exchanged : (is_icmp : Bool) (number old_icmp icmp : ℕ) → (number == old_icmp) ≡ is_icmp → number ≢ icmp
    → (old_icmp == udp_number) ≡ false → (old_icmp == tcp_number) ≡ false → (icmp == udp_number) ≡ false → (icmp == tcp_number) ≡ false
    → AreAlike icmp (if is_icmp then icmp else number) old_icmp number
exchanged true number old_icmp icmp is other old_udp old_tcp udp tcp =
    let same : number ≡ old_icmp = equal number old_icmp is in
    record {
      icmp = same_self icmp ∙ sym is;
      udp = udp ∙ sym (ap (λ number. number == udp_number) same ∙ old_udp);
      tcp = tcp ∙ sym (ap (λ number. number == tcp_number) same ∙ old_tcp);
    }
  where
    same_self : (n : ℕ) → (n == n) ≡ true
    same_self n = grind (arith, nat_tests)
exchanged false number old_icmp icmp is other old_udp old_tcp udp tcp =
    record { icmp = unequal number icmp other ∙ sym is; udp = refl; tcp = refl }

pub next_alike : (protocol : ℕ) → protocol ≢ icmpv6_number → AreAlike icmpv6_number (next_header protocol) icmpv4_number protocol
next_alike protocol other = exchanged (protocol == icmpv4_number) protocol icmpv4_number icmpv6_number refl other refl refl refl refl

pub protocol_alike : (number : ℕ) → number ≢ icmpv4_number → AreAlike icmpv4_number (back.protocol_of number) icmpv6_number number
protocol_alike number other = exchanged (number == icmpv6_number) number icmpv6_number icmpv4_number refl other refl refl refl refl

-- the number of the protocol, translated to IPv4 and back
pub number_back : (number : ℕ) → number ≢ icmpv4_number → next_header (back.protocol_of number) ≡ number
number_back number other = cases (number == icmpv6_number) refl
  where
    cases : (test : Bool) → (number == icmpv6_number) ≡ test → next_header (back.protocol_of number) ≡ number
    cases true is =
        let same : number ≡ icmpv6_number = equal number icmpv6_number is in
        ap (λ number. next_header (back.protocol_of number)) same ∙ sym same
    cases false is =
        ap next_header (ap (λ test. if test then icmpv4_number else number) is)
        ∙ ap (λ test. if test then icmpv6_number else number) (unequal number icmpv4_number other)

-- the next header is no extension header if the protocol is no extension header
pub no_extension_next : (protocol : ℕ) → back.is_extension protocol ≡ false → back.is_extension (next_header protocol) ≡ false
no_extension_next protocol other = cases (protocol == icmpv4_number)
  where
    cases : (test : Bool) → back.is_extension (if test then icmpv6_number else protocol) ≡ false
    cases true = refl
    cases false = other

-- the message is at least as long as its header
pub record IsLong (icmp_number protocol : ℕ) (message : List ℕ) : Type 0 where
  pub icmp : protocol ≡ icmp_number → 8 ≤ length message
  pub udp : protocol ≡ udp_number → 8 ≤ length message
  pub tcp : protocol ≡ tcp_number → 20 ≤ length message

-- an echo message is no error
pub is_no_error : (icmp long other : Bool) → (icmp ≡ true → other ≡ false) → (icmp && (long && other)) ≡ false
is_no_error false long other echo = refl
is_no_error true false other echo = refl
is_no_error true true other echo = echo refl

pub is_echo : (icmp long other : Bool) → (icmp && (long && other)) ≡ false → icmp ≡ true → long ≡ true → other ≡ false
is_echo true true other none is is_long = none
is_echo false long other none is is_long = absurd (true≢false (sym is))
is_echo true false other none is is_long = absurd (true≢false (sym is_long))

-- ---- a message without extension headers

-- no test of an extension header is true
no_extension : (a b c d : Bool) → (a || (b || (c || d))) ≡ false → ((a || (b || d)) ≡ false) × (c ≡ false)
no_extension false false false false none = (refl, refl)
no_extension true b c d none = absurd (true≢false none)
no_extension false true c d none = absurd (true≢false none)
no_extension false false true d none = absurd (true≢false none)
no_extension false false false true none = absurd (true≢false none)

-- no header is skipped before a message of this protocol
pub skips_none : (number : ℕ) (message : List ℕ) → back.is_extension number ≡ false
    → with_fragment_header (skipped_headers number message) message ≡ Ok (none_skipped number)
skips_none number message other =
    let tests = no_extension (number == 0) (number == 43) (number == 44) (number == 60) other in
    ap (λ skipped. with_fragment_header skipped message)
    (ended_at (none_skipped number) (none_skipped number) message (reached_first (none_skipped number) message (omega arith)) tests.0)
    ∙ ap (λ test. if test then unless_refused (fragment_header_refusal (drop 0 message))
    (Ok (fragment_after (none_skipped number) (drop 0 message))) else Ok (none_skipped number)) tests.1

-- ---- an IPv6 packet that consists of a header and a message

module _ (class len number hop : ℕ) (source destination message : List ℕ) (class_small : class < 256) (small : length message < 65536)
    (counted : length message ≡ len) (sixteen : length source ≡ 16) (sixteen_too : length destination ≡ 16)
    (other : back.is_extension number ≡ false) where
  abbrev pub header : List ℕ
  header = ipv6_header class len (number ∷ hop ∷ []) source destination

  header_len : length header ≡ 40
  header_len = omega (arith, sixteen, sixteen_too, length-append source destination)

  payload_is : ipv4.payload_after header (header ++ message) ≡ message
  payload_is =
      ap (take (40 + back.payload_len header - 40)) (drop_at header message 40 header_len)
      ∙ take_all (40 + back.payload_len header - 40) message (omega (arith, small, counted))

  header_same : header ≡ ipv4.header_before header number message
  header_same =
      let same_class : back.traffic_class header ≡ class = omega (arith, class_small) in
      ap₂ (λ class len. ipv6_header class len (number ∷ hop ∷ []) source destination) (sym same_class) (sym counted)
      ∙ ap₂ (λ source destination. ipv6_header (back.traffic_class header) (length message) (number ∷ hop ∷ []) source destination)
      (sym (source_of class len number hop source destination sixteen))
      (sym (destination_of class len number hop source destination sixteen sixteen_too))

  pub packet_to_ipv4 : (prefixes : Prefixes) (identification : ℕ)
      → ipv4.translated_packet prefixes identification (header ++ message)
      ≡ ipv4.translation_of header prefixes (whole identification) message
  packet_to_ipv4 prefixes identification =
      let Holds : List ℕ → FragmentFields → List ℕ → Type 0 = λ direct fields part.
      ipv4.direct_translation direct prefixes fields part ≡ ipv4.translation_of header prefixes (whole identification) message in
      let HoldsIn : List ℕ → List ℕ → Type 0 = λ front payload.
      Holds (ipv4.direct_in front payload) (ipv4.fields_in identification front payload) (ipv4.message_in front payload) in
      subst (λ front. HoldsIn front (ipv4.payload_after front (header ++ message))) (sym (take_at header message 40 header_len))
      (subst (HoldsIn header) (sym payload_is)
      (moved Holds identification header message header message (whole identification)
      (is_direct identification header message header message (whole identification) (none_skipped number)
      (skips_none number message other) refl header_same refl) refl))
