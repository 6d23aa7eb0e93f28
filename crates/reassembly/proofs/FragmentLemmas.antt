-- Laws of packets whose headers were read: their counted bytes begin with an IP header.
use Rattle.std.proofs.Common.{◌≡◌, ◌≢◌, ℕ, suc, ◌+◌, ◌*◌, ◌/◌, ◌%◌, ◌<◌, ◌≤◌, nat_lt, ◌==◌, Bool, true, false, not, ◌&&◌, if◌then◌else◌, List, [], ◌∷◌, length, take, drop, Option, Some, None, is_none, slice_index, unwrap_or, Ok, refl, sym, ◌∙◌, ap, subst, arith}
use Rattle.std.proofs.lemmas.Bool.{ltb-false}
use Rattle.std.proofs.lemmas.Bool.Decides.{nat_tests}
use Rattle.std.proofs.lemmas.List.{get_or-take, length-take-le}
use Rattle.net_base.specs.IpHeaders.{BeginsWithIpv4Header, BeginsWithIpv6Header, ipv4_fragment_offset, ipv4_header_len, version}
use Rattle.net_base.specs.Refusals.{first_of, refused_if}
use Rattle.ip_part.specs.ExtensionHeaders.{authentication, is_extension}
use Rattle.ip_part.specs.Ip.{counted, counted_len, error_of, extension_header, extension_refusal, first_headers, headers_after, headers_of, headers_to_transport, header_refusal, ipv4_header, ipv4_header_refusal, ipv4_headers, ipv4_refusal, ipv4_stated_len, ipv6_header, ipv6_headers, ipv6_refusal, ipv6_stated_len, is_cut_off, is_extended, is_jumbogram, jumbo_len, lacks_len, missing_len_refusal, next_header, payload_len, refusal, strict_header_refusal, total_len, unless_refused}
use Rattle.ip_part.specs.Headers.{Headers}
use Rattle.std.specs.Option.{option_map}
use Rattle.reassembly.specs.Fragments.{first_refusal, fragment_of, fragment_refusal, ipv4_fragment_in, ipv6_fragment_in, transport_refusal}
use Rattle.reassembly.specs.declared.fragment_error.FragmentError.TheVariants.{Ip}
use Rattle.ip_part.specs.declared.ip_error.IpError.{IpError}
use Rattle.ip_part.specs.declared.ip_error.IpError.TheVariants.{HeaderCutOff, HeaderLength, PacketCutOff, TotalLength, Version}

some_is_none : {A : Type 0} (a : A) → Some a ≡ None → ⊥
some_is_none a is = cc is

pub first_none : {E : Type 0} (rule : Option E) (rules : List (Option E)) → first_of (rule ∷ rules) ≡ None → rule ≡ None
first_none None rules none = refl
first_none (Some error) rules none = none

pub next_none : {E : Type 0} (rule : Option E) (rules : List (Option E)) → first_of (rule ∷ rules) ≡ None → first_of rules ≡ None
next_none None rules none = none
next_none (Some error) rules none = absurd (some_is_none error none)

pub none_if : {E : Type 0} (is : Bool) (error : E) → refused_if is error ≡ None → is ≡ false
none_if true error none = absurd (some_is_none error none)
none_if false error none = refl

-- a header is refused by the rules of its version
by_version : (empty four six : Bool) (a b : IpError) (four_refusal six_refusal : Option IpError)
    → (if empty then Some a else if four then four_refusal else if six then six_refusal else Some b) ≡ None
    → (empty ≡ false) × (four ≡ true → four_refusal ≡ None) × (four ≡ false → (six ≡ true) × (six_refusal ≡ None))
by_version true four six a b four_refusal six_refusal none = absurd (some_is_none a none)
by_version false true six a b four_refusal six_refusal none = (refl, λ _. none, λ other. absurd (cc other))
by_version false false true a b four_refusal six_refusal none = (refl, λ other. absurd (cc other), λ _. (refl, none))
by_version false false false a b four_refusal six_refusal none = absurd (some_is_none b none)

strict : (packet : List ℕ) → refusal packet ≡ None → strict_header_refusal packet ≡ None
strict packet none = first_none (strict_header_refusal packet) _ none

header_accepted : (packet : List ℕ) → refusal packet ≡ None → header_refusal packet ≡ None
header_accepted packet none = first_none (header_refusal packet) _ (strict packet none)

pub not_empty : (packet : List ℕ) → refusal packet ≡ None → 0 < length packet
not_empty packet none =
    let parts = by_version (length packet == 0) (version packet == 4) (version packet == 6) (HeaderCutOff 1 0) (Version (version packet))
    (ipv4_refusal packet) (ipv6_refusal packet) (header_accepted packet none) in
    grind (arith, nat_tests, parts.0)

pub there : (packet : List ℕ) → refusal packet ≡ None → counted_len false packet ≤ length packet
there packet none =
    let rest = next_none (strict_header_refusal packet) _ none in
    ltb-false (length packet) (counted_len false packet)
    (none_if (is_cut_off false packet) _ (first_none (refused_if (is_cut_off false packet) _) _ rest))

total_long : (total header_len : ℕ) → (missing : Bool) → (total == 0) ≡ missing
    → (if is_none (if missing then None else Some total) then Some (TotalLength 0 header_len) else None) ≡ None
    → refused_if (not missing && nat_lt total header_len) (TotalLength total header_len) ≡ None
    → header_len ≤ total
total_long total header_len true is missing none = absurd (some_is_none (TotalLength 0 header_len) missing)
total_long total header_len false is missing none =
    ltb-false total header_len (none_if (nat_lt total header_len) (TotalLength total header_len) none)

-- the version of the counted bytes is the version of the packet
same_version : (packet : List ℕ) (len : ℕ) → 0 < len → version (take len packet) ≡ version packet
same_version packet len some = ap (λ byte. byte / 16) (get_or-take len packet 0 0 some)

same_header_len : (packet : List ℕ) (len : ℕ) → 0 < len → ipv4_header_len (take len packet) ≡ ipv4_header_len packet
same_header_len packet len some = ap (λ byte. byte % 16 * 4) (get_or-take len packet 0 0 some)

is_number : (a b : ℕ) → (a == b) ≡ true → a ≡ b
is_number a b is = grind (arith, nat_tests)

equal_true : (a b : ℕ) → a ≡ b → (a == b) ≡ true
equal_true a b is = grind (arith, nat_tests)

pub begins_with_ipv4 : (packet : List ℕ) → refusal packet ≡ None → (version packet == 4) ≡ true
    → BeginsWithIpv4Header (counted false packet)
begins_with_ipv4 packet none four =
    let parts = by_version (length packet == 0) (version packet == 4) (version packet == 6) (HeaderCutOff 1 0) (Version (version packet))
    (ipv4_refusal packet) (ipv6_refusal packet) (header_accepted packet none) in
    let rules : ipv4_refusal packet ≡ None = parts.1 four in
    let header : ipv4_header_refusal packet ≡ None = first_none (ipv4_header_refusal packet) _ rules in
    let five : 20 ≤ ipv4_header_len packet =
    ltb-false (ipv4_header_len packet) 20 (none_if (nat_lt (ipv4_header_len packet) 20) _
    (first_none _ _ (next_none (refused_if (nat_lt (length packet) 20) _) _ header))) in
    let stated : (if lacks_len packet then missing_len_refusal (first_headers packet) else None) ≡ None =
    first_none (if lacks_len packet then missing_len_refusal (first_headers packet) else None) []
    (next_none (header_refusal packet) _ (strict packet none)) in
    let by_four : (if is_none (if total_len packet == 0 then None else Some (total_len packet))
    then Some (TotalLength 0 (ipv4_header_len packet)) else None) ≡ None =
    sym (ap (λ v. if is_none (if v then (if total_len packet == 0 then None else Some (total_len packet))
    else ipv6_stated_len (jumbo_len packet) (payload_len packet) (next_header packet))
    then missing_len_refusal (if v then ipv4_headers (ipv4_header_len packet) (ipv4_header packet)
    else ipv6_headers (is_jumbogram packet) (ipv6_header packet)) else None) four) ∙ stated in
    let long : ipv4_header_len packet ≤ total_len packet =
    total_long (total_len packet) (ipv4_header_len packet) (total_len packet == 0) refl by_four
    (first_none (refused_if (not (total_len packet == 0) && nat_lt (total_len packet) (ipv4_header_len packet)) _) []
    (next_none (ipv4_header_refusal packet) _ rules)) in
    let len_is : counted_len false packet ≡ total_len packet =
    ap (λ v. if v then total_len packet else 40 + unwrap_or (jumbo_len packet) (payload_len packet)) four in
    let len : length (counted false packet) ≡ counted_len false packet =
    length-take-le (counted_len false packet) packet (there packet none) in
    let some : 0 < counted_len false packet = omega (arith, five, long, len_is) in
    record {
      shortest = omega (arith, len, len_is, five, long);
      is_version_4 = same_version packet (counted_len false packet) some ∙ is_number (version packet) 4 four;
      five_words = omega (arith, same_header_len packet (counted_len false packet) some, five);
      whole = omega (arith, same_header_len packet (counted_len false packet) some, len, len_is, long);
    }

pub begins_with_ipv6 : (packet : List ℕ) → refusal packet ≡ None → (version packet == 4) ≡ false
    → BeginsWithIpv6Header (counted false packet)
begins_with_ipv6 packet none other =
    let parts = by_version (length packet == 0) (version packet == 4) (version packet == 6) (HeaderCutOff 1 0) (Version (version packet))
    (ipv4_refusal packet) (ipv6_refusal packet) (header_accepted packet none) in
    let six : (version packet == 6) ≡ true = (parts.2 other).0 in
    let len_is : counted_len false packet ≡ 40 + unwrap_or (jumbo_len packet) (payload_len packet) =
    ap (λ v. if v then total_len packet else 40 + unwrap_or (jumbo_len packet) (payload_len packet)) other in
    let len : length (counted false packet) ≡ counted_len false packet =
    length-take-le (counted_len false packet) packet (there packet none) in
    record {
      whole = omega (arith, len, len_is);
      is_version_6 = same_version packet (counted_len false packet) (omega (arith, len_is)) ∙ is_number (version packet) 6 six;
    }

-- ---- an IPv4 packet without an authentication header is accepted

not_three : {E : Type 0} (a b c : Bool) (x y z : E) → a ≡ false → b ≡ false → c ≡ false
    → first_of (refused_if a x ∷ refused_if b y ∷ refused_if c z ∷ []) ≡ None
not_three true b c x y z first second third = absurd (cc first)
not_three false true c x y z first second third = absurd (cc second)
not_three false false true x y z first second third = absurd (cc third)
not_three false false false x y z first second third = refl

-- no error of three parts
none_of_three : {E : Type 0} (a b c : Option E) → a ≡ None → b ≡ None → c ≡ None → first_of (a ∷ b ∷ c ∷ []) ≡ None
none_of_three a b c first second third =
    ap (λ a. first_of (a ∷ b ∷ c ∷ [])) first ∙ ap (λ b. first_of (b ∷ c ∷ [])) second ∙ ap (λ c. first_of (c ∷ [])) third

none_of_two : {E : Type 0} (a b : Option E) → a ≡ None → b ≡ None → first_of (a ∷ b ∷ []) ≡ None
none_of_two a b first second = ap (λ a. first_of (a ∷ b ∷ [])) first ∙ ap (λ b. first_of (b ∷ [])) second

headers_end : (more : ℕ) (headers : Headers) (bytes : List ℕ) → is_extended headers ≡ false
    → error_of (headers_to_transport (suc more) headers bytes) ≡ None
unfolding headers_to_transport
headers_end more headers bytes ended =
    ap (λ b. error_of (if b then unless_refused (extension_refusal headers (drop headers.len bytes))
    (headers_to_transport more (headers_after headers (extension_header headers (drop headers.len bytes))) bytes) else Ok headers)) ended

no_authentication : (number : ℕ) (b c : Bool) → (number == authentication) ≡ false → ((number == authentication && b) && c) ≡ false
no_authentication number b c other = ap (λ a. (a && b) && c) other

pub ipv4_accepted : (packet : List ℕ) → BeginsWithIpv4Header packet → ipv4_header_len packet ≤ total_len packet
    → total_len packet ≤ length packet → (slice_index (ipv4_header packet) 9 == authentication) ≡ false → refusal packet ≡ None
ipv4_accepted packet begins long there other =
    let four : (version packet == 4) ≡ true = equal_true (version packet) 4 begins.is_version_4 in
    let some : (length packet == 0) ≡ false = grind (arith, nat_tests, begins.shortest) in
    let stated : (total_len packet == 0) ≡ false = grind (arith, nat_tests, begins.five_words, long) in
    let shortest : nat_lt (length packet) 20 ≡ false = grind (arith, nat_tests, begins.shortest) in
    let five : nat_lt (ipv4_header_len packet) 20 ≡ false = grind (arith, nat_tests, begins.five_words) in
    let whole : nat_lt (length packet) (ipv4_header_len packet) ≡ false = grind (arith, nat_tests, begins.whole) in
    let total : nat_lt (total_len packet) (ipv4_header_len packet) ≡ false = grind (arith, nat_tests, long) in
    let header : ipv4_header_refusal packet ≡ None =
    not_three (nat_lt (length packet) 20) (nat_lt (ipv4_header_len packet) 20) (nat_lt (length packet) (ipv4_header_len packet))
    (HeaderCutOff 20 (length packet)) (HeaderLength (ipv4_header_len packet)) (HeaderCutOff (ipv4_header_len packet) (length packet))
    shortest five whole in
    let rules : ipv4_refusal packet ≡ None =
    none_of_two (ipv4_header_refusal packet)
    (refused_if (not (total_len packet == 0) && nat_lt (total_len packet) (ipv4_header_len packet))
    (TotalLength (total_len packet) (ipv4_header_len packet))) header
    (ap (λ b. refused_if (not b && nat_lt (total_len packet) (ipv4_header_len packet))
    (TotalLength (total_len packet) (ipv4_header_len packet))) stated
    ∙ ap (λ b. refused_if b (TotalLength (total_len packet) (ipv4_header_len packet))) total) in
    let accepted : header_refusal packet ≡ None =
    ap (λ b. if b then Some (HeaderCutOff 1 0) else if version packet == 4 then ipv4_refusal packet
    else if version packet == 6 then ipv6_refusal packet else Some (Version (version packet))) some
    ∙ ap (λ b. if b then ipv4_refusal packet
    else if version packet == 6 then ipv6_refusal packet else Some (Version (version packet))) four
    ∙ rules in
    let has_len : lacks_len packet ≡ false =
    ap (λ b. is_none (if b then ipv4_stated_len packet
    else ipv6_stated_len (jumbo_len packet) (payload_len packet) (next_header packet))) four
    ∙ ap (λ b. is_none (if b then None else Some (total_len packet))) stated in
    let len_is : counted_len false packet ≡ total_len packet =
    ap (λ v. if v then total_len packet else 40 + unwrap_or (jumbo_len packet) (payload_len packet)) four in
    let cut_off : is_cut_off false packet ≡ false = grind (arith, nat_tests, len_is, there) in
    let ended : is_extended (first_headers packet) ≡ false =
    ap (λ v. is_extended (if v then ipv4_headers (ipv4_header_len packet) (ipv4_header packet)
    else ipv6_headers (is_jumbogram packet) (ipv6_header packet))) four
    ∙ no_authentication (slice_index (ipv4_header packet) 9) (ipv4_fragment_offset (ipv4_header packet) == 0)
    (is_extension (slice_index (ipv4_header packet) 9)) other in
    none_of_three (strict_header_refusal packet)
    (refused_if (is_cut_off false packet) (PacketCutOff (counted_len false packet) (length packet)))
    (error_of (headers_of false packet))
    (none_of_two (header_refusal packet) (if lacks_len packet then missing_len_refusal (first_headers packet) else None) accepted
    (ap (λ b. if b then missing_len_refusal (first_headers packet) else None) has_len))
    (ap (λ b. refused_if b (PacketCutOff (counted_len false packet) (length packet))) cut_off)
    (headers_end (length (counted false packet)) (first_headers packet) (counted false packet) ended)

pub fragment_accepted : (packet : List ℕ) → refusal packet ≡ None → (version packet == 4) ≡ true → fragment_refusal packet ≡ None
fragment_accepted packet none four =
    ap (λ refused. first_of (option_map Ip refused
    ∷ (if version packet == 4 then None else transport_refusal packet (headers_of false packet)) ∷ [])) none
    ∙ ap (λ b. first_of ((if b then None else transport_refusal packet (headers_of false packet)) ∷ [])) four

pub counted_is : (packet : List ℕ) → (version packet == 4) ≡ true → counted false packet ≡ take (total_len packet) packet
counted_is packet four = ap (λ v. take (if v then total_len packet else 40 + unwrap_or (jumbo_len packet) (payload_len packet)) packet) four

pub fragment_is : (packet : List ℕ) → (version packet == 4) ≡ true → fragment_of packet ≡ ipv4_fragment_in (take (total_len packet) packet)
fragment_is packet four =
    ap (λ b. if b then ipv4_fragment_in (counted false packet) else ipv6_fragment_in (counted false packet)) four
    ∙ ap ipv4_fragment_in (counted_is packet four)

pub begins_by_total : (packet : List ℕ) → refusal packet ≡ None → (version packet == 4) ≡ true
    → BeginsWithIpv4Header (take (total_len packet) packet)
begins_by_total packet none four = subst BeginsWithIpv4Header (counted_is packet four) (begins_with_ipv4 packet none four)

-- ---- what is refused

only : {E : Type 0} (rule : Option E) → first_of (None ∷ rule ∷ []) ≡ rule
only None = refl
only (Some error) = refl

pub equal_four : (packet : List ℕ) → version packet ≡ 4 → (version packet == 4) ≡ true
equal_four packet is = equal_true (version packet) 4 is

pub other_than_four : (packet : List ℕ) → version packet ≢ 4 → (version packet == 4) ≡ false
other_than_four packet is = grind (arith, nat_tests, is)

pub refused_ipv6 : (packet payload : List ℕ) (protocol : ℕ) (headers : Headers) → refusal packet ≡ None → (version packet == 4) ≡ false
    → headers_of false packet ≡ Ok headers → protocol ≡ headers.protocol.0 → payload ≡ drop headers.len (counted false packet)
    → fragment_refusal packet ≡ first_refusal (fragment_of packet) protocol payload
refused_ipv6 packet payload protocol headers none other read protocol_is payload_is =
    ap (λ refused. first_of (option_map Ip refused
    ∷ (if version packet == 4 then None else transport_refusal packet (headers_of false packet)) ∷ [])) none
    ∙ only (if version packet == 4 then None else transport_refusal packet (headers_of false packet))
    ∙ ap (λ b. if b then None else transport_refusal packet (headers_of false packet)) other
    ∙ ap (transport_refusal packet) read
    ∙ ap (λ n. first_refusal (fragment_of packet) n (drop headers.len (counted false packet))) (sym protocol_is)
    ∙ ap (first_refusal (fragment_of packet) protocol) (sym payload_is)
