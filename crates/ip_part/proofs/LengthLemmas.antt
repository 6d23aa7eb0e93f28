-- Laws of the length that a header states.
use Rattle.std.proofs.Common.{◌≡◌, ℕ, ◌+◌, ◌≤◌, ◌==◌, nat_lt, Bool, true, false, not, ◌&&◌, if◌then◌else◌, List, [], ◌∷◌, length, length-drop, length-take, take, drop, Option, Some, None, is_none, unwrap_or, Result, Err, refl, sym, ◌∙◌, ap, arith, min}
use Rattle.std.proofs.lemmas.Bool.Decides.{nat_tests}
use Rattle.std.proofs.lemmas.List.{take_min}
use Rattle.std.proofs.lemmas.Bool.{ltb-false}
use Rattle.net_base.specs.IpHeaders.{ipv4_header_len, version}
use Rattle.net_base.specs.Refusals.{first_of, refused_if}
use Rattle.ip_part.proofs.HeadersLemmas.{ended, reached_first, refused_at}
use Rattle.ip_part.specs.Ip.{counted, counted_len, error_of, extension_refusal, first_headers, header_refusal, headers_of, ipv4_header, ipv4_headers, ipv6_header, ipv6_headers, ipv6_stated_len, is_cut_off, is_extended, is_jumbogram, jumbo_len, lacks_len, lax_refusal, missing_len_refusal, next_header, own_len_refusal, payload_len, refusal, stated_len, strict_header_refusal, total_len}
use Rattle.ip_part.specs.Headers.{Headers}
use Rattle.ip_part.specs.Addresses.{Ipv4}
use Rattle.ip_part.specs.declared.ip_error.IpError.{IpError}
use Rattle.ip_part.specs.declared.ip_error.IpError.TheVariants.{ExtensionHeaderCutOff, PacketCutOff, TotalLength}

-- ---- the stated length is counted

some_is_none : {A : Type 0} (a : A) → Some a ≡ None → ⊥
some_is_none a is = cc is

some_unless : (is : Bool) (value len : ℕ) → (if is then None else Some value) ≡ Some len → len ≡ value
some_unless true value len is = absurd (some_is_none len (sym is))
some_unless false value len is = cc is

none_unless : (is : Bool) (value : ℕ) → (if is then None else Some value) ≡ None → is ≡ true
none_unless true value is = refl
none_unless false value is = absurd (some_is_none value is)

no_value : (value : Option ℕ) → is_none value ≡ true → value ≡ None
no_value None is = refl
no_value (Some n) is = absurd (cc is)

zero_by : (n : ℕ) → (n == 0) ≡ true → n ≡ 0
zero_by n is = grind (arith, nat_tests)

first_true : (a b : Bool) → (a && b) ≡ true → a ≡ true
first_true true b is = refl
first_true false b is = absurd (cc is)

stated_by : (is_four : Bool) (total payload next : ℕ) (jumbo : Option ℕ) (len : ℕ)
    → (if is_four then (if total == 0 then None else Some total) else ipv6_stated_len jumbo payload next) ≡ Some len
    → len ≡ (if is_four then total else 40 + unwrap_or jumbo payload)
stated_by true total payload next jumbo len is = some_unless (total == 0) total len is
stated_by false total payload next (Some jumbo) len is = cc is
stated_by false total payload next None len is = some_unless (payload == 0 && not (next == 59)) (40 + payload) len is

pub stated_is_counted : (packet : List ℕ) (len : ℕ) → stated_len packet ≡ Some len → len ≡ counted_len false packet
stated_is_counted packet len is =
    stated_by (version packet == 4) (total_len packet) (payload_len packet) (next_header packet) (jumbo_len packet) len is

-- a header that may state no length, and states none, counts its own bytes
own_by : (is_four : Bool) (four six : Headers) (source destination : List ℕ) (total payload next : ℕ) (jumbo : Option ℕ)
    → four.addresses ≡ Ipv4 source destination → six.len ≡ 40
    → (if is_four then (if total == 0 then None else Some total) else ipv6_stated_len jumbo payload next) ≡ None
    → missing_len_refusal (if is_four then four else six) ≡ None
    → (if is_four then four else six).len ≡ (if is_four then total else 40 + unwrap_or jumbo payload)
own_by true four six source destination total payload next jumbo is len none accepted =
    absurd (some_is_none (TotalLength 0 four.len)
    (ap (λ addresses. own_len_refusal addresses four.protocol.0 four.len) (sym is) ∙ accepted))
own_by false four six source destination total payload next (Some jumbo) is len none accepted =
    absurd (some_is_none (40 + jumbo) none)
own_by false four six source destination total payload next None is len none accepted =
    len ∙ omega (
      arith,
      zero_by payload (first_true (payload == 0) (not (next == 59))
          (none_unless (payload == 0 && not (next == 59)) (40 + payload) none)),
    )

pub own_is_counted : (packet : List ℕ) → stated_len packet ≡ None → missing_len_refusal (first_headers packet) ≡ None
    → (first_headers packet).len ≡ counted_len false packet
own_is_counted packet none accepted =
    own_by (version packet == 4) (ipv4_headers (ipv4_header_len packet) (ipv4_header packet))
    (ipv6_headers (is_jumbogram packet) (ipv6_header packet))
    _ _ (total_len packet) (payload_len packet) (next_header packet) (jumbo_len packet) refl refl none accepted

-- if the length may be missing, the stated length or all bytes are counted
lax_by : (stated : Option ℕ) (counts len : ℕ) → ((n : ℕ) → stated ≡ Some n → n ≡ counts)
    → unwrap_or stated len ≡ (if is_none stated then len else counts)
lax_by None counts len same = refl
lax_by (Some n) counts len same = same n refl

pub lax_is_counted : (packet : List ℕ) → unwrap_or (stated_len packet) (length packet) ≡ counted_len (lacks_len packet) packet
lax_is_counted packet = lax_by (stated_len packet) (counted_len false packet) (length packet) (λ n is. stated_is_counted packet n is)

-- ---- the lax call accepts what the strict call accepts

none_if : (is : Bool) (error : IpError) → refused_if is error ≡ None → is ≡ false
none_if true error none = absurd (some_is_none error none)
none_if false error none = refl

all_none : (a b c : Option IpError) → first_of (a ∷ b ∷ c ∷ []) ≡ None → (a ≡ None) × (b ≡ None) × (c ≡ None)
all_none (Some error) b c none = absurd (some_is_none error none)
all_none None (Some error) c none = absurd (some_is_none error none)
all_none None None (Some error) none = absurd (some_is_none error none)
all_none None None None none = (refl, refl, refl)

both_none : (a b : Option IpError) → first_of (a ∷ b ∷ []) ≡ None → (a ≡ None) × (b ≡ None)
both_none (Some error) b none = absurd (some_is_none error none)
both_none None (Some error) none = absurd (some_is_none error none)
both_none None None none = (refl, refl)

-- no byte is left for an extension header
no_byte_left : (headers : Headers) (rest : List ℕ) → length rest ≡ 0
    → extension_refusal headers rest ≡ Some (ExtensionHeaderCutOff headers.protocol headers.len 8 (length rest))
no_byte_left headers [] none = refl
no_byte_left headers (byte ∷ rest) none = absurd (omega (arith, none))

-- no extension header follows if the first headers fill the counted bytes
none_comes : (is : Bool) (packet : List ℕ) → is_extended (first_headers packet) ≡ is → (first_headers packet).len ≡ counted_len false packet
    → counted_len false packet ≤ length packet → error_of (headers_of false packet) ≡ None → is ≡ false
none_comes false packet extended own there none = refl
none_comes true packet extended own there none =
    let first : Headers = first_headers packet in
    let bytes : List ℕ = counted false packet in
    let rest : List ℕ = drop first.len bytes in
    let len : length bytes ≡ first.len = omega (arith, own, there, length-take (counted_len false packet) packet) in
    let empty : length rest ≡ 0 = omega (arith, len, length-drop first.len bytes) in
    let refuses : headers_of false packet ≡ Err (ExtensionHeaderCutOff first.protocol first.len 8 (length rest)) =
    refused_at first first bytes rest _ refl (reached_first first bytes (omega (arith, len))) extended (no_byte_left first rest empty) in
    absurd (some_is_none (ExtensionHeaderCutOff first.protocol first.len 8 (length rest)) (sym (ap error_of refuses) ∙ none))

not_below_itself : (n : ℕ) → nat_lt n n ≡ false
not_below_itself n = grind (arith, nat_tests)

accepted_by : (missing : Bool) (packet : List ℕ) → is_none (stated_len packet) ≡ missing
    → (if missing then missing_len_refusal (first_headers packet) else None) ≡ None
    → is_cut_off false packet ≡ false → error_of (headers_of false packet) ≡ None
    → (is_cut_off missing packet ≡ false) × (error_of (headers_of missing packet) ≡ None)
accepted_by false packet is accepted whole none = (whole, none)
accepted_by true packet is accepted whole none =
    let own = own_is_counted packet (no_value (stated_len packet) is) accepted in
    let last : is_extended (first_headers packet) ≡ false =
    none_comes (is_extended (first_headers packet)) packet refl own (ltb-false (length packet) (counted_len false packet) whole) none in (
      not_below_itself (length packet),
      ap error_of (ended (length (counted true packet)) (first_headers packet) (counted true packet) last),
    )

pub accepted_too : (packet : List ℕ) → refusal packet ≡ None
    → (is_cut_off (lacks_len packet) packet ≡ false) × (error_of (headers_of (lacks_len packet) packet) ≡ None)
accepted_too packet none =
    let parts = all_none (strict_header_refusal packet)
    (refused_if (is_cut_off false packet) (PacketCutOff (counted_len false packet) (length packet)))
    (error_of (headers_of false packet)) none in
    accepted_by (lacks_len packet) packet refl (both_none (header_refusal packet) _ parts.0).1
    (none_if (is_cut_off false packet) (PacketCutOff (counted_len false packet) (length packet)) parts.1) parts.2

-- there is no error if the strict call accepts the packet
pub no_error : (packet : List ℕ) (error : IpError) → headers_of (lacks_len packet) packet ≡ Err error → refusal packet ≡ None → ⊥
no_error packet error is none = some_is_none error (sym (ap error_of is) ∙ (accepted_too packet none).1)

-- ---- which packets the lax call refuses, and the bytes that it counts

pub turned : (a b : Bool) → b ≡ not a → a ≡ not b
turned true b is = sym (ap not is)
turned false b is = sym (ap not is)

after_none : (error : Option IpError) → first_of (None ∷ error ∷ []) ≡ error
after_none None = refl
after_none (Some error) = refl

pub lax_answer : (packet : List ℕ) (result : Result Headers IpError) → header_refusal packet ≡ None
    → headers_of (lacks_len packet) packet ≡ result
    → lax_refusal packet ≡ error_of result
lax_answer packet result none is =
    ap (λ header. first_of (header ∷ error_of (headers_of (lacks_len packet) packet) ∷ [])) none
    ∙ after_none (error_of (headers_of (lacks_len packet) packet)) ∙ ap error_of is

pub lax_bytes : (packet : List ℕ) (counts len : ℕ) → counts ≡ unwrap_or (stated_len packet) (length packet)
    → len ≡ min counts (length packet)
    → take len packet ≡ counted (lacks_len packet) packet
lax_bytes packet counts len is least =
    ap (λ n. take n packet) least ∙ take_min counts packet ∙ ap (λ n. take n packet) (is ∙ lax_is_counted packet)

-- ---- one of several rules

pub where_it_is : (is : Bool) (refusal : Option IpError) (Refuses : Option IpError → Type 0) → is ≡ true → Refuses refusal
    → Refuses (if is then refusal else None)
where_it_is true refusal Refuses is refuses = refuses
where_it_is false refusal Refuses is refuses = absurd (cc is)
