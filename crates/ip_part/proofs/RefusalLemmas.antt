-- Laws of how a packet is refused after its IP header: whole extension headers come first, and then the header that is refused.
use Rattle.std.proofs.Common.{◌≡◌, ◌≢◌, ℕ, zero, suc, ◌+◌, ◌<◌, ◌≤◌, inl, inr, ◌==◌, nat_lt, Bool, true, false, not, ◌&&◌, ◌||◌, if◌then◌else◌, List, [], ◌∷◌, ◌++◌, length, slice_index, take, drop, length-append, length-take, Option, Some, None, is_some, Ok, Err, refl, sym, ◌∙◌, ap, subst, arith}
use Rattle.std.proofs.lemmas.List.{append_assoc, drop-drop, take-append-drop, take-take}
use Rattle.std.proofs.lemmas.Bool.{ltb-false}
use Rattle.std.proofs.lemmas.Bool.Decides.{nat_tests}
use Rattle.net_base.specs.IpHeaders.{ipv4_header_len, version}
use Rattle.net_base.specs.Refusals.{first_of, refused_if}
use Rattle.ip_part.proofs.ReadingLemmas.{and_parts, both_whole, first_front, same_version, whole_front}
use Rattle.ip_part.specs.Addresses.{is_ipv6}
use Rattle.ip_part.specs.ExtensionHeaders.{ExtensionHeader, LeadsTo, RefusesNext, begins_with_jumbo_payload, bytes_of, extension_len, has_fragment_header, is_extension, is_later_fragment, next_number}
use Rattle.ip_part.specs.Headers.{Headers}
use Rattle.ip_part.specs.Ip.{IsRefusedAfterHeaders, counted, counted_len, extension_header, extension_refusal, first_headers, has_authentication, headers_after, headers_of, headers_to_transport, ip_header, ipv4_header, ipv4_headers, ipv6_header, ipv6_headers, is_extended, is_first_options, is_jumbogram, jumbogram_refusal, next_header, padding, unless_refused}
use Rattle.ip_part.specs.Options.{jumbo_payload_len}
use Rattle.ip_part.specs.declared.ip_error.IpError.{IpError}
use Rattle.ip_part.specs.declared.ip_error.IpError.TheVariants.{ExtensionHeaderCutOff, JumboPayloadFragment, JumboPayloadUnexpected}

-- ---- the extension header that is refused

is_below : (a b : ℕ) → nat_lt a b ≡ true → a < b
is_below a b is = grind (arith, nat_tests)

is_zero_not : (n : ℕ) → not (n == 0) ≡ true → n ≢ 0
is_zero_not n is = grind (arith, nat_tests)

is_equal : (a b : ℕ) → (a == b) ≡ true → a ≡ b
is_equal a b is = grind (arith, nat_tests)

same_error : (a b : IpError) → Some a ≡ Some b → a ≡ b
same_error a b is = cc is

-- the refusals by the rules of RFC 2675
jumbogram_by : (unexpected fragments : Bool) (headers : Headers) (rest : List ℕ) (error : IpError)
    → (not (headers.payload_len == 0) && (is_first_options headers && is_some (jumbo_payload_len (extension_header headers rest))))
    ≡ unexpected
    → (headers.is_jumbogram && headers.protocol.0 == 44) ≡ fragments
    → 8 ≤ length rest → extension_len headers.protocol.0 rest ≤ length rest → is_extension headers.protocol.0 ≡ true
    → first_of (refused_if unexpected (JumboPayloadUnexpected headers.payload_len) ∷ refused_if fragments (JumboPayloadFragment headers.len)
    ∷ []) ≡ Some error
    → RefusesNext headers.payload_len headers.is_jumbogram headers.len headers.protocol.0 rest error
jumbogram_by true fragments headers rest error is is_too long there known refuses =
    let parts = and_parts (not (headers.payload_len == 0)) _ is in
    let options = and_parts (is_first_options headers) (is_some (jumbo_payload_len (extension_header headers rest))) parts.1 in
    let first = and_parts (headers.len == 40) (headers.protocol.0 == 0) options.0 in
    subst (RefusesNext headers.payload_len headers.is_jumbogram headers.len headers.protocol.0 rest)
    (same_error (JumboPayloadUnexpected headers.payload_len) error refuses) (
      refl,
      is_zero_not headers.payload_len parts.0,
      is_equal headers.len 40 first.0,
      whole_front headers.protocol.0 rest long there known,
      ap (λ b. b && is_some (jumbo_payload_len (extension_header headers rest))) first.1 ∙ options.1,
    )
jumbogram_by false true headers rest error is is_too long there known refuses =
    let parts = and_parts headers.is_jumbogram (headers.protocol.0 == 44) is_too in
    subst (RefusesNext headers.payload_len headers.is_jumbogram headers.len headers.protocol.0 rest)
    (same_error (JumboPayloadFragment headers.len) error refuses)
    (refl, parts.0, is_equal headers.protocol.0 44 parts.1, whole_front headers.protocol.0 rest long there known)
jumbogram_by false false headers rest error is is_too long there known refuses = absurd (cc refuses)

after_none : (rule : Option IpError) → first_of (rule ∷ []) ≡ rule
after_none None = refl
after_none (Some error) = refl

refused_by : (short cut : Bool) (headers : Headers) (rest : List ℕ) (error : IpError)
    → nat_lt (length rest) 8 ≡ short → nat_lt (length rest) (extension_len headers.protocol.0 rest) ≡ cut
    → is_extension headers.protocol.0 ≡ true
    → first_of (
    refused_if short (ExtensionHeaderCutOff headers.protocol headers.len 8 (length rest))
    ∷ refused_if cut (ExtensionHeaderCutOff headers.protocol headers.len (extension_len headers.protocol.0 rest) (length rest))
    ∷ jumbogram_refusal headers (extension_header headers rest)
    ∷ []) ≡ Some error
    → RefusesNext headers.payload_len headers.is_jumbogram headers.len headers.protocol.0 rest error
refused_by true cut headers rest error is is_too known refuses =
    subst (RefusesNext headers.payload_len headers.is_jumbogram headers.len headers.protocol.0 rest)
    (same_error (ExtensionHeaderCutOff headers.protocol headers.len 8 (length rest)) error refuses)
    (refl, refl, refl, inl (is_below (length rest) 8 is, refl))
refused_by false true headers rest error is is_too known refuses =
    subst (RefusesNext headers.payload_len headers.is_jumbogram headers.len headers.protocol.0 rest)
    (same_error (ExtensionHeaderCutOff headers.protocol headers.len (extension_len headers.protocol.0 rest) (length rest)) error refuses)
    (refl, refl, refl, inr (ltb-false (length rest) 8 is, is_below (length rest) (extension_len headers.protocol.0 rest) is_too, refl))
refused_by false false headers rest error is is_too known refuses =
    jumbogram_by _ _ headers rest error refl refl (ltb-false (length rest) 8 is)
    (ltb-false (length rest) (extension_len headers.protocol.0 rest) is_too) known
    (sym (after_none (jumbogram_refusal headers (extension_header headers rest))) ∙ refuses)

-- ---- the extension headers before it

-- extension headers lead from these headers to the header that is refused
record IsRefused (headers : Headers) (bytes : List ℕ) (error : IpError) : Type 0 where
  pub extensions : List ExtensionHeader
  pub number : ℕ
  pub rest : List ℕ
  pub whole : drop headers.len bytes ≡ bytes_of extensions ++ rest
  pub chain : LeadsTo (is_ipv6 headers.addresses) headers.may_be_extended headers.protocol.0 extensions number
  pub no_jumbo_payload : (not (headers.payload_len == 0) && (headers.len == 40 && begins_with_jumbo_payload extensions)) ≡ false
  pub no_fragment : (headers.is_jumbogram && has_fragment_header extensions) ≡ false
  pub refuses : RefusesNext headers.payload_len headers.is_jumbogram (headers.len + length (bytes_of extensions)) number rest error

no_options : (a b : Bool) → (a && (b && false)) ≡ false
no_options true true = refl
no_options true false = refl
no_options false b = refl

no_header : (a : Bool) → (a && false) ≡ false
no_header true = refl
no_header false = refl

refused_here : (headers : Headers) (bytes : List ℕ) (error : IpError) → is_extended headers ≡ true
    → extension_refusal headers (drop headers.len bytes) ≡ Some error → IsRefused headers bytes error
refused_here headers bytes error is refuses =
    let rest : List ℕ = drop headers.len bytes in
    let known = and_parts headers.may_be_extended (is_extension headers.protocol.0) is in
    record {
      extensions = [];
      number = headers.protocol.0;
      rest = rest;
      whole = refl;
      chain = (refl, known.0, known.1);
      no_jumbo_payload = no_options (not (headers.payload_len == 0)) (headers.len == 40);
      no_fragment = no_header headers.is_jumbogram;
      refuses = subst (λ offset. RefusesNext headers.payload_len headers.is_jumbogram offset headers.protocol.0 rest error) (omega arith)
          (refused_by _ _ headers rest error refl refl known.1 refuses);
    }

-- two rules that do not refuse do not hold
neither : (unexpected fragments : Bool) (a b : IpError) → first_of (refused_if unexpected a ∷ refused_if fragments b ∷ []) ≡ None
    → (unexpected ≡ false) × (fragments ≡ false)
neither true fragments a b none = absurd (cc none)
neither false true a b none = absurd (cc none)
neither false false a b none = (refl, refl)

last_rule : (short cut : Bool) (a b : IpError) (other : Option IpError)
    → first_of (refused_if short a ∷ refused_if cut b ∷ other ∷ []) ≡ None → other ≡ None
last_rule true cut a b other none = absurd (cc none)
last_rule false true a b other none = absurd (cc none)
last_rule false false a b other none = sym (after_none other) ∙ none

regrouped : (a b c d : Bool) → (a && ((b && c) && d)) ≡ false → (a && (b && (c && d))) ≡ false
regrouped true true c d is = is
regrouped true false c d is = refl
regrouped false b c d is = refl

neither_fragment : (is one others : Bool) → (is && one) ≡ false → (is && others) ≡ false → (is && (one || others)) ≡ false
neither_fragment true true others none none_too = absurd (cc none)
neither_fragment true false others none none_too = none_too
neither_fragment false one others none none_too = refl

refused_later : (headers : Headers) (bytes : List ℕ) (error : IpError) → is_extended headers ≡ true
    → extension_refusal headers (drop headers.len bytes) ≡ None
    → IsRefused (headers_after headers (extension_header headers (drop headers.len bytes))) bytes error → IsRefused headers bytes error
refused_later headers bytes error is none refused =
    let rest : List ℕ = drop headers.len bytes in
    let count : ℕ = extension_len headers.protocol.0 rest in
    let header : ExtensionHeader = record { number = headers.protocol.0; bytes = take count rest } in
    let known = and_parts headers.may_be_extended (is_extension headers.protocol.0) is in
    let there = both_whole (nat_lt (length rest) 8) (nat_lt (length rest) count) _ _ _ none in
    let whole = whole_front headers.protocol.0 rest (ltb-false _ _ there.0) (ltb-false _ _ there.1) known.1 in
    let len : length header.bytes ≡ count = omega (arith, ltb-false (length rest) count there.1, length-take count rest) in
    let rules = neither _ _ (JumboPayloadUnexpected headers.payload_len) (JumboPayloadFragment headers.len)
    (last_rule (nat_lt (length rest) 8) (nat_lt (length rest) count) _ _ (jumbogram_refusal headers header.bytes) none) in
    record {
      extensions = header ∷ refused.extensions;
      number = refused.number;
      rest = refused.rest;
      whole = sym (take-append-drop count rest)
          ∙ ap (λ after. header.bytes ++ after) (ap (λ n. drop n rest) (sym len) ∙ drop-drop (length header.bytes) headers.len bytes
          ∙ refused.whole)
          ∙ sym (append_assoc header.bytes (bytes_of refused.extensions) refused.rest);
      chain = (
        known.0,
        refl,
        whole,
        subst (λ six. LeadsTo six (is_ipv6 headers.addresses && not (is_later_fragment header.number header.bytes))
            (next_number header.bytes) refused.extensions refused.number)
            (same_version headers.addresses header.number header.bytes) refused.chain,
      );
      no_jumbo_payload = regrouped (not (headers.payload_len == 0)) (headers.len == 40) (headers.protocol.0 == 0)
          (is_some (jumbo_payload_len header.bytes)) rules.0;
      no_fragment = neither_fragment headers.is_jumbogram (headers.protocol.0 == 44)
          (has_fragment_header refused.extensions) rules.1 refused.no_fragment;
      refuses = subst (λ offset. RefusesNext headers.payload_len headers.is_jumbogram offset refused.number refused.rest error)
          (omega (arith, length-append header.bytes (bytes_of refused.extensions))) refused.refuses;
    }

refused_if_extended : (is : Bool) (refusal : Option IpError) (more : ℕ) (headers : Headers) (bytes : List ℕ) (error : IpError)
    → is_extended headers ≡ is → extension_refusal headers (drop headers.len bytes) ≡ refusal
    → (headers_to_transport more (headers_after headers (extension_header headers (drop headers.len bytes))) bytes ≡ Err error
    → IsRefused (headers_after headers (extension_header headers (drop headers.len bytes))) bytes error)
    → (if is then unless_refused refusal
    (headers_to_transport more (headers_after headers (extension_header headers (drop headers.len bytes))) bytes) else Ok headers)
    ≡ Err error
    → IsRefused headers bytes error
refused_if_extended true (Some other) more headers bytes error is refuses others read =
    refused_here headers bytes error is (refuses ∙ cc read)
refused_if_extended true None more headers bytes error is refuses others read = refused_later headers bytes error is refuses (others read)
refused_if_extended false refusal more headers bytes error is refuses others read = absurd (cc read)

refused_from : (more : ℕ) (headers : Headers) (bytes : List ℕ) (error : IpError)
    → headers_to_transport more headers bytes ≡ Err error → IsRefused headers bytes error
unfolding headers_to_transport
refused_from zero headers bytes error read = absurd (cc read)
refused_from (suc more) headers bytes error read =
    refused_if_extended (is_extended headers) (extension_refusal headers (drop headers.len bytes)) more headers bytes error refl refl
    (λ read. refused_from more (headers_after headers (extension_header headers (drop headers.len bytes))) bytes error read) read

-- ---- the packet

-- the IP header determines the start of the chain
first_leads : (is_four : Bool) (four six : Headers) (number number_too : ℕ) (may : Bool) (extensions : List ExtensionHeader) (next : ℕ)
    → is_ipv6 four.addresses ≡ false → is_ipv6 six.addresses ≡ true → four.may_be_extended ≡ may → six.may_be_extended ≡ true
    → four.protocol.0 ≡ number → six.protocol.0 ≡ number_too
    → LeadsTo (is_ipv6 (if is_four then four else six).addresses) (if is_four then four else six).may_be_extended
    (if is_four then four else six).protocol.0 extensions next
    → LeadsTo (not is_four) (if is_four then may else true) (if is_four then number else number_too) extensions next
first_leads true four six number number_too may extensions next v v_too m m_too is is_too leads =
    subst (λ six. LeadsTo six may number extensions next) v
    (subst (λ m. LeadsTo (is_ipv6 four.addresses) m number extensions next) m
    (subst (λ n. LeadsTo (is_ipv6 four.addresses) four.may_be_extended n extensions next) is leads))
first_leads false four six number number_too may extensions next v v_too m m_too is is_too leads =
    subst (λ v. LeadsTo v true number_too extensions next) v_too
    (subst (λ m. LeadsTo (is_ipv6 six.addresses) m number_too extensions next) m_too
    (subst (λ n. LeadsTo (is_ipv6 six.addresses) six.may_be_extended n extensions next) is_too leads))

not_zero : (n : ℕ) → n ≢ 0 → not (n == 0) ≡ true
not_zero n some = grind (arith, nat_tests)

-- an IPv4 packet has no payload length, and an IPv6 header has 40 bytes
payload_by : (is_four : Bool) (four six : Headers) (extensions : List ExtensionHeader) → four.payload_len ≡ 0 → six.len ≡ 40
    → (not ((if is_four then four else six).payload_len == 0)
    && ((if is_four then four else six).len == 40 && begins_with_jumbo_payload extensions)) ≡ false
    → (if is_four then four else six).payload_len ≢ 0 → begins_with_jumbo_payload extensions ≡ false
payload_by true four six extensions none len keeps some = absurd (some none)
payload_by false four six extensions none len keeps some =
    sym (ap (λ n. not (six.payload_len == 0) && (n == 40 && begins_with_jumbo_payload extensions)) len
    ∙ ap (λ b. b && begins_with_jumbo_payload extensions) (not_zero six.payload_len some)) ∙ keeps

no_fragment_if : (is has : Bool) → (is && has) ≡ false → is ≡ true → has ≡ false
no_fragment_if true has none is = none
no_fragment_if false has none is = absurd (cc is)

pub refused_after : (missing : Bool) (packet : List ℕ) (error : IpError) → (first_headers packet).len ≤ length (counted missing packet)
    → headers_of missing packet ≡ Err error → IsRefusedAfterHeaders missing packet error
refused_after missing packet error there read =
    let is_four : Bool = version packet == 4 in
    let four : Headers = ipv4_headers (ipv4_header_len packet) (ipv4_header packet) in
    let six : Headers = ipv6_headers (is_jumbogram packet) (ipv6_header packet) in
    let first : Headers = first_headers packet in
    let bytes : List ℕ = counted missing packet in
    let refused = refused_from (suc (length bytes)) first bytes error read in
    let small : first.len ≤ counted_len missing packet = omega (arith, there, length-take (counted_len missing packet) packet) in
    let front : ip_header packet ≡ take first.len bytes =
    first_front is_four packet (ipv4_header_len packet) four six refl refl
    ∙ sym (take-take first.len (counted_len missing packet) packet small) in
    let front_len : length (ip_header packet) ≡ first.len = ap length front ∙ omega (arith, there, length-take first.len bytes) in
    record {
      extensions = refused.extensions;
      number = refused.number;
      rest = refused.rest;
      whole = sym (take-append-drop (counted_len missing packet) packet)
          ∙ ap (λ bytes. bytes ++ padding missing packet) (sym (take-append-drop first.len bytes))
          ∙ append_assoc (take first.len bytes) (drop first.len bytes) (padding missing packet)
          ∙ ap (λ front. front ++ (drop first.len bytes ++ padding missing packet)) (sym front)
          ∙ ap (λ after. ip_header packet ++ (after ++ padding missing packet)) refused.whole
          ∙ ap (λ after. ip_header packet ++ after) (append_assoc (bytes_of refused.extensions) refused.rest (padding missing packet));
      chain = first_leads is_four four six (slice_index (ipv4_header packet) 9) (next_header packet)
          (has_authentication (ipv4_header packet)) refused.extensions refused.number
          refl refl refl refl refl refl refused.chain;
      no_jumbo_payload = payload_by is_four four six refused.extensions refl refl refused.no_jumbo_payload;
      no_fragment = no_fragment_if first.is_jumbogram (has_fragment_header refused.extensions) refused.no_fragment;
      refuses = subst (λ len. RefusesNext first.payload_len first.is_jumbogram
          (len + length (bytes_of refused.extensions)) refused.number refused.rest error)
          (sym front_len) refused.refuses;
    }
