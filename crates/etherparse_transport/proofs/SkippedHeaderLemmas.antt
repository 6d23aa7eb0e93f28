-- Laws of the extension headers that are skipped: `transport_in_ip_lax` reads the same headers, also after the addresses are replaced.
use Rattle.std.proofs.Common.{◌≡◌, ℕ, zero, suc, ◌+◌, ◌-◌, ◌*◌, ◌%◌, ◌<◌, ◌≤◌, ◌==◌, ◌&&◌, ◌||◌, not, nat_le, nat_lt, Bool, true, false, if◌then◌else◌, List, [], ◌∷◌, take, drop, slice_index, slice_range, length, Option, Some, None, Result, Ok, Err, refl, sym, ap, ◌∙◌, subst, arith}
use Rattle.std.specs.Prelude.{cond, is_some}
use Rattle.std.specs.List.{find, fold}
use Rattle.std.proofs.lemmas.Bool.Decides.{nat_tests}
use Rattle.std.proofs.lemmas.List.{drop-drop, drop-take, get_or-take, length-drop, length-take, length-take-le}
use Rattle.net_base.specs.Refusals.{first_of, refused_if}
use Rattle.ip_part.specs.Addresses.{Addresses, Ipv6, is_ipv6}
use Rattle.ip_part.specs.ExtensionHeaders.{destination_after, extension_len, final_destination, has_segments_left, is_extension, is_later_fragment, is_one_of_fragments, next_number, source_after}
use Rattle.ip_part.specs.Headers.{Headers}
use Rattle.ip_part.specs.Ip.{extension_header, extension_refusal, headers_after, headers_to_transport, is_extended, unless_refused}
use Rattle.ip_part.specs.Options.{home_address_after, home_address_or, ipv6_option, options_of}
use Rattle.ip_part.specs.declared.ip_error.IpError.{IpError}
use Rattle.ip_part.specs.declared.ip_error.IpError.TheVariants.{ExtensionHeaderCutOff}
use Rattle.ip_part.specs.Ip as ip
use Rattle.ip_part.proofs.HeadersLemmas.{ended}
use Rattle.etherparse_transport.specs.SkippedHeaders.{adds_address, adds_none, contain_home_address, header_at, is_home_address, is_skipped, may_be_skipped, only_ipv6_header, skip, skipped_headers, with_next}
use Rattle.etherparse_transport.specs.declared.ip.skipped_headers.SkippedHeaders.{SkippedHeaders}
use Rattle.etherparse_transport.proofs.EchoRequestLemmas.{in_front}

-- ---- tests

first_true : (first rest : Bool) → (first && rest) ≡ true → first ≡ true
first_true true rest is = refl
first_true false rest is = absurd (cc is)

pub rest_true : (first rest : Bool) → (first && rest) ≡ true → rest ≡ true
rest_true true rest is = is
rest_true false rest is = absurd (cc is)

first_none : (first rest : Bool) → (first || rest) ≡ false → first ≡ false
first_none true rest is = absurd (cc is)
first_none false rest is = refl

rest_none : (first rest : Bool) → (first || rest) ≡ false → rest ≡ false
rest_none true rest is = absurd (cc is)
rest_none false rest is = is

not_false : (b : Bool) → not b ≡ true → b ≡ false
not_false true is = absurd (cc is)
not_false false is = refl

-- the number of a header that may be skipped is the number of an extension header
skippable_known : (hop_by_hop routing fragment authentication destination rest : Bool)
    → (hop_by_hop || (routing || (fragment || destination))) ≡ true
    → (hop_by_hop || (routing || (fragment || (authentication || (destination || rest))))) ≡ true
skippable_known true routing fragment authentication destination rest is = refl
skippable_known false true fragment authentication destination rest is = refl
skippable_known false false true authentication destination rest is = refl
skippable_known false false false true destination rest is = refl
skippable_known false false false false true rest is = refl
skippable_known false false false false false rest is = absurd (cc is)

known_extension : (number : ℕ) → may_be_skipped number ≡ true → is_extension number ≡ true
known_extension number is = skippable_known (number == 0) (number == 43) (number == 44) (number == 51) (number == 60) _ is

-- ---- the addresses

-- options without a home address leave the source
source_stays_by : (is : Bool) (source option : List ℕ) (options : List (List ℕ)) → is ≡ is_home_address option
    → is_some (cond is (Some option) (find is_home_address options)) ≡ false
    → (is_some (find is_home_address options) ≡ false → fold home_address_or source options ≡ source)
    → fold home_address_or (home_address_or source option) options ≡ source
source_stays_by true source option options test none others = absurd (cc none)
source_stays_by false source option options test none others =
    ap (λ is. fold home_address_or (if is && (length option == 18) then slice_range option 2 18 else source) options) (sym test)
    ∙ others none

source_stays : (source : List ℕ) (options : List (List ℕ)) → is_some (find is_home_address options) ≡ false
    → fold home_address_or source options ≡ source
source_stays source [] none = refl
source_stays source (option ∷ options) none =
    source_stays_by (is_home_address option) source option options refl none (λ none. source_stays source options none)

source_by : (is : Bool) (source header : List ℕ) → (is && contain_home_address header) ≡ false
    → (if is then home_address_after source header else source) ≡ source
source_by true source header none = source_stays source (options_of ipv6_option (drop 2 header)) none
source_by false source header none = refl

-- a header without another address leaves both addresses
source_kept : (source : List ℕ) (number : ℕ) (header : List ℕ) → adds_address number header ≡ false
    → source_after source number header ≡ source
source_kept source number header none = source_by (number == 60) source header (rest_none (has_segments_left number header) _ none)

destination_kept : (destination : Option (List ℕ)) (number : ℕ) (header : List ℕ) → adds_address number header ≡ false
    → destination_after destination number header ≡ destination
destination_kept destination number header none =
    ap (λ has. if has then final_destination header else destination) (first_none (has_segments_left number header) _ none)

-- ---- the skipped headers

pub skip_more : (more : ℕ) (skipped : SkippedHeaders) (packet : List ℕ) → is_skipped skipped (drop skipped.len packet) ≡ true
    → skip (suc more) skipped packet ≡ skip more (with_next skipped (header_at skipped.protocol.0 (drop skipped.len packet))) packet
unfolding skip
skip_more more skipped packet is = rw is refl

pub skip_ends : (more : ℕ) (skipped : SkippedHeaders) (packet : List ℕ) → is_skipped skipped (drop skipped.len packet) ≡ false
    → skip more skipped packet ≡ skipped
unfolding skip
skip_ends zero skipped packet is = refl
skip_ends (suc more) skipped packet is = rw is refl

skip_none : (skipped : SkippedHeaders) (packet : List ℕ) → skip zero skipped packet ≡ skipped
unfolding skip
skip_none skipped packet = refl

skip_len_by : (is : Bool) (more : ℕ) (skipped : SkippedHeaders) (packet : List ℕ) → is ≡ is_skipped skipped (drop skipped.len packet)
    → ((next : SkippedHeaders) → next.len ≤ (skip more next packet).len) → skipped.len ≤ (skip (suc more) skipped packet).len
skip_len_by true more skipped packet test others =
    let next : SkippedHeaders = with_next skipped (header_at skipped.protocol.0 (drop skipped.len packet)) in
    omega (arith, others next, ap {B = ℕ} (λ skipped. skipped.len) (skip_more more skipped packet (sym test)))
skip_len_by false more skipped packet test others =
    omega (arith, ap {B = ℕ} (λ skipped. skipped.len) (skip_ends (suc more) skipped packet (sym test)))

-- more headers are longer
pub skip_len : (more : ℕ) (skipped : SkippedHeaders) (packet : List ℕ) → skipped.len ≤ (skip more skipped packet).len
skip_len zero skipped packet = omega (arith, ap {B = ℕ} (λ skipped. skipped.len) (skip_none skipped packet))
skip_len (suc more) skipped packet =
    skip_len_by (is_skipped skipped (drop skipped.len packet)) more skipped packet refl (λ next. skip_len more next packet)

-- what a skipped header is
record IsSkipped (skipped : SkippedHeaders) (rest : List ℕ) : Type 0 where
  pub first : skipped.is_later_fragment ≡ false
  pub whole : extension_len skipped.protocol.0 rest ≤ length rest
  pub none : adds_address skipped.protocol.0 (header_at skipped.protocol.0 rest) ≡ false

pub at_least : (least len : ℕ) → least ≤ len → nat_le least len ≡ true
at_least least len there = grind (arith, nat_tests)

not_above : (least len : ℕ) → nat_le least len ≡ true → least ≤ len
not_above least len whole = grind (arith, nat_tests)

skipped_is : (skipped : SkippedHeaders) (rest : List ℕ) → is_skipped skipped rest ≡ true → IsSkipped skipped rest
skipped_is skipped rest is =
    let number : ℕ = skipped.protocol.0 in
    let second = rest_true (not skipped.is_later_fragment) _ is in
    let third = rest_true (may_be_skipped number) _ second in
    let fourth = rest_true (nat_le 8 (length rest)) _ third in
    record {
      first = not_false skipped.is_later_fragment (first_true (not skipped.is_later_fragment) _ is);
      whole = not_above _ _ (first_true (nat_le (extension_len number rest) (length rest)) _ fourth);
      none = not_false _ (rest_true (nat_le (extension_len number rest) (length rest)) _ fourth);
    }

-- ---- reading them one by one

-- skipping from these headers on gives all skipped headers, and each byte left is enough for one more header
pub record AreReached (skipped : SkippedHeaders) (packet : List ℕ) : Type 0 where
  pub more : ℕ
  pub within : skipped.len ≤ length packet
  pub room : length packet < skipped.len + more
  pub same : skipped_headers packet ≡ skip more skipped packet

pub reached_first : (packet : List ℕ) (number : ℕ) → number ≡ slice_index packet 6 → 40 ≤ length packet
    → AreReached (only_ipv6_header number) packet
reached_first packet number is there =
    record {
      more = suc (length packet);
      within = there;
      room = omega arith;
      same = ap (λ number. skip (suc (length packet)) (only_ipv6_header number) packet) (sym is);
    }

reached_next_in : (more : ℕ) (packet header : List ℕ) (skipped next : SkippedHeaders) → skipped.len ≤ length packet
    → length packet < skipped.len + more
    → skipped_headers packet ≡ skip more skipped packet → is_skipped skipped (drop skipped.len packet) ≡ true
    → header ≡ header_at skipped.protocol.0 (drop skipped.len packet) → next ≡ with_next skipped header
    → 8 ≤ length header → length header ≤ length (drop skipped.len packet) → AreReached next packet
reached_next_in zero packet header skipped next within room same is header_is next_is shortest there = absurd (omega (arith, within, room))
reached_next_in (suc more) packet header skipped next within room same is header_is next_is shortest there =
    let len : next.len ≡ skipped.len + length header = ap (λ skipped. skipped.len) next_is in
    record {
      more = more;
      within = omega (arith, len, within, there, length-drop skipped.len packet);
      room = omega (arith, len, room, shortest);
      same = same ∙ skip_more more skipped packet is ∙ ap (λ header. skip more (with_next skipped header) packet) (sym header_is)
          ∙ ap (λ skipped. skip more skipped packet) (sym next_is);
    }

pub reached_next : (packet : List ℕ) (skipped next : SkippedHeaders) (rest header : List ℕ) → AreReached skipped packet
    → rest ≡ drop skipped.len packet
    → is_skipped skipped rest ≡ true → header ≡ header_at skipped.protocol.0 rest → next ≡ with_next skipped header
    → 8 ≤ length header → length header ≤ length rest → AreReached next packet
reached_next packet skipped next rest header reached left is header_is next_is shortest there =
    reached_next_in reached.more packet header skipped next reached.within reached.room reached.same
    (ap (is_skipped skipped) (sym left) ∙ is)
    (header_is ∙ ap (header_at skipped.protocol.0) left) next_is shortest (subst (λ rest. length header ≤ length rest) left there)

pub reached_end : (packet : List ℕ) (skipped : SkippedHeaders) (rest : List ℕ) → AreReached skipped packet → rest ≡ drop skipped.len packet
    → is_skipped skipped rest ≡ false → skipped ≡ skipped_headers packet
reached_end packet skipped rest reached left is =
    sym (reached.same ∙ skip_ends reached.more skipped packet (ap (is_skipped skipped) (sym left) ∙ is))

-- ---- the length of a header

len_by : (is is_too : Bool) (z : ℕ) → 8 ≤ (if is then 8 else if is_too then (z + 2) * 4 else (z + 1) * 8)
len_by true is_too z = omega arith
len_by false true z = omega arith
len_by false false z = omega arith

pub least_len : (number : ℕ) (bytes : List ℕ) → 8 ≤ extension_len number bytes
least_len number bytes = len_by (number == 44) (number == 51) (slice_index bytes 1)

-- the length is in byte 1
pub len_alike : (k number : ℕ) (a b : List ℕ) → 2 ≤ k → take k a ≡ take k b → extension_len number a ≡ extension_len number b
len_alike k number a b long same =
    let byte : slice_index a 1 ≡ slice_index b 1 =
    sym (get_or-take k a 1 0 (omega (arith, long))) ∙ ap (λ bytes. slice_index bytes 1) same ∙ get_or-take k b 1 0 (omega (arith, long)) in
    ap (λ z. if number == 44 then 8 else if number == 51 then (z + 2) * 4 else (z + 1) * 8) byte

fewer_alike : (k n : ℕ) (a b : List ℕ) → n ≤ k → take k a ≡ take k b → take n a ≡ take n b
fewer_alike k n a b within same =
    sym (in_front k 0 n a (omega (arith, within))) ∙ ap (take n) same ∙ in_front k 0 n b (omega (arith, within))

pub header_alike : (k number : ℕ) (a b : List ℕ) → 8 ≤ k → extension_len number b ≤ k → take k a ≡ take k b
    → header_at number a ≡ header_at number b
header_alike k number a b long within same =
    ap (λ n. take n a) (len_alike k number a b (omega (arith, long)) same) ∙ fewer_alike k (extension_len number b) a b within same

-- the same header is skipped
skipped_alike : (k : ℕ) (skipped : SkippedHeaders) (a b : List ℕ) → 8 ≤ k → extension_len skipped.protocol.0 b ≤ k → take k a ≡ take k b
    → length a ≡ length b → is_skipped skipped a ≡ is_skipped skipped b
skipped_alike k skipped a b long within same len =
    let number : ℕ = skipped.protocol.0 in
    let by : ℕ → ℕ → List ℕ → Bool = λ len least header.
    not skipped.is_later_fragment && (may_be_skipped number && (nat_le 8 len && (nat_le least len && not (adds_address number header)))) in
    ap (λ len. by len (extension_len number a) (header_at number a)) len
    ∙ ap (λ least. by (length b) least (header_at number a)) (len_alike k number a b (omega (arith, long)) same)
    ∙ ap (by (length b) (extension_len number b)) (header_alike k number a b long within same)

-- an extension header has an even length
even_by : (is is_too : Bool) (z : ℕ) → (if is then 8 else if is_too then (z + 2) * 4 else (z + 1) * 8) % 2 ≡ 0
even_by true is_too z = refl
even_by false true z = omega arith
even_by false false z = omega arith

skip_even_by : (is : Bool) (more : ℕ) (skipped : SkippedHeaders) (packet : List ℕ) → is ≡ is_skipped skipped (drop skipped.len packet)
    → skipped.len % 2 ≡ 0
    → ((next : SkippedHeaders) → next.len % 2 ≡ 0 → (skip more next packet).len % 2 ≡ 0) → (skip (suc more) skipped packet).len % 2 ≡ 0
skip_even_by true more skipped packet test even others =
    let rest : List ℕ = drop skipped.len packet in
    let number : ℕ = skipped.protocol.0 in
    let next : SkippedHeaders = with_next skipped (header_at number rest) in
    let len : length (header_at number rest) ≡ extension_len number rest =
    length-take-le (extension_len number rest) rest (skipped_is skipped rest (sym test)).whole in
    ap (λ skipped. skipped.len % 2) (skip_more more skipped packet (sym test))
    ∙ others next (omega (arith, even, len, even_by (number == 44) (number == 51) (slice_index rest 1)))
skip_even_by false more skipped packet test even others =
    ap (λ skipped. skipped.len % 2) (skip_ends (suc more) skipped packet (sym test)) ∙ even

pub skip_even : (more : ℕ) (skipped : SkippedHeaders) (packet : List ℕ) → skipped.len % 2 ≡ 0 → (skip more skipped packet).len % 2 ≡ 0
skip_even zero skipped packet even = ap (λ skipped. skipped.len % 2) (skip_none skipped packet) ∙ even
skip_even (suc more) skipped packet even =
    skip_even_by (is_skipped skipped (drop skipped.len packet)) more skipped packet refl even (λ next even. skip_even more next packet even)

-- ---- the contents of headers

-- the headers with these addresses
abbrev pub between : Addresses → Headers → Headers
between addresses headers = record {
  addresses = addresses;
  protocol = headers.protocol;
  len = headers.len;
  is_fragment = headers.is_fragment;
  is_later_fragment = headers.is_later_fragment;
  may_be_extended = headers.may_be_extended;
  payload_len = headers.payload_len;
  is_jumbogram = headers.is_jumbogram;
}

-- the contents of skipped headers, with these addresses
pub record AreAt (source : List ℕ) (destination : Option (List ℕ)) (skipped : SkippedHeaders) (headers : Headers) : Type 0 where
  pub addresses : headers.addresses ≡ Ipv6 source destination
  pub protocol : headers.protocol ≡ skipped.protocol
  pub len : headers.len ≡ skipped.len
  pub later : headers.is_later_fragment ≡ skipped.is_later_fragment
  pub may : headers.may_be_extended ≡ not skipped.is_later_fragment

one_more : (more : ℕ) (headers : Headers) (bytes : List ℕ) → is_extended headers ≡ true
    → headers_to_transport (suc more) headers bytes
    ≡ unless_refused (extension_refusal headers (drop headers.len bytes))
    (headers_to_transport more (headers_after headers (extension_header headers (drop headers.len bytes))) bytes)
unfolding headers_to_transport
one_more more headers bytes is = rw is refl

unrefused : {T E : Type 0} (refusal : Option E) (result : Result T E) (value : T) → unless_refused refusal result ≡ Ok value
    → (refusal ≡ None) × (result ≡ Ok value)
unrefused None result value is = (refl, is)
unrefused (Some error) result value is = absurd (cc is)

-- two rules that do not refuse
pub two_rules : (first second : Bool) (error error_too : IpError) (rules : List (Option IpError))
    → first_of (refused_if first error ∷ refused_if second error_too ∷ rules) ≡ None → (first ≡ false) × (second ≡ false)
two_rules true second error error_too rules none = absurd (cc none)
two_rules false true error error_too rules none = absurd (cc none)
two_rules false false error error_too rules none = (refl, refl)

pub not_below : (len least : ℕ) → nat_lt len least ≡ false → least ≤ len
not_below len least whole = grind (arith, nat_tests)

-- a header of which the length, the stated length and the bytes are the same is refused alike
refusal_alike : (addresses : Addresses) (headers : Headers) (a b : List ℕ) → length a ≡ length b
    → extension_len headers.protocol.0 a ≡ extension_len headers.protocol.0 b → extension_header headers a ≡ extension_header headers b
    → extension_refusal (between addresses headers) a ≡ extension_refusal headers b
refusal_alike addresses headers a b len least header =
    let by : ℕ → ℕ → List ℕ → Option IpError = λ len least header. first_of (
    refused_if (nat_lt len 8) (ExtensionHeaderCutOff headers.protocol headers.len 8 len)
    ∷ refused_if (nat_lt len least) (ExtensionHeaderCutOff headers.protocol headers.len least len)
    ∷ ip.jumbogram_refusal headers header
    ∷ []) in
    ap (λ len. by len (extension_len headers.protocol.0 a) (extension_header headers a)) len
    ∙ ap (λ least. by (length b) least (extension_header headers a)) least
    ∙ ap (by (length b) (extension_len headers.protocol.0 b)) header

-- the addresses that other headers leave
after_kept : (source : List ℕ) (destination : Option (List ℕ)) (headers : Headers) (header : List ℕ)
    → headers.addresses ≡ Ipv6 source destination
    → adds_address headers.protocol.0 header ≡ false → ip.addresses_after headers header ≡ Ipv6 source destination
after_kept source destination headers header is none =
    ap (λ addresses. ip.with_header addresses headers.protocol.0 header) is
    ∙ ap (λ source. Ipv6 source (destination_after destination headers.protocol.0 header))
    (source_kept source headers.protocol.0 header none)
    ∙ ap (Ipv6 source) (destination_kept destination headers.protocol.0 header none)

-- one more header of both
at_next : (source : List ℕ) (destination : Option (List ℕ)) (skipped : SkippedHeaders) (headers : Headers) (header : List ℕ)
    → AreAt source destination skipped headers → skipped.is_later_fragment ≡ false → adds_address skipped.protocol.0 header ≡ false
    → AreAt source destination (with_next skipped header) (headers_after headers header)
at_next source destination skipped headers header at first none =
    let number : headers.protocol.0 ≡ skipped.protocol.0 = ap (λ protocol. protocol.0) at.protocol in
    let later : is_later_fragment headers.protocol.0 header ≡ is_later_fragment skipped.protocol.0 header =
    ap (λ number. is_later_fragment number header) number in
    record {
      addresses = after_kept source destination headers header at.addresses (ap (λ number. adds_address number header) number ∙ none);
      protocol = refl;
      len = ap (λ len. len + length header) at.len;
      later = ap (λ b. b || is_later_fragment headers.protocol.0 header) (at.later ∙ first) ∙ later;
      may = ap (λ addresses. is_ipv6 addresses && not (is_later_fragment headers.protocol.0 header)) at.addresses ∙ ap not later;
    }

-- the headers after one more, with other addresses
next_between : (source new_source : List ℕ) (destination new_destination : Option (List ℕ)) (headers : Headers) (header : List ℕ)
    → headers.addresses ≡ Ipv6 source destination → adds_address headers.protocol.0 header ≡ false
    → headers_after (between (Ipv6 new_source new_destination) headers) header
    ≡ between (Ipv6 new_source new_destination) (headers_after headers header)
next_between source new_source destination new_destination headers header is none =
    let by : Addresses → Bool → Headers = λ addresses is_over_ipv6. record {
      addresses = addresses;
      protocol = record { 0 = next_number header };
      len = headers.len + length header;
      is_fragment = headers.is_fragment || is_one_of_fragments headers.protocol.0 header;
      is_later_fragment = headers.is_later_fragment || is_later_fragment headers.protocol.0 header;
      may_be_extended = is_over_ipv6 && not (is_later_fragment headers.protocol.0 header);
      payload_len = headers.payload_len;
      is_jumbogram = headers.is_jumbogram;
    } in
    ap (λ addresses. by addresses true)
    (after_kept new_source new_destination (between (Ipv6 new_source new_destination) headers) header refl none)
    ∙ ap (by (Ipv6 new_source new_destination)) (sym (ap is_ipv6 is))

-- a header that ends the headers is not skipped
not_skipped_by : (later may : Bool) (number : ℕ) (rest : List ℕ) → may ≡ may_be_skipped number → (not later && is_extension number) ≡ false
    → (not later && (may && adds_none number rest)) ≡ false
not_skipped_by true may number rest test is = refl
not_skipped_by false true number rest test is = absurd (cc (is, known_extension number (sym test)))
not_skipped_by false false number rest test is = refl

not_skipped : (source : List ℕ) (destination : Option (List ℕ)) (skipped : SkippedHeaders) (headers : Headers) (rest : List ℕ)
    → AreAt source destination skipped headers → is_extended headers ≡ false → is_skipped skipped rest ≡ false
not_skipped source destination skipped headers rest at is =
    not_skipped_by skipped.is_later_fragment (may_be_skipped skipped.protocol.0) skipped.protocol.0 rest refl
    (ap (λ may. may && is_extension skipped.protocol.0) (sym at.may)
    ∙ ap (λ protocol. headers.may_be_extended && is_extension protocol.0) (sym at.protocol) ∙ is)

-- ---- all headers

-- the headers of a success
headers_or : Headers → Result Headers IpError → Headers
headers_or other (Ok headers) = headers
headers_or other (Err error) = other

module _ (c : ℕ) (packet changed source new_source : List ℕ) (destination new_destination : Option (List ℕ)) (len : length changed ≡ length packet) where
  abbrev bytes : List ℕ
  bytes = take c packet

  abbrev bytes_too : List ℕ
  bytes_too = take c changed

  abbrev addresses_too : Addresses
  addresses_too = Ipv6 new_source new_destination

  -- All headers are skipped, and end within the bytes. With other addresses in a changed packet, they are read alike.
  pub record AreWalked (n more : ℕ) (skipped : SkippedHeaders) (headers final : Headers) : Type 0 where
    pub at : AreAt source destination (skip more skipped packet) final
    pub within : final.len ≤ length bytes
    pub read : headers_to_transport n (between addresses_too headers) bytes_too ≡ Ok (between addresses_too final)
    pub same : skip more skipped changed ≡ skip more skipped packet

  abbrev Walks : ℕ → Type 0
  Walks n = (more : ℕ) (skipped : SkippedHeaders) (headers final : Headers) → AreAt source destination skipped headers
      → headers_to_transport n headers bytes ≡ Ok final → headers.len ≤ length bytes → length bytes < headers.len + n
      → length packet < headers.len + more → is_extension (skip more skipped packet).protocol.0 ≡ false
      → take ((skip more skipped packet).len - skipped.len) (drop skipped.len changed)
      ≡ take ((skip more skipped packet).len - skipped.len) (drop skipped.len packet)
      → AreWalked n more skipped headers final

  bytes_len : length bytes_too ≡ length bytes
  bytes_len = omega (arith, len, length-take c packet, length-take c changed)

  -- no more headers
  walk_ends : (n more : ℕ) (skipped : SkippedHeaders) (headers final : Headers) → AreAt source destination skipped headers
      → headers_to_transport (suc n) headers bytes ≡ Ok final → headers.len ≤ length bytes → is_extended headers ≡ false
      → AreWalked (suc n) more skipped headers final
  unfolding headers_or
  walk_ends n more skipped headers final at read within last =
      let final_is : headers ≡ final = ap (headers_or headers) (sym (ended n headers bytes last) ∙ read) in
      let skipped_is : skip more skipped packet ≡ skipped =
      skip_ends more skipped packet (not_skipped source destination skipped headers _ at last) in
      record {
        at = subst (AreAt source destination (skip more skipped packet)) final_is
            (subst (λ skipped. AreAt source destination skipped headers) (sym skipped_is) at);
        within = subst (λ headers. headers.len ≤ length bytes) final_is within;
        read = ended n (between addresses_too headers) bytes_too last
            ∙ ap {B = Result Headers IpError} (λ headers. Ok (between addresses_too headers)) final_is;
        same = skip_ends more skipped changed (not_skipped source destination skipped headers _ at last) ∙ sym skipped_is;
      }

  -- one more header
  walk_next : (n more : ℕ) (skipped : SkippedHeaders) (headers final : Headers) → Walks n → AreAt source destination skipped headers
      → headers_to_transport (suc n) headers bytes ≡ Ok final → headers.len ≤ length bytes → length bytes < headers.len + suc n
      → length packet < headers.len + suc more → is_extension (skip (suc more) skipped packet).protocol.0 ≡ false
      → take ((skip (suc more) skipped packet).len - skipped.len) (drop skipped.len changed)
      ≡ take ((skip (suc more) skipped packet).len - skipped.len) (drop skipped.len packet)
      → is_extended headers ≡ true → is_skipped skipped (drop skipped.len packet) ≡ true
      → AreWalked (suc n) (suc more) skipped headers final
  walk_next n more skipped headers final others at read within room room_too known kept is skips =
      let number : ℕ = skipped.protocol.0 in
      let rest : List ℕ = drop skipped.len packet in
      let rest_too : List ℕ = drop skipped.len changed in
      let counted : List ℕ = drop headers.len bytes in
      let counted_too : List ℕ = drop headers.len bytes_too in
      let header : List ℕ = header_at number rest in
      let e : ℕ = extension_len number rest in
      let found : IsSkipped skipped rest = skipped_is skipped rest skips in
      let least : 8 ≤ e = least_len number rest in
      let header_len : length header ≡ e = length-take-le e rest found.whole in
      let number_is : headers.protocol.0 ≡ number = ap (λ protocol. protocol.0) at.protocol in
      let next : SkippedHeaders = with_next skipped header in
      let more_is : skip (suc more) skipped packet ≡ skip more next packet = skip_more more skipped packet skips in
      let end : ℕ = (skip (suc more) skipped packet).len in
      let end_is : end ≡ (skip more next packet).len = ap (λ skipped. skipped.len) more_is in
      let long : skipped.len + e ≤ end = omega (arith, end_is, header_len, skip_len more next packet) in
      let parts = unrefused (extension_refusal headers counted) _ final (sym (one_more n headers bytes is) ∙ read) in
      let lengths = two_rules (nat_lt (length counted) 8)
      (nat_lt (length counted) (extension_len headers.protocol.0 counted)) _ _ _ parts.0 in
      let eight : 8 ≤ length counted = not_below _ _ lengths.0 in
      let eight_in : take 8 counted ≡ take 8 rest =
      in_front c headers.len 8 packet (omega (arith, eight, length-drop headers.len bytes, length-take c packet))
      ∙ ap (λ len. take 8 (drop len packet)) at.len in
      let e_is : extension_len headers.protocol.0 counted ≡ e =
      ap (λ number. extension_len number counted) number_is ∙ len_alike 8 number counted rest (omega arith) eight_in in
      let e_there : e ≤ length counted = omega (arith, e_is, not_below _ _ lengths.1) in
      let there : headers.len + e ≤ c = omega (arith, e_there, length-drop headers.len bytes, length-take c packet, least) in
      let e_in : take e counted ≡ header =
      in_front c headers.len e packet there ∙ ap (λ len. take e (drop len packet)) at.len in
      let header_is : extension_header headers counted ≡ header = ap (λ e. take e counted) e_is ∙ e_in in
      let alike : take e rest_too ≡ take e rest = fewer_alike (end - skipped.len) e rest_too rest (omega (arith, long)) kept in
      let alike_eight : take 8 rest_too ≡ take 8 rest = fewer_alike e 8 rest_too rest least alike in
      let e_too : extension_len headers.protocol.0 counted_too ≡ e =
      ap (λ number. extension_len number counted_too) number_is
      ∙ len_alike 8 number counted_too rest (omega arith)
      (in_front c headers.len 8 changed (omega (arith, there, least)) ∙ ap (λ len. take 8 (drop len changed)) at.len ∙ alike_eight) in
      let header_too : extension_header headers counted_too ≡ header =
      ap (λ e. take e counted_too) e_too ∙ in_front c headers.len e changed there ∙ ap (λ len. take e (drop len changed)) at.len ∙ alike in
      let counted_len : length counted_too ≡ length counted =
      omega (arith, bytes_len, length-drop headers.len bytes, length-drop headers.len bytes_too) in
      let none : adds_address headers.protocol.0 header ≡ false = ap (λ number. adds_address number header) number_is ∙ found.none in
      let next_headers : Headers = headers_after headers header in
      let read_next : headers_to_transport n next_headers bytes ≡ Ok final =
      sym (ap (λ header. headers_to_transport n (headers_after headers header) bytes) header_is) ∙ parts.1 in
      let rest_of : (whole : List ℕ) → drop (skipped.len + length header) whole ≡ drop e (drop skipped.len whole) = λ whole.
      ap (λ n. drop (skipped.len + n) whole) header_len ∙ sym (drop-drop e skipped.len whole) in
      let left : ℕ = (skip more next packet).len - next.len in
      let whole : end - skipped.len ≡ e + left = omega (arith, end_is, header_len, skip_len more next packet) in
      let kept_next : take left (drop next.len changed) ≡ take left (drop next.len packet) =
      ap (take left) (rest_of changed) ∙ sym (drop-take e left rest_too) ∙ ap (λ n. drop e (take n rest_too)) (sym whole)
      ∙ ap (drop e) kept ∙ ap (λ n. drop e (take n rest)) whole ∙ drop-take e left rest ∙ ap (take left) (sym (rest_of packet)) in
      let walked : AreWalked n more next next_headers final = others more next next_headers final
      (at_next source destination skipped headers header at found.first found.none) read_next
      (omega (arith, header_len, e_there, within, length-drop headers.len bytes)) (omega (arith, room, header_len, least))
      (omega (arith, room_too, header_len, least))
      (ap (λ skipped. is_extension skipped.protocol.0) (sym more_is) ∙ known) kept_next in
      let skips_too : is_skipped skipped rest_too ≡ true =
      skipped_alike e skipped rest_too rest least (omega arith) alike
      (omega (arith, len, length-drop skipped.len packet, length-drop skipped.len changed)) ∙ skips in
      record {
        at = subst (λ skipped. AreAt source destination skipped final) (sym more_is) walked.at;
        within = walked.within;
        read = one_more n (between addresses_too headers) bytes_too is
            ∙ ap (λ refusal. unless_refused refusal
            (headers_to_transport n (headers_after (between addresses_too headers) (extension_header headers counted_too)) bytes_too))
            (refusal_alike addresses_too headers counted_too counted counted_len (e_too ∙ sym e_is) (header_too ∙ sym header_is) ∙ parts.0)
            ∙ ap (λ header. headers_to_transport n (headers_after (between addresses_too headers) header) bytes_too) header_too
            ∙ ap (λ headers. headers_to_transport n headers bytes_too)
            (next_between source new_source destination new_destination headers header at.addresses none)
            ∙ walked.read;
        same = skip_more more skipped changed skips_too
            ∙ ap (λ header. skip more (with_next skipped header) changed) (header_alike e number rest_too rest least (omega arith) alike)
            ∙ walked.same ∙ sym more_is;
      }

  walk_skips : (skips : Bool) (n more : ℕ) (skipped : SkippedHeaders) (headers final : Headers)
      → skips ≡ is_skipped skipped (drop skipped.len packet) → Walks n
      → AreAt source destination skipped headers
      → headers_to_transport (suc n) headers bytes ≡ Ok final → headers.len ≤ length bytes → length bytes < headers.len + suc n
      → length packet < headers.len + more → is_extension (skip more skipped packet).protocol.0 ≡ false
      → take ((skip more skipped packet).len - skipped.len) (drop skipped.len changed)
      ≡ take ((skip more skipped packet).len - skipped.len) (drop skipped.len packet)
      → is_extended headers ≡ true → AreWalked (suc n) more skipped headers final
  walk_skips false n more skipped headers final test others at read within room room_too known kept is =
      let number_is : headers.protocol.0 ≡ skipped.protocol.0 = ap (λ protocol. protocol.0) at.protocol in
      let none : is_extension skipped.protocol.0 ≡ false =
      sym (ap (λ skipped. is_extension skipped.protocol.0) (skip_ends more skipped packet (sym test))) ∙ known in
      absurd (cc (rest_true headers.may_be_extended _ is, ap is_extension number_is, none))
  walk_skips true n zero skipped headers final test others at read within room room_too known kept is =
      absurd (omega (arith, within, room_too, length-take c packet))
  walk_skips true n (suc more) skipped headers final test others at read within room room_too known kept is =
      walk_next n more skipped headers final others at read within room room_too known kept is (sym test)

  walk_by : (extended : Bool) (n more : ℕ) (skipped : SkippedHeaders) (headers final : Headers) → extended ≡ is_extended headers → Walks n
      → AreAt source destination skipped headers
      → headers_to_transport (suc n) headers bytes ≡ Ok final → headers.len ≤ length bytes → length bytes < headers.len + suc n
      → length packet < headers.len + more → is_extension (skip more skipped packet).protocol.0 ≡ false
      → take ((skip more skipped packet).len - skipped.len) (drop skipped.len changed)
      ≡ take ((skip more skipped packet).len - skipped.len) (drop skipped.len packet)
      → AreWalked (suc n) more skipped headers final
  walk_by false n more skipped headers final test others at read within room room_too known kept =
      walk_ends n more skipped headers final at read within (sym test)
  walk_by true n more skipped headers final test others at read within room room_too known kept =
      walk_skips (is_skipped skipped (drop skipped.len packet)) n more skipped headers final refl others at read within room room_too known
      kept (sym test)

  pub walk : (n : ℕ) → Walks n
  walk zero more skipped headers final at read within room room_too known kept = absurd (omega (arith, within, room))
  walk (suc n) more skipped headers final at read within room room_too known kept =
      walk_by (is_extended headers) n more skipped headers final refl (walk n) at read within room room_too known kept
