-- Laws of how a packet is read: it has one reading, and the headers that are found one after the other form that reading.
use Rattle.std.proofs.Common.{◌≡◌, ℕ, zero, suc, ◌+◌, ◌*◌, ◌≤◌, ◌==◌, nat_lt, Bool, true, false, not, ◌&&◌, ◌||◌, if◌then◌else◌, List, [], ◌∷◌, ◌++◌, length, take, drop, slice_index, length-append, length-take, Option, Some, None, Ok, refl, sym, ◌∙◌, ap, subst, arith}
use Rattle.std.proofs.lemmas.List.{append_assoc, append_cancel_left, append_cancel_right, drop-drop, take-append-drop, take-take}
use Rattle.std.proofs.Math.Seq.{drop-append_seam, take-append_seam}
use Rattle.std.proofs.lemmas.Bool.{ltb-false}
use Rattle.std.proofs.lemmas.Bool.Decides.{nat_tests}
use Rattle.std.proofs.Math.Bool.{or-false, or_assoc}
use Rattle.net_base.specs.Refusals.{first_of, refused_if}
use Rattle.ip_part.proofs.OptionsLemmas.{are_ipv6_options}
use Rattle.ip_part.specs.ExtensionHeaders.{ExtensionHeader, IsChain, IsWhole, bytes_of, destination_by, extension_len, is_extension, is_fragment_by, is_later_fragment, is_later_fragment_by, is_one_of_fragments, next_number, source_by}
use Rattle.ip_part.specs.Ip.{Carries, IsAfterHeaders, Reads, has_authentication, may_be_extended, counted, counted_len, extension_header, extension_refusal, first_headers, first_number, headers_after, headers_to_transport, ip_header, ipv4_header, ipv4_headers, ipv6_header, ipv6_headers, is_extended, is_jumbogram, next_header, padding, unless_refused, with_header}
use Rattle.ip_part.specs.Headers.{Headers}
use Rattle.ip_part.specs.Addresses.{Addresses, Ipv4, Ipv6, is_ipv6}
use Rattle.ip_part.specs.declared.ip_error.IpError.{IpError}
use Rattle.net_base.specs.IpHeaders.{ipv4_fragment_offset, ipv4_header_len, ipv4_is_fragment, version}
use Rattle.ip_part.specs.declared.transport.TransportInIp.{TransportInIp}

-- ---- only one reading

-- the second byte of a front of at least eight bytes is the second byte of all bytes
second_byte : (front rest : List ℕ) → 8 ≤ length front → slice_index (front ++ rest) 1 ≡ slice_index front 1
second_byte [] rest long = absurd (omega (arith, long))
second_byte (a ∷ []) rest long = absurd (omega (arith, long))
second_byte (a ∷ (b ∷ front)) rest long = refl

-- the length of an extension header, from its number and its length byte
len_by : ℕ → ℕ → ℕ
len_by number words = if number == 44 then 8 else if number == 51 then (words + 2) * 4 else (words + 1) * 8

same_len : (number other : ℕ) (front rest front' rest' : List ℕ) → number ≡ other → 8 ≤ length front → 8 ≤ length front'
    → length front ≡ extension_len number front → length front' ≡ extension_len other front'
    → front ++ rest ≡ front' ++ rest' → length front ≡ length front'
unfolding len_by
same_len number other front rest front' rest' same long long' len len' whole =
    let words : slice_index front 1 ≡ slice_index front' 1 =
    sym (second_byte front rest long) ∙ ap (λ bytes. slice_index bytes 1) whole ∙ second_byte front' rest' long' in
    len ∙ ap (λ n. len_by n (slice_index front 1)) same ∙ ap (len_by other) words ∙ sym len'

-- two fronts of equal bytes, with the same length, are equal
same_fronts : (front rest front' rest' : List ℕ) → front ++ rest ≡ front' ++ rest' → length front ≡ length front'
    → (front ≡ front') × (rest ≡ rest')
same_fronts front rest front' rest' whole len =
    let fronts : front ≡ front' =
    sym (take-append_seam front rest) ∙ ap (take (length front)) whole ∙ ap (λ n. take n (front' ++ rest')) len
    ∙ take-append_seam front' rest' in
    (fronts, append_cancel_left front' rest rest' (ap (λ bytes. bytes ++ rest) (sym fronts) ∙ whole))

-- no extension header comes if none may come
none_comes : (may : Bool) (number : ℕ) (next : ExtensionHeader) → (may && is_extension number) ≡ false → may ≡ true
    → next.number ≡ number → is_extension next.number ≡ true → ⊥
none_comes true number next ended may is known = cc (ended, is, known)
none_comes false number next ended may is known = cc (may)

same_header : (a b : ExtensionHeader) → a.number ≡ b.number → a.bytes ≡ b.bytes → a ≡ b
same_header a b numbers bytes =
    ap (λ number. record { number = number; bytes = a.bytes }) numbers ∙ ap (λ bytes. record { number = b.number; bytes = bytes }) bytes

-- two chains in the same bytes with the same first number are equal
one_chain : (six may : Bool) (number : ℕ) (headers others : List ExtensionHeader) (protocol other : ℕ) (payload left : List ℕ)
    → IsChain six may number headers protocol → IsChain six may number others other → bytes_of headers ++ payload ≡ bytes_of others ++ left
    → (others ≡ headers) × (other ≡ protocol) × (left ≡ payload)
one_chain six may number [] [] protocol other payload left chain again whole = (refl, sym again.0 ∙ chain.0, sym whole)
one_chain six may number [] (next ∷ others) protocol other payload left chain again whole =
    absurd (none_comes may number next chain.1 again.0 again.1 again.2.known)
one_chain six may number (header ∷ headers) [] protocol other payload left chain again whole =
    absurd (none_comes may number header again.1 chain.0 chain.1 chain.2.known)
one_chain six may number (header ∷ headers) (next ∷ others) protocol other payload left chain again whole =
    let same_bytes : header.bytes ++ (bytes_of headers ++ payload) ≡ next.bytes ++ (bytes_of others ++ left) =
    sym (append_assoc header.bytes (bytes_of headers) payload) ∙ whole ∙ append_assoc next.bytes (bytes_of others) left in
    let numbers : header.number ≡ next.number = chain.1 ∙ sym again.1 in
    let len = same_len header.number next.number header.bytes (bytes_of headers ++ payload) next.bytes (bytes_of others ++ left) numbers
    chain.2.shortest again.2.shortest chain.2.len again.2.len same_bytes in
    let same = same_fronts header.bytes (bytes_of headers ++ payload) next.bytes (bytes_of others ++ left) same_bytes len in
    let is : next ≡ header = sym (same_header header next numbers same.0) in
    let rest : IsChain six (six && not (is_later_fragment header.number header.bytes)) (next_number header.bytes) others other =
    subst (λ h. IsChain six (six && not (is_later_fragment h.number h.bytes)) (next_number h.bytes) others other) is again.3 in
    let tail = one_chain six (six && not (is_later_fragment header.number header.bytes))
    (next_number header.bytes) headers others protocol other payload left chain.3 rest same.1 in
    (cc (is, tail.0), tail.1, tail.2)

-- a packet has one reading
pub one_reading : (missing : Bool) (packet : List ℕ) (headers others : List ExtensionHeader) (protocol other : ℕ) (payload left : List ℕ)
    → Reads missing packet headers protocol payload → Reads missing packet others other left
    → (others ≡ headers) × (other ≡ protocol) × (left ≡ payload)
one_reading missing packet headers others protocol other payload left reads again =
    let after : bytes_of headers ++ (payload ++ padding missing packet) ≡ bytes_of others ++ (left ++ padding missing packet) =
    append_cancel_left (ip_header packet) _ _ (sym reads.whole ∙ again.whole) in
    let front : bytes_of headers ++ payload ≡ bytes_of others ++ left =
    append_cancel_right (bytes_of headers ++ payload) (bytes_of others ++ left) (padding missing packet)
    (append_assoc (bytes_of headers) payload (padding missing packet) ∙ after
    ∙ sym (append_assoc (bytes_of others) left (padding missing packet))) in
    one_chain (not (version packet == 4)) (may_be_extended packet)
    (first_number packet) headers others protocol other payload left reads.chain again.chain front

-- ---- the headers that are found form a reading

-- the addresses after these extension headers, given the addresses after the IP header
pub with_extensions : Addresses → List ExtensionHeader → Addresses
with_extensions (Ipv4 source destination) extensions = Ipv4 source destination
with_extensions (Ipv6 source destination) extensions = Ipv6 (source_by source extensions) (destination_by destination extensions)

-- extension headers lead from these headers to the last headers
pub record IsFound (headers last : Headers) (bytes : List ℕ) : Type 0 where
  pub extensions : List ExtensionHeader
  pub chain : IsChain (is_ipv6 headers.addresses) headers.may_be_extended headers.protocol.0 extensions last.protocol.0
  pub whole : drop headers.len bytes ≡ bytes_of extensions ++ drop last.len bytes
  pub len : headers.len + length (bytes_of extensions) ≡ last.len
  pub addresses : last.addresses ≡ with_extensions headers.addresses extensions
  pub is_fragment : last.is_fragment ≡ (headers.is_fragment || is_fragment_by extensions)
  pub is_later_fragment : last.is_later_fragment ≡ (headers.is_later_fragment || is_later_fragment_by extensions)

-- extension headers don't change addresses of IPv4
pub no_change : (extensions : List ExtensionHeader) (source destination : List ℕ)
    → with_extensions (Ipv4 source destination) extensions ≡ Ipv4 source destination
unfolding with_extensions
no_change extensions source destination = refl

-- no extension header follows the last headers
no_extension : (addresses : Addresses) → addresses ≡ with_extensions addresses []
unfolding with_extensions
no_extension (Ipv4 source destination) = refl
no_extension (Ipv6 source destination) = refl

found_last : (last : Headers) (bytes : List ℕ) → is_extended last ≡ false → IsFound last last bytes
found_last last bytes ended = record {
  extensions = [];
  chain = (refl, ended);
  whole = refl;
  len = omega arith;
  addresses = no_extension last.addresses;
  is_fragment = sym (or-false last.is_fragment);
  is_later_fragment = sym (or-false last.is_later_fragment);
}

-- the addresses after another extension header
with_one_more : (addresses : Addresses) (header : ExtensionHeader) (extensions : List ExtensionHeader)
    → with_extensions (with_header addresses header.number header.bytes) extensions ≡ with_extensions addresses (header ∷ extensions)
unfolding with_extensions
with_one_more (Ipv4 source destination) header extensions = refl
with_one_more (Ipv6 source destination) header extensions = refl

-- an extension header does not change the version of the addresses
pub same_version : (addresses : Addresses) (number : ℕ) (bytes : List ℕ) → is_ipv6 (with_header addresses number bytes) ≡ is_ipv6 addresses
same_version (Ipv4 source destination) number bytes = refl
same_version (Ipv6 source destination) number bytes = refl

pub both_whole : (short cut : Bool) (a b : IpError) (other : Option IpError)
    → first_of (refused_if short a ∷ refused_if cut b ∷ other ∷ []) ≡ None
    → (short ≡ false) × (cut ≡ false)
both_whole true cut a b other none = absurd (cc none)
both_whole false true a b other none = absurd (cc none)
both_whole false false a b other none = (refl, refl)

at_least_eight : (is_fragment is_authentication : Bool) (words : ℕ)
    → 8 ≤ (if is_fragment then 8 else if is_authentication then (words + 2) * 4 else (words + 1) * 8)
at_least_eight true is_authentication words = omega arith
at_least_eight false true words = omega arith
at_least_eight false false words = omega arith

pub whole_front : (number : ℕ) (rest : List ℕ) → 8 ≤ length rest → extension_len number rest ≤ length rest → is_extension number ≡ true
    → IsWhole (record { number = number; bytes = take (extension_len number rest) rest })
unfolding len_by
whole_front number rest long there known =
    let front : List ℕ = take (extension_len number rest) rest in
    let len : length front ≡ extension_len number rest = omega (arith, there, length-take (extension_len number rest) rest) in
    let eight : 8 ≤ length front = omega (arith, len, at_least_eight (number == 44) (number == 51) (slice_index rest 1)) in
    let words : slice_index rest 1 ≡ slice_index front 1 =
    ap (λ bytes. slice_index bytes 1) (sym (take-append-drop (extension_len number rest) rest))
    ∙ second_byte front (drop (extension_len number rest) rest) eight in
    record { known = known; shortest = eight; len = len ∙ ap (len_by number) words }

pub and_parts : (a b : Bool) → (a && b) ≡ true → (a ≡ true) × (b ≡ true)
and_parts true b is = (refl, is)
and_parts false b is = absurd (cc is)

found_more : (headers last : Headers) (bytes : List ℕ) → is_extended headers ≡ true
    → extension_refusal headers (drop headers.len bytes) ≡ None
    → IsFound (headers_after headers (extension_header headers (drop headers.len bytes))) last bytes → IsFound headers last bytes
found_more headers last bytes is none found =
    let rest : List ℕ = drop headers.len bytes in
    let count : ℕ = extension_len headers.protocol.0 rest in
    let header : ExtensionHeader = record { number = headers.protocol.0; bytes = take count rest } in
    let known = and_parts headers.may_be_extended (is_extension headers.protocol.0) is in
    let there = both_whole (nat_lt (length rest) 8) (nat_lt (length rest) count) _ _ _ none in
    let whole = whole_front headers.protocol.0 rest (ltb-false _ _ there.0) (ltb-false _ _ there.1) known.1 in
    let len : length header.bytes ≡ count = omega (arith, ltb-false (length rest) count there.1, length-take count rest) in
    record {
      extensions = header ∷ found.extensions;
      chain = (
        known.0,
        refl,
        whole,
        subst (λ six. IsChain six (is_ipv6 headers.addresses && not (is_later_fragment header.number header.bytes))
            (next_number header.bytes) found.extensions last.protocol.0)
            (same_version headers.addresses header.number header.bytes) found.chain,
      );
      whole = sym (take-append-drop count rest)
          ∙ ap (λ after. header.bytes ++ after) (ap (λ n. drop n rest) (sym len) ∙ drop-drop (length header.bytes) headers.len bytes
          ∙ found.whole)
          ∙ sym (append_assoc header.bytes (bytes_of found.extensions) (drop last.len bytes));
      len = omega (arith, found.len, length-append header.bytes (bytes_of found.extensions));
      addresses = found.addresses
          ∙ with_one_more headers.addresses header found.extensions;
      is_fragment = found.is_fragment ∙ or_assoc headers.is_fragment (is_one_of_fragments header.number header.bytes)
          (is_fragment_by found.extensions);
      is_later_fragment = found.is_later_fragment
          ∙ or_assoc headers.is_later_fragment (is_later_fragment header.number header.bytes) (is_later_fragment_by found.extensions);
    }

found_if : (is : Bool) (refusal : Option IpError) (more : ℕ) (headers last : Headers) (bytes : List ℕ)
    → is_extended headers ≡ is → extension_refusal headers (drop headers.len bytes) ≡ refusal → is_extended last ≡ false
    → (headers_to_transport more (headers_after headers (extension_header headers (drop headers.len bytes))) bytes ≡ Ok last
    → IsFound (headers_after headers (extension_header headers (drop headers.len bytes))) last bytes)
    → (if is then unless_refused refusal
    (headers_to_transport more (headers_after headers (extension_header headers (drop headers.len bytes))) bytes) else Ok headers)
    ≡ Ok last
    → IsFound headers last bytes
found_if true (Some error) more headers last bytes is refuses ended others read = absurd (cc read)
found_if true None more headers last bytes is refuses ended others read = found_more headers last bytes is refuses (others read)
found_if false refusal more headers last bytes is refuses ended others read =
    let same : headers ≡ last = cc read in
    subst (λ h. IsFound h last bytes) (sym same) (found_last last bytes ended)

pub found_from : (more : ℕ) (headers last : Headers) (bytes : List ℕ) → is_extended last ≡ false
    → headers_to_transport more headers bytes ≡ Ok last → IsFound headers last bytes
unfolding headers_to_transport
found_from zero headers last bytes ended read =
    let same : headers ≡ last = cc read in
    subst (λ h. IsFound h last bytes) (sym same) (found_last last bytes ended)
found_from (suc more) headers last bytes ended read =
    found_if (is_extended headers) (extension_refusal headers (drop headers.len bytes)) more headers last bytes refl refl ended
    (λ read. found_from more (headers_after headers (extension_header headers (drop headers.len bytes))) last bytes ended read) read

-- ---- the packet

-- the first headers come from the IP header, and count its bytes
pub first_front : (is_four : Bool) (packet : List ℕ) (len : ℕ) (four six : Headers) → four.len ≡ len → six.len ≡ 40
    → (if is_four then take len packet else take 40 packet) ≡ take (if is_four then four else six).len packet
first_front true packet len four six same same_too = ap (λ n. take n packet) (sym same)
first_front false packet len four six same same_too = ap (λ n. take n packet) (sym same_too)

same_chain : (six six' may may' : Bool) (number number' : ℕ) (extensions : List ExtensionHeader) (protocol : ℕ)
    → six ≡ six' → may ≡ may' → number ≡ number' → IsChain six may number extensions protocol
    → IsChain six' may' number' extensions protocol
same_chain six six' may may' number number' extensions protocol same_version same_may is chain =
    subst (λ six. IsChain six may' number' extensions protocol) same_version
    (subst (λ may. IsChain six may number' extensions protocol) same_may
    (subst (λ number. IsChain six may number extensions protocol) is chain))

first_chain : (is_four : Bool) (four six : Headers) (number number_too : ℕ) (may : Bool) (extensions : List ExtensionHeader) (protocol : ℕ)
    → is_ipv6 four.addresses ≡ false → is_ipv6 six.addresses ≡ true → four.may_be_extended ≡ may → six.may_be_extended ≡ true
    → four.protocol.0 ≡ number → six.protocol.0 ≡ number_too
    → IsChain (is_ipv6 (if is_four then four else six).addresses) (if is_four then four else six).may_be_extended
    (if is_four then four else six).protocol.0 extensions protocol
    → IsChain (not is_four) (if is_four then may else true) (if is_four then number else number_too) extensions protocol
first_chain true four six number number_too may extensions protocol v v_too m m_too is is_too chain =
    same_chain _ _ _ _ _ _ extensions protocol v m is chain
first_chain false four six number number_too may extensions protocol v v_too m m_too is is_too chain =
    same_chain _ _ _ _ _ _ extensions protocol v_too m_too is_too chain

first_addresses : (is_four : Bool) (four six : Headers) (extensions : List ExtensionHeader) (source destination source_too : List ℕ)
    (destination_too : Option (List ℕ)) → four.addresses ≡ Ipv4 source destination → six.addresses ≡ Ipv6 source_too destination_too
    → with_extensions (if is_four then four else six).addresses extensions
    ≡ (if is_four then Ipv4 source destination else Ipv6 (source_by source_too extensions) (destination_by destination_too extensions))
unfolding with_extensions
first_addresses true four six extensions source destination source_too destination_too is is_too = ap (λ a. with_extensions a extensions) is
first_addresses false four six extensions source destination source_too destination_too is is_too =
    ap (λ a. with_extensions a extensions) is_too

-- an authentication header is no fragment header
no_fragment : (header : ExtensionHeader) → header.number ≡ 51 → is_one_of_fragments header.number header.bytes ≡ false
no_fragment header is = ap (λ number. is_one_of_fragments number header.bytes) is

-- over IPv4 the chain consists of at most an authentication header
pub number_is : (number : ℕ) → (number == 51) ≡ true → number ≡ 51
number_is number is = grind (arith, nat_tests)

pub no_fragment_over_ipv4 : (may : Bool) (number : ℕ) (extensions : List ExtensionHeader) (protocol : ℕ) → (may ≡ true → number ≡ 51)
    → IsChain false may number extensions protocol → is_fragment_by extensions ≡ false
no_fragment_over_ipv4 may number [] protocol is chain = refl
no_fragment_over_ipv4 may number (header ∷ []) protocol is chain =
    ap (λ one. one || false) (no_fragment header (chain.1 ∙ is chain.0))
no_fragment_over_ipv4 may number (header ∷ (next ∷ headers)) protocol is chain = absurd (cc (chain.3.0))

first_fragment : (is_four : Bool) (four six : Headers) (may : Bool) (extensions : List ExtensionHeader) (is : Bool) (protocol number : ℕ)
    → four.is_fragment ≡ is → six.is_fragment ≡ false → (is_four ≡ true → may ≡ true → number ≡ 51)
    → IsChain (not is_four) may number extensions protocol
    → ((if is_four then four else six).is_fragment || is_fragment_by extensions) ≡ (if is_four then is else is_fragment_by extensions)
first_fragment true four six may extensions is protocol number same same_too known chain =
    ap (λ b. four.is_fragment || b) (no_fragment_over_ipv4 may number extensions protocol (known refl) chain) ∙ or-false four.is_fragment
    ∙ same
first_fragment false four six may extensions is protocol number same same_too known chain =
    ap (λ b. b || is_fragment_by extensions) same_too

-- an authentication header is not the fragment header of a later fragment
not_later : (header : ExtensionHeader) → header.number ≡ 51 → is_later_fragment header.number header.bytes ≡ false
not_later header is = ap (λ number. is_later_fragment number header.bytes) is

pub none_later_over_ipv4 : (may : Bool) (number : ℕ) (extensions : List ExtensionHeader) (protocol : ℕ) → (may ≡ true → number ≡ 51)
    → IsChain false may number extensions protocol → is_later_fragment_by extensions ≡ false
none_later_over_ipv4 may number [] protocol is chain = refl
none_later_over_ipv4 may number (header ∷ []) protocol is chain =
    ap (λ one. one || false) (not_later header (chain.1 ∙ is chain.0))
none_later_over_ipv4 may number (header ∷ (next ∷ headers)) protocol is chain = absurd (cc (chain.3.0))

first_later : (is_four : Bool) (four six : Headers) (may : Bool) (extensions : List ExtensionHeader) (is : Bool) (protocol number : ℕ)
    → four.is_later_fragment ≡ is → six.is_later_fragment ≡ false → (is_four ≡ true → may ≡ true → number ≡ 51)
    → IsChain (not is_four) may number extensions protocol
    → ((if is_four then four else six).is_later_fragment || is_later_fragment_by extensions)
    ≡ (if is_four then is else is_later_fragment_by extensions)
first_later true four six may extensions is protocol number same same_too known chain =
    ap (λ b. four.is_later_fragment || b) (none_later_over_ipv4 may number extensions protocol (known refl) chain)
    ∙ or-false four.is_later_fragment ∙ same
first_later false four six may extensions is protocol number same same_too known chain =
    ap (λ b. b || is_later_fragment_by extensions) same_too

-- over IPv4 only an authentication header may come next
only_authentication : (is_four : Bool) (number number_too : ℕ) (whole : Bool) → is_four ≡ true
    → (if is_four then number == 51 && whole else true) ≡ true → (if is_four then number else number_too) ≡ 51
only_authentication true number number_too whole is may = number_is number (and_parts (number == 51) whole may).0
only_authentication false number number_too whole is may = absurd (cc is)

-- the headers of an accepted packet are a reading of the packet
pub after_headers : (packet : List ℕ) (transport : TransportInIp) → Carries packet transport → IsAfterHeaders packet transport
after_headers packet transport carries =
    let missing : Bool = transport.is_length_missing in
    let is_four : Bool = version packet == 4 in
    let four : Headers = ipv4_headers (ipv4_header_len packet) (ipv4_header packet) in
    let six : Headers = ipv6_headers (is_jumbogram packet) (ipv6_header packet) in
    let first : Headers = first_headers packet in
    let last : Headers = carries.headers in
    let bytes : List ℕ = counted missing packet in
    let found = found_from (suc (length bytes)) first last bytes carries.ended carries.read in
    let protocol : last.protocol.0 ≡ transport.protocol.0 = ap (λ p. p.0) (sym carries.protocol) in
    let chain : IsChain (not is_four) (may_be_extended packet) (first_number packet) found.extensions transport.protocol.0 =
    subst (IsChain (not is_four) (may_be_extended packet) (first_number packet) found.extensions) protocol
    (first_chain is_four four six (slice_index (ipv4_header packet) 9) (next_header packet)
    (has_authentication (ipv4_header packet)) found.extensions last.protocol.0
    refl refl refl refl refl refl found.chain) in
    let small : first.len ≤ counted_len missing packet =
    omega (arith, found.len, carries.within, length-take (counted_len missing packet) packet) in
    let there : first.len ≤ length bytes = omega (arith, found.len, carries.within) in
    let front : ip_header packet ≡ take first.len bytes =
    first_front is_four packet (ipv4_header_len packet) four six refl refl
    ∙ sym (take-take first.len (counted_len missing packet) packet small) in
    let whole : packet ≡ ip_header packet ++ (bytes_of found.extensions ++ (transport.payload.now ++ padding missing packet)) =
    sym (take-append-drop (counted_len missing packet) packet)
    ∙ ap (λ bytes. bytes ++ padding missing packet) (sym (take-append-drop first.len bytes))
    ∙ append_assoc (take first.len bytes) (drop first.len bytes) (padding missing packet)
    ∙ ap (λ front. front ++ (drop first.len bytes ++ padding missing packet)) (sym front)
    ∙ ap (λ after. ip_header packet ++ (after ++ padding missing packet))
    (found.whole ∙ ap (λ payload. bytes_of found.extensions ++ payload) (sym carries.payload))
    ∙ ap (λ after. ip_header packet ++ after) (append_assoc (bytes_of found.extensions) transport.payload.now (padding missing packet)) in
    let reads : Reads missing packet found.extensions transport.protocol.0 transport.payload.now =
    record { whole = whole; chain = chain } in
    let front_len : length (ip_header packet) ≡ first.len =
    ap length front ∙ omega (arith, there, length-take first.len bytes) in
    record {
      extensions = found.extensions;
      reads = reads;
      offset = carries.payload_offset ∙ sym found.len ∙ ap (λ len. len + length (bytes_of found.extensions)) (sym front_len);
      options = λ header. are_ipv6_options (drop 2 header);
      addresses = carries.addresses ∙ found.addresses ∙ first_addresses is_four four six found.extensions _ _ _ _ refl refl;
      is_fragment = carries.is_fragment ∙ found.is_fragment
          ∙ first_fragment is_four four six (may_be_extended packet) found.extensions
          (ipv4_is_fragment (ipv4_header packet)) transport.protocol.0 (first_number packet) refl refl
          (only_authentication is_four (slice_index (ipv4_header packet) 9) (next_header packet)
          (ipv4_fragment_offset (ipv4_header packet) == 0)) chain;
      is_later_fragment = carries.is_later_fragment ∙ found.is_later_fragment
          ∙ first_later is_four four six (may_be_extended packet) found.extensions
          (not (ipv4_fragment_offset (ipv4_header packet) == 0)) transport.protocol.0
          (first_number packet) refl refl
          (only_authentication is_four (slice_index (ipv4_header packet) 9) (next_header packet)
          (ipv4_fragment_offset (ipv4_header packet) == 0)) chain;
      alone = λ others other left. one_reading missing packet found.extensions others transport.protocol.0 other transport.payload.now left
          reads;
    }

-- ---- an authentication header over IPv4

-- after an IPv4 header, an authentication header and the payload follow, or only the payload
pub after_ipv4 : (is : Bool) (number : ℕ) (extensions : List ExtensionHeader) (protocol : ℕ) (after payload : List ℕ)
    → (is ≡ true → number ≡ 51) → IsChain false is number extensions protocol → after ≡ bytes_of extensions ++ payload
    → (protocol ≡ (if is then next_number after else number)) × (payload ≡ (if is then drop (extension_len 51 after) after else after))
after_ipv4 false number [] protocol after payload known chain whole = (sym chain.0, sym whole)
after_ipv4 false number (header ∷ headers) protocol after payload known chain whole = absurd (cc (chain.0))
after_ipv4 true number [] protocol after payload known chain whole = absurd (cc (sym (ap is_extension (known refl)) ∙ chain.1))
after_ipv4 true number (header ∷ (next ∷ headers)) protocol after payload known chain whole = absurd (cc (chain.3.0))
after_ipv4 true number (header ∷ []) protocol after payload known chain whole =
    let is : after ≡ header.bytes ++ payload = whole ∙ append_assoc header.bytes [] payload in
    let len : extension_len 51 after ≡ length header.bytes =
    ap (extension_len 51) is ∙ authentication_len header.bytes payload chain.2.shortest
    ∙ ap (λ number. extension_len number header.bytes) (sym (known refl) ∙ sym chain.1) ∙ sym chain.2.len in (
      sym chain.3.0 ∙ sym (ap next_number is ∙ first_byte header.bytes payload chain.2.shortest),
      sym (ap (λ n. drop n after) len ∙ ap (drop (length header.bytes)) is ∙ drop-append_seam header.bytes payload),
    )
  where
    first_byte : (front rest : List ℕ) → 8 ≤ length front → next_number (front ++ rest) ≡ next_number front
    first_byte [] rest long = absurd (omega (arith, long))
    first_byte (byte ∷ front) rest long = refl

    authentication_len : (front rest : List ℕ) → 8 ≤ length front → extension_len 51 (front ++ rest) ≡ extension_len 51 front
    authentication_len front rest long = ap (λ words. (words + 2) * 4) (second_byte front rest long)
