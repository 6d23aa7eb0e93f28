-- Laws of two packets with the same headers: what is read from them is the same.
use Rattle.std.proofs.Common.{◌≡◌, ℕ, zero, suc, ◌+◌, ◌-◌, ◌*◌, ◌/◌, ◌%◌, ◌<◌, ◌≤◌, ◌==◌, ◌&&◌, not, nat_lt, Bool, true, false, if◌then◌else◌, List, [], ◌∷◌, length, take, drop, slice_index, Option, Some, None, Result, Ok, inl, inr, refl, sym, ap, ◌∙◌, arith}
use Rattle.std.specs.Prelude.{◌⊎◌, is_none, is_some, min, unwrap_or}
use Rattle.std.proofs.lemmas.Bool.{ltb-false}
use Rattle.std.proofs.lemmas.Bool.Decides.{nat_tests}
use Rattle.std.proofs.lemmas.List.{drop-take, get_or-drop, get_or-take, length-drop, length-take, length-take-le, take-take}
use Rattle.net_base.specs.IpHeaders.{ipv4_header_len, version}
use Rattle.net_base.specs.Bytes.{be_number}
use Rattle.net_base.specs.Refusals.{first_of, refused_if}
use Rattle.ip_part.specs.ExtensionHeaders.{extension_len, hop_by_hop_options, is_extension}
use Rattle.ip_part.specs.Headers.{Headers}
use Rattle.ip_part.specs.Options.{jumbo_payload_len}
use Rattle.ip_part.specs.Ip as ip
use Rattle.ip_part.specs.Ip.{counted, counted_len, error_of, extension_header, extension_refusal, first_headers, header_refusal, headers_after, headers_of, headers_to_transport, is_extended, jumbogram_refusal, refusal, unless_refused}
use Rattle.ip_part.specs.declared.ip_error.IpError.{IpError}
use Rattle.ip_part.specs.declared.ip_error.IpError.TheVariants.{ExtensionHeaderCutOff, HeaderCutOff, HeaderLength, PacketCutOff, TotalLength, Version}
use Rattle.etherparse_transport.proofs.BuiltLemmas.{none_first, none_if}

-- ---- the same front

-- other bytes with the length of `bytes` and with its first bytes
pub record HasFront (len : ℕ) (bytes changed : List ℕ) : Type 0 where
  pub len_is : length changed ≡ length bytes
  pub front : take len changed ≡ take len bytes

pub shorter : (len n : ℕ) (bytes changed : List ℕ) → n ≤ len → HasFront len bytes changed → take n changed ≡ take n bytes
shorter len n bytes changed within same =
    sym (take-take n len changed within) ∙ ap (take n) same.front ∙ take-take n len bytes within

pub same_byte : (len k : ℕ) (bytes changed : List ℕ) → k < len → HasFront len bytes changed → slice_index changed k ≡ slice_index bytes k
same_byte len k bytes changed within same =
    sym (get_or-take len changed k 0 within) ∙ ap (λ front. slice_index front k) same.front ∙ get_or-take len bytes k 0 within

-- ---- one extension header

-- the errors of an extension header, given its length and bytes
error_by : Headers → ℕ → ℕ → List ℕ → Option IpError
error_by headers len required header = first_of (
    refused_if (nat_lt len 8) (ExtensionHeaderCutOff headers.protocol headers.len 8 len)
    ∷ refused_if (nat_lt len required) (ExtensionHeaderCutOff headers.protocol headers.len required len)
    ∷ jumbogram_refusal headers header
    ∷ [])

-- the extension header at the front of these bytes is also at the front of the changed bytes
record IsSameHeader (headers : Headers) (rest changed : List ℕ) : Type 0 where
  len : extension_len headers.protocol.0 changed ≡ extension_len headers.protocol.0 rest
  header : extension_header headers changed ≡ extension_header headers rest
  refused : extension_refusal headers changed ≡ extension_refusal headers rest

same_header : (headers : Headers) (rest changed : List ℕ) → 8 ≤ extension_len headers.protocol.0 rest
    → HasFront (extension_len headers.protocol.0 rest) rest changed → IsSameHeader headers rest changed
unfolding error_by
same_header headers rest changed long same =
    let number : ℕ = headers.protocol.0 in
    let len : extension_len number changed ≡ extension_len number rest =
    ap (λ byte. if number == 44 then 8 else if number == 51 then (byte + 2) * 4 else (byte + 1) * 8)
    (same_byte (extension_len number rest) 1 rest changed (omega (arith, long)) same) in
    let header : extension_header headers changed ≡ extension_header headers rest =
    ap (λ n. take n changed) len ∙ same.front in
    record {
      len = len;
      header = header;
      refused = ap (λ n. error_by headers n (extension_len number changed) (extension_header headers changed)) same.len_is
          ∙ ap (λ n. error_by headers (length rest) n (extension_header headers changed)) len
          ∙ ap (error_by headers (length rest) (extension_len number rest)) header;
    }

-- an extension header is at least eight bytes long
by_number : (is_fragment is_authentication : Bool) (words : ℕ)
    → 8 ≤ (if is_fragment then 8 else if is_authentication then (words + 2) * 4 else (words + 1) * 8)
by_number true is_authentication words = omega arith
by_number false true words = omega arith
by_number false false words = omega arith

at_least_eight : (number : ℕ) (rest : List ℕ) → 8 ≤ extension_len number rest
at_least_eight number rest = by_number (number == 44) (number == 51) (slice_index rest 1)

both_whole : (short cut : Bool) (a b : IpError) (other : Option IpError)
    → first_of (refused_if short a ∷ refused_if cut b ∷ other ∷ []) ≡ None
    → (short ≡ false) × (cut ≡ false)
both_whole true cut a b other none = absurd (cc none)
both_whole false true a b other none = absurd (cc none)
both_whole false false a b other none = (refl, refl)

-- an accepted extension header is in the bytes
record IsThere (headers : Headers) (rest : List ℕ) : Type 0 where
  shortest : 8 ≤ length rest
  whole : extension_len headers.protocol.0 rest ≤ length rest
  header_len : length (extension_header headers rest) ≡ extension_len headers.protocol.0 rest

is_there : (headers : Headers) (rest : List ℕ) → extension_refusal headers rest ≡ None → IsThere headers rest
is_there headers rest none =
    let count : ℕ = extension_len headers.protocol.0 rest in
    let there = both_whole (nat_lt (length rest) 8) (nat_lt (length rest) count) _ _ _ none in
    let whole : count ≤ length rest = ltb-false (length rest) count there.1 in
    record { shortest = ltb-false (length rest) 8 there.0; whole = whole; header_len = length-take-le count rest whole }

-- ---- all headers

-- each extension header adds its length to the headers
longer_if : (is : Bool) (refused : Option IpError) (more : ℕ) (headers last : Headers) (header bytes : List ℕ)
    → (headers_to_transport more (headers_after headers header) bytes ≡ Ok last → headers.len + length header ≤ last.len)
    → (if is then unless_refused refused (headers_to_transport more (headers_after headers header) bytes) else Ok headers) ≡ Ok last
    → headers.len ≤ last.len
longer_if true (Some error) more headers last header bytes others read = absurd (cc read)
longer_if true None more headers last header bytes others read = omega (arith, others read)
longer_if false refused more headers last header bytes others read =
    let same : headers ≡ last = cc read in omega (arith, ap (λ h. h.len) same)

pub longer : (more : ℕ) (headers last : Headers) (bytes : List ℕ) → headers_to_transport more headers bytes ≡ Ok last
    → headers.len ≤ last.len
unfolding headers_to_transport
longer zero headers last bytes read = let same : headers ≡ last = cc read in omega (arith, ap (λ h. h.len) same)
longer (suc more) headers last bytes read =
    let header : List ℕ = extension_header headers (drop headers.len bytes) in
    longer_if (is_extended headers) (extension_refusal headers (drop headers.len bytes)) more headers last header bytes
    (λ read. longer more (headers_after headers header) last bytes read) read

-- the first extension header ends before the end of the headers
record IsWithin (headers last : Headers) (bytes : List ℕ) : Type 0 where
  none : extension_refusal headers (drop headers.len bytes) ≡ None
  end : headers.len + extension_len headers.protocol.0 (drop headers.len bytes) ≤ last.len

within_if : (refused : Option IpError) (more : ℕ) (headers last : Headers) (bytes : List ℕ)
    → extension_refusal headers (drop headers.len bytes) ≡ refused
    → unless_refused refused (headers_to_transport more (headers_after headers (extension_header headers (drop headers.len bytes))) bytes)
    ≡ Ok last
    → IsWithin headers last bytes
within_if (Some error) more headers last bytes refuses read = absurd (cc read)
within_if None more headers last bytes refuses read =
    let there = is_there headers (drop headers.len bytes) refuses in
    let after : headers.len + length (extension_header headers (drop headers.len bytes)) ≤ last.len =
    longer more (headers_after headers (extension_header headers (drop headers.len bytes))) last bytes read in
    record { none = refuses; end = omega (arith, there.header_len, after) }

within_by : (is : Bool) (more : ℕ) (headers last : Headers) (bytes : List ℕ) → is ≡ true
    → (if is then unless_refused (extension_refusal headers (drop headers.len bytes))
    (headers_to_transport more (headers_after headers (extension_header headers (drop headers.len bytes))) bytes) else Ok headers) ≡ Ok last
    → IsWithin headers last bytes
within_by true more headers last bytes is read =
    within_if (extension_refusal headers (drop headers.len bytes)) more headers last bytes refl read
within_by false more headers last bytes is read = absurd (cc is)

first_within : (more : ℕ) (headers last : Headers) (bytes : List ℕ) → is_extended headers ≡ true
    → headers_to_transport (suc more) headers bytes ≡ Ok last → IsWithin headers last bytes
unfolding headers_to_transport
first_within more headers last bytes is read = within_by (is_extended headers) more headers last bytes is read

-- a range in bytes with the same front has the same front
same_range : (len from count : ℕ) (bytes changed : List ℕ) → from + count ≤ len → HasFront len bytes changed
    → HasFront count (drop from bytes) (drop from changed)
same_range len from count bytes changed within same = record {
  len_is = length-drop from changed ∙ ap (λ n. n - from) same.len_is ∙ sym (length-drop from bytes);
  front = sym (drop-take from count changed) ∙ ap (drop from) (shorter len (from + count) bytes changed within same)
      ∙ drop-take from count bytes;
}

kept_if : (is : Bool) (refused : Option IpError) (more : ℕ) (headers last : Headers) (bytes changed : List ℕ)
    → HasFront last.len bytes changed
    → extension_refusal headers (drop headers.len bytes) ≡ refused
    → (headers_to_transport more (headers_after headers (extension_header headers (drop headers.len bytes))) bytes ≡ Ok last
    → headers_to_transport more (headers_after headers (extension_header headers (drop headers.len bytes))) changed ≡ Ok last)
    → (if is then unless_refused refused
    (headers_to_transport more (headers_after headers (extension_header headers (drop headers.len bytes))) bytes) else Ok headers)
    ≡ Ok last
    → (if is then unless_refused (extension_refusal headers (drop headers.len changed))
    (headers_to_transport more (headers_after headers (extension_header headers (drop headers.len changed))) changed) else Ok headers)
    ≡ Ok last
kept_if true (Some error) more headers last bytes changed same refuses others read = absurd (cc read)
kept_if false refused more headers last bytes changed same refuses others read = read
kept_if true None more headers last bytes changed same refuses others read =
    let rest : List ℕ = drop headers.len bytes in
    let rest_too : List ℕ = drop headers.len changed in
    let count : ℕ = extension_len headers.protocol.0 rest in
    let front = within_if None more headers last bytes refuses read in
    let alike = same_header headers rest rest_too (at_least_eight headers.protocol.0 rest)
    (same_range last.len headers.len count bytes changed front.end same) in
    ap (λ refused. unless_refused refused (headers_to_transport more (headers_after headers (extension_header headers rest_too)) changed))
    (alike.refused ∙ refuses)
    ∙ ap (λ header. headers_to_transport more (headers_after headers header) changed) alike.header
    ∙ others read

pub chain_kept : (more : ℕ) (headers last : Headers) (bytes changed : List ℕ) → HasFront last.len bytes changed
    → headers_to_transport more headers bytes ≡ Ok last → headers_to_transport more headers changed ≡ Ok last
unfolding headers_to_transport
chain_kept zero headers last bytes changed same read = read
chain_kept (suc more) headers last bytes changed same read =
    kept_if (is_extended headers) (extension_refusal headers (drop headers.len bytes)) more headers last bytes changed same refl
    (λ read. chain_kept more (headers_after headers (extension_header headers (drop headers.len bytes))) last bytes changed same read) read

-- ---- the IP header

-- both packets have the same refusal of the header, the same first headers, and the same number of counted bytes
pub record IsAlike (packet changed : List ℕ) : Type 0 where
  pub refused : header_refusal changed ≡ header_refusal packet
  pub lacks : ip.lacks_len changed ≡ ip.lacks_len packet
  pub first : first_headers changed ≡ first_headers packet
  pub counts : counted_len false changed ≡ counted_len false packet

four_if : {T : Type 0} (v : ℕ) (four six : T) → v ≡ 4 → (if v == 4 then four else six) ≡ four
four_if v four six is = ap (λ v. if v == 4 then four else six) is

six_if : {T : Type 0} (v : ℕ) (four six : T) → v ≡ 6 → (if v == 4 then four else six) ≡ six
six_if v four six is = ap (λ v. if v == 4 then four else six) is

-- the errors of an IPv4 header, given its length and bytes
four_error : ℕ → ℕ → List ℕ → Option IpError
four_error len header_len header = first_of (
    first_of (
    refused_if (nat_lt len 20) (HeaderCutOff 20 len)
    ∷ refused_if (nat_lt header_len 20) (HeaderLength header_len)
    ∷ refused_if (nat_lt len header_len) (HeaderCutOff header_len len)
    ∷ [])
    ∷ refused_if (not (be_number header 2 2 == 0) && nat_lt (be_number header 2 2) header_len)
    (TotalLength (be_number header 2 2) header_len)
    ∷ [])

four_refused : (packet : List ℕ) → version packet ≡ 4
    → header_refusal packet ≡ (if length packet == 0 then Some (HeaderCutOff 1 0)
    else four_error (length packet) (ipv4_header_len packet) (ip.ipv4_header packet))
unfolding four_error
four_refused packet is =
    ap (λ v. if length packet == 0 then Some (HeaderCutOff 1 0) else if v == 4 then ip.ipv4_refusal packet
    else if v == 6 then ip.ipv6_refusal packet else Some (Version v)) is

six_refused : (packet : List ℕ) → version packet ≡ 6
    → header_refusal packet ≡ (if length packet == 0 then Some (HeaderCutOff 1 0) else ip.ipv6_refusal packet)
six_refused packet is =
    ap (λ v. if length packet == 0 then Some (HeaderCutOff 1 0) else if v == 4 then ip.ipv4_refusal packet
    else if v == 6 then ip.ipv6_refusal packet else Some (Version v)) is

four_alike : (len : ℕ) (packet changed : List ℕ) → version packet ≡ 4 → 0 < len → ipv4_header_len packet ≤ len → HasFront len packet changed
    → IsAlike packet changed
four_alike len packet changed is some long same =
    let first_byte = same_byte len 0 packet changed some same in
    let is_too : version changed ≡ 4 = ap (λ byte. byte / 16) first_byte ∙ is in
    let header_len : ipv4_header_len changed ≡ ipv4_header_len packet = ap (λ byte. byte % 16 * 4) first_byte in
    let header : ip.ipv4_header changed ≡ ip.ipv4_header packet =
    ap (λ n. take n changed) header_len ∙ shorter len (ipv4_header_len packet) packet changed long same in
    let total : ip.total_len changed ≡ ip.total_len packet = ap (λ header. be_number header 2 2) header in
    let error : ℕ → ℕ → List ℕ → Option IpError =
    λ n header_len header. if n == 0 then Some (HeaderCutOff 1 0) else four_error n header_len header in
    record {
      refused = four_refused changed is_too
          ∙ ap (λ n. error n (ipv4_header_len changed) (ip.ipv4_header changed)) same.len_is
          ∙ ap (λ n. error (length packet) n (ip.ipv4_header changed)) header_len
          ∙ ap (error (length packet) (ipv4_header_len packet)) header
          ∙ sym (four_refused packet is);
      lacks = ap is_none (four_if (version changed) _ _ is_too) ∙ ap (λ n. is_none (if n == 0 then None else Some n)) total
          ∙ sym (ap is_none (four_if (version packet) _ _ is));
      first = four_if (version changed) _ _ is_too ∙ ap (λ n. ip.ipv4_headers n (ip.ipv4_header changed)) header_len
          ∙ ap (ip.ipv4_headers (ipv4_header_len packet)) header ∙ sym (four_if (version packet) _ _ is);
      counts = four_if (version changed) _ _ is_too ∙ total ∙ sym (four_if (version packet) _ _ is);
    }

-- ---- hop-by-hop options with the length

-- the errors of hop-by-hop options that must contain the length, given their lengths and bytes
options_error : ℕ → ℕ → List ℕ → Option IpError
options_error len required header = first_of (
    first_of (
    refused_if (nat_lt len 8) (HeaderCutOff 48 (40 + len))
    ∷ refused_if (nat_lt len required) (HeaderCutOff (40 + required) (40 + len))
    ∷ [])
    ∷ ip.jumbo_len_refusal (jumbo_payload_len header)
    ∷ [])

record IsSameOptions (rest changed : List ℕ) : Type 0 where
  refused : ip.len_in_options_refusal changed ≡ ip.len_in_options_refusal rest
  stated : ip.len_in_options changed ≡ ip.len_in_options rest

same_options : (rest changed : List ℕ) → HasFront (extension_len hop_by_hop_options rest) rest changed → IsSameOptions rest changed
unfolding options_error
same_options rest changed same =
    let count : ℕ = extension_len hop_by_hop_options rest in
    let eight = at_least_eight hop_by_hop_options rest in
    let len : extension_len hop_by_hop_options changed ≡ count =
    ap (λ byte. (byte + 1) * 8) (same_byte count 1 rest changed (omega (arith, eight)) same) in
    let options : ip.options_at changed ≡ ip.options_at rest = ap (λ n. take n changed) len ∙ same.front in
    record {
      refused = ap (λ n. options_error n (extension_len hop_by_hop_options changed) (ip.options_at changed)) same.len_is
          ∙ ap (λ n. options_error (length rest) n (ip.options_at changed)) len
          ∙ ap (options_error (length rest) count) options;
      stated = ap jumbo_payload_len options;
    }

record IsSameJumbogram (packet changed : List ℕ) : Type 0 where
  refused : ip.jumbo_refusal changed ≡ ip.jumbo_refusal packet
  stated : ip.jumbo_len changed ≡ ip.jumbo_len packet

same_jumbogram : (has : Bool) (packet changed : List ℕ) → ip.has_len_in_options packet ≡ has → ip.has_len_in_options changed ≡ has
    → (has ≡ true → HasFront (extension_len hop_by_hop_options (drop 40 packet)) (drop 40 packet) (drop 40 changed))
    → IsSameJumbogram packet changed
same_jumbogram true packet changed is is_too same =
    let alike = same_options (drop 40 packet) (drop 40 changed) (same refl) in
    let error : List ℕ → Bool → Option IpError = λ bytes has. if has then ip.len_in_options_refusal (drop 40 bytes) else None in
    let stated : List ℕ → Bool → Option ℕ = λ bytes has. if has then ip.len_in_options (drop 40 bytes) else None in
    record {
      refused = ap (error changed) is_too ∙ alike.refused ∙ sym (ap (error packet) is);
      stated = ap (stated changed) is_too ∙ alike.stated ∙ sym (ap (stated packet) is);
    }
same_jumbogram false packet changed is is_too same =
    let error : List ℕ → Bool → Option IpError = λ bytes has. if has then ip.len_in_options_refusal (drop 40 bytes) else None in
    let stated : List ℕ → Bool → Option ℕ = λ bytes has. if has then ip.len_in_options (drop 40 bytes) else None in
    record {
      refused = ap (error changed) is_too ∙ sym (ap (error packet) is);
      stated = ap (stated changed) is_too ∙ sym (ap (stated packet) is);
    }

six_alike : (len : ℕ) (packet changed : List ℕ) → version packet ≡ 6 → 40 ≤ len → HasFront len packet changed
    → (ip.has_len_in_options packet ≡ true → HasFront (extension_len hop_by_hop_options (drop 40 packet)) (drop 40 packet)
    (drop 40 changed))
    → IsAlike packet changed
six_alike len packet changed is long same options =
    let first_byte = same_byte len 0 packet changed (omega (arith, long)) same in
    let is_too : version changed ≡ 6 = ap (λ byte. byte / 16) first_byte ∙ is in
    let header : ip.ipv6_header changed ≡ ip.ipv6_header packet = shorter len 40 packet changed long same in
    let has : ip.has_len_in_options changed ≡ ip.has_len_in_options packet =
    ap (λ header. (be_number header 4 2 == 0) && (slice_index header 6 == 0)) header in
    let jumbogram = same_jumbogram (ip.has_len_in_options packet) packet changed refl has options in
    let error : ℕ → Option IpError → Option IpError = λ n refused. if n == 0 then Some (HeaderCutOff 1 0)
    else first_of (refused_if (nat_lt n 40) (HeaderCutOff 40 n) ∷ refused ∷ []) in
    let stated : Option ℕ → List ℕ → Bool =
    λ jumbo_len header. is_none (ip.ipv6_stated_len jumbo_len (be_number header 4 2) (slice_index header 6)) in
    record {
      refused = six_refused changed is_too
          ∙ ap (λ n. error n (ip.jumbo_refusal changed)) same.len_is ∙ ap (error (length packet)) jumbogram.refused
          ∙ sym (six_refused packet is);
      lacks = ap is_none (six_if (version changed) _ _ is_too)
          ∙ ap (λ jumbo_len. stated jumbo_len (ip.ipv6_header changed)) jumbogram.stated ∙ ap (stated (ip.jumbo_len packet)) header
          ∙ sym (ap is_none (six_if (version packet) _ _ is));
      first = six_if (version changed) _ _ is_too
          ∙ ap (λ jumbo_len. ip.ipv6_headers (is_some jumbo_len) (ip.ipv6_header changed)) jumbogram.stated
          ∙ ap (ip.ipv6_headers (ip.is_jumbogram packet)) header ∙ sym (six_if (version packet) _ _ is);
      counts = six_if (version changed) _ _ is_too
          ∙ ap (λ jumbo_len. 40 + unwrap_or jumbo_len (be_number (ip.ipv6_header changed) 4 2)) jumbogram.stated
          ∙ ap (λ header. 40 + unwrap_or (ip.jumbo_len packet) (be_number header 4 2)) header
          ∙ sym (six_if (version packet) _ _ is);
    }

-- ---- the packet

-- an accepted packet is an IPv4 packet or an IPv6 packet
versions : (is_empty is_four is_six : Bool) (v : ℕ) (four six : Option IpError) → (v == 4) ≡ is_four → (v == 6) ≡ is_six
    → (if is_empty then Some (HeaderCutOff 1 0) else if is_four then four else if is_six then six else Some (Version v)) ≡ None
    → ((v ≡ 4) × (four ≡ None)) ⊎ (v ≡ 6)
versions true is_four is_six v four six tested tested_too none = absurd (cc none)
versions false true is_six v four six tested tested_too none = inl (grind (arith, nat_tests), none)
versions false false true v four six tested tested_too none = inr (grind (arith, nat_tests))
versions false false false v four six tested tested_too none = absurd (cc none)

four_long : (packet : List ℕ) → ip.ipv4_refusal packet ≡ None → 20 ≤ ipv4_header_len packet
four_long packet none =
    let header = none_first (ip.ipv4_header_refusal packet) _ none in
    let after = none_first (refused_if (nat_lt (length packet) 20) (HeaderCutOff 20 (length packet))) _ header.0 in
    let words = none_first (refused_if (nat_lt (ipv4_header_len packet) 20) (HeaderLength (ipv4_header_len packet))) _ after.1 in
    ltb-false (ipv4_header_len packet) 20 (none_if _ (HeaderLength (ipv4_header_len packet)) words.0)

-- the refusal of a packet, given what it depends on
refused_by : Option IpError → Bool → Headers → ℕ → ℕ → Result Headers IpError → Option IpError
refused_by header lacks first len counts read = first_of (
    first_of (header ∷ (if lacks then ip.missing_len_refusal first else None) ∷ [])
    ∷ refused_if (nat_lt len counts) (PacketCutOff counts len)
    ∷ error_of read
    ∷ [])

-- the changed packet is accepted, and is read like the packet
pub record IsReadAlike (packet changed : List ℕ) (headers : Headers) : Type 0 where
  pub accepted : refusal changed ≡ None
  pub read : headers_of false changed ≡ Ok headers
  pub counts : counted_len false changed ≡ counted_len false packet

by_parts : (packet changed : List ℕ) (headers : Headers) → refusal packet ≡ None → headers_of false packet ≡ Ok headers
    → headers.len ≤ length (counted false packet) → HasFront headers.len packet changed → IsAlike packet changed
    → IsReadAlike packet changed headers
unfolding refused_by
by_parts packet changed headers accepted read within same alike =
    let n : ℕ = counted_len false packet in
    let first : Headers = first_headers packet in
    let long : headers.len ≤ n = omega (arith, within, length-take n packet) in
    let len : length (take n changed) ≡ length (take n packet) =
    length-take n changed ∙ ap (min n) same.len_is ∙ sym (length-take n packet) in
    let front : HasFront headers.len (take n packet) (take n changed) = record {
      len_is = len;
      front = take-take headers.len n changed long ∙ same.front ∙ sym (take-take headers.len n packet long);
    } in
    let again : headers_of false changed ≡ Ok headers =
    ap (λ n. headers_to_transport (suc (length (take n changed))) (first_headers changed) (take n changed)) alike.counts
    ∙ ap (λ len. headers_to_transport (suc len) (first_headers changed) (take n changed)) len
    ∙ ap (λ first. headers_to_transport (suc (length (take n packet))) first (take n changed)) alike.first
    ∙ chain_kept (suc (length (take n packet))) first headers (take n packet) (take n changed) front read in
    record {
      accepted = ap (λ header. refused_by header (ip.lacks_len changed) (first_headers changed) (length changed) (counted_len false changed)
          (headers_of false changed)) alike.refused
          ∙ ap (λ lacks. refused_by (header_refusal packet) lacks (first_headers changed) (length changed) (counted_len false changed)
          (headers_of false changed)) alike.lacks
          ∙ ap (λ first. refused_by (header_refusal packet) (ip.lacks_len packet) first (length changed) (counted_len false changed)
          (headers_of false changed)) alike.first
          ∙ ap (λ len. refused_by (header_refusal packet) (ip.lacks_len packet) first len (counted_len false changed)
          (headers_of false changed)) same.len_is
          ∙ ap (λ counts. refused_by (header_refusal packet) (ip.lacks_len packet) first (length packet) counts (headers_of false changed))
          alike.counts
          ∙ ap (refused_by (header_refusal packet) (ip.lacks_len packet) first (length packet) n) (again ∙ sym read)
          ∙ accepted;
      read = again;
      counts = alike.counts;
    }

and_right : (a b : Bool) → (a && b) ≡ true → b ≡ true
and_right true b is = is
and_right false b is = absurd (cc is)

-- hop-by-hop options are an extension header
zero_extended : (number : ℕ) → (number == 0) ≡ true → is_extension number ≡ true
zero_extended number is = rw is refl

options_within : (packet : List ℕ) (headers : Headers) → version packet ≡ 6 → headers_of false packet ≡ Ok headers
    → ip.has_len_in_options packet ≡ true → 40 + extension_len hop_by_hop_options (drop 40 packet) ≤ headers.len
options_within packet headers is read has =
    let n : ℕ = counted_len false packet in
    let six : Headers = ip.ipv6_headers (ip.is_jumbogram packet) (ip.ipv6_header packet) in
    let first : first_headers packet ≡ six = six_if (version packet) _ _ is in
    let next : (ip.next_header packet == 0) ≡ true = and_right (ip.payload_len packet == 0) (ip.next_header packet == 0) has in
    let number : ip.next_header packet ≡ 0 = grind (arith, nat_tests, next) in
    let read_six : headers_to_transport (suc (length (take n packet))) six (take n packet) ≡ Ok headers =
    ap (λ first. headers_to_transport (suc (length (take n packet))) first (take n packet)) (sym first) ∙ read in
    let front = first_within (length (take n packet)) six headers (take n packet) (zero_extended (ip.next_header packet) next) read_six in
    let there = is_there six (drop 40 (take n packet)) front.none in
    let more : 40 + 1 < n = omega (arith, there.shortest, length-drop 40 (take n packet), length-take n packet) in
    let byte : slice_index (drop 40 (take n packet)) 1 ≡ slice_index (drop 40 packet) 1 =
    get_or-drop 40 (take n packet) 1 0 ∙ get_or-take n packet (40 + 1) 0 more ∙ sym (get_or-drop 40 packet 1 0) in
    let len : extension_len hop_by_hop_options (drop 40 packet) ≡ extension_len (ip.next_header packet) (drop 40 (take n packet)) =
    ap (λ byte. (byte + 1) * 8) (sym byte) ∙ ap (λ number. extension_len number (drop 40 (take n packet))) (sym number) in
    omega (arith, len, front.end)

-- a packet with the length and the headers of an accepted packet is read like that packet
pub read_alike : (packet changed : List ℕ) (headers : Headers) → refusal packet ≡ None → headers_of false packet ≡ Ok headers
    → headers.len ≤ length (counted false packet) → HasFront headers.len packet changed → IsReadAlike packet changed headers
read_alike packet changed headers accepted read within same =
    let strict = none_first (ip.strict_header_refusal packet) _ accepted in
    let header = none_first (header_refusal packet) _ strict.0 in
    let first : (first_headers packet).len ≤ headers.len =
    longer (suc (length (counted false packet))) (first_headers packet) headers (counted false packet) read in
    by_version (versions (length packet == 0) (version packet == 4) (version packet == 6) (version packet) (ip.ipv4_refusal packet)
    (ip.ipv6_refusal packet)
    refl refl header.0)
    first
  where
    by_version : ((version packet ≡ 4) × (ip.ipv4_refusal packet ≡ None)) ⊎ (version packet ≡ 6) → (first_headers packet).len ≤ headers.len
        → IsReadAlike packet changed headers
    by_version (inl four) first =
        let five = four_long packet four.1 in
        let len : (first_headers packet).len ≡ ipv4_header_len packet = ap (λ (h : Headers). h.len) (four_if (version packet) _ _ four.0) in
        let long : ipv4_header_len packet ≤ headers.len = omega (arith, len, first) in
        by_parts packet changed headers accepted read within same
        (four_alike headers.len packet changed four.0 (omega (arith, five, long)) long same)
    by_version (inr six) first =
        let len : (first_headers packet).len ≡ 40 = ap (λ (h : Headers). h.len) (six_if (version packet) _ _ six) in
        by_parts packet changed headers accepted read within same
        (six_alike headers.len packet changed six (omega (arith, len, first)) same
        (λ has. same_range headers.len 40 (extension_len hop_by_hop_options (drop 40 packet)) packet changed
        (options_within packet headers six read has) same))
