-- Laws of the transport that was found.
use Rattle.std.proofs.Common.{◌≡◌, ℕ, ◌+◌, ◌==◌, suc, Bool, true, false, not, ◌&&◌, ◌||◌, if◌then◌else◌, List, ◌++◌, length, slice_index, take, drop, Option, None, unwrap_or, Result, Ok, Err, refl, sym, ◌∙◌, ap, arith}
use Rattle.std.proofs.lemmas.List.{take_all}
use Rattle.std.proofs.Math.Bool.{or-false}
use Rattle.ip_part.specs.ExtensionHeaders.{bytes_of, is_extension}
use Rattle.ip_part.specs.Ip.{Carries, IsOverIpv4, IsOverIpv6, after_ipv4_header, has_authentication, counted, counted_len, first_headers, headers_of, headers_to_transport, ipv4_header, ipv4_headers, ipv6_header, ipv6_headers, is_extended, is_jumbogram, jumbo_len, len_in_options, next_header, payload_len, total_len}
use Rattle.net_base.specs.IpHeaders.{ipv4_fragment_offset, ipv4_header_len, ipv4_is_fragment, version}
use Rattle.ip_part.proofs.HeadersLemmas.{ended}
use Rattle.ip_part.proofs.OptionsLemmas.{are_ipv4_options}
use Rattle.ip_part.proofs.ReadingLemmas.{after_ipv4, and_parts, found_from, no_change, no_fragment_over_ipv4, none_later_over_ipv4, number_is}
use Rattle.ip_part.specs.Options.{ipv4_option, options_of}
use Rattle.ip_part.specs.Headers.{Headers}
use Rattle.ip_part.specs.declared.ip_error.IpError.{IpError}
use Rattle.ip_part.specs.declared.transport.TransportInIp.{TransportInIp}

-- reading the first headers in the counted bytes is reading the packet
pub read_of_packet : (missing : Bool) (packet bytes : List ℕ) (first : Headers) (result : Result Headers IpError)
    → first ≡ first_headers packet
    → bytes ≡ counted missing packet → result ≡ headers_to_transport (suc (length bytes)) first bytes → headers_of missing packet ≡ result
read_of_packet missing packet bytes first result is same read =
    ap (λ bytes. headers_to_transport (suc (length bytes)) (first_headers packet) bytes) (sym same)
    ∙ ap (λ first. headers_to_transport (suc (length bytes)) first bytes) (sym is)
    ∙ sym read

-- the value of a result, or another value if the result is an error
value_of : Headers → Result Headers IpError → Headers
value_of other (Ok headers) = headers
value_of other (Err error) = other

-- without an extension header, the first headers are the last
first_is_last : (packet : List ℕ) (transport : TransportInIp) (carries : Carries packet transport)
    → is_extended (first_headers packet) ≡ false → carries.headers ≡ first_headers packet
unfolding value_of
first_is_last packet transport carries last =
    ap (value_of (first_headers packet)) (sym carries.read
    ∙ ended (length (counted transport.is_length_missing packet)) (first_headers packet) (counted transport.is_length_missing packet) last)

-- the counted bytes: `len` bytes, or all bytes if the length is missing
counted_by : (missing : Bool) (packet : List ℕ) (len : ℕ)
    → take (if missing then length packet else len) packet ≡ (if missing then packet else take len packet)
counted_by true packet len = take_all (length packet) packet (omega arith)
counted_by false packet len = refl

-- the IPv4 header and the authentication header after it determine the transport
pub over_ipv4 : (packet : List ℕ) (transport : TransportInIp) → version packet ≡ 4 → Carries packet transport → IsOverIpv4 packet transport
over_ipv4 packet transport is carries =
    let missing : Bool = transport.is_length_missing in
    let header : List ℕ = ipv4_header packet in
    let four : Headers = ipv4_headers (ipv4_header_len packet) header in
    let other : Headers = ipv6_headers (is_jumbogram packet) (ipv6_header packet) in
    let first : first_headers packet ≡ four = ap (λ v. if v == 4 then four else other) is in
    let bytes : List ℕ = counted missing packet in
    let len : counted_len missing packet ≡ (if missing then length packet else total_len packet) =
    ap (λ v. if missing then length packet else if v == 4 then total_len packet else 40 + unwrap_or (jumbo_len packet) (payload_len packet))
    is in
    let after : drop (ipv4_header_len packet) bytes ≡ after_ipv4_header missing packet =
    ap (λ len. drop (ipv4_header_len packet) (take len packet)) len
    ∙ ap (drop (ipv4_header_len packet)) (counted_by missing packet (total_len packet)) in
    let found = found_from (suc (length bytes)) four carries.headers bytes carries.ended
    (ap (λ first. headers_to_transport (suc (length bytes)) first bytes) (sym first) ∙ carries.read) in
    let both = after_ipv4 (has_authentication header) (slice_index header 9) found.extensions carries.headers.protocol.0
    (after_ipv4_header missing packet) transport.payload.now
    (λ may. number_is (slice_index header 9) (and_parts (slice_index header 9 == 51) (ipv4_fragment_offset header == 0) may).0)
    found.chain (sym after ∙ found.whole ∙ ap (λ payload. bytes_of found.extensions ++ payload) (sym carries.payload)) in
    record {
      options = options_of ipv4_option (drop 20 header);
      are_options = are_ipv4_options (drop 20 header);
      addresses = carries.addresses ∙ found.addresses ∙ no_change found.extensions _ _;
      protocol = ap (λ number. number.0) carries.protocol ∙ both.0;
      is_fragment = carries.is_fragment ∙ found.is_fragment
          ∙ ap (λ b. ipv4_is_fragment header || b)
          (no_fragment_over_ipv4 (has_authentication header) (slice_index header 9) found.extensions carries.headers.protocol.0
          (λ may. number_is (slice_index header 9) (and_parts (slice_index header 9 == 51) (ipv4_fragment_offset header == 0) may).0)
          found.chain)
          ∙ or-false (ipv4_is_fragment header);
      is_later_fragment = carries.is_later_fragment ∙ found.is_later_fragment
          ∙ ap (λ b. not (ipv4_fragment_offset header == 0) || b)
          (none_later_over_ipv4 (has_authentication header) (slice_index header 9) found.extensions carries.headers.protocol.0
          (λ may. number_is (slice_index header 9) (and_parts (slice_index header 9 == 51) (ipv4_fragment_offset header == 0) may).0)
          found.chain)
          ∙ or-false (not (ipv4_fragment_offset header == 0));
      payload = both.1;
      header_len = carries.header_len ∙ ap (λ headers. headers.len) first;
    }

-- a packet without an extension header has no jumbo payload length
no_jumbo : (is_zero is_first others : Bool) (jumbo : Option ℕ) (payload : ℕ) → (is_first || others) ≡ false
    → unwrap_or (if is_zero && is_first then jumbo else None) payload ≡ payload
no_jumbo is_zero true others jumbo payload last = absurd (cc last)
no_jumbo true false others jumbo payload last = refl
no_jumbo false false others jumbo payload last = refl

-- the IPv6 header of a packet without an extension header also determines the transport
pub over_ipv6 : (packet : List ℕ) (transport : TransportInIp) → version packet ≡ 6 → is_extended (first_headers packet) ≡ false
    → Carries packet transport → IsOverIpv6 packet transport
over_ipv6 packet transport is last carries =
    let missing : Bool = transport.is_length_missing in
    let other : Headers = ipv4_headers (ipv4_header_len packet) (ipv4_header packet) in
    let header : Headers = ipv6_headers (is_jumbogram packet) (ipv6_header packet) in
    let first : first_headers packet ≡ header = ap (λ v. if v == 4 then other else header) is in
    let same : carries.headers ≡ header = first_is_last packet transport carries last ∙ first in
    let none : is_extension (next_header packet) ≡ false = sym (ap is_extended first) ∙ last in
    let counts : ℕ = 40 + unwrap_or (jumbo_len packet) (payload_len packet) in
    let len : counted_len missing packet ≡ (if missing then length packet else 40 + payload_len packet) =
    ap (λ v. if missing then length packet else if v == 4 then total_len packet else counts) is
    ∙ ap (λ len. if missing then length packet else 40 + len)
    (no_jumbo (payload_len packet == 0) (next_header packet == 0) _ (len_in_options (drop 40 packet)) (payload_len packet) none) in
    record {
      addresses = carries.addresses ∙ ap (λ headers. headers.addresses) same;
      protocol = ap (λ number. number.0) (carries.protocol ∙ ap (λ headers. headers.protocol) same);
      is_fragment = carries.is_fragment ∙ ap (λ headers. headers.is_fragment) same;
      is_later_fragment = carries.is_later_fragment ∙ ap (λ headers. headers.is_later_fragment) same;
      payload = carries.payload ∙ ap (λ headers. drop headers.len (counted missing packet)) same ∙ ap (λ len. drop 40 (take len packet)) len
          ∙ ap (drop 40) (counted_by missing packet (40 + payload_len packet));
      header_len = carries.header_len ∙ ap (λ headers. headers.len) first;
    }
