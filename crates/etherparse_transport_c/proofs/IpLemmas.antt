-- Laws of the place of the payload in an IP packet.
use Rattle.std.proofs.Common.{◌≡◌, ℕ, ◌+◌, ◌-◌, ◌≤◌, ◌==◌, Bool, true, false, ◌&&◌, nat_le, if◌then◌else◌, List, length, take, drop, length-take, Option, Some, None, Result, Ok, Err, refl, sym, ap, ◌∙◌, arith}
use Rattle.std.specs.Prelude.{slice_range}
use Rattle.std.proofs.lemmas.List.{drop-take, take_min}
use Rattle.std.proofs.lemmas.Bool.Decides.{nat_tests}
use Rattle.ip_part.specs.FixedHeaders.{Fixed, fixed_by_value, fixed_ipv4, fixed_ipv6}
use Rattle.ip_part.specs.Ip.{Carries, counted, counted_len, headers_of}
use Rattle.ip_part.specs.Headers.{Headers}
use Rattle.ip_part.specs.declared.ip_error.IpError.{IpError}
use Rattle.ip_part.specs.declared.transport.TransportInIp.{TransportInIp}
use Rattle.net_base.specs.IpHeaders.{version}
use Rattle.etherparse_transport_c.specs.Ip.{HasPayload, found, transport_in}
use Rattle.etherparse_transport_c.specs.declared.ip.EtherparseIpTransport.{EtherparseIpTransport}

-- the counted bytes are the front of the packet
whole_front : (missing : Bool) (packet : List ℕ) → take (length (counted missing packet)) packet ≡ counted missing packet
whole_front missing packet =
    ap (λ len. take len packet) (length-take (counted_len missing packet) packet) ∙ take_min (counted_len missing packet) packet

counted_within : (missing : Bool) (packet : List ℕ) → length (counted missing packet) ≤ length packet
counted_within missing packet = omega (arith, length-take (counted_len missing packet) packet)

-- a slice that ends with the counted bytes consists of the counted bytes after its start
after_front : (missing : Bool) (packet : List ℕ) (from len : ℕ) → from + len ≡ length (counted missing packet)
    → slice_range packet from (from + len) ≡ drop from (counted missing packet)
after_front missing packet from len ends =
    let left : from + len - from ≡ len = omega arith in
    ap (λ n. take n (drop from packet)) left
    ∙ sym (drop-take from len packet)
    ∙ ap (λ n. drop from (take n packet)) ends
    ∙ ap (drop from) (whole_front missing packet)

-- if there is a fixed header, and the packet is too short for the one version, it is long enough for the other
fixed_of : (four short six long : Bool) (a b fixed : Fixed)
    → (if four && short then Some a else if six && long then Some b else None) ≡ Some fixed → short ≡ false → long ≡ true
fixed_of true true six long a b fixed is short = absurd (cc short)
fixed_of true false true true a b fixed is short = refl
fixed_of true false true false a b fixed is short = absurd (cc is)
fixed_of true false false long a b fixed is short = absurd (cc is)
fixed_of false short true true a b fixed is other = refl
fixed_of false short true false a b fixed is other = absurd (cc is)
fixed_of false short false long a b fixed is other = absurd (cc is)

-- a packet that is read has at least the bytes of an IPv4 header
pub is_long : (packet : List ℕ) (carried : TransportInIp) → Carries packet carried → 20 ≤ length packet
is_long packet carried carries =
    let long : nat_le 20 (length packet) ≡ false → nat_le 40 (length packet) ≡ true =
    fixed_of (version packet == 4) (nat_le 20 (length packet)) (version packet == 6) (nat_le 40 (length packet))
    (fixed_ipv4 packet) (fixed_ipv6 packet) (fixed_by_value carried.fixed_header) carries.fixed_header in
    grind (arith, nat_tests, long)

-- the headers in a result, or other headers if it is an error
value_of : Headers → Result Headers IpError → Headers
value_of other (Ok headers) = headers
value_of other (Err error) = other

-- the payload of a transport that a packet carries is the bytes after the IP headers of the packet
same_payload : (packet : List ℕ) (headers : Headers) (carried : TransportInIp) → headers_of carried.is_length_missing packet ≡ Ok headers
    → Carries packet carried → drop headers.len (counted carried.is_length_missing packet) ≡ carried.payload.now
unfolding value_of
same_payload packet headers carried read carries =
    ap (λ result. drop (value_of headers result).len (counted carried.is_length_missing packet)) (sym read ∙ carries.read)
    ∙ sym carries.payload

payload_in : (missing : Bool) (packet : List ℕ) (headers : Headers) → headers_of missing packet ≡ Ok headers
    → headers.len ≤ length (counted missing packet) → HasPayload missing packet (transport_in missing packet headers)
payload_in missing packet headers read within =
    let ends : headers.len + (length (counted missing packet) - headers.len) ≡ length (counted missing packet) = omega (arith, within) in
    record {
      ends = ends;
      within = omega (arith, ends, counted_within missing packet);
      payload = λ carried carries same.
          after_front missing packet headers.len (length (counted missing packet) - headers.len) ends
          ∙ ap (λ missing. drop headers.len (counted missing packet)) (sym same)
          ∙ same_payload packet headers carried (ap (λ missing. headers_of missing packet) same ∙ read) carries;
    }

-- if a packet contains a transport, it contains the payload of the transport
pub has_payload : (packet : List ℕ) (carried : TransportInIp) (before : EtherparseIpTransport) → Carries packet carried
    → HasPayload carried.is_length_missing packet
    (found carried.is_length_missing packet (headers_of carried.is_length_missing packet) before)
has_payload packet carried before carries =
    rw carries.read (payload_in carried.is_length_missing packet carries.headers carries.read carries.within)
