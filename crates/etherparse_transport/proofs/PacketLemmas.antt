-- Laws of built packets: the end of the IP header, the message that follows it, and the checksum of the header, which is right.
use Rattle.std.proofs.Common.{◌≡◌, ℕ, ◌+◌, ◌*◌, ◌/◌, ◌<◌, ◌≤◌, ◌==◌, ◌&&◌, ◌||◌, Bool, true, false, not, if◌then◌else◌, List, [], ◌∷◌, ◌++◌, length, take, drop, slice_range, length-append, Some, None, Ok, unwrap_or, refl, sym, ap, ◌∙◌, arith}
use Rattle.std.specs.Prelude.{is_none}
use Rattle.std.proofs.Math.Seq.{drop-append_seam, take-append_seam}
use Rattle.std.proofs.lemmas.Bool.Decides.{nat_tests}
use Rattle.std.proofs.lemmas.List.{append_assoc, drop_all, take_all}
use Rattle.ip_part.specs.Ip.{Carries, IsOverIpv4, IsOverIpv6, counted, counted_len, error_of, first_headers, has_len_in_options, header_refusal, headers_of, ipv4_refusal, ipv4_stated_len, ipv6_refusal, ipv6_stated_len, is_cut_off, is_extended, jumbo_len, jumbo_refusal, lacks_len, len_in_options, len_in_options_refusal, missing_len_refusal, next_header, payload_len, strict_header_refusal, total_len, ipv4_headers, ipv6_headers, is_jumbogram, after_ipv4_header, has_authentication}
use Rattle.ip_part.specs.Ip as ip
use Rattle.ip_part.specs.ExtensionHeaders.{extension_len, hop_by_hop_options, is_extension, next_number}
use Rattle.ip_part.specs.Headers.{Headers}
use Rattle.ip_part.specs.Options.{AreOptions, ipv4_destination_by, ipv4_option, options_of}
use Rattle.ip_part.specs.Addresses.{Addresses, by_value}
use Rattle.ip_part.specs.Addresses as addresses
use Rattle.ip_part.specs.declared.ip_error.IpError.{IpError}
use Rattle.ip_part.specs.declared.ip_error.IpError.TheVariants.{PacketCutOff}
use Rattle.ip_part.specs.declared.transport.TransportInIp.{TransportInIp}
use Rattle.ip_part.proofs.HeadersLemmas.{ended}
use Rattle.ip_part.proofs.OptionsLemmas.{are_ipv4_options}
use Rattle.ip_part.proofs.TransportLemmas.{over_ipv4, over_ipv6}
use Rattle.net_base.specs.Bytes.{flag}
use Rattle.net_base.specs.IpHeaders.{ipv4_fragment_offset, ipv4_header_len, ipv4_is_fragment, version}
use Rattle.net_base.specs.Refusals.{first_of, refused_if}
use Rattle.word_sum.specs.Checksum.{Verifies, checksum_of, folded, total}
use Rattle.word_sum.proofs.ChecksumLemmas.{checksum_verifies}
use Rattle.etherparse_transport.specs.Packets.{ipv4_fields, ipv4_header}

-- ---- lists

-- two addresses at the front of some bytes
take_two : (n : ℕ) (source destination after : List ℕ) → length source ≡ n → length destination ≡ n
    → take (n + n) ((source ++ destination) ++ after) ≡ source ++ destination
take_two n source destination after len len_too =
    let both : n + n ≡ length (source ++ destination) = omega (arith, len, len_too, length-append source destination) in
    ap (λ k. take k ((source ++ destination) ++ after)) both ∙ take-append_seam (source ++ destination) after

take_source : (n : ℕ) (source destination : List ℕ) → length source ≡ n → take n (source ++ destination) ≡ source
take_source n source destination len = ap (λ k. take k (source ++ destination)) (sym len) ∙ take-append_seam source destination

take_destination : (n : ℕ) (source destination : List ℕ) → length source ≡ n → length destination ≡ n
    → take n (drop n (source ++ destination)) ≡ destination
take_destination n source destination len len_too =
    ap (λ k. take n (drop k (source ++ destination))) (sym len) ∙ ap (take n) (drop-append_seam source destination)
    ∙ take_all n destination (omega (arith, len_too))

-- no bytes come after two addresses
drop_two : (n : ℕ) (source destination : List ℕ) → length source ≡ n → length destination ≡ n → drop (n + n) (source ++ destination) ≡ []
drop_two n source destination len len_too =
    drop_all (n + n) (source ++ destination) (omega (arith, len, len_too, length-append source destination))

-- the bytes between the header and the padding
pub message_between : (k n : ℕ) (header message padding : List ℕ) → length header ≡ k → n ≡ k + length message
    → drop k (take n (header ++ (message ++ padding))) ≡ message
message_between k n header message padding len whole =
    let both : n ≡ length (header ++ message) = omega (arith, len, whole, length-append header message) in
    ap (λ bytes. drop k (take n bytes)) (sym (append_assoc header message padding))
    ∙ ap (λ n. drop k (take n ((header ++ message) ++ padding))) both
    ∙ ap (drop k) (take-append_seam (header ++ message) padding)
    ∙ ap (λ k. drop k (header ++ message)) (sym len)
    ∙ drop-append_seam header message

-- ---- an accepted packet

-- an accepted header that states a length is accepted by the strict rules too
strictly_accepted : (packet : List ℕ) → header_refusal packet ≡ None → lacks_len packet ≡ false → strict_header_refusal packet ≡ None
strictly_accepted packet accepted states =
    ap (λ refusal. first_of (refusal ∷ (if lacks_len packet then missing_len_refusal (first_headers packet) else None) ∷ [])) accepted
    ∙ ap (λ lacks. first_of (None ∷ (if lacks then missing_len_refusal (first_headers packet) else None) ∷ [])) states

-- an accepted header that states a length makes an accepted packet if the packet is whole, and no extension header comes next
accepted_packet : (packet : List ℕ) → header_refusal packet ≡ None → lacks_len packet ≡ false → counted_len false packet ≤ length packet
    → is_extended (first_headers packet) ≡ false → ip.refusal packet ≡ None
accepted_packet packet accepted states there last =
    let error : IpError = PacketCutOff (counted_len false packet) (length packet) in
    let cut : is_cut_off false packet ≡ false = grind (arith, nat_tests) in
    ap (λ refusal. first_of (refusal ∷ refused_if (is_cut_off false packet) error ∷ error_of (headers_of false packet) ∷ []))
    (strictly_accepted packet accepted states)
    ∙ ap (λ cut. first_of (None ∷ refused_if cut error ∷ error_of (headers_of false packet) ∷ [])) cut
    ∙ ap (λ read. first_of (None ∷ refused_if false error ∷ error_of read ∷ []))
    (ended (length (counted false packet)) (first_headers packet) (counted false packet) last)

-- the length is not missing if the header states it
not_missing : (missing lacks : Bool) → (missing ≡ true → lacks ≡ true) → lacks ≡ false → missing ≡ false
not_missing false lacks shows states = refl
not_missing true lacks shows states = absurd (cc (shows refl, states))

has_length : (packet : List ℕ) (found : TransportInIp) → lacks_len packet ≡ false → Carries packet found → found.is_length_missing ≡ false
has_length packet found states carries = not_missing found.is_length_missing (lacks_len packet) carries.is_length_missing states

not_cut_off : (packet : List ℕ) (found : TransportInIp) → lacks_len packet ≡ false → counted_len false packet ≤ length packet
    → Carries packet found
    → found.is_cut_off ≡ false
not_cut_off packet found states there carries =
    let cut : is_cut_off false packet ≡ false = grind (arith, nat_tests) in
    carries.is_cut_off ∙ ap (λ missing. is_cut_off missing packet) (has_length packet found states carries) ∙ cut

-- ---- IPv4

-- the first eight bytes of a header of five words, after the first byte
pub record Start : Type 0 where
  pub type_of_service : ℕ
  pub len_high : ℕ
  pub len_low : ℕ
  pub id_high : ℕ
  pub id_low : ℕ
  pub offset_high : ℕ
  pub offset_low : ℕ

abbrev pub start_bytes : Start → List ℕ
start_bytes start =
    0x45 ∷ start.type_of_service ∷ start.len_high ∷ start.len_low ∷ start.id_high ∷ start.id_low ∷ start.offset_high ∷ start.offset_low ∷ []

-- a header of 20 bytes in front of other bytes: its start, and the high and the low byte of its checksum
abbrev pub front_ipv4 : Start → ℕ → ℕ → ℕ → ℕ → List ℕ → List ℕ
front_ipv4 start time_to_live protocol checksum_high checksum_low after =
    start_bytes start ++ (time_to_live ∷ protocol ∷ checksum_high ∷ checksum_low ∷ after)

-- an IPv4 header of five words is accepted
ipv4_accepted : (packet : List ℕ) → version packet ≡ 4 → ipv4_header_len packet ≡ 20 → 20 ≤ length packet → 20 ≤ total_len packet
    → header_refusal packet ≡ None
ipv4_accepted packet is five there long =
    let accepted : ipv4_refusal packet ≡ None = grind (arith, nat_tests) in
    grind (arith, nat_tests)

-- an IPv4 header of five words states a length
ipv4_states : (packet : List ℕ) → version packet ≡ 4 → 20 ≤ total_len packet → lacks_len packet ≡ false
ipv4_states packet is long =
    let stated : (total_len packet == 0) ≡ false = grind (arith, nat_tests) in
    ap (λ v. is_none (if v == 4 then ipv4_stated_len packet
    else ipv6_stated_len (jumbo_len packet) (payload_len packet) (next_header packet))) is
    ∙ ap (λ zero. is_none (if zero then None else Some (total_len packet))) stated

pub no_options : (bytes : List ℕ) (options : List (List ℕ)) → bytes ≡ [] → AreOptions ipv4_option bytes options → options ≡ []
no_options bytes [] none are = refl
no_options bytes (option ∷ options) none are = let clash : None ≡ Some option = sym (ap ipv4_option none) ∙ are.2 in absurd (grind arith)

-- the contents of an accepted packet: one whole message of this protocol between these addresses
pub record HasMessage (packet : List ℕ) (between : Addresses) (number : ℕ) (bytes : List ℕ) : Type 0 where
  pub accepted : ip.refusal packet ≡ None
  pub addresses : (found : TransportInIp) → Carries packet found → by_value found.addresses ≡ between
  pub protocol : (found : TransportInIp) → Carries packet found → found.protocol.0 ≡ number
  pub message : (found : TransportInIp) → Carries packet found → found.payload.now ≡ bytes
  pub is_fragment : (found : TransportInIp) → Carries packet found → found.is_fragment ≡ false
  pub is_later_fragment : (found : TransportInIp) → Carries packet found → found.is_later_fragment ≡ false
  pub is_cut_off : (found : TransportInIp) → Carries packet found → found.is_cut_off ≡ false
  pub is_length_missing : (found : TransportInIp) → Carries packet found → found.is_length_missing ≡ false
  pub headers : Headers
  pub read : headers_of false packet ≡ Ok headers
  pub between_is : headers.addresses ≡ between
  pub number_is : headers.protocol.0 ≡ number
  pub whole : headers.is_fragment ≡ false
  pub bytes_are : drop headers.len (counted false packet) ≡ bytes

pub front_of_ipv4 : (start : Start) (time_to_live protocol checksum_high checksum_low : ℕ) (source destination after : List ℕ)
    → length source ≡ 4 → length destination ≡ 4
    → ip.ipv4_header (front_ipv4 start time_to_live protocol checksum_high checksum_low ((source ++ destination) ++ after))
    ≡ front_ipv4 start time_to_live protocol checksum_high checksum_low (source ++ destination)
front_of_ipv4 start time_to_live protocol checksum_high checksum_low source destination after len len_too =
    ap (front_ipv4 start time_to_live protocol checksum_high checksum_low) (take_two 4 source destination after len len_too)

pub over_ipv4_addresses : (header source destination : List ℕ) (options : List (List ℕ)) (found : Addresses)
    → slice_range header 12 16 ≡ source → slice_range header 16 20 ≡ destination → options ≡ []
    → found ≡ addresses.Ipv4 (slice_range header 12 16) (ipv4_destination_by (slice_range header 16 20) options)
    → found ≡ addresses.Ipv4 source destination
over_ipv4_addresses header source destination options found is_source is_destination none is =
    is
    ∙ ap (λ options. addresses.Ipv4 (slice_range header 12 16) (ipv4_destination_by (slice_range header 16 20) options)) none
    ∙ ap (λ source. addresses.Ipv4 source (slice_range header 16 20)) is_source
    ∙ ap (addresses.Ipv4 source) is_destination

-- a packet that is not a fragment has no fragment offset
no_offset : (more first : Bool) → more || not first ≡ false → not first ≡ false
no_offset false first whole = whole
no_offset true first whole = absurd (grind arith)

pub message_over_ipv4 : (start : Start) (time_to_live protocol checksum_high checksum_low : ℕ) (source destination message padding : List ℕ)
    → length source ≡ 4 → length destination ≡ 4 → start.len_high * 256 + start.len_low ≡ 20 + length message
    → ipv4_is_fragment (start_bytes start) ≡ false → (protocol == 51) ≡ false
    → HasMessage
    (front_ipv4 start time_to_live protocol checksum_high checksum_low ((source ++ destination) ++ (message ++ padding)))
    (addresses.Ipv4 source destination) protocol message
message_over_ipv4 start time_to_live protocol checksum_high checksum_low source destination message padding len len_too counted part other =
    let front : List ℕ → List ℕ = front_ipv4 start time_to_live protocol checksum_high checksum_low in
    let packet : List ℕ = front ((source ++ destination) ++ (message ++ padding)) in
    let header : List ℕ = front (source ++ destination) in
    let header_is : ip.ipv4_header packet ≡ header =
    front_of_ipv4 start time_to_live protocol checksum_high checksum_low source destination (message ++ padding) len len_too in
    let addresses_len : length (source ++ destination) ≡ 8 = omega (arith, len, len_too, length-append source destination) in
    let after_len : length ((source ++ destination) ++ (message ++ padding)) ≡ 8 + (length message + length padding) =
    omega (arith, addresses_len, length-append (source ++ destination) (message ++ padding), length-append message padding) in
    let counts : total_len packet ≡ 20 + length message = omega (arith, counted) in
    let counts_too : counted_len false packet ≡ 20 + length message = counts in
    let there : counted_len false packet ≤ length packet = omega (arith, counts_too, after_len) in
    let states : lacks_len packet ≡ false = ipv4_states packet refl (omega (arith, counts)) in
    let says : (found : TransportInIp) → Carries packet found → IsOverIpv4 packet found =
    λ found carries. over_ipv4 packet found refl carries in
    let offset : ℕ = ipv4_fragment_offset (start_bytes start) in
    let last : is_extended (first_headers packet) ≡ false = ap (λ b. (b && (offset == 0)) && is_extension protocol) other in
    let none : has_authentication (ip.ipv4_header packet) ≡ false = ap (λ b. b && (offset == 0)) other in
    let nothing : drop 20 (ip.ipv4_header packet) ≡ [] = ap (drop 20) header_is ∙ drop_two 4 source destination len len_too in
    let is_source : slice_range (ip.ipv4_header packet) 12 16 ≡ source =
    ap (λ bytes. slice_range bytes 12 16) header_is ∙ take_source 4 source destination len in
    let is_destination : slice_range (ip.ipv4_header packet) 16 20 ≡ destination =
    ap (λ bytes. slice_range bytes 16 20) header_is ∙ take_destination 4 source destination len len_too in
    let bytes_are : drop 20 (ip.counted false packet) ≡ message =
    ap (λ n. drop 20 (take n packet)) counts ∙ message_between 20 (20 + length message) header message padding (omega
    (arith, addresses_len)) refl in
    record {
      accepted = accepted_packet packet (ipv4_accepted packet refl refl (omega (arith, after_len))
          (omega (arith, counts))) states there last;
      addresses = λ found carries.
          over_ipv4_addresses (ip.ipv4_header packet) source destination (says found carries).options
          (by_value found.addresses) is_source is_destination
          (no_options (drop 20 (ip.ipv4_header packet)) (says found carries).options nothing (says found carries).are_options)
          (says found carries).addresses;
      protocol = λ found carries.
          (says found carries).protocol
          ∙ ap (λ has. if has then next_number (after_ipv4_header found.is_length_missing packet) else protocol) none;
      message = λ found carries.
          (says found carries).payload
          ∙ ap (λ has. if has then drop (extension_len 51 (after_ipv4_header found.is_length_missing packet))
          (after_ipv4_header found.is_length_missing packet)
          else after_ipv4_header found.is_length_missing packet) none
          ∙ ap (λ missing. drop 20 (if missing then packet else take (total_len packet) packet)) (has_length packet found states carries)
          ∙ bytes_are;
      is_fragment = λ found carries. (says found carries).is_fragment ∙ part;
      is_later_fragment = λ found carries. (says found carries).is_later_fragment ∙ no_offset (flag (start_bytes start) 6 0x20) (offset
          == 0) part;
      is_cut_off = λ found carries. not_cut_off packet found states there carries;
      is_length_missing = λ found carries. has_length packet found states carries;
      headers = first_headers packet;
      read = ended (length (ip.counted false packet)) (first_headers packet) (ip.counted false packet) last;
      between_is = over_ipv4_addresses (ip.ipv4_header packet) source destination (options_of ipv4_option (drop 20 (ip.ipv4_header packet)))
          (first_headers packet).addresses is_source is_destination
          (no_options (drop 20 (ip.ipv4_header packet)) (options_of ipv4_option (drop 20 (ip.ipv4_header packet))) nothing
          (are_ipv4_options (drop 20 (ip.ipv4_header packet)))) refl;
      number_is = refl;
      whole = part;
      bytes_are = bytes_are;
    }

-- the sum of the header with its checksum is all ones
pub ipv4_header_verifies : (start : Start) (time_to_live protocol : ℕ) (source destination after : List ℕ)
    → length source ≡ 4 → length destination ≡ 4
    → Verifies [] (ip.ipv4_header (ipv4_header (start_bytes start) time_to_live protocol source destination ++ after))
ipv4_header_verifies start time_to_live protocol source destination after len len_too =
    let sum : ℕ = total (ipv4_fields (start_bytes start) time_to_live protocol source destination 0) in
    let small : checksum_of sum < 65536 = omega arith in
    let header_is : ip.ipv4_header (ipv4_header (start_bytes start) time_to_live protocol source destination ++ after)
    ≡ ipv4_header (start_bytes start) time_to_live protocol source destination =
    front_of_ipv4 start time_to_live protocol _ _ source destination after len len_too in
    let sums : 0 + total (ipv4_header (start_bytes start) time_to_live protocol source destination) ≡ sum + checksum_of sum =
    omega (arith, small) in
    ap (λ bytes. folded (0 + total bytes)) header_is ∙ ap folded sums ∙ checksum_verifies sum (checksum_of sum) refl

-- ---- IPv6

-- the first six bytes of an IPv6 header
pub record StartIpv6 : Type 0 where
  pub first : ℕ
  pub second : ℕ
  pub third : ℕ
  pub fourth : ℕ
  pub len_high : ℕ
  pub len_low : ℕ

abbrev pub start_bytes_ipv6 : StartIpv6 → List ℕ
start_bytes_ipv6 start = start.first ∷ start.second ∷ start.third ∷ start.fourth ∷ start.len_high ∷ start.len_low ∷ []

-- an IPv6 header, up to its addresses, in front of other bytes
abbrev pub front_ipv6 : StartIpv6 → ℕ → ℕ → List ℕ → List ℕ
front_ipv6 start next_header hop_limit after = start_bytes_ipv6 start ++ (next_header ∷ hop_limit ∷ after)

-- the test for a payload length of 0 fails if the payload length is above 0
payload_len_counts : (packet : List ℕ) → 0 < payload_len packet → (payload_len packet == 0) ≡ false
payload_len_counts packet some = grind (arith, nat_tests)

no_len_in_options : (packet : List ℕ) → 0 < payload_len packet → has_len_in_options packet ≡ false
no_len_in_options packet some = ap (λ zero. zero && (next_header packet == hop_by_hop_options)) (payload_len_counts packet some)

no_jumbo_len : (packet : List ℕ) → 0 < payload_len packet → jumbo_len packet ≡ None
no_jumbo_len packet some = ap (λ has. if has then len_in_options (drop 40 packet) else None) (no_len_in_options packet some)

ipv6_accepted : (packet : List ℕ) → version packet ≡ 6 → 40 ≤ length packet → 0 < payload_len packet → header_refusal packet ≡ None
ipv6_accepted packet is there some =
    let none : jumbo_refusal packet ≡ None =
    ap (λ has. if has then len_in_options_refusal (drop 40 packet) else None) (no_len_in_options packet some) in
    let accepted : ipv6_refusal packet ≡ None = grind (arith, nat_tests) in
    grind (arith, nat_tests)

ipv6_states : (packet : List ℕ) → version packet ≡ 6 → 0 < payload_len packet → lacks_len packet ≡ false
ipv6_states packet is some =
    ap (λ v. is_none (if v == 4 then ipv4_stated_len packet
    else ipv6_stated_len (jumbo_len packet) (payload_len packet) (next_header packet))) is
    ∙ ap (λ jumbo. is_none (ipv6_stated_len jumbo (payload_len packet) (next_header packet))) (no_jumbo_len packet some)
    ∙ ap (λ zero. is_none (if zero && not (next_header packet == 59) then None else Some (40 + payload_len packet)))
    (payload_len_counts packet some)

pub message_over_ipv6 : (start : StartIpv6) (next_header hop_limit : ℕ) (source destination message padding : List ℕ)
    → length source ≡ 16 → length destination ≡ 16 → start.first / 16 ≡ 6 → start.len_high * 256 + start.len_low ≡ length message
    → 0 < length message → is_extension next_header ≡ false
    → HasMessage
    (front_ipv6 start next_header hop_limit ((source ++ destination) ++ (message ++ padding)))
    (addresses.Ipv6 source (Some destination)) next_header message
message_over_ipv6 start number hop_limit source destination message padding len len_too is_ipv6 counted some last =
    let front : List ℕ → List ℕ = front_ipv6 start number hop_limit in
    let packet : List ℕ = front ((source ++ destination) ++ (message ++ padding)) in
    let header : List ℕ = front (source ++ destination) in
    let header_is : ip.ipv6_header packet ≡ header = ap front (take_two 16 source destination (message ++ padding) len len_too) in
    let addresses_len : length (source ++ destination) ≡ 32 = omega (arith, len, len_too, length-append source destination) in
    let after_len : length ((source ++ destination) ++ (message ++ padding)) ≡ 32 + (length message + length padding) =
    omega (arith, addresses_len, length-append (source ++ destination) (message ++ padding), length-append message padding) in
    let counts : payload_len packet ≡ length message = omega (arith, counted) in
    let has_payload : 0 < payload_len packet = omega (arith, counts, some) in
    let counts_too : counted_len false packet ≡ 40 + length message =
    ap (λ v. if v == 4 then total_len packet else 40 + unwrap_or (jumbo_len packet) (payload_len packet)) is_ipv6
    ∙ ap (λ jumbo. 40 + unwrap_or jumbo (payload_len packet)) (no_jumbo_len packet has_payload) ∙ ap (λ n. 40 + n) counts in
    let there : counted_len false packet ≤ length packet = omega (arith, counts_too, after_len) in
    let states : lacks_len packet ≡ false = ipv6_states packet is_ipv6 has_payload in
    let ends : is_extended (first_headers packet) ≡ false =
    ap (λ v. is_extended (if v == 4 then ipv4_headers (ipv4_header_len packet) (ip.ipv4_header packet)
    else ipv6_headers (is_jumbogram packet) (ip.ipv6_header packet))) is_ipv6 ∙ last in
    let says : (found : TransportInIp) → Carries packet found → IsOverIpv6 packet found =
    λ found carries. over_ipv6 packet found is_ipv6 ends carries in
    let whole : length header ≡ 40 = omega (arith, addresses_len) in
    let headers : Headers = ipv6_headers (is_jumbogram packet) (ip.ipv6_header packet) in
    let first_is : first_headers packet ≡ headers =
    ap (λ v. if v == 4 then ipv4_headers (ipv4_header_len packet) (ip.ipv4_header packet)
    else ipv6_headers (is_jumbogram packet) (ip.ipv6_header packet)) is_ipv6 in
    let between_is : addresses.Ipv6 (slice_range (ip.ipv6_header packet) 8 24) (Some (slice_range (ip.ipv6_header packet) 24 40))
    ≡ addresses.Ipv6 source (Some destination) =
    ap (λ bytes. addresses.Ipv6 (slice_range bytes 8 24) (Some (slice_range bytes 24 40))) header_is
    ∙ ap (λ bytes. addresses.Ipv6 bytes (Some (slice_range header 24 40))) (take_source 16 source destination len)
    ∙ ap (λ bytes. addresses.Ipv6 source (Some bytes)) (take_destination 16 source destination len len_too) in
    record {
      accepted = accepted_packet packet (ipv6_accepted packet is_ipv6 (omega (arith, after_len)) has_payload) states there ends;
      addresses = λ found carries.
          (says found carries).addresses ∙ between_is;
      protocol = λ found carries. (says found carries).protocol;
      message = λ found carries.
          (says found carries).payload
          ∙ ap (λ missing. drop 40 (if missing then packet else take (40 + payload_len packet) packet))
          (has_length packet found states carries)
          ∙ ap (λ n. drop 40 (take (40 + n) packet)) counts
          ∙ message_between 40 (40 + length message) header message padding whole refl;
      is_fragment = λ found carries. (says found carries).is_fragment;
      is_later_fragment = λ found carries. (says found carries).is_later_fragment;
      is_cut_off = λ found carries. not_cut_off packet found states there carries;
      is_length_missing = λ found carries. has_length packet found states carries;
      headers = headers;
      read = ended (length (ip.counted false packet)) (first_headers packet) (ip.counted false packet) ends ∙ ap Ok first_is;
      between_is = between_is;
      number_is = refl;
      whole = refl;
      bytes_are = ap (λ n. drop 40 (take n packet)) counts_too ∙ message_between 40 (40 + length message) header message padding whole refl;
    }
