-- Laws of requests with options: padding contains no source route, and the request without its options is accepted too.
use Rattle.std.proofs.Common.{◌≡◌, ◌≢◌, ℕ, ◌+◌, ◌*◌, ◌<◌, ◌≤◌, ◌==◌, ◌&&◌, ◌||◌, Bool, true, false, nat_lt, if◌then◌else◌, List, [], ◌∷◌, ◌++◌, length, take, drop, slice_index, slice_range, length-append, Option, Some, None, unwrap_or, refl, sym, ap, ◌∙◌, subst, arith}
use Rattle.std.specs.Int.{to_be_bytes, w16}
use Rattle.std.specs.List.{find}
use Rattle.std.proofs.Math.Seq.{drop-append_seam, take-append_seam}
use Rattle.std.proofs.lemmas.Bool.Decides.{nat_tests}
use Rattle.std.proofs.lemmas.List.{append_assoc, get_or-take}
use Rattle.ip_part.specs.Ip.{counted_len, total_len}
use Rattle.ip_part.specs.Ip as ip
use Rattle.ip_part.specs.Options.{AreOptions, ipv4_option, is_source_route}
use Rattle.net_base.specs.IpHeaders.{ipv4_header_len, ipv4_header_of, ipv4_is_fragment, version}
use Rattle.word_sum.specs.Checksum.{Verifies, checksum_of, total}
use Rattle.etherparse_transport.specs.EchoReplies.{IsIpv4Request, IsPlainRequest, are_padding, header_without_options, icmpv4_refusal, ipv4_message, len_without_options, message_after, start_without_options, without_options}
use Rattle.etherparse_transport.specs.Packets.{ipv4_fields, ipv4_header}
use Rattle.etherparse_transport.proofs.EchoReplyLemmas.{is_number}
use Rattle.etherparse_transport.proofs.PacketLemmas.{Start, front_ipv4, front_of_ipv4, ipv4_header_verifies, message_between, start_bytes}

-- ---- padding

-- an option in padding is "no operation", and padding follows it
padded : (ends is_operation more : Bool) (first option : List ℕ) (other : Option (List ℕ)) → ends || (is_operation && more) ≡ true
    → (if ends then None else if is_operation then Some first else other) ≡ Some option
    → (is_operation ≡ true) × (more ≡ true) × (first ≡ option)
padded true is_operation more first option other is front = absurd (grind arith)
padded false true more first option other is front = (refl, is, ap (λ found. unwrap_or found first) front)
padded false false more first option other is front = absurd (grind arith)

-- the option with a length at the front of some bytes
abbrev longer : List ℕ → Option (List ℕ)
longer bytes =
    if nat_lt (length bytes) 2 || (nat_lt (slice_index bytes 1) 2 || nat_lt (length bytes) (slice_index bytes 1)) then None
    else Some (take (slice_index bytes 1) bytes)

-- padding contains no source route
pub no_route : (bytes : List ℕ) (options : List (List ℕ)) → are_padding bytes ≡ true → AreOptions ipv4_option bytes options
    → find is_source_route options ≡ None
no_route bytes [] padding are = refl
no_route [] (option ∷ options) padding are = let clash : None ≡ Some option = are.2 in absurd (grind arith)
no_route (kind ∷ tail) (option ∷ options) padding are =
    let bytes : List ℕ = kind ∷ tail in
    let some : (length bytes == 0) ≡ false = grind (arith, nat_tests) in
    let front : (if kind == 0 then None else if kind == 1 then Some (kind ∷ []) else longer bytes) ≡ Some option =
    sym (ap (λ empty. if empty || (kind == 0) then None else if kind == 1 then Some (kind ∷ []) else longer bytes) some) ∙ are.2 in
    let is = padded (kind == 0) (kind == 1) (are_padding tail) (kind ∷ []) option (longer bytes) padding front in
    let kind_is : kind ≡ 1 = is_number kind 1 is.0 in
    let option_is : option ≡ 1 ∷ [] = sym is.2 ∙ ap (λ kind. kind ∷ []) kind_is in
    let rest_is : are.0 ≡ tail = sym (ap (drop 1) (are.1 ∙ ap (λ option. option ++ are.0) option_is)) in
    ap (λ option. find is_source_route (option ∷ options)) option_is
    ∙ no_route are.0 options (ap are_padding rest_is ∙ is.1) are.3

-- ---- the request without its options

-- whether a packet with these two bytes of flags and offset is a fragment
abbrev is_fragment_by : ℕ → ℕ → Bool
is_fragment_by high low = ipv4_is_fragment (0 ∷ 0 ∷ 0 ∷ 0 ∷ 0 ∷ 0 ∷ high ∷ low ∷ [])

-- the packet is a fragment exactly if its flags and its offset say so
fragment_in_front : (len : ℕ) (packet : List ℕ) → 8 ≤ len
    → ipv4_is_fragment (take len packet) ≡ is_fragment_by (slice_index packet 6) (slice_index packet 7)
fragment_in_front len packet long =
    ap (λ high. is_fragment_by high (slice_index (take len packet) 7)) (get_or-take len packet 6 0 (omega (arith, long)))
    ∙ ap (is_fragment_by (slice_index packet 6)) (get_or-take len packet 7 0 (omega (arith, long)))

-- the start of the header without options
abbrev pub short_start : List ℕ → Start
short_start packet = record {
  type_of_service = slice_index packet 1;
  len_high = slice_index (to_be_bytes w16 (len_without_options packet)) 0;
  len_low = slice_index (to_be_bytes w16 (len_without_options packet)) 1;
  id_high = slice_index packet 4;
  id_low = slice_index packet 5;
  offset_high = slice_index packet 6;
  offset_low = slice_index packet 7;
}

-- what is known of the request without its options
pub record IsShortened (packet short : List ℕ) : Type 0 where
  pub plain : IsPlainRequest short
  pub addresses : ipv4_header_of short ≡ ipv4_header_of packet
  pub message : message_after 20 short ≡ ipv4_message packet
  pub counted : counted_len false short ≡ len_without_options packet

pub shortened : (packet rest : List ℕ) → IsIpv4Request packet → len_without_options packet < 65536
    → length (slice_range packet 12 16) ≡ 4 → length (slice_range packet 16 20) ≡ 4
    → IsShortened packet (header_without_options packet ++ (ipv4_message packet ++ rest))
shortened packet rest is small len len_too =
    let message : List ℕ = ipv4_message packet in
    let source : List ℕ = slice_range packet 12 16 in
    let destination : List ℕ = slice_range packet 16 20 in
    let after : List ℕ = message ++ rest in
    let short : List ℕ = header_without_options packet ++ after in
    let start : Start = short_start packet in
    let sum : ℕ = total (ipv4_fields (start_bytes start) (slice_index packet 8) 1 source destination 0) in
    let checksum : List ℕ = to_be_bytes w16 (checksum_of sum) in
    let header : List ℕ = front_ipv4 start (slice_index packet 8) 1 (slice_index checksum 0) (slice_index checksum 1)
    (source ++ destination) in
    let header_is : ip.ipv4_header short ≡ header =
    front_of_ipv4 start (slice_index packet 8) 1 (slice_index checksum 0) (slice_index checksum 1) source destination after len len_too in
    let addresses_len : length (source ++ destination) ≡ 8 = omega (arith, len, len_too, length-append source destination) in
    let after_len : length ((source ++ destination) ++ after) ≡ 8 + (length message + length rest) =
    omega (arith, addresses_len, length-append (source ++ destination) after, length-append message rest) in
    let counts : total_len short ≡ 20 + length message = omega (arith, small) in
    let counts_too : counted_len false short ≡ 20 + length message = counts in
    let message_is : message_after 20 short ≡ message =
    ap (λ n. drop 20 (take n short)) counts ∙ message_between 20 (20 + length message) header message rest (omega
    (arith, addresses_len)) refl in
    let source_is : slice_range short 12 16 ≡ source =
    ap (take 4) (append_assoc source destination after) ∙ ap (λ n. take n (source ++ (destination ++ after))) (sym len)
    ∙ take-append_seam source (destination ++ after) in
    let dropped : drop 4 (source ++ (destination ++ after)) ≡ destination ++ after =
    ap (λ n. drop n (source ++ (destination ++ after))) (sym len) ∙ drop-append_seam source (destination ++ after) in
    let destination_is : slice_range short 16 20 ≡ destination =
    ap (λ bytes. take 4 (drop 4 bytes)) (append_assoc source destination after) ∙ ap (take 4) dropped
    ∙ ap (λ n. take n (destination ++ after)) (sym len_too) ∙ take-append_seam destination after in
    let whole : is_fragment_by (slice_index packet 6) (slice_index packet 7) ≡ false =
    sym (fragment_in_front (ipv4_header_len packet) packet (omega (arith, is.five_words))) ∙ is.whole in
    record {
      plain = record {
        five_words = refl;
        whole = ap ipv4_is_fragment header_is ∙ whole;
        end = counts_too ∙ ap (λ bytes. 20 + length bytes) (sym message_is);
        there = omega (arith, counts_too, after_len);
        message = ap icmpv4_refusal message_is ∙ is.message;
        verifies = ipv4_header_verifies start (slice_index packet 8) 1 source destination after len len_too;
      };
      addresses =
          ap (λ source. record { source = source; destination = slice_range short 16 20 }) source_is
          ∙ ap (λ destination. record { source = source; destination = destination }) destination_is;
      message = message_is;
      counted = counts_too;
    }

-- a request without options stays as it is
pub stays : (packet : List ℕ) → IsIpv4Request packet → ipv4_header_len packet ≡ 20 → IsShortened packet packet
stays packet is len =
    let message_is : message_after 20 packet ≡ ipv4_message packet = ap (λ n. message_after n packet) (sym len) in
    let end : counted_len false packet ≡ 20 + length (ipv4_message packet) = is.end ∙ ap (λ n. n + length (ipv4_message packet)) len in
    let Sums : ℕ → Type 0 = λ n. Verifies [] (take n packet) in
    record {
      plain = record {
        five_words = omega (arith, len, is.is_ipv4);
        whole = is.whole;
        end = end ∙ ap (λ bytes. 20 + length bytes) (sym message_is);
        there = is.there;
        message = ap icmpv4_refusal message_is ∙ is.message;
        verifies = subst Sums len is.verifies;
      };
      addresses = refl;
      message = message_is;
      counted = end;
    }
