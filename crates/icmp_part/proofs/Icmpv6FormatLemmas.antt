-- Laws of the ICMPv6 header: reading, writing and canonical bytes.
use Rattle.std.proofs.Common.{◌≡◌, ℕ, zero, suc, ◌+◌, ◌/◌, ◌%◌, ◌^◌, ◌<◌, ◌≤◌, Bool, true, false, List, [], ◌∷◌, ◌++◌, length, take, drop, map, get_or, None, refl, sym, ap, ◌∙◌, subst, lit≤, arith}
use Rattle.std.proofs.lemmas.Bool.Decides.{nat_tests}
use Rattle.std.proofs.lemmas.List.{length-append, length-drop}
use Rattle.std.proofs.lemmas.List.Folds.{drop_split}
use Rattle.std.specs.Prelude.{◌↔◌, slice_index, slice_range}
use Rattle.std.specs.Int.{from_bool, to_be_bytes, w16, w32}
use Rattle.std.specs.Int.Bits.{and_zero_r}
use Rattle.std.specs.Option.{unwrap_or}
use Rattle.net_base.specs.Bytes.{IsBytes, be_number, flag, masked}
use Rattle.net_base.proofs.BytesLemmas.{to_be_bytes-be_number_4}
use Rattle.net_base.proofs.MaskedLemmas.{bit_and-all, length-masked, masked_alike_at}
use Rattle.icmp_part.specs.Icmpv6Format.{DecodesAs, HasPacketLength, canonical, dest_unreachable_code, dest_unreachable_codes, format_at, format_of, formats, header_of, icmp_type_of, layout_of, neighbor_advertisement, neighbor_advertisement_fields, neighbor_advertisement_flags, neighbor_advertisement_masks, neighbor_advertisement_of, packet_too_big, parameter_problem, parameter_problem_code, parameter_problem_codes, refusal, router_advertisement, router_advertisement_fields, router_advertisement_flags, router_advertisement_masks, router_advertisement_of, time_exceeded_code, time_exceeded_codes, unknown, wire, written}
use Rattle.icmp_part.specs.MessageFormat.{MessageFormat, codes_of, listed, unused, used}
use Rattle.icmp_part.specs.declared.icmpv6.dest_unreachable_code.DestUnreachableCode.{DestUnreachableCode}
use Rattle.icmp_part.specs.declared.icmpv6.neighbor_advertisement_header.NeighborAdvertisementHeader.{NeighborAdvertisementHeader}
use Rattle.icmp_part.specs.declared.icmpv6.parameter_problem_code.ParameterProblemCode.{ParameterProblemCode}
use Rattle.icmp_part.specs.declared.icmpv6.router_advertisement_header.RouterAdvertisementHeader.{RouterAdvertisementHeader}
use Rattle.icmp_part.specs.declared.icmpv6.time_exceeded_code.TimeExceededCode.{TimeExceededCode}
use Rattle.icmp_part.specs.declared.icmpv6_header.Icmpv6Header.{Icmpv6Header}
use Rattle.icmp_part.specs.declared.icmpv6_type.Icmpv6Type.{Icmpv6Type}
use Rattle.icmp_part.specs.declared.icmpv6_type.Icmpv6Type.TheVariants.{Unknown, DestinationUnreachable, TimeExceeded, EchoRequest, EchoReply, RouterSolicitation, RouterAdvertisement, NeighborSolicitation, NeighborAdvertisement, Redirect}
use Rattle.icmp_part.proofs.FlagLemmas.{flag_alike, flag_read, three_flags, two_flags}
use Rattle.icmp_part.proofs.IcmpEchoLemmas.{echo_lawful}
use Rattle.icmp_part.proofs.MessageFormatLemmas.{◌⊗◌, AllAreLawful, AreLawful, IsLawful, all_used_lawful, begins, eight_lawful, canonical_alike, format_in-lawful, format_in-reads, unused_lawful}

-- ---- reading by the list

-- a packet is read as the format of its type and code, or raw if no format is listed for them
pub icmp_type_of_listed : (bytes : List ℕ)
    → icmp_type_of bytes ≡ unwrap_or (listed (codes_of formats (slice_index bytes 0)) (slice_index bytes 1) bytes)
    (unknown.message_of bytes)
unfolding format_of
icmp_type_of_listed bytes = format_in-reads formats unknown (slice_index bytes 0) (slice_index bytes 1) bytes

-- a packet is read raw if its type and code are not listed
pub unlisted_is_unknown : (bytes : List ℕ) (type code : ℕ) (fields : List ℕ)
    → type ≡ slice_index bytes 0 → code ≡ slice_index bytes 1 → fields ≡ slice_range bytes 4 8
    → listed (codes_of formats (slice_index bytes 0)) (slice_index bytes 1) bytes ≡ None → Unknown type code fields ≡ icmp_type_of bytes
unlisted_is_unknown bytes type code fields is_type is_code are_fields unlisted =
    let read = icmp_type_of_listed bytes in
    rw (is_type, is_code, are_fields) (sym (read ∙ ap (λ message. unwrap_or message (unknown.message_of bytes)) unlisted))

-- ---- the two advertisement headers

-- the flags of a neighbor advertisement are the bits that its masks keep
pub neighbor_advertisement_written_back : (bytes : List ℕ) → IsBytes bytes → length bytes ≡ 4
    → neighbor_advertisement_fields (neighbor_advertisement_of bytes 0) ≡ masked neighbor_advertisement_masks bytes
neighbor_advertisement_written_back (a ∷ (b ∷ (c ∷ (d ∷ [])))) fits four =
    rw (three_flags a (fits 0), and_zero_r b, and_zero_r c, and_zero_r d) refl
neighbor_advertisement_written_back [] fits four = absurd (omega arith)
neighbor_advertisement_written_back (a ∷ []) fits four = absurd (omega arith)
neighbor_advertisement_written_back (a ∷ (b ∷ [])) fits four = absurd (omega arith)
neighbor_advertisement_written_back (a ∷ (b ∷ (c ∷ []))) fits four = absurd (omega arith)
neighbor_advertisement_written_back (a ∷ (b ∷ (c ∷ (d ∷ (e ∷ more))))) fits four = absurd (omega arith)

abbrev flags_record : Bool → Bool → Bool → NeighborAdvertisementHeader
flags_record router solicited override_flag = record { router = router; solicited = solicited; override_flag = override_flag }

flags_same : (router solicited override_flag : Bool) (header : NeighborAdvertisementHeader)
    → router ≡ header.router → solicited ≡ header.solicited → override_flag ≡ header.override_flag
    → flags_record router solicited override_flag ≡ header
flags_same router solicited override_flag header e f g =
    ap (λ r. flags_record r solicited override_flag) e ∙ ap (λ s. flags_record header.router s override_flag) f
    ∙ ap (flags_record header.router header.solicited) g

from_bool-lt : (set : Bool) → from_bool set < 2
from_bool-lt true = omega arith
from_bool-lt false = omega arith

-- the flags of a neighbor advertisement are read from the byte in which they are written
pub neighbor_advertisement_read : (header : NeighborAdvertisementHeader) (bytes : List ℕ) (from : ℕ)
    → slice_index bytes from ≡ neighbor_advertisement_flags header → neighbor_advertisement_of bytes from ≡ header
neighbor_advertisement_read header bytes from is =
    let r = from_bool-lt header.router in
    let s = from_bool-lt header.solicited in
    let o = from_bool-lt header.override_flag in
    let router : header.router ≡ flag bytes from 0x80 = flag_read (slice_index bytes from) 7 header.router (lit≤ tt) (omega arith) in
    let solicited : header.solicited ≡ flag bytes from 0x40 =
    flag_read (slice_index bytes from) 6 header.solicited (lit≤ tt) (omega arith) in
    let override_flag : header.override_flag ≡ flag bytes from 0x20 =
    flag_read (slice_index bytes from) 5 header.override_flag (lit≤ tt) (omega arith) in
    flags_same _ _ _ header (sym router) (sym solicited) (sym override_flag)

-- the fields of a router advertisement are the bits that its masks keep
pub router_advertisement_written_back : (bytes : List ℕ) → IsBytes bytes → length bytes ≡ 4
    → router_advertisement_fields (router_advertisement_of bytes 0) ≡ masked router_advertisement_masks bytes
router_advertisement_written_back (a ∷ (b ∷ (c ∷ (d ∷ [])))) fits four =
    let high : be_number (a ∷ (b ∷ (c ∷ (d ∷ [])))) 2 2 / 256 % 256 ≡ c = omega (arith, fits 2, fits 3) in
    let low : be_number (a ∷ (b ∷ (c ∷ (d ∷ [])))) 2 2 % 256 ≡ d = omega (arith, fits 2, fits 3) in
    rw (bit_and-all a (fits 0), two_flags b (fits 1), bit_and-all c (fits 2), bit_and-all d (fits 3), high, low) refl
router_advertisement_written_back [] fits four = absurd (omega arith)
router_advertisement_written_back (a ∷ []) fits four = absurd (omega arith)
router_advertisement_written_back (a ∷ (b ∷ [])) fits four = absurd (omega arith)
router_advertisement_written_back (a ∷ (b ∷ (c ∷ []))) fits four = absurd (omega arith)
router_advertisement_written_back (a ∷ (b ∷ (c ∷ (d ∷ (e ∷ more))))) fits four = absurd (omega arith)

abbrev router_record : ℕ → Bool → Bool → ℕ → RouterAdvertisementHeader
router_record limit managed other lifetime =
    record { cur_hop_limit = limit; managed_address_config = managed; other_config = other; router_lifetime = lifetime }

router_same : (limit : ℕ) (managed other : Bool) (lifetime : ℕ) (header : RouterAdvertisementHeader)
    → limit ≡ header.cur_hop_limit → managed ≡ header.managed_address_config → other ≡ header.other_config
    → lifetime ≡ header.router_lifetime
    → router_record limit managed other lifetime ≡ header
router_same limit managed other lifetime header e f g h =
    ap (λ l. router_record l managed other lifetime) e
    ∙ ap (λ m. router_record header.cur_hop_limit m other lifetime) f
    ∙ ap (λ o. router_record header.cur_hop_limit header.managed_address_config o lifetime) g
    ∙ ap (router_record header.cur_hop_limit header.managed_address_config header.other_config) h

-- the fields of a router advertisement are read back
pub router_advertisement_read : (header : RouterAdvertisementHeader) (bytes : List ℕ) (from : ℕ) → header.router_lifetime < 2 ^ 16
    → slice_index bytes from ≡ header.cur_hop_limit
    → slice_index bytes (from + 1) ≡ router_advertisement_flags header
    → be_number bytes (from + 2) 2 ≡ header.router_lifetime
    → router_advertisement_of bytes from ≡ header
router_advertisement_read header bytes from small limit flags lifetime =
    let m = from_bool-lt header.managed_address_config in
    let o = from_bool-lt header.other_config in
    let managed : header.managed_address_config ≡ flag bytes (from + 1) 0x80 =
    flag_read (slice_index bytes (from + 1)) 7 header.managed_address_config (lit≤ tt) (omega arith) in
    let other : header.other_config ≡ flag bytes (from + 1) 0x40 =
    flag_read (slice_index bytes (from + 1)) 6 header.other_config (lit≤ tt) (omega arith) in
    router_same _ _ _ _ header limit (sym managed) (sym other) lifetime

-- ---- laws of each format of the list

-- every header is eight bytes long
abbrev IsLen : ℕ → ℕ → ℕ → Type 0
IsLen type code len = len ≡ 8

abbrev pub IsLawfulIcmpv6 : ℕ → ℕ → MessageFormat Icmpv6Type → Type 0
IsLawfulIcmpv6 type code format = IsLawful Icmpv6Type written IsLen type code format

dest_unreachable_lawful : (code : DestUnreachableCode)
    → IsLawfulIcmpv6 1 (dest_unreachable_code code) (unused (DestinationUnreachable code))
dest_unreachable_lawful code = unused_lawful written IsLen 1 (dest_unreachable_code code) (DestinationUnreachable code) refl refl

time_exceeded_lawful : (code : TimeExceededCode) → IsLawfulIcmpv6 3 (time_exceeded_code code) (unused (TimeExceeded code))
time_exceeded_lawful code = unused_lawful written IsLen 3 (time_exceeded_code code) (TimeExceeded code) refl refl

-- the format of a header in which every bit is used is lawful
whole_lawful : (type code : ℕ) (message_of : List ℕ → Icmpv6Type) (fields_of : List ℕ → List ℕ)
    → ((bytes : List ℕ) → written (message_of bytes) ≡ record { type = type; code = code; fields = fields_of bytes })
    → ((bytes : List ℕ) → IsBytes bytes → 8 ≤ length bytes → fields_of bytes ++ drop 8 bytes ≡ drop 4 bytes)
    → IsLawfulIcmpv6 type code (record { layout = record { header_len = 8; masks = used 8 }; message_of = message_of })
whole_lawful type code message_of fields_of is_written fields =
    all_used_lawful written IsLen type code 8 message_of refl refl refl refl refl refl
    (λ bytes fits enough is_type is_code.
    ap (λ w. w.type ∷ (w.code ∷ (to_be_bytes w16 (be_number bytes 2 2) ++ (w.fields ++ drop 8 bytes)))) (is_written bytes)
    ∙ begins bytes type code _ fits (omega arith) is_type is_code
    ∙ ap (λ later. take 4 bytes ++ later) (fields bytes fits enough))

-- a number in bytes 4 to 7 is written as it was read
number_fields : (bytes : List ℕ) → IsBytes bytes → 8 ≤ length bytes → to_be_bytes w32 (be_number bytes 4 4) ++ drop 8 bytes ≡ drop 4 bytes
number_fields bytes fits enough = to_be_bytes-be_number_4 bytes 4 8 _ _ fits refl (omega arith) refl refl

packet_too_big_lawful : IsLawfulIcmpv6 2 0 packet_too_big
packet_too_big_lawful = whole_lawful 2 0 _ (λ bytes. to_be_bytes w32 (be_number bytes 4 4)) (λ bytes. refl) number_fields

parameter_problem_lawful : (code : ParameterProblemCode) → IsLawfulIcmpv6 4 (parameter_problem_code code) (parameter_problem code)
parameter_problem_lawful code =
    whole_lawful 4 (parameter_problem_code code) _ (λ bytes. to_be_bytes w32 (be_number bytes 4 4)) (λ bytes. refl) number_fields

neighbor_advertisement_lawful : IsLawfulIcmpv6 136 0 neighbor_advertisement
neighbor_advertisement_lawful =
    eight_lawful written IsLen 136 0 0xe0 0 0 0 (λ bytes. NeighborAdvertisement (neighbor_advertisement_of bytes 4)) refl
    (λ bytes fits.
    rw (
      and_zero_r (slice_index bytes 5),
      and_zero_r (slice_index bytes 6),
      and_zero_r (slice_index bytes 7),
      three_flags (slice_index bytes 4) (fits 4),
    ) refl)
    (λ bytes other fits other_fits same.
    let masks = used 4 ++ neighbor_advertisement_masks in
    ap NeighborAdvertisement (flags_same _ _ _ (neighbor_advertisement_of other 4)
    (flag_alike masks bytes other 4 0x80 fits other_fits refl same)
    (flag_alike masks bytes other 4 0x40 fits other_fits refl same)
    (flag_alike masks bytes other 4 0x20 fits other_fits refl same)))

router_solicitation_lawful : IsLawfulIcmpv6 133 0 (unused RouterSolicitation)
router_solicitation_lawful = unused_lawful written IsLen 133 0 RouterSolicitation refl refl

router_advertisement_lawful : IsLawfulIcmpv6 134 0 router_advertisement
router_advertisement_lawful =
    eight_lawful written IsLen 134 0 0xff 0xc0 0xff 0xff (λ bytes. RouterAdvertisement (router_advertisement_of bytes 4)) refl
    (λ bytes fits.
    let high : be_number bytes 6 2 / 256 % 256 ≡ slice_index bytes 6 = omega (arith, fits 6, fits 7) in
    let low : be_number bytes 6 2 % 256 ≡ slice_index bytes 7 = omega (arith, fits 6, fits 7) in
    rw (
      bit_and-all (slice_index bytes 4) (fits 4),
      two_flags (slice_index bytes 5) (fits 5),
      bit_and-all (slice_index bytes 6) (fits 6),
      bit_and-all (slice_index bytes 7) (fits 7),
      high,
      low,
    ) refl)
    (λ bytes other fits other_fits same.
    let masks = used 4 ++ router_advertisement_masks in
    let high = masked_alike_at masks bytes other 6 fits other_fits refl same in
    let low = masked_alike_at masks bytes other 7 fits other_fits refl same in
    ap RouterAdvertisement (router_same _ _ _ _ (router_advertisement_of other 4)
    (masked_alike_at masks bytes other 4 fits other_fits refl same)
    (flag_alike masks bytes other 5 0x80 fits other_fits refl same)
    (flag_alike masks bytes other 5 0x40 fits other_fits refl same)
    (omega arith)))

redirect_lawful : IsLawfulIcmpv6 137 0 (unused Redirect)
redirect_lawful = unused_lawful written IsLen 137 0 Redirect refl refl

neighbor_solicitation_lawful : IsLawfulIcmpv6 135 0 (unused NeighborSolicitation)
neighbor_solicitation_lawful = unused_lawful written IsLen 135 0 NeighborSolicitation refl refl

-- the raw format of every type and code is lawful
unknown_lawful : (type code : ℕ) → IsLawfulIcmpv6 type code unknown
unknown_lawful type code = all_used_lawful written IsLen type code 8 _ refl refl refl refl refl refl
    (λ bytes fits enough is_type is_code.
    begins bytes (slice_index bytes 0) (slice_index bytes 1) _ fits (omega arith) refl refl
    ∙ ap (λ later. take 4 bytes ++ later) (sym (drop_split bytes 4 8 (omega arith))))

-- ---- the list is lawful

-- this number of numbers from `first` on
numbers_from : ℕ → ℕ → List ℕ
numbers_from first zero = []
numbers_from first (suc count) = first ∷ numbers_from (suc first) count

-- the formats of codes, in the order of their numbers, are lawful
mapped_lawful : {Code : Type 0} (type : ℕ) (number : Code → ℕ) (format_of_code : Code → MessageFormat Icmpv6Type)
    → ((code : Code) → IsLawfulIcmpv6 type (number code) (format_of_code code))
    → (first : ℕ) (codes : List Code) → map number codes ≡ numbers_from first (length codes)
    → AreLawful written IsLen type first (map format_of_code codes)
unfolding AreLawful numbers_from
mapped_lawful type number format_of_code lawful first [] in_order = tt
mapped_lawful type number format_of_code lawful first (code ∷ codes) in_order =
    let P : ℕ → Type 0 = λ n. IsLawfulIcmpv6 type n (format_of_code code) in (
      subst P (ap (λ numbers. get_or numbers 0 0) in_order) (lawful code),
      mapped_lawful type number format_of_code lawful (suc first) codes (ap (drop 1) in_order),
    )

formats_lawful : AllAreLawful written IsLen formats
unfolding AreLawful AllAreLawful numbers_from
formats_lawful =
    mapped_lawful 1 dest_unreachable_code
    (λ code. unused (DestinationUnreachable code)) dest_unreachable_lawful 0 dest_unreachable_codes refl
    ⊗ (packet_too_big_lawful ⊗ tt)
    ⊗ mapped_lawful 3 time_exceeded_code (λ code. unused (TimeExceeded code)) time_exceeded_lawful 0 time_exceeded_codes refl
    ⊗ mapped_lawful 4 parameter_problem_code parameter_problem parameter_problem_lawful 0 parameter_problem_codes refl
    ⊗ (echo_lawful written IsLen 128 EchoRequest refl (λ fields. refl) ⊗ tt)
    ⊗ (echo_lawful written IsLen 129 EchoReply refl (λ fields. refl) ⊗ tt)
    ⊗ (router_solicitation_lawful ⊗ tt)
    ⊗ (router_advertisement_lawful ⊗ tt)
    ⊗ (neighbor_solicitation_lawful ⊗ tt)
    ⊗ (neighbor_advertisement_lawful ⊗ tt)
    ⊗ (redirect_lawful ⊗ tt)
    ⊗ tt

-- the format of each type and code is lawful
format_at-lawful : (type code : ℕ) → IsLawfulIcmpv6 type code (format_at type code)
format_at-lawful type code = format_in-lawful written IsLen formats unknown formats_lawful unknown_lawful type code

-- the format of each packet is lawful
pub format_of-lawful : (bytes : List ℕ) → IsLawfulIcmpv6 (slice_index bytes 0) (slice_index bytes 1) (format_of bytes)
unfolding format_of
format_of-lawful bytes = format_at-lawful (slice_index bytes 0) (slice_index bytes 1)

-- every header is eight bytes long
pub header_len_eight : (bytes : List ℕ) → (layout_of bytes).header_len ≡ 8
header_len_eight bytes = (format_of-lawful bytes).header_len

-- a packet is accepted exactly if its length is allowed
pub accepted-length : (bytes : List ℕ) → refusal bytes ≡ None → HasPacketLength bytes
accepted-length bytes accepted = record { shortest = grind (arith, nat_tests); longest = grind (arith, nat_tests) }

pub length-accepted : (bytes : List ℕ) → HasPacketLength bytes → refusal bytes ≡ None
length-accepted bytes packet =
    let shortest : 8 ≤ length bytes = packet.shortest in
    let longest : length bytes ≤ 4294967295 = packet.longest in
    grind (arith, nat_tests)

-- ---- the laws

-- writing the header and the rest gives the canonical bytes
pub written_back : (bytes : List ℕ) (header : Icmpv6Header) (rest : List ℕ) → IsBytes bytes → DecodesAs bytes header rest
    → wire header ++ rest ≡ canonical bytes
written_back bytes header rest fits read =
    let shortest : 8 ≤ length bytes = (accepted-length bytes read.accepted).shortest in
    ap (λ h. wire h ++ rest) read.fields
    ∙ ap (λ r. wire (header_of bytes) ++ r) read.after_header
    ∙ (format_of-lawful bytes).writes bytes fits (omega (arith, header_len_eight bytes)) refl refl

-- the length of the written header is the length of the header that was read
pub length_wire : (bytes : List ℕ) → IsBytes bytes → HasPacketLength bytes → length (wire (header_of bytes)) ≡ 8
length_wire bytes fits packet =
    let len = (layout_of bytes).header_len in
    let eight = header_len_eight bytes in
    let shortest : 8 ≤ length bytes = packet.shortest in
    let same = ap length ((format_of-lawful bytes).writes bytes fits (omega (arith, eight, shortest)) refl refl) in
    let both = length-append (wire (header_of bytes)) (drop len bytes) in
    let rest = length-drop len bytes in
    let all = length-masked (layout_of bytes).masks bytes in
    omega (arith, same, both, rest, all, eight, shortest)

-- packets with the same canonical bytes are read alike
read_alike : (bytes other : List ℕ) → IsBytes bytes → IsBytes other → canonical other ≡ canonical bytes
    → (icmp_type_of other ≡ icmp_type_of bytes) × (be_number other 2 2 ≡ be_number bytes 2 2)
    × (drop (layout_of other).header_len other ≡ drop (layout_of bytes).header_len bytes)
unfolding format_of
read_alike bytes other fits other_fits same = canonical_alike written IsLen format_at format_at-lawful bytes other fits other_fits same

-- two accepted packets read alike exactly if their canonical bytes are the same
pub decode_alike : (bytes other : List ℕ) (header : Icmpv6Header) (rest : List ℕ) → IsBytes bytes → IsBytes other
    → DecodesAs bytes header rest
    → refusal other ≡ None → (DecodesAs other header rest ↔ (canonical other ≡ canonical bytes))
decode_alike bytes other header rest fits other_fits read accepted = (
  λ alike. sym (written_back other header rest other_fits alike) ∙ written_back bytes header rest fits read,
  λ same.
      let alike = read_alike bytes other fits other_fits same in
      let message : icmp_type_of other ≡ icmp_type_of bytes = alike.0 in
      let checksum : be_number other 2 2 ≡ be_number bytes 2 2 = alike.1 in
      let headers : header_of other ≡ header_of bytes = cc in
      record { accepted = accepted; fields = read.fields ∙ sym headers; after_header = read.after_header ∙ sym alike.2 },
)
