-- A written ICMPv6 header is read by `reads_back`, with any payload.
use Rattle.std.proofs.Common.{◌≡◌, ℕ, ◌+◌, ◌/◌, ◌%◌, ◌^◌, ◌<◌, ◌≤◌, Bool, true, false, if◌then◌else◌, List, [], ◌∷◌, ◌++◌, length, drop, Some, refl, sym, ap, ◌∙◌, subst, length-append, arith}
use Rattle.std.proofs.lemmas.Bool.Decides.{nat_tests}
use Rattle.std.specs.Prelude.{nat_lt}
use Rattle.std.specs.Option.{unwrap_or}
use Rattle.std.specs.declared.result.Result.TheVariants.{Ok, Err}
use Rattle.net_base.specs.Bytes.{be_number}
use Rattle.net_base.specs.Refusals.{wrong_length}
use Rattle.net_base.specs.declared.err.layer.Layer.TheVariants as layers
use Rattle.icmp_part.specs.Icmpv6Format.{DecodesAs, dest_unreachable_code, format_at, format_of, formats, icmp_type_of, max_packet_len, max_payload_len, neighbor_advertisement_flags, parameter_problem_code, refusal, router_advertisement_flags, time_exceeded_code, wire, written}
use Rattle.icmp_part.specs.Icmpv6ReadsBack.{FieldsFit, IsReadAs, listed_kind, message_reads_back, reads_back, icmpv6_header}
use Rattle.icmp_part.specs.IcmpEcho.{EchoFits, echo_of}
use Rattle.icmp_part.specs.MessageFormat.{codes_of, listed}
use Rattle.icmp_part.specs.declared.icmp_echo_header.IcmpEchoHeader.{IcmpEchoHeader}
use Rattle.icmp_part.specs.declared.icmpv6.dest_unreachable_code.DestUnreachableCode.{DestUnreachableCode}
use Rattle.icmp_part.specs.declared.icmpv6.dest_unreachable_code.DestUnreachableCode.TheVariants as unreachable
use Rattle.icmp_part.specs.declared.icmpv6.parameter_problem_code.ParameterProblemCode.{ParameterProblemCode}
use Rattle.icmp_part.specs.declared.icmpv6.parameter_problem_code.ParameterProblemCode.TheVariants as problem
use Rattle.icmp_part.specs.declared.icmpv6.time_exceeded_code.TimeExceededCode.{TimeExceededCode}
use Rattle.icmp_part.specs.declared.icmpv6.time_exceeded_code.TimeExceededCode.TheVariants as exceeded
use Rattle.icmp_part.specs.declared.icmpv6_type.Icmpv6Type.{Icmpv6Type}
use Rattle.icmp_part.specs.declared.icmpv6_type.Icmpv6Type.TheVariants.{Unknown, DestinationUnreachable, PacketTooBig, TimeExceeded, ParameterProblem, EchoRequest, EchoReply, RouterSolicitation, RouterAdvertisement, NeighborSolicitation, NeighborAdvertisement, Redirect}
use Rattle.icmp_part.proofs.IcmpEchoLemmas.{echo_of-same}
use Rattle.icmp_part.proofs.Icmpv6FormatLemmas.{header_len_eight, icmp_type_of_listed, length-accepted, neighbor_advertisement_read, router_advertisement_read}
use Rattle.icmp_part.proofs.ListedLemmas.{AllReadAlike, codes_alike, listed_alike}
use Rattle.icmp_part.proofs.MessageFormatLemmas.{◌⊗◌}

header_same : (message : Icmpv6Type) (checksum : ℕ) (other : Icmpv6Type) (other_checksum : ℕ) → message ≡ other → checksum ≡ other_checksum
    → icmpv6_header message checksum ≡ icmpv6_header other other_checksum
header_same message checksum other other_checksum e f = ap (λ m. icmpv6_header m checksum) e ∙ ap (icmpv6_header other) f

-- ---- packets within the limit

-- a header that is written as these bytes is read as the header in these bytes
eight_back : (message back : Icmpv6Type) (checksum type code a b c d : ℕ) (payload : List ℕ) → checksum < 2 ^ 16
    → length payload ≤ max_payload_len
    → written message ≡ record { type = type; code = code; fields = a ∷ (b ∷ (c ∷ (d ∷ []))) }
    → ((x y : ℕ) → icmp_type_of (type ∷ (code ∷ (x ∷ (y ∷ (a ∷ (b ∷ (c ∷ (d ∷ payload)))))))) ≡ back)
    → DecodesAs (wire (icmpv6_header message checksum) ++ payload) (icmpv6_header back checksum) payload
eight_back message back checksum type code a b c d payload small within is_written read =
    let bytes = type ∷ (code ∷ (checksum / 256 % 256 ∷ (checksum % 256 ∷ (a ∷ (b ∷ (c ∷ (d ∷ payload))))))) in
    let sum : checksum ≡ be_number bytes 2 2 = omega arith in
    let kind : back ≡ icmp_type_of bytes = sym (read (checksum / 256 % 256) (checksum % 256)) in
    let decodes : DecodesAs bytes (icmpv6_header back checksum) payload = record {
      accepted = length-accepted bytes (record { shortest = omega arith; longest = omega arith });
      fields = header_same back checksum (icmp_type_of bytes) (be_number bytes 2 2) kind sum;
      after_header = ap (λ n. drop n bytes) (sym (header_len_eight bytes));
    } in
    let P : List ℕ → Type 0 = λ b. DecodesAs b (icmpv6_header back checksum) payload in
    subst P (ap (λ w. w.type ∷ (w.code ∷ (checksum / 256 % 256 ∷ (checksum % 256 ∷ (w.fields ++ payload))))) (sym is_written)) decodes

dest_unreachable_read : (code : DestUnreachableCode) (bytes : List ℕ)
    → (format_at 1 (dest_unreachable_code code)).message_of bytes ≡ DestinationUnreachable code
dest_unreachable_read unreachable.NoRoute bytes = refl
dest_unreachable_read other bytes = refl

time_exceeded_read : (code : TimeExceededCode) (bytes : List ℕ)
    → (format_at 3 (time_exceeded_code code)).message_of bytes ≡ TimeExceeded code
time_exceeded_read exceeded.HopLimitExceeded bytes = refl
time_exceeded_read other bytes = refl

abbrev problem_at : ParameterProblemCode → ℕ → Icmpv6Type
problem_at code pointer = ParameterProblem (record { code = code; pointer = pointer })

parameter_problem_read : (code : ParameterProblemCode) (bytes : List ℕ)
    → (format_at 4 (parameter_problem_code code)).message_of bytes ≡ problem_at code (be_number bytes 4 4)
parameter_problem_read problem.ErroneousHeaderField bytes = refl
parameter_problem_read other bytes = refl

-- raw messages are read only from type, code and the bytes after the checksum
raw_listed : (type code x y a b c d : ℕ) (payload : List ℕ)
    → listed (codes_of formats type) code (type ∷ (code ∷ (x ∷ (y ∷ (a ∷ (b ∷ (c ∷ (d ∷ payload))))))))
    ≡ listed_kind type code (a ∷ (b ∷ (c ∷ (d ∷ []))))
unfolding AllReadAlike
raw_listed type code x y a b c d payload =
    let bytes = type ∷ (code ∷ (x ∷ (y ∷ (a ∷ (b ∷ (c ∷ (d ∷ payload))))))) in
    let header = type ∷ (code ∷ (0 ∷ (0 ∷ (a ∷ (b ∷ (c ∷ (d ∷ []))))))) in
    codes_alike formats type code bytes header (
    (λ is_type. listed_alike (codes_of formats 1) code bytes header refl)
    ⊗ (λ is_type. listed_alike (codes_of formats 2) code bytes header refl)
    ⊗ (λ is_type. listed_alike (codes_of formats 3) code bytes header refl)
    ⊗ (λ is_type. listed_alike (codes_of formats 4) code bytes header refl)
    ⊗ (λ is_type. listed_alike (codes_of formats 128) code bytes header refl)
    ⊗ (λ is_type. listed_alike (codes_of formats 129) code bytes header refl)
    ⊗ (λ is_type. listed_alike (codes_of formats 133) code bytes header refl)
    ⊗ (λ is_type. listed_alike (codes_of formats 134) code bytes header refl)
    ⊗ (λ is_type. listed_alike (codes_of formats 135) code bytes header refl)
    ⊗ (λ is_type. listed_alike (codes_of formats 136) code bytes header refl)
    ⊗ (λ is_type. listed_alike (codes_of formats 137) code bytes header refl)
    ⊗ tt)

unknown_back : (type code : ℕ) (bytes5to8 : List ℕ) (checksum : ℕ) (payload : List ℕ) → checksum < 2 ^ 16 → length payload ≤ max_payload_len
    → length bytes5to8 ≡ 4
    → DecodesAs (wire (icmpv6_header (Unknown type code bytes5to8) checksum) ++ payload)
    (icmpv6_header (unwrap_or (listed_kind type code bytes5to8) (Unknown type code bytes5to8)) checksum) payload
unknown_back type code (a ∷ (b ∷ (c ∷ (d ∷ [])))) checksum payload small within four =
    let as_it_was = Unknown type code (a ∷ (b ∷ (c ∷ (d ∷ [])))) in
    eight_back as_it_was (unwrap_or (listed_kind type code (a ∷ (b ∷ (c ∷ (d ∷ []))))) as_it_was) checksum type code a b c d payload small
    within refl
    (λ x y.
    icmp_type_of_listed (type ∷ (code ∷ (x ∷ (y ∷ (a ∷ (b ∷ (c ∷ (d ∷ payload))))))))
    ∙ ap (λ kind. unwrap_or kind as_it_was) (raw_listed type code x y a b c d payload))
unknown_back type code [] checksum payload small within four = absurd (omega arith)
unknown_back type code (a ∷ []) checksum payload small within four = absurd (omega arith)
unknown_back type code (a ∷ (b ∷ [])) checksum payload small within four = absurd (omega arith)
unknown_back type code (a ∷ (b ∷ (c ∷ []))) checksum payload small within four = absurd (omega arith)
unknown_back type code (a ∷ (b ∷ (c ∷ (d ∷ (e ∷ more))))) checksum payload small within four = absurd (omega arith)

echo_back : (type : ℕ) (variant : IcmpEchoHeader → Icmpv6Type) (echo : IcmpEchoHeader) (checksum : ℕ) (payload : List ℕ) → checksum < 2 ^ 16
    → length payload ≤ max_payload_len
    → EchoFits echo
    → written (variant echo) ≡ record {
      type = type;
      code = 0;
      fields = echo.id / 256 % 256 ∷ (echo.id % 256 ∷ (echo.seq / 256 % 256 ∷ (echo.seq % 256 ∷ [])));
    }
    → ((bytes : List ℕ) → (format_at type 0).message_of bytes ≡ variant (echo_of bytes 4))
    → DecodesAs (wire (icmpv6_header (variant echo) checksum) ++ payload) (icmpv6_header (variant echo) checksum) payload
unfolding format_of
echo_back type variant echo checksum payload small within fit is_written read =
    eight_back (variant echo) (variant echo) checksum type 0 (echo.id / 256 % 256) (echo.id % 256) (echo.seq / 256 % 256)
    (echo.seq % 256) payload small within is_written
    (λ x y.
    let bytes = type ∷ (0 ∷ (x ∷ (y ∷ (echo.id / 256 % 256 ∷ (echo.id % 256 ∷ (echo.seq / 256 % 256 ∷ (echo.seq % 256 ∷ payload))))))) in
    let id : be_number bytes 4 2 ≡ echo.id = omega (arith, fit.0) in
    let seq : be_number bytes 6 2 ≡ echo.seq = omega (arith, fit.1) in
    read bytes ∙ ap variant (echo_of-same bytes 4 echo id seq))

-- every message is read back if its payload is not too long
within_back : (message : Icmpv6Type) (checksum : ℕ) (payload : List ℕ) → checksum < 2 ^ 16 → length payload ≤ max_payload_len
    → FieldsFit message
    → DecodesAs (wire (icmpv6_header message checksum) ++ payload) (icmpv6_header (message_reads_back message) checksum) payload
unfolding format_of
within_back (Unknown type code bytes5to8) checksum payload small within fit =
    unknown_back type code bytes5to8 checksum payload small within fit
within_back (DestinationUnreachable code) checksum payload small within fit =
    eight_back (DestinationUnreachable code) (DestinationUnreachable code) checksum 1
    (dest_unreachable_code code) 0 0 0 0 payload small within refl
    (λ x y. dest_unreachable_read code (1 ∷ (dest_unreachable_code code ∷ (x ∷ (y ∷ (0 ∷ (0 ∷ (0 ∷ (0 ∷ payload)))))))))
within_back (PacketTooBig mtu) checksum payload small within fit =
    eight_back (PacketTooBig mtu) (PacketTooBig mtu) checksum 2 0 (mtu / 16777216 % 256) (mtu / 65536 % 256) (mtu / 256 % 256)
    (mtu % 256) payload small within refl
    (λ x y. ap PacketTooBig (omega (arith, fit)))
within_back (TimeExceeded code) checksum payload small within fit =
    eight_back (TimeExceeded code) (TimeExceeded code) checksum 3 (time_exceeded_code code) 0 0 0 0 payload small within refl
    (λ x y. time_exceeded_read code (3 ∷ (time_exceeded_code code ∷ (x ∷ (y ∷ (0 ∷ (0 ∷ (0 ∷ (0 ∷ payload)))))))))
within_back (ParameterProblem header) checksum payload small within fit =
    let pointer = header.pointer in
    eight_back (ParameterProblem header) (ParameterProblem header) checksum 4 (parameter_problem_code header.code)
    (pointer / 16777216 % 256) (pointer / 65536 % 256) (pointer / 256 % 256) (pointer % 256) payload small within refl
    (λ x y.
    let bytes =
    4 ∷ (parameter_problem_code header.code
    ∷ (x ∷ (y ∷ (pointer / 16777216 % 256 ∷ (pointer / 65536 % 256 ∷ (pointer / 256 % 256 ∷ (pointer % 256 ∷ payload))))))) in
    let same : be_number bytes 4 4 ≡ pointer = omega (arith, fit) in
    parameter_problem_read header.code bytes ∙ ap (problem_at header.code) same)
within_back (EchoRequest echo) checksum payload small within fit =
    echo_back 128 EchoRequest echo checksum payload small within fit refl (λ bytes. refl)
within_back (EchoReply echo) checksum payload small within fit =
    echo_back 129 EchoReply echo checksum payload small within fit refl (λ bytes. refl)
within_back RouterSolicitation checksum payload small within fit =
    eight_back RouterSolicitation RouterSolicitation checksum 133 0 0 0 0 0 payload small within refl (λ x y. refl)
within_back (RouterAdvertisement header) checksum payload small within fit =
    let limit = header.cur_hop_limit in
    let flags = router_advertisement_flags header in
    let lifetime = header.router_lifetime in
    eight_back (RouterAdvertisement header) (RouterAdvertisement header) checksum 134 0 limit flags (lifetime / 256 % 256)
    (lifetime % 256) payload small within refl
    (λ x y.
    let bytes = 134 ∷ (0 ∷ (x ∷ (y ∷ (limit ∷ (flags ∷ (lifetime / 256 % 256 ∷ (lifetime % 256 ∷ payload))))))) in
    let same : be_number bytes 6 2 ≡ lifetime = omega (arith, fit) in
    ap RouterAdvertisement (router_advertisement_read header bytes 4 fit refl refl same))
within_back NeighborSolicitation checksum payload small within fit =
    eight_back NeighborSolicitation NeighborSolicitation checksum 135 0 0 0 0 0 payload small within refl (λ x y. refl)
within_back (NeighborAdvertisement header) checksum payload small within fit =
    let flags = neighbor_advertisement_flags header in
    eight_back (NeighborAdvertisement header) (NeighborAdvertisement header) checksum 136 0 flags 0 0 0 payload small within refl
    (λ x y. ap NeighborAdvertisement
    (neighbor_advertisement_read header (136 ∷ (0 ∷ (x ∷ (y ∷ (flags ∷ (0 ∷ (0 ∷ (0 ∷ payload)))))))) 4 refl))
within_back Redirect checksum payload small within fit =
    eight_back Redirect Redirect checksum 137 0 0 0 0 0 payload small within refl (λ x y. refl)

-- ---- every packet

pub fields_len : (message : Icmpv6Type) → FieldsFit message → length (written message).fields ≡ 4
fields_len (Unknown type code bytes5to8) fit = fit
fields_len other fit = refl

-- a packet with a payload that is too long is refused
long_refused : (bytes payload : List ℕ) → length bytes ≡ 8 + length payload → max_payload_len < length payload
    → refusal bytes ≡ Some (wrong_length layers.Icmpv6 max_packet_len (8 + length payload))
long_refused bytes payload len long =
    let above : max_packet_len < length bytes = omega (arith, len, long) in
    let enough : 8 ≤ length bytes = omega (arith, len) in
    grind (arith, nat_tests)

by_length : (message : Icmpv6Type) (checksum : ℕ) (payload : List ℕ) (long : Bool) → nat_lt max_payload_len (length payload) ≡ long
    → checksum < 2 ^ 16 → FieldsFit message
    → IsReadAs (wire (icmpv6_header message checksum) ++ payload)
    (if long then Err (wrong_length layers.Icmpv6 max_packet_len (8 + length payload))
    else Ok (icmpv6_header (message_reads_back message) checksum, payload))
by_length message checksum payload true is_long small fit =
    let bytes = wire (icmpv6_header message checksum) in
    long_refused (bytes ++ payload) payload (length-append bytes payload ∙ omega (arith, fields_len message fit)) (grind (arith, nat_tests))
by_length message checksum payload false is_long small fit =
    within_back message checksum payload small (grind (arith, nat_tests)) fit

pub written_reads_back : (message : Icmpv6Type) (checksum : ℕ) (payload : List ℕ) → checksum < 2 ^ 16 → FieldsFit message
    → IsReadAs (wire (icmpv6_header message checksum) ++ payload) (reads_back message checksum payload)
written_reads_back message checksum payload small fit = by_length message checksum payload _ refl small fit
