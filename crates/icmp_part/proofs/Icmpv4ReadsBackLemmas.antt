-- A written ICMPv4 header is read by `reads_back`, with any payload.
use Rattle.std.proofs.Common.{◌≡◌, ◌≢◌, ◌⊎◌, ℕ, zero, suc, ◌+◌, ◌/◌, ◌%◌, ◌^◌, ◌<◌, ◌≤◌, Bool, true, false, if◌then◌else◌, List, [], ◌∷◌, ◌++◌, length, drop, Some, None, inl, inr, refl, sym, ap, ◌∙◌, subst, append-nil, drop_of_length-le, take, arith}
use Rattle.std.proofs.lemmas.Bool.Decides.{nat_tests}
use Rattle.std.proofs.lemmas.List.{take_all}
use Rattle.std.specs.Prelude.{◌==◌, ◌&&◌, slice_index, slice_range}
use Rattle.std.specs.Int.{to_be_bytes, w16}
use Rattle.std.specs.Option.{unwrap_or}
use Rattle.std.specs.declared.result.Result.TheVariants.{Ok, Err}
use Rattle.net_base.specs.Bytes.{be_number}
use Rattle.net_base.specs.Refusals.{wrong_length}
use Rattle.net_base.specs.declared.err.layer.Layer.{Layer}
use Rattle.net_base.specs.declared.err.layer.Layer.TheVariants as layers
use Rattle.icmp_part.specs.Icmpv4Format.{DecodesAs, HasWholeHeader, dest_unreachable_code, fixed_payload_size, format_at, format_of, formats, icmp_type_of, layout_of, next_hop_mtu, parameter_problem_code, pointer, redirect_code, refusal, timestamp, timestamp_fields, timestamp_of, wire, written}
use Rattle.icmp_part.specs.Icmpv4ReadsBack.{FieldsFit, IsReadAs, TimestampFits, listed_kind, raw_timestamp_reads_back, reads_back, icmpv4_header}
use Rattle.icmp_part.specs.IcmpEcho.{EchoFits}
use Rattle.icmp_part.specs.MessageFormat.{MessageFormat, codes_of, listed}
use Rattle.icmp_part.proofs.MessageFormatLemmas.{◌⊗◌}
use Rattle.icmp_part.proofs.ListedLemmas.{AllReadAlike, codes_alike, listed_alike}
use Rattle.icmp_part.specs.declared.icmp_echo_header.IcmpEchoHeader.{IcmpEchoHeader}
use Rattle.icmp_part.specs.declared.icmpv4.dest_unreachable_header.DestUnreachableHeader.{DestUnreachableHeader}
use Rattle.icmp_part.specs.declared.icmpv4.dest_unreachable_header.DestUnreachableHeader.TheVariants as dest
use Rattle.icmp_part.specs.declared.icmpv4.parameter_problem_header.ParameterProblemHeader.{ParameterProblemHeader}
use Rattle.icmp_part.specs.declared.icmpv4.parameter_problem_header.ParameterProblemHeader.TheVariants as problem
use Rattle.icmp_part.specs.declared.icmpv4.redirect_code.RedirectCode.{RedirectCode}
use Rattle.icmp_part.specs.declared.icmpv4.redirect_code.RedirectCode.TheVariants as redirected
use Rattle.icmp_part.specs.declared.icmpv4.time_exceeded_code.TimeExceededCode.{TimeExceededCode}
use Rattle.icmp_part.specs.declared.icmpv4.time_exceeded_code.TimeExceededCode.TheVariants as exceeded
use Rattle.icmp_part.specs.declared.icmpv4.timestamp_message.TimestampMessage.{TimestampMessage}
use Rattle.icmp_part.specs.declared.icmpv4_header.Icmpv4Header.{Icmpv4Header}
use Rattle.icmp_part.specs.declared.icmpv4_type.Icmpv4Type.{Icmpv4Type}
use Rattle.icmp_part.specs.declared.icmpv4_type.Icmpv4Type.TheVariants.{Unknown, EchoReply, DestinationUnreachable, Redirect, EchoRequest, TimeExceeded, ParameterProblem, TimestampRequest, TimestampReply}
use Rattle.icmp_part.proofs.IcmpEchoLemmas.{echo_of-same}
use Rattle.icmp_part.proofs.TimestampLemmas.{timestamp_read}
use Rattle.icmp_part.proofs.Icmpv4FormatLemmas.{header_len_of_others, header_len_of_timestamps, icmp_type_of_listed}

-- a packet with a whole header is accepted
whole-accepted : (bytes : List ℕ) → HasWholeHeader bytes → refusal bytes ≡ None
whole-accepted bytes whole =
    let shortest : 8 ≤ length bytes = whole.shortest in
    let request : slice_index bytes 0 ≡ 13 → slice_index bytes 1 ≡ 0 → length bytes ≡ 20 = λ type code. whole.timestamp (inl type) code in
    let reply : slice_index bytes 0 ≡ 14 → slice_index bytes 1 ≡ 0 → length bytes ≡ 20 = λ type code. whole.timestamp (inr type) code in
    grind (arith, nat_tests)

-- a packet with a whole header of eight bytes is accepted
eight-accepted : (bytes : List ℕ) → 8 ≤ length bytes → (layout_of bytes).header_len ≡ 8 → refusal bytes ≡ None
eight-accepted bytes enough eight = whole-accepted bytes (record {
  shortest = enough;
  timestamp = λ type code. let twenty = header_len_of_timestamps bytes type code in absurd (omega (arith, eight, twenty));
})

request_refused : (bytes : List ℕ) → 8 ≤ length bytes → slice_index bytes 0 ≡ 13 → slice_index bytes 1 ≡ 0 → length bytes ≢ 20
    → refusal bytes ≡ Some (wrong_length layers.Icmpv4Timestamp 20 (length bytes))
request_refused bytes enough type code other = grind (arith, nat_tests)

reply_refused : (bytes : List ℕ) → 8 ≤ length bytes → slice_index bytes 0 ≡ 14 → slice_index bytes 1 ≡ 0 → length bytes ≢ 20
    → refusal bytes ≡ Some (wrong_length layers.Icmpv4TimestampReply 20 (length bytes))
reply_refused bytes enough type code other = grind (arith, nat_tests)

header_same : (message : Icmpv4Type) (checksum : ℕ) (other : Icmpv4Type) (other_checksum : ℕ) → message ≡ other → checksum ≡ other_checksum
    → icmpv4_header message checksum ≡ icmpv4_header other other_checksum
header_same message checksum other other_checksum e f = ap (λ m. icmpv4_header m checksum) e ∙ ap (icmpv4_header other) f

-- ---- headers of eight bytes

eight_back : (message : Icmpv4Type) (checksum type code a b c d : ℕ) (payload : List ℕ) → checksum < 2 ^ 16
    → written message ≡ record { type = type; code = code; fields = a ∷ (b ∷ (c ∷ (d ∷ []))) }
    → (format_at type code).layout.header_len ≡ 8
    → ((x y : ℕ) → (format_at type code).message_of (type ∷ (code ∷ (x ∷ (y ∷ (a ∷ (b ∷ (c ∷ (d ∷ payload)))))))) ≡ message)
    → DecodesAs (wire (record { icmp_type = message; checksum = checksum }) ++ payload)
    (record { icmp_type = message; checksum = checksum }) payload
unfolding format_of
eight_back message checksum type code a b c d payload small is_written eight read =
    let bytes = type ∷ (code ∷ (checksum / 256 % 256 ∷ (checksum % 256 ∷ (a ∷ (b ∷ (c ∷ (d ∷ payload))))))) in
    let sum : checksum ≡ be_number bytes 2 2 = omega arith in
    let kind : message ≡ icmp_type_of bytes = sym (read (checksum / 256 % 256) (checksum % 256)) in
    let decodes : DecodesAs bytes (record { icmp_type = message; checksum = checksum }) payload = record {
      accepted = eight-accepted bytes (omega arith) eight;
      fields = header_same message checksum (icmp_type_of bytes) (be_number bytes 2 2) kind sum;
      after_header = ap (λ n. drop n bytes) (sym eight);
    } in
    let P : List ℕ → Type 0 = λ b. DecodesAs b (record { icmp_type = message; checksum = checksum }) payload in
    subst P (ap (λ w. w.type ∷ (w.code ∷ (checksum / 256 % 256 ∷ (checksum % 256 ∷ (w.fields ++ payload))))) (sym is_written)) decodes

echo_back : (type : ℕ) (variant : IcmpEchoHeader → Icmpv4Type) (echo : IcmpEchoHeader) (checksum : ℕ) (payload : List ℕ) → checksum < 2 ^ 16
    → EchoFits echo
    → written (variant echo) ≡ record { type = type; code = 0; fields = to_be_bytes w16 echo.id ++ to_be_bytes w16 echo.seq }
    → (format_at type 0).layout.header_len ≡ 8
    → ((bytes : List ℕ) → (format_at type 0).message_of bytes ≡ variant (record { id = be_number bytes 4 2; seq = be_number bytes 6 2 }))
    → DecodesAs (wire (record { icmp_type = variant echo; checksum = checksum }) ++ payload)
    (record { icmp_type = variant echo; checksum = checksum }) payload
echo_back type variant echo checksum payload small fit is_written eight read =
    eight_back (variant echo) checksum type 0 (echo.id / 256 % 256) (echo.id % 256) (echo.seq / 256 % 256)
    (echo.seq % 256) payload small is_written eight
    (λ x y.
    let bytes = type ∷ (0 ∷ (x ∷ (y ∷ (echo.id / 256 % 256 ∷ (echo.id % 256 ∷ (echo.seq / 256 % 256 ∷ (echo.seq % 256 ∷ payload))))))) in
    let id : be_number bytes 4 2 ≡ echo.id = omega (arith, fit.0) in
    let seq : be_number bytes 6 2 ≡ echo.seq = omega (arith, fit.1) in
    read bytes ∙ ap variant (echo_of-same bytes 4 echo id seq))

dest_unreachable_read : (header : DestUnreachableHeader) (bytes : List ℕ) → be_number bytes 6 2 ≡ next_hop_mtu header
    → (format_at 3 (dest_unreachable_code header)).message_of bytes ≡ DestinationUnreachable header
dest_unreachable_read (dest.FragmentationNeeded mtu) bytes is_mtu = ap (λ m. DestinationUnreachable (dest.FragmentationNeeded m)) is_mtu
dest_unreachable_read other bytes is_mtu = refl

dest_unreachable_len : (header : DestUnreachableHeader) → (format_at 3 (dest_unreachable_code header)).layout.header_len ≡ 8
dest_unreachable_len dest.Network = refl
dest_unreachable_len other = refl

parameter_problem_read : (header : ParameterProblemHeader) (bytes : List ℕ) → slice_index bytes 4 ≡ pointer header
    → (format_at 12 (parameter_problem_code header)).message_of bytes ≡ ParameterProblem header
parameter_problem_read (problem.PointerIndicatesError at) bytes is_pointer =
    ap (λ p. ParameterProblem (problem.PointerIndicatesError p)) is_pointer
parameter_problem_read other bytes is_pointer = refl

parameter_problem_len : (header : ParameterProblemHeader) → (format_at 12 (parameter_problem_code header)).layout.header_len ≡ 8
parameter_problem_len problem.BadLength = refl
parameter_problem_len other = refl

redirect_read : (code : RedirectCode) (bytes : List ℕ)
    → (format_at 5 (redirect_code code)).message_of bytes
    ≡ Redirect (record { code = code; gateway_internet_address = slice_range bytes 4 8 })
redirect_read redirected.RedirectForNetwork bytes = refl
redirect_read other bytes = refl

redirect_len : (code : RedirectCode) → (format_at 5 (redirect_code code)).layout.header_len ≡ 8
redirect_len redirected.RedirectForNetwork = refl
redirect_len other = refl

redirect_back : (code : RedirectCode) (address : List ℕ) (checksum : ℕ) (payload : List ℕ) → checksum < 2 ^ 16 → length address ≡ 4
    → IsReadAs (wire (record { icmp_type = Redirect (record { code = code; gateway_internet_address = address }); checksum = checksum })
    ++ payload)
    (reads_back (Redirect (record { code = code; gateway_internet_address = address })) checksum payload)
redirect_back code (a ∷ (b ∷ (c ∷ (d ∷ [])))) checksum payload small four =
    eight_back (Redirect (record { code = code; gateway_internet_address = a ∷ (b ∷ (c ∷ (d ∷ []))) })) checksum 5
    (redirect_code code) a b c d payload small refl (redirect_len code)
    (λ x y. redirect_read code (5 ∷ (redirect_code code ∷ (x ∷ (y ∷ (a ∷ (b ∷ (c ∷ (d ∷ payload)))))))))
redirect_back code [] checksum payload small four = absurd (omega arith)
redirect_back code (a ∷ []) checksum payload small four = absurd (omega arith)
redirect_back code (a ∷ (b ∷ [])) checksum payload small four = absurd (omega arith)
redirect_back code (a ∷ (b ∷ (c ∷ []))) checksum payload small four = absurd (omega arith)
redirect_back code (a ∷ (b ∷ (c ∷ (d ∷ (e ∷ more))))) checksum payload small four = absurd (omega arith)

time_exceeded_back : (code : TimeExceededCode) (checksum : ℕ) (payload : List ℕ) → checksum < 2 ^ 16
    → IsReadAs (wire (record { icmp_type = TimeExceeded code; checksum = checksum }) ++ payload)
    (reads_back (TimeExceeded code) checksum payload)
time_exceeded_back exceeded.TtlExceededInTransit checksum payload small =
    eight_back (TimeExceeded exceeded.TtlExceededInTransit) checksum 11 0 0 0 0 0 payload small refl refl (λ x y. refl)
time_exceeded_back exceeded.FragmentReassemblyTimeExceeded checksum payload small =
    eight_back (TimeExceeded exceeded.FragmentReassemblyTimeExceeded) checksum 11 1 0 0 0 0 payload small refl refl (λ x y. refl)

-- ---- every message except timestamps

-- four bytes come after the checksum
pub four_fields : (message : Icmpv4Type) → FieldsFit message → fixed_payload_size message ≡ None
    → take 4 (written message).fields ≡ (written message).fields
four_fields (Unknown type code bytes5to8) fit none = take_all 4 bytes5to8 (omega (arith, fit))
four_fields (Redirect header) fit none = take_all 4 header.gateway_internet_address (omega (arith, fit))
four_fields (TimestampRequest message) fit none = cc
four_fields (TimestampReply message) fit none = cc
four_fields other fit none = refl

-- ---- timestamp messages

timestamp_back : (type : ℕ) (variant : TimestampMessage → Icmpv4Type) (message : TimestampMessage) (checksum : ℕ) → checksum < 2 ^ 16
    → TimestampFits message
    → written (variant message) ≡ record { type = type; code = 0; fields = timestamp_fields message }
    → (format_at type 0).layout.header_len ≡ 20
    → ((bytes : List ℕ) → (format_at type 0).message_of bytes ≡ variant (timestamp_of bytes 4))
    → DecodesAs (wire (record { icmp_type = variant message; checksum = checksum }))
    (record { icmp_type = variant message; checksum = checksum }) []
unfolding format_of
timestamp_back type variant message checksum small fit is_written twenty read =
    let bytes = type ∷ (0 ∷ (checksum / 256 % 256 ∷ (checksum % 256 ∷ timestamp_fields message))) in
    let sum : checksum ≡ be_number bytes 2 2 = omega arith in
    let kind : variant message ≡ icmp_type_of bytes =
    sym (read bytes ∙ ap variant (timestamp_read type 0 (checksum / 256 % 256) (checksum % 256) message [] fit)) in
    let decodes : DecodesAs bytes (record { icmp_type = variant message; checksum = checksum }) [] = record {
      accepted = whole-accepted bytes (record { shortest = omega arith; timestamp = λ is_type is_code. refl });
      fields = header_same (variant message) checksum (icmp_type_of bytes) (be_number bytes 2 2) kind sum;
      after_header = sym (drop_of_length-le bytes {i = (layout_of bytes).header_len} (omega (arith, twenty)));
    } in
    let P : List ℕ → Type 0 = λ b. DecodesAs b (record { icmp_type = variant message; checksum = checksum }) [] in
    subst P (ap (λ w. w.type ∷ (w.code ∷ (checksum / 256 % 256 ∷ (checksum % 256 ∷ w.fields)))) (sym is_written)) decodes

-- a timestamp message with a payload is refused
whole_or_refused : (bytes payload : List ℕ) (layer : Layer) (header : Icmpv4Header) (none : Bool) → (length payload == 0) ≡ none
    → DecodesAs bytes header []
    → (length payload ≢ 0 → refusal (bytes ++ payload) ≡ Some (wrong_length layer 20 (20 + length payload)))
    → IsReadAs (bytes ++ payload) (if none then Ok (header, []) else Err (wrong_length layer 20 (20 + length payload)))
whole_or_refused bytes [] layer header true is_none read refused =
    let P : List ℕ → Type 0 = λ b. DecodesAs b header [] in
    subst P (sym (append-nil bytes)) read
whole_or_refused bytes (byte ∷ payload) layer header true is_none read refused = absurd (grind (arith, nat_tests))
whole_or_refused bytes payload layer header false is_none read refused = refused (grind (arith, nat_tests))

-- ---- raw headers

-- a code other than 0 is not listed if only code 0 is listed
alone_alike : (format : MessageFormat Icmpv4Type) (code : ℕ) (bytes other : List ℕ) → code ≢ 0
    → listed (format ∷ []) code bytes ≡ listed (format ∷ []) code other
alone_alike format zero bytes other later = absurd (later refl)
alone_alike format (suc code) bytes other later = refl

-- headers of eight bytes are read only from type, code and the bytes after the checksum
raw_listed : (type code x y a b c d : ℕ) (payload : List ℕ) → ((type ≡ 13) ⊎ (type ≡ 14) → code ≢ 0)
    → listed (codes_of formats type) code (type ∷ (code ∷ (x ∷ (y ∷ (a ∷ (b ∷ (c ∷ (d ∷ payload))))))))
    ≡ listed_kind type code (a ∷ (b ∷ (c ∷ (d ∷ []))))
unfolding AllReadAlike
raw_listed type code x y a b c d payload other =
    let bytes = type ∷ (code ∷ (x ∷ (y ∷ (a ∷ (b ∷ (c ∷ (d ∷ payload))))))) in
    let header = type ∷ (code ∷ (0 ∷ (0 ∷ (a ∷ (b ∷ (c ∷ (d ∷ []))))))) in
    codes_alike formats type code bytes header (
    (λ is_type. listed_alike (codes_of formats 0) code bytes header refl)
    ⊗ (λ is_type. listed_alike (codes_of formats 3) code bytes header refl)
    ⊗ (λ is_type. listed_alike (codes_of formats 5) code bytes header refl)
    ⊗ (λ is_type. listed_alike (codes_of formats 8) code bytes header refl)
    ⊗ (λ is_type. listed_alike (codes_of formats 11) code bytes header refl)
    ⊗ (λ is_type. listed_alike (codes_of formats 12) code bytes header refl)
    ⊗ (λ is_type. alone_alike (timestamp TimestampRequest) code bytes header (other (inl is_type)))
    ⊗ (λ is_type. alone_alike (timestamp TimestampReply) code bytes header (other (inr is_type)))
    ⊗ tt)

raw_back : (type code checksum a b c d : ℕ) (payload : List ℕ) → checksum < 2 ^ 16 → ((type ≡ 13) ⊎ (type ≡ 14) → code ≢ 0)
    → DecodesAs (wire (icmpv4_header (Unknown type code (a ∷ (b ∷ (c ∷ (d ∷ []))))) checksum) ++ payload)
    (icmpv4_header (unwrap_or (listed_kind type code (a ∷ (b ∷ (c ∷ (d ∷ []))))) (Unknown type code (a ∷ (b ∷ (c ∷ (d ∷ [])))))) checksum)
    payload
raw_back type code checksum a b c d payload small other =
    let bytes = type ∷ (code ∷ (checksum / 256 % 256 ∷ (checksum % 256 ∷ (a ∷ (b ∷ (c ∷ (d ∷ payload))))))) in
    let fields = a ∷ (b ∷ (c ∷ (d ∷ []))) in
    let kind = unwrap_or (listed_kind type code fields) (Unknown type code fields) in
    let eight : (layout_of bytes).header_len ≡ 8 = header_len_of_others bytes other in
    let sum : checksum ≡ be_number bytes 2 2 = omega arith in
    let is_kind : icmp_type_of bytes ≡ kind =
    icmp_type_of_listed bytes
    ∙ ap (λ found. unwrap_or found (Unknown type code fields))
    (raw_listed type code (checksum / 256 % 256) (checksum % 256) a b c d payload other) in
    record {
      accepted = eight-accepted bytes (omega arith) eight;
      fields = header_same kind checksum (icmp_type_of bytes) (be_number bytes 2 2) (sym is_kind) sum;
      after_header = ap (λ n. drop n bytes) (sym eight);
    }

-- a raw header with the type and code of a timestamp message is read back as that message
raw_timestamp_back : (type code checksum a b c d : ℕ) (payload : List ℕ) (variant : TimestampMessage → Icmpv4Type) (layer : Layer)
    (whole : Bool)
    → (length payload == 12) ≡ whole → checksum < 2 ^ 16 → (type ≡ 13) ⊎ (type ≡ 14) → code ≡ 0
    → ((bytes : List ℕ) → (format_at type code).message_of bytes ≡ variant (timestamp_of bytes 4))
    → ((bytes : List ℕ) → 8 ≤ length bytes → slice_index bytes 0 ≡ type → slice_index bytes 1 ≡ 0 → length bytes ≢ 20
    → refusal bytes ≡ Some (wrong_length layer 20 (length bytes)))
    → IsReadAs (wire (icmpv4_header (Unknown type code (a ∷ (b ∷ (c ∷ (d ∷ []))))) checksum) ++ payload)
    (if whole then Ok (icmpv4_header (variant (timestamp_of (a ∷ (b ∷ (c ∷ (d ∷ payload)))) 0)) checksum, [])
    else Err (wrong_length layer 20 (8 + length payload)))
unfolding format_of
raw_timestamp_back type code checksum a b c d payload variant layer true is_whole small is_type is_code read refused =
    let bytes = type ∷ (code ∷ (checksum / 256 % 256 ∷ (checksum % 256 ∷ (a ∷ (b ∷ (c ∷ (d ∷ payload))))))) in
    let twelve : length payload ≡ 12 = grind (arith, nat_tests) in
    let twenty : (layout_of bytes).header_len ≡ 20 = header_len_of_timestamps bytes is_type is_code in
    let sum : checksum ≡ be_number bytes 2 2 = omega arith in
    let message = variant (timestamp_of (a ∷ (b ∷ (c ∷ (d ∷ payload)))) 0) in
    record {
      accepted = whole-accepted bytes (record { shortest = omega arith; timestamp = λ _ _. omega arith });
      fields = header_same message checksum (icmp_type_of bytes) (be_number bytes 2 2) (sym (read bytes)) sum;
      after_header = sym (drop_of_length-le bytes {i = (layout_of bytes).header_len} (omega arith));
    }
raw_timestamp_back type code checksum a b c d payload variant layer false is_whole small is_type is_code read refused =
    let bytes = type ∷ (code ∷ (checksum / 256 % 256 ∷ (checksum % 256 ∷ (a ∷ (b ∷ (c ∷ (d ∷ payload))))))) in
    let other : length payload ≢ 12 = grind (arith, nat_tests) in
    refused bytes (omega arith) refl is_code (λ e. other (omega arith))
    ∙ ap (λ n. Some (wrong_length layer 20 n)) (omega arith)

message_at : (type code at : ℕ) (variant : TimestampMessage → Icmpv4Type) → type ≡ at → code ≡ 0
    → ((bytes : List ℕ) → (format_at at 0).message_of bytes ≡ variant (timestamp_of bytes 4))
    → (bytes : List ℕ) → (format_at type code).message_of bytes ≡ variant (timestamp_of bytes 4)
message_at type code at variant is_type is_code read bytes =
    ap (λ t. (format_at t code).message_of bytes) is_type ∙ ap (λ c. (format_at at c).message_of bytes) is_code ∙ read bytes

neither : (type code : ℕ) → (type ≡ 13 → code ≢ 0) → (type ≡ 14 → code ≢ 0) → (type ≡ 13) ⊎ (type ≡ 14) → code ≢ 0
neither type code request reply (inl is_type) = request is_type
neither type code request reply (inr is_type) = reply is_type

-- each raw header is read back
raw_reads_back : (type code checksum a b c d : ℕ) (payload : List ℕ) (is_request is_reply : Bool) → checksum < 2 ^ 16
    → ((type == 13) && (code == 0)) ≡ is_request → ((type == 14) && (code == 0)) ≡ is_reply
    → IsReadAs (wire (icmpv4_header (Unknown type code (a ∷ (b ∷ (c ∷ (d ∷ []))))) checksum) ++ payload)
    (if is_request then raw_timestamp_reads_back TimestampRequest layers.Icmpv4Timestamp (a ∷ (b ∷ (c ∷ (d ∷ [])))) checksum payload
    else if is_reply then raw_timestamp_reads_back TimestampReply layers.Icmpv4TimestampReply (a ∷ (b ∷ (c ∷ (d ∷ [])))) checksum payload
    else Ok (
      icmpv4_header (unwrap_or (listed_kind type code (a ∷ (b ∷ (c ∷ (d ∷ []))))) (Unknown type code (a ∷ (b ∷ (c ∷ (d ∷ []))))))
          checksum,
      payload,
    ))
raw_reads_back type code checksum a b c d payload true is_reply small request reply =
    let is_type : type ≡ 13 = grind (arith, nat_tests) in
    let is_code : code ≡ 0 = grind (arith, nat_tests) in
    raw_timestamp_back type code checksum a b c d payload TimestampRequest layers.Icmpv4Timestamp _ refl small (inl is_type) is_code
    (message_at type code 13 TimestampRequest is_type is_code (λ bytes. refl))
    (λ bytes enough first second other. request_refused bytes enough (first ∙ is_type) second other)
raw_reads_back type code checksum a b c d payload false true small request reply =
    let is_type : type ≡ 14 = grind (arith, nat_tests) in
    let is_code : code ≡ 0 = grind (arith, nat_tests) in
    raw_timestamp_back type code checksum a b c d payload TimestampReply layers.Icmpv4TimestampReply _ refl small (inr is_type) is_code
    (message_at type code 14 TimestampReply is_type is_code (λ bytes. refl))
    (λ bytes enough first second other. reply_refused bytes enough (first ∙ is_type) second other)
raw_reads_back type code checksum a b c d payload false false small request reply =
    let not_request : type ≡ 13 → code ≢ 0 = λ is_type is_code. grind (arith, nat_tests) in
    let not_reply : type ≡ 14 → code ≢ 0 = λ is_type is_code. grind (arith, nat_tests) in
    raw_back type code checksum a b c d payload small (λ either. neither type code not_request not_reply either)

unknown_back : (type code : ℕ) (fields : List ℕ) (checksum : ℕ) (payload : List ℕ) → checksum < 2 ^ 16 → length fields ≡ 4
    → IsReadAs (wire (icmpv4_header (Unknown type code fields) checksum) ++ payload)
    (reads_back (Unknown type code fields) checksum payload)
unknown_back type code (a ∷ (b ∷ (c ∷ (d ∷ [])))) checksum payload small four =
    raw_reads_back type code checksum a b c d payload _ _ small refl refl
unknown_back type code [] checksum payload small four = absurd (omega arith)
unknown_back type code (a ∷ []) checksum payload small four = absurd (omega arith)
unknown_back type code (a ∷ (b ∷ [])) checksum payload small four = absurd (omega arith)
unknown_back type code (a ∷ (b ∷ (c ∷ []))) checksum payload small four = absurd (omega arith)
unknown_back type code (a ∷ (b ∷ (c ∷ (d ∷ (e ∷ more))))) checksum payload small four = absurd (omega arith)

-- ---- every header

pub written_reads_back : (message : Icmpv4Type) (checksum : ℕ) (payload : List ℕ) → checksum < 2 ^ 16 → FieldsFit message
    → IsReadAs (wire (icmpv4_header message checksum) ++ payload) (reads_back message checksum payload)
written_reads_back (Unknown type code fields) checksum payload small fit = unknown_back type code fields checksum payload small fit
written_reads_back (EchoReply echo) checksum payload small fit =
    echo_back 0 EchoReply echo checksum payload small fit refl refl (λ bytes. refl)
written_reads_back (DestinationUnreachable header) checksum payload small fit =
    eight_back (DestinationUnreachable header) checksum 3 (dest_unreachable_code header) 0 0 (next_hop_mtu header / 256 % 256)
    (next_hop_mtu header % 256) payload small refl (dest_unreachable_len header)
    (λ x y. dest_unreachable_read header _ (omega (arith, fit)))
written_reads_back (Redirect header) checksum payload small fit =
    redirect_back header.code header.gateway_internet_address checksum payload small fit
written_reads_back (EchoRequest echo) checksum payload small fit =
    echo_back 8 EchoRequest echo checksum payload small fit refl refl (λ bytes. refl)
written_reads_back (TimeExceeded code) checksum payload small fit = time_exceeded_back code checksum payload small
written_reads_back (ParameterProblem header) checksum payload small fit =
    eight_back (ParameterProblem header) checksum 12 (parameter_problem_code header) (pointer header) 0 0 0 payload small refl
    (parameter_problem_len header)
    (λ x y. parameter_problem_read header _ refl)
written_reads_back (TimestampRequest message) checksum payload small fit =
    whole_or_refused (wire (icmpv4_header (TimestampRequest message) checksum)) payload layers.Icmpv4Timestamp _ (length payload == 0) refl
    (timestamp_back 13 TimestampRequest message checksum small fit refl refl (λ bytes. refl))
    (λ some. request_refused (wire (icmpv4_header (TimestampRequest message) checksum) ++ payload) (omega arith) refl refl
    (λ e. some (omega arith)) ∙ ap (λ n. Some (wrong_length layers.Icmpv4Timestamp 20 n)) (omega arith))
written_reads_back (TimestampReply message) checksum payload small fit =
    whole_or_refused (wire (icmpv4_header (TimestampReply message) checksum)) payload layers.Icmpv4TimestampReply _
    (length payload == 0) refl
    (timestamp_back 14 TimestampReply message checksum small fit refl refl (λ bytes. refl))
    (λ some. reply_refused (wire (icmpv4_header (TimestampReply message) checksum) ++ payload) (omega arith) refl refl
    (λ e. some (omega arith)) ∙ ap (λ n. Some (wrong_length layers.Icmpv4TimestampReply 20 n)) (omega arith))
