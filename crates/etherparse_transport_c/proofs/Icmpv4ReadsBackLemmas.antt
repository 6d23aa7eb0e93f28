-- A written ICMPv4 header is read as `ReadsBack` states, and as the same header.
use Rattle.std.proofs.Common.{◌≡◌, ◌≢◌, ℕ, zero, suc, ◌-◌, ◌^◌, ◌<◌, ◌≤◌, Bool, true, false, List, [], ◌++◌, length, take, drop, length-drop, Option, None, Some, refl, sym, ap, ◌∙◌, subst, arith}
use Rattle.std.proofs.lemmas.Bool.Decides.{nat_tests}
use Rattle.std.proofs.lemmas.List.{drop_at, take-append-le, take_all}
use Rattle.std.specs.Option.{option_map, unwrap_or}
use Rattle.std.specs.Prelude.{Result, Ok, Err, ◌==◌, if◌then◌else◌, slice_get, slice_range}
use Rattle.net_base.specs.declared.err.layer.Layer.TheVariants as layers
use Rattle.net_base.specs.declared.err.len_error.LenError.{LenError}
use Rattle.icmp_part.specs.Icmpv4Format.{dest_unreachable_code, dest_unreachable_formats, layout_of, next_hop_mtu, parameter_problem_code, parameter_problem_formats, pointer, redirect_code, redirect_codes, time_exceeded_code, time_exceeded_codes, timestamp_of, wire, written}
use Rattle.icmp_part.specs.Icmpv4ReadsBack as part
use Rattle.icmp_part.specs.Icmpv4ReadsBack.{FieldsFit, icmpv4_header, listed_kind, raw_timestamp_reads_back, reads_back}
use Rattle.icmp_part.specs.MessageFormat.{listed}
use Rattle.icmp_part.specs.declared.icmpv4.dest_unreachable_header.DestUnreachableHeader.{DestUnreachableHeader}
use Rattle.icmp_part.specs.declared.icmpv4.dest_unreachable_header.DestUnreachableHeader.TheVariants as dest
use Rattle.icmp_part.specs.declared.icmpv4.parameter_problem_header.ParameterProblemHeader.{ParameterProblemHeader}
use Rattle.icmp_part.specs.declared.icmpv4.parameter_problem_header.ParameterProblemHeader.TheVariants as problem
use Rattle.icmp_part.specs.declared.icmpv4.redirect_code.RedirectCode.{RedirectCode}
use Rattle.icmp_part.specs.declared.icmpv4.redirect_code.RedirectCode.TheVariants as redirected
use Rattle.icmp_part.specs.declared.icmpv4.time_exceeded_code.TimeExceededCode.{TimeExceededCode}
use Rattle.icmp_part.specs.declared.icmpv4.time_exceeded_code.TimeExceededCode.TheVariants as exceeded
use Rattle.icmp_part.specs.declared.icmpv4_header.Icmpv4Header.{Icmpv4Header}
use Rattle.icmp_part.specs.declared.icmpv4_type.Icmpv4Type.{Icmpv4Type}
use Rattle.icmp_part.specs.declared.icmpv4_type.Icmpv4Type.TheVariants.{Unknown, DestinationUnreachable, Redirect, TimeExceeded, ParameterProblem, TimestampRequest, TimestampReply}
use Rattle.icmp_part.proofs.Icmpv4FormatLemmas.{accepted-whole, header_len_whole}
use Rattle.etherparse_transport_c.proofs.IcmpLemmas.{front_read, written_front}
use Rattle.etherparse_transport_c.specs.Errors.{at_front, no_room, of_len, unless_refused}
use Rattle.etherparse_transport_c.specs.Icmpv4.{IsReadAs, IsSameHeader, ReadsBack, header_read, message_fields, message_in, packet_of, refusal, write_refusal, with_next_hop_mtu, with_pointer}
use Rattle.etherparse_transport_c.specs.Numbers as numbers
use Rattle.etherparse_transport_c.specs.declared.icmpv4.EtherparseIcmpv4Header.{EtherparseIcmpv4Header}

-- the call in C reads a packet as the library in Rattle does
pub is_read_as : (message : Icmpv4Type) (checksum : ℕ) (payload : List ℕ) (found : Result (Icmpv4Header × List ℕ) LenError)
    → 4 ≤ length (written message).fields → part.IsReadAs (wire (icmpv4_header message checksum) ++ payload) found
    → IsReadAs message (wire (icmpv4_header message checksum) ++ payload) found
is_read_as message checksum payload (Err error) enough read = ap (option_map of_len) read
is_read_as message checksum payload (Ok found) enough read =
    let packet = wire (icmpv4_header message checksum) ++ payload in
    let whole = header_len_whole packet (accepted-whole packet read.accepted) in
    let header_len = (layout_of packet).header_len in
    let after : length found.1 ≡ length packet - header_len = ap length read.after_header ∙ length-drop header_len packet in
    let before : length packet - length found.1 ≡ header_len = omega (arith, after, whole) in
    let four : slice_range packet 4 8 ≡ take 4 (written message).fields = take-append-le 4 (written message).fields payload enough in
    (ap (option_map of_len) read.accepted, rw (before, after, read.fields, four) refl)

-- the fields of every message have at least four bytes
pub fields_enough : (message : Icmpv4Type) → FieldsFit message → 4 ≤ length (written message).fields
fields_enough (Unknown type code fields) fit = omega (arith, fit)
fields_enough (Redirect header) fit = omega (arith, fit)
fields_enough other fit = omega arith

-- ---- the kind

from_some : {A : Type 0} (one other : A) → Some one ≡ Some other → one ≡ other
from_some one other same = cc

-- the fields of a kind give a message of this kind
made : (message other : Icmpv4Type) (kind : ℕ) → (message_fields message).kind ≡ kind → Some message ≡ Some other
    → (message_fields other).kind ≡ kind
made message other kind is same = subst (λ m. (message_fields m).kind ≡ kind) (from_some message other same) is

made_of : {Part : Type 0} (variant : Part → Icmpv4Type) (part : Option Part) (other : Icmpv4Type) (kind : ℕ)
    → ((p : Part) → (message_fields (variant p)).kind ≡ kind) → option_map variant part ≡ Some other → (message_fields other).kind ≡ kind
made_of variant None other kind is same = cc
made_of variant (Some p) other kind is same = made (variant p) other kind (is p) same

-- no message has a kind above the known kinds
kind_beyond : (fields : EtherparseIcmpv4Header) → 9 ≤ fields.kind → message_in fields ≡ None
kind_beyond fields beyond = grind (arith, nat_tests)

kind_at : (fields : EtherparseIcmpv4Header) (message : Icmpv4Type) (kind : ℕ) → message_in (record fields { kind = kind }) ≡ Some message
    → (message_fields message).kind ≡ kind
kind_at fields message zero same = made _ message 0 refl same
kind_at fields message (suc zero) same = made _ message 1 refl same
kind_at fields message (suc (suc zero)) same = made_of DestinationUnreachable _ message 2 (λ header. refl) same
kind_at fields message (suc (suc (suc zero))) same = made_of _ _ message 3 (λ code. refl) same
kind_at fields message (suc (suc (suc (suc zero)))) same = made _ message 4 refl same
kind_at fields message (suc (suc (suc (suc (suc zero))))) same = made_of TimeExceeded _ message 5 (λ code. refl) same
kind_at fields message (suc (suc (suc (suc (suc (suc zero)))))) same = made_of ParameterProblem _ message 6 (λ header. refl) same
kind_at fields message (suc (suc (suc (suc (suc (suc (suc zero))))))) same = made _ message 7 refl same
kind_at fields message (suc (suc (suc (suc (suc (suc (suc (suc zero)))))))) same = made _ message 8 refl same
kind_at fields message (suc (suc (suc (suc (suc (suc (suc (suc (suc more))))))))) same =
    let none = kind_beyond (record fields { kind = suc (suc (suc (suc (suc (suc (suc (suc (suc more)))))))) }) (omega arith) in cc

-- ---- the message

dest_listed : (header : DestUnreachableHeader) → next_hop_mtu header < 2 ^ 16
    → listed dest_unreachable_formats (dest_unreachable_code header) (with_next_hop_mtu (next_hop_mtu header)) ≡ Some header
dest_listed (dest.FragmentationNeeded mtu) fit = ap (λ n. Some (dest.FragmentationNeeded n)) (omega (arith, fit))
dest_listed other fit = refl

redirect_listed : (code : RedirectCode) → slice_get redirect_codes (redirect_code code) ≡ Some code
redirect_listed redirected.RedirectForNetwork = refl
redirect_listed other = refl

time_listed : (code : TimeExceededCode) → slice_get time_exceeded_codes (time_exceeded_code code) ≡ Some code
time_listed exceeded.TtlExceededInTransit = refl
time_listed other = refl

problem_listed : (header : ParameterProblemHeader)
    → listed parameter_problem_formats (parameter_problem_code header) (with_pointer (pointer header)) ≡ Some header
problem_listed (problem.PointerIndicatesError at) = refl
problem_listed other = refl

-- if a message is not `Unknown`, its header is read as this message again
said_again : (message : Icmpv4Type) (checksum : ℕ) → FieldsFit message → (message_fields message).kind ≢ numbers.icmpv4_kind_unknown
    → message_in (header_read message (icmpv4_header message checksum)) ≡ Some message
said_again (Unknown type code fields) checksum fit some = absurd (some refl)
said_again (DestinationUnreachable header) checksum fit some = ap (option_map DestinationUnreachable) (dest_listed header fit)
said_again (Redirect header) checksum fit some =
    let four : take 4 header.gateway_internet_address ≡ header.gateway_internet_address =
    take_all 4 header.gateway_internet_address (omega (arith, fit)) in
    rw (four, redirect_listed header.code) refl
said_again (TimeExceeded code) checksum fit some = ap (option_map TimeExceeded) (time_listed code)
said_again (ParameterProblem header) checksum fit some = ap (option_map ParameterProblem) (problem_listed header)
said_again other checksum fit some = refl

-- ---- the header

-- the found header contains this checksum; it also contains this message, unless the message is `Unknown`
abbrev Finds : Icmpv4Type → ℕ → Icmpv4Header → Type 0
Finds message checksum found =
    (found.checksum ≡ checksum) × ((message_fields message).kind ≢ numbers.icmpv4_kind_unknown → found ≡ icmpv4_header message checksum)

same_header : (fields : EtherparseIcmpv4Header) (message : Icmpv4Type) (found : Icmpv4Header) → message_in fields ≡ Some message
    → FieldsFit message
    → length fields.bytes4to7 ≡ 4 → Finds message fields.checksum found → IsSameHeader fields (header_read message found)
same_header fields message found is fit four finds =
    let kind : (message_fields message).kind ≡ fields.kind = kind_at fields message fields.kind is in
    record {
      checksum = finds.0;
      kind = λ some. ap (λ h. (message_fields h.icmp_type).kind) (finds.1 (λ none. some (sym kind ∙ none))) ∙ kind;
      message = λ some.
          let listed : (message_fields message).kind ≢ numbers.icmpv4_kind_unknown = λ none. some (sym kind ∙ none) in
          ap (λ h. message_in (header_read message h)) (finds.1 listed) ∙ said_again message fields.checksum fit listed ∙ sym is;
      raw = λ none.
          let raw : Unknown fields.type_u8 fields.code_u8 fields.bytes4to7 ≡ message =
          from_some _ message (ap (λ k. message_in (record fields { kind = k })) (sym none) ∙ is) in
          subst (λ m. ((written m).type ≡ fields.type_u8) × ((written m).code ≡ fields.code_u8)
          × (take 4 (written m).fields ≡ fields.bytes4to7)) raw
          (refl, refl, take_all 4 fields.bytes4to7 (omega (arith, four)));
    }

-- the library in Rattle finds a header in the packet, as `Finds` states, and the call in C reads the same header
abbrev IsFound : Icmpv4Type → ℕ → List ℕ → Type 0
IsFound message checksum packet =
    (found : Icmpv4Header) × Finds message checksum found × ((packet_of packet).header ≡ header_read message found)

found_if : (message : Icmpv4Type) (checksum : ℕ) (packet payload : List ℕ) (whole : Bool) (found : Icmpv4Header) (error : LenError)
    → Finds message checksum found
    → IsReadAs message packet (if whole then Ok (found, payload) else Err error) → refusal packet ≡ None → IsFound message checksum packet
found_if message checksum packet payload true found error finds read accepted = (found, finds, ap (λ p. p.header) read.1)
found_if message checksum packet payload false found error finds read accepted = cc

-- an `Unknown` header is read as a timestamp message together with the bytes after it, or as the listed message
raw_found : (type code : ℕ) (bytes5to8 : List ℕ) (checksum : ℕ) (packet payload : List ℕ) (is_request is_reply : Bool)
    → IsReadAs (Unknown type code bytes5to8) packet (
    if is_request then raw_timestamp_reads_back TimestampRequest layers.Icmpv4Timestamp bytes5to8 checksum payload
    else if is_reply then raw_timestamp_reads_back TimestampReply layers.Icmpv4TimestampReply bytes5to8 checksum payload
    else Ok (icmpv4_header (unwrap_or (listed_kind type code bytes5to8) (Unknown type code bytes5to8)) checksum, payload))
    → refusal packet ≡ None → IsFound (Unknown type code bytes5to8) checksum packet
raw_found type code bytes5to8 checksum packet payload true is_reply read accepted =
    found_if (Unknown type code bytes5to8) checksum packet [] (length payload == 12)
    (icmpv4_header (TimestampRequest (timestamp_of (bytes5to8 ++ payload) 0)) checksum) _ (refl, λ some. absurd (some refl)) read accepted
raw_found type code bytes5to8 checksum packet payload false true read accepted =
    found_if (Unknown type code bytes5to8) checksum packet [] (length payload == 12)
    (icmpv4_header (TimestampReply (timestamp_of (bytes5to8 ++ payload) 0)) checksum) _ (refl, λ some. absurd (some refl)) read accepted
raw_found type code bytes5to8 checksum packet payload false false read accepted = (
  icmpv4_header (unwrap_or (listed_kind type code bytes5to8) (Unknown type code bytes5to8)) checksum,
  (refl, λ some. absurd (some refl)),
  ap (λ p. p.header) read.1,
)

is_found : (message : Icmpv4Type) (checksum : ℕ) (packet payload : List ℕ) → IsReadAs message packet (reads_back message checksum payload)
    → refusal packet ≡ None → IsFound message checksum packet
is_found (TimestampRequest times) checksum packet payload read accepted =
    found_if (TimestampRequest times) checksum packet [] (length payload == 0) (icmpv4_header (TimestampRequest times) checksum) _
    (refl, λ some. refl) read accepted
is_found (TimestampReply times) checksum packet payload read accepted =
    found_if (TimestampReply times) checksum packet [] (length payload == 0) (icmpv4_header (TimestampReply times) checksum) _
    (refl, λ some. refl) read accepted
is_found (Unknown type code bytes5to8) checksum packet payload read accepted =
    raw_found type code bytes5to8 checksum packet payload _ _ read accepted
is_found other checksum packet payload read accepted = (icmpv4_header other checksum, (refl, λ some. refl), ap (λ p. p.header) read.1)

pub is_same : (fields : EtherparseIcmpv4Header) (message : Icmpv4Type) (packet payload : List ℕ) → message_in fields ≡ Some message
    → FieldsFit message
    → length fields.bytes4to7 ≡ 4 → IsReadAs message packet (reads_back message fields.checksum payload) → refusal packet ≡ None
    → IsSameHeader fields (packet_of packet).header
is_same fields message packet payload is fit four read accepted =
    let found = is_found message fields.checksum packet payload read accepted in
    subst (IsSameHeader fields) (sym found.2) (same_header fields message found.0 is fit four found.1)

-- ---- the buffer

-- the first bytes of a buffer, after a header was written to it, are read as `ReadsBack` states
front : (message : Icmpv4Type) (checksum : ℕ) (buffer : List ℕ) (len : ℕ) → FieldsFit message
    → ((payload : List ℕ) → part.IsReadAs (wire (icmpv4_header message checksum) ++ payload) (reads_back message checksum payload))
    → length (wire (icmpv4_header message checksum)) ≤ len
    → ReadsBack checksum (Some message) (take len (at_front (wire (icmpv4_header message checksum)) buffer))
front message checksum buffer len fit read within =
    let header = wire (icmpv4_header message checksum) in
    let payload = take (len - length header) (drop (length header) buffer) in
    let after : drop (length header) (header ++ payload) ≡ payload = drop_at header payload (length header) refl in
    subst (ReadsBack checksum (Some message)) (sym (front_read header buffer len within))
    (subst (λ p. IsReadAs message (header ++ payload) (reads_back message checksum p)) (sym after)
    (is_read_as message checksum payload _ (fields_enough message fit) (read payload)))

pub buffer_read : (fields : EtherparseIcmpv4Header) (message : Icmpv4Type) (made buffer after : List ℕ) (written before len : ℕ)
    → message_in fields ≡ Some message → FieldsFit message → length fields.bytes4to7 ≡ 4
    → made ≡ wire (icmpv4_header message fields.checksum)
    → ((payload : List ℕ) → part.IsReadAs (wire (icmpv4_header message fields.checksum) ++ payload)
    (reads_back message fields.checksum payload))
    → write_refusal fields.checksum (message_in fields) (length buffer) ≡ None
    → after ≡ unless_refused (no_room (length made) (length buffer)) (at_front made buffer) buffer
    → written ≡ unless_refused (no_room (length made) (length buffer)) (length made) before → written ≤ len
    → ReadsBack fields.checksum (message_in fields) (take len after)
    × (refusal (take len after) ≡ None → IsSameHeader fields (packet_of (take len after)).header)
buffer_read fields message made buffer after written before len is fit four same read accepted is_after is_written within =
    let header = wire (icmpv4_header message fields.checksum) in
    let room : no_room (length header) (length buffer) ≡ None =
    subst (λ m. write_refusal fields.checksum m (length buffer) ≡ None) is accepted in
    let stands = written_front header made buffer after written before same room is_after is_written in
    let back : ReadsBack fields.checksum (Some message) (take len after) =
    subst (λ b. ReadsBack fields.checksum (Some message) (take len b)) (sym stands.0)
    (front message fields.checksum buffer len fit read (omega (arith, within, stands.1))) in (
      subst (λ m. ReadsBack fields.checksum m (take len after)) (sym is) back,
      is_same fields message (take len after) (drop (length header) (take len after)) is fit four back,
    )
