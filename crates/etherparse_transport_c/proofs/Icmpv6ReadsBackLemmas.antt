-- A written ICMPv6 header is read as `ReadsBack` states, and as the same header.
use Rattle.std.proofs.Common.{◌≡◌, ◌≢◌, ℕ, zero, suc, ◌+◌, ◌-◌, ◌*◌, ◌≤◌, Bool, true, false, List, ◌++◌, length, take, drop, length-drop, Option, None, Some, refl, sym, ap, ◌∙◌, subst, arith}
use Rattle.std.proofs.lemmas.Bool.Decides.{nat_tests}
use Rattle.std.proofs.lemmas.List.{drop_at, take-append-le, take_all}
use Rattle.std.specs.Int.{from_bool}
use Rattle.std.specs.Option.{option_map}
use Rattle.std.specs.Prelude.{Result, Ok, Err, if◌then◌else◌, slice_get, slice_range}
use Rattle.net_base.specs.declared.err.len_error.LenError.{LenError}
use Rattle.icmp_part.specs.Icmpv6Format.{dest_unreachable_code, dest_unreachable_codes, layout_of, parameter_problem_code, parameter_problem_codes, time_exceeded_code, time_exceeded_codes, wire, written}
use Rattle.icmp_part.specs.Icmpv6ReadsBack as part
use Rattle.icmp_part.specs.Icmpv6ReadsBack.{FieldsFit, icmpv6_header, message_reads_back, reads_back}
use Rattle.icmp_part.specs.declared.icmpv6.dest_unreachable_code.DestUnreachableCode.{DestUnreachableCode}
use Rattle.icmp_part.specs.declared.icmpv6.dest_unreachable_code.DestUnreachableCode.TheVariants as dest
use Rattle.icmp_part.specs.declared.icmpv6.parameter_problem_code.ParameterProblemCode.{ParameterProblemCode}
use Rattle.icmp_part.specs.declared.icmpv6.parameter_problem_code.ParameterProblemCode.TheVariants as problem
use Rattle.icmp_part.specs.declared.icmpv6.time_exceeded_code.TimeExceededCode.{TimeExceededCode}
use Rattle.icmp_part.specs.declared.icmpv6.time_exceeded_code.TimeExceededCode.TheVariants as exceeded
use Rattle.icmp_part.specs.declared.icmpv6_header.Icmpv6Header.{Icmpv6Header}
use Rattle.icmp_part.specs.declared.icmpv6_type.Icmpv6Type.{Icmpv6Type}
use Rattle.icmp_part.specs.declared.icmpv6_type.Icmpv6Type.TheVariants.{Unknown, DestinationUnreachable, TimeExceeded, ParameterProblem, RouterAdvertisement, NeighborAdvertisement}
use Rattle.icmp_part.proofs.Icmpv6FormatLemmas.{accepted-length, header_len_eight}
use Rattle.icmp_part.proofs.Icmpv6ReadsBackLemmas.{fields_len}
use Rattle.etherparse_transport_c.proofs.IcmpLemmas.{front_read, written_front}
use Rattle.etherparse_transport_c.specs.Errors.{at_front, no_room, of_len, unless_refused}
use Rattle.etherparse_transport_c.specs.Icmpv6.{IsReadAs, IsSameHeader, ReadsBack, header_read, is_set, message_fields, message_in, packet_of, refusal, write_refusal}
use Rattle.etherparse_transport_c.specs.Numbers as numbers
use Rattle.etherparse_transport_c.specs.declared.icmpv6.EtherparseIcmpv6Header.{EtherparseIcmpv6Header}

-- the call in C reads a packet as the library in Rattle does
pub is_read_as : (message : Icmpv6Type) (checksum : ℕ) (payload : List ℕ) (found : Result (Icmpv6Header × List ℕ) LenError)
    → 4 ≤ length (written message).fields → part.IsReadAs (wire (icmpv6_header message checksum) ++ payload) found
    → IsReadAs message (wire (icmpv6_header message checksum) ++ payload) found
is_read_as message checksum payload (Err error) enough read = ap (option_map of_len) read
is_read_as message checksum payload (Ok found) enough read =
    let packet = wire (icmpv6_header message checksum) ++ payload in
    let whole = accepted-length packet read.accepted in
    let eight : (layout_of packet).header_len ≡ 8 = header_len_eight packet in
    let after : length found.1 ≡ length packet - 8 =
    ap length read.after_header ∙ length-drop ((layout_of packet).header_len) packet ∙ ap (λ n. length packet - n) eight in
    let before : length packet - length found.1 ≡ 8 = omega (arith, after, whole.shortest) in
    let four : slice_range packet 4 8 ≡ take 4 (written message).fields = take-append-le 4 (written message).fields payload enough in
    (ap (option_map of_len) read.accepted, rw (before, after, read.fields, four) refl)

-- ---- the kind

from_some : {A : Type 0} (one other : A) → Some one ≡ Some other → one ≡ other
from_some one other same = cc

-- the fields of a kind give a message of this kind
made : (message other : Icmpv6Type) (kind : ℕ) → (message_fields message).kind ≡ kind → Some message ≡ Some other
    → (message_fields other).kind ≡ kind
made message other kind is same = subst (λ m. (message_fields m).kind ≡ kind) (from_some message other same) is

made_of : {Part : Type 0} (variant : Part → Icmpv6Type) (part : Option Part) (other : Icmpv6Type) (kind : ℕ)
    → ((p : Part) → (message_fields (variant p)).kind ≡ kind) → option_map variant part ≡ Some other → (message_fields other).kind ≡ kind
made_of variant None other kind is same = cc
made_of variant (Some p) other kind is same = made (variant p) other kind (is p) same

-- no message has a kind above the known kinds
kind_beyond : (fields : EtherparseIcmpv6Header) → 12 ≤ fields.kind → message_in fields ≡ None
kind_beyond fields beyond = grind (arith, nat_tests)

kind_at : (fields : EtherparseIcmpv6Header) (message : Icmpv6Type) (kind : ℕ) → message_in (record fields { kind = kind }) ≡ Some message
    → (message_fields message).kind ≡ kind
kind_at fields message zero same = made _ message 0 refl same
kind_at fields message (suc zero) same = made_of DestinationUnreachable _ message 1 (λ code. refl) same
kind_at fields message (suc (suc zero)) same = made _ message 2 refl same
kind_at fields message (suc (suc (suc zero))) same = made_of TimeExceeded _ message 3 (λ code. refl) same
kind_at fields message (suc (suc (suc (suc zero)))) same = made_of _ _ message 4 (λ code. refl) same
kind_at fields message (suc (suc (suc (suc (suc zero))))) same = made _ message 5 refl same
kind_at fields message (suc (suc (suc (suc (suc (suc zero)))))) same = made _ message 6 refl same
kind_at fields message (suc (suc (suc (suc (suc (suc (suc zero))))))) same = made _ message 7 refl same
kind_at fields message (suc (suc (suc (suc (suc (suc (suc (suc zero)))))))) same = made _ message 8 refl same
kind_at fields message (suc (suc (suc (suc (suc (suc (suc (suc (suc zero))))))))) same = made _ message 9 refl same
kind_at fields message (suc (suc (suc (suc (suc (suc (suc (suc (suc (suc zero)))))))))) same = made _ message 10 refl same
kind_at fields message (suc (suc (suc (suc (suc (suc (suc (suc (suc (suc (suc zero))))))))))) same = made _ message 11 refl same
kind_at fields message (suc (suc (suc (suc (suc (suc (suc (suc (suc (suc (suc (suc more)))))))))))) same =
    let none = kind_beyond (record fields { kind = suc (suc (suc (suc (suc (suc (suc (suc (suc (suc (suc (suc more))))))))))) })
    (omega arith) in cc

-- ---- the message

dest_listed : (code : DestUnreachableCode) → slice_get dest_unreachable_codes (dest_unreachable_code code) ≡ Some code
dest_listed dest.NoRoute = refl
dest_listed other = refl

time_listed : (code : TimeExceededCode) → slice_get time_exceeded_codes (time_exceeded_code code) ≡ Some code
time_listed exceeded.HopLimitExceeded = refl
time_listed other = refl

problem_listed : (code : ParameterProblemCode) → slice_get parameter_problem_codes (parameter_problem_code code) ≡ Some code
problem_listed problem.ErroneousHeaderField = refl
problem_listed other = refl

-- each flag is read back from the sum of the bits of the flags
router_flags : (managed other : Bool)
    → (is_set (from_bool managed * 128 + from_bool other * 64) 128 ≡ managed)
    × (is_set (from_bool managed * 128 + from_bool other * 64) 64 ≡ other)
router_flags false false = (refl, refl)
router_flags false true = (refl, refl)
router_flags true false = (refl, refl)
router_flags true true = (refl, refl)

neighbor_flags : (router solicited override : Bool)
    → (is_set (from_bool router * 128 + from_bool solicited * 64 + from_bool override * 32) 128 ≡ router)
    × (is_set (from_bool router * 128 + from_bool solicited * 64 + from_bool override * 32) 64 ≡ solicited)
    × (is_set (from_bool router * 128 + from_bool solicited * 64 + from_bool override * 32) 32 ≡ override)
neighbor_flags false false false = (refl, refl, refl)
neighbor_flags false false true = (refl, refl, refl)
neighbor_flags false true false = (refl, refl, refl)
neighbor_flags false true true = (refl, refl, refl)
neighbor_flags true false false = (refl, refl, refl)
neighbor_flags true false true = (refl, refl, refl)
neighbor_flags true true false = (refl, refl, refl)
neighbor_flags true true true = (refl, refl, refl)

-- if a message is not `Unknown`, its header is read as this message again
said_again : (message : Icmpv6Type) (checksum : ℕ) → (message_fields message).kind ≢ numbers.icmpv6_kind_unknown
    → message_in (header_read message (icmpv6_header message checksum)) ≡ Some message
said_again (Unknown type code fields) checksum some = absurd (some refl)
said_again (DestinationUnreachable code) checksum some = ap (option_map DestinationUnreachable) (dest_listed code)
said_again (TimeExceeded code) checksum some = ap (option_map TimeExceeded) (time_listed code)
said_again (ParameterProblem header) checksum some =
    ap (option_map (λ code. ParameterProblem (record { code = code; pointer = header.pointer }))) (problem_listed header.code)
said_again (RouterAdvertisement header) checksum some =
    let flags = router_flags header.managed_address_config header.other_config in
    rw (flags.0, flags.1) refl
said_again (NeighborAdvertisement header) checksum some =
    let flags = neighbor_flags header.router header.solicited header.override_flag in
    rw (flags.0, flags.1, flags.2) refl
said_again other checksum some = refl

-- a message that is not `Unknown` is read back unchanged
stays : (message : Icmpv6Type) → (message_fields message).kind ≢ numbers.icmpv6_kind_unknown → message_reads_back message ≡ message
stays (Unknown type code fields) some = absurd (some refl)
stays other some = refl

-- ---- the header

same_header : (fields : EtherparseIcmpv6Header) (message : Icmpv6Type) → message_in fields ≡ Some message → length fields.bytes4to7 ≡ 4
    → IsSameHeader fields (header_read message (icmpv6_header (message_reads_back message) fields.checksum))
same_header fields message is four =
    let kind : (message_fields message).kind ≡ fields.kind = kind_at fields message fields.kind is in
    record {
      checksum = refl;
      kind = λ some. ap (λ m. (message_fields m).kind) (stays message (λ none. some (sym kind ∙ none))) ∙ kind;
      message = λ some.
          let listed : (message_fields message).kind ≢ numbers.icmpv6_kind_unknown = λ none. some (sym kind ∙ none) in
          ap (λ m. message_in (header_read message (icmpv6_header m fields.checksum))) (stays message listed)
          ∙ said_again message fields.checksum listed ∙ sym is;
      raw = λ none.
          let raw : Unknown fields.type_u8 fields.code_u8 fields.bytes4to7 ≡ message =
          from_some _ message (ap (λ k. message_in (record fields { kind = k })) (sym none) ∙ is) in
          subst (λ m. ((written m).type ≡ fields.type_u8) × ((written m).code ≡ fields.code_u8)
          × (take 4 (written m).fields ≡ fields.bytes4to7)) raw
          (refl, refl, take_all 4 fields.bytes4to7 (omega (arith, four)));
    }

-- if the packet is accepted, the header is the same
same_within : (fields : EtherparseIcmpv6Header) (message : Icmpv6Type) (packet payload : List ℕ) (long : Bool) (error : LenError)
    → message_in fields ≡ Some message → length fields.bytes4to7 ≡ 4
    → IsReadAs message packet (if long then Err error else Ok (icmpv6_header (message_reads_back message) fields.checksum, payload))
    → refusal packet ≡ None → IsSameHeader fields (packet_of packet).header
same_within fields message packet payload true error is four read accepted = cc
same_within fields message packet payload false error is four read accepted =
    subst (IsSameHeader fields) (sym (ap (λ found. found.header) read.1)) (same_header fields message is four)

pub is_same : (fields : EtherparseIcmpv6Header) (message : Icmpv6Type) (packet payload : List ℕ) → message_in fields ≡ Some message
    → length fields.bytes4to7 ≡ 4
    → IsReadAs message packet (reads_back message fields.checksum payload) → refusal packet ≡ None
    → IsSameHeader fields (packet_of packet).header
is_same fields message packet payload is four read accepted = same_within fields message packet payload _ _ is four read accepted

-- ---- the buffer

-- the first bytes of a buffer, after a header was written to it, are read as `ReadsBack` states
front : (message : Icmpv6Type) (checksum : ℕ) (buffer : List ℕ) (len : ℕ) → FieldsFit message
    → ((payload : List ℕ) → part.IsReadAs (wire (icmpv6_header message checksum) ++ payload) (reads_back message checksum payload))
    → length (wire (icmpv6_header message checksum)) ≤ len
    → ReadsBack checksum (Some message) (take len (at_front (wire (icmpv6_header message checksum)) buffer))
front message checksum buffer len fit read within =
    let header = wire (icmpv6_header message checksum) in
    let payload = take (len - length header) (drop (length header) buffer) in
    let after : drop (length header) (header ++ payload) ≡ payload = drop_at header payload (length header) refl in
    subst (ReadsBack checksum (Some message)) (sym (front_read header buffer len within))
    (subst (λ p. IsReadAs message (header ++ payload) (reads_back message checksum p)) (sym after)
    (is_read_as message checksum payload _ (omega (arith, fields_len message fit)) (read payload)))

pub buffer_read : (fields : EtherparseIcmpv6Header) (message : Icmpv6Type) (made buffer after : List ℕ) (written before len : ℕ)
    → message_in fields ≡ Some message → FieldsFit message → length fields.bytes4to7 ≡ 4
    → made ≡ wire (icmpv6_header message fields.checksum)
    → ((payload : List ℕ) → part.IsReadAs (wire (icmpv6_header message fields.checksum) ++ payload)
    (reads_back message fields.checksum payload))
    → write_refusal fields.checksum (message_in fields) (length buffer) ≡ None
    → after ≡ unless_refused (no_room (length made) (length buffer)) (at_front made buffer) buffer
    → written ≡ unless_refused (no_room (length made) (length buffer)) (length made) before → written ≤ len
    → ReadsBack fields.checksum (message_in fields) (take len after)
    × (refusal (take len after) ≡ None → IsSameHeader fields (packet_of (take len after)).header)
buffer_read fields message made buffer after written before len is fit four same read accepted is_after is_written within =
    let header = wire (icmpv6_header message fields.checksum) in
    let room : no_room (length header) (length buffer) ≡ None =
    subst (λ m. write_refusal fields.checksum m (length buffer) ≡ None) is accepted in
    let stands = written_front header made buffer after written before same room is_after is_written in
    let back : ReadsBack fields.checksum (Some message) (take len after) =
    subst (λ b. ReadsBack fields.checksum (Some message) (take len b)) (sym stands.0)
    (front message fields.checksum buffer len fit read (omega (arith, within, stands.1))) in (
      subst (λ m. ReadsBack fields.checksum m (take len after)) (sym is) back,
      is_same fields message (take len after) (drop (length header) (take len after)) is four back,
    )
