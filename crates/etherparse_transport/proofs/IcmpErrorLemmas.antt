-- Laws of an ICMP error about a packet: it is written if there is room, and it quotes the packet.
use Rattle.std.proofs.Common.{◌≡◌, ℕ, ◌+◌, ◌-◌, ◌≤◌, ◌==◌, ◌&&◌, not, nat_lt, slice_index, Bool, true, false, if◌then◌else◌, List, [], ◌∷◌, ◌++◌, take, drop, slice_range, length, length-append, Option, Some, None, Result, Ok, Err, refl, sym, ap, ◌∙◌, arith}
use Rattle.std.specs.Prelude.{IfOk, IsOk}
use Rattle.std.specs.Option.{option_map}
use Rattle.std.proofs.lemmas.Bool.Decides.{nat_tests}
use Rattle.std.proofs.lemmas.List.{append_assoc, drop_at, take_at}
use Rattle.icmp_part.specs.Icmpv4Format as icmpv4
use Rattle.icmp_part.specs.Icmpv6Format as icmpv6
use Rattle.icmp_part.specs.QuotedPackets.{quoted_by_icmpv4, quoted_by_icmpv6}
use Rattle.icmp_part.specs.declared.icmpv4_type.Icmpv4Type.{Icmpv4Type}
use Rattle.icmp_part.specs.declared.icmpv4_type.Icmpv4Type.TheVariants as v4
use Rattle.icmp_part.specs.declared.icmpv6_type.Icmpv6Type.{Icmpv6Type}
use Rattle.icmp_part.specs.declared.icmpv6_type.Icmpv6Type.TheVariants as v6
use Rattle.net_base.specs.Refusals.{RefusesExactly, first_of, refused_if, wrong_length}
use Rattle.net_base.specs.declared.err.layer.Layer.TheVariants as layers
use Rattle.word_sum.specs.Checksum.{checksum_of}
use Rattle.etherparse_transport.specs.Formats.{wire}
use Rattle.etherparse_transport.specs.IcmpErrors.{HasGateway, icmpv4_header, icmpv6_header, is_icmpv4_error_type, is_icmpv6_error_type}
use Rattle.etherparse_transport.specs.Packets.{ipv4_header, ipv4_packet, ipv4_start, ipv4_write_refusal, ipv6_header, ipv6_packet, ipv6_start, ipv6_write_refusal, message_len, sent_over_ipv4, sent_over_ipv6}

-- ---- rules without errors

no_error : {E : Type 0} (condition : Bool) (error : E) → condition ≡ false → refused_if condition error ≡ None
no_error condition error none = ap (λ b. if b then Some error else None) none

all_none : {E : Type 0} (a b c d : Option E) → a ≡ None → b ≡ None → c ≡ None → d ≡ None
    → first_of (first_of (a ∷ b ∷ c ∷ []) ∷ d ∷ []) ≡ None
all_none a b c d none none_too none_three none_four =
    ap (λ a. first_of (first_of (a ∷ b ∷ c ∷ []) ∷ d ∷ [])) none
    ∙ ap (λ b. first_of (first_of (None ∷ b ∷ c ∷ []) ∷ d ∷ [])) none_too
    ∙ ap (λ c. first_of (first_of (None ∷ None ∷ c ∷ []) ∷ d ∷ [])) none_three
    ∙ ap (λ d. first_of (first_of (None ∷ None ∷ None ∷ []) ∷ d ∷ [])) none_four

both_none : {E : Type 0} (a b c : Option E) → a ≡ None → b ≡ None → c ≡ None → first_of (first_of (a ∷ b ∷ []) ∷ c ∷ []) ≡ None
both_none a b c none none_too none_three =
    ap (λ a. first_of (first_of (a ∷ b ∷ []) ∷ c ∷ [])) none
    ∙ ap (λ b. first_of (first_of (None ∷ b ∷ []) ∷ c ∷ [])) none_too
    ∙ ap (λ c. first_of (first_of (None ∷ None ∷ []) ∷ c ∷ [])) none_three

-- ---- results

some_none : {E : Type 0} (error : E) → Some error ≡ None → ⊥
some_none error same = absurd (grind arith)

pub ok_of : {T E : Type 0} (result : Result T E) (refusal : Option E) → RefusesExactly result refusal → refusal ≡ None → IsOk result
ok_of (Ok value) refusal exact none = refl
ok_of (Err error) refusal exact none = absurd (some_none error (sym exact ∙ none))

-- what an accepted call ensures
pub at_ok : {T E : Type 0} (result : Result T E) (P : Type 0) → IsOk result → IfOk result (λ value. P) → P
at_ok (Ok value) P is ensured = ensured
at_ok (Err error) P is ensured = absurd (grind arith)

-- the bytes that were written, with their length
pub written_by : {E : Type 0} (result : Result ℕ E) (bytes new old : List ℕ) (n : ℕ) → IsOk result → IfOk result (λ len. len ≡ length bytes)
    → IfOk result (λ len. new ≡ bytes ++ drop len old) → length bytes ≡ n → new ≡ bytes ++ drop n old
written_by (Ok len) bytes new old n is len_is written n_is = written ∙ ap (λ k. bytes ++ drop k old) (len_is ∙ n_is)
written_by (Err error) bytes new old n is len_is written n_is = absurd (grind arith)

-- ---- the header of an error

pub icmpv4_header_len : (icmp_type : Icmpv4Type) (checksum : ℕ) → is_icmpv4_error_type icmp_type ≡ true → HasGateway icmp_type
    → length (icmpv4.wire (record { icmp_type = icmp_type; checksum = checksum })) ≡ 8
icmpv4_header_len (v4.Unknown type code bytes) checksum is gateway = absurd (grind arith)
icmpv4_header_len (v4.EchoReply echo) checksum is gateway = absurd (grind arith)
icmpv4_header_len (v4.DestinationUnreachable header) checksum is gateway = refl
icmpv4_header_len (v4.Redirect header) checksum is gateway = omega (arith, gateway)
icmpv4_header_len (v4.EchoRequest echo) checksum is gateway = absurd (grind arith)
icmpv4_header_len (v4.TimeExceeded code) checksum is gateway = refl
icmpv4_header_len (v4.ParameterProblem header) checksum is gateway = refl
icmpv4_header_len (v4.TimestampRequest message) checksum is gateway = absurd (grind arith)
icmpv4_header_len (v4.TimestampReply message) checksum is gateway = absurd (grind arith)

-- a slice accepts bytes of a type that is no timestamp
accepted_by : (bytes : List ℕ) → (slice_index bytes 0 == 13) ≡ false → (slice_index bytes 0 == 14) ≡ false → 8 ≤ length bytes
    → icmpv4.refusal bytes ≡ None
accepted_by bytes request reply long =
    let short : nat_lt (length bytes) 8 ≡ false = grind (arith, nat_tests) in
    ap (λ b. first_of (refused_if b (wrong_length layers.Icmpv4 8 (length bytes))
    ∷ icmpv4.timestamp_refusal 13 layers.Icmpv4Timestamp bytes ∷ icmpv4.timestamp_refusal 14 layers.Icmpv4TimestampReply bytes ∷ [])) short
    ∙ ap (λ b. first_of (refused_if (b && (slice_index bytes 1 == 0) && not (length bytes == 20))
    (wrong_length layers.Icmpv4Timestamp 20 (length bytes))
    ∷ icmpv4.timestamp_refusal 14 layers.Icmpv4TimestampReply bytes ∷ [])) request
    ∙ ap (λ b. first_of (refused_if (b && (slice_index bytes 1 == 0) && not (length bytes == 20))
    (wrong_length layers.Icmpv4TimestampReply 20 (length bytes)) ∷ [])) reply

icmpv4_long : (icmp_type : Icmpv4Type) (payload : List ℕ) → is_icmpv4_error_type icmp_type ≡ true → HasGateway icmp_type
    → 8 ≤ length (icmpv4.wire (record { icmp_type = icmp_type; checksum = 0 }) ++ payload)
icmpv4_long icmp_type payload is gateway =
    omega (
      arith,
      length-append (icmpv4.wire (record { icmp_type = icmp_type; checksum = 0 })) payload,
      icmpv4_header_len icmp_type 0 is gateway,
    )

icmpv4_accepted : (icmp_type : Icmpv4Type) (payload : List ℕ) → is_icmpv4_error_type icmp_type ≡ true → HasGateway icmp_type
    → icmpv4.refusal (icmpv4.wire (record { icmp_type = icmp_type; checksum = 0 }) ++ payload) ≡ None
icmpv4_accepted (v4.Unknown type code bytes) payload is gateway = absurd (grind arith)
icmpv4_accepted (v4.EchoReply echo) payload is gateway = absurd (grind arith)
icmpv4_accepted (v4.DestinationUnreachable header) payload is gateway =
    accepted_by (icmpv4.wire (record { icmp_type = v4.DestinationUnreachable header; checksum = 0 }) ++ payload) refl refl
    (icmpv4_long (v4.DestinationUnreachable header) payload is gateway)
icmpv4_accepted (v4.Redirect header) payload is gateway =
    accepted_by (icmpv4.wire (record { icmp_type = v4.Redirect header; checksum = 0 }) ++ payload) refl refl
    (icmpv4_long (v4.Redirect header) payload is gateway)
icmpv4_accepted (v4.EchoRequest echo) payload is gateway = absurd (grind arith)
icmpv4_accepted (v4.TimeExceeded code) payload is gateway =
    accepted_by (icmpv4.wire (record { icmp_type = v4.TimeExceeded code; checksum = 0 }) ++ payload) refl refl
    (icmpv4_long (v4.TimeExceeded code) payload is gateway)
icmpv4_accepted (v4.ParameterProblem header) payload is gateway =
    accepted_by (icmpv4.wire (record { icmp_type = v4.ParameterProblem header; checksum = 0 }) ++ payload) refl refl
    (icmpv4_long (v4.ParameterProblem header) payload is gateway)
icmpv4_accepted (v4.TimestampRequest message) payload is gateway = absurd (grind arith)
icmpv4_accepted (v4.TimestampReply message) payload is gateway = absurd (grind arith)

-- it quotes what comes after it
icmpv4_quotes : (icmp_type : Icmpv4Type) (checksum : ℕ) (payload : List ℕ) → is_icmpv4_error_type icmp_type ≡ true → HasGateway icmp_type
    → quoted_by_icmpv4 (icmpv4.wire (record { icmp_type = icmp_type; checksum = checksum }) ++ payload) ≡ Some payload
icmpv4_quotes (v4.Unknown type code bytes) checksum payload is gateway = absurd (grind arith)
icmpv4_quotes (v4.EchoReply echo) checksum payload is gateway = absurd (grind arith)
icmpv4_quotes (v4.DestinationUnreachable header) checksum payload is gateway = refl
icmpv4_quotes (v4.Redirect header) checksum payload is gateway = ap Some (drop_at header.gateway_internet_address payload 4 gateway)
icmpv4_quotes (v4.EchoRequest echo) checksum payload is gateway = absurd (grind arith)
icmpv4_quotes (v4.TimeExceeded code) checksum payload is gateway = refl
icmpv4_quotes (v4.ParameterProblem header) checksum payload is gateway = refl
icmpv4_quotes (v4.TimestampRequest message) checksum payload is gateway = absurd (grind arith)
icmpv4_quotes (v4.TimestampReply message) checksum payload is gateway = absurd (grind arith)

pub icmpv6_header_len : (icmp_type : Icmpv6Type) (checksum : ℕ) → is_icmpv6_error_type icmp_type ≡ true
    → length (icmpv6.wire (record { icmp_type = icmp_type; checksum = checksum })) ≡ 8
icmpv6_header_len (v6.Unknown type code bytes) checksum is = absurd (grind arith)
icmpv6_header_len (v6.DestinationUnreachable code) checksum is = refl
icmpv6_header_len (v6.PacketTooBig mtu) checksum is = refl
icmpv6_header_len (v6.TimeExceeded code) checksum is = refl
icmpv6_header_len (v6.ParameterProblem problem) checksum is = refl
icmpv6_header_len (v6.EchoRequest echo) checksum is = absurd (grind arith)
icmpv6_header_len (v6.EchoReply echo) checksum is = absurd (grind arith)
icmpv6_header_len v6.RouterSolicitation checksum is = absurd (grind arith)
icmpv6_header_len (v6.RouterAdvertisement header) checksum is = absurd (grind arith)
icmpv6_header_len v6.NeighborSolicitation checksum is = absurd (grind arith)
icmpv6_header_len (v6.NeighborAdvertisement header) checksum is = absurd (grind arith)
icmpv6_header_len v6.Redirect checksum is = absurd (grind arith)

icmpv6_quotes : (icmp_type : Icmpv6Type) (checksum : ℕ) (payload : List ℕ) → is_icmpv6_error_type icmp_type ≡ true
    → quoted_by_icmpv6 (icmpv6.wire (record { icmp_type = icmp_type; checksum = checksum }) ++ payload) ≡ Some payload
icmpv6_quotes (v6.Unknown type code bytes) checksum payload is = absurd (grind arith)
icmpv6_quotes (v6.DestinationUnreachable code) checksum payload is = refl
icmpv6_quotes (v6.PacketTooBig mtu) checksum payload is = refl
icmpv6_quotes (v6.TimeExceeded code) checksum payload is = refl
icmpv6_quotes (v6.ParameterProblem problem) checksum payload is = refl
icmpv6_quotes (v6.EchoRequest echo) checksum payload is = absurd (grind arith)
icmpv6_quotes (v6.EchoReply echo) checksum payload is = absurd (grind arith)
icmpv6_quotes v6.RouterSolicitation checksum payload is = absurd (grind arith)
icmpv6_quotes (v6.RouterAdvertisement header) checksum payload is = absurd (grind arith)
icmpv6_quotes v6.NeighborSolicitation checksum payload is = absurd (grind arith)
icmpv6_quotes (v6.NeighborAdvertisement header) checksum payload is = absurd (grind arith)
icmpv6_quotes v6.Redirect checksum payload is = absurd (grind arith)

-- ---- the error

-- a message in a packet, after its IP header
message_in : (front message rest : List ℕ) (front_len len : ℕ) → length front ≡ front_len → len ≡ front_len + length message
    → slice_range ((front ++ message) ++ rest) front_len len ≡ message
message_in front message rest front_len len is is_too =
    ap (λ bytes. take (len - front_len) (drop front_len bytes)) (append_assoc front message rest)
    ∙ ap (take (len - front_len)) (drop_at front (message ++ rest) front_len is)
    ∙ take_at message rest (len - front_len) (omega (arith, is_too))

module _ (icmp_type : Icmpv4Type) (source destination payload : List ℕ) (time_to_live : ℕ) (is : is_icmpv4_error_type icmp_type ≡ true)
    (gateway : HasGateway icmp_type) where
  -- there is room, so it is written
  pub icmpv4_written : (room : ℕ) → length payload ≤ 548 → 28 + length payload ≤ room
      → ipv4_write_refusal (icmpv4_header icmp_type) payload room ≡ None
  icmpv4_written room short there =
      let len : length (icmpv4.wire (record { icmp_type = icmp_type; checksum = 0 })) ≡ 8 = icmpv4_header_len icmp_type 0 is gateway in
      let counted : nat_lt (65515 - length (icmpv4.wire (record { icmp_type = icmp_type; checksum = 0 }))) (length payload) ≡ false =
      grind (arith, nat_tests) in
      let enough : nat_lt room (20 + (length (icmpv4.wire (record { icmp_type = icmp_type; checksum = 0 })) + length payload)) ≡ false =
      grind (arith, nat_tests) in
      all_none _ _ _ _ refl (no_error _ _ counted) (ap (option_map _) (icmpv4_accepted icmp_type payload is gateway)) (no_error _ _ enough)

  abbrev ipv4_front : List ℕ
  ipv4_front = ipv4_header (ipv4_start (20 + message_len (icmpv4_header icmp_type) (length payload))) time_to_live 1 source destination

  abbrev ipv4_message : List ℕ
  ipv4_message = wire (sent_over_ipv4 source destination (icmpv4_header icmp_type) payload) ++ payload

  module _ (four : length source ≡ 4) (four_too : length destination ≡ 4) where
    ipv4_front_is : length ipv4_front ≡ 20
    ipv4_front_is = omega (arith, length-append source destination, four, four_too)

    ipv4_message_is : length ipv4_message ≡ 8 + length payload
    ipv4_message_is =
        length-append (wire (sent_over_ipv4 source destination (icmpv4_header icmp_type) payload)) payload
        ∙ ap (λ n. n + length payload)
        (icmpv4_header_len icmp_type (checksum_of (icmpv4.checksummed (record { icmp_type = icmp_type; checksum = 0 }) payload)) is
        gateway)

    pub icmpv4_error_len : length (ipv4_packet source destination time_to_live (icmpv4_header icmp_type) payload) ≡ 28 + length payload
    icmpv4_error_len = omega (arith, length-append ipv4_front ipv4_message, ipv4_front_is, ipv4_message_is)

    pub icmpv4_quoted : (rest : List ℕ) (len : ℕ) → len ≡ 28 + length payload
        → quoted_by_icmpv4 (slice_range (ipv4_packet source destination time_to_live (icmpv4_header icmp_type) payload ++ rest) 20 len)
        ≡ Some payload
    icmpv4_quoted rest len len_is =
        ap quoted_by_icmpv4 (message_in ipv4_front ipv4_message rest 20 len ipv4_front_is (omega (arith, len_is, ipv4_message_is)))
        ∙ icmpv4_quotes icmp_type (checksum_of (icmpv4.checksummed (record { icmp_type = icmp_type; checksum = 0 }) payload)) payload is
        gateway

module _ (icmp_type : Icmpv6Type) (source destination payload : List ℕ) (hop_limit : ℕ) (is : is_icmpv6_error_type icmp_type ≡ true) where
  pub icmpv6_written : (room : ℕ) → length payload ≤ 1232 → 48 + length payload ≤ room
      → ipv6_write_refusal (icmpv6_header icmp_type) payload room ≡ None
  icmpv6_written room short there =
      let len : length (icmpv6.wire (record { icmp_type = icmp_type; checksum = 0 })) ≡ 8 = icmpv6_header_len icmp_type 0 is in
      let counted : nat_lt (65535 - length (icmpv6.wire (record { icmp_type = icmp_type; checksum = 0 }))) (length payload) ≡ false =
      grind (arith, nat_tests) in
      let enough : nat_lt room (40 + (length (icmpv6.wire (record { icmp_type = icmp_type; checksum = 0 })) + length payload)) ≡ false =
      grind (arith, nat_tests) in
      both_none _ _ _ refl (no_error _ _ counted) (no_error _ _ enough)

  abbrev ipv6_front : List ℕ
  ipv6_front = ipv6_header (ipv6_start (message_len (icmpv6_header icmp_type) (length payload))) 58 hop_limit source destination

  abbrev ipv6_message : List ℕ
  ipv6_message = wire (sent_over_ipv6 source destination (icmpv6_header icmp_type) payload) ++ payload

  module _ (sixteen : length source ≡ 16) (sixteen_too : length destination ≡ 16) where
    ipv6_front_is : length ipv6_front ≡ 40
    ipv6_front_is = omega (arith, length-append source destination, sixteen, sixteen_too)

    ipv6_message_is : length ipv6_message ≡ 8 + length payload
    ipv6_message_is =
        length-append (wire (sent_over_ipv6 source destination (icmpv6_header icmp_type) payload)) payload
        ∙ ap (λ n. n + length payload)
        (icmpv6_header_len icmp_type (checksum_of
        (icmpv6.checksummed source destination (record { icmp_type = icmp_type; checksum = 0 }) payload)) is)

    pub icmpv6_error_len : length (ipv6_packet source destination hop_limit (icmpv6_header icmp_type) payload) ≡ 48 + length payload
    icmpv6_error_len = omega (arith, length-append ipv6_front ipv6_message, ipv6_front_is, ipv6_message_is)

    pub icmpv6_quoted : (rest : List ℕ) (len : ℕ) → len ≡ 48 + length payload
        → quoted_by_icmpv6 (slice_range (ipv6_packet source destination hop_limit (icmpv6_header icmp_type) payload ++ rest) 40 len)
        ≡ Some payload
    icmpv6_quoted rest len len_is =
        ap quoted_by_icmpv6 (message_in ipv6_front ipv6_message rest 40 len ipv6_front_is (omega (arith, len_is, ipv6_message_is)))
        ∙ icmpv6_quotes icmp_type (checksum_of (icmpv6.checksummed source destination
        (record { icmp_type = icmp_type; checksum = 0 }) payload)) payload is
