-- Laws of IP packets that are written: the code finds the same header and payload in the message as the definitions.
use Rattle.std.proofs.Common.{◌≡◌, ◌++◌, ℕ, List, length, drop, Option, None, sym, ap, ◌∙◌, subst}
use Rattle.std.specs.Option.{option_map}
use Rattle.ip_part.specs.Addresses.{Ipv4}
use Rattle.etherparse_transport.specs.Packets.{IsReadAs, ipv4_packet, ipv4_write_refusal, ipv6_packet, ipv6_write_refusal, sent_over_ipv4}
use Rattle.etherparse_transport.specs.declared.err.packet.build_slice_write_error.BuildSliceWriteError.{BuildSliceWriteError}
use Rattle.etherparse_transport.specs.declared.transport_header.TransportHeader.{TransportHeader}
use Rattle.etherparse_transport_c.specs.Errors.{at_front, first_refusal, of_build, unless_refused}
use Rattle.etherparse_transport_c.specs.WrittenPackets.{header_at, ipv4_bytes, ipv4_refusal, ipv6_bytes, ipv6_refusal, message_refusal, payload_at, proto_over_ipv4, proto_over_ipv6}
use Rattle.etherparse_transport_c.specs.declared.error.EtherparseError.{EtherparseError}
use Rattle.etherparse_transport_c.specs.declared.write_packet.EtherparseIpv4Header.{EtherparseIpv4Header}
use Rattle.etherparse_transport_c.specs.declared.write_packet.EtherparseIpv6Header.{EtherparseIpv6Header}

-- if neither the message nor the packet is refused, there is no refusal
none_of : (message : Option EtherparseError) (packet : Option BuildSliceWriteError) → message ≡ None → packet ≡ None
    → first_refusal message (option_map of_build packet) ≡ None
none_of message packet message_none packet_none =
    ap (λ first. first_refusal first (option_map of_build packet)) message_none ∙ ap (λ error. option_map of_build error) packet_none

-- if nothing is refused, the new buffer begins with the bytes, and its old bytes follow
kept : (refusal : Option EtherparseError) (bytes new old : List ℕ) (len : ℕ) → refusal ≡ None → len ≡ length bytes
    → new ≡ bytes ++ drop len old → new ≡ unless_refused refusal (at_front bytes old) old
unfolding at_front
kept refusal bytes new old len none len_is is =
    is ∙ ap (λ n. bytes ++ drop n old) len_is ∙ sym (ap (λ error. unless_refused error (bytes ++ drop (length bytes) old) old) none)

-- if the code finds the header and the payload of the definitions, a function of both has the same value
by_parts : {A : Type 0} (f : TransportHeader → List ℕ → A) (found header : TransportHeader) (rest payload : List ℕ) → found ≡ header
    → rest ≡ payload → f found rest ≡ f header payload
by_parts f found header rest payload header_is payload_is = ap (λ h. f h rest) header_is ∙ ap (λ p. f header p) payload_is

pub ipv4_written : (header : EtherparseIpv4Header) (message : List ℕ) (found : TransportHeader) (rest new old : List ℕ) (len : ℕ)
    → message_refusal header.protocol (proto_over_ipv4 header.protocol) message ≡ None
    → found ≡ header_at (proto_over_ipv4 header.protocol) message
    → rest ≡ payload_at (proto_over_ipv4 header.protocol) message
    → ipv4_write_refusal found rest (length old) ≡ None
    → len ≡ length (ipv4_packet header.source header.destination header.time_to_live found rest)
    → new ≡ ipv4_packet header.source header.destination header.time_to_live found rest ++ drop len old
    → new ≡ unless_refused (ipv4_refusal header message (length old)) (at_front (ipv4_bytes header message) old) old
ipv4_written header message found rest new old len message_none header_is payload_is packet_none len_is is =
    let its_header : TransportHeader = header_at (proto_over_ipv4 header.protocol) message in
    let payload : List ℕ = payload_at (proto_over_ipv4 header.protocol) message in
    let bytes_are : ipv4_packet header.source header.destination header.time_to_live found rest ≡ ipv4_bytes header message =
    by_parts (ipv4_packet header.source header.destination header.time_to_live) found its_header rest payload header_is payload_is in
    let none : ipv4_write_refusal its_header payload (length old) ≡ None =
    sym (by_parts (λ h p. ipv4_write_refusal h p (length old)) found its_header rest payload header_is payload_is) ∙ packet_none in
    kept (ipv4_refusal header message (length old)) (ipv4_bytes header message) new old len
    (none_of (message_refusal header.protocol (proto_over_ipv4 header.protocol) message)
    (ipv4_write_refusal its_header payload (length old)) message_none none)
    (len_is ∙ ap length bytes_are) (is ∙ ap (λ bytes. bytes ++ drop len old) bytes_are)

pub ipv6_written : (header : EtherparseIpv6Header) (message : List ℕ) (found : TransportHeader) (rest new old : List ℕ) (len : ℕ)
    → message_refusal header.next_header (proto_over_ipv6 header.next_header) message ≡ None
    → found ≡ header_at (proto_over_ipv6 header.next_header) message
    → rest ≡ payload_at (proto_over_ipv6 header.next_header) message
    → ipv6_write_refusal found rest (length old) ≡ None
    → len ≡ length (ipv6_packet header.source header.destination header.hop_limit found rest)
    → new ≡ ipv6_packet header.source header.destination header.hop_limit found rest ++ drop len old
    → new ≡ unless_refused (ipv6_refusal header message (length old)) (at_front (ipv6_bytes header message) old) old
ipv6_written header message found rest new old len message_none header_is payload_is packet_none len_is is =
    let its_header : TransportHeader = header_at (proto_over_ipv6 header.next_header) message in
    let payload : List ℕ = payload_at (proto_over_ipv6 header.next_header) message in
    let bytes_are : ipv6_packet header.source header.destination header.hop_limit found rest ≡ ipv6_bytes header message =
    by_parts (ipv6_packet header.source header.destination header.hop_limit) found its_header rest payload header_is payload_is in
    let none : ipv6_write_refusal its_header payload (length old) ≡ None =
    sym (by_parts (λ h p. ipv6_write_refusal h p (length old)) found its_header rest payload header_is payload_is) ∙ packet_none in
    kept (ipv6_refusal header message (length old)) (ipv6_bytes header message) new old len
    (none_of (message_refusal header.next_header (proto_over_ipv6 header.next_header) message)
    (ipv6_write_refusal its_header payload (length old)) message_none none)
    (len_is ∙ ap length bytes_are) (is ∙ ap (λ bytes. bytes ++ drop len old) bytes_are)

-- the packet is read back as these parts, whatever padding follows it
abbrev IsRead : EtherparseIpv4Header → TransportHeader → List ℕ → Type 0
IsRead header found rest = (padding : List ℕ)
    → IsReadAs (ipv4_packet header.source header.destination header.time_to_live found rest ++ padding)
    (Ipv4 header.source header.destination) (sent_over_ipv4 header.source header.destination found rest) rest

pub ipv4_read : (header : EtherparseIpv4Header) (message : List ℕ) (found : TransportHeader) (rest : List ℕ)
    → found ≡ header_at (proto_over_ipv4 header.protocol) message
    → rest ≡ payload_at (proto_over_ipv4 header.protocol) message
    → IsRead header found rest
    → IsRead header (header_at (proto_over_ipv4 header.protocol) message) (payload_at (proto_over_ipv4 header.protocol) message)
ipv4_read header message found rest header_is payload_is read =
    subst (λ h. IsRead header h (payload_at (proto_over_ipv4 header.protocol) message)) header_is
    (subst (λ p. IsRead header found p) payload_is read)
