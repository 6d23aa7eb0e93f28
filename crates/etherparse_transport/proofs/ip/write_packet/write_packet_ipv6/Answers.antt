use Rattle.std.proofs.Common.{◌≡◌, ◌+◌, ◌≤◌, ◌++◌, List, ℕ, ap, drop, length, ◌∙◌, rules, arith}
use Rattle.etherparse_transport.specs.Formats.{proto_of, wire}
use Rattle.etherparse_transport.specs.Packets.{ipv6_header, ipv6_start, message_len, number_of, sent_over_ipv6}
use Rattle.etherparse_transport.proofs.BuiltLemmas.{joined, read_ipv6}
use Rattle.etherparse_transport.proofs.ip.write_packet.write_packet_ipv6.Goals as goal

pub returns-clause-read : goal.returns-clause-read
returns-clause-read c = λ padding.
    let short : length (wire c.args.header.now) ≤ 60 = search rules in
    read_ipv6 c.args.source c.args.destination c.args.payload.now padding c.args.hop_limit c.args.header.now
    (search rules) (search rules) short c.in_ok-check_ipv6.ensures.refused
    c.write_message_ipv6.ensures.valid c.write_message_ipv6.ensures.reads_back

pub returns-clause-written : goal.returns-clause-written
returns-clause-written c =
    let start : ℕ = message_len c.args.header.now (length c.args.payload.now) in
    let header : List ℕ = ipv6_header (ipv6_start start)
    (number_of (proto_of c.args.header.now)) c.args.hop_limit c.args.source c.args.destination in
    let message : List ℕ = wire (sent_over_ipv6 c.args.source c.args.destination c.args.header.now c.args.payload.now)
    ++ c.args.payload.now in
    let is_front : c.copy_from_slice.new.self ≡ header = search rules in
    let is_rest : c.write_message_ipv6.new.message ≡ message
    ++ drop (message_len c.args.header.now (length c.args.payload.now)) (drop 40 c.args.slice.now) = search rules in
    let header_len : ℕ = c.counted_header_len-header_len.result in
    let len : 40 + message_len c.args.header.now (length c.args.payload.now) ≡ 40 + (header_len + length c.args.payload.now) =
    omega (arith, c.counted_header_len-header_len.ensures.value) in
    joined c.args.slice.now _ _ header message 40 _ is_front is_rest ∙ ap (λ n. (header ++ message) ++ drop n c.args.slice.now) len
