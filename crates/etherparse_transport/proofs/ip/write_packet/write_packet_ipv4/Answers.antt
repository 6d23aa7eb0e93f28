use Rattle.std.proofs.Common.{◌≡◌, ◌≤◌, ◌+◌, ◌++◌, List, [], ℕ, ap, drop, length, subst, sym, ◌∙◌, rules, arith}
use Rattle.std.proofs.lemmas.List.{append_assoc}
use Rattle.ip_part.specs.Ip as ip
use Rattle.word_sum.specs.Checksum.{Verifies}
use Rattle.etherparse_transport.specs.Formats.{proto_of, wire}
use Rattle.etherparse_transport.specs.Packets.{ipv4_header, ipv4_start, message_len, number_of, sent_over_ipv4}
use Rattle.etherparse_transport.proofs.BuiltLemmas.{built_start, joined, read_ipv4}
use Rattle.etherparse_transport.proofs.PacketLemmas.{ipv4_header_verifies}
use Rattle.etherparse_transport.proofs.ip.write_packet.write_packet_ipv4.Goals as goal

pub returns-clause-read : goal.returns-clause-read
returns-clause-read c = λ padding.
    let short : length (wire c.args.header.now) ≤ 60 = search rules in
    read_ipv4 c.args.source c.args.destination c.args.payload.now padding c.args.time_to_live c.args.header.now
    (search rules) (search rules) short c.in_ok-check_ipv4.ensures.refused
    c.write_message_ipv4.ensures.valid c.write_message_ipv4.ensures.reads_back

pub returns-clause-written : goal.returns-clause-written
returns-clause-written c =
    let start : ℕ = 20 + message_len c.args.header.now (length c.args.payload.now) in
    let header : List ℕ = ipv4_header (ipv4_start start) c.args.time_to_live
    (number_of (proto_of c.args.header.now)) c.args.source c.args.destination in
    let message : List ℕ = wire (sent_over_ipv4 c.args.source c.args.destination c.args.header.now c.args.payload.now)
    ++ c.args.payload.now in
    let is_front : c.copy_from_slice.new.self ≡ header = search rules in
    let is_rest : c.write_message_ipv4.new.message ≡ message
    ++ drop (message_len c.args.header.now (length c.args.payload.now)) (drop 20 c.args.slice.now) = search rules in
    let header_len : ℕ = c.counted_header_len-header_len.result in
    let len : 20 + message_len c.args.header.now (length c.args.payload.now) ≡ 20 + header_len + length c.args.payload.now =
    omega (arith, c.counted_header_len-header_len.ensures.value) in
    joined c.args.slice.now _ _ header message 20 _ is_front is_rest ∙ ap (λ n. (header ++ message) ++ drop n c.args.slice.now) len

pub returns-clause-verifies : goal.returns-clause-verifies
returns-clause-verifies c =
    let Sums : List ℕ → Type 0 = λ slice. Verifies [] (ip.ipv4_header slice) in
    let start : ℕ = 20 + message_len c.args.header.now (length c.args.payload.now) in
    let header : List ℕ = ipv4_header (ipv4_start start) c.args.time_to_live
    (number_of (proto_of c.args.header.now)) c.args.source c.args.destination in
    let message : List ℕ = wire (sent_over_ipv4 c.args.source c.args.destination c.args.header.now c.args.payload.now)
    ++ c.args.payload.now in
    subst Sums (sym (returns-clause-written c ∙ append_assoc header message _))
    (ipv4_header_verifies (built_start start) c.args.time_to_live (number_of (proto_of c.args.header.now)) c.args.source c.args.destination
    (message ++ _)
    (search rules) (search rules))
