use Rattle.std.proofs.Common.{◌≡◌, ◌≤◌, ◌+◌, ◌++◌, List, ℕ, true, ap, arith, drop, length, rules, slice_range, subst, sym, ◌∙◌}
use Rattle.std.specs.Prelude.{IsOk}
use Rattle.std.proofs.lemmas.List.{length-take}
use Rattle.icmp_part.specs.QuotedPackets.{quoted_by_icmpv4}
use Rattle.ip_part.specs.Addresses as addresses
use Rattle.etherparse_transport.specs.IcmpErrors.{counted, icmpv4_header, ipv4_quote, is_icmpv4_error_type}
use Rattle.etherparse_transport.specs.Packets.{IsReadAs, ipv4_packet, sent_over_ipv4}
use Rattle.etherparse_transport.proofs.IcmpErrorLemmas.{at_ok, icmpv4_error_len, icmpv4_quoted, icmpv4_written, ok_of, written_by}
use Rattle.etherparse_transport.proofs.ip.icmp_error.icmpv4_error_about.Goals as goal

pub unwrap-requires : goal.unwrap-requires
unwrap-requires c =
    let is : is_icmpv4_error_type c.args.icmp_type ≡ true = sym c.is_icmpv4_error_type.ensures.is ∙ c.if-not-is_icmpv4_error_type.false in
    let few : length c.in_ok-destination.quote.now ≤ 548 =
    omega (arith, ap length c.in_ok-destination.ensures.quote, length-take 548 (counted c.args.packet.now)) in
    ok_of c.write_packet_ipv4.result _ c.write_packet_ipv4.ensures.refused
    (icmpv4_written c.args.icmp_type c.args.source c.in_ok-destination.destination c.in_ok-destination.quote.now c.args.time_to_live is
    c.is_icmpv4_error_type.ensures.gateway
    (length c.args.slice.now) few (search rules))

pub returns-clause-most : goal.returns-clause-most
returns-clause-most c =
    let few : length c.in_ok-destination.quote.now ≤ 548 =
    omega (arith, ap length c.in_ok-destination.ensures.quote, length-take 548 (counted c.args.packet.now)) in
    omega (arith, few)

pub returns-clause-written : goal.returns-clause-written
returns-clause-written c =
    let is : is_icmpv4_error_type c.args.icmp_type ≡ true = sym c.is_icmpv4_error_type.ensures.is ∙ c.if-not-is_icmpv4_error_type.false in
    let few : length c.in_ok-destination.quote.now ≤ 548 =
    omega (arith, ap length c.in_ok-destination.ensures.quote, length-take 548 (counted c.args.packet.now)) in
    let accepted : IsOk c.write_packet_ipv4.result =
    ok_of c.write_packet_ipv4.result _ c.write_packet_ipv4.ensures.refused
    (icmpv4_written c.args.icmp_type c.args.source c.in_ok-destination.destination c.in_ok-destination.quote.now c.args.time_to_live is
    c.is_icmpv4_error_type.ensures.gateway
    (length c.args.slice.now) few (search rules)) in
    let packet : List ℕ = c.args.packet.now in
    let quote : List ℕ = c.in_ok-destination.quote.now in
    let to : List ℕ = c.in_ok-destination.destination in
    let header = icmpv4_header c.args.icmp_type in
    let len : length (ipv4_packet c.args.source to c.args.time_to_live header quote) ≡ 28 + length quote =
    icmpv4_error_len c.args.icmp_type c.args.source to quote c.args.time_to_live is c.is_icmpv4_error_type.ensures.gateway (search rules)
    (search rules) in
    written_by c.write_packet_ipv4.result (ipv4_packet c.args.source to c.args.time_to_live header quote) c.write_packet_ipv4.new.slice
    c.args.slice.now
    (28 + length quote) accepted c.write_packet_ipv4.ensures.len c.write_packet_ipv4.ensures.written len
    ∙ ap (λ to. ipv4_packet c.args.source to c.args.time_to_live header quote ++ drop (28 + length quote) c.args.slice.now)
    c.in_ok-destination.ensures.source
    ∙ ap (λ part. ipv4_packet c.args.source (slice_range packet 12 16) c.args.time_to_live header part
    ++ drop (28 + length quote) c.args.slice.now)
    c.in_ok-destination.ensures.quote

pub returns-clause-read : goal.returns-clause-read
returns-clause-read c =
    let is : is_icmpv4_error_type c.args.icmp_type ≡ true = sym c.is_icmpv4_error_type.ensures.is ∙ c.if-not-is_icmpv4_error_type.false in
    let few : length c.in_ok-destination.quote.now ≤ 548 =
    omega (arith, ap length c.in_ok-destination.ensures.quote, length-take 548 (counted c.args.packet.now)) in
    let accepted : IsOk c.write_packet_ipv4.result =
    ok_of c.write_packet_ipv4.result _ c.write_packet_ipv4.ensures.refused
    (icmpv4_written c.args.icmp_type c.args.source c.in_ok-destination.destination c.in_ok-destination.quote.now c.args.time_to_live is
    c.is_icmpv4_error_type.ensures.gateway
    (length c.args.slice.now) few (search rules)) in
    let packet : List ℕ = c.args.packet.now in
    let quote : List ℕ = c.in_ok-destination.quote.now in
    let header = icmpv4_header c.args.icmp_type in
    let rest : List ℕ = drop (28 + length quote) c.args.slice.now in
    let from : List ℕ = slice_range packet 12 16 in
    let Read : List ℕ → List ℕ → Type 0 = λ to part.
    IsReadAs (ipv4_packet c.args.source to c.args.time_to_live header part ++ rest) (addresses.Ipv4 c.args.source to)
    (sent_over_ipv4 c.args.source to header part) part in
    let Is : List ℕ → Type 0 = λ bytes.
    IsReadAs bytes (addresses.Ipv4 c.args.source from) (sent_over_ipv4 c.args.source from header (ipv4_quote packet)) (ipv4_quote packet) in
    let reads = at_ok c.write_packet_ipv4.result _ accepted c.write_packet_ipv4.ensures.read in
    subst Is (sym (returns-clause-written c))
    (subst (Read from) c.in_ok-destination.ensures.quote
    (subst (λ to. Read to quote) c.in_ok-destination.ensures.source (reads rest)))

pub returns-clause-quoted : goal.returns-clause-quoted
returns-clause-quoted c =
    let is : is_icmpv4_error_type c.args.icmp_type ≡ true = sym c.is_icmpv4_error_type.ensures.is ∙ c.if-not-is_icmpv4_error_type.false in
    let quote : List ℕ = c.in_ok-destination.quote.now in
    let to : List ℕ = slice_range c.args.packet.now 12 16 in
    let to_len : length to ≡ 4 = ap length (sym c.in_ok-destination.ensures.source) ∙ search rules in
    ap (λ bytes. quoted_by_icmpv4 (slice_range bytes 20 (28 + length quote))) (returns-clause-written c)
    ∙ icmpv4_quoted c.args.icmp_type c.args.source to
    (ipv4_quote c.args.packet.now) c.args.time_to_live is c.is_icmpv4_error_type.ensures.gateway (search rules) to_len
    (drop (28 + length quote) c.args.slice.now) (28 + length quote) (ap (λ part. 28 + length part) c.in_ok-destination.ensures.quote)
