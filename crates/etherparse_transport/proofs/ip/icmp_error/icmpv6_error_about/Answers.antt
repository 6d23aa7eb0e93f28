use Rattle.std.proofs.Common.{◌≡◌, ◌≤◌, ◌+◌, ◌++◌, List, Some, ℕ, true, ap, arith, drop, length, rules, slice_range, subst, sym, ◌∙◌}
use Rattle.std.specs.Prelude.{IsOk}
use Rattle.std.proofs.lemmas.List.{length-take}
use Rattle.icmp_part.specs.QuotedPackets.{quoted_by_icmpv6}
use Rattle.ip_part.specs.Addresses as addresses
use Rattle.etherparse_transport.specs.IcmpErrors.{counted, icmpv6_header, ipv6_quote, is_icmpv6_error_type}
use Rattle.etherparse_transport.specs.Packets.{IsReadAs, ipv6_packet, sent_over_ipv6}
use Rattle.etherparse_transport.proofs.IcmpErrorLemmas.{at_ok, icmpv6_error_len, icmpv6_quoted, icmpv6_written, ok_of, written_by}
use Rattle.etherparse_transport.proofs.ip.icmp_error.icmpv6_error_about.Goals as goal

pub unwrap-requires : goal.unwrap-requires
unwrap-requires c =
    let is : is_icmpv6_error_type c.args.icmp_type ≡ true = sym c.is_icmpv6_error_type.ensures ∙ c.if-not-is_icmpv6_error_type.false in
    let few : length c.in_ok-destination.quote.now ≤ 1232 =
    omega (arith, ap length c.in_ok-destination.ensures.quote, length-take 1232 (counted c.args.packet.now)) in
    ok_of c.write_packet_ipv6.result _ c.write_packet_ipv6.ensures.refused
    (icmpv6_written c.args.icmp_type c.args.source c.in_ok-destination.destination c.in_ok-destination.quote.now c.args.hop_limit is
    (length c.args.slice.now) few (search rules))

pub returns-clause-most : goal.returns-clause-most
returns-clause-most c =
    let few : length c.in_ok-destination.quote.now ≤ 1232 =
    omega (arith, ap length c.in_ok-destination.ensures.quote, length-take 1232 (counted c.args.packet.now)) in
    omega (arith, few)

pub returns-clause-written : goal.returns-clause-written
returns-clause-written c =
    let is : is_icmpv6_error_type c.args.icmp_type ≡ true = sym c.is_icmpv6_error_type.ensures ∙ c.if-not-is_icmpv6_error_type.false in
    let few : length c.in_ok-destination.quote.now ≤ 1232 =
    omega (arith, ap length c.in_ok-destination.ensures.quote, length-take 1232 (counted c.args.packet.now)) in
    let accepted : IsOk c.write_packet_ipv6.result =
    ok_of c.write_packet_ipv6.result _ c.write_packet_ipv6.ensures.refused
    (icmpv6_written c.args.icmp_type c.args.source c.in_ok-destination.destination c.in_ok-destination.quote.now c.args.hop_limit is
    (length c.args.slice.now) few (search rules)) in
    let packet : List ℕ = c.args.packet.now in
    let quote : List ℕ = c.in_ok-destination.quote.now in
    let to : List ℕ = c.in_ok-destination.destination in
    let header = icmpv6_header c.args.icmp_type in
    let len : length (ipv6_packet c.args.source to c.args.hop_limit header quote) ≡ 48 + length quote =
    icmpv6_error_len c.args.icmp_type c.args.source to quote c.args.hop_limit is (search rules) (search rules) in
    written_by c.write_packet_ipv6.result (ipv6_packet c.args.source to c.args.hop_limit header quote) c.write_packet_ipv6.new.slice
    c.args.slice.now
    (48 + length quote) accepted c.write_packet_ipv6.ensures.len c.write_packet_ipv6.ensures.written len
    ∙ ap (λ to. ipv6_packet c.args.source to c.args.hop_limit header quote ++ drop (48 + length quote) c.args.slice.now)
    c.in_ok-destination.ensures.source
    ∙ ap (λ part. ipv6_packet c.args.source (slice_range packet 8 24) c.args.hop_limit header part
    ++ drop (48 + length quote) c.args.slice.now)
    c.in_ok-destination.ensures.quote

pub returns-clause-read : goal.returns-clause-read
returns-clause-read c =
    let is : is_icmpv6_error_type c.args.icmp_type ≡ true = sym c.is_icmpv6_error_type.ensures ∙ c.if-not-is_icmpv6_error_type.false in
    let few : length c.in_ok-destination.quote.now ≤ 1232 =
    omega (arith, ap length c.in_ok-destination.ensures.quote, length-take 1232 (counted c.args.packet.now)) in
    let accepted : IsOk c.write_packet_ipv6.result =
    ok_of c.write_packet_ipv6.result _ c.write_packet_ipv6.ensures.refused
    (icmpv6_written c.args.icmp_type c.args.source c.in_ok-destination.destination c.in_ok-destination.quote.now c.args.hop_limit is
    (length c.args.slice.now) few (search rules)) in
    let packet : List ℕ = c.args.packet.now in
    let quote : List ℕ = c.in_ok-destination.quote.now in
    let header = icmpv6_header c.args.icmp_type in
    let rest : List ℕ = drop (48 + length quote) c.args.slice.now in
    let from : List ℕ = slice_range packet 8 24 in
    let Read : List ℕ → List ℕ → Type 0 = λ to part.
    IsReadAs (ipv6_packet c.args.source to c.args.hop_limit header part ++ rest) (addresses.Ipv6 c.args.source (Some to))
    (sent_over_ipv6 c.args.source to header part) part in
    let Is : List ℕ → Type 0 = λ bytes.
    IsReadAs bytes (addresses.Ipv6 c.args.source (Some from)) (sent_over_ipv6 c.args.source from header (ipv6_quote packet))
    (ipv6_quote packet) in
    let reads = at_ok c.write_packet_ipv6.result _ accepted c.write_packet_ipv6.ensures.read in
    subst Is (sym (returns-clause-written c))
    (subst (Read from) c.in_ok-destination.ensures.quote
    (subst (λ to. Read to quote) c.in_ok-destination.ensures.source (reads rest)))

pub returns-clause-quoted : goal.returns-clause-quoted
returns-clause-quoted c =
    let is : is_icmpv6_error_type c.args.icmp_type ≡ true = sym c.is_icmpv6_error_type.ensures ∙ c.if-not-is_icmpv6_error_type.false in
    let quote : List ℕ = c.in_ok-destination.quote.now in
    let to : List ℕ = slice_range c.args.packet.now 8 24 in
    let to_len : length to ≡ 16 = ap length (sym c.in_ok-destination.ensures.source) ∙ search rules in
    ap (λ bytes. quoted_by_icmpv6 (slice_range bytes 40 (48 + length quote))) (returns-clause-written c)
    ∙ icmpv6_quoted c.args.icmp_type c.args.source to (ipv6_quote c.args.packet.now) c.args.hop_limit is (search rules) to_len
    (drop (48 + length quote) c.args.slice.now) (48 + length quote) (ap (λ part. 48 + length part) c.in_ok-destination.ensures.quote)
