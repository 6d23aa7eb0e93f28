use Rattle.std.proofs.Common.{◌≡◌, ◌==◌, false, Ok, if◌then◌else◌, take, drop, sym, ◌∙◌, ap, subst}
use Rattle.std.specs.Option.{option_map}
use Rattle.net_base.specs.IpHeaders.{BeginsWithIpv4Header, BeginsWithIpv6Header, version}
use Rattle.ip_part.specs.Ip.{counted, counted_len, headers_of}
use Rattle.reassembly.proofs.FragmentLemmas.{begins_with_ipv4, begins_with_ipv6, equal_four, other_than_four, refused_ipv6}
use Rattle.reassembly.specs.Fragments.{by_value, first_refusal, fragment_of, ipv4_fragment_in, ipv6_fragment_in}
use Rattle.reassembly.proofs.fragment.fragment_in.Goals as goal

pub fragment_over_ipv4-requires : goal.fragment_over_ipv4-requires
fragment_over_ipv4-requires c =
    let packet = c.args.packet.now in
    let len_is : c.in-Ok.transport.counted_len ≡ counted_len false packet =
    c.in-Ok.ensures.found.counted_len ∙ ap (λ missing. counted_len missing packet) c.in-Ok.ensures.stated in
    subst (λ n. BeginsWithIpv4Header (take n packet)) (sym len_is)
    (begins_with_ipv4 packet c.in-Ok.ensures.refused (equal_four packet c.if-packet-eq4.true))

pub fragment_over_ipv6-fragment-requires : goal.fragment_over_ipv6-fragment-requires
fragment_over_ipv6-fragment-requires c =
    let packet = c.args.packet.now in
    let len_is : c.in-Ok.transport.counted_len ≡ counted_len false packet =
    c.in-Ok.ensures.found.counted_len ∙ ap (λ missing. counted_len missing packet) c.in-Ok.ensures.stated in
    subst (λ n. BeginsWithIpv6Header (take n packet)) (sym len_is)
    (begins_with_ipv6 packet c.in-Ok.ensures.refused (other_than_four packet c.if-packet-eq4.false))

pub returns-clause-refused : goal.returns-clause-refused
returns-clause-refused c =
    let packet = c.args.packet.now in
    let found = c.in-Ok.ensures in
    let other : (version packet == 4) ≡ false = other_than_four packet c.if-packet-eq4.false in
    let len_is : c.in-Ok.transport.counted_len ≡ counted_len false packet =
    found.found.counted_len ∙ ap (λ missing. counted_len missing packet) found.stated in
    let read : headers_of false packet ≡ Ok found.found.headers =
    sym (ap (λ missing. headers_of missing packet) found.stated) ∙ found.found.read in
    let payload_is : c.in-Ok.transport.payload.now ≡ drop found.found.headers.len (counted false packet) =
    found.found.payload ∙ ap (λ missing. drop found.found.headers.len (counted missing packet)) found.stated in
    let fragment_is : fragment_of packet ≡ option_map by_value c.fragment_over_ipv6-fragment.result =
    ap (λ b. if b then ipv4_fragment_in (counted false packet) else ipv6_fragment_in (counted false packet)) other
    ∙ ap (λ n. ipv6_fragment_in (take n packet)) (sym len_is) ∙ sym c.fragment_over_ipv6-fragment.ensures in
    refused_ipv6 packet c.in-Ok.transport.payload.now c.in-Ok.transport.protocol.0 found.found.headers found.refused other read
    (ap (λ protocol. protocol.0) found.found.protocol) payload_is
    ∙ ap (λ fragment. first_refusal fragment c.in-Ok.transport.protocol.0 c.in-Ok.transport.payload.now) fragment_is
    ∙ c.in_ok-check_header_chain.ensures
