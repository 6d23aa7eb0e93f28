use Rattle.std.proofs.Common.{◌≡◌, true, None, List, ℕ, [], ap, ◌∙◌, refl, slice_range, subst, sym}
use Rattle.net_base.specs.Refusals.{first_of}
use Rattle.word_sum.specs.Checksum.{Verifies}
use Rattle.etherparse_transport.specs.EchoReplies.{is_host_ipv4}
use Rattle.etherparse_transport.proofs.EchoRequestLemmas.{IsIpv4Echo, addresses_of, ipv4_echo, ipv4_request_of, ipv4_rules_left, last_rules, source_of}
use Rattle.etherparse_transport.proofs.ReplyToLemmas.{ipv4_request_carried}
use Rattle.etherparse_transport.proofs.ip.echo_reply.ipv4_request.Goals as goal

pub returns-then-not-is_checksum_valid-clause-refused : goal.returns-then-not-is_checksum_valid-clause-refused
returns-then-not-is_checksum_valid-clause-refused c =
    let packet : List ℕ = c.args.packet.now in
    let is : IsIpv4Echo packet c.in-Some.header c.in_ok-found.found =
    ipv4_echo c.args.packet.now c.in-Some.header c.slice-header_len.result.now c.options.result.now c.in_ok-found.found c.are_padding.result
    c.in_ok-found.ensures.accepted c.in_ok-found.ensures.found
    (c.in-Some.ensures.found.0 refl) c.in_ok-found.ensures.stated c.in_ok-found.ensures.whole
    c.in-Some.ensures.kept c.slice-header_len.ensures c.in_ok-check_transport.ensures c.options.ensures c.are_padding.ensures
    c.if-not-are_padding.false
    c.in_ok-check_icmpv4.ensures in
    ipv4_rules_left packet c.in-Some.header c.in_ok-found.found c.is_checksum_valid.result is c.is_checksum_valid.ensures.valid
    ∙ ap (λ valid. first_of (last_rules true None valid (is_host_ipv4 (slice_range packet 12 16)))) c.if-not-is_checksum_valid.true

pub returns-then-not-is_host_ipv4-clause-refused : goal.returns-then-not-is_host_ipv4-clause-refused
returns-then-not-is_host_ipv4-clause-refused c =
    let packet : List ℕ = c.args.packet.now in
    let is : IsIpv4Echo packet c.in-Some.header c.in_ok-found.found =
    ipv4_echo c.args.packet.now c.in-Some.header c.slice-header_len.result.now c.options.result.now c.in_ok-found.found c.are_padding.result
    c.in_ok-found.ensures.accepted c.in_ok-found.ensures.found
    (c.in-Some.ensures.found.0 refl) c.in_ok-found.ensures.stated c.in_ok-found.ensures.whole
    c.in-Some.ensures.kept c.slice-header_len.ensures c.in_ok-check_transport.ensures c.options.ensures c.are_padding.ensures
    c.if-not-are_padding.false
    c.in_ok-check_icmpv4.ensures in
    let source_is : c.to_header-addresses.result.source ≡ slice_range packet 12 16 =
    source_of packet c.in-Some.header c.to_header-addresses.result is.begins is.kept c.to_header-addresses.ensures in
    ipv4_rules_left packet c.in-Some.header c.in_ok-found.found c.is_checksum_valid.result is c.is_checksum_valid.ensures.valid
    ∙ ap (λ valid. first_of (last_rules true None valid (is_host_ipv4 (slice_range packet 12 16)))) c.if-not-is_checksum_valid.false
    ∙ ap (λ host. first_of (last_rules true None true host))
    (sym (ap is_host_ipv4 source_is) ∙ sym c.is_host_ipv4.ensures ∙ c.if-not-is_host_ipv4.true)

pub returns-clause-refused : goal.returns-clause-refused
returns-clause-refused c =
    let packet : List ℕ = c.args.packet.now in
    let is : IsIpv4Echo packet c.in-Some.header c.in_ok-found.found =
    ipv4_echo c.args.packet.now c.in-Some.header c.slice-header_len.result.now c.options.result.now c.in_ok-found.found c.are_padding.result
    c.in_ok-found.ensures.accepted c.in_ok-found.ensures.found
    (c.in-Some.ensures.found.0 refl) c.in_ok-found.ensures.stated c.in_ok-found.ensures.whole
    c.in-Some.ensures.kept c.slice-header_len.ensures c.in_ok-check_transport.ensures c.options.ensures c.are_padding.ensures
    c.if-not-are_padding.false
    c.in_ok-check_icmpv4.ensures in
    let source_is : c.to_header-addresses.result.source ≡ slice_range packet 12 16 =
    source_of packet c.in-Some.header c.to_header-addresses.result is.begins is.kept c.to_header-addresses.ensures in
    ipv4_rules_left packet c.in-Some.header c.in_ok-found.found c.is_checksum_valid.result is c.is_checksum_valid.ensures.valid
    ∙ ap (λ valid. first_of (last_rules true None valid (is_host_ipv4 (slice_range packet 12 16)))) c.if-not-is_checksum_valid.false
    ∙ ap (λ host. first_of (last_rules true None true host))
    (sym (ap is_host_ipv4 source_is) ∙ sym c.is_host_ipv4.ensures ∙ c.if-not-is_host_ipv4.false)

pub returns-clause-addresses : goal.returns-clause-addresses
returns-clause-addresses c =
    addresses_of c.args.packet.now c.in-Some.header c.to_header-addresses.result (c.in-Some.ensures.found.0 refl) c.in-Some.ensures.kept
    c.to_header-addresses.ensures

pub returns-clause-request : goal.returns-clause-request
returns-clause-request c =
    let packet : List ℕ = c.args.packet.now in
    let is : IsIpv4Echo packet c.in-Some.header c.in_ok-found.found =
    ipv4_echo c.args.packet.now c.in-Some.header c.slice-header_len.result.now c.options.result.now c.in_ok-found.found c.are_padding.result
    c.in_ok-found.ensures.accepted c.in_ok-found.ensures.found
    (c.in-Some.ensures.found.0 refl) c.in_ok-found.ensures.stated c.in_ok-found.ensures.whole
    c.in-Some.ensures.kept c.slice-header_len.ensures c.in_ok-check_transport.ensures c.options.ensures c.are_padding.ensures
    c.if-not-are_padding.false
    c.in_ok-check_icmpv4.ensures in
    ipv4_request_of packet c.in_ok-found.found is.carries
    (c.in_ok-found.ensures.over_ipv4 is.begins.is_version_4) is.begins is.stated is.whole
    is.transport is.message (subst (Verifies []) is.kept (c.is_checksum_valid.ensures.valid.0 c.if-not-is_checksum_valid.false))

pub returns-clause-carried : goal.returns-clause-carried
returns-clause-carried c =
    let packet : List ℕ = c.args.packet.now in
    let is : IsIpv4Echo packet c.in-Some.header c.in_ok-found.found =
    ipv4_echo c.args.packet.now c.in-Some.header c.slice-header_len.result.now c.options.result.now c.in_ok-found.found c.are_padding.result
    c.in_ok-found.ensures.accepted c.in_ok-found.ensures.found
    (c.in-Some.ensures.found.0 refl) c.in_ok-found.ensures.stated c.in_ok-found.ensures.whole
    c.in-Some.ensures.kept c.slice-header_len.ensures c.in_ok-check_transport.ensures c.options.ensures c.are_padding.ensures
    c.if-not-are_padding.false
    c.in_ok-check_icmpv4.ensures in
    ipv4_request_carried packet c.in_ok-found.found is.accepted is.carries is.begins is.stated is.whole is.transport is.padding
