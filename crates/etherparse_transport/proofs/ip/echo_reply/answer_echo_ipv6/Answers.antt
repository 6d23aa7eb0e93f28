use Rattle.std.proofs.Common.{◌≡◌, ◌++◌, Some, List, ℕ, false, ap, arith, drop, length, rules, slice_range, subst, sym, take, unwrap_or, ◌∙◌}
use Rattle.icmp_part.specs.IcmpEcho.{echo_of}
use Rattle.icmp_part.specs.Icmpv6Format.{wire}
use Rattle.icmp_part.specs.declared.icmpv6_header.Icmpv6Header.{Icmpv6Header}
use Rattle.ip_part.specs.Addresses as addresses
use Rattle.ip_part.specs.Ip as ip
use Rattle.net_base.specs.IpHeaders.{ipv6_header_of}
use Rattle.net_base.specs.declared.ipv6_header.Ipv6Header.{Ipv6Header}
use Rattle.etherparse_transport.specs.EchoReplies.{IsIpv6Request, icmpv6_refusal, icmpv6_reply_to, message_after}
use Rattle.etherparse_transport.specs.Formats.{IsReadBack}
use Rattle.etherparse_transport.specs.Packets.{IsReadAs, ipv6_header}
use Rattle.etherparse_transport.specs.declared.transport_header.TransportHeader.TheVariants as headers
use Rattle.etherparse_transport.proofs.EchoReplyLemmas.{first_four, icmpv6_reply_accepted, ipv6_reply_read, ipv6_written}
use Rattle.etherparse_transport.proofs.EchoRequestLemmas.{message_range}
use Rattle.etherparse_transport.specs.ReplyTo.{IsReplyTo, echoed}
use Rattle.etherparse_transport.proofs.ReplyToLemmas.{ipv6_is_reply}
use Rattle.etherparse_transport.proofs.ip.echo_reply.answer_echo_ipv6.Goals as goal

-- the message is the range from the end of the header to the length of the packet
message : (packet : List ℕ) (len : ℕ) → IsIpv6Request packet → len ≡ ip.counted_len false packet
    → slice_range packet 40 len ≡ message_after 40 packet
message packet len is len_is = ap (slice_range packet 40) len_is ∙ message_range 40 packet (omega (arith, is.end))

pub icmpv6_reply_to-reply-requires : goal.icmpv6_reply_to-reply-requires
icmpv6_reply_to-reply-requires c =
    let packet : List ℕ = c.args.packet.now in
    let is : IsIpv6Request packet = c.in_ok-addresses.ensures.request in
    let addresses : c.in_ok-addresses.addresses ≡ ipv6_header_of packet = c.in_ok-addresses.ensures.addresses in
    record {
      accepted = ap (icmpv6_refusal c.in_ok-addresses.addresses.source c.in_ok-addresses.addresses.destination)
          (message packet c.in_ok-addresses.len is c.in_ok-addresses.ensures.len)
          ∙ ap (λ addresses. icmpv6_refusal addresses.source addresses.destination (message_after 40 packet)) addresses ∙ is.message;
    }

source : (c : goal.After-slice_known-2-1) → c.unwrap_or-source.result ≡ unwrap_or c.args.source (slice_range c.args.packet.now 24 40)
source c =
    let is : c.in_ok-addresses.addresses ≡ ipv6_header_of c.args.packet.now = c.in_ok-addresses.ensures.addresses in
    c.unwrap_or-source.ensures ∙ ap (λ addresses. unwrap_or c.args.source addresses.destination) is

source_len : (c : goal.After-slice_known-2-1) → length (unwrap_or c.args.source (slice_range c.args.packet.now 24 40)) ≡ 16
source_len c = let len : length c.unwrap_or-source.result ≡ 16 = search rules in ap length (sym (source c)) ∙ len

destination_len : (c : goal.After-slice_known-2-1) → length (slice_range c.args.packet.now 8 24) ≡ 16
destination_len c =
    let is : c.in_ok-addresses.addresses ≡ ipv6_header_of c.args.packet.now = c.in_ok-addresses.ensures.addresses in
    let len : length c.in_ok-addresses.addresses.source ≡ 16 = search rules in
    ap (λ addresses. length addresses.source) (sym is) ∙ len

-- the reply repeats the identifier, the sequence number and the data of the request
abbrev pub IsSame : List ℕ → List ℕ → List ℕ → Type 0
IsSame source destination message = echoed (wire (icmpv6_reply_to source destination message) ++ drop 8 message) ≡ echoed message

reply : (c : goal.After-slice_known-2-1) → c.icmpv6_reply_to-reply.result
    ≡ icmpv6_reply_to (unwrap_or c.args.source (slice_range c.args.packet.now 24 40)) (slice_range c.args.packet.now 8 24)
    (message_after 40 c.args.packet.now)
reply c =
    let packet : List ℕ = c.args.packet.now in
    let is : c.in_ok-addresses.addresses ≡ ipv6_header_of packet = c.in_ok-addresses.ensures.addresses in
    let from : Ipv6Header → List ℕ = λ addresses. unwrap_or c.args.source addresses.destination in
    c.icmpv6_reply_to-reply.ensures.header
    ∙ ap (icmpv6_reply_to (from c.in_ok-addresses.addresses) c.in_ok-addresses.addresses.source)
    (message packet c.in_ok-addresses.len c.in_ok-addresses.ensures.request c.in_ok-addresses.ensures.len)
    ∙ ap (λ addresses. icmpv6_reply_to (from addresses) addresses.source (message_after 40 packet)) is

same : (c : goal.After-slice_known-2-1)
    → IsSame (unwrap_or c.args.source (slice_range c.args.packet.now 24 40)) (slice_range c.args.packet.now 8 24)
    (message_after 40 c.args.packet.now)
same c =
    let packet : List ℕ = c.args.packet.now in
    let is : c.in_ok-addresses.addresses ≡ ipv6_header_of packet = c.in_ok-addresses.ensures.addresses in
    let from : Ipv6Header → List ℕ = λ addresses. unwrap_or c.args.source addresses.destination in
    let given : IsSame (from c.in_ok-addresses.addresses) c.in_ok-addresses.addresses.source (slice_range packet 40 c.in_ok-addresses.len) =
    c.icmpv6_reply_to-reply.ensures.echoed in
    let by_message : IsSame (from c.in_ok-addresses.addresses) c.in_ok-addresses.addresses.source (message_after 40 packet) =
    subst (IsSame (from c.in_ok-addresses.addresses) c.in_ok-addresses.addresses.source)
    (message packet c.in_ok-addresses.len c.in_ok-addresses.ensures.request c.in_ok-addresses.ensures.len) given in
    subst (λ addresses. IsSame (from addresses) addresses.source (message_after 40 packet)) is by_message

pub returns-clause-answered : goal.returns-clause-answered
returns-clause-answered c =
    let packet : List ℕ = c.args.packet.now in
    let is : c.in_ok-addresses.addresses ≡ ipv6_header_of packet = c.in_ok-addresses.ensures.addresses in
    let start : c.copy_from_slice.new.self ≡ take 6 packet = search rules in
    let first = c.deref-5.ensures.0 ∙ c.ipv6_header-ip_header.ensures
    ∙ ap (λ start. ipv6_header start 58 c.args.hop_limit c.unwrap_or-source.result c.in_ok-addresses.addresses.source) start
    ∙ ap (λ source. ipv6_header (take 6 packet) 58 c.args.hop_limit source c.in_ok-addresses.addresses.source) (source c)
    ∙ ap (λ addresses. ipv6_header (take 6 packet) 58 c.args.hop_limit
    (unwrap_or c.args.source (slice_range packet 24 40)) addresses.source) is in
    let second = c.to_bytes-header.ensures.written ∙ ap wire (reply c) in
    ipv6_written packet _ _ _ (unwrap_or c.args.source (slice_range packet 24 40)) c.args.hop_limit c.in_ok-addresses.ensures.request
    (source_len c) (destination_len c)
    first (first_four _ _ _ _ _ (c.deref.ensures.0 ∙ second) (c.deref-2.ensures.0 ∙ second) (c.deref-3.ensures.0 ∙ second)
    (c.deref-4.ensures.0 ∙ second)) (same c) c.replace_front.ensures

pub returns-clause-read : goal.returns-clause-read
returns-clause-read c =
    let packet : List ℕ = c.args.packet.now in
    let from : List ℕ = unwrap_or c.args.source (slice_range packet 24 40) in
    let payload : List ℕ = drop 8 (message_after 40 packet) in
    let IsBack : Icmpv6Header → Type 0 = λ header. IsReadBack (headers.Icmpv6 header) payload in
    let IsRead : List ℕ → Type 0 =
    λ bytes. IsReadAs bytes (addresses.Ipv6 from (Some (slice_range packet 8 24)))
    (headers.Icmpv6 (icmpv6_reply_to from (slice_range packet 8 24) (message_after 40 packet))) payload in
    subst IsRead (sym (returns-clause-answered c))
    (ipv6_reply_read packet from c.args.hop_limit (echo_of (message_after 40 packet) 4) c.in_ok-addresses.ensures.request (source_len c)
    (destination_len c) (subst IsBack (reply c) (c.to_bytes-header.ensures.reads_back payload)))

pub returns-clause-replies : goal.returns-clause-replies
returns-clause-replies c answers =
    let packet : List ℕ = c.args.packet.now in
    let is : IsIpv6Request packet = c.in_ok-addresses.ensures.request in
    let from : List ℕ = unwrap_or c.args.source (slice_range packet 24 40) in
    let payload : List ℕ = drop 8 (message_after 40 packet) in
    let IsBack : Icmpv6Header → Type 0 = λ header. IsReadBack (headers.Icmpv6 header) payload in
    subst (IsReplyTo packet) (sym (returns-clause-answered c))
    (ipv6_is_reply packet from c.args.hop_limit is c.in_ok-addresses.ensures.carried (source_len c) (destination_len c)
    (icmpv6_reply_accepted packet from (echo_of (message_after 40 packet) 4) is
    (subst IsBack (reply c) (c.to_bytes-header.ensures.reads_back payload)))
    (same c) answers)
