use Rattle.std.proofs.Common.{◌≡◌, ◌++◌, ◌∷◌, [], List, ℕ, false, ap, arith, drop, length, rules, slice_range, subst, sym, take, unwrap_or, ◌∙◌}
use Rattle.std.proofs.lemmas.List.{length-take-le}
use Rattle.icmp_part.specs.IcmpEcho.{echo_of}
use Rattle.icmp_part.specs.Icmpv4Format.{wire}
use Rattle.icmp_part.specs.declared.icmpv4_header.Icmpv4Header.{Icmpv4Header}
use Rattle.ip_part.specs.Addresses as addresses
use Rattle.ip_part.specs.Ip as ip
use Rattle.net_base.specs.IpHeaders.{ipv4_header_of}
use Rattle.word_sum.specs.Checksum.{Verifies, checksum_of, total}
use Rattle.etherparse_transport.specs.EchoReplies.{IsPlainRequest, icmpv4_refusal, icmpv4_reply_to, ipv4_reply_start, message_after}
use Rattle.etherparse_transport.specs.Formats.{IsReadBack}
use Rattle.etherparse_transport.specs.Packets.{IsReadAs, ipv4_fields}
use Rattle.etherparse_transport.specs.declared.transport_header.TransportHeader.TheVariants as headers
use Rattle.etherparse_transport.proofs.EchoReplyLemmas.{first_four, ipv4_reply_read, ipv4_reply_verifies, ipv4_written}
use Rattle.etherparse_transport.proofs.EchoRequestLemmas.{message_range}
use Rattle.etherparse_transport.proofs.TranslationSums.{range_in_front}
use Rattle.etherparse_transport.specs.ReplyTo.{IsReplyTo, echoed}
use Rattle.etherparse_transport.proofs.ReplyToLemmas.{ipv4_is_reply}
use Rattle.etherparse_transport.proofs.ip.echo_reply.reply_ipv4.Goals as goal

-- the message is the range from the end of the header to the length of the packet
message : (packet : List ℕ) (len : ℕ) → IsPlainRequest packet → len ≡ ip.counted_len false packet
    → slice_range packet 20 len ≡ message_after 20 packet
message packet len is len_is = ap (slice_range packet 20) len_is ∙ message_range 20 packet (omega (arith, is.end))

pub icmpv4_reply_to-reply-requires : goal.icmpv4_reply_to-reply-requires
icmpv4_reply_to-reply-requires c =
    let is : IsPlainRequest c.args.packet.now = c.requires.request in
    record { accepted = ap icmpv4_refusal (message c.args.packet.now c.from.result is (c.from.ensures ∙ c.requires.len)) ∙ is.message }

source : (c : goal.After-slice_known-2-1) → c.unwrap_or-source.result ≡ unwrap_or c.args.passed (slice_range c.args.packet.now 16 20)
source c =
    let is : c.args.between.now ≡ ipv4_header_of c.args.packet.now = c.requires.addresses in
    c.unwrap_or-source.ensures ∙ ap (λ addresses. unwrap_or c.args.passed addresses.destination) is

source_len : (c : goal.After-slice_known-2-1) → length (unwrap_or c.args.passed (slice_range c.args.packet.now 16 20)) ≡ 4
source_len c = let len : length c.unwrap_or-source.result ≡ 4 = search rules in ap length (sym (source c)) ∙ len

destination_len : (c : goal.After-slice_known-2-1) → length (slice_range c.args.packet.now 12 16) ≡ 4
destination_len c =
    let is : c.args.between.now ≡ ipv4_header_of c.args.packet.now = c.requires.addresses in
    let len : length c.args.between.now.source ≡ 4 = search rules in
    ap (λ addresses. length addresses.source) (sym is) ∙ len

reply : (c : goal.After-slice_known-2-1) → c.icmpv4_reply_to-reply.result ≡ icmpv4_reply_to (message_after 20 c.args.packet.now)
reply c =
    c.icmpv4_reply_to-reply.ensures.header ∙ ap icmpv4_reply_to (message c.args.packet.now c.from.result c.requires.request
    (c.from.ensures ∙ c.requires.len))

-- the reply repeats the identifier, the sequence number and the data of the request
abbrev pub IsSame : List ℕ → Type 0
IsSame message = echoed (wire (icmpv4_reply_to message) ++ drop 8 message) ≡ echoed message

same : (c : goal.After-slice_known-2-1) → IsSame (message_after 20 c.args.packet.now)
same c = subst IsSame (message c.args.packet.now c.from.result c.requires.request (c.from.ensures ∙ c.requires.len))
    c.icmpv4_reply_to-reply.ensures.echoed

pub reply_header_checksum-checksum-requires-clause-len : goal.reply_header_checksum-checksum-requires-clause-len
reply_header_checksum-checksum-requires-clause-len c =
    let is : IsPlainRequest c.args.packet.now = c.requires.request in
    length-take-le 20 c.args.packet.now (omega (arith, is.end, is.there))

pub returns-clause-answered : goal.returns-clause-answered
returns-clause-answered c =
    let packet : List ℕ = c.args.packet.now in
    let header : List ℕ = take 20 packet in
    let time_to_live : ℕ = c.args.time_to_live in
    let found : List ℕ = c.unwrap_or-source.result in
    let from : List ℕ = unwrap_or c.args.passed (slice_range packet 16 20) in
    let receiver : List ℕ = slice_range packet 12 16 in
    let is : c.args.between.now ≡ ipv4_header_of packet = c.requires.addresses in
    let start : c.ipv4_reply_start-start.result ≡ ipv4_reply_start packet = c.ipv4_reply_start-start.ensures in
    let checksum : ℕ = c.reply_header_checksum-checksum.result in
    let checksum_is : checksum ≡ checksum_of (total (ipv4_fields (ipv4_reply_start packet) time_to_live 1 from receiver 0)) =
    c.reply_header_checksum-checksum.ensures
    ∙ ap (λ start. checksum_of (total (ipv4_fields start time_to_live 1 (unwrap_or c.args.passed (slice_range header 16 20))
    (slice_range header 12 16) 0))) (ap (λ bytes. bytes ++ (0x40 ∷ 0 ∷ [])) (range_in_front 0 6 20 packet (omega arith)))
    ∙ ap (λ receiver. checksum_of (total (ipv4_fields (ipv4_reply_start packet) time_to_live 1
    (unwrap_or c.args.passed (slice_range header 16 20)) receiver 0))) (range_in_front 12 4 20 packet (omega arith))
    ∙ ap (λ destination. checksum_of
    (total (ipv4_fields (ipv4_reply_start packet) time_to_live 1 (unwrap_or c.args.passed destination) receiver 0)))
    (range_in_front 16 4 20 packet (omega arith)) in
    let first = c.deref-5.ensures.0 ∙ c.ipv4_fields-ip_header.ensures
    ∙ ap (λ middle. c.ipv4_reply_start-start.result ++ (middle ++ (found ++ c.args.between.now.source))) c.ipv4_middle-middle.ensures
    ∙ ap (λ start. ipv4_fields start time_to_live 1 found c.args.between.now.source checksum) start
    ∙ ap (λ source. ipv4_fields (ipv4_reply_start packet) time_to_live 1 source c.args.between.now.source checksum) (source c)
    ∙ ap (λ addresses. ipv4_fields (ipv4_reply_start packet) time_to_live 1 from addresses.source checksum) is
    ∙ ap (ipv4_fields (ipv4_reply_start packet) time_to_live 1 from receiver) checksum_is in
    let second = c.to_bytes-header.ensures.written ∙ ap wire (reply c) in
    ipv4_written packet _ _ _ from time_to_live c.requires.request (source_len c) (destination_len c) first
    (first_four _ _ _ _ _ (c.deref.ensures.0 ∙ second) (c.deref-2.ensures.0 ∙ second) (c.deref-3.ensures.0 ∙ second)
    (c.deref-4.ensures.0 ∙ second)) (same c)
    c.replace_front.ensures

pub returns-clause-read : goal.returns-clause-read
returns-clause-read c =
    let packet : List ℕ = c.args.packet.now in
    let from : List ℕ = unwrap_or c.args.passed (slice_range packet 16 20) in
    let payload : List ℕ = drop 8 (message_after 20 packet) in
    let IsBack : Icmpv4Header → Type 0 = λ header. IsReadBack (headers.Icmpv4 header) payload in
    let IsRead : List ℕ → Type 0 =
    λ bytes. IsReadAs bytes (addresses.Ipv4 from (slice_range packet 12 16))
    (headers.Icmpv4 (icmpv4_reply_to (message_after 20 packet))) payload in
    subst IsRead (sym (returns-clause-answered c))
    (ipv4_reply_read packet from (slice_range packet 12 16) c.args.time_to_live (echo_of (message_after 20 packet) 4) c.requires.request
    (source_len c)
    (destination_len c) (subst IsBack (reply c) (c.to_bytes-header.ensures.reads_back payload)))

pub returns-clause-verifies : goal.returns-clause-verifies
returns-clause-verifies c =
    let packet : List ℕ = c.args.packet.now in
    let from : List ℕ = unwrap_or c.args.passed (slice_range packet 16 20) in
    let Sums : List ℕ → Type 0 = λ bytes. Verifies [] (ip.ipv4_header bytes) in
    subst Sums (sym (returns-clause-answered c))
    (ipv4_reply_verifies packet from (slice_range packet 12 16) _ c.args.time_to_live c.requires.request (source_len c) (destination_len c))

pub returns-clause-replies : goal.returns-clause-replies
returns-clause-replies c request answers carried =
    let packet : List ℕ = c.args.packet.now in
    let is : IsPlainRequest packet = c.requires.request in
    let from : List ℕ = unwrap_or c.args.passed (slice_range packet 16 20) in
    let payload : List ℕ = drop 8 (message_after 20 packet) in
    let IsBack : Icmpv4Header → Type 0 = λ header. IsReadBack (headers.Icmpv4 header) payload in
    subst (IsReplyTo request) (sym (returns-clause-answered c))
    (ipv4_is_reply request packet from c.args.time_to_live is carried (source_len c) (destination_len c)
    (subst IsBack (reply c) (c.to_bytes-header.ensures.reads_back payload)).accepted
    (same c)
    (ipv4_reply_verifies packet from (slice_range packet 12 16) _ c.args.time_to_live is (source_len c) (destination_len c)) answers)
