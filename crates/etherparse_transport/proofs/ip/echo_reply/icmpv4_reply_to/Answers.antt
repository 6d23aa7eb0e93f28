use Rattle.std.proofs.Common.{◌≡◌, ◌+◌, ◌<◌, List, ℕ, drop, sym, ap, ◌∙◌, arith}
use Rattle.icmp_part.specs.IcmpEcho.{echo_fields}
use Rattle.icmp_part.specs.Icmpv4Format.{checksummed}
use Rattle.icmp_part.specs.declared.icmp_echo_header.IcmpEchoHeader.{IcmpEchoHeader}
use Rattle.icmp_part.specs.declared.icmpv4_type.Icmpv4Type.TheVariants.{EchoReply, EchoRequest}
use Rattle.word_sum.specs.Checksum.{IsAllOnes, checksum_of, folded, total}
use Rattle.word_sum.specs.ChecksumChange.{TurnsInto}
use Rattle.word_sum.proofs.ChecksumLemmas.{folded-small}
use Rattle.etherparse_transport.specs.EchoReplies.{icmpv4_reply}
use Rattle.etherparse_transport.proofs.EchoReplyLemmas.{IsEchoRequest, below_all_ones, icmpv4_request, message_total, only_checksum}
use Rattle.etherparse_transport.proofs.ip.echo_reply.icmpv4_reply_to.Goals as goal

pub returns-clause-header : goal.returns-clause-header
returns-clause-header c =
    let message : List ℕ = c.args.request.now in
    let payload : List ℕ = drop 8 message in
    let echo : IcmpEchoHeader = c.from_bytes-echo.result in
    let stored : ℕ = c.from_be_bytes.result in
    let checksum : ℕ = c.apply-checksum.result in
    let packet : ℕ = checksummed (record { icmp_type = EchoRequest echo; checksum = 0 }) payload in
    let changed : ℕ = checksummed (record { icmp_type = EchoReply echo; checksum = 0 }) payload in
    let request : IsEchoRequest 8 message (total message) = icmpv4_request message c.requires.accepted in
    let turns : TurnsInto c.replace_2bytes-change.result packet changed =
    c.replace_2bytes-change.ensures.extends packet packet changed (omega arith) (c.new.ensures.unchanged packet) in
    let whole : total message ≡ packet + stored =
    omega (
      arith,
      message_total message (echo_fields echo) request.shortest c.from_bytes-echo.ensures.written_back,
      request.type_is,
      request.code_is,
      c.from_be_bytes.ensures,
    ) in
    let ones : IsAllOnes (packet + stored) = ap folded (sym whole) ∙ request.ones in
    let removed = ap (λ n. folded (n + 2048)) c.new.ensures.removed ∙ folded-small 2048 (omega arith) in
    let small : checksum < 65535 =
    rw c.apply-checksum.ensures.equation (below_all_ones _ (omega (arith, c.replace_2bytes-change.ensures.removed, removed))) in
    let is : checksum ≡ checksum_of changed =
    only_checksum changed checksum small ((c.apply-checksum.ensures.verifies packet changed turns ones).1
    (λ none. c.if-checksum-eq0.false (omega (arith, none)))) in
    ap (λ checksum. record { icmp_type = EchoReply echo; checksum = checksum }) is
    ∙ ap (λ echo. icmpv4_reply echo payload) c.from_bytes-echo.ensures.read
