use Rattle.std.proofs.Common.{◌≡◌, ◌≢◌, ◌+◌, ◌<◌, IfSome, List, None, Option, Some, ℕ, drop, ap, length, refl, suc, unwrap_or, zero, ◌∙◌, arith, rules}
use Rattle.icmp_part.specs.declared.icmp_echo_header.IcmpEchoHeader.{IcmpEchoHeader}
use Rattle.icmp_part.specs.declared.icmpv6_type.Icmpv6Type.TheVariants.{EchoReply, EchoRequest}
use Rattle.word_sum.specs.Checksum.{IsAllOnes, checksum_of, folded}
use Rattle.word_sum.specs.ChecksumChange.{TurnsInto, added_value}
use Rattle.word_sum.proofs.ChecksumLemmas.{folded-small}
use Rattle.etherparse_transport.specs.EchoReplies.{icmpv6_reply}
use Rattle.etherparse_transport.proofs.EchoReplyLemmas.{below_all_ones, icmpv6_addresses_changed, icmpv6_request, icmpv6_request_sum, icmpv6_sum, icmpv6_type_changed, only_checksum}
use Rattle.etherparse_transport.proofs.ip.echo_reply.icmpv6_reply_to.Goals as goal

passed_len : (source : Option (List ℕ)) (destination : List ℕ) → IfSome source (λ source. length source ≡ 16) → length destination ≡ 16
    → length (unwrap_or source destination) ≡ 16
passed_len None destination len len_too = len_too
passed_len (Some source) destination len len_too = len

above_0 : (n : ℕ) → n ≢ 0 → 0 < n
above_0 zero some = absurd (some refl)
above_0 (suc n) some = omega arith

pub returns-clause-header : goal.returns-clause-header
returns-clause-header c =
    let message : List ℕ = c.args.request.now in
    let payload : List ℕ = drop 8 message in
    let source : List ℕ = c.args.addresses.now.source in
    let destination : List ℕ = c.args.addresses.now.destination in
    let from : List ℕ = unwrap_or c.args.source destination in
    let echo : IcmpEchoHeader = c.from_bytes-echo.result in
    let checksum : ℕ = c.apply.result in
    let packet : ℕ = icmpv6_sum source destination (EchoRequest echo) payload in
    let between : ℕ = icmpv6_sum source destination (EchoReply echo) payload in
    let changed : ℕ = icmpv6_sum from source (EchoReply echo) payload in
    let turns : TurnsInto c.replace_2bytes-change.result packet between =
    c.replace_2bytes-change.ensures.extends packet packet between (omega (arith, icmpv6_type_changed source destination payload echo))
    (c.new.ensures.unchanged packet) in
    let from_len : length from ≡ 16 = passed_len c.args.source destination (search rules) (search rules) in
    let turns_too : TurnsInto c.replace_ipv6_if_passed-change.result packet changed =
    c.replace_ipv6_if_passed-change.ensures.extends packet between changed
    (icmpv6_addresses_changed source destination from payload echo (search rules) (search rules) from_len) turns in
    let ones : IsAllOnes (packet + c.from_be_bytes.result) =
    icmpv6_request_sum source destination message echo c.from_be_bytes.result
    (icmpv6_request source destination message c.requires.accepted)
    (omega (arith, c.from_be_bytes.ensures)) c.from_bytes-echo.ensures.written_back in
    let type_added : added_value c.replace_2bytes-change.result ≡ 33024 =
    c.replace_2bytes-change.ensures.added ∙ ap (λ n. folded (n + 33024)) c.new.ensures.added ∙ folded-small 33024 (omega arith) in
    let some = above_0 (added_value c.replace_ipv6_if_passed-change.result)
    (c.replace_ipv6_if_passed-change.ensures.some (λ none. absurd (omega (arith, none, type_added)))) in
    let small : checksum < 65535 = rw c.apply.ensures.equation (below_all_ones _ (omega (arith, some))) in
    let is : checksum ≡ checksum_of changed =
    only_checksum changed checksum small ((c.apply.ensures.verifies packet changed turns_too ones).1
    (λ none. absurd (omega (arith, none)))) in
    ap (λ checksum. record { icmp_type = EchoReply echo; checksum = checksum }) is
    ∙ ap (λ echo. icmpv6_reply from source echo payload) c.from_bytes-echo.ensures.read
