use Rattle.std.proofs.Common.{◌≢◌, List, ℕ, sym, ◌∙◌, arith}
use Rattle.ip_translation.specs.QuotedToIpv6 as specs
use Rattle.ip_translation.specs.HeadersToIpv6.{protocol}
use Rattle.ip_translation.proofs.ErrorLemmas.{no_protocol}
use Rattle.ip_translation.proofs.quoted_to_ipv6.write_quote.Goals as goal

pub returns : goal.returns
returns c =
    let header : List ℕ = c.args.header.now in
    let message : List ℕ = c.args.message.now in
    let no_icmp : protocol header ≢ 1 = grind (arith, c.if-protocol.false, c.protocol.ensures) in
    let no_udp : protocol header ≢ 17 = grind (arith, c.if-protocol-2.false, c.protocol-2.ensures) in
    let no_tcp : protocol header ≢ 6 = grind (arith, c.if-protocol-3.false, c.protocol-3.ensures) in
    c.copy_from_slice.ensures.after
    ∙ sym (
    no_protocol 1 (protocol header) (specs.quoted_icmp c.args.prefixes.now header message)
    (specs.quoted_udp c.args.prefixes.now header message)
    (specs.quoted_tcp c.args.prefixes.now header message) message no_icmp no_udp no_tcp)
