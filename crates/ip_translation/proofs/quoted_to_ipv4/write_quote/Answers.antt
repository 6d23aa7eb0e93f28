use Rattle.std.proofs.Common.{◌≢◌, List, ℕ, sym, ◌∙◌, arith}
use Rattle.ip_translation.specs.QuotedToIpv4 as specs
use Rattle.ip_translation.specs.HeadersToIpv4.{next_header}
use Rattle.ip_translation.proofs.ErrorLemmas.{no_protocol}
use Rattle.ip_translation.proofs.quoted_to_ipv4.write_quote.Goals as goal

pub returns : goal.returns
returns c =
    let header : List ℕ = c.args.header.now in
    let message : List ℕ = c.args.message.now in
    let no_icmp : next_header header ≢ 58 = grind (arith, c.if-next_header.false, c.next_header.ensures) in
    let no_udp : next_header header ≢ 17 = grind (arith, c.if-next_header-2.false, c.next_header-2.ensures) in
    let no_tcp : next_header header ≢ 6 = grind (arith, c.if-next_header-3.false, c.next_header-3.ensures) in
    c.copy_from_slice.ensures.after
    ∙ sym (
    no_protocol 58 (next_header header) (specs.quoted_icmp header message) (specs.quoted_udp c.args.prefixes.now header message)
    (specs.quoted_tcp c.args.prefixes.now header message) message no_icmp no_udp no_tcp)
