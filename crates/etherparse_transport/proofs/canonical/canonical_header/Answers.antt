use Rattle.std.proofs.Common.{rules}
use Rattle.net_base.specs.Bytes.{IsBytes}
use Rattle.etherparse_transport.proofs.CanonicalLemmas.{found_again, found_front}
use Rattle.etherparse_transport.proofs.canonical.canonical_header.Goals as goal

pub returns-in-Udp-clause-header : goal.returns-in-Udp-clause-header
returns-in-Udp-clause-header c =
    found_front c.args.protocol c.args.slice.now (λ found. found.0.items) (λ found. found.1.now) c.canonical_udp.result (search rules)
    (search rules)

pub returns-in-Udp-clause-again : goal.returns-in-Udp-clause-again
returns-in-Udp-clause-again c =
    let fits : IsBytes c.args.slice.now = λ place. (c.type_inv.slice place).fits in
    found_again c.args.protocol c.args.slice.now (λ found. found.0.items) (λ found. found.1.now) c.canonical_udp.result fits (search rules)
    (search rules)

pub returns-in-Tcp-clause-header : goal.returns-in-Tcp-clause-header
returns-in-Tcp-clause-header c =
    found_front c.args.protocol c.args.slice.now (λ found. found.0.items) (λ found. found.1.now) c.canonical_tcp.result (search rules)
    (search rules)

pub returns-in-Tcp-clause-again : goal.returns-in-Tcp-clause-again
returns-in-Tcp-clause-again c =
    let fits : IsBytes c.args.slice.now = λ place. (c.type_inv.slice place).fits in
    found_again c.args.protocol c.args.slice.now (λ found. found.0.items) (λ found. found.1.now) c.canonical_tcp.result fits (search rules)
    (search rules)

pub returns-in-Icmpv4-clause-header : goal.returns-in-Icmpv4-clause-header
returns-in-Icmpv4-clause-header c =
    found_front c.args.protocol c.args.slice.now (λ found. found.0.items) (λ found. found.1.now) c.canonical_icmpv4.result (search rules)
    (search rules)

pub returns-in-Icmpv4-clause-again : goal.returns-in-Icmpv4-clause-again
returns-in-Icmpv4-clause-again c =
    let fits : IsBytes c.args.slice.now = λ place. (c.type_inv.slice place).fits in
    found_again c.args.protocol c.args.slice.now (λ found. found.0.items) (λ found. found.1.now) c.canonical_icmpv4.result fits
    (search rules) (search rules)

pub returns-in-Icmpv6-clause-header : goal.returns-in-Icmpv6-clause-header
returns-in-Icmpv6-clause-header c =
    found_front c.args.protocol c.args.slice.now (λ found. found.0.items) (λ found. found.1.now) c.canonical_icmpv6.result (search rules)
    (search rules)

pub returns-in-Icmpv6-clause-again : goal.returns-in-Icmpv6-clause-again
returns-in-Icmpv6-clause-again c =
    let fits : IsBytes c.args.slice.now = λ place. (c.type_inv.slice place).fits in
    found_again c.args.protocol c.args.slice.now (λ found. found.0.items) (λ found. found.1.now) c.canonical_icmpv6.result fits
    (search rules) (search rules)
