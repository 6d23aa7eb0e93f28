use Rattle.std.proofs.Common.{◌<◌, rules, subst, sym, arith}
use Rattle.net_base.specs.IpNumbers.{icmpv6_number}
use Rattle.net_base.proofs.PseudoHeaderLemmas.{ipv6_pseudo_header_some}
use Rattle.word_sum.specs.Checksum.{total}
use Rattle.ip_translation.proofs.echo_translation.icmpv6_pseudo_header.Goals as goal

pub returns-clause-some : goal.returns-clause-some
returns-clause-some c =
    subst (λ bytes. 0 < total bytes) (sym c.pseudo_header_bytes.ensures)
    (ipv6_pseudo_header_some c.args.source c.args.destination icmpv6_number c.args.len (search rules) (search rules) (omega arith))
