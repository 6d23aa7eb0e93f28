use Rattle.std.proofs.Common.{◌∙◌, Some, ap, arith, sym}
use Rattle.net_base.specs.IpHeaders.{ipv4_header_len}
use Rattle.ip_part.proofs.FixedHeaderLemmas.{ipv4_fixed}
use Rattle.ip_part.proofs.ip_header.read_ipv4_header_with_len.Goals as goal

pub returns-clause-fixed : goal.returns-clause-fixed
returns-clause-fixed c =
    let header = c.in_ok-header.ensures in
    ipv4_fixed (ipv4_header_len c.args.packet.now) c.args.packet.now c.in_ok-header.header c.requires
    (omega (arith, header.shortest, header.within)) (omega (arith, header.len, header.shortest)) header.kept
    ∙ ap Some (sym c.ipv4_headers.ensures.fixed)
