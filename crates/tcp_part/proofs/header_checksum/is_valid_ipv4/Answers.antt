use Rattle.std.proofs.Common.{arith}
use Rattle.net_base.specs.PseudoHeader.{ipv4_pseudo_header, max_len_over_ipv4}
use Rattle.tcp_part.proofs.TcpValidityLemmas.{tested}
use Rattle.tcp_part.proofs.header_checksum.is_valid_ipv4.Goals as goal

pub returns-in-Ok-clause-valid : goal.returns-in-Ok-clause-valid
returns-in-Ok-clause-valid c = λ even.
    let same = tested max_len_over_ipv4 (ipv4_pseudo_header c.args.source c.args.destination 6) c.args.header.now c.args.payload.now
    c.in-Ok.len _
    c.in-Ok.ensures.len (omega arith) c.pseudo_header_ipv4.ensures.sum in (
      λ right. same.0 ((c.verifies.ensures even).0 right),
      λ valid. (c.verifies.ensures even).1 (same.1 valid),
    )
