use Rattle.std.proofs.Common.{sym}
use Rattle.net_base.specs.Bytes.{IsBytes}
use Rattle.icmp_part.proofs.Icmpv6FormatLemmas.{length_wire}
use Rattle.icmp_part.proofs.icmpv6_slice.header_len.Goals as goal

pub returns-clause-written : goal.returns-clause-written
returns-clause-written c =
    let fits : IsBytes c.args.packet.now = λ place. (c.type_inv.packet place).fits in
    sym (length_wire c.args.packet.now fits c.requires)
