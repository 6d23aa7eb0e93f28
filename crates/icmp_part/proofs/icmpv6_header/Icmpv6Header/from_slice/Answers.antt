use Rattle.std.proofs.Common.{rules}
use Rattle.std.proofs.Math.Seq.{take-length}
use Rattle.net_base.specs.Bytes.{IsBytes}
use Rattle.icmp_part.specs.Icmpv6Format.{DecodesAs}
use Rattle.icmp_part.proofs.Icmpv6FormatLemmas.{decode_alike, written_back}
use Rattle.icmp_part.proofs.icmpv6_header.Icmpv6Header.from_slice.Goals as goal

pub returns-clause-written_back : goal.returns-clause-written_back
returns-clause-written_back c =
    let fits : IsBytes c.args.slice.now = λ place. (c.type_inv.slice place).fits in
    let read : DecodesAs c.args.slice.now c.header.result c.payload.result.now = search (rules, take-length) in
    written_back c.args.slice.now _ c.payload.result.now fits read

pub returns-clause-decode_alike : goal.returns-clause-decode_alike
returns-clause-decode_alike c =
    let fits : IsBytes c.args.slice.now = λ place. (c.type_inv.slice place).fits in
    let read : DecodesAs c.args.slice.now c.header.result c.payload.result.now = search (rules, take-length) in
    λ other other_fits accepted. decode_alike c.args.slice.now other _ c.payload.result.now fits other_fits read accepted
