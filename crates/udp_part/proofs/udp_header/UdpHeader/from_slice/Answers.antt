use Rattle.std.proofs.Common.{rules}
use Rattle.std.proofs.lemmas.List.{take_rest}
use Rattle.net_base.specs.Bytes.{IsBytes}
use Rattle.udp_part.proofs.UdpFormatLemmas.{decode_alike, decoded, written_back}
use Rattle.udp_part.proofs.udp_header.UdpHeader.from_slice.Goals as goal

pub returns-clause-read : goal.returns-clause-read
returns-clause-read c =
    decoded c.args.slice.now c.in_ok-header.header _ _ (search rules) (search rules) (search rules) (take_rest c.args.slice.now 8)

pub returns-clause-written_back : goal.returns-clause-written_back
returns-clause-written_back c =
    let fits : IsBytes c.args.slice.now = λ place. (c.type_inv.slice place).fits in
    written_back c.args.slice.now c.to_header.result _ fits (returns-clause-read c)

pub returns-clause-decode_alike : goal.returns-clause-decode_alike
returns-clause-decode_alike c =
    let fits : IsBytes c.args.slice.now = λ place. (c.type_inv.slice place).fits in
    λ other other_fits accepted. decode_alike c.args.slice.now other c.to_header.result _ fits other_fits accepted (returns-clause-read c)
