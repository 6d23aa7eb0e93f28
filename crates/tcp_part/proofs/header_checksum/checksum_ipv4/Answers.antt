use Rattle.std.proofs.Common.{◌≡◌, ◌+◌, length, arith, rules}
use Rattle.net_base.specs.Bytes.{IsBytes}
use Rattle.net_base.specs.PseudoHeader.{ipv4_pseudo_header, max_len_over_ipv4}
use Rattle.word_sum.proofs.ChecksumLemmas.{checksum_verifies}
use Rattle.tcp_part.proofs.Agreement.{agrees}
use Rattle.tcp_part.proofs.ChecksumLemmas.{checksum_from_pseudo_header}
use Rattle.tcp_part.proofs.TcpValidityLemmas.{built_valid}
use Rattle.tcp_part.proofs.header_checksum.checksum_ipv4.Goals as goal

pub returns-clause-sum : goal.returns-clause-sum
returns-clause-sum c =
    let counted : c.in_ok-len.len ≡ length c.args.header.now + length c.args.payload.now = c.in_ok-len.ensures.len in
    checksum_from_pseudo_header (ipv4_pseudo_header c.args.source c.args.destination 6) _ _ c.args.header.now c.args.payload.now _
    counted c.pseudo_header_ipv4-pseudo_header.ensures.sum c.checksum_post_ip.ensures

pub returns-clause-verifies : goal.returns-clause-verifies
returns-clause-verifies c = checksum_verifies _ _ (returns-clause-sum c)

pub returns-clause-agrees : goal.returns-clause-agrees
returns-clause-agrees c = λ five whole.
    let fits : IsBytes c.args.header.now = λ place. (c.type_inv.header place).fits in
    rw (returns-clause-sum c)
    (agrees c.args.header.now c.args.payload.now (λ len. ipv4_pseudo_header c.args.source c.args.destination 6 len) fits five whole)

pub returns-clause-valid : goal.returns-clause-valid
returns-clause-valid c = λ even.
    built_valid max_len_over_ipv4 (ipv4_pseudo_header c.args.source c.args.destination 6) c.args.header.now c.args.payload.now _
    (omega arith) even (search rules)
    (omega (arith, c.in_ok-len.ensures.len)) (returns-clause-verifies c)
