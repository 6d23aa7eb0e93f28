use Rattle.std.proofs.Common.{◌≡◌, ◌≢◌, ◌≤◌, ◌+◌, length, ◌∙◌, ap, arith, rules}
use Rattle.net_base.specs.Bytes.{IsBytes}
use Rattle.net_base.specs.PseudoHeader.{ipv6_pseudo_header}
use Rattle.net_base.proofs.PseudoHeaderLemmas.{detects_over_ipv6}
use Rattle.word_sum.specs.Checksum.{complement, folded, total}
use Rattle.word_sum.proofs.ChecksumLemmas.{folded-add}
use Rattle.udp_part.specs.UdpValidity.{checksum_field}
use Rattle.udp_part.proofs.UdpValidityLemmas.{agrees_ipv6, length_field_small, others_ipv6, tested_ipv6}
use Rattle.udp_part.proofs.udp_slice.UdpSlice.is_checksum_valid_ipv6.Goals as goal

-- no length field can count a packet that is too long
pub returns-in_default-clause-agrees : goal.returns-in_default-clause-agrees
returns-in_default-clause-agrees c stores same_len =
    let fits : IsBytes c.args.self.now = λ place. search rules in
    let too_long : 4294967296 ≤ length c.args.self.now = search (rules, arith) in
    absurd (omega (arith, same_len, too_long, length_field_small c.args.self.now fits))

pub returns-then-checksum-ne0-clause-valid : goal.returns-then-checksum-ne0-clause-valid
returns-then-checksum-ne0-clause-valid c =
    let stores : checksum_field c.args.self.now ≢ 0 = search rules in
    let len : c.in-Ok.len ≡ length c.args.self.now = search rules in
    let pseudo = ap (λ n. total (ipv6_pseudo_header c.args.source c.args.destination 17 n)) len in
    let sum = folded-add (total (ipv6_pseudo_header c.args.source c.args.destination 17 c.in-Ok.len)) (total c.args.self.now) in
    tested_ipv6 c.args.source c.args.destination c.args.self.now c.ones_complement.result stores (search (rules, arith))
    (rw (c.ones_complement.ensures, c.add_slice.ensures.sum, c.slice-packet.ensures.bytes, c.pseudo_header_ipv6-pseudo_header.ensures.sum)
    (ap complement (sum ∙ ap (λ n. folded (n + total c.args.self.now)) pseudo)))

pub returns-then-checksum-ne0-clause-agrees : goal.returns-then-checksum-ne0-clause-agrees
returns-then-checksum-ne0-clause-agrees c stores same_len =
    let fits : IsBytes c.args.self.now = λ place. search rules in
    let tested = returns-then-checksum-ne0-clause-valid c in
    let same = agrees_ipv6 c.args.source c.args.destination c.args.self.now fits (search rules) stores same_len in
    (λ passed. same.0 (tested.0 passed), λ is. tested.1 (same.1 is))

pub returns-then-checksum-ne0-clause-detects : goal.returns-then-checksum-ne0-clause-detects
returns-then-checksum-ne0-clause-detects c passed =
    let fits : IsBytes c.args.self.now = λ place. search rules in
    detects_over_ipv6 c.args.source c.args.destination 17 c.args.self.now (search rules) (search rules) (omega arith) fits
    ((returns-then-checksum-ne0-clause-valid c).0 passed).1

pub returns-then-checksum-ne0-clause-valid_others : goal.returns-then-checksum-ne0-clause-valid_others
returns-then-checksum-ne0-clause-valid_others c passed other same_len =
    others_ipv6 c.args.source c.args.destination c.args.self.now other
    ((returns-then-checksum-ne0-clause-detects c passed).passes_by_remainder other same_len)
