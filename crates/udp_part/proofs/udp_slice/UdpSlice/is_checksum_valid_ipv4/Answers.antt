use Rattle.std.proofs.Common.{◌≡◌, ◌≢◌, ◌≤◌, ◌+◌, length, ◌∙◌, ap, arith, rules}
use Rattle.net_base.specs.Bytes.{IsBytes}
use Rattle.net_base.specs.PseudoHeader.{ipv4_pseudo_header}
use Rattle.net_base.proofs.PseudoHeaderLemmas.{detects_over_ipv4}
use Rattle.word_sum.specs.Checksum.{complement, folded, total}
use Rattle.word_sum.proofs.ChecksumLemmas.{folded-add}
use Rattle.udp_part.specs.UdpValidity.{checksum_field}
use Rattle.udp_part.proofs.UdpValidityLemmas.{agrees_ipv4, length_field_small, others_ipv4, sums_up_ipv4, tested_ipv4}
use Rattle.udp_part.proofs.udp_slice.UdpSlice.is_checksum_valid_ipv4.Goals as goal

-- no length field can count a packet that is too long
pub returns-in_default-clause-agrees : goal.returns-in_default-clause-agrees
returns-in_default-clause-agrees c stores same_len =
    let fits : IsBytes c.args.self.now = λ place. search rules in
    let too_long : 65536 ≤ length c.args.self.now = search (rules, arith) in
    absurd (omega (arith, same_len, too_long, length_field_small c.args.self.now fits))

pub returns-clause-valid : goal.returns-clause-valid
returns-clause-valid c =
    let stores : checksum_field c.args.self.now ≢ 0 = search rules in
    let len : c.in-Ok.len ≡ length c.args.self.now = search rules in
    let pseudo = ap (λ n. total (ipv4_pseudo_header c.args.source c.args.destination 17 n)) len in
    let sum = folded-add (total (ipv4_pseudo_header c.args.source c.args.destination 17 c.in-Ok.len)) (total c.args.self.now) in
    tested_ipv4 c.args.source c.args.destination c.args.self.now c.ones_complement.result stores (search (rules, arith))
    (rw (c.ones_complement.ensures, c.add_slice.ensures.sum, c.slice-packet.ensures.bytes, c.pseudo_header_ipv4-pseudo_header.ensures.sum)
    (ap complement (sum ∙ ap (λ n. folded (n + total c.args.self.now)) pseudo)))

pub returns-clause-agrees : goal.returns-clause-agrees
returns-clause-agrees c stores same_len =
    let fits : IsBytes c.args.self.now = λ place. search rules in
    let tested = returns-clause-valid c in
    let same = agrees_ipv4 c.args.source c.args.destination c.args.self.now fits (search rules) stores same_len in
    (λ passed. same.0 (tested.0 passed), λ is. tested.1 (same.1 is))

pub returns-clause-detects : goal.returns-clause-detects
returns-clause-detects c passed stores =
    let fits : IsBytes c.args.self.now = λ place. search rules in
    detects_over_ipv4 c.args.source c.args.destination 17 c.args.self.now (search rules) (search rules) (omega arith) fits
    (sums_up_ipv4 c.args.source c.args.destination c.args.self.now stores ((returns-clause-valid c).0 passed))

pub returns-clause-valid_others : goal.returns-clause-valid_others
returns-clause-valid_others c passed stores other same_len =
    others_ipv4 c.args.source c.args.destination c.args.self.now other
    ((returns-clause-detects c passed stores).passes_by_remainder other same_len)
