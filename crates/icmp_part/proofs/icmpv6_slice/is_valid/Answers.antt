use Rattle.std.proofs.Common.{ℕ, ◌+◌, length, ap}
use Rattle.word_sum.specs.Checksum.{complement, total}
use Rattle.word_sum.proofs.ChecksumLemmas.{folded-add}
use Rattle.icmp_part.specs.Icmpv6Format.{pseudo_header}
use Rattle.net_base.proofs.DetectionLemmas.{complement_tested}
use Rattle.icmp_part.proofs.icmpv6_slice.is_valid.Goals as goal

pub returns-clause-valid : goal.returns-clause-valid
returns-clause-valid c =
    let pseudo : ℕ = total (pseudo_header c.args.source_ip c.args.destination_ip (length c.args.packet.now)) in
    let tested = complement_tested (pseudo + total c.args.packet.now) _
    (rw (c.ones_complement.ensures, c.add_slice.ensures.sum, c.pseudo_header_ipv6-pseudo_header.ensures.sum)
    (ap complement (folded-add pseudo (total c.args.packet.now)))) in
    (λ passed. (c.requires.longest, tested.0 passed), λ valid. tested.1 valid.1)

pub returns-clause-bytes : goal.returns-clause-bytes
returns-clause-bytes c = λ place. (c.type_inv.packet place).fits
