use Rattle.std.proofs.Common.{ap, ◌∙◌, subst, rules}
use Rattle.net_base.specs.Bytes.{IsBytes}
use Rattle.word_sum.specs.Checksum.{udp_checksum_of}
use Rattle.etherparse_transport_c.specs.Udp.{checksummed_ipv6}
use Rattle.etherparse_transport_c.proofs.UdpLemmas.{agrees_ipv6, built_ipv6}
use Rattle.etherparse_transport_c.proofs.udp.packet_checksum_ipv6.Goals as goal

pub returns-clause-sum : goal.returns-clause-sum
returns-clause-sum c =
    c.computed_ipv6.ensures.sum ∙ ap (λ packet. udp_checksum_of (checksummed_ipv6 c.args.source c.args.destination packet))
    c.slice.ensures.bytes

pub returns-clause-valid : goal.returns-clause-valid
returns-clause-valid c =
    built_ipv6 c.args.source c.args.destination c.args.packet.now _ c.requires.header c.requires.counted (search rules)
    (returns-clause-sum c)

pub returns-clause-agrees : goal.returns-clause-agrees
returns-clause-agrees c same_len =
    returns-clause-sum c
    ∙ ap udp_checksum_of
    (agrees_ipv6 c.args.source c.args.destination c.args.packet.now
    (subst IsBytes c.slice.ensures.bytes c.computed_ipv6.ensures.bytes) c.requires.header same_len)
