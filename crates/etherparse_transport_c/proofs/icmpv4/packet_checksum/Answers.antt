use Rattle.std.proofs.Common.{◌≡◌, ◌-◌, ◌∙◌, length, drop, take, ap, subst, rules}
use Rattle.word_sum.specs.Checksum.{checksum_of}
use Rattle.icmp_part.specs.Icmpv4Validity.{IsValidIcmpv4}
use Rattle.etherparse_transport_c.proofs.ChecksumsLemmas.{from_place}
use Rattle.etherparse_transport_c.proofs.IcmpLemmas.{packet_written, total_written}
use Rattle.etherparse_transport_c.proofs.icmpv4.packet_checksum.Goals as goal

pub returns-clause-sum : goal.returns-clause-sum
returns-clause-sum c =
    let payload : take (length c.slice.result.now - 8) (drop 8 c.slice.result.now) ≡ drop 8 c.args.packet.now =
    rw c.slice.ensures.bytes (from_place 8 c.args.packet.now) in
    c.calc_checksum.ensures.sum
    ∙ ap checksum_of
    (total_written c.args.packet.now c.bytes5to8.result _ c.type_u8.result c.code_u8.result 0 c.requires.shortest c.type_u8.ensures
    c.code_u8.ensures
    c.bytes5to8.ensures payload (search rules))

pub returns-clause-valid : goal.returns-clause-valid
returns-clause-valid c =
    let payload : take (length c.slice.result.now - 8) (drop 8 c.slice.result.now) ≡ drop 8 c.args.packet.now =
    rw c.slice.ensures.bytes (from_place 8 c.args.packet.now) in
    subst IsValidIcmpv4
    (packet_written c.args.packet.now c.bytes5to8.result _ c.type_u8.result c.code_u8.result c.calc_checksum.result c.requires.shortest
    c.type_u8.ensures
    c.code_u8.ensures c.bytes5to8.ensures payload)
    c.calc_checksum.ensures.valid
