use Rattle.std.proofs.Common.{◌≡◌, ◌-◌, ◌∙◌, length, drop, take, ap, subst, rules}
use Rattle.std.proofs.lemmas.Result.{IfOk-weaker}
use Rattle.word_sum.specs.Checksum.{checksum_of}
use Rattle.icmp_part.specs.Icmpv6Validity.{IsValidIcmpv6}
use Rattle.etherparse_transport_c.proofs.ChecksumsLemmas.{from_place}
use Rattle.etherparse_transport_c.proofs.IcmpLemmas.{packet_written, summed_icmpv6}
use Rattle.etherparse_transport_c.proofs.icmpv6.packet_checksum.Goals as goal

pub returns-clause-sum : goal.returns-clause-sum
returns-clause-sum c =
    let payload : take (length c.slice.result.now - 8) (drop 8 c.slice.result.now) ≡ drop 8 c.args.packet.now =
    rw c.slice.ensures.bytes (from_place 8 c.args.packet.now) in
    let same = summed_icmpv6 c.args.source c.args.destination c.args.packet.now c.bytes5to8.result _ c.type_u8.result c.code_u8.result
    c.requires.shortest
    c.type_u8.ensures c.code_u8.ensures c.bytes5to8.ensures payload (search rules) in
    IfOk-weaker c.calc_checksum.result _ _ (λ checksum is. is ∙ ap checksum_of same) c.calc_checksum.ensures.sum

pub returns-clause-valid : goal.returns-clause-valid
returns-clause-valid c =
    let payload : take (length c.slice.result.now - 8) (drop 8 c.slice.result.now) ≡ drop 8 c.args.packet.now =
    rw c.slice.ensures.bytes (from_place 8 c.args.packet.now) in
    IfOk-weaker c.calc_checksum.result _ _
    (λ checksum valid.
    subst (IsValidIcmpv6 c.args.source c.args.destination)
    (packet_written c.args.packet.now c.bytes5to8.result _ c.type_u8.result c.code_u8.result checksum c.requires.shortest c.type_u8.ensures
    c.code_u8.ensures c.bytes5to8.ensures payload)
    valid)
    c.calc_checksum.ensures.valid
