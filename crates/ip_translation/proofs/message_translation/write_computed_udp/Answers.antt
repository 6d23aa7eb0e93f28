use Rattle.std.proofs.Common.{◌≡◌, ◌+◌, List, ℕ, take, rules, refl, sym, subst}
use Rattle.net_base.specs.Bytes.{IsBytes}
use Rattle.net_base.specs.IpNumbers.{udp_number}
use Rattle.net_base.specs.StoredChecksum.{with_checksum}
use Rattle.word_sum.specs.Checksum.{IsAllOnes, total}
use Rattle.ip_translation.specs.HeadersToIpv6.{new_pseudo_header}
use Rattle.ip_translation.specs.PacketsToIpv6 as specs
use Rattle.ip_translation.proofs.MessageLemmas as messages
use Rattle.ip_translation.proofs.message_translation.write_computed_udp.Goals as goal

pub returns-clause-computed : goal.returns-clause-computed
returns-clause-computed c =
    let packet : List ℕ = c.args.packet.now in
    let fits : IsBytes packet = λ place. (c.type_inv.packet place).fits in
    let len : ℕ = specs.udp_length packet in
    let new : ℕ = total (new_pseudo_header c.args.prefixes.now c.args.header.now udp_number len) in
    let checksum : ℕ = c.computed_udp_checksum-checksum.result in
    let stored : c.store_checksum.new.message ≡ with_checksum 6 packet checksum = search rules in
    subst (λ translated. IsAllOnes (new + total (take len translated))) (sym stored)
    (messages.computed new 6 len checksum packet fits refl (search rules)
    (c.requires.whole.counted c.requires.none) c.requires.whole.there c.requires.none c.computed_udp_checksum-checksum.ensures)
