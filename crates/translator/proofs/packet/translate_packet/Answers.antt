use Rattle.std.proofs.Common.{◌≡◌, ◌∙◌, false, rules, subst, sym, true}
use Rattle.std.specs.Prelude.{is_some}
use Rattle.translator.specs.Packets.{TranslatesPacket}
use Rattle.translator.proofs.PacketLemmas.{false_is_true, ipv4_translates, ipv6_translates}
use Rattle.translator.proofs.packet.translate_packet.Goals as goal

pub returns-then-is_some : goal.returns-then-is_some
returns-then-is_some c =
    let some : is_some c.from_slice.result ≡ true = search rules in
    subst (TranslatesPacket c.args.table.now c.args.packet.now c.translate_ipv6_packet.new.packet) (sym c.of_ipv6.ensures)
    (ipv6_translates c.args.table.now c.args.packet.now _ c.translate_ipv6_packet.result (c.from_slice.ensures.found.0 some).is_version_6
    c.translate_ipv6_packet.ensures)

pub returns-else-is_some : goal.returns-else-is_some
returns-else-is_some c =
    let none : is_some c.from_slice.result ≡ false = search rules in
    subst (TranslatesPacket c.args.table.now c.args.packet.now c.translate_ipv4_packet.new.packet) (sym c.of_ipv4.ensures)
    (ipv4_translates c.args.table.now c.args.packet.now _ c.translate_ipv4_packet.result
    (λ begins. false_is_true (sym none ∙ c.from_slice.ensures.found.1 begins)) c.translate_ipv4_packet.ensures)
