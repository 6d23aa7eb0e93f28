use Rattle.std.proofs.Common.{refl, rules, subst, sym}
use Rattle.translator.specs.Packets.{TranslatesFrame}
use Rattle.translator.proofs.PacketLemmas.{frame_stays, frame_translated, put_between}
use Rattle.translator.proofs.packet.translate_frame.Goals as goal

pub returns-clause-translates : goal.returns-clause-translates
returns-clause-translates c =
    let frame = c.args.frame.now in
    let packet = c.translate_packet.new.packet in
    let is_packet = c.in_ok-start.ensures.found in
    subst (λ after. TranslatesFrame c.args.table.now c.args.link_type c.args.order frame after c.translate_packet.result)
    (sym (put_between frame packet _ _ is_packet.ordered))
    (frame_translated c.args.table.now c.args.link_type c.args.order frame packet _ _ c.translate_packet.result is_packet
    c.translate_packet.ensures)

pub returns-in_err-start-clause-translates : goal.returns-in_err-start-clause-translates
returns-in_err-start-clause-translates c =
    frame_stays c.args.table.now c.args.link_type c.args.order c.args.frame.now _ _ _ c.in_err-start.ensures.refused refl (search rules)
