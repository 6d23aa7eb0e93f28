use Rattle.std.proofs.Common.{◌≡◌, List, ℕ, sym, subst}
use Rattle.std.specs.Prelude.{◌↔◌}
use Rattle.etherparse_transport.specs.Ipv4Translations.{ipv4, ipv4_translated, of_ipv4}
use Rattle.etherparse_transport.specs.WaysBack.{IsIpv4Restored, ipv4_way_back}
use Rattle.etherparse_transport.specs.declared.ip.ipv4_translation.Ipv4Translation.{Ipv4Translation}
use Rattle.etherparse_transport.proofs.Ipv4ThereAndBack.{ipv4_laws}
use Rattle.etherparse_transport.proofs.PacketsThereAndBack.{there_and_back}
use Rattle.etherparse_transport.proofs.TranslationSums.{if_ok_accepted, if_ok_four}
use Rattle.etherparse_transport.proofs.ip.translated_ipv4.translate_ipv4.Goals as goal

pub returns-clause-there_and_back : goal.returns-clause-there_and_back
returns-clause-there_and_back c =
    let packet : List ℕ = c.args.packet.now in
    let new : Ipv4Translation = c.args.new.now in
    let result = c.translate_ipv4_by.result in
    if_ok_four result c.translate_ipv4_by.ensures.bytes c.translate_ipv4_by.ensures.types
    (if_ok_accepted result _ c.translate_ipv4_by.ensures.refused) c.translate_ipv4_by.ensures.translated
    (λ bytes types accepted is. subst (λ changed. (ipv4_translated (ipv4_way_back new packet) changed ≡ packet) ↔ IsIpv4Restored new packet)
    (sym is) (there_and_back ipv4 ipv4_laws _ _ (of_ipv4 new) packet bytes types.0 accepted))
