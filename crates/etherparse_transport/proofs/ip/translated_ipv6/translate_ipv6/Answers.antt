use Rattle.std.proofs.Common.{◌≡◌, List, ℕ, sym, subst}
use Rattle.std.specs.Prelude.{◌↔◌}
use Rattle.etherparse_transport.specs.Ipv6Translations.{ipv6, ipv6_translated, of_ipv6}
use Rattle.etherparse_transport.specs.WaysBack.{IsIpv6Restored, ipv6_way_back}
use Rattle.etherparse_transport.specs.declared.ip.ipv6_translation.Ipv6Translation.{Ipv6Translation}
use Rattle.etherparse_transport.proofs.Ipv6ThereAndBack.{ipv6_laws}
use Rattle.etherparse_transport.proofs.PacketsThereAndBack.{there_and_back}
use Rattle.etherparse_transport.proofs.TranslationSums.{if_ok_accepted, if_ok_four}
use Rattle.etherparse_transport.proofs.ip.translated_ipv6.translate_ipv6.Goals as goal

pub returns-clause-there_and_back : goal.returns-clause-there_and_back
returns-clause-there_and_back c =
    let packet : List ℕ = c.args.packet.now in
    let new : Ipv6Translation = c.args.new.now in
    let result = c.translate_ipv6_by.result in
    if_ok_four result c.translate_ipv6_by.ensures.bytes c.translate_ipv6_by.ensures.types
    (if_ok_accepted result _ c.translate_ipv6_by.ensures.refused) c.translate_ipv6_by.ensures.translated
    (λ bytes types accepted is. subst (λ changed. (ipv6_translated (ipv6_way_back new packet) changed ≡ packet) ↔ IsIpv6Restored new packet)
    (sym is) (there_and_back ipv6 ipv6_laws _ _ (of_ipv6 new) packet bytes types.0 accepted))
