use Rattle.std.proofs.Common.{◌≡◌, List, ℕ, sym, subst}
use Rattle.std.specs.Prelude.{◌↔◌}
use Rattle.etherparse_transport.specs.Ipv6Translations.{ipv6, ipv6_quoted, ipv6_translated_with, of_ipv6}
use Rattle.etherparse_transport.specs.WaysBack.{IsIpv6RestoredWith, ipv6_flow_back, ipv6_quoted_back}
use Rattle.etherparse_transport.specs.declared.ip.ipv6_translation.Ipv6Translation.{Ipv6Translation}
use Rattle.etherparse_transport.proofs.Ipv6ThereAndBack.{ipv6_laws}
use Rattle.etherparse_transport.proofs.PacketsThereAndBack.{both_there_and_back}
use Rattle.etherparse_transport.proofs.TranslationSums.{if_ok_accepted, if_ok_four}
use Rattle.etherparse_transport.proofs.ip.translated_ipv6.translate_ipv6_with_quoted.Goals as goal

pub returns-clause-there_and_back : goal.returns-clause-there_and_back
returns-clause-there_and_back c =
    let packet : List ℕ = c.args.packet.now in
    let new : Ipv6Translation = c.args.new.now in
    let result = c.translate_ipv6_by.result in
    if_ok_four result c.translate_ipv6_by.ensures.bytes c.translate_ipv6_by.ensures.types
    (if_ok_accepted result _ c.translate_ipv6_by.ensures.refused) c.translate_ipv6_by.ensures.translated
    (λ bytes types accepted is. subst
    (λ changed. (ipv6_translated_with (ipv6_flow_back new packet) (ipv6_quoted_back (ipv6_quoted packet) c.args.quoted.now) changed
    ≡ packet) ↔ IsIpv6RestoredWith packet)
    (sym is) (both_there_and_back ipv6 ipv6_laws _ _ (of_ipv6 new) (of_ipv6 c.args.quoted.now) packet bytes types.0 types.1 accepted))
