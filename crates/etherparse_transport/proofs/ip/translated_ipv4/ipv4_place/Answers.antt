use Rattle.std.proofs.Common.{rules}
use Rattle.net_base.specs.IpHeaders.{BeginsWithIpv4Header}
use Rattle.etherparse_transport.proofs.TranslationLemmas.{ipv4_place_is}
use Rattle.etherparse_transport.proofs.ip.translated_ipv4.ipv4_place.Goals as goal

pub returns-clause-place : goal.returns-clause-place
returns-clause-place c =
    let begins : BeginsWithIpv4Header c.args.packet.now = c.from_slice.ensures.found.0 (search rules) in
    ipv4_place_is _ c.args.packet.now _ begins (search rules) (search rules) (search rules) (search rules) (search rules) (search rules)
