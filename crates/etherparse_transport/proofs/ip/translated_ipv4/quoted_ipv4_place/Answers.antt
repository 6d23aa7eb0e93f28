use Rattle.std.proofs.Common.{rules, refl}
use Rattle.net_base.specs.IpHeaders.{BeginsWithIpv4Header}
use Rattle.etherparse_transport.proofs.TranslationLemmas.{quoted_place_is}
use Rattle.etherparse_transport.proofs.ip.translated_ipv4.quoted_ipv4_place.Goals as goal

pub returns-clause-place : goal.returns-clause-place
returns-clause-place c =
    let begins : BeginsWithIpv4Header c.args.quoted.now = c.from_slice.ensures.found.0 (search rules) in
    quoted_place_is c.args.quoted.now _ begins (search rules) refl (search rules) (search rules)
