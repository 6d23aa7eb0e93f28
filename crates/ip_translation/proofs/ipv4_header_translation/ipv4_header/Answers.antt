use Rattle.std.proofs.Common.{◌≡◌, [], rules, sym, subst, ap, ◌∙◌}
use Rattle.std.specs.Prelude.{slice_range}
use Rattle.word_sum.specs.Checksum.{Verifies, checksum_of, total}
use Rattle.ip_translation.specs.HeadersToIpv4.{with_header_checksum}
use Rattle.ip_translation.proofs.Ipv4HeaderLemmas.{header_verifies}
use Rattle.ip_translation.proofs.TranslatedAddressLemmas.{ipv4_destination, ipv4_source}
use Rattle.ip_translation.proofs.ipv4_header_translation.ipv4_header.Goals as goal

pub returns-clause-verifies : goal.returns-clause-verifies
returns-clause-verifies c =
    let right : c.header_checksum-checksum.result ≡ checksum_of (total (with_header_checksum c.args.start 0 c.args.source c.args.destination)) =
    search rules in
    subst (λ header. Verifies [] header) (sym c.with_checksum.ensures.bytes)
    (header_verifies c.args.start c.args.source c.args.destination c.header_checksum-checksum.result (search rules) (search rules) right)

pub returns-clause-source : goal.returns-clause-source
returns-clause-source c =
    ap (λ bytes. slice_range bytes 12 16) c.with_checksum.ensures.bytes
    ∙ ipv4_source c.args.start c.header_checksum-checksum.result c.args.source c.args.destination (search rules) (search rules)

pub returns-clause-destination : goal.returns-clause-destination
returns-clause-destination c =
    ap (λ bytes. slice_range bytes 16 20) c.with_checksum.ensures.bytes
    ∙ ipv4_destination c.args.start c.header_checksum-checksum.result c.args.source c.args.destination (search rules) (search rules) (search rules)
