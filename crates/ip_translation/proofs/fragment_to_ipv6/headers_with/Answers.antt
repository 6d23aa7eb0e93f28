use Rattle.std.proofs.Common.{◌≡◌, ◌+◌, List, ℕ, length, rules, ap, subst, ◌∙◌}
use Rattle.std.specs.Prelude.{slice_range}
use Rattle.ip_part.specs.ExtensionHeaders.{fragment}
use Rattle.ip_translation.specs.AddressTables.{embedded}
use Rattle.ip_translation.specs.FragmentHeaders.{fragment_header, headers_with}
use Rattle.ip_translation.specs.HeadersToIpv6.{destination, source, type_of_service}
use Rattle.ip_translation.proofs.TranslatedAddressLemmas.{ipv6_destination, ipv6_source}
use Rattle.ip_translation.proofs.fragment_to_ipv6.headers_with.Goals as goal

pub returns-clause-addresses : goal.returns-clause-addresses
returns-clause-addresses c =
    let header : List ℕ = c.args.header.now in
    let from : List ℕ = embedded c.args.prefixes.now.source (source header) in
    let to : List ℕ = embedded c.args.prefixes.now.destination (destination header) in
    let is_source : c.embed.result ≡ from = c.embed.ensures.embedded ∙ ap (embedded c.args.prefixes.now.source) c.source.ensures in
    let is_destination : c.embed-2.result ≡ to =
    c.embed-2.ensures.embedded ∙ ap (embedded c.args.prefixes.now.destination) c.destination.ensures in
    let sixteen : length from ≡ 16 = subst (λ address. length address ≡ 16) is_source (search rules) in
    let sixteen_too : length to ≡ 16 = subst (λ address. length address ≡ 16) is_destination (search rules) in
    let written : c.try_extend_from_slice-2.new.self.items ≡ headers_with c.args.prefixes.now c.args.payload_len c.args.hop_limit header =
    search rules in
    record {
      source = ap (λ bytes. slice_range bytes 8 24) written
          ∙ ipv6_source (type_of_service header) (c.args.payload_len + 8) fragment c.args.hop_limit from to (fragment_header header) sixteen;
      destination = ap (λ bytes. slice_range bytes 24 40) written
          ∙ ipv6_destination (type_of_service header) (c.args.payload_len + 8) fragment c.args.hop_limit from to (fragment_header header)
          sixteen sixteen_too;
    }
