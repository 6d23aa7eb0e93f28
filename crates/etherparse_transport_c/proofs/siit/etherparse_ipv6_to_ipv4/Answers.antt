use Rattle.std.proofs.Common.{ap, ◌∙◌}
use Rattle.etherparse_transport_c.proofs.SiitLemmas.{refused_answer, translated_answer}
use Rattle.etherparse_transport_c.proofs.siit.etherparse_ipv6_to_ipv4.Goals as goal

pub returns-in-Ok-ipv6_to_ipv4-clause-translated : goal.returns-in-Ok-ipv6_to_ipv4-clause-translated
returns-in-Ok-ipv6_to_ipv4-clause-translated c = λ accepted. (
  c.in-Ok.prefixes,
  record {
    source_is = c.in-Ok.ensures.source;
    no_source_mappings = c.in-Ok.ensures.source_mappings;
    destination_is = c.in-Ok.ensures.destination;
    no_destination_mappings = c.in-Ok.ensures.destination_mappings;
  },
  translated_answer _ _ _ _ _ _ _ _ _ c.in-Ok-ipv6_to_ipv4.ensures.refused c.accept.ensures.status c.accept.ensures.error
      c.in-Ok-ipv6_to_ipv4.ensures.len c.in-Ok-ipv6_to_ipv4.ensures.written,
)

pub returns-in-Err-ipv6_to_ipv4-clause-translated : goal.returns-in-Err-ipv6_to_ipv4-clause-translated
returns-in-Err-ipv6_to_ipv4-clause-translated c = λ accepted. (
  c.in-Ok.prefixes,
  record {
    source_is = c.in-Ok.ensures.source;
    no_source_mappings = c.in-Ok.ensures.source_mappings;
    destination_is = c.in-Ok.ensures.destination;
    no_destination_mappings = c.in-Ok.ensures.destination_mappings;
  },
  refused_answer _ c.in-Err-ipv6_to_ipv4.refused _ _ _ _ _ _ _ c.in-Err-ipv6_to_ipv4.ensures.refused
      (c.refuse-in-Err-ipv6_to_ipv4.ensures.status ∙ ap (λ error. error.status) c.of_siit.ensures.numbers)
      (c.refuse-in-Err-ipv6_to_ipv4.ensures.error ∙ c.of_siit.ensures.numbers) c.in-Err-ipv6_to_ipv4.ensures.unchanged,
)
