use Rattle.std.proofs.Common.{refl, rules}
use Rattle.etherparse_transport.specs.declared.transport_header.TransportHeader.TheVariants.{Icmpv4}
use Rattle.etherparse_transport.proofs.canonical.canonical_icmpv4.Goals as goal

pub returns-then-len-eq-MIN_LEN-clause-decoded : goal.returns-then-len-eq-MIN_LEN-clause-decoded
returns-then-len-eq-MIN_LEN-clause-decoded c = record {
  header = Icmpv4 c.in-Ok.found.0;
  protocol_of_header = refl;
  decodes = search rules;
  written = search rules;
}

pub returns-clause-decoded : goal.returns-clause-decoded
returns-clause-decoded c = record {
  header = Icmpv4 c.in-Ok.found.0;
  protocol_of_header = refl;
  decodes = search rules;
  written = search rules;
}
