use Rattle.std.proofs.Common.{refl, rules}
use Rattle.etherparse_transport.specs.declared.transport_header.TransportHeader.TheVariants.{Udp}
use Rattle.etherparse_transport.proofs.canonical.canonical_udp.Goals as goal

pub returns-in-Ok-clause-decoded : goal.returns-in-Ok-clause-decoded
returns-in-Ok-clause-decoded c = record {
  header = Udp c.in-Ok.header;
  protocol_of_header = refl;
  decodes = search rules;
  written = search rules;
}
