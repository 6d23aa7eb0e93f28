use Rattle.std.proofs.Common.{refl, rules}
use Rattle.etherparse_transport.specs.declared.transport_header.TransportHeader.TheVariants.{Tcp}
use Rattle.etherparse_transport.proofs.canonical.canonical_tcp.Goals as goal

pub returns-clause-decoded : goal.returns-clause-decoded
returns-clause-decoded c = record {
  header = Tcp c.in_ok-header.header;
  protocol_of_header = refl;
  decodes = search rules;
  written = search rules;
}
