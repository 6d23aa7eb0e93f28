use Rattle.std.proofs.Common.{refl}
use Rattle.etherparse_transport_c.proofs.tcp.etherparse_tcp_checksum_ipv4.Goals as goal

pub returns-in-Ok-clause-checksum : goal.returns-in-Ok-clause-checksum
returns-in-Ok-clause-checksum c = rw (c.in-Ok.ensures.refused, c.in-Ok.ensures.sum) refl

pub returns-in-Ok-clause-built : goal.returns-in-Ok-clause-built
returns-in-Ok-clause-built c accepted = c.in-Ok.ensures.valid

pub returns-in-Ok-clause-passes : goal.returns-in-Ok-clause-passes
returns-in-Ok-clause-passes c accepted = c.in-Ok.ensures.passes
