use Rattle.std.proofs.Common.{refl, subst, sym}
use Rattle.etherparse_transport_c.specs.Errors.{Answers}
use Rattle.etherparse_transport_c.specs.Numbers as numbers
use Rattle.etherparse_transport_c.specs.Udp.{TestTellsIpv6}
use Rattle.etherparse_transport_c.proofs.udp.etherparse_udp_checksum_store_ipv6.Goals as goal

pub returns-in-Ok-clause-passes : goal.returns-in-Ok-clause-passes
returns-in-Ok-clause-passes c accepted =
    subst (λ bytes. Answers (TestTellsIpv6 c.args.source.now c.args.destination.now bytes) numbers.status_ok)
    (sym c.store.ensures) c.in-Ok.ensures.passes

pub returns-in-Ok-clause-stored : goal.returns-in-Ok-clause-stored
returns-in-Ok-clause-stored c = rw (c.in-Ok.ensures.refused, c.store.ensures, c.in-Ok.ensures.sum) refl
