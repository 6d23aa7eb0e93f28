use Rattle.std.proofs.Common.{refl, subst, sym}
use Rattle.etherparse_transport_c.specs.Errors.{Answers}
use Rattle.etherparse_transport_c.specs.Icmpv6.{TestTells}
use Rattle.etherparse_transport_c.specs.Numbers as numbers
use Rattle.etherparse_transport_c.proofs.icmpv6.etherparse_icmpv6_checksum_store.Goals as goal

pub returns-in-Ok-clause-stored : goal.returns-in-Ok-clause-stored
returns-in-Ok-clause-stored c = rw (c.in-Ok.ensures.refused, c.store.ensures, c.in-Ok.ensures.sum) refl

pub returns-in-Ok-clause-passes : goal.returns-in-Ok-clause-passes
returns-in-Ok-clause-passes c accepted =
    subst (λ bytes. Answers (TestTells c.args.source.now c.args.destination.now bytes) numbers.status_ok)
    (sym c.store.ensures) c.in-Ok.ensures.passes
