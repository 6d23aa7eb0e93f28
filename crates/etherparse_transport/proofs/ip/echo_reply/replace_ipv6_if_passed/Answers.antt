use Rattle.std.proofs.Common.{arith, sym, ◌∙◌}
use Rattle.etherparse_transport.proofs.UpdatedAlike.{nothing}
use Rattle.etherparse_transport.proofs.ip.echo_reply.replace_ipv6_if_passed.Goals as goal

pub returns-in-Some-clause-some : goal.returns-in-Some-clause-some
returns-in-Some-clause-some c = λ some none. some (omega (arith, nothing _ (sym c.replace_16bytes.ensures.added ∙ none)))
