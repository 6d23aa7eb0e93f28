use Rattle.std.proofs.Common.{arith}
use Rattle.etherparse_transport.proofs.ip.translated_message.update_checksum.Goals as goal

pub returns-clause-remainder : goal.returns-clause-remainder
returns-clause-remainder c = λ packet changed turns long.
    omega (arith, c.apply-checksum.ensures.remainder packet changed turns, c.number.ensures, c.replace_number.ensures.total long)
