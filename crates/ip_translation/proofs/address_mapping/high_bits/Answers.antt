use Rattle.std.proofs.Common.{arith, sym}
use Rattle.ip_translation.proofs.MappingLemmas.{no_high_bits}
use Rattle.ip_translation.proofs.address_mapping.high_bits.Goals as goal

pub returns-in-None : goal.returns-in-None
returns-in-None c = sym (no_high_bits c.args.number 128 c.args.len (omega arith) (omega arith))
