use Rattle.std.proofs.Common.{List, ℕ}
use Rattle.tcp_part.specs.TcpTranslation.{checksummed_by}
use Rattle.word_sum.specs.ChecksumChange.{TurnsInto}
use Rattle.word_sum.proofs.ChecksumChangeLemmas.{verifies_alike}
use Rattle.tcp_part.proofs.TranslationLemmas.{destination_port_replaced}
use Rattle.tcp_part.proofs.tcp_header.TcpHeader.replace_destination_port.Goals as goal

turns : (c : goal.After-self-2-1) (old new : ℕ → List ℕ) (payload : List ℕ)
    → TurnsInto c.args.pseudo_header (checksummed_by old c.args.self.now payload) (checksummed_by new c.args.self.now payload)
    → TurnsInto c.replace_2bytes-change.result (checksummed_by old c.args.self.now payload)
    (checksummed_by new (record c.args.self.now { destination_port = c.args.port; checksum = c.apply-self.result }) payload)
turns c old new payload addresses =
    c.replace_2bytes-change.ensures.extends (checksummed_by old c.args.self.now payload) (checksummed_by new c.args.self.now payload) _
    (rw (c.to_be_bytes.ensures, c.to_be_bytes-2.ensures)
    (destination_port_replaced new c.args.self.now payload c.args.port c.apply-self.result))
    addresses

pub returns-clause-updated : goal.returns-clause-updated
returns-clause-updated c old new payload addresses some right =
    (c.apply-self.ensures.updated _ _ (turns c old new payload addresses) right).1 some

pub returns-clause-verifies : goal.returns-clause-verifies
returns-clause-verifies c old new payload addresses some some_too =
    verifies_alike (checksummed_by old c.args.self.now payload)
    (checksummed_by new (record c.args.self.now { destination_port = c.args.port; checksum = c.apply-self.result }) payload)
    c.args.self.now.checksum c.apply-self.result
    (c.apply-self.ensures.remainder _ _ (turns c old new payload addresses)) some some_too
