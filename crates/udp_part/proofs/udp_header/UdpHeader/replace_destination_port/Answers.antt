use Rattle.std.proofs.Common.{List, ℕ}
use Rattle.udp_part.specs.UdpFormat.{checksummed}
use Rattle.word_sum.specs.ChecksumChange.{TurnsInto}
use Rattle.udp_part.proofs.TranslationLemmas.{destination_port_replaced}
use Rattle.udp_part.proofs.udp_header.UdpHeader.replace_destination_port.Goals as goal

turns : (c : goal.After-self-2-1) (old new payload : List ℕ)
    → TurnsInto c.args.pseudo_header (checksummed old c.args.self.now payload) (checksummed new c.args.self.now payload)
    → TurnsInto c.replace_2bytes-change.result (checksummed old c.args.self.now payload)
    (checksummed new (record c.args.self.now { destination_port = c.args.port; checksum = c.apply_udp-self.result }) payload)
turns c old new payload addresses =
    c.replace_2bytes-change.ensures.extends (checksummed old c.args.self.now payload) (checksummed new c.args.self.now payload) _
    (rw (c.to_be_bytes.ensures, c.to_be_bytes-2.ensures)
    (destination_port_replaced new c.args.self.now payload c.args.port c.apply_udp-self.result))
    addresses

pub returns-clause-updated : goal.returns-clause-updated
returns-clause-updated c old new payload addresses =
    c.apply_udp-self.ensures.updated _ _ (turns c (old c.args.self.now.length) (new c.args.self.now.length) payload addresses)

pub returns-clause-verifies : goal.returns-clause-verifies
returns-clause-verifies c old new payload addresses =
    c.apply_udp-self.ensures.verifies _ _ (turns c (old c.args.self.now.length) (new c.args.self.now.length) payload addresses)
