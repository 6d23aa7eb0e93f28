use Rattle.ip_translation.proofs.Ipv4HeaderLemmas.{front_long}
use Rattle.ip_translation.proofs.packet_translation.front_header.Goals as goal

pub returns-clause-long : goal.returns-clause-long
returns-clause-long c = front_long c.from_slice.result c.args.packet.now c.from_slice.ensures.found c.from_slice.ensures.kept
