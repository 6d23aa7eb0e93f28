use Rattle.ip_translation.proofs.LabelLemmas.{front_forty}
use Rattle.ip_translation.proofs.packet_to_ipv4.front_header.Goals as goal

pub returns-clause-long : goal.returns-clause-long
returns-clause-long c = front_forty c.from_slice.result c.args.packet.now c.from_slice.ensures.found c.from_slice.ensures.kept
