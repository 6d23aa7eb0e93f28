use Rattle.reassembly.proofs.PacketCutLemmas.{packet_accepted, packet_given_back}
use Rattle.reassembly.proofs.laws.fragments_give_the_ipv4_packet_back.Goals as goal

pub returns-clause-accepted : goal.returns-clause-accepted
returns-clause-accepted c = packet_accepted

pub returns-clause-there : goal.returns-clause-there
returns-clause-there c =
    λ key len packet fragments arrivals cut fits from all. (packet_given_back key len packet fragments arrivals cut fits from all).0

pub returns-clause-given_back : goal.returns-clause-given_back
returns-clause-given_back c =
    λ key len packet result fragments arrivals cut fits from all is.
    (packet_given_back key len packet fragments arrivals cut fits from all).1 result is
