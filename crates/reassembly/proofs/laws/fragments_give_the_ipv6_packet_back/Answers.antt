use Rattle.reassembly.proofs.PacketCutLemmas.{ipv6_accepted, ipv6_given_back}
use Rattle.reassembly.proofs.laws.fragments_give_the_ipv6_packet_back.Goals as goal

pub returns-clause-accepted : goal.returns-clause-accepted
returns-clause-accepted c = ipv6_accepted

pub returns-clause-there : goal.returns-clause-there
returns-clause-there c =
    λ key len packet fragments arrivals cut fits from all. (ipv6_given_back key len packet fragments arrivals cut fits from all).0

pub returns-clause-given_back : goal.returns-clause-given_back
returns-clause-given_back c =
    λ key len packet result fragments arrivals cut fits from all is.
    (ipv6_given_back key len packet fragments arrivals cut fits from all).1 result is
