use Rattle.reassembly.proofs.CutLemmas as cuts
use Rattle.reassembly.proofs.laws.fragments_give_the_payload_back.Goals as goal

pub returns-clause-accepted : goal.returns-clause-accepted
returns-clause-accepted c = cuts.accepted

pub returns-clause-given_back : goal.returns-clause-given_back
returns-clause-given_back c = cuts.given_back
