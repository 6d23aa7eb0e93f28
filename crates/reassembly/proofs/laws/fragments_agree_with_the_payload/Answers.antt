use Rattle.reassembly.proofs.OnlySoLemmas.{only_so}
use Rattle.reassembly.proofs.laws.fragments_agree_with_the_payload.Goals as goal

pub returns : goal.returns
returns c = only_so
