use Rattle.translator.proofs.ArgumentLemmas.{all_replacements}
use Rattle.translator.proofs.arguments.replacements_of.Goals as goal

-- the networks of the side, those of both sides, and the ports were added
pub returns : goal.returns
returns c =
    all_replacements _ _ _ _ _ _ _ c.new-replacements.ensures.none c.in_ok-add_networks.ensures c.in_ok-add_networks-2.ensures
    c.in_ok-add_ports.ensures
