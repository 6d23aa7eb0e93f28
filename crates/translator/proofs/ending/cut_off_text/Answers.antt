use Rattle.translator.proofs.ending.cut_off_text.Goals as goal

pub returns : goal.returns
returns c = c.format.ensures.ok
