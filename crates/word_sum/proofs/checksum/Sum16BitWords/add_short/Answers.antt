use Rattle.std.proofs.Common.{◌∙◌, ◌*◌, arith}
use Rattle.word_sum.proofs.ChecksumLemmas.{folded-add_nothing}
use Rattle.word_sum.proofs.checksum.Sum16BitWords.add_short.Goals as goal

pub returns : goal.returns
returns c =
    folded-add_nothing (c.add_front-4.result.0.word * 256) c.add_front-4.result.1.now (omega arith)
    ∙ c.add_front-4.ensures.sum
    ∙ c.add_front-3.ensures.sum
    ∙ c.add_front-2.ensures.sum
    ∙ c.add_front.ensures.sum
