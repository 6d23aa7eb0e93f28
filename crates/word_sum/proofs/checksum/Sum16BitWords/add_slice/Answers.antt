use Rattle.std.proofs.Common.{◌*◌, ◌∙◌}
use Rattle.word_sum.specs.SumValue.{sum_value}
use Rattle.word_sum.proofs.ChecksumLemmas.{folded_cut, folded_pieces}
use Rattle.word_sum.proofs.checksum.Sum16BitWords.add_slice.Goals as goal

pub returns-clause-cuts : goal.returns-clause-cuts
returns-clause-cuts c front back cut even =
    c.add_bytes.ensures ∙ folded_cut (sum_value c.args.self) c.args.slice.now front back cut even

pub returns-clause-pieces : goal.returns-clause-pieces
returns-clause-pieces c pieces cut even =
    c.add_bytes.ensures ∙ folded_pieces (c.args.self.word * 256) c.args.slice.now pieces cut even
