use Rattle.std.proofs.Common.{◌≡◌, ◌∙◌, ◌∷◌, ◌++◌, [], ap, arith, take}
use Rattle.std.proofs.lemmas.List.{take_more, take_rest}
use Rattle.std.specs.Prelude.{slice_index}
use Rattle.net_base.proofs.StoredChecksumLemmas.{total-with_checksum}
use Rattle.word_sum.specs.Checksum.{folded, total}
use Rattle.word_sum.proofs.ChecksumLemmas.{folded_twice}
use Rattle.transport_part.proofs.expected.sum_but_checksum.Goals as goal

pub returns : goal.returns
returns c =
    let message = c.args.message.now in
    let whole = total-with_checksum 2 message 0 (omega (arith, c.requires)) (omega arith) (omega arith) in
    let front : take 2 message ≡ slice_index message 0 ∷ slice_index message 1 ∷ [] =
    take_more message 1 0 (omega (arith, c.requires))
    ∙ ap (λ first. first ++ slice_index message 1 ∷ []) (take_more message 0 0 (omega (arith, c.requires))) in
    rw (c.add_slice.ensures.sum, c.add_2bytes.ensures, c.new.ensures)
    (simp (folded_twice, take_rest) (ap folded (omega (arith, whole, ap total front))))
