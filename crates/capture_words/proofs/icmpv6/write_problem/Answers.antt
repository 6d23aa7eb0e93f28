use Rattle.capture_words.proofs.WrittenLemmas.{written_2}
use Rattle.capture_words.proofs.icmpv6.write_problem.Goals as goal

pub returns : goal.returns
returns g c =
    written_2 _ _ _ _ _ _ _ c.in_ok-write_named_message.ensures c.write_field.ensures
    (simp (c.code_u8.ensures.written, c.problem_name.ensures))
