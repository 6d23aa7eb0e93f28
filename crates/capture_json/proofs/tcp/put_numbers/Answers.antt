use Rattle.std.proofs.Common.{◌∙◌}
use Rattle.std.proofs.lemmas.Result.{on_ok_weaker}
use Rattle.capture_json.proofs.tcp.put_numbers.Goals as goal

-- the three numbers, one after the other
pub returns : goal.returns
returns c =
    on_ok_weaker c.put_number-3.result
    (λ last. last
    ∙ (simp (
      c.from-3.ensures,
      c.window_size.ensures,
      c.in_ok-put_number-2.ensures,
      c.from-2.ensures,
      c.acknowledgment_number.ensures,
      c.in_ok-put_number.ensures,
      c.from.ensures,
      c.sequence_number.ensures,
    )))
    c.put_number-3.ensures
