use Rattle.std.proofs.Common.{◌∙◌}
use Rattle.std.proofs.lemmas.Result.{on_ok_weaker}
use Rattle.capture_json.proofs.verdict.put_not_tested.Goals as goal

-- the word that the checksum is not tested, and the reason, were written
pub returns : goal.returns
returns c = on_ok_weaker c.put_word.result (λ last. last ∙ (simp c.in_ok-put_text.ensures)) c.put_word.ensures
