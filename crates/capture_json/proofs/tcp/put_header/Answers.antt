use Rattle.std.proofs.Common.{◌∙◌, refl}
use Rattle.std.proofs.lemmas.Result.{on_ok_weaker}
use Rattle.capture_json.proofs.TokensLemmas.{with_append}
use Rattle.capture_json.proofs.tcp.put_header.Goals as goal

-- flags, numbers, the urgent pointer and the options
pub returns : goal.returns
returns c =
    on_ok_weaker c.put_options.result
    (λ last. (
      _,
      (last.0, last.1, refl),
      last.2 ∙ (simp (with_append, c.in_ok-put_urgent_pointer.ensures, c.in_ok-put_numbers.ensures, c.in_ok-put_flags.ensures)),
    ))
    c.put_options.ensures
