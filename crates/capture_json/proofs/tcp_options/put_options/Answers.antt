use Rattle.std.proofs.Common.{◌∙◌, ap, refl}
use Rattle.std.proofs.lemmas.Result.{on_ok_weaker}
use Rattle.std.specs.Prelude.{codes}
use Rattle.capture_json.specs.JsonOptions.{fault_members}
use Rattle.capture_json.specs.Tokens.{array_ended, tokens_in, with_items, with_members}
use Rattle.capture_json.proofs.TokensLemmas.{listed}
use Rattle.capture_json.proofs.tcp_options.put_options.Goals as goal

-- the objects in brackets, and the fault
pub returns : goal.returns
returns c =
    let (values, are, pushed) = c.in_ok-fault.ensures in
    on_ok_weaker c.put_fault.result
    (λ last. (
      _,
      (values, _, are, refl),
      last
          ∙ ap (with_members (fault_members c.in_ok-fault.fault)) (c.in_ok-end_array.ensures
          ∙ ap array_ended (pushed ∙ ap (with_items values) c.in_ok-begin_array.ensures)
          ∙ listed (codes "options") values (tokens_in c.args.line.now)),
    ))
    c.put_fault.ensures
