use Rattle.std.proofs.Common.{[], ◌∷◌, ◌∙◌, ap}
use Rattle.std.proofs.lemmas.Result.{on_ok_weaker}
use Rattle.std.specs.Prelude.{codes}
use Rattle.capture_json.specs.Members.{Member, whole_number}
use Rattle.capture_json.specs.Tokens.{object_ended, tokens_in}
use Rattle.capture_json.proofs.TokensLemmas.{pushed}
use Rattle.capture_json.proofs.tcp_options.push_kind.Goals as goal

-- the kind in braces
pub returns : goal.returns
returns c =
    let kind : Member = (codes "kind", whole_number c.args.kind) in
    on_ok_weaker c.end_object.result
    (λ ended. ended
    ∙ ap object_ended (c.in_ok-put_number.ensures ∙ (simp (c.from.ensures, c.in_ok-begin_item.ensures)))
    ∙ pushed (kind ∷ []) (tokens_in c.args.line.now))
    c.end_object.ensures
