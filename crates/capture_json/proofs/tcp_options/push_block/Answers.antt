use Rattle.std.proofs.Common.{[], ◌∷◌, ◌∙◌, ap}
use Rattle.std.proofs.lemmas.Result.{on_ok_weaker}
use Rattle.std.specs.Prelude.{codes}
use Rattle.capture_json.specs.Members.{Member, whole_number}
use Rattle.capture_json.specs.Tokens.{object_ended, tokens_in}
use Rattle.capture_json.proofs.TokensLemmas.{pushed}
use Rattle.capture_json.proofs.tcp_options.push_block.Goals as goal

-- the two edges in braces
pub returns : goal.returns
returns c =
    let left : Member = (codes "left", whole_number c.args.block.0) in
    let right : Member = (codes "right", whole_number c.args.block.1) in
    on_ok_weaker c.end_object.result
    (λ ended. ended
    ∙ ap object_ended (c.in_ok-put_number-2.ensures
    ∙ (simp (c.from-2.ensures, c.in_ok-put_number.ensures, c.from.ensures, c.in_ok-begin_item.ensures)))
    ∙ pushed (left ∷ right ∷ []) (tokens_in c.args.line.now))
    c.end_object.ensures
