use Rattle.std.proofs.Common.{◌≡◌, ◌∷◌, ◌∙◌, ap, refl, rules}
use Rattle.std.specs.Prelude.{codes}
use Rattle.capture_json.specs.JsonOptions.{option_object}
use Rattle.capture_json.specs.Members.{Member, whole_number}
use Rattle.capture_json.specs.Tokens.{object_ended, tokens_in, with_members}
use Rattle.capture_json.proofs.TokensLemmas.{pushed}
use Rattle.capture_json.proofs.tcp_options.push_option.Goals as goal

-- the kind and the fields in braces
pub returns : goal.returns
returns c =
    let (fields, are, filled) = c.in_ok-put_fields.ensures in
    let kind_is : c.from.result ≡ c.args.option.now.kind = search rules in
    let kind : Member = (codes "kind", whole_number c.args.option.now.kind) in (
      option_object c.args.option.now.kind fields,
      (fields, are, refl),
      c.in_ok-end_object.ensures
          ∙ ap object_ended (filled ∙ ap (with_members fields) (c.in_ok-put_number.ensures
          ∙ (simp (kind_is, c.in_ok-begin_item.ensures))))
          ∙ pushed (kind ∷ fields) (tokens_in c.args.line.now),
    )
