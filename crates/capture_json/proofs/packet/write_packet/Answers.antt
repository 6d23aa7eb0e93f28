use Rattle.std.proofs.Common.{[], ◌∷◌, ◌++◌, ◌∙◌, ap, refl, subst}
use Rattle.std.proofs.lemmas.Result.{on_ok_weaker}
use Rattle.std.specs.Io.KnownBytes.{Appends}
use Rattle.json.specs.Token.{begin_object}
use Rattle.capture_json.specs.JsonPacket.{json_line}
use Rattle.capture_json.specs.Tokens.{line_text, with_members}
use Rattle.capture_json.proofs.TokensLemmas.{line_is}
use Rattle.capture_json.proofs.packet.write_packet.Goals as goal

-- the text of the object, and a line feed
pub returns-in-Ok : goal.returns-in-Ok
returns-in-Ok g c =
    let (members, are, put) = c.in-Ok.ensures in
    let old = g.W.Write.contents c.args.output.now in
    let new = g.W.Write.contents c.write_line.new.output in
    let begun = c.in_ok-begin_item.ensures ∙ ap (λ tokens. tokens ++ begin_object ∷ []) c.in_ok-line.ensures in
    on_ok_weaker c.write_line.result
    (λ appends. (
      json_line members,
      (members, are, refl),
      subst (Appends old new) (ap line_text (put ∙ ap (with_members members) begun) ∙ line_is members) appends,
    ))
    c.write_line.ensures
