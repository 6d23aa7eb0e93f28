use Rattle.std.specs.Prelude.{List, ℕ, ◌++◌, codes}
use Rattle.std.specs.Net.Text.{socket_text}
use Rattle.std.proofs.Common.{◌≡◌, ◌∙◌, append_assoc, ap, sym}
use Rattle.std.proofs.lemmas.Fmt.{contents_after_writes}
use Rattle.capture_text.proofs.NameLemmas.{length-name}
use Rattle.capture_text.proofs.tables.conversation_name.Goals as goal

-- the name consists of these parts
joined : (written protocol source destination : List ℕ) → written ≡ protocol
    → written ++ (codes " " ++ (source ++ (codes " <> " ++ destination))) ≡ (((protocol ++ codes " ") ++ source) ++ codes " <> ")
    ++ destination
joined written protocol source destination same =
    ap (λ text. text ++ (codes " " ++ (source ++ (codes " <> " ++ destination)))) same
    ∙ sym (append_assoc protocol (codes " ") (source ++ (codes " <> " ++ destination)))
    ∙ sym (append_assoc (protocol ++ codes " ") source (codes " <> " ++ destination))
    ∙ sym (append_assoc ((protocol ++ codes " ") ++ source) (codes " <> ") destination)

pub returns-in-Ok-clause-name : goal.returns-in-Ok-clause-name
returns-in-Ok-clause-name c =
    let source = socket_text c.args.flow.now.source in
    let destination = socket_text c.args.flow.now.destination in
    let text : List ℕ = c.name-protocol.result.now ++ (codes " " ++ (source ++ (codes " <> " ++ destination))) in
    contents_after_writes (λ name bytes longer. longer.bytes ≡ name.bytes ++ bytes) (λ name. name.bytes) (λ name bytes longer is. is)
    c.new-name.result text c.write.new.self c.in-Ok.ensures.writes
    ∙ ap (λ front. front ++ text) c.new-name.ensures
    ∙ joined _ _ source destination c.name-protocol.ensures

-- the name always fits
pub returns-in-Ok-clause-fits : goal.returns-in-Ok-clause-fits
returns-in-Ok-clause-fits c = length-name c.args.flow.now

pub returns-in-Err-clause-fits : goal.returns-in-Err-clause-fits
returns-in-Err-clause-fits c = length-name c.args.flow.now
