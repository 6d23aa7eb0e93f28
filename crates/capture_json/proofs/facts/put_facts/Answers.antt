use Rattle.std.proofs.Common.{◌≡◌, ◌∙◌, ◌∷◌, ◌++◌, [], Some, ap, ap₂, rules, sym}
use Rattle.std.proofs.lemmas.Result.{on_ok_weaker}
use Rattle.std.specs.Prelude.{codes}
use Rattle.capture_file.specs.declared.reader.capture_reader.CaptureReader.TheVariants.{Pcapng}
use Rattle.capture_json.specs.JsonFacts.{facts_members, form_members, interfaces_data}
use Rattle.capture_json.specs.JsonTexts.{texts_members}
use Rattle.capture_json.specs.Members.{array_of}
use Rattle.capture_json.specs.Tokens.{put, tokens_in, with_members}
use Rattle.capture_json.proofs.TokensLemmas.{then_put}
use Rattle.capture_json.proofs.facts.put_facts.Goals as goal

-- the form of the file, its texts, and its interfaces
pub returns-in_ok-put_texts-in-Some-Pcapng : goal.returns-in_ok-put_texts-in-Some-Pcapng
returns-in_ok-put_texts-in-Some-Pcapng c =
    let reader = c.in-Some-Pcapng.reader in
    let is : c.args.capture.now ≡ Some (Pcapng reader) = search rules in
    let form = form_members (codes "pcapng") reader.section.byte_order in
    let texts = texts_members reader.texts in
    let interfaces = (codes "interfaces", array_of (interfaces_data reader.texts.interfaces.items 0 reader.section.interfaces.items))
    ∷ [] in
    let start = tokens_in c.args.line.now in
    let formed = tokens_in c.put_form-in-Some-Pcapng.new.line in
    let told = tokens_in c.put_texts.new.line in
    let end = tokens_in c.put_interfaces.new.line in
    on_ok_weaker c.put_interfaces.result
    (λ last. then_put form (texts ++ interfaces) start formed end c.in_ok-put_form-in-Some-Pcapng.ensures
    (then_put texts interfaces formed told end c.in_ok-put_texts-in-Some-Pcapng.ensures
    (last ∙ ap₂ (λ all kept. put (codes "interfaces") (array_of (interfaces_data kept 0 all)) told) c.as_slice.ensures.value
    c.as_slice-texts.ensures.value))
    ∙ ap (λ capture. with_members (facts_members capture) start) (sym is))
    c.put_interfaces.ensures
