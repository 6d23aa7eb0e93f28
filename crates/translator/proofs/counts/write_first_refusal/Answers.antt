use Rattle.std.proofs.Common.{◌≡◌, OnOk, Some, rules, subst, sym}
use Rattle.std.specs.Io.KnownBytes.{Appends}
use Rattle.translator.specs.Outcomes.{first_refusal_text, refusal_text}
use Rattle.translator.proofs.counts.write_first_refusal.Goals as goal

-- the text is that of the error
pub returns-in-Some : goal.returns-in-Some
returns-in-Some g c =
    let before = g.W.Write.contents c.args.output.now in
    let after = g.W.Write.contents c.write_refusal.new.output in
    let is : c.args.first ≡ Some c.in-Some.error = search rules in
    subst (λ first. OnOk c.write_refusal.result (Appends before after (first_refusal_text c.args.count first))) (sym is)
    (subst (λ text. OnOk c.write_refusal.result (Appends before after (refusal_text c.args.count text))) c.text.ensures
    c.write_refusal.ensures)
