use Rattle.std.proofs.Common.{◌≡◌, ◌∙◌, ℕ, Bool, List, [], ap, false, if◌then◌else◌, refl, rules, subst, sym, true}
use Rattle.std.proofs.lemmas.Result.{on_ok_weaker}
use Rattle.std.specs.Io.KnownBytes.{Appends}
use Rattle.capture_summary.specs.Endpoints.{busiest_endpoints}
use Rattle.capture_summary.specs.Ranking.{busiest_of}
use Rattle.capture_run.proofs.capture_reports.CaptureReports.write_end.Goals as goal

-- the text that is written if the beginning of a capture was accepted and a summary is requested
asked_text : (is_empty asked : Bool) (text : List ℕ) → is_empty ≡ false → asked ≡ true
    → (if is_empty then [] else (if asked then text else [])) ≡ text
asked_text is_empty asked text some is = rw (some, is) refl

-- the summary lists the busiest conversations and endpoints
pub returns : goal.returns
returns g c =
    let some : c.args.self.now.is_empty ≡ false = search rules in
    let asked : c.args.self.now.parts.summary ≡ true = search rules in
    on_ok_weaker c.write_summary.result
    (λ written. subst (Appends (g.W.Write.contents c.args.output.now) (g.W.Write.contents c.write_summary.new.output))
    (sym (asked_text c.args.self.now.is_empty c.args.self.now.parts.summary _ some asked)) written)
    (c.write_summary.ensures
    (c.in_ok-busiest.ensures.conversations ∙ ap (λ flows. busiest_of c.args.self.now.parts.top flows.rows) c.flows.ensures)
    (c.in_ok-busiest.ensures.endpoints ∙ ap (λ flows. busiest_endpoints c.args.self.now.parts.top flows.rows) c.flows.ensures))
