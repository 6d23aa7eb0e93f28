use Rattle.std.proofs.Common.{◌∷◌, [], ◌++◌, ◌∙◌, ap, refl}
use Rattle.std.proofs.lemmas.Result.{on_ok_weaker}
use Rattle.std.specs.Prelude.{codes}
use Rattle.capture_json.proofs.TokensLemmas.{same_put, then_put}
use Rattle.capture_json.specs.JsonPacket.{type_member}
use Rattle.capture_json.specs.JsonFacts.{facts_members}
use Rattle.capture_json.specs.JsonSummary.{counts_data, head_members, rows_data, rows_members, totals_members}
use Rattle.capture_json.specs.JsonTimeline.{timeline_member}
use Rattle.capture_json.specs.Tokens.{put, tokens_in, with_members}
use Rattle.capture_summary.specs.Kinds.{protocol_rows, refusal_rows, verdict_rows}
use Rattle.capture_json.proofs.summary.put_tables.Goals as goal

-- the type, the facts of the capture, the totals, the four tables of rows, and the timeline were written
pub returns : goal.returns
returns c =
    let tables = c.args.summary.now in
    let facts = facts_members c.args.capture.now in
    let totals = tokens_in c.put_totals.new.line in
    let links = c.in_ok-put_table.ensures ∙ same_put {name = codes "link_types"} totals refl (ap rows_data c.links.ensures) in
    let protocols = c.in_ok-put_protocols.ensures
    ∙ same_put {name = codes "protocols"} (tokens_in c.put_table.new.line) refl (ap counts_data c.protocols.ensures) in
    let verdicts = c.in_ok-put_table-2.ensures
    ∙ same_put {name = codes "checksums"} (tokens_in c.put_protocols.new.line) refl (ap rows_data c.verdicts.ensures) in
    let begun = then_put (type_member (codes "summary") ∷ []) facts (tokens_in c.args.line.now) _ (tokens_in c.put_facts.new.line)
    c.in_ok-put_text.ensures c.in_ok-put_facts.ensures in
    let typed = then_put (type_member (codes "summary") ∷ facts) (totals_members tables) (tokens_in c.args.line.now) _ totals begun
    c.in_ok-put_totals.ensures in
    let refusals = c.in_ok-put_table-3.ensures
    ∙ same_put {name = codes "refusals"} (tokens_in c.put_table-2.new.line) refl (ap rows_data c.refusals.ensures) in
    let one = timeline_member tables.timeline in
    on_ok_weaker c.put_timeline.result
    (λ timeline. then_put (head_members c.args.capture.now tables) (rows_members tables ++ one ∷ []) (tokens_in c.args.line.now) totals _
    typed
    (timeline ∙ ap (λ counted. with_members (timeline_member counted ∷ []) (tokens_in c.put_table-3.new.line)) c.timeline.ensures
    ∙ ap (put one.0 one.1)
    (refusals ∙ ap (put (codes "refusals") (rows_data (refusal_rows tables.refusals)))
    (verdicts ∙ ap (put (codes "checksums") (rows_data (verdict_rows tables.verdicts)))
    (protocols ∙ ap (put (codes "protocols") (counts_data (protocol_rows tables.protocols))) links)))))
    c.put_timeline.ensures
