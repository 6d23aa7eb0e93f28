use Rattle.std.proofs.Common.{◌++◌, ◌∙◌, ap, rules, subst, sym, take_all}
use Rattle.std.proofs.KnownBytes.{Appends-trans}
use Rattle.std.specs.Io.KnownBytes.{Appends}
use Rattle.std.specs.List.{flat_map}
use Rattle.serde_json.specs.Written.{compact_text}
use Rattle.capture_words.proofs.WrittenLemmas.{each_more}
use Rattle.capture_json.specs.JsonSummary.{endpoint_data}
use Rattle.capture_json.specs.Tokens.{later_row, rows_text}
use Rattle.capture_json.proofs.endpoints.write_rows.Goals as goal

-- the invariant holds after another row
pub loop-endpoint-preserved : goal.loop-endpoint-preserved
loop-endpoint-preserved g c =
    each_more c.in-Some.others.now (later_row endpoint_data) _ _ _ _ _ c.loop-endpoint.invariant c.in_ok-write_later_row.ensures
    (search rules)

-- the first row and the others
pub returns : goal.returns
returns g c =
    let others = c.in-Some.others.now in
    let first = compact_text (endpoint_data c.in-Some.first.now) in
    subst (Appends (g.W.Write.contents c.args.output.now) (g.W.Write.contents c.loop-endpoint.output))
    (ap (λ rows. first ++ flat_map (later_row endpoint_data) rows)
    (take_all c.loop-endpoint.endpoint-index others c.loop-endpoint-test.false)
    ∙ ap (rows_text endpoint_data) (sym c.in-Some.ensures.cases.0))
    (Appends-trans _ _ _ first _ c.in_ok-write_row.ensures c.loop-endpoint.invariant)
