use Rattle.std.proofs.Common.{◌++◌, ◌∙◌, ap, rules, subst, sym, take_all}
use Rattle.std.proofs.KnownBytes.{Appends-trans}
use Rattle.std.specs.Io.KnownBytes.{Appends}
use Rattle.std.specs.List.{flat_map}
use Rattle.serde_json.specs.Written.{compact_text}
use Rattle.capture_words.proofs.WrittenLemmas.{each_more}
use Rattle.capture_json.specs.JsonSummary.{conversation_data}
use Rattle.capture_json.specs.Tokens.{later_row, rows_text}
use Rattle.capture_json.proofs.flows.write_rows.Goals as goal

-- the invariant holds after another row
pub loop-conversation-preserved : goal.loop-conversation-preserved
loop-conversation-preserved g c =
    each_more c.in-Some.others.now (later_row conversation_data) _ _ _ _ _ c.loop-conversation.invariant c.in_ok-write_later_row.ensures
    (search rules)

-- the first row and the others
pub returns : goal.returns
returns g c =
    let others = c.in-Some.others.now in
    let first = compact_text (conversation_data c.in-Some.first.now) in
    subst (Appends (g.W.Write.contents c.args.output.now) (g.W.Write.contents c.loop-conversation.output))
    (ap (λ rows. first ++ flat_map (later_row conversation_data) rows)
    (take_all c.loop-conversation.conversation-index others c.loop-conversation-test.false)
    ∙ ap (rows_text conversation_data) (sym c.in-Some.ensures.cases.0))
    (Appends-trans _ _ _ first _ c.in_ok-write_row.ensures c.loop-conversation.invariant)
