use Rattle.std.proofs.Common.{◌≡◌, ◌∙◌, [], ap₂, append_assoc, arith, if◌then◌else◌, rules, take}
use Rattle.std.proofs.lemmas.Grind.{common_steps}
use Rattle.std.proofs.KnownBytes.{Appends-trans}
use Rattle.capture_text.specs.SummaryText.{conversation_rows}
use Rattle.capture_words.proofs.WrittenLemmas.{each_more, written_3}
use Rattle.capture_text.proofs.tables.write_conversations.Goals as goal

-- the invariant holds after another row
pub loop-conversation-preserved : goal.loop-conversation-preserved
loop-conversation-preserved g c =
    each_more c.args.busiest.now _ _ _ _ _ _ c.loop-conversation.invariant c.in_ok-write_conversation.ensures (search rules)

pub returns : goal.returns
returns g c =
    let all : take c.loop-conversation.conversation-index c.args.busiest.now ≡ c.args.busiest.now = grind (arith, common_steps) in
    written_3 _ _ _ _ _ _ _ _ _ (Appends-trans _ _ _ _ _ c.in_ok-write_conversations_head.ensures c.loop-conversation.invariant)
    c.in_ok-write_counted.ensures c.write_counted-2.ensures
    ((simp (append_assoc, all))
    ∙ ap₂ (λ none width. if none then [] else conversation_rows c.args.busiest.now c.args.without_ports c.args.without_room width)
    c.if-is_without_rows.ensures c.in_ok-width.ensures)
