use Rattle.std.proofs.Common.{◌∙◌}
use Rattle.std.specs.Prelude.{codes}
use Rattle.capture_words.proofs.WrittenLemmas.{written_1, written_then}
use Rattle.capture_json.specs.JsonSummary.{conversation_members, end_members, endpoint_members, tables_members}
use Rattle.capture_json.proofs.TokensLemmas.{line_by_two_rows}
use Rattle.capture_json.proofs.summary.write_summary.Goals as goal

-- the tables, the rows of conversations, the rows of endpoints, and the end
pub returns : goal.returns
returns g c =
    let tables = c.args.summary.now in
    written_1 _ _ _ _ _
    (written_then _ _ _ _ _ _ c.in_ok-write_tables.ensures
    (written_then _ _ _ _ _ _ c.in_ok-write_rows.ensures
    (written_then _ _ _ _ _ _ c.in_ok-write_endpoints.ensures c.write_end.ensures)))
    ((simp (c.flows-flows.ensures, c.without_ports.ensures, c.without_room.ensures, c.as_slice.ensures.value, c.as_slice-2.ensures.value))
    ∙ line_by_two_rows (codes "busiest_conversations") (codes "endpoints") conversation_members endpoint_members
    (tables_members c.args.captures.now.only.now tables)
    (end_members c.args.captures.now.files.now tables.flows.without_ports tables.flows.without_room)
    c.args.busiest.now.conversations.items c.args.busiest.now.endpoints.items)
