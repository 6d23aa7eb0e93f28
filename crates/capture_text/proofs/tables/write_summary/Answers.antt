use Rattle.std.proofs.Common.{◌≡◌, ◌∙◌, List, ap, ap₂, map}
use Rattle.std.specs.Prelude.{codes}
use Rattle.capture_summary.specs.declared.conversation_count.ConversationCount.{ConversationCount}
use Rattle.capture_summary.specs.declared.count.Count.{Count}
use Rattle.capture_summary.specs.declared.endpoint_count.EndpointCount.{EndpointCount}
use Rattle.capture_text.specs.SummaryText.{conversations_table, counts_table, endpoints_table, packets_table}
use Rattle.capture_words.proofs.WrittenLemmas.{appended, written_1, written_then}
use Rattle.capture_text.proofs.tables.write_summary.Goals as goal

pub returns : goal.returns
returns g c =
    let none : c.uncounted.result ≡ (c.args.summary.now.flows.without_ports, c.args.summary.now.flows.without_room) =
    c.uncounted.ensures ∙ ap (λ flows. (flows.without_ports, flows.without_room)) c.flows.ensures in
    written_then _ _ _ _ _ _ c.in_ok-write_totals.ensures
    (written_then _ _ _ _ _ _ (appended _ _ _ _ c.in_ok-write_table.ensures
    (ap₂ (λ packets rows. packets_table packets (codes "link type") rows) c.packets-packets.ensures.packets c.links.ensures))
    (written_then _ _ _ _ _ _ (appended _ _ _ _ c.in_ok-write_protocols.ensures
    (ap₂ (λ packets rows. counts_table packets (codes "protocol") rows) c.packets-packets.ensures.packets
    (ap (map (λ row. (row.0.now, row.1))) c.deref.ensures.0 ∙ c.protocols_by_packets.ensures.rows)))
    (written_then _ _ _ _ _ _ (appended _ _ _ _ c.in_ok-write_table-2.ensures
    (ap₂ (λ packets rows. packets_table packets (codes "checksum") rows) c.packets-packets.ensures.packets c.verdicts.ensures))
    (written_then _ _ _ _ _ _ (appended _ _ _ _ c.in_ok-write_table-3.ensures
    (ap₂ (λ packets rows. packets_table packets (codes "refused") rows) c.verdict-refused.ensures c.refusals.ensures))
    (written_then _ _ _ _ _ _ (appended _ _ _ _ c.in_ok-write_conversations.ensures
    (ap₂ (λ (rows : List ConversationCount) (counts : Count × Count). conversations_table rows counts.0 counts.1)
    c.as_slice-conversations.ensures.value none))
    (written_1 _ _ _ _ _ c.write_endpoints.ensures
    (ap₂ (λ (rows : List EndpointCount) (counts : Count × Count). endpoints_table rows counts.0 counts.1)
    c.as_slice-endpoints.ensures.value none)))))))
