use Rattle.std.proofs.Common.{◌≡◌, ◌∙◌, ap, rules, subst}
use Rattle.capture_summary.specs.Kinds.{verdict_place}
use Rattle.capture_summary.specs.Protocols.{protocol_place}
use Rattle.report_page.proofs.RowLemmas.{made_same}
use Rattle.report_page.specs.Rows.{AddsFlow, counted_row, in_tunnel, with_ends}
use Rattle.report_page.proofs.row.row_of.Goals as goal

pub returns : goal.returns
returns c =
    let content = c.args.packet.now.content in
    let row : c.with_ends.result ≡ with_ends (counted_row c.args.end c.args.info.now c.args.packet.now c.page_event.result) content =
    c.with_ends.ensures
    ∙ ap (λ each. with_ends each content) (made_same c.args.end c.page_event.result _ _ _ _ _ _ _ _ c.page_time.ensures
    (c.place.ensures.place ∙ ap verdict_place c.of-verdict.ensures.kind) (c.place-2.ensures.place ∙ ap protocol_place c.of-protocol.ensures)
    (c.in_tunnel.ensures ∙ ap in_tunnel c.as_slice.ensures.value)) in
    record {
      event = c.page_event.result;
      is_event = search rules;
      is_row = subst (λ each. AddsFlow each content c.with_flow.result) row c.with_flow.ensures;
    }
