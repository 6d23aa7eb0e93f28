use Rattle.std.proofs.Common.{◌∷◌, ◌∙◌, length, sym}
use Rattle.std.proofs.lemmas.Result.{on_ok_weaker}
use Rattle.std.specs.Prelude.{codes}
use Rattle.capture_json.proofs.TokensLemmas.{with_append}
use Rattle.capture_json.specs.JsonSummary.{average_members, span_members}
use Rattle.capture_json.specs.Members.{whole_number}
use Rattle.capture_summary.specs.Rates.{average_len}
use Rattle.capture_json.proofs.totals.put_totals.Goals as goal

-- packets, bytes and their average, conversations, and the times
pub returns : goal.returns
returns c =
    let tables = c.args.summary.now in
    let average = average_members (average_len tables.packets tables.bytes) in
    let later = (codes "conversations", whole_number (length tables.flows.rows))
    ∷ span_members (record { packets = tables.packets; bytes = tables.bytes }) tables.span in
    on_ok_weaker c.put_times.result
    (λ last. last
    ∙ (simp (
      c.span.ensures,
      c.in_ok-put_number-3.ensures,
      c.counts.ensures.rows,
      c.flows.ensures,
      c.in_ok-put_average.ensures,
      c.average_len.ensures,
      c.in_ok-put_number-2.ensures,
      c.bytes.ensures,
      c.in_ok-put_number.ensures,
      c.packets.ensures.packets,
    ))
    ∙ sym (with_append average later _))
    c.put_times.ensures
