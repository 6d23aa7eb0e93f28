use Rattle.std.proofs.Common.{◌≡◌, ◌∙◌, [], ap₂, append_assoc, arith, if◌then◌else◌, rules, take}
use Rattle.std.proofs.lemmas.Grind.{common_steps}
use Rattle.std.proofs.KnownBytes.{Appends-trans}
use Rattle.capture_text.specs.SummaryText.{endpoint_rows}
use Rattle.capture_words.proofs.WrittenLemmas.{each_more, written_3}
use Rattle.capture_text.proofs.endpoints.write_endpoints.Goals as goal

-- the invariant holds after another row
pub loop-endpoint-preserved : goal.loop-endpoint-preserved
loop-endpoint-preserved g c =
    each_more c.args.endpoints.now _ _ _ _ _ _ c.loop-endpoint.invariant c.in_ok-write_endpoint.ensures (search rules)

pub returns : goal.returns
returns g c =
    let all : take c.loop-endpoint.endpoint-index c.args.endpoints.now ≡ c.args.endpoints.now = grind (arith, common_steps) in
    written_3 _ _ _ _ _ _ _ _ _ (Appends-trans _ _ _ _ _ c.in_ok-write_endpoints_head.ensures c.loop-endpoint.invariant)
    c.in_ok-write_counted.ensures c.write_counted-2.ensures
    ((simp (append_assoc, all))
    ∙ ap₂ (λ none width. if none then [] else endpoint_rows c.args.endpoints.now c.args.without_ports c.args.without_room width)
    c.if-is_empty.ensures c.in_ok-width.ensures)
