use Rattle.std.proofs.Common.{◌∙◌, ◌++◌, ap, rules, slice_get}
use Rattle.capture_json.specs.JsonFacts.{limits_members}
use Rattle.capture_json.specs.JsonTexts.{interface_members}
use Rattle.capture_json.specs.Tokens.{object_ended, tokens_in, with_members}
use Rattle.capture_json.proofs.TokensLemmas.{pushed, then_put}
use Rattle.capture_json.proofs.facts.push_interface.Goals as goal

-- the members in their object
pub returns : goal.returns
returns c =
    let interface = c.args.interface.now in
    let limits = limits_members interface.snap_len interface.time_resolution in
    let texts = interface_members (slice_get c.args.texts.now c.args.number) in
    c.in_ok-end_object.ensures
    ∙ ap object_ended (then_put limits texts _ _ _ c.in_ok-put_limits.ensures (search rules)
    ∙ ap (with_members (limits ++ texts)) c.in_ok-begin_item.ensures)
    ∙ pushed (limits ++ texts) (tokens_in c.args.line.now)
