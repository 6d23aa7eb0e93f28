use Rattle.std.proofs.Common.{◌<◌, arith}
use Rattle.std.proofs.lemmas.Grind.{common_steps}
use Rattle.std.proofs.lemmas.Str.{lead_after_ascii}
use Rattle.std.specs.List.{slice_index}
use Rattle.capture_request.proofs.shown_name.without_mark.Goals as goal

-- the mark has one byte, so the name can be cut after it
pub range_from-requires : goal.range_from-requires
range_from-requires c =
    let name = c.args.name.now in
    let mark : slice_index name 0 < 128 = grind (arith, common_steps) in
    λ _. (omega (arith, c.in-0.len_at_least), λ more byte. lead_after_ascii name 0 c.utf8.name mark more byte)
