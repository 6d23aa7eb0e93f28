use Rattle.std.proofs.Common.{◌≡◌, take}
use Rattle.capture_text.specs.SummaryText as specs
use Rattle.capture_text.proofs.endpoints.endpoint_width.Given as goal

-- the width is the width for the endpoints so far
abbrev pub invariant-loop-endpoint : goal.invariant-loop-endpoint
invariant-loop-endpoint l = l.width ≡ specs.endpoint_width (take l.endpoint-index l.endpoints)
