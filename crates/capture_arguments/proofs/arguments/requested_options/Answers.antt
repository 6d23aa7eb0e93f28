use Rattle.std.proofs.Common.{inr, map, refl, string_bytes, sym}
use Rattle.capture_arguments.proofs.CommandLemmas.{rejected_by_fault}
use Rattle.capture_arguments.proofs.arguments.requested_options.Goals as goal

-- the packets can't be written to the requested file
pub returns-in-Some-clause-rejected : goal.returns-in-Some-clause-rejected
returns-in-Some-clause-rejected g c =
    rejected_by_fault (g.M.Memory.ran_out c.args.memory.now) (g.M.Memory.refuses c.args.memory.now) (g.M.Memory.explains c.args.memory.now)
    (map (λ word. string_bytes word) c.args.words.now) _ _ c.invalid_output.result c.invalid_output.ensures
    (inr (inr (inr (inr (refl, (c.in_ok-options.options, c.in_ok-options.ensures.options, sym c.in-Some.ensures))))))
