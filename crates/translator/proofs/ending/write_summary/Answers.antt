use Rattle.std.proofs.Common.{◌≡◌}
use Rattle.translator.specs.Outputs.{summary_text}
use Rattle.translator.proofs.OutputLemmas.{writes_text}
use Rattle.translator.proofs.ending.write_summary.Goals as goal

-- the counts and the warning, or a beginning of them, were written
pub returns : goal.returns
returns g c =
    writes_text _ _ c.write_whole.result (λ text. text ≡ summary_text c.args.table.now c.args.counts.now) c.in_ok-text.text.items
    c.in_ok-text.ensures (rw c.as_slice.ensures.value at c.write_whole.ensures.written)
    (rw c.as_slice.ensures.value at c.write_whole.ensures.begun)
