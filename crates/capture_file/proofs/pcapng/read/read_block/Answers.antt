use Rattle.std.proofs.lemmas.Result.{IfOk-weaker, on_err_weaker}
use Rattle.capture_file.proofs.PcapngReadingLemmas.{fails_at_first, fails_with_first, with_first}
use Rattle.capture_file.proofs.ReaderLemmas.{at_error}
use Rattle.capture_file.proofs.pcapng.read.read_block.Goals as goal

pub returns-clause-reads : goal.returns-clause-reads
returns-clause-reads g c =
    IfOk-weaker c.read_rest.result _ _
    (λ next reads. with_first c.args.section _
    (g.R.Read.remaining c.fill.new.input) _ _ c.read_rest.new.buffer next c.in_ok-len.ensures.consumed reads)
    c.read_rest.ensures.reads

pub returns-clause-fails : goal.returns-clause-fails
returns-clause-fails g c =
    on_err_weaker c.read_rest.result
    (fails_with_first c.args.section _ (g.R.Read.remaining c.fill.new.input) _ _ c.in_ok-len.ensures.consumed) c.read_rest.ensures.fails

pub returns-in_err-len-clause-fails : goal.returns-in_err-len-clause-fails
returns-in_err-len-clause-fails g c = at_error c.from_residual.result (fails_at_first c.args.section _ _ c.in_err-len.ensures.fails)
