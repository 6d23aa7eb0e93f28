use Rattle.std.proofs.Common.{arith, subst}
use Rattle.std.proofs.lemmas.Result.{IfOk-weaker, on_err_weaker}
use Rattle.capture_file.specs.Reading.{ReadsCaptured}
use Rattle.capture_file.proofs.ReaderLemmas.{full}
use Rattle.capture_file.proofs.ReadingLemmas.{cut_off_in_header, fails_after_header, next_after_header}
use Rattle.capture_file.proofs.classic.read.read_record.Goals as goal

pub returns-clause-reads : goal.returns-clause-reads
returns-clause-reads g c =
    let remaining = g.R.Read.remaining in
    let first = c.fill.new.buffer in
    let consumed = full _ _ first c.in_ok-len.len (omega arith) c.in_ok-len.ensures.consumed in
    IfOk-weaker c.read_captured.result _ _
    (λ next captured.
    next_after_header c.args.order _ (remaining c.fill.new.input) _ first _ next (omega arith) consumed
    (subst
    (λ header. ReadsCaptured header (remaining c.fill.new.input) (remaining c.read_captured.new.input) c.read_captured.new.buffer next)
    c.from_bytes.ensures captured))
    c.read_captured.ensures.reads

pub returns-clause-fails : goal.returns-clause-fails
returns-clause-fails g c =
    let remaining = g.R.Read.remaining in
    let first = c.fill.new.buffer in
    let consumed = full _ _ first c.in_ok-len.len (omega arith) c.in_ok-len.ensures.consumed in
    on_err_weaker c.read_captured.result
    (fails_after_header c.args.order _ (remaining c.fill.new.input) _ first c.from_bytes.result (omega arith) consumed c.from_bytes.ensures)
    c.read_captured.ensures.fails

pub returns-then-len-required_len-clause-reads : goal.returns-then-len-required_len-clause-reads
returns-then-len-required_len-clause-reads g c =
    cut_off_in_header c.args.order _ _ c.fill.new.buffer c.args.buffer.now c.in_ok-len.len c.in_ok-len.ensures.len (omega arith)
    (omega arith)
    c.in_ok-len.ensures.consumed (c.in_ok-len.ensures.end (omega arith))
