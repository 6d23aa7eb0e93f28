use Rattle.std.proofs.lemmas.Result.{IfOk-weaker}
use Rattle.capture_file.proofs.OpeningLemmas.{header_read}
use Rattle.capture_file.proofs.classic.read.read_capture_header.Goals as goal

pub returns : goal.returns
returns g c =
    IfOk-weaker c.read_header_after.result _ _
    (λ result reads. header_read _ (g.R.Read.remaining c.fill.new.input) _ _ result c.in_ok-len.ensures.consumed reads)
    c.read_header_after.ensures
