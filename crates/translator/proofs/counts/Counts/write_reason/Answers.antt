use Rattle.std.proofs.Common.{OnOk, slice_index, subst}
use Rattle.std.specs.Io.KnownBytes.{Appends}
use Rattle.translator.specs.Outcomes.{place, reason_line}
use Rattle.translator.proofs.counts.Counts.write_reason.Goals as goal

pub returns : goal.returns
returns g c =
    let counts = c.args.self.now.by_reason in
    let before = g.W.Write.contents c.args.output.now in
    let after = g.W.Write.contents c.write_line.new.output in
    subst (λ words. OnOk c.write_line.result (Appends before after (reason_line words (slice_index counts (place c.args.reason)))))
    c.text.ensures
    (subst (λ at. OnOk c.write_line.result (Appends before after (reason_line c.text.result.now (slice_index counts at))))
    c.place.ensures.place c.write_line.ensures)
