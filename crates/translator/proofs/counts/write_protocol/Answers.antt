use Rattle.std.proofs.Common.{OnOk, subst}
use Rattle.std.specs.Io.KnownBytes.{Appends}
use Rattle.translator.specs.Outcomes.{numbered_line}
use Rattle.translator.proofs.counts.write_protocol.Goals as goal

-- the words are those of the protocol
pub returns : goal.returns
returns g c =
    subst (λ words. OnOk c.write_numbered.result (Appends (g.W.Write.contents c.args.output.now)
    (g.W.Write.contents c.write_numbered.new.output)
    (numbered_line words c.args.protocol.0 c.args.count)))
    c.text-words.ensures c.write_numbered.ensures
