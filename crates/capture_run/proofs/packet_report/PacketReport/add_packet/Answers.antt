use Rattle.std.proofs.Common.{[], inr, refl, sym, ◌∙◌}
use Rattle.capture_run.proofs.ReportLemmas.{appends_nothing}
use Rattle.capture_run.proofs.packet_report.PacketReport.add_packet.Goals as goal

-- the packet is not chosen
pub returns-then-not-includes-clause-counted : goal.returns-then-not-includes-clause-counted
returns-then-not-includes-clause-counted g c = inr ((λ chosen. cc (sym c.if-not-includes.true ∙ c.includes.ensures.1 chosen)), refl)

pub returns-then-not-includes-clause-text : goal.returns-then-not-includes-clause-text
returns-then-not-includes-clause-text g c = (
  [],
  inr ((λ chosen. cc (sym c.if-not-includes.true ∙ c.includes.ensures.1 chosen)), refl),
  appends_nothing (g.W.Write.contents c.args.output.now),
)
