use Rattle.std.proofs.Common.{◌∙◌, rules}
use Rattle.report_page.proofs.CountingLemmas.{one_faultless}
use Rattle.report_page.proofs.bins.counts_of_one.Goals as goal

pub returns-in-None : goal.returns-in-None
returns-in-None c = c.of_transport-counts.ensures ∙ one_faultless c.args.event.now (search rules) c.in-None.is
