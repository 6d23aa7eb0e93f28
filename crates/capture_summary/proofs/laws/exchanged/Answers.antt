use Rattle.capture_summary.proofs.ConversationLemmas.{exchanged_back, exchanged_row}
use Rattle.capture_summary.proofs.laws.exchanged.Goals as goal

pub returns-clause-row : goal.returns-clause-row
returns-clause-row c = exchanged_row

pub returns-clause-direction : goal.returns-clause-direction
returns-clause-direction c packet flow = exchanged_back flow packet
