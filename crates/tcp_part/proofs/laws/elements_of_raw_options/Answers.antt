use Rattle.tcp_part.proofs.TcpRawOptionsLemmas.{reads_the_same_items}
use Rattle.tcp_part.proofs.laws.elements_of_raw_options.Goals as goal

pub returns : goal.returns
returns c = λ bytes fits options items raw reads. reads_the_same_items options items bytes fits raw reads
