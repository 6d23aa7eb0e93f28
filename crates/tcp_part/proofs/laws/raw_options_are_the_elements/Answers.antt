use Rattle.tcp_part.proofs.TcpRawOptionsLemmas.{reads_as_elements}
use Rattle.tcp_part.proofs.laws.raw_options_are_the_elements.Goals as goal

pub returns : goal.returns
returns c = λ options elements others reads. reads_as_elements elements others options reads
