use Rattle.tcp_part.proofs.TcpOptionsEncodingLemmas.{read_alike}
use Rattle.tcp_part.proofs.laws.options_read_alike.Goals as goal

pub returns : goal.returns
returns c = λ options others elements other_elements reads again. read_alike elements other_elements options others reads again
