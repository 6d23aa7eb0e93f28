use Rattle.capture_file.proofs.InterfaceLaws.{keeps_own_texts}
use Rattle.capture_file.proofs.reader.laws.own_texts.Goals as goal

pub returns : goal.returns
returns c = keeps_own_texts
