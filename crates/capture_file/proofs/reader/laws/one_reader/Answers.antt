use Rattle.capture_file.proofs.ReaderLaws.{leaves_one_reader}
use Rattle.capture_file.proofs.reader.laws.one_reader.Goals as goal

pub returns : goal.returns
returns c = leaves_one_reader
