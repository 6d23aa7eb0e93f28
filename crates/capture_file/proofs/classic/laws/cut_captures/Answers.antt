use Rattle.capture_file.proofs.ReadingLaws.{records_before_cut}
use Rattle.capture_file.proofs.classic.laws.cut_captures.Goals as goal

pub returns : goal.returns
returns c = record { before = records_before_cut }
