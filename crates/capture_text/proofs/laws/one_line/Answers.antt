use Rattle.capture_text.proofs.LineLaws as lines
use Rattle.capture_text.proofs.laws.one_line.Goals as goal

pub returns : goal.returns
returns c = lines.one_line
