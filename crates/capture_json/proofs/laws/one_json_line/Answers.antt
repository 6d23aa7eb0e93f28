use Rattle.capture_json.proofs.JsonLaws as lines
use Rattle.capture_json.proofs.laws.one_json_line.Goals as goal

pub returns : goal.returns
returns c = lines.one_json_line
