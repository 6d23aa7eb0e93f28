use Rattle.capture_copy.proofs.BeginLemmas.{says_unless_failed}
use Rattle.capture_copy.proofs.begin.header_in.Goals as goal

pub returns : goal.returns
returns c = says_unless_failed c.args.bytes.now _ _ c.read_capture_header.ensures
