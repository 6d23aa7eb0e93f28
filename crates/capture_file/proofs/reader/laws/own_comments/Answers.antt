use Rattle.capture_file.proofs.CommentsLaws.{keeps_own_comments}
use Rattle.capture_file.proofs.reader.laws.own_comments.Goals as goal

pub returns : goal.returns
returns c = keeps_own_comments
