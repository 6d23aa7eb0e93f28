use Rattle.std.proofs.Common.{◌∙◌, ap}
use Rattle.capture_words.proofs.WrittenLemmas.{written_1}
use Rattle.capture_json.specs.JsonPacket.{file_members}
use Rattle.capture_json.specs.Tokens.{line_text}
use Rattle.capture_json.proofs.TokensLemmas.{line_is}
use Rattle.capture_json.proofs.file_name.write_file_name.Goals as goal

-- the text of the object, and a line feed
pub returns : goal.returns
returns g c =
    written_1 _ _ _ _ _ c.write_line.ensures
    (ap line_text (simp (c.in_ok-put_text-2.ensures, c.in_ok-put_text.ensures, c.in_ok-begin_item.ensures, c.in_ok-line.ensures))
    ∙ line_is (file_members c.args.name.now))
