-- The comments of a packet, at the end of the line of the packet.
use Rattle.std.specs.Prelude.{ℕ, ◌==◌, Bool, if◌then◌else◌, List, [], ◌++◌, codes, decimal}
use Rattle.std.specs.List.{flat_map}
use Rattle.capture_words.specs.ShownText.{shown_kept}
use Rattle.capture_file.specs.declared.kept_text.KeptText.{KeptText}
use Rattle.capture_file.specs.declared.packet_comments.PacketComments.{PacketComments}

-- a comment in quotation marks, after a semicolon
abbrev pub comment_text : KeptText → List ℕ
comment_text comment = codes "; comment \"" ++ (shown_kept comment ++ codes "\"")

-- the number of comments that are not shown, after a semicolon; the text is empty if all comments are shown
abbrev pub more_comments_text : ℕ → List ℕ
more_comments_text count = if count == 0 then [] else codes "; more comments " ++ decimal count

-- the kept comments of a packet, and the number of its other comments
abbrev pub comments_text : PacketComments → List ℕ
comments_text comments = flat_map comment_text comments.texts.items ++ more_comments_text comments.more

-- the comments at the end of a verbose line; the text is empty if the line is not verbose
abbrev pub comments_part : Bool → PacketComments → List ℕ
comments_part verbose comments = if verbose then comments_text comments else []
