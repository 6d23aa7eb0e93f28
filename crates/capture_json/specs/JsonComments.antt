-- The comments of a packet, as members of the object of the packet.
use Rattle.std.specs.Prelude.{ℕ, ◌==◌, if◌then◌else◌, List, [], ◌∷◌, codes, length, map}
use Rattle.capture_words.specs.ShownText.{shown_kept}
use Rattle.capture_json.specs.Members.{Member, array_of, whole_number}
use Rattle.capture_file.specs.declared.kept_text.KeptText.{KeptText}
use Rattle.capture_file.specs.declared.packet_comments.PacketComments.{PacketComments}
use Rattle.serde_json.specs.Data.{Data, string}

-- a comment as an item of an array
abbrev pub comment_data : KeptText → Data
comment_data comment = string (shown_kept comment)

-- the number of comments that are not written, unless it is 0
abbrev pub more_comments_members : ℕ → List Member
more_comments_members count = if count == 0 then [] else (codes "more_comments", whole_number count) ∷ []

-- the kept comments of a packet as an array of texts, and the number of its other comments; no members if there is no comment
abbrev pub comments_members : PacketComments → List Member
comments_members comments =
    if length comments.texts.items == 0 then []
    else (codes "comments", array_of (map comment_data comments.texts.items)) ∷ more_comments_members comments.more
